-- A list with one more in front, cut one further on.
use Rattle.std.proofs.Common.{◌≡◌, ℕ, suc, ◌+◌, List, ◌∷◌, take, drop, one-add, arith}

module _ {X : Type 0} (x : X) (xs : List X) (n : ℕ) where
  pub take_one_more : take (1 + n) (x ∷ xs) ≡ x ∷ take n xs
  take_one_more = rw (one-add n)

  pub drop_one_more : drop (1 + n + 1) (x ∷ xs) ≡ drop (n + 1) xs
  drop_one_more = let e : 1 + n + 1 ≡ suc (n + 1) = omega arith in rw e
