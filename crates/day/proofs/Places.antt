-- The item of a number after one more came, and after one was changed.
use Rattle.std.proofs.Common.{◌≡◌, ℕ, suc, ◌-◌, ◌<◌, ◌≤◌, cond, eqb, List, [], ◌∷◌, ◌++◌, map, length, get_or, set, arith}
use Rattle.std.proofs.lemmas.Bool.{cond-false, ne_eqb}
use Rattle.std.proofs.lemmas.Bool.Decides.{nat_tests}
use Rattle.std.proofs.lemmas.Grind.{common_steps}
use Rattle.day.specs.State.{numbered}

module _ {A : Type 0} (nothing : A) (list : List A) where
  at : (k : ℕ) → (k ≡ 0 → ⊥) → numbered nothing list k ≡ get_or list (k - 1) nothing
  at k other = cond-false (eqb k 0) nothing _ (ne_eqb k 0 other)

module _ {A : Type 0} (nothing : A) (list : List A) (item : A) where
  abbrev more : List A
  more = list ++ (item ∷ [])

  pub numbered-push : (k : ℕ) → numbered nothing more k ≡ cond (eqb k (suc (length list))) item (numbered nothing list k)
  numbered-push k = grind (arith, nat_tests, common_steps)

  pub numbered-set : (k j : ℕ) → 1 ≤ k → k ≤ length list
      → numbered nothing (set list (k - 1) item) j ≡ cond (eqb j k) item (numbered nothing list j)
  numbered-set k j least most = grind (arith, nat_tests, common_steps)

module _ {A : Type 0} (nothing : A) where
  pub numbered-past : (list : List A) (k : ℕ) → length list < k → numbered nothing list k ≡ nothing
  numbered-past list k more = grind (arith, nat_tests, common_steps)

  pub numbered-none : (k : ℕ) → numbered nothing [] k ≡ nothing
  numbered-none k = grind (arith, nat_tests, common_steps)

  pub numbered-map : (g : A → A) → g nothing ≡ nothing → (list : List A) (k : ℕ) → numbered nothing (map g list) k ≡ g (numbered nothing list k)
  numbered-map g same list k = grind (arith, nat_tests, common_steps)
