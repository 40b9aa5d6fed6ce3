-- What is held of an input that comes in pieces.
use Rattle.std.proofs.Common.{◌≡◌, ℕ, zero, suc, ◌+◌, ◌-◌, ◌≤◌, Bool, true, false, eqb, List, [], ◌∷◌, ◌++◌, length, take, drop, sym, refl, ap, ◌∙◌, arith}
use Rattle.std.proofs.lemmas.List.{take_all, drop-drop, length-drop}
use Rattle.line.specs.Lines.{ended, unended}
use Rattle.session.proofs.Lines.{lines_short, both_parts}

pub ended_short : (bytes : List ℕ) → length (ended bytes) ≤ length bytes
ended_short bytes = let short = lines_short bytes in let parts = both_parts bytes in omega arith

-- what is not ended is the end of the bytes
shorter : (bytes : List ℕ) → length (unended bytes) ≤ length bytes
shorter [] = omega arith
shorter (b ∷ bytes) = by_byte (eqb b 10) refl (ended bytes) refl (shorter bytes)
  where
    by_byte : (t : Bool) → eqb b 10 ≡ t → (es : List (List ℕ)) → ended bytes ≡ es → length (unended bytes) ≤ length bytes → length (unended (b ∷ bytes)) ≤ length (b ∷ bytes)
    by_byte true e es is ih = rw e (omega (arith, ih))
    by_byte false e [] is ih = rw (e, is) (omega arith)
    by_byte false e (l ∷ es) is ih = rw (e, is) (omega (arith, ih))

suffix : (bytes : List ℕ) → drop (length bytes - length (unended bytes)) bytes ≡ unended bytes
suffix [] = refl
suffix (b ∷ bytes) = by_byte (eqb b 10) refl (ended bytes) refl (suffix bytes)
  where
    one_more : drop (length bytes - length (unended bytes)) bytes ≡ unended bytes → drop (length (b ∷ bytes) - length (unended bytes)) (b ∷ bytes) ≡ unended bytes
    one_more ih =
        let short = shorter bytes in
        let e : length (b ∷ bytes) - length (unended bytes) ≡ suc (length bytes - length (unended bytes)) = omega arith in
        ap (λ (n : ℕ). drop n (b ∷ bytes)) e ∙ ih

    whole : drop (length (b ∷ bytes) - length (b ∷ bytes)) (b ∷ bytes) ≡ b ∷ bytes
    whole = let e : length (b ∷ bytes) - length (b ∷ bytes) ≡ 0 = omega arith in ap (λ (n : ℕ). drop n (b ∷ bytes)) e

    by_byte : (t : Bool) → eqb b 10 ≡ t → (es : List (List ℕ)) → ended bytes ≡ es → drop (length bytes - length (unended bytes)) bytes ≡ unended bytes
        → drop (length (b ∷ bytes) - length (unended (b ∷ bytes))) (b ∷ bytes) ≡ unended (b ∷ bytes)
    by_byte true e es is ih = rw e (one_more ih)
    by_byte false e [] is ih = rw (e, is) whole
    by_byte false e (l ∷ es) is ih = rw (e, is) (one_more ih)

-- the same within an input, of which some was answered before
module _ (input : List ℕ) (at : ℕ) (inside : at ≤ length input) where
  pub left_over : drop (length input - length (unended (drop at input))) input ≡ unended (drop at input)
  left_over =
      let held = drop at input in
      let short = shorter held in
      let long = length-drop at input in
      let e : length input - length (unended held) ≡ at + (length held - length (unended held)) = omega arith in
      ap (λ (n : ℕ). drop n input) e ∙ sym (drop-drop (length held - length (unended held)) at input) ∙ suffix held

  pub left_less : length (unended (drop at input)) ≤ length input - at
  left_less = let short = shorter (drop at input) in let long = length-drop at input in omega arith

-- a piece more of what is read
pub read_on : (p rest : List ℕ) (room : ℕ) → take room p ++ take (room - length (take room p)) rest ≡ take room (p ++ rest)
read_on [] rest room =
    let none : take room [] ≡ [] = take_all room [] (omega arith) in
    (λ k. none k ++ take (room - length (none k)) rest) ∙ ap (λ (n : ℕ). take n rest) (omega arith)
read_on (b ∷ p) rest zero = refl
read_on (b ∷ p) rest (suc room) =
    let e : suc room - suc (length (take room p)) ≡ room - length (take room p) = omega arith in
    ap (λ (n : ℕ). b ∷ (take room p ++ take n rest)) e ∙ ap (λ (l : List ℕ). b ∷ l) (read_on p rest room)
