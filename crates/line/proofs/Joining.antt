-- The parts of a line are the line: joined by blanks, without blanks, each at its position.
use Rattle.std.proofs.Common.{◌≡◌, ℕ, zero, suc, ◌+◌, ◌-◌, ◌<◌, ◌≤◌, Bool, true, false, eqb, List, [], ◌∷◌, ◌++◌, map, length, get_or, take, drop, sym, refl, ap, ◌∙◌, append_assoc, add-one, arith}
use borrow.Author.Tests.{eqb-false}
use Rattle.std.specs.List.{join_with_byte}
use Rattle.std.proofs.lemmas.List.{take_all, take_at, drop-drop, drop_at, length_push}
use Rattle.std.proofs.lemmas.List.Splits.{join_with_byte-slice_split}
use Rattle.line.specs.Fields.{Placed, parts, placed, fields}
use Rattle.line.specs.Laws.{bytes, position, field, with_blanks}
use Rattle.line.specs.Lines.{in_front}
use Rattle.line.proofs.Splitting.{parts_are_split, some_part, length-placed}

-- joined by blanks, as std joins by a byte
joined_is : (pieces : List (List ℕ)) → with_blanks pieces ≡ join_with_byte 32 pieces
joined_is [] = refl
joined_is (piece ∷ []) = refl
joined_is (piece ∷ next ∷ more) = ap (λ l. piece ++ 32 ∷ l) (joined_is (next ∷ more))

parts_joined : (line : List ℕ) → with_blanks (parts line) ≡ line
parts_joined line = joined_is (parts line) ∙ ap (join_with_byte 32) (parts_are_split line) ∙ join_with_byte-slice_split 32 line

-- no piece holds a blank
abbrev Clear : List (List ℕ) → Type 0
Clear pieces = (k i : ℕ) → k < length pieces → i < length (get_or pieces k []) → get_or (get_or pieces k []) i 0 ≡ 32 → ⊥

clear_new : (pieces : List (List ℕ)) → Clear pieces → Clear ([] ∷ pieces)
clear_new pieces h zero i lt at is = absurd (omega arith)
clear_new pieces h (suc k) i lt at is = h k i (omega arith) at is

clear_front : (b : ℕ) (pieces : List (List ℕ)) → (b ≡ 32 → ⊥) → Clear pieces → Clear (in_front b pieces)
clear_front b [] other h zero zero lt at is = other is
clear_front b [] other h zero (suc i) lt at is = absurd (omega arith)
clear_front b [] other h (suc k) i lt at is = absurd (omega arith)
clear_front b (piece ∷ pieces) other h zero zero lt at is = other is
clear_front b (piece ∷ pieces) other h zero (suc i) lt at is = h zero i (omega arith) (omega arith) is
clear_front b (piece ∷ pieces) other h (suc k) i lt at is = h (suc k) i lt at is

none_clear : Clear ([] ∷ [])
none_clear zero i lt at is = absurd (omega arith)
none_clear (suc k) i lt at is = absurd (omega arith)

parts_clear : (line : List ℕ) → Clear (parts line)
parts_clear [] = none_clear
parts_clear (b ∷ line) = by_byte (eqb b 32) refl (parts_clear line)
  where
    by_byte : (t : Bool) → eqb b 32 ≡ t → Clear (parts line) → Clear (parts (b ∷ line))
    by_byte true e ih = rw e (clear_new (parts line) ih)
    by_byte false e ih = rw e (clear_front b (parts line) (eqb-false b 32 e) ih)

-- pieces that are given positions
abbrev at : ℕ → List (List ℕ) → ℕ → Placed
at p pieces k = get_or (placed p pieces) k ([], 0)

bytes_all : (p : ℕ) (pieces : List (List ℕ)) → map bytes (placed p pieces) ≡ pieces
bytes_all p [] = refl
bytes_all p (piece ∷ pieces) = ap (λ l. piece ∷ l) (bytes_all (p + length piece + 1) pieces)

bytes_at : (p : ℕ) (pieces : List (List ℕ)) (k : ℕ) → bytes (at p pieces k) ≡ get_or pieces k []
bytes_at p [] k = refl
bytes_at p (piece ∷ pieces) zero = refl
bytes_at p (piece ∷ pieces) (suc k) = bytes_at (p + length piece + 1) pieces k

first_at : (p : ℕ) (pieces : List (List ℕ)) → 0 < length pieces → position (at p pieces 0) ≡ p
first_at p [] some = absurd (omega arith)
first_at p (piece ∷ pieces) some = refl

next_at : (p : ℕ) (pieces : List (List ℕ)) (k : ℕ) → suc k < length pieces → position (at p pieces (suc k)) ≡ position (at p pieces k) + length (get_or pieces k []) + 1
next_at p [] k lt = absurd (omega arith)
next_at p (piece ∷ []) k lt = absurd (omega arith)
next_at p (piece ∷ next ∷ more) zero lt = refl
next_at p (piece ∷ next ∷ more) (suc k) lt = next_at (p + length piece + 1) (next ∷ more) k (omega arith)

not_before : (p : ℕ) (pieces : List (List ℕ)) (k : ℕ) → k < length pieces → p ≤ position (at p pieces k)
not_before p [] k lt = absurd (omega arith)
not_before p (piece ∷ pieces) zero lt = omega arith
not_before p (piece ∷ pieces) (suc k) lt = omega (arith, not_before (p + length piece + 1) pieces k (omega arith))

past_piece : (piece rest : List ℕ) → drop (length piece + 1) (piece ++ 32 ∷ rest) ≡ rest
past_piece piece rest =
    ap (drop (length piece + 1)) (sym (append_assoc piece (32 ∷ []) rest)) ∙ drop_at (piece ++ 32 ∷ []) rest (length piece + 1) (length_push piece 32)

stands_at : (p : ℕ) (pieces : List (List ℕ)) (k : ℕ) → k < length pieces → take (length (get_or pieces k [])) (drop (position (at p pieces k) - p) (with_blanks pieces)) ≡ get_or pieces k []
stands_at p [] k lt = absurd (omega arith)
stands_at p (piece ∷ []) zero lt =
    let here : p - p ≡ 0 = omega arith in
    ap (λ n. take (length piece) (drop n piece)) here ∙ take_all (length piece) piece (omega arith)
stands_at p (piece ∷ []) (suc k) lt = absurd (omega arith)
stands_at p (piece ∷ next ∷ more) zero lt =
    let here : p - p ≡ 0 = omega arith in
    ap (λ n. take (length piece) (drop n (piece ++ 32 ∷ with_blanks (next ∷ more)))) here ∙ take_at piece (32 ∷ with_blanks (next ∷ more)) (length piece) refl
stands_at p (piece ∷ next ∷ more) (suc k) lt =
    let q = p + length piece + 1 in
    let rest = with_blanks (next ∷ more) in
    let place = position (at q (next ∷ more) k) in
    let short : k < length (next ∷ more) = omega arith in
    let along : place - p ≡ length piece + 1 + (place - q) = omega (arith, not_before q (next ∷ more) k short) in
    let far : drop (place - p) (piece ++ 32 ∷ rest) ≡ drop (place - q) rest =
    ap (λ n. drop n (piece ++ 32 ∷ rest)) along ∙ sym (drop-drop (place - q) (length piece + 1) (piece ++ 32 ∷ rest)) ∙ ap (drop (place - q)) (past_piece piece rest) in
    ap (take (length (get_or (next ∷ more) k []))) far ∙ stands_at q (next ∷ more) k short

-- the same of a line's fields
module _ (line : List ℕ) where
  pub joined : with_blanks (map bytes (fields line)) ≡ line
  joined = ap with_blanks (bytes_all 1 (parts line)) ∙ parts_joined line

  pub some : 1 ≤ length (fields line)
  some = omega (arith, some_part line, length-placed 1 (parts line))

  pub first_position : position (field line 0) ≡ 1
  first_position = first_at 1 (parts line) (some_part line)

  module _ (k : ℕ) where
    pub no_blank : (i : ℕ) → k < length (fields line) → i < length (bytes (field line k)) → get_or (bytes (field line k)) i 0 ≡ 32 → ⊥
    no_blank i lt within is =
        let e = bytes_at 1 (parts line) k in
        parts_clear line k i (omega (arith, length-placed 1 (parts line))) (omega (arith, ap length e)) (sym (ap (λ b. get_or b i 0) e) ∙ is)

    pub next_position : k + 1 < length (fields line) → position (field line (k + 1)) ≡ position (field line k) + length (bytes (field line k)) + 1
    next_position lt =
        ap (λ j. position (field line j)) (add-one k) ∙ next_at 1 (parts line) k (omega (arith, length-placed 1 (parts line)))
        ∙ ap (λ b. position (field line k) + length b + 1) (sym (bytes_at 1 (parts line) k))

    pub stands : k < length (fields line) → take (length (bytes (field line k))) (drop (position (field line k) - 1) line) ≡ bytes (field line k)
    stands lt =
        let e = bytes_at 1 (parts line) k in
        (λ j. take (length (e j)) (drop (position (field line k) - 1) (sym (parts_joined line) j))) ∙ stands_at 1 (parts line) k (omega (arith, length-placed 1 (parts line))) ∙ sym e
