-- The parts of a line, one by one.
use Rattle.std.proofs.Common.{◌≡◌, ℕ, suc, ◌+◌, ◌<◌, ◌≤◌, Bool, true, false, cond, eqb, leb, ◌==◌, List, [], ◌∷◌, length, take, drop, count_by, sym, refl, ap, ◌∙◌, arith, length-drop, le-leb}
use Rattle.std.specs.List.{slice_split, onto_first}
use Rattle.std.proofs.lemmas.List.{drop-drop}
use Rattle.std.proofs.lemmas.List.Folds.{length-prefix_len}
use Rattle.std.proofs.lemmas.List.Recursion.{same_from_clauses}
use Rattle.std.proofs.lemmas.List.Splits.{length-slice_split}
use Rattle.std.proofs.lemmas.Bool.Decides.{nat_tests}
use Rattle.line.specs.Fields.{parts, placed, fields}
use Rattle.line.specs.Lines.{differs, before_first, in_front}
use Rattle.line.specs.Readers.{fields_from}
use Rattle.line.proofs.Cuts.{take_one_more, drop_one_more}

-- the parts are those of a split at each blank
onto_first_is : (b : ℕ) (pieces : List (List ℕ)) → onto_first b pieces ≡ in_front b pieces
onto_first_is b [] = refl
onto_first_is b (piece ∷ pieces) = refl

pub parts_are_split : (line : List ℕ) → parts line ≡ slice_split (λ byte. byte == 32) line
parts_are_split =
    same_from_clauses parts (slice_split (λ byte. byte == 32)) (λ b pieces. cond (b == 32) ([] ∷ pieces) (in_front b pieces)) refl (λ b bytes. refl)
    (λ b bytes. ap (cond (b == 32) ([] ∷ slice_split (λ byte. byte == 32) bytes)) (onto_first_is b (slice_split (λ byte. byte == 32) bytes)))

-- one more than there are blanks
pub length-parts : (line : List ℕ) → length (parts line) ≡ count_by (λ byte. byte == 32) line + 1
length-parts line = ap length (parts_are_split line) ∙ length-slice_split (λ byte. byte == 32) line

pub some_part : (line : List ℕ) → 0 < length (parts line)
some_part line = omega (arith, length-parts line)

-- the parts after the first: none where no blank is left
abbrev more_parts : List ℕ → List (List ℕ)
more_parts bytes = cond (leb (before_first 32 bytes + 1) (length bytes)) (parts (drop (before_first 32 bytes + 1) bytes)) []

pub parts_cut : (bytes : List ℕ) → parts bytes ≡ take (before_first 32 bytes) bytes ∷ more_parts bytes
parts_cut [] = refl
parts_cut (b ∷ bytes) = by_byte (eqb b 32) refl (parts_cut bytes)
  where
    by_byte : (t : Bool) → eqb b 32 ≡ t → parts bytes ≡ take (before_first 32 bytes) bytes ∷ more_parts bytes → parts (b ∷ bytes) ≡ take (before_first 32 (b ∷ bytes)) (b ∷ bytes) ∷ more_parts (b ∷ bytes)
    by_byte true e ih = rw e (let l = le-leb 1 (suc (length bytes)) (omega arith) in rw l refl)
    by_byte false e ih =
        let n = before_first 32 bytes in
        let same : leb (n + 1) (length bytes) ≡ leb (1 + n + 1) (suc (length bytes)) = grind (arith, nat_tests) in
        rw e (ap (in_front b) ih ∙ (λ k. sym (take_one_more b bytes n) k ∷ cond (same k) (parts (sym (drop_one_more b bytes n) k)) []))

-- the fields from a place on that is not past the line's end: a part, and those after it
pub fields_cut : (line : List ℕ) (i : ℕ) → i ≤ length line
    → fields_from line i ≡ (take (before_first 32 (drop i line)) (drop i line), i + 1) ∷ fields_from line (i + (length (take (before_first 32 (drop i line)) (drop i line)) + 1))
fields_cut line i le =
    rw (le-leb i (length line) le) (ap (placed (i + 1)) (parts_cut rest) ∙ ap (λ fields. (take n rest, i + 1) ∷ fields) (by_rest (leb (n + 1) (length rest)) refl))
  where
    rest : List ℕ
    rest = drop i line

    n : ℕ
    n = before_first 32 rest

    along : i + (length (take n rest) + 1) ≡ i + (n + 1)
    along = let long = length-prefix_len (differs 32) rest in omega arith

    same : leb (i + (length (take n rest) + 1)) (length line) ≡ leb (n + 1) (length rest)
    same = let a = along in let l = length-drop i line in grind (arith, nat_tests)

    by_rest : (t : Bool) → leb (n + 1) (length rest) ≡ t → placed (i + 1 + length (take n rest) + 1) (more_parts rest) ≡ fields_from line (i + (length (take n rest) + 1))
    by_rest true e =
        let at : i + 1 + length (take n rest) + 1 ≡ i + (length (take n rest) + 1) + 1 = omega arith in
        let after : drop (n + 1) rest ≡ drop (i + (length (take n rest) + 1)) line = drop-drop (n + 1) i line ∙ ap (λ m. drop m line) (sym along) in
        rw (same, e) (λ k. placed (at k) (parts (after k)))
    by_rest false e = rw (same, e) refl

pub length-placed : (position : ℕ) (pieces : List (List ℕ)) → length (placed position pieces) ≡ length pieces
length-placed position [] = refl
length-placed position (piece ∷ pieces) = ap suc (length-placed (position + length piece + 1) pieces)

pub length-fields : (line : List ℕ) → length (fields line) ≡ count_by (λ byte. byte == 32) line + 1
length-fields line = length-placed 1 (parts line) ∙ length-parts line
