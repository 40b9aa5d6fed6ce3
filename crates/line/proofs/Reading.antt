-- The lines of a text, one by one.
use Rattle.std.proofs.Common.{◌≡◌, ℕ, ◌<◌, ◌≤◌, Bool, true, false, eqb, List, [], ◌∷◌, length, take, drop, ◌+◌, sym, refl, ap, ◌∙◌, arith}
use Rattle.std.proofs.lemmas.List.{drop-drop}
use Rattle.line.specs.Lines.{before_first, in_front, lines, past_first, to_first, ended, where_none, unended}
use Rattle.line.proofs.Cuts.{take_one_more, drop_one_more}

abbrev the_line : List ℕ → List ℕ
the_line bytes = take (before_first 10 bytes) bytes

pub lines_cut : (bytes : List ℕ) → 0 < length bytes → lines bytes ≡ the_line bytes ∷ lines (past_first bytes)
lines_cut [] some = absurd (omega arith)
lines_cut (b ∷ bytes) some = by_byte (eqb b 10) refl bytes (λ h. lines_cut bytes h)
  where
    by_byte : (t : Bool) → eqb b 10 ≡ t → (bs : List ℕ) → (0 < length bs → lines bs ≡ the_line bs ∷ lines (past_first bs)) → lines (b ∷ bs) ≡ the_line (b ∷ bs) ∷ lines (past_first (b ∷ bs))
    by_byte true e bs ih = rw e refl
    by_byte false e [] ih = rw e refl
    by_byte false e (c ∷ bs) ih =
        let n = before_first 10 (c ∷ bs) in
        rw e (ap (in_front b) (ih (omega arith)) ∙ (λ k. sym (take_one_more b (c ∷ bs) n) k ∷ lines (sym (drop_one_more b (c ∷ bs) n) k)))

-- the same of the lines that a byte 10 ends
pub ended_cut : (bytes : List ℕ) → before_first 10 bytes < length bytes → ended bytes ≡ the_line bytes ∷ ended (past_first bytes)
ended_cut [] lt = absurd (omega arith)
ended_cut (b ∷ bytes) lt = by_byte (eqb b 10) refl (λ h. ended_cut bytes h)
  where
    by_byte : (t : Bool) → eqb b 10 ≡ t → (before_first 10 bytes < length bytes → ended bytes ≡ the_line bytes ∷ ended (past_first bytes)) → ended (b ∷ bytes) ≡ the_line (b ∷ bytes) ∷ ended (past_first (b ∷ bytes))
    by_byte true e ih = rw e refl
    by_byte false e ih =
        let n = before_first 10 bytes in
        let h = rw e at lt in
        rw e (ap (to_first b) (ih (omega arith)) ∙ (λ k. sym (take_one_more b bytes n) k ∷ ended (sym (drop_one_more b bytes n) k)))

pub none_ended : (bytes : List ℕ) → length bytes ≤ before_first 10 bytes → ended bytes ≡ []
none_ended [] le = refl
none_ended (b ∷ bytes) le = by_byte (eqb b 10) refl (λ h. none_ended bytes h)
  where
    by_byte : (t : Bool) → eqb b 10 ≡ t → (length bytes ≤ before_first 10 bytes → ended bytes ≡ []) → ended (b ∷ bytes) ≡ []
    by_byte true e ih = let h = rw e at le in absurd (omega arith)
    by_byte false e ih = let h = rw e at le in rw e (ap (to_first b) (ih (omega arith)))

pub unended_cut : (bytes : List ℕ) → before_first 10 bytes < length bytes → unended (past_first bytes) ≡ unended bytes
unended_cut [] lt = absurd (omega arith)
unended_cut (b ∷ bytes) lt = by_byte (eqb b 10) refl (λ h. unended_cut bytes h)
  where
    by_byte : (t : Bool) → eqb b 10 ≡ t → (before_first 10 bytes < length bytes → unended (past_first bytes) ≡ unended bytes) → unended (past_first (b ∷ bytes)) ≡ unended (b ∷ bytes)
    by_byte true e ih = rw e refl
    by_byte false e ih =
        let n = before_first 10 bytes in
        let h = rw e at lt in
        let some = ended_cut bytes (omega arith) in
        rw e (ap unended (drop_one_more b bytes n) ∙ ih (omega arith) ∙ sym (ap (λ ls. where_none ls (b ∷ bytes) (unended bytes)) some))

-- what is left after a step on from a place
pub left_on : {X : Type 0} (xs : List X) (at step : ℕ) → drop (at + step) xs ≡ drop step (drop at xs)
left_on xs at step = sym (drop-drop _ _ xs)
