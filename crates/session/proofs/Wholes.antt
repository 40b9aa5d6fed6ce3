-- Pieces against the whole, and lines against their calls.
use Rattle.std.proofs.Common.{◌≡◌, ℕ, ◌+◌, ◌-◌, List, [], ◌∷◌, ◌++◌, length, take, Ok, Err, Result, sym, refl, ap, ◌∙◌, arith}
use Rattle.std.proofs.lemmas.List.{append_assoc, append-nil, take_all}
use Rattle.rulebook.specs.Meaning.{Meaning}
use Rattle.history.specs.declared.Call.{Call}
use Rattle.day.specs.State.{State}
use Rattle.day.specs.Following.{answered, left}
use Rattle.trading.specs.Runs.{all_answered}
use Rattle.reply.specs.declared.LineFault.{LineFault}
use Rattle.reply.specs.declared.Reply.TheVariants.{Refused}
use Rattle.reply.specs.Replies.{text}
use Rattle.line.specs.Commands.{said}
use Rattle.line.specs.Lines.{lines, ended, unended}
use Rattle.line.proofs.Pieces.{front, none_left}
use Rattle.session.specs.Talk.{replied, reply_by, left_by, printed, left_by_lines, with_call, calls_in, next_text, answers_after, printed_by}
use Rattle.session.specs.Pieces.{most_read, Standing, read_of, held_with, fed, all_text, all_fed, joined}
use Rattle.session.specs.Laws.{PiecesAreTheWhole, AnswersArePrinted}
use Rattle.session.proofs.Lines.{printed_parts, left_parts}
use Rattle.session.proofs.Holding.{read_on}

-- all that is read from where a session stands
abbrev all_read : Standing → List (List ℕ) → List ℕ
all_read t pieces = t.held ++ take (most_read - t.came) (joined pieces)

nothing_more : (t : Standing) → all_read t [] ≡ t.held
nothing_more t = ap (λ (l : List ℕ). t.held ++ l) (take_all (most_read - t.came) [] (omega arith)) ∙ append-nil t.held

module _ (rules : Meaning) where
  one_more : (t : Standing) (piece : List ℕ) (pieces : List (List ℕ))
      → ended (held_with t piece) ++ lines (all_read (fed rules t piece) pieces) ≡ lines (all_read t (piece ∷ pieces))
  one_more t piece pieces =
      let room = most_read - t.came in
      let read = read_of t piece in
      let rest = joined pieces in
      let e : most_read - (t.came + length read) ≡ room - length read = omega arith in
      ap (λ (n : ℕ). ended (held_with t piece) ++ lines (unended (held_with t piece) ++ take n rest)) e
      ∙ sym (front (held_with t piece) (take (room - length read) rest))
      ∙ ap lines (append_assoc t.held read (take (room - length read) rest) ∙ ap (λ (l : List ℕ). t.held ++ l) (read_on piece rest room))

  text_whole : (t : Standing) (pieces : List (List ℕ)) → all_text rules t pieces ≡ printed rules t.day (lines (all_read t pieces))
  text_whole t [] = ap (λ (l : List ℕ). printed rules t.day (lines l)) (sym (nothing_more t))
  text_whole t (piece ∷ pieces) =
      ap (λ (l : List ℕ). printed rules t.day (ended (held_with t piece)) ++ l) (text_whole (fed rules t piece) pieces)
      ∙ sym (printed_parts rules t.day (ended (held_with t piece)) (lines (all_read (fed rules t piece) pieces)))
      ∙ ap (printed rules t.day) (one_more t piece pieces)

  day_whole : (t : Standing) (pieces : List (List ℕ)) → all_fed rules t pieces ≡ left_by_lines rules t.day (lines (all_read t pieces))
  day_whole t [] = ap (λ (l : List ℕ). left_by_lines rules t.day (lines l)) (sym (nothing_more t))
  day_whole t (piece ∷ pieces) =
      day_whole (fed rules t piece) pieces
      ∙ sym (left_parts rules t.day (ended (held_with t piece)) (lines (all_read (fed rules t piece) pieces)))
      ∙ ap (left_by_lines rules t.day) (one_more t piece pieces)

pub pieces_are_the_whole : PiecesAreTheWhole
pieces_are_the_whole = record {
  text = λ rules pieces. text_whole rules _ pieces;
  day = λ rules pieces. day_whole rules _ pieces;
  none_held_back = λ rules t piece. ap (λ (ls : List (List ℕ)). length ls) (none_left (held_with t piece));
}

pub answers_are_printed : AnswersArePrinted
answers_are_printed rules s [] = refl
answers_are_printed rules s (line ∷ ls) = by_said (said line) (λ t. answers_are_printed rules t ls)
  where
    by_said : (r : Result Call LineFault) → ((t : State) → printed rules t ls ≡ printed_by ls (all_answered rules t (calls_in ls)))
        → text (reply_by rules s r) ++ printed rules (left_by rules s r) ls
        ≡ next_text r (all_answered rules s (with_call r (calls_in ls))) ++ printed_by ls (answers_after r (all_answered rules s (with_call r (calls_in ls))))
    by_said (Ok call) rest = ap (λ (bytes : List ℕ). text (replied call (answered rules s call)) ++ bytes) (rest (left rules s call))
    by_said (Err fault) rest = ap (λ (bytes : List ℕ). text (Refused fault) ++ bytes) (rest s)
