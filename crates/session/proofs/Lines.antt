-- Lines in two parts: the ended ones, and what follows them.
use Rattle.std.proofs.Common.{◌≡◌, ℕ, suc, ◌+◌, ◌≤◌, Bool, true, false, eqb, List, [], ◌∷◌, ◌++◌, length, Ok, Err, Result, sym, refl, ap, ◌∙◌, subst, arith}
use Rattle.std.proofs.lemmas.List.{append_assoc, append-nil, length-append}
use Rattle.rulebook.specs.Meaning.{Meaning}
use Rattle.history.specs.declared.Call.{Call}
use Rattle.history.specs.Law.{added}
use Rattle.day.specs.State.{State}
use Rattle.day.specs.Following.{left}
use Rattle.trading.specs.Runs.{all_answered, all_left, Upheld}
use Rattle.trading.proofs.Upholding.{all_upheld}
use Rattle.reply.specs.declared.LineFault.{LineFault}
use Rattle.line.specs.Commands.{said}
use Rattle.line.specs.Lines.{lines, in_front, ended, unended}
use Rattle.reply.specs.Replies.{text}
use Rattle.line.proofs.Pieces.{front}
use Rattle.session.specs.Talk.{reply, left_by, left_by_line, printed, left_by_lines, with_call, calls_in, LawfulOn}

in_front_short : (b : ℕ) (ls : List (List ℕ)) → length (in_front b ls) ≤ suc (length ls)
in_front_short b [] = omega arith
in_front_short b (l ∷ ls) = omega arith

-- a line takes a byte at least
pub lines_short : (bytes : List ℕ) → length (lines bytes) ≤ length bytes
lines_short [] = omega arith
lines_short (b ∷ bytes) = by_byte (eqb b 10) refl (lines_short bytes)
  where
    by_byte : (t : Bool) → eqb b 10 ≡ t → length (lines bytes) ≤ length bytes → length (lines (b ∷ bytes)) ≤ length (b ∷ bytes)
    by_byte true e ih = rw e (omega (arith, ih))
    by_byte false e ih = let short = in_front_short b (lines bytes) in rw e (omega (arith, ih, short))

pub two_parts : (bytes : List ℕ) → lines bytes ≡ ended bytes ++ lines (unended bytes)
two_parts bytes =
    ap lines (sym (append-nil bytes)) ∙ front bytes [] ∙ ap (λ (rest : List ℕ). ended bytes ++ lines rest) (append-nil (unended bytes))

pub both_parts : (bytes : List ℕ) → length (lines bytes) ≡ length (ended bytes) + length (lines (unended bytes))
both_parts bytes = ap (λ (ls : List (List ℕ)). length ls) (two_parts bytes) ∙ length-append (ended bytes) (lines (unended bytes))

module _ (rules : Meaning) where
  pub printed_parts : (s : State) (one other : List (List ℕ)) → printed rules s (one ++ other) ≡ printed rules s one ++ printed rules (left_by_lines rules s one) other
  printed_parts s [] other = refl
  printed_parts s (line ∷ one) other =
      ap (λ (rest : List ℕ). text (reply rules s line) ++ rest) (printed_parts (left_by_line rules s line) one other)
      ∙ sym (append_assoc (text (reply rules s line)) (printed rules (left_by_line rules s line) one) (printed rules (left_by_lines rules s (line ∷ one)) other))

  pub left_parts : (s : State) (one other : List (List ℕ)) → left_by_lines rules s (one ++ other) ≡ left_by_lines rules (left_by_lines rules s one) other
  left_parts s [] other = refl
  left_parts s (line ∷ one) other = left_parts (left_by_line rules s line) one other

  -- the day that lines leave is the one that their calls leave
  pub left_by_calls : (s : State) (ls : List (List ℕ)) → left_by_lines rules s ls ≡ all_left rules s (calls_in ls)
  left_by_calls s [] = refl
  left_by_calls s (line ∷ ls) = by_said (said line) (λ t. left_by_calls t ls)
    where
      by_said : (r : Result Call LineFault) → ((t : State) → left_by_lines rules t ls ≡ all_left rules t (calls_in ls))
          → left_by_lines rules (left_by rules s r) ls ≡ all_left rules s (with_call r (calls_in ls))
      by_said (Ok call) rest = rest (left rules s call)
      by_said (Err fault) rest = rest s

  pub lawful_on : (s end : State) (ls : List (List ℕ)) → end ≡ left_by_lines rules s ls → LawfulOn rules s ls end
  lawful_on s end ls is h brings =
      subst (Upheld rules (added h (calls_in ls) (all_answered rules s (calls_in ls)))) (sym (is ∙ left_by_calls s ls)) (all_upheld rules h s (calls_in ls) brings)
