use Rattle.std.proofs.Common.{◌≡◌, ℕ, List, [], ◌∷◌, None, sym, refl, ap, ◌∙◌}
use Rattle.line.specs.Firsts.{first, others}
use Rattle.line.specs.Lines.{ended}
use Rattle.line.specs.Readers.{unread}
use Rattle.line.proofs.Pieces.{all_left}
use Rattle.session.proofs.answering.answer_ended.Goals as goal

none : (ls : List (List ℕ)) → None ≡ first ls → ls ≡ []
none [] is = refl
none (l ∷ ls) is = cc

pub returns-clause-rest : goal.returns-clause-rest
returns-clause-rest g c =
    let all : ended (unread c.loop-line.reader) ≡ [] = none _ c.in_default.ensures.line in
    let rest : ended (unread c.next_ended.new.self) ≡ [] = c.in_default.ensures.rest ∙ ap (λ (ls : List (List ℕ)). others ls) all in
    c.rest.ensures ∙ sym (all_left (unread c.next_ended.new.self) rest) ∙ c.in_default.ensures.kept ∙ c.loop-line.invariant.4
