use Rattle.std.proofs.Common.{◌≡◌, drop, vec_items, arith}
use Rattle.std.proofs.lemmas.Grind.{common_steps}
use Rattle.day.specs.State.{view}
use Rattle.line.specs.Lines.{lines}
use Rattle.session.specs.Talk.{left_by_lines}
use Rattle.session.proofs.Lines.{lines_short, lawful_on}
use Rattle.session.proofs.session.Session.close.Goals as goal

pub answer_lines-requires : goal.answer_lines-requires
answer_lines-requires g c = grind (arith, common_steps, lines_short)

pub returns-clause-law : goal.returns-clause-law
returns-clause-law g c =
    let self = c.args.self.now in
    let rules = g.R.Rulebook.meaning self.day.book in
    let held = drop self.at (vec_items self.input) in
    let after : view c.answer_lines.new.day ≡ left_by_lines rules (view self.day) (lines held) = grind (arith, common_steps) in
    lawful_on rules (view self.day) (view c.answer_lines.new.day) (lines held) after
