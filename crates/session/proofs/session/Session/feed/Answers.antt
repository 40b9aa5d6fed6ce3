use Rattle.std.proofs.Common.{◌≡◌, ◌+◌, ◌-◌, length, drop, vec_items, arith}
use Rattle.std.proofs.lemmas.Grind.{common_steps}
use Rattle.day.specs.State.{view}
use Rattle.line.specs.Lines.{ended, unended}
use Rattle.session.specs.Talk.{left_by_lines}
use Rattle.session.specs.Pieces.{standing, read_of, held_with}
use Rattle.session.proofs.Holding.{ended_short, left_over, left_less}
use Rattle.session.proofs.Lines.{lawful_on}
use Rattle.session.proofs.session.Session.feed.Goals as goal

pub answer_ended-left-requires : goal.answer_ended-left-requires
answer_ended-left-requires g c = grind (arith, common_steps, ended_short)

pub overflow_sub-self : goal.overflow_sub-self
overflow_sub-self g c = grind (arith, common_steps, left_less)

pub returns-clause-standing : goal.returns-clause-standing
returns-clause-standing g c =
    let before = c.args.self.now in
    let items = vec_items c.hold.new.self.input in
    let held = held_with (standing before) c.args.piece.now in
    let after : view c.answer_ended-left.new.day ≡ left_by_lines (g.R.Rulebook.meaning before.day.book) (view before.day) (ended held) = grind (arith, common_steps) in
    let came : length items ≡ length (vec_items before.input) + length (read_of (standing before) c.args.piece.now) = grind (arith, common_steps) in
    let kept : drop (c.len.result - length c.answer_ended-left.result.now) items ≡ unended held = grind (arith, common_steps, left_over) in
    λ k. record { day = after k; came = came k; held = kept k }

pub returns-clause-law : goal.returns-clause-law
returns-clause-law g c =
    let before = c.args.self.now in
    let held = held_with (standing before) c.args.piece.now in
    let rules = g.R.Rulebook.meaning before.day.book in
    let after : view c.answer_ended-left.new.day ≡ left_by_lines rules (view before.day) (ended held) = grind (arith, common_steps) in
    lawful_on rules (view before.day) (view c.answer_ended-left.new.day) (ended held) after
