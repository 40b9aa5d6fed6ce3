use Rattle.day.specs.State.{view}
use Rattle.line.specs.Lines.{lines}
use Rattle.session.proofs.Lines.{lawful_on}
use Rattle.session.proofs.answering.answer_all.Goals as goal

pub returns-clause-law : goal.returns-clause-law
returns-clause-law g c =
    lawful_on (g.R.Rulebook.meaning c.args.day.now.book) (view c.args.day.now) (view c.answer_lines.new.day) (lines c.args.input.now) c.answer_lines.ensures.after
