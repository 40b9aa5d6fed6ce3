use Rattle.day.specs.State.{view}
use Rattle.trading.proofs.Upholding.{run_upheld}
use Rattle.trading.proofs.running.run.Goals as goal

pub returns-clause-law : goal.returns-clause-law
returns-clause-law g c =
    λ h given b is. run_upheld (g.R.Rulebook.meaning c.args.day.now.book) h (view c.args.day.now) _ c.args.calls.now _ _ given c.make_all.ensures.answers c.make_all.ensures.after b is
