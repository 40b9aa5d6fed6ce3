use Rattle.std.proofs.Common.{ℕ, ap, ◌∙◌}
use Rattle.std.proofs.lemmas.Result.{err_from_is_err_and}
use Rattle.history.specs.declared.Answer.TheVariants.{Ordered}
use Rattle.day.specs.State.{view}
use Rattle.day.proofs.Entering.{refusal, left_by_refusal, acceptance, left_by_acceptance}
use Rattle.day.proofs.state.Day.enter.Goals as goal

pub returns-in_err-until-clause-ruled : goal.returns-in_err-until-clause-ruled
returns-in_err-until-clause-ruled g c =
    let p = err_from_is_err_and c.from_residual.result c.from_residual.ensures.1 in
    rw (p.1, p.2) (refusal (g.R.Rulebook.meaning c.args.self.now.book) (view c.args.self.now) c.args.entry _ c.in_err-until.ensures.value)

pub returns-in_err-until-clause-leaves : goal.returns-in_err-until-clause-leaves
returns-in_err-until-clause-leaves g c =
    left_by_refusal (g.R.Rulebook.meaning c.args.self.now.book) (view c.args.self.now) c.args.entry _ c.in_err-until.ensures.value

pub returns-clause-ruled : goal.returns-clause-ruled
returns-clause-ruled g c =
    ap (λ (p : ℕ × ℕ). Ordered p.0 p.1) c.pair.ensures.value
    ∙ acceptance (g.R.Rulebook.meaning c.args.self.now.book) (view c.args.self.now) c.args.entry _ c.in_ok-until.ensures.value

pub returns-clause-leaves : goal.returns-clause-leaves
returns-clause-leaves g c =
    c.pair.ensures.after
    ∙ left_by_acceptance (g.R.Rulebook.meaning c.args.self.now.book) (view c.args.self.now) c.args.entry _ c.in_ok-until.ensures.value
