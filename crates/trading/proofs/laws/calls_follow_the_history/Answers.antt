use Rattle.trading.proofs.Upholding.{calls_follow_the_history}
use Rattle.trading.proofs.laws.calls_follow_the_history.Goals as goal

pub returns : goal.returns
returns c = calls_follow_the_history
