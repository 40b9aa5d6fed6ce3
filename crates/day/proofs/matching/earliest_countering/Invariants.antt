use Rattle.std.proofs.Common.{◌≡◌}
use Rattle.history.specs.Orders.{first}
use Rattle.day.specs.Calls.{meets_at}
use Rattle.day.proofs.matching.earliest_countering.Given as goal

abbrev pub invariant-loop-i : goal.invariant-loop-i
invariant-loop-i l = first (meets_at l.orders l.incoming) l.i ≡ 0
