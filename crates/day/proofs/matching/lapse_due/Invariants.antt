use Rattle.std.proofs.Common.{◌≡◌, ◌++◌, map, take, drop}
use Rattle.day.specs.Calls.{clocked}
use Rattle.day.proofs.matching.lapse_due.Given as goal

abbrev pub invariant-loop-order : goal.invariant-loop-order
invariant-loop-order l = l.orders ≡ map (clocked l.to) (take l.order-index l.initial.orders) ++ drop l.order-index l.initial.orders
