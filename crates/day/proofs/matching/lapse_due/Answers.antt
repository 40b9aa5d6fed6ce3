use Rattle.std.proofs.Common.{◌<◌, length, arith}
use Rattle.std.proofs.lemmas.List.Edits.{map_over_more}
use Rattle.std.proofs.lemmas.List.{get_or_default}
use Rattle.day.specs.Calls.{clocked}
use Rattle.day.proofs.matching.lapse_due.Goals as goal

pub loop-order-preserved : goal.loop-order-preserved
loop-order-preserved c =
    let within : c.loop-order.order-index < length c.loop-order.orders = omega arith in
    rw c.clock.ensures (map_over_more (clocked c.args.to) c.args.orders.now c.loop-order.orders c.loop-order.order-index _ c.loop-order-test.true c.loop-order.invariant (get_or_default c.loop-order.orders c.loop-order.order-index _ _ within))
