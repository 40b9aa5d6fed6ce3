use Rattle.std.proofs.Common.{◌≤◌, arith, rules}
use Rattle.line.proofs.Digits.{one_more}
use Rattle.line.proofs.numbers.read_digits.Goals as goal

pub overflow_mul-n : goal.overflow_mul-n
overflow_mul-n c = omega (arith, one_more c.loop-byte.n c.loop-byte.byte-index c.loop-byte.invariant.2 (omega arith))

pub overflow_add-n : goal.overflow_add-n
overflow_add-n c =
    let few : c.from-in-loop-byte.result ≤ 9 = search rules in
    omega (arith, one_more c.loop-byte.n c.loop-byte.byte-index c.loop-byte.invariant.2 (omega arith))
