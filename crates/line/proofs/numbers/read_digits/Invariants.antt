use Rattle.std.proofs.Common.{◌≡◌, ◌^◌, ◌<◌, drop}
use Rattle.std.specs.Str.{all_ascii_digits}
use Rattle.line.specs.Numbers.{worth}
use Rattle.line.proofs.numbers.read_digits.Given as goal

abbrev pub invariant-loop-byte : goal.invariant-loop-byte
invariant-loop-byte l = (worth l.n (drop l.byte-index l.bytes) ≡ worth 0 l.bytes) × (all_ascii_digits (drop l.byte-index l.bytes) ≡ all_ascii_digits l.bytes) × (l.n < 10 ^ l.byte-index)
