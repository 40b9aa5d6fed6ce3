use Rattle.std.proofs.Common.{◌≡◌, ◌++◌, take, vec_capacity}
use Rattle.reply.proofs.replies.write_bytes.Given as goal

-- what was there, and the bytes so far
abbrev pub invariant-loop-byte : goal.invariant-loop-byte
invariant-loop-byte l = record {
  items : l.out.items ≡ l.initial.out.items ++ take l.byte-index l.bytes;
  capacity : vec_capacity l.out ≡ vec_capacity l.initial.out;
}
