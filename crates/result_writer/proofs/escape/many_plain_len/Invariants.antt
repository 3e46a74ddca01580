use Rattle.std.proofs.Common.{◌≡◌, ◌≤◌, ◌-◌, length, take}
use Rattle.result_writer.specs.Escape.{escaped}
use Rattle.result_writer.proofs.escape.many_plain_len.Given as goal

-- the bytes so far stand for themselves
abbrev pub invariant-loop-len : goal.invariant-loop-len
invariant-loop-len l = record {
  within : l.len ≤ length l.bytes;
  plain : escaped l.context (take l.len l.bytes) ≡ take l.len l.bytes;
}

abbrev pub decreases-loop-len : goal.decreases-loop-len
decreases-loop-len l = length l.bytes - l.len
