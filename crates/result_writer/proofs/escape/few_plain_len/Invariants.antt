use Rattle.std.proofs.Common.{◌≡◌, take}
use Rattle.result_writer.specs.Escape.{escaped}
use Rattle.result_writer.proofs.escape.few_plain_len.Given as goal

-- the bytes so far stand for themselves
abbrev pub invariant-loop-at : goal.invariant-loop-at
invariant-loop-at l = escaped l.context (take l.at l.bytes) ≡ take l.at l.bytes
