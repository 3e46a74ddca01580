use Rattle.std.proofs.Common.{◌≡◌, true, take}
use Rattle.result_writer.specs.Escape.{escaped}
use Rattle.result_writer.specs.declared.escape.Context.TheVariants.{Value}
use Rattle.result_writer.proofs.escape.are_plain_in_value.Given as goal

-- if so, the bytes so far stand for themselves
abbrev pub invariant-loop-byte : goal.invariant-loop-byte
invariant-loop-byte l = l.plain ≡ true → escaped Value (take l.byte-index l.bytes) ≡ take l.byte-index l.bytes
