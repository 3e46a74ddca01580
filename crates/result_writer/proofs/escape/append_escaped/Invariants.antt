use Rattle.std.proofs.Common.{◌≡◌, ◌++◌, length}
use Rattle.stx_base.specs.Course.{Begins}
use Rattle.result_writer.specs.Escape.{escaped}
use Rattle.result_writer.proofs.escape.append_escaped.Given as goal

-- what was appended so far, and then what the rest gives, is the whole
abbrev pub invariant-loop-byte : goal.invariant-loop-byte
invariant-loop-byte l = record {
  written : l.out.items ++ escaped l.context l.rest ≡ l.fn.out.items ++ escaped l.context l.bytes;
  kept : Begins l.fn.out.items l.out.items;
}

abbrev pub decreases-loop-byte : goal.decreases-loop-byte
decreases-loop-byte l = length l.rest
