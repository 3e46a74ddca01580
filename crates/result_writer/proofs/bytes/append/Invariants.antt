use Rattle.std.proofs.Common.{◌≡◌, ◌++◌, ◌+◌, ◌-◌, ◌≤◌, length, take}
use Rattle.std.specs.Prelude.{vec_len, vec_capacity}
use Rattle.stx_base.specs.Course.{Begins}
use Rattle.result_writer.proofs.bytes.append.Given as goal

-- what was appended so far, and room for the rest
abbrev pub invariant-loop-byte : goal.invariant-loop-byte
invariant-loop-byte l = record {
  written : l.out.items ≡ l.fn.out.items ++ take l.byte-index l.bytes;
  kept : Begins l.fn.out.items l.out.items;
  room : vec_len l.out + (length l.bytes - l.byte-index) ≤ vec_capacity l.out;
}
