use Rattle.std.proofs.Common.{◌≡◌, take}
use Rattle.std.specs.List.{list_all}
use Rattle.result_writer.specs.Escape.{is_plain_ascii}
use Rattle.result_writer.proofs.chars.are_plain_ascii.Given as goal

abbrev pub invariant-loop-byte : goal.invariant-loop-byte
invariant-loop-byte l = l.plain ≡ list_all is_plain_ascii (take l.byte-index l.bytes)
