use Rattle.std.proofs.Common.{◌≤◌}
use Rattle.memchr.specs.Find.{is_byte, Nowhere, Passes}
use Rattle.xml_tokens.proofs.cut.place_of.Given as goal

abbrev pub invariant-loop-i : goal.invariant-loop-i
invariant-loop-i l = record {
  high : l.i ≤ l.near;
  none : Nowhere (Passes (is_byte l.byte) l.bytes) 0 l.i;
}
