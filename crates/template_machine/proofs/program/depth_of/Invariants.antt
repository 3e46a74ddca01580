use Rattle.std.proofs.Common.{◌≡◌, ◌≤◌, max, drop}
use Rattle.template_machine.specs.Programs.{deepest_from}
use Rattle.template_machine.proofs.program.depth_of.Given as goal

-- the deepest so far, and of the parts that are left, is that of all
abbrev pub invariant-loop-part : goal.invariant-loop-part
invariant-loop-part l = record {
  whole : max l.deepest (deepest_from l.open (drop l.part-index l.parts)) ≡ deepest_from 0 l.parts;
  open_within : l.open ≤ l.deepest;
  open_few : l.open ≤ l.part-index;
}
