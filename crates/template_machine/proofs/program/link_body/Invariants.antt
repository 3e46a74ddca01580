use Rattle.std.proofs.Common.{◌≡◌, ◌<◌, ◌≤◌, ℕ, Some, length}
use Rattle.std.specs.Prelude.{slice_get}
use Rattle.instr_code.specs.declared.code.Op.{Op}
use Rattle.template_machine.specs.Programs.{IsLinked, IsOf, instr_of}
use Rattle.template_machine.proofs.program.link_body.Given as goal

-- those of the operations so far are linked, and those of other bodies as they were
abbrev pub invariant-places : goal.invariant-places
invariant-places l = record {
  all : length l.links ≡ length l.code.instrs;
  linked :
      (at number : ℕ) (o : Op) → l.start ≤ at → at < l.place → slice_get l.code.ops at ≡ Some o → instr_of o ≡ Some number
      → IsLinked l.sheet l.code l.links l.group number;
  others : (number : ℕ) → ¬ IsOf l.code l.body number → slice_get l.links number ≡ slice_get l.initial.links number;
}
