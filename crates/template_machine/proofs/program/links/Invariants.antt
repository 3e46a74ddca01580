use Rattle.std.proofs.Common.{◌≡◌, ◌<◌, ℕ, Some, length}
use Rattle.std.specs.Prelude.{slice_get}
use Rattle.template_machine.specs.Programs.{IsLinked, IsOf, groups_of}
use Rattle.template_machine.proofs.program.links.Given as goal

-- those of the bodies so far are linked
abbrev pub invariant-loop-body : goal.invariant-loop-body
invariant-loop-body l = record {
  all : length l.links ≡ length l.code.instrs;
  linked :
      (other group number : ℕ) → other < l.body → slice_get (groups_of l.sheet) other ≡ Some group → IsOf l.code other number
      → IsLinked l.sheet l.code l.links group number;
}
