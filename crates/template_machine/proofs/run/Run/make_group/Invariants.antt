use Rattle.std.proofs.Common.{◌≡◌, ◌==◌, Some, reverse}
use Rattle.template_machine.specs.Made.{OnlyStores}
use Rattle.template_machine.specs.Steps.{test_in}
use Rattle.template_machine.specs.Varying.{HasMade, PassesTest}
use Rattle.template_machine.proofs.Making.{declared_before, names_in}
use Rattle.template_machine.proofs.run.Run.make_group.Given as goal

-- the group has the variables that the sheet has of it so far
abbrev pub invariant-loop-place : goal.invariant-loop-place
invariant-loop-place l = record {
  only : OnlyStores l.initial.self l.self;
  names : names_in l.self.store l.group ≡ declared_before l.program.sheet.variables l.place l.group;
  takes :
      test_in l.program.sheet (reverse l.initial.self.frames.frames) ≡ Some l.test → PassesTest l.test l.initial.self
      → HasMade l.program (λ v. v.group == l.group) l.place l.test l.initial.self l.self;
}
