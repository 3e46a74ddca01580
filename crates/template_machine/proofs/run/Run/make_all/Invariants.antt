use Rattle.std.proofs.Common.{◌≡◌, ◌<◌, ℕ, length, true}
use Rattle.sheet_model.specs.declared.sheet.Variable.{Variable}
use Rattle.template_machine.specs.Varying.{HasMade, PassesTest}
use Rattle.template_machine.specs.Made.{OnlyStores}
use Rattle.template_machine.proofs.Making.{declared_before, names_in}
use Rattle.template_machine.proofs.run.Run.make_all.Given as goal

-- each group has the variables that the sheet has so far, with their values
abbrev pub invariant-loop-place : goal.invariant-loop-place
invariant-loop-place l = record {
  only : OnlyStores l.initial.self l.self;
  made : PassesTest l.program.test_of_root l.initial.self → HasMade l.program (λ (v : Variable). true) l.place l.program.test_of_root l.initial.self l.self;
  names : (g : ℕ) → g < length l.self.store → names_in l.self.store g ≡ declared_before l.program.sheet.variables l.place g;
}
