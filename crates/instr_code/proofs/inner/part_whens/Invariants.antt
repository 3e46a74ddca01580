use Rattle.std.proofs.Common.{◌≡◌, map}
use Rattle.instr_code.specs.Bare.{bare_when}
use Rattle.sheet_model.specs.declared.instr.When.{When}
use Rattle.instr_code.proofs.inner.part_whens.Given as goal

abbrev pub invariant-loop-when : goal.invariant-loop-when
invariant-loop-when l = (l.bare ≡ map bare_when l.yielded) × (l.bodies ≡ map (λ (w : When). w.body) l.yielded)
