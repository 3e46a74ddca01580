-- What stands within an instruction, as the code hands it out.
use Rattle.std.specs.Prelude.{List, [], ◌++◌}
use Rattle.std.specs.List.{flat_map}
use Rattle.sheet_model.specs.declared.instr.Instr.{Instr}
use Rattle.sheet_model.specs.declared.instr.When.{When}
use Rattle.sheet_model.specs.declared.inner.Within.{Within}
use Rattle.sheet_model.specs.declared.inner.Within.TheVariants as within

abbrev pub listed : Within → List Instr
listed within.Nothing = []
listed (within.Body body) = body.now
listed (within.Bodies body other) = body.now ++ other.now
listed (within.Branches whens other) = flat_map (λ (w : When). w.body) whens.now ++ other.now
