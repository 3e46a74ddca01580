use Rattle.std.proofs.Common.{◌≡◌, ◌++◌, drop, map}
use Rattle.std.specs.List.{flat_map}
use Rattle.sheet_model.specs.Names.{part_variables}
use Rattle.sheet_loader.specs.Keys.{name_of}
use Rattle.sheet_loader.specs.Making.{bare}
use Rattle.sheet_loader.proofs.variables.add_of_template.Given as goal

abbrev pub invariant-loop-part : goal.invariant-loop-part
invariant-loop-part l =
    map name_of l.found ++ map bare (flat_map part_variables (drop l.part-index l.template.parts))
    ≡ map name_of l.fn.found ++ map bare (flat_map part_variables l.template.parts)
