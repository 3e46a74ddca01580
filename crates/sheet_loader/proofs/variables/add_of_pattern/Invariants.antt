use Rattle.std.proofs.Common.{◌≡◌, ◌++◌, drop, map}
use Rattle.std.specs.List.{flat_map}
use Rattle.sheet_model.specs.Names.{alternative_variables}
use Rattle.sheet_loader.specs.Keys.{name_of}
use Rattle.sheet_loader.specs.Making.{bare}
use Rattle.sheet_loader.proofs.variables.add_of_pattern.Given as goal

abbrev pub invariant-loop-alternative : goal.invariant-loop-alternative
invariant-loop-alternative l =
    map name_of l.found ++ map bare (flat_map alternative_variables (drop l.alternative-index l.pattern.alternatives))
    ≡ map name_of l.fn.found ++ map bare (flat_map alternative_variables l.pattern.alternatives)
