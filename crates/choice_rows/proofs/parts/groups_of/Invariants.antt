use Rattle.std.proofs.Common.{All}
use Rattle.choice_rows.specs.Bare.{IsUnnamed}
use Rattle.choice_rows.proofs.parts.groups_of.Given as goal

abbrev pub invariant-loop-setting : goal.invariant-loop-setting
invariant-loop-setting l = All IsUnnamed l.groups
