use Rattle.std.proofs.Common.{All}
use Rattle.choice_rows.specs.Bare.{IsBare}
use Rattle.choice_rows.proofs.parts.add_several.Given as goal

abbrev pub invariant-loop-pattern : goal.invariant-loop-pattern
invariant-loop-pattern l = All (IsBare l.groups) l.templates
