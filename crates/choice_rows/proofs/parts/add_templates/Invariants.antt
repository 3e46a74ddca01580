use Rattle.std.proofs.Common.{All}
use Rattle.choice_rows.specs.Bare.{IsBare}
use Rattle.choice_rows.proofs.parts.add_templates.Given as goal

abbrev pub invariant-loop-setting : goal.invariant-loop-setting
invariant-loop-setting l = All (IsBare l.groups) l.templates
