use Rattle.std.proofs.Common.{ap, ◌∙◌, rules}
use Rattle.std.specs.Prelude.{codes}
use Rattle.std.proofs.lemmas.Str.{chars-IsAscii}
use Rattle.fault_report.specs.declared.outcome.Outcome.TheVariants.{Host}
use Rattle.sheet_runs.proofs.failing.failure.Goals as goal

pub returns-in-Ok : goal.returns-in-Ok
returns-in-Ok c = ap (λ file. Host file c.args.fault c.args.offset) (c.in-Ok.ensures ∙ chars-IsAscii (codes "-") (search rules))
