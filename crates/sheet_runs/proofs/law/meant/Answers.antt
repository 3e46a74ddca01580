use Rattle.sheet_runs.proofs.KeptMeaning.{keeps}
use Rattle.sheet_runs.proofs.Means.{means}
use Rattle.sheet_runs.proofs.law.meant.Goals as goal

pub returns : goal.returns
returns c = record { says = means c.giving.ensures.begins; keeps = keeps (means c.giving.ensures.begins) }
