use Rattle.stx_engine.proofs.OldRuns.{runs_as_before}
use Rattle.stx_engine.proofs.law.before.Goals as goal
use Rattle.template_machine.proofs.OlderRun.{means_as_before, puts_no_sections}

pub returns : goal.returns
returns c = runs_as_before c.versions.ensures c.joined.ensures means_as_before puts_no_sections
