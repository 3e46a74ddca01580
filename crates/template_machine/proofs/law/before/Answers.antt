use Rattle.template_machine.proofs.OlderRun.{means_as_before, puts_no_sections}
use Rattle.template_machine.proofs.OlderTests.{passes_as_before, same_test}
use Rattle.template_machine.proofs.law.before.Goals as goal

pub returns : goal.returns
returns c = record { means = means_as_before; puts = puts_no_sections; passes = passes_as_before; tests = same_test }
