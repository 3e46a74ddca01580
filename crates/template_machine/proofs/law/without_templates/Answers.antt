use Rattle.template_machine.proofs.Passing.{passes_through}
use Rattle.template_machine.proofs.Skipping.{skips_silently}
use Rattle.template_machine.proofs.law.without_templates.Goals as goal

pub returns : goal.returns
returns c = record { passed = passes_through; skipped = skips_silently }
