use Rattle.template_machine.proofs.Listing.{ends_at_cut}
use Rattle.template_machine.proofs.law.waiting.Goals as goal

pub returns : goal.returns
returns c = ends_at_cut
