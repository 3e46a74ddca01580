use Rattle.template_machine.proofs.Listing.{counts_are_unseen, lists_go_on_alike}
use Rattle.template_machine.proofs.law.listing.Goals as goal

pub returns : goal.returns
returns c = record { alike = lists_go_on_alike; unseen = counts_are_unseen }
