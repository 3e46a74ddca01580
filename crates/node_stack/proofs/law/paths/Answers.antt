use Rattle.std.proofs.Common.{[], refl, ap, ◌∙◌, zero-add}
use Rattle.node_stack.specs.Counts.{capped, none}
use Rattle.node_stack.specs.Laws.{CountsPassing}
use Rattle.node_stack.proofs.Lists.{counts_lists, tells_positions}
use Rattle.node_stack.proofs.Listing.{passing_of}
use Rattle.node_stack.proofs.law.paths.Goals as goal

passing : CountsPassing
passing = λ xs t. passing_of none [] xs t (λ q. refl) ∙ ap capped (zero-add _)

pub returns-clause-lists : goal.returns-clause-lists
returns-clause-lists c = counts_lists passing

pub returns-clause-positions : goal.returns-clause-positions
returns-clause-positions c = tells_positions passing
