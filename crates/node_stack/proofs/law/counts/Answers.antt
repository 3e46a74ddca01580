use Rattle.std.proofs.Common.{[], refl, ap, ◌∙◌, zero-add}
use Rattle.node_stack.specs.Counts.{capped, none}
use Rattle.node_stack.proofs.Listing.{names_of, passing_of}
use Rattle.node_stack.proofs.law.counts.Goals as goal

pub returns-clause-passing : goal.returns-clause-passing
returns-clause-passing c = λ xs t. passing_of none [] xs t (λ q. refl) ∙ ap capped (zero-add _)

pub returns-clause-names : goal.returns-clause-names
returns-clause-names c = λ xs. names_of none [] xs (λ q. refl) ∙ zero-add _
