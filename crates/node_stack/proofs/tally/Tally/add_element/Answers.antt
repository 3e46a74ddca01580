use Rattle.std.proofs.Common.{refl}
use Rattle.node_stack.proofs.Tallying.{element_before, element_counted}
use Rattle.node_stack.proofs.tally.Tally.add_element.Goals as goal

pub returns-clause-counts : goal.returns-clause-counts
returns-clause-counts c =
    element_counted c.args.self.now _ _ c.in_ok-count.ensures.ok refl c.saturating_add-self.ensures c.saturating_add-self-2.ensures refl refl refl refl

pub returns-clause-before : goal.returns-clause-before
returns-clause-before c =
    element_before c.args.self.now _ _ c.in_ok-count.ensures.ok refl c.saturating_add-self.ensures c.saturating_add-self-2.ensures refl refl refl refl
