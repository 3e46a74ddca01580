use Rattle.std.proofs.Common.{refl}
use Rattle.node_stack.proofs.Tallying.{instruction_counted}
use Rattle.node_stack.proofs.tally.Tally.add_instruction.Goals as goal

pub returns-clause-counts : goal.returns-clause-counts
returns-clause-counts c =
    instruction_counted c.args.self.now _ _ c.in_ok-count_text.ensures.ok refl c.saturating_add-self.ensures c.saturating_add-self-2.ensures refl refl refl refl
