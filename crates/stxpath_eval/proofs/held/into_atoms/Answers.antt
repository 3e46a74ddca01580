use Rattle.std.proofs.Common.{sym, ap, ◌∙◌}
use Rattle.node_stack.specs.Stack.{path}
use Rattle.stxpath_eval.specs.Held.{held_items}
use Rattle.stxpath_eval.specs.Nodes.{atoms}
use Rattle.stxpath_values.specs.Lent.{sequence_of}
use Rattle.stxpath_eval.proofs.Items.{atoms_again}
use Rattle.stxpath_eval.proofs.held.into_atoms.Goals as goal

pub returns-in-Atoms : goal.returns-in-Atoms
returns-in-Atoms c =
    let p = path c.args.stack.now in
    sym (ap (λ held. atoms p (held_items held)) c.in-Atoms.is ∙ atoms_again p (sequence_of c.in-Atoms.sequence))
