use Rattle.std.proofs.Common.{[], ◌∷◌, ap, sym, ◌∙◌}
use Rattle.stxpath_values.specs.Comparison.{comparison, pair_holds}
use Rattle.stxpath_values.specs.Lent.{atom_of, atoms_of}
use Rattle.stxpath_values.specs.Outcome.{some_holds}
use Rattle.stxpath_values.proofs.OutcomeLemmas.{only_holds}
use Rattle.stxpath_values.proofs.comparison.compare_lent.Goals as goal

pub returns-in-One-right : goal.returns-in-One-right
returns-in-One-right c =
    c.compare_to.ensures
    ∙ ap (λ f. some_holds f c.in-List.left.now) (λ i x. sym (only_holds (pair_holds c.args.cmp x (atom_of c.in-One-right.y))) i)
    ∙ ap (λ l. some_holds (λ x. some_holds (pair_holds c.args.cmp x) (atom_of c.in-One-right.y ∷ [])) (atoms_of l)) (sym c.in-List.is)
    ∙ ap (λ r. comparison c.args.cmp (atoms_of c.args.left) (atoms_of r)) (sym c.in-One-right.is)
