use Rattle.std.proofs.Common.{◌≡◌, ◌+◌, pos, drop, ◌++◌, map, Ok, length}
use Rattle.std.specs.List.{items_where_true, range_with_len}
use Rattle.stx_base.specs.declared.expression.Cmp.TheVariants.{Eq}
use Rattle.stxpath_values.specs.Outcome.{and_then, each}
use Rattle.stxpath_values.specs.Comparison.{pair_holds}
use Rattle.stxpath_values.specs.Lent.{atom_of}
use Rattle.stxpath_values.specs.Places.{places_of}
use Rattle.stxpath_values.specs.declared.value.Atom.TheVariants.{Whole}
use Rattle.stxpath_values.proofs.lists.places_of_equal.Given as goal

abbrev pub invariant-loop-atom : goal.invariant-loop-atom
invariant-loop-atom l = record {
  place : l.place ≡ pos l.atom-index;
  value :
      and_then (each (λ x. pair_holds Eq x (atom_of l.one)) (drop l.atom-index l.atoms)) (λ holds. Ok (l.made ++ map (λ p. Whole (pos p)) (items_where_true holds (range_with_len (l.atom-index + 1) (length holds)))))
      ≡ and_then (each (λ x. pair_holds Eq x (atom_of l.one)) l.atoms) (λ holds. Ok (map (λ p. Whole (pos p)) (places_of holds)));
}
