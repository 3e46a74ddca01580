-- Items that are atoms.
use Rattle.std.proofs.Common.{◌≡◌, ◌≤◌, ℕ, suc, List, [], ◌∷◌, length, Err, refl, ap, arith}
use Rattle.node_stack.specs.Path.{Path}
use Rattle.stxpath_eval.specs.Nodes.{atoms}
use Rattle.stxpath_eval.specs.Steps.{holds_by}
use Rattle.stxpath_eval.specs.Value.{atom_items, one_node}
use Rattle.stxpath_values.specs.Conversion.{as_truth}
use Rattle.stxpath_values.specs.declared.value.Atom.{Atom}
use Rattle.stxpath_values.specs.declared.value.Atom.TheVariants.{Whole, Chars, Truth}
use Rattle.stxpath_values.specs.declared.fault.EvalFault.TheVariants.{NotNode, NotOne}

-- atoms stay as they are
pub atoms_again : (p : Path) (xs : List Atom) → atoms p (atom_items xs) ≡ xs
atoms_again p [] = refl
atoms_again p (x ∷ xs) = ap (λ l. x ∷ l) (atoms_again p xs)

-- one atom is no node
pub one_atom : (p : Path) (xs : List Atom) → length xs ≡ 1 → Err NotNode ≡ one_node p (atom_items xs)
one_atom p [] h = absurd (omega (arith, h))
one_atom p (x ∷ []) h = refl
one_atom p (x ∷ y ∷ more) h = absurd (let e : suc (suc (length more)) ≡ 1 = h in omega (arith, e))

-- several atoms are no truth
pub several : (xs : List Atom) → 2 ≤ length xs → Err NotOne ≡ as_truth (atom_items xs)
several [] h = absurd (let e : 2 ≤ 0 = h in omega (arith, e))
several (x ∷ []) h = absurd (let e : 2 ≤ 1 = h in omega (arith, e))
several (x ∷ y ∷ more) h = refl

-- nor a position
pub several_hold : (n : ℕ) (xs : List Atom) → 2 ≤ length xs → Err NotOne ≡ holds_by n (atom_items xs)
several_hold n [] h = absurd (let e : 2 ≤ 0 = h in omega (arith, e))
several_hold n (x ∷ []) h = absurd (let e : 2 ≤ 1 = h in omega (arith, e))
several_hold n (Whole z ∷ y ∷ more) h = refl
several_hold n (Chars text ∷ y ∷ more) h = refl
several_hold n (Truth b ∷ y ∷ more) h = refl
