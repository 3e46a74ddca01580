-- One local with another value.
use Rattle.std.proofs.Common.{◌≡◌, ℕ, zero, suc, ◌<◌, List, [], ◌∷◌, length, get_or, slice_set, refl, ap, ◌∙◌, arith}
use Rattle.stxpath_values.specs.declared.value.Atom.{Atom}
use Rattle.frame_stack.specs.Locals.{with_value}
use Rattle.frame_stack.specs.declared.locals.Local.{Local}

put : (xs : List Local) (i : ℕ) (d : Local) (value : List Atom) → i < length xs → slice_set xs i (record { name = (get_or xs i d).name; value = value }) ≡ with_value i value xs
put [] i d value lt = absurd (omega arith)
put (x ∷ xs) zero d value lt = refl
put (x ∷ xs) (suc i) d value lt = ap (λ ys. x ∷ ys) (put xs i d value (omega arith))

-- written where it stands among all locals
pub put_there : (items locals : List Local) (i : ℕ) (e : Local) (value : List Atom) → items ≡ locals → i < length locals → e ≡ get_or items i e
    → slice_set items i (record { name = e.name; value = value }) ≡ with_value i value locals
put_there items locals i e value view lt is =
    ap (λ (x : Local). slice_set items i (record { name = x.name; value = value })) is
    ∙ put items i e value (omega (arith, ap length view)) ∙ ap (with_value i value) view
