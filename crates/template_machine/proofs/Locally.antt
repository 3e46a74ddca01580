-- Locals as names with their values.
use Rattle.std.proofs.Common.{◌≡◌, ℕ, zero, suc, List, [], ◌∷◌, Some, map, refl, ap}
use Rattle.std.specs.Prelude.{slice_get}
use Rattle.stx_base.specs.declared.name.Name.{Name}
use Rattle.stxpath_values.specs.declared.value.Atom.{Atom}
use Rattle.frame_stack.specs.declared.locals.Local.{Local}
use Rattle.var_store.specs.Variables.{bound}
use Rattle.var_store.specs.declared.bound.Bound.{Bound}
use Rattle.template_machine.specs.Seen.{bounds_of}

-- where a name stands there is a value
pub local_at : (locals : List Local) (i : ℕ) (n : Name) → slice_get (map (λ (l : Local). l.name) locals) i ≡ Some n
    → (v : List Atom) × (slice_get (bounds_of locals) i ≡ Some (bound n v))
local_at [] i n is = absurd (cc)
local_at (l ∷ locals) zero n is = let same : l.name ≡ n = cc in (l.value, ap (λ m. Some (bound m l.value)) same)
local_at (l ∷ locals) (suc i) n is = local_at locals i n is

pub values_are : (locals : List Local) → map (λ (b : Bound). b.value) (bounds_of locals) ≡ map (λ (l : Local). l.value) locals
values_are [] = refl
values_are (l ∷ locals) = ap (λ vs. l.value ∷ vs) (values_are locals)
