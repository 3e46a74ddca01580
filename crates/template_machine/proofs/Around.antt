-- The groups around one, step by step.
use Rattle.std.proofs.Common.{◌≡◌, ◌<◌, ◌≤◌, ℕ, zero, suc, ◌+◌, List, [], ◌∷◌, Option, Some, None, length, refl, sym, ap, ◌∙◌, arith}
use Rattle.std.specs.Prelude.{slice_get}
use Rattle.std.specs.Option.{option_and_then, option_or}
use Rattle.std.proofs.lemmas.Option.{slice_get_within}
use Rattle.sheet_model.specs.Groups.{around, around_parent, around_within, parent_of}
use Rattle.sheet_model.specs.Sound.{AreATree, StandsBehind}
use Rattle.sheet_model.specs.declared.sheet.Group.{Group}
use Rattle.template_machine.specs.Seen.{ParentsStandBefore}
use Rattle.template_machine.specs.Variables.{first_some}

-- a group has a parent before it, and is there itself
pub parent_below : (groups : List Group) → ParentsStandBefore groups → (g p : ℕ) → parent_of groups g ≡ Some p → (p < g) × (g < length groups)
parent_below groups before g p e = of_group (slice_get groups g) refl e where
  of_group : (o : Option Group) → slice_get groups g ≡ o → option_and_then (λ (x : Group). x.parent) o ≡ Some p → (p < g) × (g < length groups)
  of_group None is e = absurd (cc)
  of_group (Some x) is e = (before g x is p e, slice_get_within groups g x is)

same_parent : (o : Option ℕ) (f h : ℕ → List ℕ) → ((p : ℕ) → o ≡ Some p → f p ≡ h p) → around_parent f o ≡ around_parent h o
same_parent None f h e = refl
same_parent (Some p) f h e = e p refl

no_parent : (o : Option ℕ) (f : ℕ → List ℕ) → ((p : ℕ) → o ≡ Some p → ⊥) → around_parent f o ≡ []
no_parent None f e = refl
no_parent (Some p) f e = absurd (e p refl)

-- as many levels as the group's number are enough
enough : (groups : List Group) → ParentsStandBefore groups → (n m g : ℕ) → g ≤ n → g ≤ m → around_within groups n g ≡ around_within groups m g
enough groups before zero zero g a b = refl
enough groups before zero (suc m) g a b =
    sym (ap (λ l. g ∷ l) (no_parent (parent_of groups g) (around_within groups m) (λ p e. let l = parent_below groups before g p e in omega (arith, l.0))))
enough groups before (suc n) zero g a b =
    ap (λ l. g ∷ l) (no_parent (parent_of groups g) (around_within groups n) (λ p e. let l = parent_below groups before g p e in omega (arith, l.0)))
enough groups before (suc n) (suc m) g a b =
    ap (λ l. g ∷ l)
    (same_parent (parent_of groups g) (around_within groups n) (around_within groups m)
    (λ p e. let l = parent_below groups before g p e in enough groups before n m p (omega (arith, l.0)) (omega (arith, l.0))))

-- a group, and then those around its parent
pub stepped : (groups : List Group) → ParentsStandBefore groups → (g : ℕ) → around groups g ≡ g ∷ around_parent (around groups) (parent_of groups g)
stepped groups before g = of_length (length groups) refl where
  of_length : (n : ℕ) → length groups ≡ n → around_within groups n g ≡ g ∷ around_parent (around_within groups n) (parent_of groups g)
  of_length zero e =
      sym (ap (λ l. g ∷ l) (no_parent (parent_of groups g) (around_within groups zero) (λ p is. let l = parent_below groups before g p is in omega (arith, e, l.1))))
  of_length (suc n) e =
      ap (λ l. g ∷ l)
      (same_parent (parent_of groups g) (around_within groups n) (around_within groups (suc n))
      (λ p is. let l = parent_below groups before g p is in enough groups before n (suc n) p (omega (arith, e, l.0, l.1)) (omega (arith, e, l.0, l.1))))

module _ {A : Type 0} (f : ℕ → Option A) (groups : List Group) (before : ParentsStandBefore groups) where
  -- what is there in the group itself is the first
  pub found_here : (g : ℕ) (x : A) → f g ≡ Some x → first_some f (around groups g) ≡ Some x
  found_here g x e =
      ap (first_some f) (stepped groups before g) ∙ ap (λ o. option_or o (first_some f (around_parent (around groups) (parent_of groups g)))) e

  -- where there is nothing it is found outwards
  pub found_outwards : (g : ℕ) → f g ≡ None → first_some f (around groups g) ≡ first_some f (around_parent (around groups) (parent_of groups g))
  found_outwards g e =
      ap (first_some f) (stepped groups before g) ∙ ap (λ o. option_or o (first_some f (around_parent (around groups) (parent_of groups g)))) e

stands_behind : (n : ℕ) (o : Option ℕ) (p : ℕ) → o ≡ Some p → StandsBehind (n + 1) o → p < suc n
stands_behind n None p e s = absurd s
stands_behind n (Some q) p e s = let same : q ≡ p = cc in omega (arith, same, s)

-- the groups of an accepted sheet
pub tree_parents : (groups : List Group) → AreATree groups → ParentsStandBefore groups
tree_parents [] h n g is p e = absurd h
tree_parents (root ∷ others) h zero g is p e = absurd (cc (h.0))
tree_parents (root ∷ others) h (suc n) g is p e = stands_behind n g.parent p e (h.1 n g is)
