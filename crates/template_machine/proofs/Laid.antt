-- New copies are laid over a group's, and taken off again.
use Rattle.std.proofs.Common.{◌≡◌, ℕ, zero, suc, ◌+◌, ◌-◌, Bool, true, false, List, [], ◌∷◌, map, Some, refl, ap, sym, ◌∙◌, arith}
use Rattle.std.specs.Prelude.{◌==◌, if◌then◌else◌, unwrap_or}
use Rattle.std.specs.List.{slice_get, slice_set}
use Rattle.std.proofs.lemmas.Option.{slice_get_within}
use Rattle.template_machine.specs.Lists.{rest_of}
use Rattle.template_machine.specs.Standing.{Free, Shelf, Standing, in_group, scope_over}

-- one more of a group's copies, and of each of its buffers
abbrev pub scope_laid : (group : ℕ) → Standing → Standing
scope_laid group s = record s {
  copies = slice_set s.copies group (unwrap_or (slice_get s.copies group) 0 + 1);
  shelves = map (in_group (λ us. Free ∷ us) group) s.shelves;
}

shelf_back : (b : Bool) (group : ℕ) (x : Shelf) → (x.group == group) ≡ b → in_group rest_of group (in_group (λ us. Free ∷ us) group x) ≡ x
shelf_back true group x e =
    let laid : Shelf = record x { copies = Free ∷ x.copies } in
    ap (λ b. in_group rest_of group (if b then laid else x)) e ∙ ap (λ b. if b then x else laid) e
shelf_back false group x e = ap (λ b. in_group rest_of group (if b then record x { copies = Free ∷ x.copies } else x)) e ∙ ap (λ b. if b then record x { copies = rest_of x.copies } else x) e

shelves_back : (group : ℕ) (shelves : List Shelf) → map (in_group rest_of group) (map (in_group (λ us. Free ∷ us) group) shelves) ≡ shelves
shelves_back group [] = refl
shelves_back group (x ∷ xs) =
    ap (λ y. y ∷ map (in_group rest_of group) (map (in_group (λ us. Free ∷ us) group) xs)) (shelf_back (x.group == group) group x refl)
    ∙ ap (λ ys. x ∷ ys) (shelves_back group xs)

got_set : (xs : List ℕ) (n x y : ℕ) → slice_get xs n ≡ Some x → slice_get (slice_set xs n y) n ≡ Some y
got_set [] n x y is = absurd (omega (arith, slice_get_within [] n x is))
got_set (z ∷ xs) zero x y is = refl
got_set (z ∷ xs) (suc n) x y is = got_set xs n x y is

set_back : (xs : List ℕ) (n x y : ℕ) → slice_get xs n ≡ Some x → slice_set (slice_set xs n y) n x ≡ xs
set_back [] n x y is = absurd (omega (arith, slice_get_within [] n x is))
set_back (z ∷ xs) zero x y is = let same : z ≡ x = cc in ap (λ w. w ∷ xs) (sym same)
set_back (z ∷ xs) (suc n) x y is = ap (λ l. z ∷ l) (set_back xs n x y is)

copies_back : (xs : List ℕ) (n x : ℕ) → slice_get xs n ≡ Some x
    → slice_set (slice_set xs n (unwrap_or (slice_get xs n) 0 + 1)) n (unwrap_or (slice_get (slice_set xs n (unwrap_or (slice_get xs n) 0 + 1)) n) 0 - 1) ≡ xs
copies_back xs n x is =
    let more : unwrap_or (slice_get xs n) 0 + 1 ≡ x + 1 = ap (λ o. unwrap_or o 0 + 1) is in
    let less : x + 1 - 1 ≡ x = omega arith in
    ap (λ y. slice_set (slice_set xs n y) n (unwrap_or (slice_get (slice_set xs n y) n) 0 - 1)) more
    ∙ ap (λ o. slice_set (slice_set xs n (x + 1)) n (unwrap_or o 0 - 1)) (got_set xs n x (x + 1) is)
    ∙ ap (slice_set (slice_set xs n (x + 1)) n) less
    ∙ set_back xs n x (x + 1) is

-- what was before is again
pub scope_back : (group count : ℕ) (s : Standing) → slice_get s.copies group ≡ Some count → scope_over true group (scope_laid group s) ≡ s
scope_back group count s is =
    ap (λ l. record s { copies = l; shelves = map (in_group rest_of group) (map (in_group (λ us. Free ∷ us) group) s.shelves) }) (copies_back s.copies group count is)
    ∙ ap (λ l. record s { shelves = l }) (shelves_back group s.shelves)
