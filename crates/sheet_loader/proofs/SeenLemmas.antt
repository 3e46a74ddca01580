-- What groups see, name by name and group by group.
use Rattle.std.proofs.Common.{◌≡◌, ℕ, suc, Bool, true, false, ◌&&◌, ◌||◌, ◌==◌, List, [], ◌∷◌, Option, refl, ap, sym, ◌∙◌, eq-eqb}
use Rattle.std.proofs.lemmas.Bool.{eqb-true}
use Rattle.std.specs.List.{list_any}
use Rattle.stx_base.specs.declared.name.Name.{Name}
use Rattle.sheet_model.specs.Groups.{around_parent, around_within, parent_of}
use Rattle.sheet_model.specs.Names.{is_same}
use Rattle.sheet_model.specs.declared.sheet.Group.{Group}

pub any_alike : {A : Type 0} (f g : A → Bool) → ((a : A) → f a ≡ g a) → (xs : List A) → list_any f xs ≡ list_any g xs
any_alike f g h [] = refl
any_alike f g h (x ∷ xs) = ap (λ t. t || list_any f xs) (h x) ∙ ap (λ t. g x || t) (any_alike f g h xs)

no_one : {A : Type 0} (xs : List A) → false ≡ list_any (λ (x : A). false) xs
no_one [] = refl
no_one (x ∷ xs) = no_one xs

or_turns : (a b c d : Bool) → ((a || b) || (c || d)) ≡ ((a || c) || (b || d))
or_turns true b c d = refl
or_turns false true true d = refl
or_turns false true false d = refl
or_turns false false true d = refl
or_turns false false false d = refl

any_or : {A : Type 0} (f g : A → Bool) (xs : List A) → (list_any f xs || list_any g xs) ≡ list_any (λ x. f x || g x) xs
any_or f g [] = refl
any_or f g (x ∷ xs) = or_turns (f x) (list_any f xs) (g x) (list_any g xs) ∙ ap (λ t. (f x || g x) || t) (any_or f g xs)

-- some one of these fits some one of those, or the other way round
turned : {A B : Type 0} (fits : A → B → Bool) (xs : List A) (ys : List B) → list_any (λ x. list_any (fits x) ys) xs ≡ list_any (λ y. list_any (λ x. fits x y) xs) ys
turned fits [] ys = no_one ys
turned fits (x ∷ xs) ys = ap (λ t. list_any (fits x) ys || t) (turned fits xs ys) ∙ any_or (fits x) (λ y. list_any (λ x. fits x y) xs) ys

both_or : (a r s : Bool) → ((a && s) || (r && s)) ≡ ((a || r) && s)
both_or true true true = refl
both_or true true false = refl
both_or true false true = refl
both_or true false false = refl
both_or false r s = refl

-- two tests agree where each follows from the other
pub by_turns : (a b : Bool) → (a ≡ true → b ≡ true) → (b ≡ true → a ≡ true) → a ≡ b
by_turns true b f g = sym (f refl)
by_turns false true f g = g refl
by_turns false false f g = refl

pub eq_turns : (a b : ℕ) → (a == b) ≡ (b == a)
eq_turns a b = by_turns (a == b) (b == a) (λ h. eq-eqb b a (sym (eqb-true a b h))) (λ h. eq-eqb a b (sym (eqb-true b a h)))

one_group : (group : ℕ) (s : Bool) (gs : List ℕ) → list_any (λ g. (group == g) && s) gs ≡ (list_any (λ g. g == group) gs && s)
one_group group s [] = refl
one_group group s (g ∷ gs) =
    ap (λ t. ((group == g) && s) || t) (one_group group s gs)
    ∙ both_or (group == g) (list_any (λ g. g == group) gs) s
    ∙ ap (λ t. (t || list_any (λ g. g == group) gs) && s) (eq_turns group g)

-- a group of these has the name, or the group of one that has the name is among these
pub seen : {A : Type 0} (group : A → ℕ) (name : A → Name) (n : Name) (gs : List ℕ) (xs : List A)
    → list_any (λ g. list_any (λ x. group x == g && is_same (name x) n) xs) gs ≡ list_any (λ x. list_any (λ g. g == group x) gs && is_same (name x) n) xs
seen group name n gs xs =
    turned (λ g x. group x == g && is_same (name x) n) gs xs
    ∙ any_alike (λ x. list_any (λ g. group x == g && is_same (name x) n) gs) (λ x. list_any (λ g. g == group x) gs && is_same (name x) n)
    (λ x. one_group (group x) (is_same (name x) n) gs) xs

-- where a group doesn't fit those around it are left
pub seen_around : (fits : ℕ → Bool) (groups : List Group) (levels g : ℕ) (p : Option ℕ) → fits g ≡ false → parent_of groups g ≡ p
    → list_any fits (around_within groups (suc levels) g) ≡ list_any fits (around_parent (around_within groups levels) p)
seen_around fits groups levels g p h e =
    ap (λ t. t || list_any fits (around_parent (around_within groups levels) (parent_of groups g))) h
    ∙ ap (λ o. list_any fits (around_parent (around_within groups levels) o)) e
