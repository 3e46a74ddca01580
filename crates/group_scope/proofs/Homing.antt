-- In whose rows the templates of each category stand.
use Rattle.std.proofs.Common.{◌≡◌, inl, inr, ℕ, zero, suc, ◌==◌, Bool, true, false, ◌&&◌, if◌then◌else◌, List, ◌∷◌, Option, Some, None, length, refl, ap, sym, subst, ◌∙◌}
use Rattle.std.proofs.lemmas.Bool.{eqb-true, eq-eqb}
use Rattle.std.specs.List.{list_any}
use Rattle.sheet_model.specs.Groups.{around, around_parent, around_within, parent_of}
use Rattle.sheet_model.specs.declared.sheet.Group.{Group}
use Rattle.sheet_model.specs.declared.sheet.Sheet.{Sheet}
use Rattle.sheet_model.specs.declared.sheet.Template.{Template}
use Rattle.group_scope.specs.Asking.{outer_groups, within_of}
use Rattle.group_scope.specs.Choice.{category, is_for_all, is_for_groups_within, is_number, is_own}
use Rattle.group_scope.specs.Entries.{ranked}
use Rattle.group_scope.specs.Homes.{is_home, own_of}
use Rattle.group_scope.specs.Rank.{is_better}
use Rattle.group_scope.specs.declared.entry.Entry.{Entry}
use Rattle.group_scope.specs.declared.key.Home.{Home}
use Rattle.group_scope.specs.declared.key.Home.TheVariants as home
use Rattle.group_scope.specs.declared.rank.Category.{Category}
use Rattle.group_scope.specs.declared.rank.Category.TheVariants.{Own, Around, Everywhere}
use Rattle.group_scope.proofs.Among.{Among, among_any, any_among}
use Rattle.group_scope.proofs.Ordering.{and_both, both, never_itself, or_left}

of_parent : (f g : ℕ → List ℕ) → ((p : ℕ) → f p ≡ g p) → (o : Option ℕ) → around_parent f o ≡ around_parent g o
of_parent f g h None = refl
of_parent f g h (Some p) = h p

-- a group and those around it
around_is : (groups : List Group) (levels group : ℕ) → around_within groups levels group ≡ group ∷ outer_groups groups levels group
around_is groups zero g = refl
around_is groups (suc n) g = ap (λ l. g ∷ l) (of_parent (around_within groups n) (λ p. p ∷ outer_groups groups n p) (around_is groups n) (parent_of groups g))

-- the homes whose rows are asked for a base group, with their categories
abbrev pub IsAskedIn : Sheet → (base : ℕ) → Category → Home → Type 0
IsAskedIn s base Own h = h ≡ own_of base
IsAskedIn s base Around h = (p : ℕ) × Among (outer_groups s.groups (length s.groups) base) p × (h ≡ within_of p)
IsAskedIn s base Everywhere h = h ≡ home.Everywhere

abbrev chosen_category : (own within everywhere : Bool) → Option Category
chosen_category own within everywhere = if own then Some Own else if within then Some Around else if everywhere then Some Everywhere else None

-- A template that has a category stands in the rows of a home that is asked in it.
pub stands_in : (s : Sheet) (base : ℕ) (t : Template) (x : Category) → category s base t ≡ Some x
    → (h : Home) × IsAskedIn s base x h × (is_home h s.groups t ≡ true)
stands_in s base t x h = by_own (is_own s.groups base t) refl h
  where
    by_own : (b : Bool) → is_own s.groups base t ≡ b
        → chosen_category b (is_for_groups_within t.visibility && list_any (λ g. g == t.group) (around s.groups base)) (is_for_all t.visibility) ≡ Some x
        → (h : Home) × IsAskedIn s base x h × (is_home h s.groups t ≡ true)
    by_own true is h = let same : Own ≡ x = cc in (own_of base, subst (λ y. IsAskedIn s base y (own_of base)) same refl, is)
    by_own false is h = by_around (is_for_groups_within t.visibility && list_any (λ g. g == t.group) (around s.groups base)) refl h
      where
        by_around : (b : Bool) → (is_for_groups_within t.visibility && list_any (λ g. g == t.group) (around s.groups base)) ≡ b
            → chosen_category false b (is_for_all t.visibility) ≡ Some x
            → (h : Home) × IsAskedIn s base x h × (is_home h s.groups t ≡ true)
        by_around true around_it h =
            let parts = both (is_for_groups_within t.visibility) (list_any (λ g. g == t.group) (around s.groups base)) around_it in
            let (p, among, same) = any_among (λ g. g == t.group) (around s.groups base) parts.1 in
            let is_group = eqb-true p t.group same in
            let category_is : Around ≡ x = cc in
            let in_outer = elim (subst (λ l. Among l p) (around_is s.groups (length s.groups) base) among) as (λ m. Among (outer_groups s.groups (length s.groups) base) p) [
              | inl is_base ↦ absurd (not_both (or_left (t.group == base) (t.public && is_number base (parent_of s.groups t.group)) (eq-eqb t.group base (sym (is_base ∙ is_group)))) is)
              | inr outer ↦ outer
            ] in
            (within_of p, subst (λ y. IsAskedIn s base y (within_of p)) category_is (p, in_outer, refl), and_both (is_for_groups_within t.visibility) (t.group == p) parts.0 (eq-eqb t.group p (sym is_group)))
          where
            not_both : {b : Bool} → b ≡ true → b ≡ false → ⊥
            not_both t f = cc
        by_around false around_it h = by_all (is_for_all t.visibility) refl h
          where
            by_all : (b : Bool) → is_for_all t.visibility ≡ b → chosen_category false false b ≡ Some x → (h : Home) × IsAskedIn s base x h × (is_home h s.groups t ≡ true)
            by_all true for_all h = let same : Everywhere ≡ x = cc in (home.Everywhere, subst (λ y. IsAskedIn s base y home.Everywhere) same refl, for_all)
            by_all false for_all h = cc

-- of two categories the first is no less
abbrev pub IsNoBetter : Category → Category → Type 0
IsNoBetter c x = (e : Entry) → is_better (ranked e c) (ranked e x) ≡ false

itself : (c : Category) → IsNoBetter c c
itself c = λ e. never_itself (ranked e c)

-- A template that stands in the rows of a home which is asked in a category has that category or a less one.
pub has_category : (s : Sheet) (base : ℕ) (t : Template) (c : Category) (h : Home) → IsAskedIn s base c h → is_home h s.groups t ≡ true
    → (x : Category) × (category s base t ≡ Some x) × IsNoBetter c x
has_category s base t Own h asked stands =
    let own = subst (λ k. is_home k s.groups t ≡ true) asked stands in
    (Own, ap (λ b. chosen_category b (is_for_groups_within t.visibility && list_any (λ g. g == t.group) (around s.groups base)) (is_for_all t.visibility)) own, itself Own)
has_category s base t Around h (p, among, asked) stands =
    let parts = both (is_for_groups_within t.visibility) (t.group == p) (subst (λ k. is_home k s.groups t ≡ true) asked stands) in
    let in_around = subst (λ l. Among l p) (sym (around_is s.groups (length s.groups) base)) (inr among) in
    let seen = and_both (is_for_groups_within t.visibility) (list_any (λ g. g == t.group) (around s.groups base)) parts.0 (among_any (λ g. g == t.group) (around s.groups base) p in_around (eq-eqb p t.group (sym (eqb-true t.group p parts.1)))) in
    elim (is_own s.groups base t) as (λ b. (x : Category) × (chosen_category b (is_for_groups_within t.visibility && list_any (λ g. g == t.group) (around s.groups base)) (is_for_all t.visibility) ≡ Some x) × IsNoBetter Around x) [
      | true ↦ (Own, refl, λ e. refl)
      | false ↦ (Around, ap (λ b. chosen_category false b (is_for_all t.visibility)) seen, itself Around)
    ]
has_category s base t Everywhere h asked stands =
    let for_all = subst (λ k. is_home k s.groups t ≡ true) asked stands in
    elim (is_own s.groups base t) as (λ b. (x : Category) × (chosen_category b (is_for_groups_within t.visibility && list_any (λ g. g == t.group) (around s.groups base)) (is_for_all t.visibility) ≡ Some x) × IsNoBetter Everywhere x) [
      | true ↦ (Own, refl, λ e. refl)
      | false ↦
          elim (is_for_groups_within t.visibility && list_any (λ g. g == t.group) (around s.groups base)) as (λ b. (x : Category) × (chosen_category false b (is_for_all t.visibility) ≡ Some x) × IsNoBetter Everywhere x) [
            | true ↦ (Around, refl, λ e. refl)
            | false ↦ (Everywhere, ap (λ b. chosen_category false false b) for_all, itself Everywhere)
          ]
    ]
