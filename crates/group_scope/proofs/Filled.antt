-- What rows have that were filled with all alternatives.
use Rattle.std.proofs.Common.{◌≡◌, inl, inr, ℕ, ◌+◌, ◌==◌, Bool, true, false, ◌&&◌, if◌then◌else◌, List, [], ◌∷◌, Option, Some, None, IsPermutation, option_map, slice_get, refl, ap, sym, subst, ◌∙◌, arith}
use Rattle.std.proofs.lemmas.Bool.{eqb-true, eq-eqb}
use Rattle.std.proofs.lemmas.List.Sorted.{Contains-permutation}
use Rattle.std.specs.List.{flat_map}
use Rattle.std.specs.Bool.{beq}
use Rattle.std.specs.Ordering.{int_eq}
use Rattle.stxpath_syntax.specs.declared.expr.Alternative.{Alternative}
use Rattle.match_patterns.specs.Fits.{test_of}
use Rattle.sheet_model.specs.Groups.{parent_of}
use Rattle.sheet_model.specs.declared.sheet.Group.{Group}
use Rattle.sheet_model.specs.declared.sheet.Sheet.{Sheet}
use Rattle.sheet_model.specs.declared.sheet.Template.{Template}
use Rattle.sheet_model.specs.declared.sheet.Visibility.{Visibility}
use Rattle.sheet_model.specs.declared.sheet.Visibility.TheVariants as visibility
use Rattle.group_scope.specs.Choice.{all_from, is_for_all, is_for_groups_within, is_number, priority_of}
use Rattle.group_scope.specs.Entries.{IsBestFirst, goes_by_test, is_same, ranked}
use Rattle.group_scope.specs.Filling.{AreFilledBy, as_own, entered_of, entries_from, entry_of}
use Rattle.group_scope.specs.Homes.{homes, is_home, own_of, shared_home}
use Rattle.group_scope.specs.Rows.{Key, entered, row, same}
use Rattle.group_scope.specs.Scopes.{IsRow, same_test, stands, stands_at}
use Rattle.group_scope.specs.Words.{numbered}
use Rattle.group_scope.specs.contracts.key.HomeEq.TheImpl.Laws.{laws-law}
use Rattle.group_scope.specs.contracts.key.HomePartialEq.TheImpl as home_eq
use Rattle.group_scope.specs.declared.entry.Entry.{Entry}
use Rattle.group_scope.specs.declared.key.Home.{Home}
use Rattle.group_scope.specs.declared.key.Home.TheVariants.{Own, Within, Everywhere}
use Rattle.group_scope.specs.declared.key.Test.{Test}
use Rattle.group_scope.specs.declared.rank.Category.TheVariants as category
use Rattle.group_scope.specs.declared.rows.Rows.{Rows}
use Rattle.group_scope.specs.declared.words.Words.{Words}
use Rattle.group_scope.proofs.Among.{Among, all_pairs, among_any, among_flat, among_flat_from, among_map, among_map_from, flat_in_turn, from_contains, in_turn, to_all, to_contains}
use Rattle.group_scope.proofs.Exact.{bool_is, bool_same, int_is, int_same}
use Rattle.group_scope.proofs.Finding.{at_found, found_at, from_all}
use Rattle.group_scope.proofs.Finding as finding
use Rattle.group_scope.proofs.Ordering.{and_both, both, never_itself, or_cases, or_left, or_right}
use Rattle.group_scope.proofs.Scanning.{NotBehind}
use Rattle.group_scope.proofs.Turns.{candidate}

home_is : (h k : Home) → (home_eq.ghosts).eq h k ≡ true → h ≡ k
home_is (Own g) (Own k) h = ap (λ x. Own x) (eqb-true g k h)
home_is (Own g) (Within k) h = cc
home_is (Own g) Everywhere h = cc
home_is (Within g) (Own k) h = cc
home_is (Within g) (Within k) h = ap (λ x. Within x) (eqb-true g k h)
home_is (Within g) Everywhere h = cc
home_is Everywhere (Own k) h = cc
home_is Everywhere (Within k) h = cc
home_is Everywhere Everywhere h = refl

key_parts : (h : Home) (test : Test) (key : Key) → same (record { home = h; test = test }) key ≡ true → (h ≡ key.home) × (same_test test key.test ≡ true)
key_parts h test key is =
    let parts = both ((home_eq.ghosts).eq h key.home) (same_test test key.test) is in
    (home_is h key.home parts.0, parts.1)

key_whole : (h : Home) (test : Test) (key : Key) → h ≡ key.home → same_test test key.test ≡ true → same (record { home = h; test = test }) key ≡ true
key_whole h test key is same =
    and_both ((home_eq.ghosts).eq h key.home) (same_test test key.test) (subst (λ k. (home_eq.ghosts).eq h k ≡ true) is (laws-law.refl h)) same

abbrev ComesFrom : List (Option Home) → Test → Key → Entry → Entry → Type 0
ComesFrom hs test key e f = (e ≡ f) × ((h : Home) × Among hs (Some h) × (same (record { home = h; test = test }) key ≡ true))

one_more : (k : Option Home) (hs : List (Option Home)) (test : Test) (key : Key) (e f : Entry) → ComesFrom hs test key e f → ComesFrom (k ∷ hs) test key e f
one_more k hs test key e f (is, (h, in_homes, at)) = (is, (h, inr in_homes, at))

entered_here : (k : Home) (hs : List (Option Home)) (test : Test) (key : Key) (e f : Entry)
    → (Among (entered hs test key e) f → ComesFrom hs test key e f)
    → (b : Bool) → same (record { home = k; test = test }) key ≡ b → Among (if b then e ∷ entered hs test key e else entered hs test key e) f → ComesFrom (Some k ∷ hs) test key e f
entered_here k hs test key e f others true at (inl p) = (p, (k, inl refl, at))
entered_here k hs test key e f others true at (inr p) = one_more (Some k) hs test key e f (others p)
entered_here k hs test key e f others false at p = one_more (Some k) hs test key e f (others p)

entered_from : (hs : List (Option Home)) (test : Test) (key : Key) (e f : Entry) → Among (entered hs test key e) f → ComesFrom hs test key e f
entered_from [] test key e f among = absurd among
entered_from (None ∷ hs) test key e f among = one_more None hs test key e f (entered_from hs test key e f among)
entered_from (Some k ∷ hs) test key e f among = entered_here k hs test key e f (entered_from hs test key e f) (same (record { home = k; test = test }) key) refl among

entered_to : (hs : List (Option Home)) (test : Test) (key : Key) (e : Entry) (h : Home) → Among hs (Some h) → same (record { home = h; test = test }) key ≡ true
    → Among (entered hs test key e) e
entered_to [] test key e h among at = absurd among
entered_to (None ∷ hs) test key e h (inl p) at = cc
entered_to (None ∷ hs) test key e h (inr p) at = entered_to hs test key e h p at
entered_to (Some k ∷ hs) test key e h (inl p) at =
    let is : k ≡ h = cc in
    let at_k = subst (λ x. same (record { home = x; test = test }) key ≡ true) (sym is) at in
    subst (λ b. Among (if b then e ∷ entered hs test key e else entered hs test key e) e) (sym at_k) (inl refl)
entered_to (Some k ∷ hs) test key e h (inr p) at =
    elim (same (record { home = k; test = test }) key) as (λ b. Among (if b then e ∷ entered hs test key e else entered hs test key e) e) [
      | true ↦ inl refl
      | false ↦ entered_to hs test key e h p at
    ]

some_is : {A : Type 0} (x y : A) → Some x ≡ Some y → x ≡ y
some_is x y h = cc

-- the homes of a template are those in whose rows it stands
listed_home : (groups : List Group) (t : Template) (h : Home) → Among (homes groups t) (Some h) → is_home h groups t ≡ true
listed_home groups t h (inl p) =
    subst (λ k. is_home k groups t ≡ true) (some_is (own_of t.group) h p) (or_left (t.group == t.group) _ (eq-eqb t.group t.group refl))
listed_home groups t h (inr (inl p)) = publicly t.public refl p
  where
    parented : (o : Option ℕ) → parent_of groups t.group ≡ o → t.public ≡ true → option_map own_of o ≡ Some h → is_home h groups t ≡ true
    parented None of_t public k = cc
    parented (Some g) of_t public k =
        let number = ap (is_number g) of_t ∙ eq-eqb g g refl in
        subst (λ x. is_home x groups t ≡ true) (some_is (own_of g) h k)
        (or_right (t.group == g) _ (and_both t.public (is_number g (parent_of groups t.group)) public number))

    publicly : (b : Bool) → t.public ≡ b → (if b then option_map own_of (parent_of groups t.group) else None) ≡ Some h → is_home h groups t ≡ true
    publicly true public k = parented (parent_of groups t.group) refl public k
    publicly false public k = cc
listed_home groups t h (inr (inr (inl p))) = shared t.visibility refl p
  where
    shared : (v : Visibility) → t.visibility ≡ v → shared_home v t.group ≡ Some h → is_home h groups t ≡ true
    shared visibility.Local is k = cc
    shared visibility.Group is k =
        subst (λ x. is_home x groups t ≡ true) (some_is (Within t.group) h k) (and_both (is_for_groups_within t.visibility) (t.group == t.group) (ap is_for_groups_within is) (eq-eqb t.group t.group refl))
    shared visibility.Global is k = subst (λ x. is_home x groups t ≡ true) (some_is Everywhere h k) (ap is_for_all is)
listed_home groups t h (inr (inr (inr p))) = absurd p

home_listed : (groups : List Group) (t : Template) (h : Home) → is_home h groups t ≡ true → Among (homes groups t) (Some h)
home_listed groups t (Own g) is =
    elim (or_cases (t.group == g) (t.public && is_number g (parent_of groups t.group)) is) [
      | inl p ↦ inl (ap (λ n. Some (Own n)) (eqb-true t.group g p))
      | inr p ↦
          let parts = both t.public (is_number g (parent_of groups t.group)) p in
          inr (inl (ap (λ b. if b then option_map own_of (parent_of groups t.group) else None) parts.0 ∙ numbered_home (parent_of groups t.group) parts.1))
    ]
  where
    numbered_home : (o : Option ℕ) → is_number g o ≡ true → option_map own_of o ≡ Some (Own g)
    numbered_home None h = cc
    numbered_home (Some n) h = ap (λ x. Some (Own x)) (eqb-true n g h)
home_listed groups t (Within g) is =
    let parts = both (is_for_groups_within t.visibility) (t.group == g) is in
    inr (inr (inl (shared t.visibility parts.0 ∙ ap (λ n. Some (Within n)) (eqb-true t.group g parts.1))))
  where
    shared : (v : Visibility) → is_for_groups_within v ≡ true → shared_home v t.group ≡ Some (Within t.group)
    shared visibility.Local h = cc
    shared visibility.Group h = refl
    shared visibility.Global h = cc
home_listed groups t Everywhere is = inr (inr (inl (shared t.visibility is)))
  where
    shared : (v : Visibility) → is_for_all v ≡ true → shared_home v t.group ≡ Some Everywhere
    shared visibility.Local h = cc
    shared visibility.Group h = cc
    shared visibility.Global h = refl

-- an entry is an alternative of the sheet, with what it is chosen by
entry_found : (ts : List Template) (e : Entry) → Among (entries_from 0 ts) e
    → (t : Template) × (a : Alternative) × (slice_get ts e.template ≡ Some t) × (slice_get t.pattern.alternatives e.alternative ≡ Some a)
    × (priority_of t a ≡ e.priority) × (goes_by_test a ≡ e.by_test)
entry_found ts e among =
    let (c, in_all, is_e) = among_map_from entry_of (all_from as_own 0 ts) e among in
    let (k, t, x, j, a, is_t, of_t, is_a, is_c) = from_all as_own 0 ts c in_all in
    let whole = ap entry_of is_c ∙ is_e in (
      t,
      a,
      subst (λ n. slice_get ts n ≡ Some t) (none_before k ∙ ap (λ (y : Entry). y.template) whole) is_t,
      subst (λ n. slice_get t.pattern.alternatives n ≡ Some a) (ap (λ (y : Entry). y.alternative) whole) is_a,
      ap (λ (y : Entry). y.priority) whole,
      ap (λ (y : Entry). y.by_test) whole,
    )
  where
    none_before : (n : ℕ) → n ≡ 0 + n
    none_before n = omega arith

-- and each alternative is there
entry_listed : (ts : List Template) (e : Entry) (t : Template) (a : Alternative)
    → slice_get ts e.template ≡ Some t → slice_get t.pattern.alternatives e.alternative ≡ Some a → priority_of t a ≡ e.priority → goes_by_test a ≡ e.by_test → Among (entries_from 0 ts) e
entry_listed ts e t a is_t is_a is_priority is_by_test =
    let in_all = finding.to_all as_own 0 ts e.template t category.Own e.alternative a is_t refl is_a in
    let placed = among_map entry_of (all_from as_own 0 ts) (candidate (0 + e.template) t category.Own e.alternative a) in_all in
    subst (λ b. Among (entries_from 0 ts) (record { priority = e.priority; template = e.template; alternative = e.alternative; by_test = b })) is_by_test
    (subst (λ p. Among (entries_from 0 ts) (record { priority = p; template = e.template; alternative = e.alternative; by_test = goes_by_test a })) is_priority
    (subst (λ n. Among (entries_from 0 ts) (record { priority = priority_of t a; template = n; alternative = e.alternative; by_test = goes_by_test a })) (none_before e.template) placed))
  where
    none_before : (n : ℕ) → 0 + n ≡ n
    none_before n = omega arith

-- what the row under a key gets of an entry is the entry
entered_is : (s : Sheet) (words : Words) (key : Key) (es : List Entry) → ((e : Entry) → Among es e → Among (entries_from 0 s.templates) e)
    → (e f : Entry) → Among es e → Among (entered_of s words key e) f → (e ≡ f) × (stands s words key e ≡ true)
entered_is s words key es within e f among in_row =
    let (t, a, is_t, is_a, is_priority, is_by_test) = entry_found s.templates e (within e among) in
    let entered_here = subst (λ l. Among l f) (at_found [] (λ (t : Template) (a : Alternative). entered (homes s.groups t) (numbered words (test_of a)) key e) s e t a is_t is_a) in_row in
    let (is, (h, in_homes, at)) = entered_from (homes s.groups t) (numbered words (test_of a)) key e f entered_here in
    let (is_key_home, is_key_test) = key_parts h (numbered words (test_of a)) key at in
    let is_in = subst (λ k. is_home k s.groups t ≡ true) is_key_home (listed_home s.groups t h in_homes) in
    let priorities = subst (λ p. int_eq p (priority_of t a) ≡ true) is_priority (int_same (priority_of t a)) in
    let tests_alone = subst (λ b. beq b (goes_by_test a) ≡ true) is_by_test (bool_same (goes_by_test a)) in
    let as_said = and_both (int_eq e.priority (priority_of t a)) _ priorities tests_alone in
    let holds = and_both (is_home key.home s.groups t) _ is_in (and_both (same_test (numbered words (test_of a)) key.test) _ is_key_test as_said) in
    (is, at_found false (stands_at s words key e) s e t a is_t is_a ∙ holds)

-- Rows that were filled with all alternatives, the best first, are those of the sheet.
pub filled : (s : Sheet) (words : Words) (es : List Entry) (rows : Rows) → IsPermutation (entries_from 0 s.templates) es → IsPermutation es (entries_from 0 s.templates)
    → IsBestFirst es → AreFilledBy s words es rows → (key : Key) → IsRow s words key (row rows key)
filled s words es rows all_there none_else ordered filled_by key =
    let within : (e : Entry) → Among es e → Among (entries_from 0 s.templates) e = λ e among. from_contains _ e (Contains-permutation es (entries_from 0 s.templates) e none_else (to_contains es e among)) in
    let gets = entered_of s words key in
    subst (IsRow s words key) (sym (filled_by key)) (record {
      only = to_all (λ e. stands s words key e ≡ true) (flat_map gets es) (λ f among.
          let (e, in_es, in_row) = among_flat_from gets es f among in
          let (is, e_stands) = entered_is s words key es within e f in_es in_row in
          subst (λ x. stands s words key x ≡ true) is e_stands);
      each = λ e e_stands.
          let (t, a, is_t, is_a, at) = found_at (stands_at s words key e) s e e_stands in
          let parts = both (is_home key.home s.groups t) _ at in
          let others = both (same_test (numbered words (test_of a)) key.test) _ parts.1 in
          let as_said = both (int_eq e.priority (priority_of t a)) (beq e.by_test (goes_by_test a)) others.1 in
          let listed = entry_listed s.templates e t a is_t is_a (sym (int_is e.priority (priority_of t a) as_said.0)) (sym (bool_is e.by_test (goes_by_test a) as_said.1)) in
          let in_es = from_contains es e (Contains-permutation (entries_from 0 s.templates) es e all_there (to_contains (entries_from 0 s.templates) e listed)) in
          let entered_here = entered_to (homes s.groups t) (numbered words (test_of a)) key e key.home (home_listed s.groups t key.home parts.0) (key_whole key.home (numbered words (test_of a)) key refl others.0) in
          let in_row = subst (λ l. Among l e) (sym (at_found [] (λ (t : Template) (a : Alternative). entered (homes s.groups t) (numbered words (test_of a)) key e) s e t a is_t is_a)) entered_here in
          among_any (is_same e) (flat_map gets es) e (among_flat gets es e e in_es in_row) (itself e);
      best_first = all_pairs NotBehind (flat_map gets es) (flat_in_turn NotBehind gets es (λ e. never_itself (ranked e category.Own)) (λ e f in_es in_row. (entered_is s words key es within e f in_es in_row).0) (in_turn NotBehind es ordered));
    })
  where
    itself : (e : Entry) → is_same e e ≡ true
    itself e = and_both (int_eq e.priority e.priority) _ (int_same e.priority) (and_both (e.template == e.template) _ (eq-eqb e.template e.template refl)
        (and_both (e.alternative == e.alternative) (beq e.by_test e.by_test) (eq-eqb e.alternative e.alternative refl) (bool_same e.by_test)))
