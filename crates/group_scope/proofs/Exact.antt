-- The rows that are asked have the best of all alternatives.
use Rattle.std.proofs.Common.{◌≡◌, inl, inr, ℕ, ◌+◌, ◌-◌, ◌==◌, Bool, true, false, not, List, ◌++◌, Option, Some, None, length, filter, refl, ap, sym, subst, ◌∙◌, arith}
use Rattle.std.proofs.lemmas.Bool.{eqb-true}
use Rattle.std.proofs.lemmas.Grind.{common_steps}
use Rattle.std.specs.Bool.{beq}
use Rattle.std.specs.Ordering.{int_eq}
use Rattle.node_stack.specs.Path.{Node, Path, kind_of, node_at}
use Rattle.stx_base.specs.declared.limits.Limits.{Limits}
use Rattle.stxpath_eval.specs.Setting.{Setting}
use Rattle.stxpath_syntax.specs.declared.expr.Alternative.{Alternative}
use Rattle.match_patterns.specs.Fits.{fits, node_passes, test_of}
use Rattle.match_patterns.specs.Grouping.{Seen}
use Rattle.sheet_model.specs.declared.sheet.Sheet.{Sheet}
use Rattle.sheet_model.specs.declared.sheet.Template.{Template}
use Rattle.group_scope.specs.Asking.{Asked, all_ranks, can_be, entry_fits, is_active, outer_groups, question, ranks_around, ranks_of_home, ranks_of_test, within_of}
use Rattle.group_scope.specs.Choice.{Candidate, category, chosen, does_fit, fitting, is_free, priority_of, rank_of, settings, visible}
use Rattle.group_scope.specs.Entries.{goes_by_test, is_same, ranked}
use Rattle.group_scope.specs.Homes.{is_home, own_of}
use Rattle.group_scope.specs.Rank.{best_of, improved, is_better}
use Rattle.group_scope.specs.Rows.{Key, row}
use Rattle.group_scope.specs.Scopes.{IsScopeOf, same_test, stands, stands_at}
use Rattle.group_scope.specs.Words.{asked, numbered}
use Rattle.group_scope.specs.contracts.key.TestEq.TheImpl.Laws.{laws-law}
use Rattle.group_scope.specs.declared.entry.Entry.{Entry}
use Rattle.group_scope.specs.declared.key.Home.{Home}
use Rattle.group_scope.specs.declared.key.Home.TheVariants as home
use Rattle.group_scope.specs.declared.key.Test.{Test}
use Rattle.group_scope.specs.declared.rank.Category.{Category}
use Rattle.group_scope.specs.declared.rank.Category.TheVariants.{Own, Around, Everywhere}
use Rattle.group_scope.specs.declared.rank.Rank.{Rank}
use Rattle.group_scope.specs.declared.scope.Scope.{Scope}
use Rattle.group_scope.proofs.Among.{Among, all_among, among_cases, among_filter, among_filter_from, among_flat, among_flat_from, among_left, among_map, among_map_from, among_right, any_among}
use Rattle.group_scope.proofs.Best.{same_best}
use Rattle.group_scope.proofs.Finding.{at_found, found_at, from_all, to_all}
use Rattle.group_scope.proofs.Homing.{IsAskedIn, has_category, stands_in}
use Rattle.group_scope.proofs.Last.{fitting_passes}
use Rattle.group_scope.proofs.Ordering.{and_both, both}
use Rattle.group_scope.proofs.Passing.{asked_for}
use Rattle.group_scope.proofs.Scanning.{ranks_from}
use Rattle.group_scope.proofs.Turns.{candidate, improved-append}

pub int_same : (x : _) → int_eq x x ≡ true
int_same x = grind (arith, common_steps)

pub int_is : (x y : _) → int_eq x y ≡ true → x ≡ y
int_is x y h = grind (arith, common_steps, h)

pub bool_same : (b : Bool) → beq b b ≡ true
bool_same true = refl
bool_same false = refl

pub bool_is : (a b : Bool) → beq a b ≡ true → a ≡ b
bool_is true true h = refl
bool_is true false h = cc
bool_is false true h = cc
bool_is false false h = refl

-- entries that agree are one
entry_is : (e f : Entry) → is_same e f ≡ true → e ≡ f
entry_is e f h =
    let parts = both (int_eq e.priority f.priority) _ h in
    let numbers = both (e.template == f.template) _ parts.1 in
    let others = both (e.alternative == f.alternative) (beq e.by_test f.by_test) numbers.1 in
    ap (λ x. record { priority = x; template = e.template; alternative = e.alternative; by_test = e.by_test }) (int_is e.priority f.priority parts.0)
    ∙ ap (λ x. record { priority = f.priority; template = x; alternative = e.alternative; by_test = e.by_test }) (eqb-true e.template f.template numbers.0)
    ∙ ap (λ x. record { priority = f.priority; template = f.template; alternative = x; by_test = e.by_test }) (eqb-true e.alternative f.alternative others.0)
    ∙ ap (λ x. record { priority = f.priority; template = f.template; alternative = f.alternative; by_test = x }) (bool_is e.by_test f.by_test others.1)

-- what a home's rows give is among all that is asked
asked_of_home : (q : Asked) (scope : Scope) (tests : List (Option Test)) (base : ℕ) (c : Category) (h : Home) (r : Rank) → IsAskedIn q.sheet base c h
    → Among (ranks_of_home q scope.rows tests c h) r → Among (all_ranks q scope.rows tests base) r
asked_of_home q scope tests base Own h r is among =
    among_left _ _ r (subst (λ k. Among (ranks_of_home q scope.rows tests Own k) r) is among)
asked_of_home q scope tests base Around h r (p, outer, is) among =
    among_right (ranks_of_home q scope.rows tests Own (own_of base)) _ r
    (among_left (ranks_around q scope.rows tests (length q.sheet.groups) base) _ r
    (among_flat (λ p. ranks_of_home q scope.rows tests Around (within_of p)) (outer_groups q.sheet.groups (length q.sheet.groups) base) p r outer
    (subst (λ k. Among (ranks_of_home q scope.rows tests Around k) r) is among)))
asked_of_home q scope tests base Everywhere h r is among =
    among_right (ranks_of_home q scope.rows tests Own (own_of base)) _ r
    (among_right (ranks_around q scope.rows tests (length q.sheet.groups) base) _ r
    (subst (λ k. Among (ranks_of_home q scope.rows tests Everywhere k) r) is among))

-- and nothing else is
of_some_home : (q : Asked) (scope : Scope) (tests : List (Option Test)) (base : ℕ) (r : Rank) → Among (all_ranks q scope.rows tests base) r
    → (c : Category) × (h : Home) × IsAskedIn q.sheet base c h × Among (ranks_of_home q scope.rows tests c h) r
of_some_home q scope tests base r among =
    elim (among_cases (ranks_of_home q scope.rows tests Own (own_of base)) _ r among) [
      | inl p ↦ (Own, own_of base, refl, p)
      | inr rest ↦ elim (among_cases (ranks_around q scope.rows tests (length q.sheet.groups) base) _ r rest) [
        | inl p ↦
            let (g, outer, within) = among_flat_from (λ p. ranks_of_home q scope.rows tests Around (within_of p)) (outer_groups q.sheet.groups (length q.sheet.groups) base) r p in
            (Around, within_of g, (g, outer, refl), within)
        | inr p ↦ (Everywhere, home.Everywhere, refl, p)
      ]
    ]

-- A row's entry is an alternative of a template with a category, and by it no better than in the row's.
of_candidate : (s : Sheet) (base : ℕ) (active : List ℕ) (sees : (group : ℕ) → Setting) (scope : Scope) → IsScopeOf s scope
    → (c : Category) (h : Home) → IsAskedIn s base c h → (test : Test) (e : Entry) → Among (row scope.rows (record { home = h; test = test })) e
    → can_be (record { sheet = s; active = active; settings = sees }) e ≡ true
    → (r : Rank) × Among (fitting sees (filter (is_free active) (visible s base))) r × (is_better (ranked e c) r ≡ false)
of_candidate s base active sees scope built c h is_asked test e among can =
    let q : Asked = record { sheet = s; active = active; settings = sees } in
    let key : Key = record { home = h; test = test } in
    let (t, a, is_t, is_a, at) = found_at (stands_at s scope.words key e) s e (all_among (λ e. stands s scope.words key e ≡ true) (row scope.rows key) e (built.rows key).only among) in
    let parts = both (is_home h s.groups t) _ at in
    let tested = both (same_test (numbered scope.words (test_of a)) test) _ parts.1 in
    let priority = int_is e.priority (priority_of t a) (both (int_eq e.priority (priority_of t a)) _ tested.1).0 in
    let (x, of_t, no_better) = has_category s base t c h is_asked parts.0 in
    let free_and_fits = both (not (is_active active e.template)) (entry_fits q e) can in
    let fits_there = sym (at_found false (λ (t : Template) (a : Alternative). fits a (sees t.group)) s e t a is_t is_a) ∙ free_and_fits.1 in
    let one = candidate e.template t x e.alternative a in
    let seen = to_all (category s base) 0 s.templates e.template t x e.alternative a is_t of_t is_a in
    let in_visible = subst (λ n. Among (visible s base) (candidate n t x e.alternative a)) (none_before e.template) seen in
    let in_free = among_filter (is_free active) (visible s base) one in_visible free_and_fits.0 in
    let in_fitting = among_filter (does_fit sees) (filter (is_free active) (visible s base)) one in_free fits_there in
    let in_ranks = among_map (λ (c : Candidate). c.rank) (filter (does_fit sees) (filter (is_free active) (visible s base))) one in_fitting in (
      rank_of t a x e.template e.alternative,
      in_ranks,
      subst (λ p. is_better (ranked e c) (record { category = x; priority = p; template = e.template; alternative = e.alternative }) ≡ false) priority (no_better e),
    )
  where
    none_before : (n : ℕ) → 0 + n ≡ n
    none_before n = omega arith

-- what of all that is asked can be chosen is no better than something that the base group sees
no_better_asked : (s : Sheet) (base : ℕ) (active : List ℕ) (sees : (group : ℕ) → Setting) (scope : Scope) (tests : List (Option Test)) → IsScopeOf s scope
    → (r : Rank) → Among (all_ranks (record { sheet = s; active = active; settings = sees }) scope.rows tests base) r
    → (x : Rank) × Among (fitting sees (filter (is_free active) (visible s base))) x × (is_better r x ≡ false)
no_better_asked s base active sees scope tests built r among =
    let (c, h, is_asked, of_home) = of_some_home q scope tests base r among in
    let (test, in_tests, of_test) = among_flat_from (ranks_of_test q scope.rows c h) tests r of_home in
    at c h is_asked test of_test
  where
    q : Asked
    q = record { sheet = s; active = active; settings = sees }

    at : (c : Category) (h : Home) → IsAskedIn s base c h → (test : Option Test) → Among (ranks_of_test (record { sheet = s; active = active; settings = sees }) scope.rows c h test) r
        → (x : Rank) × Among (fitting sees (filter (is_free active) (visible s base))) x × (is_better r x ≡ false)
    at c h is_asked None k = absurd k
    at c h is_asked (Some test) k =
        let (e, within, can, is) = ranks_from (record { sheet = s; active = active; settings = sees }) c (row scope.rows (record { home = h; test = test })) r k in
        let (x, in_fitting, no_better) = of_candidate s base active sees scope built c h is_asked test e within can in
        (x, in_fitting, subst (λ y. is_better y x ≡ false) is no_better)

-- an alternative that a base group sees, and that can be chosen, is asked
all_asked : (s : Sheet) (base : ℕ) (active : List ℕ) (seen : Seen) (limits : Limits) (path : Path) (scope : Scope) (n : Node)
    → node_at path (length path.nodes - 1) ≡ Some n → IsScopeOf s scope
    → (r : Rank) → Among (fitting (settings seen limits path) (filter (is_free active) (visible s base))) r
    → Among (all_ranks (question s active seen limits path) scope.rows (asked scope.words (kind_of n)) base) r
all_asked s base active seen limits path scope n is_node built r among =
    let sees = settings seen limits path in
    let q = question s active seen limits path in
    let (c, in_fitting, is_rank) = among_map_from (λ (c : Candidate). c.rank) (filter (does_fit sees) (filter (is_free active) (visible s base))) r among in
    let (in_free, c_fits) = among_filter_from (does_fit sees) (filter (is_free active) (visible s base)) c in_fitting in
    let (in_visible, c_free) = among_filter_from (is_free active) (visible s base) c in_free in
    let (k, t, x, j, a, is_t, of_t, is_a, is_c) = from_all (category s base) 0 s.templates c in_visible in
    let named = ap (λ n. candidate n t x j a) (none_before k) ∙ is_c in
    let e : Entry = record { priority = priority_of t a; template = k; alternative = j; by_test = goes_by_test a } in
    let a_fits = subst (λ y. does_fit sees y ≡ true) (sym named) c_fits in
    let e_free = subst (λ y. is_free active y ≡ true) (sym named) c_free in
    let can = and_both (not (is_active active k)) (entry_fits q e) e_free (at_found false (λ (t : Template) (a : Alternative). fits a (sees t.group)) s e t a is_t is_a ∙ a_fits) in
    let (h, is_asked, is_in) = stands_in s base t x of_t in
    let test = numbered scope.words (test_of a) in
    let key : Key = record { home = h; test = test } in
    let at_home = and_both (is_home h s.groups t) _ is_in (and_both (same_test test test) _ (laws-law.refl test) (and_both (int_eq (priority_of t a) (priority_of t a)) _ (int_same (priority_of t a)) (bool_same (goes_by_test a)))) in
    let e_stands = at_found false (stands_at s scope.words key e) s e t a is_t is_a ∙ at_home in
    let (f, f_in, e_f) = any_among (is_same e) (row scope.rows key) ((built.rows key).each e e_stands) in
    let e_in = subst (λ y. Among (row scope.rows key) y) (sym (entry_is e f e_f)) f_in in
    let in_ranks = among_map (λ e. ranked e x) (filter (can_be q) (row scope.rows key)) e (among_filter (can_be q) (row scope.rows key) e e_in can) in
    let passes_it = subst (λ o. node_passes (test_of a) o ≡ true) is_node (fitting_passes a (sees t.group) a_fits) in
    let in_home = among_flat (ranks_of_test q scope.rows x h) (asked scope.words (kind_of n)) (Some test) (ranked e x) (asked_for scope.words (test_of a) (kind_of n) passes_it) in_ranks in
    subst (λ y. Among (all_ranks q scope.rows (asked scope.words (kind_of n)) base) y) (ap (λ (c : Candidate). c.rank) named ∙ is_rank)
    (asked_of_home q scope (asked scope.words (kind_of n)) base x h (ranked e x) is_asked in_home)
  where
    none_before : (n : ℕ) → n ≡ 0 + n
    none_before n = omega arith

-- So the best of what is asked is the choice.
pub exact : (s : Sheet) (base : ℕ) (active : List ℕ) (seen : Seen) (limits : Limits) (path : Path) (scope : Scope) (n : Node)
    → node_at path (length path.nodes - 1) ≡ Some n → IsScopeOf s scope
    → best_of (all_ranks (question s active seen limits path) scope.rows (asked scope.words (kind_of n)) base) ≡ chosen s base active (settings seen limits path)
exact s base active seen limits path scope n is_node built =
    same_best (fitting (settings seen limits path) (filter (is_free active) (visible s base)))
    (all_ranks (question s active seen limits path) scope.rows (asked scope.words (kind_of n)) base)
    (all_asked s base active seen limits path scope n is_node built)
    (no_better_asked s base active (settings seen limits path) scope (asked scope.words (kind_of n)) built)

-- The best of the three categories in turn is the choice.
pub chosen_in_turn : (s : Sheet) (base : ℕ) (active : List ℕ) (seen : Seen) (limits : Limits) (path : Path) (scope : Scope) (n : Node) (tests : List (Option Test)) (levels : ℕ) (own inner r : Option Rank)
    → node_at path (length path.nodes - 1) ≡ Some n → IsScopeOf s scope → tests ≡ asked scope.words (kind_of n) → levels ≡ length s.groups
    → own ≡ improved None (ranks_of_home (question s active seen limits path) scope.rows tests Own (own_of base))
    → inner ≡ improved own (ranks_around (question s active seen limits path) scope.rows tests levels base)
    → r ≡ improved inner (ranks_of_home (question s active seen limits path) scope.rows tests Everywhere home.Everywhere)
    → r ≡ chosen s base active (settings seen limits path)
chosen_in_turn s base active seen limits path scope n tests levels own inner r is_node built are_asked all_levels own_is inner_is r_is =
    let q = question s active seen limits path in
    let of_own = ranks_of_home q scope.rows tests Own (own_of base) in
    let of_around = ranks_around q scope.rows tests (length s.groups) base in
    let of_all = ranks_of_home q scope.rows tests Everywhere home.Everywhere in
    r_is ∙ ap (λ b. improved b of_all) (inner_is ∙ ap (λ l. improved own (ranks_around q scope.rows tests l base)) all_levels ∙ ap (λ b. improved b of_around) own_is)
    ∙ sym (improved-append None of_own (of_around ++ of_all) ∙ improved-append (improved None of_own) of_around of_all)
    ∙ ap (λ ts. best_of (all_ranks q scope.rows ts base)) are_asked
    ∙ exact s base active seen limits path scope n is_node built
