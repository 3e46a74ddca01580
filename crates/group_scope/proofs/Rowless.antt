-- Where no test has a row, nothing is chosen.
use Rattle.std.proofs.Common.{◌≡◌, ℕ, ◌-◌, false, List, [], ◌∷◌, ◌++◌, Option, Some, None, is_some, length, take, refl, ap, sym, ◌∙◌}
use Rattle.std.specs.List.{flat_map}
use Rattle.stx_base.specs.declared.limits.Limits.{Limits}
use Rattle.stx_base.specs.declared.name.Name.{Name}
use Rattle.node_stack.specs.Path.{Node, Path, kind_of, node_at}
use Rattle.match_patterns.specs.Grouping.{Seen}
use Rattle.sheet_model.specs.declared.sheet.Sheet.{Sheet}
use Rattle.group_scope.specs.Asking.{Asked, outer_groups, question, ranks, ranks_of_home, ranks_of_test, within_of}
use Rattle.group_scope.specs.Choice.{chosen, settings}
use Rattle.group_scope.specs.Homes.{own_of}
use Rattle.group_scope.specs.Rank.{improved}
use Rattle.group_scope.specs.Rows.{Key, NoRows, is_known, row, row_of_test, rows_of, test_kind}
use Rattle.group_scope.specs.Scopes.{IsScopeOf}
use Rattle.group_scope.specs.Words.{asked, number, of_element}
use Rattle.group_scope.specs.declared.key.Home.{Home}
use Rattle.group_scope.specs.declared.key.Home.TheVariants as home
use Rattle.group_scope.specs.declared.key.Test.{Test}
use Rattle.group_scope.specs.declared.key.Test.TheVariants as test
use Rattle.group_scope.specs.declared.rank.Category.{Category}
use Rattle.group_scope.specs.declared.rank.Category.TheVariants.{Own, Around, Everywhere}
use Rattle.group_scope.specs.declared.rows.Rows.{Rows}
use Rattle.group_scope.specs.declared.scope.Scope.{Scope}
use Rattle.group_scope.specs.declared.words.Words.{Words}
use Rattle.group_scope.proofs.Exact.{chosen_in_turn}

first_none : {A : Type 0} (a b : List A) → a ++ b ≡ [] → a ≡ []
first_none [] b e = refl
first_none (x ∷ a) b e = cc

rest_none : {A : Type 0} (a b : List A) → a ++ b ≡ [] → b ≡ []
rest_none [] b e = e
rest_none (x ∷ a) b e = cc

pub both_none : {A : Type 0} (a b : List A) → a ≡ [] → b ≡ [] → a ++ b ≡ []
both_none a b e f = ap (λ l. l ++ b) e ∙ f

-- no row of a kind
abbrev pub NoneOf : Rows → Test → Type 0
NoneOf rows t = (key : Key) → test_kind key.test ≡ test_kind t → row rows key ≡ []

-- one test without a row, before others
pub one_less : (rows : Rows) (t u : Test) (tests : List (Option Test)) → test_kind u ≡ test_kind t → NoneOf rows t → NoRows rows tests → NoRows rows (Some u ∷ tests)
one_less rows t u tests same none others = λ h. both_none (row_of_test rows h (Some u)) (rows_of rows h tests) (none (record { home = h; test = u }) same) (others h)

pub no_tests : (rows : Rows) → NoRows rows []
no_tests rows = λ h. refl

-- an element's tests by its name, and that of any node
pub name_then_any : (rows : Rows) (words : Words) (name : Name) → NoRows rows (take 3 (of_element words name)) → NoneOf rows test.AnyNode → NoRows rows (of_element words name)
name_then_any rows words name named any = λ h.
    let first = row_of_test rows h (Some (test.Name (number words name.uri) (number words name.local))) in
    let second = row_of_test rows h (Some (test.Prefix (number words name.uri))) in
    let third = row_of_test rows h (Some test.AnyElement) in
    let rest = rest_none first (second ++ (third ++ [])) (named h) in
    both_none first _ (first_none first (second ++ (third ++ [])) (named h))
    (both_none second _ (first_none second (third ++ []) rest)
    (both_none third _ (first_none third [] (rest_none second (third ++ []) rest)) (both_none (row_of_test rows h (Some test.AnyNode)) [] (any (record { home = h; test = test.AnyNode }) refl) refl)))

pub section_then_any : (rows : Rows) → NoRows rows (Some test.CData ∷ Some test.Chars ∷ []) → NoneOf rows test.AnyNode → NoRows rows (Some test.CData ∷ Some test.Chars ∷ Some test.AnyNode ∷ None ∷ [])
section_then_any rows both any = λ h.
    let first = row_of_test rows h (Some test.CData) in
    let second = row_of_test rows h (Some test.Chars) in
    let rest = rest_none first (second ++ []) (both h) in
    both_none first _ (first_none first (second ++ []) (both h))
    (both_none second _ (first_none second [] rest) (both_none (row_of_test rows h (Some test.AnyNode)) [] (any (record { home = h; test = test.AnyNode }) refl) refl))

pub no_names : (rows : Rows) (words : Words) (name : Name) → NoneOf rows (test.Name None None) → NoneOf rows (test.Prefix None) → NoneOf rows test.AnyElement
    → NoRows rows (take 3 (of_element words name))
no_names rows words name names prefixes any = λ h.
    both_none (row_of_test rows h (Some (test.Name (number words name.uri) (number words name.local)))) _ (names (record { home = h; test = test.Name (number words name.uri) (number words name.local) }) refl)
    (both_none (row_of_test rows h (Some (test.Prefix (number words name.uri)))) _ (prefixes (record { home = h; test = test.Prefix (number words name.uri) }) refl)
    (both_none (row_of_test rows h (Some test.AnyElement)) [] (any (record { home = h; test = test.AnyElement }) refl) refl))

unnumbered : (u l : Option ℕ) → l ≡ None → is_known (test.Name u l) ≡ false
unnumbered None l e = refl
unnumbered (Some m) l e = ap is_some e

pub no_name : (rows : Rows) (words : Words) (name : Name) → number words name.local ≡ None → ((key : Key) → is_known key.test ≡ false → row rows key ≡ [])
    → NoneOf rows (test.Prefix None) → NoneOf rows test.AnyElement → NoRows rows (take 3 (of_element words name))
no_name rows words name none known prefixes any = λ h.
    both_none (row_of_test rows h (Some (test.Name (number words name.uri) (number words name.local)))) _
    (known (record { home = h; test = test.Name (number words name.uri) (number words name.local) }) (unnumbered (number words name.uri) (number words name.local) none))
    (both_none (row_of_test rows h (Some (test.Prefix (number words name.uri)))) _ (prefixes (record { home = h; test = test.Prefix (number words name.uri) }) refl)
    (both_none (row_of_test rows h (Some test.AnyElement)) [] (any (record { home = h; test = test.AnyElement }) refl) refl))

no_rank : (q : Asked) (rows : Rows) (c : Category) (h : Home) (test : Option Test) → row_of_test rows h test ≡ [] → ranks_of_test q rows c h test ≡ []
no_rank q rows c h None e = refl
no_rank q rows c h (Some test) e = ap (ranks q c) e

no_ranks : (q : Asked) (rows : Rows) (c : Category) (h : Home) (tests : List (Option Test)) → rows_of rows h tests ≡ [] → ranks_of_home q rows tests c h ≡ []
no_ranks q rows c h [] e = refl
no_ranks q rows c h (test ∷ tests) e =
    ap (λ l. l ++ ranks_of_home q rows tests c h) (no_rank q rows c h test (first_none (row_of_test rows h test) (rows_of rows h tests) e))
    ∙ no_ranks q rows c h tests (rest_none (row_of_test rows h test) (rows_of rows h tests) e)

none_within : (q : Asked) (rows : Rows) (tests : List (Option Test)) (groups : List ℕ) → ((h : Home) → rows_of rows h tests ≡ [])
    → flat_map (λ p. ranks_of_home q rows tests Around (within_of p)) groups ≡ []
none_within q rows tests [] none = refl
none_within q rows tests (p ∷ groups) none =
    ap (λ l. l ++ flat_map (λ p. ranks_of_home q rows tests Around (within_of p)) groups) (no_ranks q rows Around (within_of p) tests (none (within_of p)))
    ∙ none_within q rows tests groups none

pub none_chosen : (s : Sheet) (base : ℕ) (active : List ℕ) (seen : Seen) (limits : Limits) (path : Path) (scope : Scope) (n : Node) (tests : List (Option Test))
    → node_at path (length path.nodes - 1) ≡ Some n → IsScopeOf s scope → tests ≡ asked scope.words (kind_of n) → ((h : Home) → rows_of scope.rows h tests ≡ [])
    → None ≡ chosen s base active (settings seen limits path)
none_chosen s base active seen limits path scope n tests is_node built are_asked none =
    let q = question s active seen limits path in
    chosen_in_turn s base active seen limits path scope n tests (length s.groups) None None None is_node built are_asked refl
    (sym (ap (improved None) (no_ranks q scope.rows Own (own_of base) tests (none (own_of base)))))
    (sym (ap (improved None) (none_within q scope.rows tests (outer_groups s.groups (length s.groups) base) none)))
    (sym (ap (improved None) (no_ranks q scope.rows Everywhere home.Everywhere tests (none home.Everywhere))))
