-- Alternatives that go by their tests fit the nodes for which these are asked.
use Rattle.std.proofs.Common.{◌≡◌, inl, inr, ℕ, suc, ◌+◌, ◌-◌, ◌<◌, ◌==◌, Bool, true, false, not, cond, ◌&&◌, ◌||◌, List, [], ◌∷◌, Option, Some, None, length, get_or, position, encode_utf8_all, string_bytes, refl, ap, sym, subst, ◌∙◌, arith}
use Rattle.std.proofs.lemmas.Bool.{eq-eqb, eqb-true, lt-ltb}
use Rattle.std.proofs.lemmas.List.FromFn.{get_or-range_with_len, length-range_with_len}
use Rattle.std.proofs.lemmas.List.Quantifiers.{position-Some}
use Rattle.std.specs.Cmp.Lexicographic.{bytes_decides}
use Rattle.std.specs.List.{list_all, list_any, position_or_len, range_with_len}
use Rattle.std.specs.Ordering.{int_eq}
use Rattle.std.specs.Str.{bytes_eq}
use Rattle.stx_base.specs.declared.limits.Limits.{Limits}
use Rattle.stx_base.specs.declared.name.Name.{Name}
use Rattle.stx_base.specs.declared.node.NodeTest.{NodeTest}
use Rattle.stx_base.specs.declared.node.NodeTest.TheVariants as test
use Rattle.node_stack.specs.Path.{Node, Path, kind_of, node_at}
use Rattle.node_stack.specs.Test as kind
use Rattle.node_stack.specs.Test.{Kind, passes, same, same_name}
use Rattle.stxpath_eval.specs.Setting.{Setting}
use Rattle.stxpath_syntax.specs.declared.expr.Alternative.{Alternative}
use Rattle.stxpath_syntax.specs.declared.expr.Alternative.TheVariants.{Root, Steps}
use Rattle.stxpath_syntax.specs.declared.expr.Link.{Link}
use Rattle.stxpath_syntax.specs.declared.expr.Link.TheVariants as link
use Rattle.stxpath_syntax.specs.declared.expr.PathStep.{PathStep}
use Rattle.match_patterns.specs.Fits.{fits, is_bare, may_follow, node_passes, step_fits, steps_fit, test_of}
use Rattle.match_patterns.specs.Grouping.{Seen}
use Rattle.match_patterns.specs.Priority.{is_start}
use Rattle.sheet_model.specs.declared.sheet.Sheet.{Sheet}
use Rattle.sheet_model.specs.declared.sheet.Template.{Template}
use Rattle.group_scope.specs.Asking.{AreSure, IsSure, question}
use Rattle.group_scope.specs.Choice.{priority_of, settings}
use Rattle.group_scope.specs.Entries.{goes_by_test}
use Rattle.group_scope.specs.Homes.{is_home}
use Rattle.group_scope.specs.Rows.{Key, row}
use Rattle.group_scope.specs.Scopes.{IsScopeOf, same_test, stands, stands_at}
use Rattle.group_scope.specs.Words.{are_numbered, asked, has_number, is_numbered_template, number, numbered}
use Rattle.group_scope.specs.declared.key.Test.{Test}
use Rattle.group_scope.specs.declared.key.Test.TheVariants as numbered_
use Rattle.group_scope.specs.declared.scope.Scope.{Scope}
use Rattle.group_scope.specs.declared.words.Words.{Words}
use Rattle.group_scope.proofs.Among.{Among, all_among, among_any, any_among, from_contains, get_among, to_all}
use Rattle.group_scope.proofs.Exact.{bool_is}
use Rattle.group_scope.proofs.Finding.{at_found, found_at}
use Rattle.group_scope.proofs.Ordering.{and_both, both}

-- ---- texts with one number

place_within : {A : Type 0} (p : A → Bool) (xs : List A) → list_any p xs ≡ true → position_or_len p xs < length xs
place_within p [] h = cc
place_within p (x ∷ xs) h =
    elim (p x) as (λ b. (b || list_any p xs) ≡ true → cond (not b) (1 + position_or_len p xs) 0 < suc (length xs)) [
      | true ↦ λ k. omega arith
      | false ↦ λ k. omega (arith, place_within p xs k)
    ] h

placed : {A : Type 0} (p : A → Bool) (xs : List A) → list_any p xs ≡ true → position p xs ≡ Some (position_or_len p xs)
placed p xs h = ap (λ b. cond b (Some (position_or_len p xs)) None) (lt-ltb _ _ (place_within p xs h))

-- tests that find one place agree on what stands there
found_by_both : {A : Type 0} (p q : A → Bool) (xs : List A) → list_any p xs ≡ true → position p xs ≡ position q xs → (x : A) × (p x ≡ true) × (q x ≡ true)
found_by_both p q xs h same_place =
    let (d, among, holds) = any_among p xs h in
    let i = position_or_len p xs in
    let at = placed p xs h in (
      get_or xs i d,
      (position-Some p xs i d at).1,
      (position-Some q xs i d (sym same_place ∙ at)).1,
    )

same_text : (words : Words) (a b : List ℕ) → has_number words a ≡ true → number words a ≡ number words b → same b a ≡ true
same_text words a b h same_number =
    let (word, of_a, of_b) = found_by_both (λ word. bytes_eq (encode_utf8_all a) (string_bytes word)) (λ word. bytes_eq (encode_utf8_all b) (string_bytes word)) words.texts.keys h same_number in
    let a_is = (bytes_decides (encode_utf8_all a) (string_bytes word)).0 of_a in
    let b_is = (bytes_decides (encode_utf8_all b) (string_bytes word)).0 of_b in
    (bytes_decides (encode_utf8_all b) (encode_utf8_all a)).1 (b_is ∙ sym a_is)

-- numbers agree
abbrev same_number : Option ℕ → Option ℕ → Bool
same_number m n = same_test (numbered_.Prefix m) (numbered_.Prefix n)

number_is : (m n : Option ℕ) → same_number m n ≡ true → m ≡ n
number_is None None h = refl
number_is None (Some n) h = cc
number_is (Some m) None h = cc
number_is (Some m) (Some n) h = ap (λ x. Some x) (eqb-true m n h)

alike : (words : Words) (a b : List ℕ) → has_number words a ≡ true → same_number (number words a) (number words b) ≡ true → same b a ≡ true
alike words a b h agree = same_text words a b h (number_is (number words a) (number words b) agree)

names_alike : (words : Words) (m n : Name) → (has_number words m.uri && has_number words m.local) ≡ true
    → (same_number (number words m.uri) (number words n.uri) && same_number (number words m.local) (number words n.local)) ≡ true → same_name n m ≡ true
names_alike words m n h agree =
    let in_words = both (has_number words m.uri) (has_number words m.local) h in
    let numbers = both (same_number (number words m.uri) (number words n.uri)) (same_number (number words m.local) (number words n.local)) agree in
    and_both (same n.uri m.uri) (same n.local m.local) (alike words m.uri n.uri in_words.0 numbers.0) (alike words m.local n.local in_words.1 numbers.1)

-- ---- nodes for which a test is asked

abbrev is_it : Test → Option Test → Bool
is_it t None = false
is_it t (Some other) = same_test t other

-- the first of several
first_of : (a : Bool) → (a || false) ≡ true → a ≡ true
first_of true h = refl
first_of false h = cc

of_asked : (words : Words) (t : NodeTest) (k : Kind) → are_numbered words t ≡ true → list_any (is_it (numbered words t)) (asked words k) ≡ true → passes t k ≡ true
of_asked words test.Document kind.Document k h = refl
of_asked words test.Document (kind.Element m) k h = cc
of_asked words test.Document kind.Chars k h = cc
of_asked words test.Document kind.CData k h = cc
of_asked words test.Document kind.Comment k h = cc
of_asked words test.Document (kind.Pi v) k h = cc
of_asked words test.Document (kind.Attribute m) k h = cc
of_asked words (test.Name n) kind.Document k h = cc
of_asked words (test.Name n) (kind.Element m) k h = names_alike words n m k (first_of _ h)
of_asked words (test.Name n) kind.Chars k h = cc
of_asked words (test.Name n) kind.CData k h = cc
of_asked words (test.Name n) kind.Comment k h = cc
of_asked words (test.Name n) (kind.Pi v) k h = cc
of_asked words (test.Name n) (kind.Attribute m) k h = cc
of_asked words (test.Prefix b) kind.Document k h = cc
of_asked words (test.Prefix b) (kind.Element m) k h = alike words b.uri m.uri k (first_of _ h)
of_asked words (test.Prefix b) kind.Chars k h = cc
of_asked words (test.Prefix b) kind.CData k h = cc
of_asked words (test.Prefix b) kind.Comment k h = cc
of_asked words (test.Prefix b) (kind.Pi v) k h = cc
of_asked words (test.Prefix b) (kind.Attribute m) k h = cc
of_asked words test.AnyElement kind.Document k h = cc
of_asked words test.AnyElement (kind.Element m) k h = refl
of_asked words test.AnyElement kind.Chars k h = cc
of_asked words test.AnyElement kind.CData k h = cc
of_asked words test.AnyElement kind.Comment k h = cc
of_asked words test.AnyElement (kind.Pi v) k h = cc
of_asked words test.AnyElement (kind.Attribute m) k h = cc
of_asked words test.AnyNode kind.Document k h = cc
of_asked words test.AnyNode (kind.Element m) k h = refl
of_asked words test.AnyNode kind.Chars k h = refl
of_asked words test.AnyNode kind.CData k h = refl
of_asked words test.AnyNode kind.Comment k h = refl
of_asked words test.AnyNode (kind.Pi v) k h = refl
of_asked words test.AnyNode (kind.Attribute m) k h = cc
of_asked words test.Chars kind.Document k h = cc
of_asked words test.Chars (kind.Element m) k h = cc
of_asked words test.Chars kind.Chars k h = refl
of_asked words test.Chars kind.CData k h = refl
of_asked words test.Chars kind.Comment k h = cc
of_asked words test.Chars (kind.Pi v) k h = cc
of_asked words test.Chars (kind.Attribute m) k h = cc
of_asked words test.CData kind.Document k h = cc
of_asked words test.CData (kind.Element m) k h = cc
of_asked words test.CData kind.Chars k h = cc
of_asked words test.CData kind.CData k h = refl
of_asked words test.CData kind.Comment k h = cc
of_asked words test.CData (kind.Pi v) k h = cc
of_asked words test.CData (kind.Attribute m) k h = cc
of_asked words test.Comment kind.Document k h = cc
of_asked words test.Comment (kind.Element m) k h = cc
of_asked words test.Comment kind.Chars k h = cc
of_asked words test.Comment kind.CData k h = cc
of_asked words test.Comment kind.Comment k h = refl
of_asked words test.Comment (kind.Pi v) k h = cc
of_asked words test.Comment (kind.Attribute m) k h = cc
of_asked words test.AnyPi kind.Document k h = cc
of_asked words test.AnyPi (kind.Element m) k h = cc
of_asked words test.AnyPi kind.Chars k h = cc
of_asked words test.AnyPi kind.CData k h = cc
of_asked words test.AnyPi kind.Comment k h = cc
of_asked words test.AnyPi (kind.Pi v) k h = refl
of_asked words test.AnyPi (kind.Attribute m) k h = cc
of_asked words (test.Pi u) kind.Document k h = cc
of_asked words (test.Pi u) (kind.Element m) k h = cc
of_asked words (test.Pi u) kind.Chars k h = cc
of_asked words (test.Pi u) kind.CData k h = cc
of_asked words (test.Pi u) kind.Comment k h = cc
of_asked words (test.Pi u) (kind.Pi v) k h = alike words u v k (first_of _ h)
of_asked words (test.Pi u) (kind.Attribute m) k h = cc
of_asked words (test.AttrName n) kind.Document k h = cc
of_asked words (test.AttrName n) (kind.Element m) k h = cc
of_asked words (test.AttrName n) kind.Chars k h = cc
of_asked words (test.AttrName n) kind.CData k h = cc
of_asked words (test.AttrName n) kind.Comment k h = cc
of_asked words (test.AttrName n) (kind.Pi v) k h = cc
of_asked words (test.AttrName n) (kind.Attribute m) k h = names_alike words n m k (first_of _ h)
of_asked words (test.AttrPrefix b) kind.Document k h = cc
of_asked words (test.AttrPrefix b) (kind.Element m) k h = cc
of_asked words (test.AttrPrefix b) kind.Chars k h = cc
of_asked words (test.AttrPrefix b) kind.CData k h = cc
of_asked words (test.AttrPrefix b) kind.Comment k h = cc
of_asked words (test.AttrPrefix b) (kind.Pi v) k h = cc
of_asked words (test.AttrPrefix b) (kind.Attribute m) k h = alike words b.uri m.uri k (first_of _ h)
of_asked words test.AnyAttr kind.Document k h = cc
of_asked words test.AnyAttr (kind.Element m) k h = cc
of_asked words test.AnyAttr kind.Chars k h = cc
of_asked words test.AnyAttr kind.CData k h = cc
of_asked words test.AnyAttr kind.Comment k h = cc
of_asked words test.AnyAttr (kind.Pi v) k h = cc
of_asked words test.AnyAttr (kind.Attribute m) k h = refl

-- a node passes the tests for which rows are asked
pub passed : (words : Words) (t : NodeTest) (k : Kind) (x : Test) → are_numbered words t ≡ true → same_test (numbered words t) x ≡ true → Among (asked words k) (Some x) → passes t k ≡ true
passed words t k x in_words agree among = of_asked words t k in_words (among_any (is_it (numbered words t)) (asked words k) (Some x) among agree)

-- ---- alternatives that go by their tests

start_is : (l : Link) → is_start l ≡ true → l ≡ link.Start
start_is link.Start h = refl
start_is link.Slash h = cc
start_is link.Deep h = cc

none_asked : {A : Type 0} (p : A → Bool) (xs : List A) → (length xs == 0) ≡ true → list_all p xs ≡ true
none_asked p [] h = refl
none_asked p (x ∷ xs) h = absurd (omega (arith, eqb-true (suc (length xs)) 0 h))

-- the current node's place is one of those that steps may be given
own_place : (n : ℕ) → Among (range_with_len 0 (n + 1)) n
own_place n =
    from_contains (range_with_len 0 (n + 1)) n (
      n,
      omega (arith, length-range_with_len 0 (n + 1)),
      get_or-range_with_len 0 (n + 1) n n (omega arith) ∙ none_before n,
    )
  where
    none_before : (n : ℕ) → 0 + n ≡ n
    none_before n = omega arith

one_step_fits : (s : PathStep) (g : Setting) → s.link ≡ link.Start → step_fits s g g.place ≡ true → steps_fit (s ∷ []) g None ≡ true
one_step_fits s g is h =
    among_any (λ place. may_follow s.link None place && step_fits s g place && steps_fit [] g (Some place)) (range_with_len 0 (g.place + 1)) g.place (own_place g.place)
    (and_both (may_follow s.link None g.place && step_fits s g g.place) (steps_fit [] g (Some g.place))
    (and_both (may_follow s.link None g.place) (step_fits s g g.place) (ap (λ l. may_follow l None g.place) is) h) (eq-eqb g.place g.place refl))

by_test_fits : (a : Alternative) (g : Setting) → goes_by_test a ≡ true → node_passes (test_of a) (node_at g.path g.place) ≡ true → fits a g ≡ true
by_test_fits Root g h p = p
by_test_fits (Steps []) g h p = cc
by_test_fits (Steps (s ∷ [])) g h p =
    let parts = both (is_start s.link) (is_bare s) h in
    one_step_fits s g (start_is s.link parts.0) (and_both (node_passes s.test (node_at g.path g.place)) _ p (none_asked _ s.predicates parts.1))
by_test_fits (Steps (s ∷ t ∷ steps)) g h p = cc

all_of : {A : Type 0} (p : A → Bool) (xs : List A) (x : A) → list_all p xs ≡ true → Among xs x → p x ≡ true
all_of p [] x h among = absurd among
all_of p (y ∷ xs) x h (inl is) = subst (λ z. p z ≡ true) is (both (p y) (list_all p xs) h).0
all_of p (y ∷ xs) x h (inr among) = all_of p xs x (both (p y) (list_all p xs) h).1 among

-- In the rows that are asked for a node each of them fits it.
pub sure : (s : Sheet) (active : List ℕ) (seen : Seen) (limits : Limits) (path : Path) (scope : Scope) (n : Node) (tests : List (Option Test))
    → node_at path (length path.nodes - 1) ≡ Some n → IsScopeOf s scope → tests ≡ asked scope.words (kind_of n)
    → AreSure (question s active seen limits path) scope.rows tests
sure s active seen limits path scope n tests is_node built are_asked = λ h x in_tests.
    let q = question s active seen limits path in
    let key : Key = record { home = h; test = x } in
    to_all (IsSure q) (row scope.rows key) (λ e among by_test.
    let (t, a, is_t, is_a, at) = found_at (stands_at s scope.words key e) s e (all_among (λ e. stands s scope.words key e ≡ true) (row scope.rows key) e (built.rows key).only among) in
    let tested = both (same_test (numbered scope.words (test_of a)) x) _ (both (is_home h s.groups t) _ at).1 in
    let goes = bool_is e.by_test (goes_by_test a) (both (int_eq e.priority (priority_of t a)) _ tested.1).1 in
    let in_template = all_of (is_numbered_template scope.words) s.templates t built.words (get_among s.templates e.template t is_t) in
    let in_words = all_of (λ (a : Alternative). are_numbered scope.words (test_of a)) t.pattern.alternatives a in_template (get_among t.pattern.alternatives e.alternative a is_a) in
    let passes_it = passed scope.words (test_of a) (kind_of n) x in_words tested.0 (subst (λ ts. Among ts (Some x)) are_asked (from_contains tests (Some x) in_tests)) in
    let here = subst (λ o. node_passes (test_of a) o ≡ true) (sym is_node) passes_it in
    at_found false (λ (t : Template) (a : Alternative). fits a (settings seen limits path t.group)) s e t a is_t is_a
    ∙ by_test_fits a (settings seen limits path t.group) (sym goes ∙ by_test) here)
