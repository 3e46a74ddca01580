-- What isn't marked has no row.
use Rattle.std.proofs.Common.{◌≡◌, ℕ, zero, suc, ◌<◌, length, arith, Bool, true, false, not, ◌&&◌, ◌||◌, if◌then◌else◌, List, [], ◌∷◌, ◌++◌, Option, Some, None, is_some, Result, Ok, Err, OnOk, OnErr, refl, ap, sym, ◌∙◌}
use Rattle.std.proofs.Math.ListN.{set}
use Rattle.std.specs.Bool.{OnFalse}
use Rattle.group_scope.specs.Keyed.{Key, has, has_home, has_kind, has_test, home_kind, is_known, is_set, same, test_kind}
use Rattle.group_scope.specs.Scopes.{same_test}
use Rattle.group_scope.specs.contracts.key.HomePartialEq.TheImpl as home_eq
use Rattle.group_scope.specs.declared.entry.Entry.{Entry}
use Rattle.group_scope.specs.declared.key.Home.{Home}
use Rattle.group_scope.specs.declared.key.Home.TheVariants as home
use Rattle.group_scope.specs.declared.key.Test.{Test}
use Rattle.group_scope.specs.declared.key.Test.TheVariants as test
use Rattle.group_scope.specs.declared.marks.Marks.{Marks}
use Rattle.group_scope.proofs.Ordering.{and_both, both}

-- keys that agree are of the same kinds
same_home_kind : (a b : Home) → (home_eq.ghosts).eq a b ≡ true → home_kind a ≡ home_kind b
same_home_kind (home.Own g) (home.Own h) e = refl
same_home_kind (home.Within g) (home.Within h) e = refl
same_home_kind home.Everywhere home.Everywhere e = refl
same_home_kind (home.Own g) _ e = cc
same_home_kind (home.Within g) _ e = cc
same_home_kind home.Everywhere _ e = cc

same_test_kind : (a b : Test) → same_test a b ≡ true → test_kind a ≡ test_kind b
same_test_kind test.Document test.Document e = refl
same_test_kind (test.Name u l) (test.Name v m) e = refl
same_test_kind (test.Prefix u) (test.Prefix v) e = refl
same_test_kind test.AnyElement test.AnyElement e = refl
same_test_kind test.AnyNode test.AnyNode e = refl
same_test_kind test.Chars test.Chars e = refl
same_test_kind test.CData test.CData e = refl
same_test_kind test.Comment test.Comment e = refl
same_test_kind test.AnyPi test.AnyPi e = refl
same_test_kind (test.Pi t) (test.Pi u) e = refl
same_test_kind (test.AttrName u l) (test.AttrName v m) e = refl
same_test_kind (test.AttrPrefix u) (test.AttrPrefix v) e = refl
same_test_kind test.AnyAttr test.AnyAttr e = refl
same_test_kind test.Document _ e = cc
same_test_kind (test.Name u l) _ e = cc
same_test_kind (test.Prefix u) _ e = cc
same_test_kind test.AnyElement _ e = cc
same_test_kind test.AnyNode _ e = cc
same_test_kind test.Chars _ e = cc
same_test_kind test.CData _ e = cc
same_test_kind test.Comment _ e = cc
same_test_kind test.AnyPi _ e = cc
same_test_kind (test.Pi t) _ e = cc
same_test_kind (test.AttrName u l) _ e = cc
same_test_kind (test.AttrPrefix u) _ e = cc
same_test_kind test.AnyAttr _ e = cc

-- numbers agree
abbrev same_number : Option ℕ → Option ℕ → Bool
same_number m n = same_test (test.Prefix m) (test.Prefix n)

both_known : (m n : Option ℕ) → same_number m n ≡ true → is_some m ≡ is_some n
both_known None None e = refl
both_known (Some m) (Some n) e = refl
both_known None (Some n) e = cc
both_known (Some m) None e = cc

names_known : (u l v m : Option ℕ) → (same_number u v && same_number l m) ≡ true → (is_some u && is_some l) ≡ (is_some v && is_some m)
names_known u l v m e =
    let parts = both (same_number u v) (same_number l m) e in
    ap (λ b. b && is_some l) (both_known u v parts.0) ∙ ap (λ b. is_some v && b) (both_known l m parts.1)

same_known : (a b : Test) → same_test a b ≡ true → is_known a ≡ is_known b
same_known test.Document test.Document e = refl
same_known (test.Name u l) (test.Name v m) e = names_known u l v m e
same_known (test.Prefix u) (test.Prefix v) e = both_known u v e
same_known test.AnyElement test.AnyElement e = refl
same_known test.AnyNode test.AnyNode e = refl
same_known test.Chars test.Chars e = refl
same_known test.CData test.CData e = refl
same_known test.Comment test.Comment e = refl
same_known test.AnyPi test.AnyPi e = refl
same_known (test.Pi t) (test.Pi u) e = both_known t u e
same_known (test.AttrName u l) (test.AttrName v m) e = names_known u l v m e
same_known (test.AttrPrefix u) (test.AttrPrefix v) e = both_known u v e
same_known test.AnyAttr test.AnyAttr e = refl
same_known test.Document _ e = cc
same_known (test.Name u l) _ e = cc
same_known (test.Prefix u) _ e = cc
same_known test.AnyElement _ e = cc
same_known test.AnyNode _ e = cc
same_known test.Chars _ e = cc
same_known test.CData _ e = cc
same_known test.Comment _ e = cc
same_known test.AnyPi _ e = cc
same_known (test.Pi t) _ e = cc
same_known (test.AttrName u l) _ e = cc
same_known (test.AttrPrefix u) _ e = cc
same_known test.AnyAttr _ e = cc

same_has_test : (marks : Marks) (a b : Test) → same_test a b ≡ true → has_test marks a ≡ has_test marks b
same_has_test marks a b e =
    ap (λ n. is_set marks.tests n && (marks.unknown || is_known a)) (same_test_kind a b e)
    ∙ ap (λ k. is_set marks.tests (test_kind b) && (marks.unknown || k)) (same_known a b e)

same_has : (marks : Marks) (a b : Key) → same a b ≡ true → has marks a ≡ has marks b
same_has marks a b e =
    let parts = both ((home_eq.ghosts).eq a.home b.home) (same_test a.test b.test) e in
    ap (λ n. is_set marks.homes n && has_test marks a.test) (same_home_kind a.home b.home parts.0)
    ∙ ap (λ h. is_set marks.homes (home_kind b.home) && h) (same_has_test marks a.test b.test parts.1)

set_kept : (marks : List Bool) (i j : ℕ) → is_set marks j ≡ true → is_set (set marks i true) j ≡ true
set_kept [] i j e = e
set_kept (x ∷ xs) zero zero e = refl
set_kept (x ∷ xs) zero (suc j) e = e
set_kept (x ∷ xs) (suc i) zero e = e
set_kept (x ∷ xs) (suc i) (suc j) e = set_kept xs i j e

set_there : (marks : List Bool) (i : ℕ) → i < length marks → is_set (set marks i true) i ≡ true
set_there [] i within = absurd (omega arith)
set_there (x ∷ xs) zero within = refl
set_there (x ∷ xs) (suc i) within = set_there xs i (omega arith)

or_kept : (a b k : Bool) → (a ≡ true → b ≡ true) → (a || k) ≡ true → (b || k) ≡ true
or_kept true b k f e = ap (λ x. x || k) (f refl)
or_kept false true k f e = refl
or_kept false false k f e = e

pub one_or_other : (b k : Bool) → b ≡ k → (not b || k) ≡ true
one_or_other true k e = sym e
one_or_other false k e = refl

-- with the kinds of a key
abbrev with_kinds : Marks → (h t : ℕ) → (unknown : Bool) → Marks
with_kinds marks h t unknown = record { homes = set marks.homes h true; tests = set marks.tests t true; unknown = unknown }

pub kept_with : (marks : Marks) (h t : ℕ) (unknown : Bool) → (marks.unknown ≡ true → unknown ≡ true) → (k : Key) → has marks k ≡ true → has (with_kinds marks h t unknown) k ≡ true
kept_with marks h t unknown grows k e =
    let parts = both (has_home marks k.home) (has_test marks k.test) e in
    let test = both (has_kind marks k.test) (marks.unknown || is_known k.test) parts.1 in
    and_both (is_set (set marks.homes h true) (home_kind k.home)) _ (set_kept marks.homes h (home_kind k.home) parts.0)
    (and_both (is_set (set marks.tests t true) (test_kind k.test)) (unknown || is_known k.test) (set_kept marks.tests t (test_kind k.test) test.0)
    (or_kept marks.unknown unknown (is_known k.test) grows test.1))

pub marked_with : (marks : Marks) (k : Key) (h t : ℕ) (unknown : Bool) → h < length marks.homes → t < length marks.tests → h ≡ home_kind k.home → t ≡ test_kind k.test
    → (unknown || is_known k.test) ≡ true → has (with_kinds marks h t unknown) k ≡ true
marked_with marks k h t unknown home test at_home at_test e =
    and_both (is_set (set marks.homes h true) (home_kind k.home)) _ (ap (is_set (set marks.homes h true)) (sym at_home) ∙ set_there marks.homes h home)
    (and_both (is_set (set marks.tests t true) (test_kind k.test)) (unknown || is_known k.test) (ap (is_set (set marks.tests t true)) (sym at_test) ∙ set_there marks.tests t test) e)

-- what isn't marked now wasn't before
pub unmarked_before : (old new : Marks) → ((other : Key) → has old other ≡ true → has new other ≡ true) → (k : Key) → has new k ≡ false → has old k ≡ false
unmarked_before old new kept k h = by (has old k) refl
  where
    by : (b : Bool) → has old k ≡ b → has old k ≡ false
    by true e = let marked = kept k e in cc
    by false e = e

-- so a row that took an entry is of kinds that are marked
pub unmarked_grown : (old new : Marks) (key : Key) (e : Entry) (before after : Key → List Entry) → has new key ≡ true → ((other : Key) → has old other ≡ true → has new other ≡ true)
    → ((k : Key) → has old k ≡ false → before k ≡ []) → ((other : Key) → after other ≡ (if same key other then before other ++ e ∷ [] else before other))
    → (k : Key) → has new k ≡ false → after k ≡ []
unmarked_grown old new key e before after marked kept empty grown k h = by (same key k) refl
  where
    by : (b : Bool) → same key k ≡ b → after k ≡ []
    by true is = let also = same_has new key k is in cc
    by false is = grown k ∙ ap (λ b. if b then before k ++ e ∷ [] else before k) is ∙ empty k (unmarked_before old new kept k h)

-- and so is one that took none
pub still_marked : {T E : Type 0} (r : Result T E) (old new : Marks) (key : Key) (e : Entry) (before after : Key → List Entry) → has new key ≡ true
    → ((other : Key) → has old other ≡ true → has new other ≡ true) → ((k : Key) → has old k ≡ false → before k ≡ [])
    → OnOk r ((other : Key) → after other ≡ (if same key other then before other ++ e ∷ [] else before other)) → OnErr r ((other : Key) → after other ≡ before other)
    → (k : Key) → has new k ≡ false → after k ≡ []
still_marked (Ok x) old new key e before after marked kept empty ok err = unmarked_grown old new key e before after marked kept empty ok
still_marked (Err x) old new key e before after marked kept empty ok err = λ k h. err k ∙ empty k (unmarked_before old new kept k h)

none_too : (b : Bool) → (b && false) ≡ false
none_too true = refl
none_too false = refl

-- a kind that isn't marked has no row
pub unmarked_kind : (marks : Marks) (rows : Key → List Entry) (t : Test) (b : Bool) → b ≡ has_kind marks t → ((key : Key) → has marks key ≡ false → rows key ≡ [])
    → OnFalse b ((key : Key) → test_kind key.test ≡ test_kind t → rows key ≡ [])
unmarked_kind marks rows t true e empty = tt
unmarked_kind marks rows t false e empty = λ key same.
    empty key
    (ap (λ n. has_home marks key.home && (is_set marks.tests n && (marks.unknown || is_known key.test))) same
    ∙ ap (λ b. has_home marks key.home && (b && (marks.unknown || is_known key.test))) (sym e)
    ∙ none_too (has_home marks key.home))

-- nor has one of which a text has no number, where none is marked
pub unmarked_texts : (marks : Marks) (rows : Key → List Entry) (b : Bool) → b ≡ marks.unknown → ((key : Key) → has marks key ≡ false → rows key ≡ [])
    → OnFalse b ((key : Key) → is_known key.test ≡ false → rows key ≡ [])
unmarked_texts marks rows true e empty = tt
unmarked_texts marks rows false e empty = λ key none.
    empty key
    (ap (λ u. has_home marks key.home && (has_kind marks key.test && (u || is_known key.test))) (sym e)
    ∙ ap (λ k. has_home marks key.home && (has_kind marks key.test && k)) none
    ∙ ap (λ b. has_home marks key.home && b) (none_too (has_kind marks key.test))
    ∙ none_too (has_home marks key.home))
