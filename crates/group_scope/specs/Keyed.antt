-- What stands under a key, and of which keys there may be rows.
use Rattle.std.specs.Prelude.{ℕ, Bool, false, true, ◌&&◌, ◌||◌, is_some, List, [], unwrap_or, slice_get}
use Rattle.indexmap.specs.IndexMap.{IndexMap, get}
use Rattle.group_scope.specs.contracts.key.KeyPartialEq.TheImpl as key_eq
use Rattle.group_scope.specs.declared.entry.Entry.{Entry}
use Rattle.group_scope.specs.declared.key.Home.{Home}
use Rattle.group_scope.specs.declared.key.Home.TheVariants as home
pub use Rattle.group_scope.specs.declared.key.Key.{Key}
use Rattle.group_scope.specs.declared.key.Test.{Test}
use Rattle.group_scope.specs.declared.key.Test.TheVariants as test
use Rattle.group_scope.specs.declared.marks.Marks.{Marks}

-- the keys agree
abbrev pub same : Key → Key → Bool
same = (key_eq.ghosts).eq

-- the row under a key; empty where there is none
abbrev pub row_in : {S : Type 0} → IndexMap Key (List Entry) S → Key → List Entry
row_in map key = unwrap_or (get same map key) []

abbrev pub home_kind : Home → ℕ
home_kind (home.Own g) = 0
home_kind (home.Within g) = 1
home_kind home.Everywhere = 2

abbrev pub test_kind : Test → ℕ
test_kind test.Document = 0
test_kind (test.Name u l) = 1
test_kind (test.Prefix u) = 2
test_kind test.AnyElement = 3
test_kind test.AnyNode = 4
test_kind test.Chars = 5
test_kind test.CData = 6
test_kind test.Comment = 7
test_kind test.AnyPi = 8
test_kind (test.Pi t) = 9
test_kind (test.AttrName u l) = 10
test_kind (test.AttrPrefix u) = 11
test_kind test.AnyAttr = 12

abbrev pub is_set : List Bool → ℕ → Bool
is_set marks n = unwrap_or (slice_get marks n) false

-- the kind of a home is marked
abbrev pub has_home : Marks → Home → Bool
has_home marks h = is_set marks.homes (home_kind h)

-- all texts of a test have numbers
abbrev pub is_known : Test → Bool
is_known test.Document = true
is_known (test.Name u l) = is_some u && is_some l
is_known (test.Prefix u) = is_some u
is_known test.AnyElement = true
is_known test.AnyNode = true
is_known test.Chars = true
is_known test.CData = true
is_known test.Comment = true
is_known test.AnyPi = true
is_known (test.Pi t) = is_some t
is_known (test.AttrName u l) = is_some u && is_some l
is_known (test.AttrPrefix u) = is_some u
is_known test.AnyAttr = true

-- the kind of a test is marked
abbrev pub has_kind : Marks → Test → Bool
has_kind marks t = is_set marks.tests (test_kind t)

-- and its texts, if they have no numbers
abbrev pub has_test : Marks → Test → Bool
has_test marks t = has_kind marks t && (marks.unknown || is_known t)

-- the kinds of its home and of its test are marked
abbrev pub has : Marks → Key → Bool
has marks key = has_home marks key.home && has_test marks key.test
