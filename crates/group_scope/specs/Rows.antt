-- Rows under their keys.
use Rattle.std.specs.Prelude.{◌≡◌, if◌then◌else◌, List, [], ◌∷◌, Option, Some, None}
use Rattle.std.specs.List.{flat_map}
pub use Rattle.group_scope.specs.Keyed.{Key, is_known, same, test_kind}
use Rattle.group_scope.specs.Keyed.{row_in}
use Rattle.group_scope.specs.declared.entry.Entry.{Entry}
pub use Rattle.group_scope.specs.declared.key.Home.{Home}
use Rattle.group_scope.specs.declared.key.Test.{Test}
use Rattle.group_scope.specs.declared.rows.Rows.{Rows}

-- the row under a key; empty where there is none
abbrev pub row : Rows → Key → List Entry
row rows key = row_in rows.map key

-- what the row under a key gets of an entry that is for several homes
abbrev pub entered : List (Option Home) → Test → Key → Entry → List Entry
entered [] test key e = []
entered (None ∷ homes) test key e = entered homes test key e
entered (Some home ∷ homes) test key e =
    if same (record { home = home; test = test }) key then e ∷ entered homes test key e else entered homes test key e

-- the row of a test in a home
abbrev pub row_of_test : Rows → Home → Option Test → List Entry
row_of_test rows h None = []
row_of_test rows h (Some test) = row rows (record { home = h; test = test })

-- those of all tests
abbrev pub rows_of : Rows → Home → List (Option Test) → List Entry
rows_of rows h tests = flat_map (row_of_test rows h) tests

-- no home has a row of one of these tests
abbrev pub NoRows : Rows → List (Option Test) → Type 0
NoRows rows tests = (h : Home) → rows_of rows h tests ≡ []
