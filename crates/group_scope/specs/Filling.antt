-- How rows are filled.
use Rattle.std.specs.Prelude.{◌≡◌, List, [], map}
use Rattle.std.specs.List.{flat_map}
use Rattle.stxpath_syntax.specs.declared.expr.Alternative.{Alternative}
use Rattle.match_patterns.specs.Fits.{test_of}
use Rattle.sheet_model.specs.declared.sheet.Sheet.{Sheet}
use Rattle.sheet_model.specs.declared.sheet.Template.{Template}
use Rattle.group_scope.specs.Choice.{Candidate, all_from, alternatives_from, priority_of}
use Rattle.group_scope.specs.Entries.{at_entry, goes_by_test}
use Rattle.group_scope.specs.Homes.{homes}
use Rattle.group_scope.specs.Rows.{Key, entered, row}
use Rattle.group_scope.specs.Words.{numbered}
use Rattle.group_scope.specs.declared.entry.Entry.{Entry}
use Rattle.group_scope.specs.declared.rank.Category.{Category}
use Rattle.group_scope.specs.declared.rank.Category.TheVariants.{Own}
use Rattle.group_scope.specs.declared.rows.Rows.{Rows}
use Rattle.group_scope.specs.declared.words.Words.{Words}
use Rattle.std.specs.Prelude.{ℕ, Option, Some}

abbrev pub entry_of : Candidate → Entry
entry_of c =
    record { priority = c.rank.priority; template = c.rank.template; alternative = c.rank.alternative; by_test = goes_by_test c.pattern }

-- the entry of an alternative at a place
abbrev pub entry_at : (number : ℕ) → Template → (place : ℕ) → Alternative → Entry
entry_at number t place a = record { priority = priority_of t a; template = number; alternative = place; by_test = goes_by_test a }

-- the alternatives of a template
abbrev pub entries_of : (number : ℕ) → Template → List Entry
entries_of number t = map entry_of (alternatives_from number t Own 0 t.pattern.alternatives)

abbrev pub as_own : Template → Option Category
as_own t = Some Own

-- the alternatives of templates, where the first one has a number
abbrev pub entries_from : (number : ℕ) → List Template → List Entry
entries_from number ts = map entry_of (all_from as_own number ts)

-- what the row under a key gets of an entry
abbrev pub entered_of : Sheet → Words → Key → Entry → List Entry
entered_of s words key e =
    at_entry [] (λ (t : Template) (a : Alternative). entered (homes s.groups t) (numbered words (test_of a)) key e) s e

-- the rows have what they get of entries, in their order
abbrev pub AreFilledBy : Sheet → Words → List Entry → Rows → Type 0
AreFilledBy s words es rows = (key : Key) → row rows key ≡ flat_map (entered_of s words key) es
