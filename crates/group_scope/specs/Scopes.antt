-- What a scope holds of its sheet.
use Rattle.std.specs.Bool.{beq}
use Rattle.std.specs.Prelude.{◌≡◌, Bool, true, false, ◌&&◌, List, All, IsTrue}
use Rattle.std.specs.List.{list_any}
use Rattle.std.specs.Ordering.{int_eq}
use Rattle.stxpath_syntax.specs.declared.expr.Alternative.{Alternative}
use Rattle.match_patterns.specs.Fits.{test_of}
use Rattle.sheet_model.specs.declared.sheet.Sheet.{Sheet}
use Rattle.sheet_model.specs.declared.sheet.Template.{Template}
use Rattle.group_scope.specs.Choice.{priority_of}
use Rattle.group_scope.specs.Entries.{IsBestFirst, at_entry, goes_by_test, is_same}
use Rattle.group_scope.specs.Homes.{is_home}
use Rattle.group_scope.specs.Rows.{Key, row}
use Rattle.group_scope.specs.Words.{all_are_numbered, numbered}
use Rattle.group_scope.specs.contracts.key.TestPartialEq.TheImpl as test_eq
use Rattle.group_scope.specs.declared.entry.Entry.{Entry}
use Rattle.group_scope.specs.declared.key.Test.{Test}
use Rattle.group_scope.specs.declared.scope.Scope.{Scope}
use Rattle.group_scope.specs.declared.words.Words.{Words}

abbrev pub same_test : Test → Test → Bool
same_test = (test_eq.ghosts).eq

abbrev pub stands_at : Sheet → Words → Key → Entry → Template → Alternative → Bool
stands_at s words key e t a =
    is_home key.home s.groups t
    && (same_test (numbered words (test_of a)) key.test && (int_eq e.priority (priority_of t a) && beq e.by_test (goes_by_test a)))

-- it is an alternative of a template of the key's home, with the key's test at its last step
abbrev pub stands : Sheet → Words → Key → Entry → Bool
stands s words key e = at_entry false (stands_at s words key e) s e

-- A row has all alternatives that stand under its key, and no other, the best first.
pub record IsRow (s : Sheet) (words : Words) (key : Key) (es : List Entry) : Type 0 where
  pub only : All (λ e. stands s words key e ≡ true) es
  pub each : (e : Entry) → stands s words key e ≡ true → IsTrue (list_any (is_same e) es)
  pub best_first : IsBestFirst es

-- the scope was built for the sheet: each row has what stands under its key, and each text that the test of a last step names has a number
pub record IsScopeOf (s : Sheet) (scope : Scope) : Type 0 where
  pub rows : (key : Key) → IsRow s scope.words key (row scope.rows key)
  pub words : all_are_numbered scope.words s.templates ≡ true
