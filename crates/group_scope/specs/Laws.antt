-- What laws of the definitions say.
use Rattle.std.specs.Prelude.{◌≡◌, ℕ, true, false, List, [], Some, None, All, Contains, IsPermutation, filter}
use Rattle.stxpath_eval.specs.Setting.{Setting}
use Rattle.sheet_model.specs.declared.sheet.Sheet.{Sheet}
use Rattle.group_scope.specs.Asking.{is_active}
use Rattle.group_scope.specs.Choice.{chosen, fitting, is_free, visible}
use Rattle.group_scope.specs.Rank.{best_of, is_better}
use Rattle.group_scope.specs.declared.rank.Rank.{Rank}

-- The best of a list is in it, and none of the list is better; an empty list alone has none.
abbrev pub ChoosesTheBest : Type 0
ChoosesTheBest =
    (rs : List Rank)
    → ((r : Rank) → best_of rs ≡ Some r → Contains rs r × All (λ other. is_better other r ≡ false) rs)
    × (best_of rs ≡ None → rs ≡ [])

-- Of two that differ exactly one is better.
abbrev pub IsOrdered : Type 0
IsOrdered =
    (a b : Rank)
    → (is_better a b ≡ true → is_better b a ≡ false)
    × (is_better a b ≡ false → is_better b a ≡ false → a ≡ b)

-- The best is the same in whatever order they stand.
abbrev pub IsTheSameInAnyOrder : Type 0
IsTheSameInAnyOrder = (rs others : List Rank) → IsPermutation rs others → best_of rs ≡ best_of others

-- A template that is active isn't chosen.
abbrev pub IsNeverActive : Type 0
IsNeverActive =
    (s : Sheet) (base : ℕ) (active : List ℕ) (settings : (group : ℕ) → Setting) (r : Rank)
    → chosen s base active settings ≡ Some r → is_active active r.template ≡ false

-- Of the alternatives that can be chosen none is better than the one that is.
abbrev pub IsBetterThanOthers : Type 0
IsBetterThanOthers =
    (s : Sheet) (base : ℕ) (active : List ℕ) (settings : (group : ℕ) → Setting) (r other : Rank)
    → chosen s base active settings ≡ Some r → Contains (fitting settings (filter (is_free active) (visible s base))) other
    → is_better other r ≡ false
