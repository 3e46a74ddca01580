-- The ranks for which rows are asked.
use Rattle.std.specs.Prelude.{◌≡◌, ℕ, zero, suc, ◌==◌, nat_lt, Bool, true, false, not, ◌&&◌, List, [], ◌∷◌, ◌++◌, All, Contains, map, filter, length, Option, Some, None}
use Rattle.std.specs.List.{flat_map, list_any}
use Rattle.stx_base.specs.declared.limits.Limits.{Limits}
use Rattle.node_stack.specs.Path.{Path}
use Rattle.stxpath_eval.specs.Setting.{Setting}
use Rattle.stxpath_syntax.specs.declared.expr.Alternative.{Alternative}
use Rattle.match_patterns.specs.Fits.{fits}
use Rattle.match_patterns.specs.Grouping.{Seen}
use Rattle.sheet_model.specs.Groups.{around_parent, parent_of}
use Rattle.sheet_model.specs.declared.sheet.Group.{Group}
use Rattle.sheet_model.specs.declared.sheet.Sheet.{Sheet}
use Rattle.sheet_model.specs.declared.sheet.Template.{Template}
use Rattle.group_scope.specs.Choice.{settings}
use Rattle.group_scope.specs.Entries.{at_entry, ranked}
use Rattle.group_scope.specs.Rank.{is_better, number_of}
use Rattle.group_scope.specs.Rows.{row}
use Rattle.group_scope.specs.declared.entry.Entry.{Entry}
use Rattle.group_scope.specs.declared.key.Home.{Home}
use Rattle.group_scope.specs.declared.key.Home.TheVariants as home
use Rattle.group_scope.specs.declared.key.Test.{Test}
use Rattle.group_scope.specs.declared.rank.Category.{Category}
use Rattle.group_scope.specs.declared.rank.Category.TheVariants.{Own, Around, Everywhere}
use Rattle.group_scope.specs.declared.rank.Rank.{Rank}
use Rattle.group_scope.specs.declared.rows.Rows.{Rows}

-- for what node it is asked: what the patterns of each group see there, and the templates that are active
pub record Asked : Type 0 where
  pub sheet : Sheet
  pub active : List ℕ
  pub settings : (group : ℕ) → Setting

abbrev pub is_active : List ℕ → (template : ℕ) → Bool
is_active active template = list_any (λ n. n == template) active

-- the alternative of an entry fits
abbrev pub entry_fits : Asked → Entry → Bool
entry_fits q e = at_entry false (λ (t : Template) (a : Alternative). fits a (q.settings t.group)) q.sheet e

-- it fits, and its template isn't active
abbrev pub can_be : Asked → Entry → Bool
can_be q e = not (is_active q.active e.template) && entry_fits q e

-- where an entry goes by its test, it fits
abbrev pub IsSure : Asked → Entry → Type 0
IsSure q e = e.by_test ≡ true → entry_fits q e ≡ true

-- so it is with all in the rows of tests
abbrev pub AreSure : Asked → Rows → List (Option Test) → Type 0
AreSure q rows tests =
    (home : Home) (test : Test) → Contains tests (Some test) → All (IsSure q) (row rows (record { home = home; test = test }))

-- the ranks of those that can be chosen
abbrev pub ranks : Asked → Category → List Entry → List Rank
ranks q c es = map (λ e. ranked e c) (filter (can_be q) es)

abbrev pub ranks_of_test : Asked → Rows → Category → Home → Option Test → List Rank
ranks_of_test q rows c h None = []
ranks_of_test q rows c h (Some test) = ranks q c (row rows (record { home = h; test = test }))

-- those of a home
abbrev pub ranks_of_home : Asked → Rows → List (Option Test) → Category → Home → List Rank
ranks_of_home q rows tests c h = flat_map (ranks_of_test q rows c h) tests

-- the groups around one, the innermost first
abbrev pub outer_groups : List Group → (levels : ℕ) → (group : ℕ) → List ℕ
outer_groups groups zero g = []
outer_groups groups (suc n) g = around_parent (λ p. p ∷ outer_groups groups n p) (parent_of groups g)

abbrev pub within_of : ℕ → Home
within_of g = home.Within g

abbrev pub ranks_around : Asked → Rows → List (Option Test) → (levels : ℕ) → (group : ℕ) → List Rank
ranks_around q rows tests levels g =
    flat_map (λ p. ranks_of_home q rows tests Around (within_of p)) (outer_groups q.sheet.groups levels g)

-- all for which rows are asked
abbrev pub all_ranks : Asked → Rows → List (Option Test) → (base : ℕ) → List Rank
all_ranks q rows tests base =
    ranks_of_home q rows tests Own (home.Own base)
    ++ (ranks_around q rows tests (length q.sheet.groups) base
    ++ ranks_of_home q rows tests Everywhere home.Everywhere)

abbrev pub question : Sheet → (active : List ℕ) → Seen → Limits → Path → Asked
question s active seen limits path = record { sheet = s; active = active; settings = settings seen limits path }

-- one of a category can be better than the best so far
abbrev pub may_be_better : Option Rank → Category → Bool
may_be_better None c = true
may_be_better (Some best) c = not (nat_lt (number_of best.category) (number_of c))

abbrev pub is_better_than_best : Rank → Option Rank → Bool
is_better_than_best r None = true
is_better_than_best r (Some best) = is_better r best
