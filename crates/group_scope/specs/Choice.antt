-- Which template is chosen for a node.
use Rattle.std.specs.Prelude.{ℕ, suc, ◌==◌, ℤ, Bool, true, false, not, ◌&&◌, ◌||◌, if◌then◌else◌, List, [], ◌∷◌, ◌++◌, map, filter, Option, Some, None, unwrap_or}
use Rattle.std.specs.List.{list_any}
use Rattle.node_stack.specs.Path.{Path}
use Rattle.stx_base.specs.declared.limits.Limits.{Limits}
use Rattle.stxpath_eval.specs.Setting.{Setting}
use Rattle.stxpath_syntax.specs.declared.expr.Alternative.{Alternative}
use Rattle.match_patterns.specs.Fits.{at_current, fits}
use Rattle.match_patterns.specs.Grouping.{Seen}
use Rattle.match_patterns.specs.Priority.{default_priority}
use Rattle.sheet_model.specs.Groups.{around, parent_of}
use Rattle.sheet_model.specs.declared.sheet.Group.{Group}
use Rattle.sheet_model.specs.declared.sheet.Sheet.{Sheet}
use Rattle.sheet_model.specs.declared.sheet.Template.{Template}
use Rattle.sheet_model.specs.declared.sheet.Visibility.{Visibility}
use Rattle.sheet_model.specs.declared.sheet.Visibility.TheVariants as visibility
use Rattle.group_scope.specs.Rank.{best_of}
use Rattle.group_scope.specs.declared.rank.Category.{Category}
use Rattle.group_scope.specs.declared.rank.Category.TheVariants.{Own, Around, Everywhere}
use Rattle.group_scope.specs.declared.rank.Chosen.{Chosen}
use Rattle.group_scope.specs.declared.rank.Rank.{Rank}

abbrev pub is_number : ℕ → Option ℕ → Bool
is_number n None = false
is_number n (Some m) = m == n

abbrev pub is_for_groups_within : Visibility → Bool
is_for_groups_within visibility.Group = true
is_for_groups_within visibility.Local = false
is_for_groups_within visibility.Global = false

abbrev pub is_for_all : Visibility → Bool
is_for_all visibility.Global = true
is_for_all visibility.Group = false
is_for_all visibility.Local = false

-- a template of the group itself, or a public one of a child group
abbrev pub is_own : List Group → (base : ℕ) → Template → Bool
is_own groups base t = t.group == base || (t.public && is_number base (parent_of groups t.group))

-- the least category of a template for a base group: its own templates and the public ones of its child groups, those for the groups
-- within a group around it, and those for all groups
abbrev pub category : Sheet → (base : ℕ) → Template → Option Category
category s base t =
    if is_own s.groups base t then Some Own
    else if is_for_groups_within t.visibility && list_any (λ g. g == t.group) (around s.groups base) then Some Around
    else if is_for_all t.visibility then Some Everywhere
    else None

-- an alternative that a base group sees, the group of its template, and what it is chosen by
pub record Candidate : Type 0 where
  pub pattern : Alternative
  pub group : ℕ
  pub rank : Rank

-- the priority in hundredths: what the template says, or else the default
abbrev pub priority_of : Template → Alternative → ℤ
priority_of t a = unwrap_or t.priority (default_priority a)

-- by what an alternative is chosen
abbrev pub rank_of : Template → Alternative → Category → (number place : ℕ) → Rank
rank_of t a c number place = record { category = c; priority = priority_of t a; template = number; alternative = place }

-- the alternatives of a template, from a place on
abbrev pub alternatives_from : (number : ℕ) → Template → Category → (place : ℕ) → List Alternative → List Candidate
alternatives_from number t c place [] = []
alternatives_from number t c place (a ∷ rest) =
    record { pattern = a; group = t.group; rank = rank_of t a c number place } ∷ alternatives_from number t c (suc place) rest

abbrev pub seen_by : (number : ℕ) → Template → Option Category → List Candidate
seen_by number t None = []
seen_by number t (Some c) = alternatives_from number t c 0 t.pattern.alternatives

-- those of templates, where the first one has a number, each with its template's category, where it has one
abbrev pub all_from : (Template → Option Category) → (number : ℕ) → List Template → List Candidate
all_from category_of number [] = []
all_from category_of number (t ∷ ts) = seen_by number t (category_of t) ++ all_from category_of (suc number) ts

-- all alternatives that a base group sees, each counting as a template of its own
abbrev pub visible : Sheet → (base : ℕ) → List Candidate
visible s base = all_from (category s base) 0 s.templates

-- it fits, by what its group sees
abbrev pub does_fit : ((group : ℕ) → Setting) → Candidate → Bool
does_fit settings c = fits c.pattern (settings c.group)

-- its template isn't active
abbrev pub is_free : (active : List ℕ) → Candidate → Bool
is_free active c = not (list_any (λ n. n == c.rank.template) active)

-- the ranks of those that fit
abbrev pub fitting : ((group : ℕ) → Setting) → List Candidate → List Rank
fitting settings cs = map (λ c. c.rank) (filter (does_fit settings) cs)

-- the best of those that can be chosen
abbrev pub chosen : Sheet → (base : ℕ) → (active : List ℕ) → ((group : ℕ) → Setting) → Option Rank
chosen s base active settings = best_of (fitting settings (filter (is_free active) (visible s base)))

abbrev pub chosen_of : Rank → Chosen
chosen_of r = record { template = r.template; alternative = r.alternative }

-- what the patterns of each group see
abbrev pub settings : Seen → Limits → Path → (group : ℕ) → Setting
settings seen limits path group = at_current (seen group) limits path
