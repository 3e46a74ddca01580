-- Alternatives as rows hold them.
use Rattle.std.specs.Bool.{beq}
use Rattle.std.specs.Prelude.{◌≡◌, ℕ, ◌==◌, Bool, true, false, ◌&&◌, List, [], ◌∷◌, AllPairs, Option, Some, None, slice_get}
use Rattle.std.specs.Ordering.{int_eq}
use Rattle.stxpath_syntax.specs.declared.expr.Alternative.{Alternative}
use Rattle.stxpath_syntax.specs.declared.expr.Alternative.TheVariants.{Root, Steps}
use Rattle.match_patterns.specs.Fits.{is_bare}
use Rattle.match_patterns.specs.Priority.{is_start}
use Rattle.sheet_model.specs.declared.sheet.Sheet.{Sheet}
use Rattle.sheet_model.specs.declared.sheet.Template.{Template}
use Rattle.group_scope.specs.Rank.{is_better_within}
use Rattle.group_scope.specs.declared.entry.Entry.{Entry}
use Rattle.group_scope.specs.declared.rank.Category.{Category}
use Rattle.group_scope.specs.declared.rank.Category.TheVariants.{Own}
use Rattle.group_scope.specs.declared.rank.Rank.{Rank}

-- by what it is chosen in a category
abbrev pub ranked : Entry → Category → Rank
ranked e c = record { category = c; priority = e.priority; template = e.template; alternative = e.alternative }

abbrev pub is_same : Entry → Entry → Bool
is_same e f =
    int_eq e.priority f.priority && (e.template == f.template && (e.alternative == f.alternative && beq e.by_test f.by_test))

-- `/`, or a lone step without predicates and without a leading slash: it fits whatever passes its test
abbrev pub goes_by_test : Alternative → Bool
goes_by_test Root = true
goes_by_test (Steps (s ∷ [])) = is_start s.link && is_bare s
goes_by_test a = false

-- no later one is better, in whatever category they are
abbrev pub IsBestFirst : List Entry → Type 0
IsBestFirst es = AllPairs (λ e later. is_better_within (ranked later Own) (ranked e Own) ≡ false) es

abbrev pub at_alternative : {A : Type 0} → A → (Template → Alternative → A) → Template → Option Alternative → A
at_alternative none f t None = none
at_alternative none f t (Some a) = f t a

abbrev pub at_template : {A : Type 0} → A → (Template → Alternative → A) → Option Template → (place : ℕ) → A
at_template none f None place = none
at_template none f (Some t) place = at_alternative none f t (slice_get t.pattern.alternatives place)

-- what a function gives at the template and the alternative of an entry, where the sheet has them
abbrev pub at_entry : {A : Type 0} → A → (Template → Alternative → A) → Sheet → Entry → A
at_entry none f s e = at_template none f (slice_get s.templates e.template) e.alternative
