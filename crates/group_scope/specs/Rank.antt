-- Which of two alternatives is better.
use Rattle.std.specs.Prelude.{ℕ, ◌==◌, int_lt, nat_lt, Bool, ◌&&◌, ◌||◌, if◌then◌else◌, List, [], ◌∷◌, Option, Some, None}
use Rattle.std.specs.Ordering.{int_eq}
use Rattle.group_scope.specs.declared.rank.Category.{Category}
use Rattle.group_scope.specs.declared.rank.Category.TheVariants.{Own, Around, Everywhere}
use Rattle.group_scope.specs.declared.rank.Rank.{Rank}

-- the number of a category
abbrev pub number_of : Category → ℕ
number_of Own = 1
number_of Around = 2
number_of Everywhere = 3

-- a later place in the sheet: a later template, or a later alternative of one template
abbrev pub is_later : Rank → Rank → Bool
is_later a b = nat_lt b.template a.template || (a.template == b.template && nat_lt b.alternative a.alternative)

-- within one category: a greater priority, or else a later place in the sheet
abbrev pub is_better_within : Rank → Rank → Bool
is_better_within a b = int_lt b.priority a.priority || (int_eq a.priority b.priority && is_later a b)

-- a less category, or else better within it
abbrev pub is_better : Rank → Rank → Bool
is_better a b =
    nat_lt (number_of a.category) (number_of b.category)
    || (number_of a.category == number_of b.category && is_better_within a b)

-- the better one
abbrev pub better_of : Option Rank → Rank → Rank
better_of None r = r
better_of (Some best) r = if is_better best r then best else r

-- the best of one, if there is one, and of others behind it
abbrev pub improved : Option Rank → List Rank → Option Rank
improved best [] = best
improved best (r ∷ rs) = improved (Some (better_of best r)) rs

abbrev pub best_of : List Rank → Option Rank
best_of rs = improved None rs
