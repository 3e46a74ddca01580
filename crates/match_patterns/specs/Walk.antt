-- Steps that end at a place, as the walk from the last step backwards tells it.
use Rattle.std.specs.Prelude.{◌≡◌, ◌<◌, ◌≤◌, ℕ, true, List, [], ◌∷◌, Option, Some, None}
use Rattle.stxpath_eval.specs.Setting.{Setting}
use Rattle.stxpath_syntax.specs.declared.expr.PathStep.{PathStep}
use Rattle.match_patterns.specs.Fits.{may_follow, step_fits}
use Rattle.match_patterns.specs.declared.walk.Ending.{Ending}
use Rattle.match_patterns.specs.declared.walk.Ending.TheVariants as ending

-- a step may stand at a place behind one, and fits it
pub record Stands (g : Setting) (s : PathStep) (before : Option ℕ) (place : ℕ) : Type 0 where
  pub follows : may_follow s.link before place ≡ true
  pub fits : step_fits s g place ≡ true

-- steps lead from behind one place to another, by some places at which they stand
abbrev pub Leads : Setting → (before : Option ℕ) → List PathStep → (after : Option ℕ) → Type 0
Leads g before [] after = before ≡ after
Leads g before (s ∷ steps) after = (p : ℕ) × (Stands g s before p × Leads g (Some p) steps after)

-- a pattern's steps end at a place
abbrev pub EndsAt : Setting → List PathStep → ℕ → Type 0
EndsAt g steps place = Leads g None steps (Some place)

-- they end at some place before another
abbrev pub EndBefore : Setting → List PathStep → (place : ℕ) → Type 0
EndBefore g steps place = (q : ℕ) × ((q < place) × EndsAt g steps q)

abbrev pub IsEnding : Setting → List PathStep → (place : ℕ) → Ending → Type 0
IsEnding g steps place ending.Here = EndsAt g steps place
IsEnding g steps place ending.Elsewhere = ¬ EndsAt g steps place
IsEnding g steps place ending.NotBefore = (q : ℕ) → q ≤ place → ¬ EndsAt g steps q
