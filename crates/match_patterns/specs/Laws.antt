-- What laws of the definitions say.
use Rattle.std.specs.Prelude.{◌≡◌, ◌≢◌, ◌↔◌, ◌<◌, ℕ, ◌+◌, ◌==◌, nat_lt, true, ◌&&◌, List, [], ◌∷◌, ◌++◌, Some}
use Rattle.node_stack.specs.Path.{Document, node_at}
use Rattle.stxpath_eval.specs.Setting.{Setting}
use Rattle.stxpath_syntax.specs.declared.expr.Alternative.TheVariants.{Root, Steps}
use Rattle.stxpath_syntax.specs.declared.expr.Link.TheVariants.{Start, Slash, Deep}
use Rattle.stxpath_syntax.specs.declared.expr.PathStep.{PathStep}
use Rattle.match_patterns.specs.Fits.{fits, step_fits}

-- with the node at another place as the current one
abbrev pub at_place : ℕ → Setting → Setting
at_place place g = record g { place = place }

-- `/` fits the document node, and no other.
abbrev pub FitsDocument : Type 0
FitsDocument = (g : Setting) → fits Root g ≡ true ↔ node_at g.path g.place ≡ Some Document

-- A pattern of one step fits the nodes that pass its test and its predicates; behind `/` these are children of the document node, and
-- behind `//` any nodes but that one.
abbrev pub FitsByStep : Type 0
FitsByStep =
    (g : Setting) (s : PathStep)
    → (s.link ≡ Start → fits (Steps (s ∷ [])) g ≡ step_fits s g g.place)
    × (s.link ≡ Slash → fits (Steps (s ∷ [])) g ≡ (g.place == 1 && step_fits s g g.place))
    × (s.link ≡ Deep → fits (Steps (s ∷ [])) g ≡ (nat_lt 0 g.place && step_fits s g g.place))

-- Behind `/` a last step fits where the steps before it fit the parent.
abbrev pub FitsByParent : Type 0
FitsByParent =
    (g : Setting) (front : List PathStep) (s : PathStep) (parent : ℕ) → front ≢ [] → s.link ≡ Slash → g.place ≡ parent + 1
    → fits (Steps (front ++ s ∷ [])) g ≡ (step_fits s g g.place && fits (Steps front) (at_place parent g))

-- Behind `//` it fits where they fit some ancestor.
abbrev pub FitsByAncestor : Type 0
FitsByAncestor =
    (g : Setting) (front : List PathStep) (s : PathStep) → front ≢ [] → s.link ≡ Deep
    → (fits (Steps (front ++ s ∷ [])) g ≡ true)
    ↔ ((step_fits s g g.place ≡ true) × ((ancestor : ℕ) × ((ancestor < g.place) × (fits (Steps front) (at_place ancestor g) ≡ true))))
