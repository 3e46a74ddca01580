use Rattle.std.proofs.Common.{◌≡◌, false, take}
use Rattle.std.specs.List.{list_any}
use Rattle.match_patterns.specs.Fits.{at_current, fits}
use Rattle.node_stack.specs.Stack.{path}
use Rattle.sibling_regions.proofs.condition.fits_there.Given as goal

-- None of the alternatives so far fits.

abbrev pub invariant-loop-alternative : goal.invariant-loop-alternative
invariant-loop-alternative g l =
    list_any (λ a. fits a (at_current (g.V.Vars.value_of l.vars) l.limits (path l.stack))) (take l.alternative-index l.alternative-items) ≡ false
