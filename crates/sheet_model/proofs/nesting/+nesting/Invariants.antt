use Rattle.std.proofs.Common.{◌≡◌, ◌+◌, ◌*◌, take, map}
use Rattle.std.specs.List.{flat_map}
use Rattle.stxpath_syntax.specs.Shape.{greatest}
use Rattle.sheet_model.specs.Body.{body_nesting, nesting}
use Rattle.sheet_model.specs.declared.instr.When.{When}
use Rattle.sheet_model.proofs.nesting.+nesting.Given as goal

-- What was seen so far nests as deep as was noted.

abbrev pub invariant-nesting_of_body-loop-instr : goal.invariant-nesting_of_body-loop-instr
invariant-nesting_of_body-loop-instr l = l.deepest ≡ greatest (map nesting (take l.instr-index l.instr-items))

abbrev pub invariant-nesting_of_branches-loop-when : goal.invariant-nesting_of_branches-loop-when
invariant-nesting_of_branches-loop-when l =
    l.deepest ≡ greatest (map (λ (w : When). body_nesting w.body) (take l.when-index l.when-items))

-- Each call goes to what nests less deep, or from the whole to its parts.

abbrev pub decreases-nesting_of : goal.decreases-nesting_of
decreases-nesting_of l = 3 * nesting l.instr.now

abbrev pub decreases-nesting_of_body : goal.decreases-nesting_of_body
decreases-nesting_of_body l = 3 * body_nesting l.body.now + 1

abbrev pub decreases-nesting_of_branches : goal.decreases-nesting_of_branches
decreases-nesting_of_branches l = 3 * body_nesting (flat_map (λ (w : When). w.body) l.whens.now) + 2
