use Rattle.std.proofs.Common.{◌≡◌, take, map, max}
use Rattle.stxpath_syntax.specs.Shape.{greatest}
use Rattle.sheet_model.specs.Body.{body_nesting}
use Rattle.sheet_model.specs.declared.sheet.Procedure.{Procedure}
use Rattle.sheet_model.specs.declared.sheet.Template.{Template}
use Rattle.sheet_model.proofs.nesting.nest.Given as goal

-- What was seen so far nests as deep as was noted.

abbrev pub invariant-loop-template : goal.invariant-loop-template
invariant-loop-template l = l.deepest ≡ greatest (map (λ (t : Template). body_nesting t.body) (take l.template-index l.template-items))

abbrev pub invariant-loop-procedure : goal.invariant-loop-procedure
invariant-loop-procedure l =
    l.deepest
    ≡ max (greatest (map (λ (t : Template). body_nesting t.body) l.sheet.templates)) (greatest (map (λ (p : Procedure). body_nesting p.body) (take l.procedure-index l.procedure-items)))
