use Rattle.std.proofs.Common.{◌≡◌, ◌+◌, take, length}
use Rattle.std.specs.List.{flat_map}
use Rattle.sheet_model.specs.Body.{in_order, sheet_nesting}
use Rattle.sheet_model.specs.declared.sheet.Procedure.{Procedure}
use Rattle.sheet_model.specs.declared.sheet.Template.{Template}
use Rattle.sheet_model.proofs.sheet.Sheet.find.Given as goal

-- As many instructions were passed as there are so far.

abbrev pub invariant-loop-template : goal.invariant-loop-template
invariant-loop-template l =
    length (flat_map (λ (t : Template). in_order (sheet_nesting l.self) t.body) (take l.template-index l.template-items)) + l.left ≡ l.number

abbrev pub invariant-loop-procedure : goal.invariant-loop-procedure
invariant-loop-procedure l =
    length (flat_map (λ (t : Template). in_order (sheet_nesting l.self) t.body) l.self.templates)
    + length (flat_map (λ (p : Procedure). in_order (sheet_nesting l.self) p.body) (take l.procedure-index l.procedure-items)) + l.left ≡ l.number
