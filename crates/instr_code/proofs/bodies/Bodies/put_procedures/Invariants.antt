use Rattle.std.proofs.Common.{◌≡◌, ◌++◌, map}
use Rattle.std.specs.Vec.Iter.{into_iter_items}
use Rattle.instr_code.specs.Bare.{procedure_without_body}
use Rattle.instr_code.specs.Bodies.{PutsBodies}
use Rattle.sheet_model.specs.declared.sheet.Procedure.{Procedure}
use Rattle.instr_code.proofs.bodies.Bodies.put_procedures.Given as goal

abbrev pub invariant-loop-procedure : goal.invariant-loop-procedure
invariant-loop-procedure l =
    PutsBodies (map (λ (t : Procedure). t.body) l.yielded) l.initial.self l.self × (l.left ≡ map procedure_without_body l.yielded)
    × (l.yielded ++ into_iter_items l.procedure-iterator ≡ l.fn.procedures)
