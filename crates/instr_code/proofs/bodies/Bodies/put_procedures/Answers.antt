use Rattle.std.proofs.Common.{◌≡◌, List, ◌∷◌, ◌++◌, ap, sym, ◌∙◌}
use Rattle.std.specs.Vec.Iter.{into_iter_items}
use Rattle.instr_code.specs.Bare.{procedure_without_body}
use Rattle.instr_code.proofs.PuttingBodies.{mapped_more, puts_body_more, room_for_body}
use Rattle.instr_code.proofs.Turns.{taken_more}
use Rattle.sheet_model.specs.declared.instr.Instr.{Instr}
use Rattle.sheet_model.specs.declared.sheet.Procedure.{Procedure}
use Rattle.instr_code.proofs.bodies.Bodies.put_procedures.Goals as goal

abbrev body_of : Procedure → List Instr
body_of x = x.body

pub put-requires : goal.put-requires
put-requires c =
    let ys = c.loop-procedure.yielded in
    let x = c.in-Some.procedure in
    let rest = into_iter_items c.next.new.self in
    let is : ys ++ x ∷ rest ≡ c.args.procedures = ap (λ l. ys ++ l) (sym c.in-Some.ensures.steps.0) ∙ c.loop-procedure.invariant.2 in
    room_for_body body_of c.args.procedures ys rest x c.args.self.now c.loop-procedure.self is c.requires c.loop-procedure.invariant.0

pub loop-procedure-preserved : goal.loop-procedure-preserved
loop-procedure-preserved c =
    let ys = c.loop-procedure.yielded in
    let x = c.in-Some.procedure in
    let rest = into_iter_items c.next.new.self in
    let is : ys ++ x ∷ rest ≡ c.args.procedures = ap (λ l. ys ++ l) (sym c.in-Some.ensures.steps.0) ∙ c.loop-procedure.invariant.2 in (
      puts_body_more body_of ys x c.args.self.now c.loop-procedure.self c.put.new.self c.loop-procedure.invariant.0 c.in_ok-put.ensures,
      mapped_more procedure_without_body ys x c.loop-procedure.left c.push.new.self _ c.in_ok-push.ensures.ok c.loop-procedure.invariant.1
          (ap (λ b. record x { body = b }) c.new-body.ensures),
      taken_more ys rest x c.args.procedures is,
    )
