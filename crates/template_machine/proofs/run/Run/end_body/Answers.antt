use Rattle.template_machine.proofs.Composed.{call_moves}
use Rattle.std.proofs.Common.{◌∙◌, Some, ap}
use Rattle.frame_stack.specs.declared.frame.Frame.{Frame}
use Rattle.instr_code.specs.declared.code.Op.TheVariants as op
use Rattle.template_machine.proofs.Arms.{call_over, no_other_body}
use Rattle.template_machine.proofs.Operating.{at_place}
use Rattle.template_machine.proofs.Lightened.{call_works}
use Rattle.template_machine.proofs.run.Run.end_body.Goals as goal

pub at-requires : goal.at-requires
at-requires c = (at_place c.args.program.now c.args.self.now c.args.running op.Return c.requires).1.2

pub end_template-requires-clause-body : goal.end_template-requires-clause-body
end_template-requires-clause-body c = (_, (_, (_, c.at.ensures ∙ ap (λ (f : Frame). Some f) c.in-Body.is)))

pub returns-in-Call-clause-stands : goal.returns-in-Call-clause-stands
returns-in-Call-clause-stands c =
    call_over c.args.program.now c.args.self.now c.args.running _ _ _ _ c.take_off.new.frames c.requires (c.at.ensures ∙ ap (λ (f : Frame). Some f) c.in-Call.is)
    c.take_off.ensures

pub unreachable-requires : goal.unreachable-requires
unreachable-requires c =
    no_other_body c.args.program.now c.args.self.now c.args.running op.Return c.at.result.now c.requires c.at.ensures
    (λ template alternative pc locals level spent e. c.in_default.not-Body template alternative pc locals level spent e)
    (λ procedure pc locals level e. c.in_default.not-Call procedure pc locals level e)

pub returns-in-Call-clause-works : goal.returns-in-Call-clause-works
returns-in-Call-clause-works c =
    call_works c.args.program.now c.args.self.now c.args.running _ _ _ _ c.take_off.new.frames c.requires (c.at.ensures ∙ ap (λ (f : Frame). Some f) c.in-Call.is)
    c.take_off.ensures

pub returns-in-Call-clause-moves : goal.returns-in-Call-clause-moves
returns-in-Call-clause-moves c = λ alone.
    call_moves c.args.program.now c.args.self.now c.args.running _ _ _ _ c.take_off.new.frames c.requires (c.at.ensures ∙ ap (λ (f : Frame). Some f) c.in-Call.is)
    c.take_off.ensures alone

pub returns-in-Body-clause-moves : goal.returns-in-Body-clause-moves
returns-in-Body-clause-moves c = c.end_template.ensures.moves
