use Rattle.std.proofs.Common.{Some, refl, arith}
use Rattle.std.proofs.lemmas.Option.{slice_get_within}
use Rattle.template_machine.proofs.Processing.{buffer_less, buffer_then}
use Rattle.template_machine.proofs.Shelved.{ok_given}
use Rattle.frame_stack.specs.declared.frame.Frame.TheVariants.{Source}
use Rattle.template_machine.specs.declared.source.Origin.TheVariants.{Buffer}
use Rattle.template_machine.proofs.Beginning.{begins_after, begins_source}
use Rattle.template_machine.proofs.run.Run.process_buffer.Goals as goal

pub link-id-requires : goal.link-id-requires
link-id-requires c = slice_get_within c.args.program.now.links c.args.number c.requires.buffer.0 c.requires.buffer.1.0

pub open_read-requires : goal.open_read-requires
open_read-requires c =
    buffer_less c.args.program.now c.hand.new.self c.args.number c.link-id.result c.in_ok-hand.ensures.stands.waits.steady c.requires.buffer c.link-id.ensures

pub enter_source-requires : goal.enter_source-requires
enter_source-requires c = c.in_ok-hand.ensures.stands.waits.steady.shallow.1

pub returns-clause-stands : goal.returns-clause-stands
returns-clause-stands c =
    let less = buffer_less c.args.program.now c.hand.new.self c.args.number c.link-id.result c.in_ok-hand.ensures.stands.waits.steady c.requires.buffer c.link-id.ensures in
    buffer_then c.args.program.now c.hand.new.self c.push.new.self c.enter_source.new.self c.args.running.pc c.args.running.body c.link-id.result.named c.args.at
    c.open_read.new.self c.in_ok-hand.ensures.stands less
    (ok_given c.open_read.result _ _ _ c.in_ok-buffered.ensures _ c.open_read.ensures.ok)
    (ok_given c.open_read.result _ _ _ c.in_ok-buffered.ensures _ c.open_read.ensures.opened)
    c.in_ok-push.ensures.ok c.in_ok-enter_source.ensures

pub returns-clause-works : goal.returns-clause-works
returns-clause-works c =
    let h = c.hand.new.self in
    let m = record h { putting = record h.putting { buffers = c.open_read.new.self } } in
    begins_after 3 c.args.self.now h _ c.in_ok-hand.ensures.works
    (begins_source c.args.program.now.buffer_depth c.link-id.result.named (Buffer c.link-id.result.named c.args.at) (Source (Some c.link-id.result.named) 0 c.args.running.pc) h m c.push.new.self
    c.enter_source.new.self refl refl refl c.in_ok-push.ensures.ok (omega arith) c.in_ok-enter_source.ensures) (omega arith)
