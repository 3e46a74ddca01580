use Rattle.std.proofs.Common.{◌+◌, ◌^◌, ◌∙◌, Err, refl, sym, subst, arith}
use Rattle.template_machine.specs.Behind.{MovesFrom, instr_acts}
use Rattle.template_machine.proofs.Finished.{frame_wants_memory}
use Rattle.template_machine.proofs.Processed.{attributes_list, attributes_over, attributes_stop, list_memory}
use Rattle.template_machine.proofs.Saying.{stops_with}
use Rattle.template_machine.proofs.Beside.{attributes_then}
use Rattle.frame_stack.specs.declared.frame.Frame.TheVariants.{Attributes}
use Rattle.template_machine.proofs.Beginning.{begins_after, begins_over}
use Rattle.template_machine.proofs.run.Run.process_attributes.Goals as goal
use Rattle.template_machine.proofs.Alone.{handed_alone}

pub end_process-requires : goal.end_process-requires
end_process-requires c = c.in_ok-hand.ensures.stands.waits

pub returns-clause-stands : goal.returns-clause-stands
returns-clause-stands c =
    attributes_then c.args.program.now c.hand.new.self c.push.new.self c.args.running.pc c.args.running.body c.in_ok-hand.ensures.stands c.in_ok-push.ensures.ok
    (sym c.is_element.ensures ∙ c.if-not-is_element.false)

pub returns-then-not-is_element-clause-works : goal.returns-then-not-is_element-clause-works
returns-then-not-is_element-clause-works c =
    begins_after 0 c.args.self.now c.hand.new.self c.end_process.new.self c.in_ok-hand.ensures.works c.end_process.ensures.works (omega arith)

pub returns-clause-works : goal.returns-clause-works
returns-clause-works c =
    begins_after (2 ^ 67 + 2) c.args.self.now c.hand.new.self _ c.in_ok-hand.ensures.works
    (begins_over (2 ^ 67) (Attributes 0 c.args.running.pc) c.hand.new.self c.push.new.self c.in_ok-push.ensures.ok (omega arith)) (omega arith)

pub returns-in_err-hand-clause-moves : goal.returns-in_err-hand-clause-moves
returns-in_err-hand-clause-moves c = λ i is asks alone.
    let p = c.args.program.now in
    let r = c.args.self.now in
    let e = c.in_err-hand.field-0.0 in
    subst (λ x. MovesFrom p (λ given left f. instr_acts given p i c.args.running.pc r left f) x c.hand.new.self) (sym (stops_with c.from_residual.result e c.from_residual.ensures.1))
    (attributes_stop p r c.hand.new.self c.args.running c.args.number i c.args.at c.requires.op is asks e c.hand.new.self (c.in_err-hand.ensures.hands i is))

pub returns-then-not-is_element-clause-moves : goal.returns-then-not-is_element-clause-moves
returns-then-not-is_element-clause-moves c = λ i is asks alone.
    let p = c.args.program.now in
    let r = c.args.self.now in
    let h = c.in_ok-hand.ensures.hands i is in
    attributes_over p r c.hand.new.self c.args.running c.args.number i c.args.at c.requires.op is asks _ h c.in_ok-hand.ensures.stands c.end_process.new.self
    (sym c.is_element.ensures ∙ c.if-not-is_element.true) (c.end_process.ensures.moves (handed_alone p r c.hand.new.self c.args.running c.args.number i c.args.at _ c.requires.op h alone c.in_ok-hand.ensures.stands))

pub returns-in_err-push-clause-moves : goal.returns-in_err-push-clause-moves
returns-in_err-push-clause-moves c = λ i is asks alone.
    let p = c.args.program.now in
    let r = c.args.self.now in
    let e = c.in_err-push.field-0.0 in
    subst (λ x. MovesFrom p (λ given left f. instr_acts given p i c.args.running.pc r left f) x c.push.new.self) (sym (stops_with c.from_residual-in_err-push.result e c.from_residual-in_err-push.ensures.1))
    (frame_wants_memory p (λ given left f. instr_acts given p i c.args.running.pc r left f) c.push.new.self e
    (list_memory c.args.at p.limits.instances c.args.running.pc c.hand.new.self.frames.frames e c.in_err-push.ensures.full))

pub returns-clause-moves : goal.returns-clause-moves
returns-clause-moves c = λ i is asks alone.
    let p = c.args.program.now in
    let r = c.args.self.now in
    attributes_list p r c.hand.new.self c.args.running c.args.number i c.args.at c.requires.op is asks _ (c.in_ok-hand.ensures.hands i is) c.in_ok-hand.ensures.stands c.push.new.self _
    alone (sym c.is_element.ensures ∙ c.if-not-is_element.false) c.in_ok-push.ensures.ok refl
