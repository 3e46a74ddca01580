use Rattle.std.proofs.Common.{◌∙◌, Some, Err, reverse, true, ap, sym, subst, arith}
use Rattle.template_machine.specs.Behind.{MovesFrom, instr_acts}
use Rattle.template_machine.specs.Standing.{standing_of}
use Rattle.template_machine.proofs.Beside.{children_then, level_found, level_waits}
use Rattle.template_machine.proofs.Handing.{spent_there}
use Rattle.template_machine.proofs.Alone.{handed_alone}
use Rattle.template_machine.proofs.ForChildren.{children_gone, children_list, children_over, children_stop}
use Rattle.template_machine.proofs.Saying.{stops_with}
use Rattle.template_machine.proofs.Beginning.{begins_after, begins_children}
use Rattle.template_machine.proofs.run.Run.process_children.Goals as goal

pub end_process-requires : goal.end_process-requires
end_process-requires c = c.in_ok-hand.ensures.stands.waits

pub is_spent-requires : goal.is_spent-requires
is_spent-requires c =
    let p = c.args.program.now in
    let r = c.hand.new.self in
    let w = c.in_ok-hand.ensures.stands.waits in
    spent_there p w.stations 0 true (reverse r.frames.frames) (standing_of r) w.waits.body w.waits.well

pub level_at-level-requires : goal.level_at-level-requires
level_at-level-requires c = level_waits c.args.program.now c.hand.new.self c.args.running.pc c.args.running.body c.in_ok-hand.ensures.stands

pub returns-clause-stands : goal.returns-clause-stands
returns-clause-stands c =
    children_then c.args.program.now c.hand.new.self c.args.running.pc c.args.running.body c.level_at-level.result c.spend_children.new.frames c.has_list.result
    c.is_spent.result c.in_ok-hand.ensures.stands c.has_list.ensures c.if-not-has_list.false c.is_spent.ensures c.if-is_spent.false c.level_at-level.ensures
    c.spend_children.ensures

pub returns-then-not-has_list-clause-works : goal.returns-then-not-has_list-clause-works
returns-then-not-has_list-clause-works c =
    begins_after 0 c.args.self.now c.hand.new.self c.end_process.new.self c.in_ok-hand.ensures.works c.end_process.ensures.works (omega arith)

pub returns-clause-works : goal.returns-clause-works
returns-clause-works c =
    begins_after 2 c.args.self.now c.hand.new.self _ c.in_ok-hand.ensures.works
    (begins_children c.level_at-level.result c.hand.new.self c.spend_children.new.frames c.spend_children.ensures) (omega arith)

pub returns-in_err-hand-clause-moves : goal.returns-in_err-hand-clause-moves
returns-in_err-hand-clause-moves c = λ i is asks alone.
    let p = c.args.program.now in
    let r = c.args.self.now in
    let e = c.in_err-hand.field-0.0 in
    subst (λ x. MovesFrom p (λ given left f. instr_acts given p i c.args.running.pc r left f) x c.hand.new.self) (sym (stops_with c.from_residual.result e c.from_residual.ensures.1))
    (children_stop p r c.hand.new.self c.args.running c.args.number i c.args.at c.requires.op is asks e c.hand.new.self (c.in_err-hand.ensures.hands i is))

pub returns-then-not-has_list-clause-moves : goal.returns-then-not-has_list-clause-moves
returns-then-not-has_list-clause-moves c = λ i is asks alone.
    let p = c.args.program.now in
    let r = c.args.self.now in
    let h = c.in_ok-hand.ensures.hands i is in
    children_over p r c.hand.new.self c.args.running c.args.number i c.args.at c.requires.op is asks _ h c.in_ok-hand.ensures.stands c.end_process.new.self
    (sym c.has_list.ensures ∙ c.if-not-has_list.true)
    (c.end_process.ensures.moves (handed_alone p r c.hand.new.self c.args.running c.args.number i c.args.at _ c.requires.op h alone c.in_ok-hand.ensures.stands))

pub returns-then-is_spent-clause-moves : goal.returns-then-is_spent-clause-moves
returns-then-is_spent-clause-moves c = λ i is asks alone.
    let p = c.args.program.now in
    let r = c.args.self.now in
    let m = c.hand.new.self in
    subst (λ e. MovesFrom p (λ given left f. instr_acts given p i c.args.running.pc r left f) (Err e) m) (sym c.fault.ensures)
    (children_gone p r m c.args.running c.args.number i c.args.at c.requires.op is asks _ (c.in_ok-hand.ensures.hands i is) c.in_ok-hand.ensures.stands
    (sym c.has_list.ensures ∙ c.if-not-has_list.false) (c.is_spent.ensures ∙ ap Some c.if-is_spent.true))

pub returns-clause-moves : goal.returns-clause-moves
returns-clause-moves c = λ i is asks alone.
    let p = c.args.program.now in
    let r = c.args.self.now in
    let m = c.hand.new.self in
    children_list p r m c.args.running c.args.number i c.args.at c.requires.op is asks _ (c.in_ok-hand.ensures.hands i is) c.in_ok-hand.ensures.stands c.level_at-level.result c.spend_children.new.frames
    alone (sym c.has_list.ensures ∙ c.if-not-has_list.false) (c.is_spent.ensures ∙ ap Some c.if-is_spent.false)
    (level_found p m c.args.running.pc c.args.running.body c.level_at-level.result c.in_ok-hand.ensures.stands c.level_at-level.ensures) c.spend_children.ensures
