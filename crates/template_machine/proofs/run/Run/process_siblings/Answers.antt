use Rattle.std.proofs.Common.{◌∙◌, ◌∷◌, ◌++◌, [], None, ap, refl, reverse, sym, true, ◌^◌, arith}
use Rattle.template_machine.specs.Standing.{standing_of}
use Rattle.template_machine.specs.declared.run.Run.{Run}
use Rattle.template_machine.proofs.Beside.{can_skip, is_gone, level_waits, puts_on}
use Rattle.template_machine.proofs.Handing.{spent_there}
use Rattle.frame_stack.specs.declared.frame.Frame.TheVariants.{Region}
use Rattle.template_machine.specs.Work.{Begins, means_of}
use Rattle.template_machine.proofs.Beginning.{begins_after, begins_grown, load_pushed}
use Rattle.template_machine.proofs.Operating.{on_ok}
use Rattle.template_machine.proofs.run.Run.process_siblings.Goals as goal

pub end_process-requires : goal.end_process-requires
end_process-requires c = c.in_ok-hand.ensures.stands.waits

pub is_spent-spent-requires : goal.is_spent-spent-requires
is_spent-spent-requires c =
    let p = c.args.program.now in
    let r = c.hand.new.self in
    let w = c.in_ok-hand.ensures.stands.waits in
    spent_there p w.stations 0 true (reverse r.frames.frames) (standing_of r) w.waits.body w.waits.well

pub skip_to_siblings-requires-clause-unspent : goal.skip_to_siblings-requires-clause-unspent
skip_to_siblings-requires-clause-unspent c =
    can_skip c.hand.new.self c.can_wait.result c.is_open.result c.is_spent-spent.result c.can_wait.ensures c.if-not-can_wait.false c.is_spent-spent.ensures
    c.is_open.ensures c.if-is_open.true

pub level_at-level-requires : goal.level_at-level-requires
level_at-level-requires c = level_waits c.args.program.now c.hand.new.self c.args.running.pc c.args.running.body c.in_ok-hand.ensures.stands

pub put_aside-requires : goal.put_aside-requires
put_aside-requires c =
    let r = c.hand.new.self in
    puts_on c.args.program.now r c.push.new.self (record c.push.new.self { aside = c.push-2.new.self }) c.args.running.pc c.args.running.body c.level_at-level.result
    c.in_ok-hand.ensures.stands c.level_at-level.ensures (sym c.can_wait.ensures ∙ c.if-not-can_wait.false)
    (is_gone r c.is_open.result c.is_spent-spent.result c.is_spent-spent.ensures c.is_open.ensures c.if-is_open.false)
    c.in_ok-push.ensures.ok refl (c.in_ok-push-2.ensures.items ∙ ap (λ (x : Run). x.aside.items ++ None ∷ []) c.in_ok-push.ensures.ok)

pub returns-then-not-can_wait-clause-works : goal.returns-then-not-can_wait-clause-works
returns-then-not-can_wait-clause-works c =
    begins_after 0 c.args.self.now c.hand.new.self c.end_process.new.self c.in_ok-hand.ensures.works c.end_process.ensures.works (omega arith)

pub returns-then-is_open-clause-works : goal.returns-then-is_open-clause-works
returns-then-is_open-clause-works c =
    on_ok c.skip_to_siblings.result (Begins (2 ^ 68) c.hand.new.self c.skip_to_siblings.new.self) (Begins (2 ^ 68) c.args.self.now c.skip_to_siblings.new.self)
    c.skip_to_siblings.ensures.works (λ b. begins_after (2 ^ 68) c.args.self.now c.hand.new.self c.skip_to_siblings.new.self c.in_ok-hand.ensures.works b (omega arith))

pub returns-clause-works : goal.returns-clause-works
returns-clause-works c =
    let h = c.hand.new.self in
    let m = record c.push.new.self { aside = c.push-2.new.self } in
    begins_after 4 c.args.self.now h c.put_aside.new.self c.in_ok-hand.ensures.works
    (begins_grown 2 2 4 h m c.put_aside.new.self (ap means_of c.in_ok-push.ensures.ok)
    (load_pushed (Region c.args.running.pc c.level_at-level.result) h c.push.new.self c.in_ok-push.ensures.ok) c.put_aside.ensures.works (omega arith)) (omega arith)
