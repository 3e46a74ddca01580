use Rattle.std.proofs.Common.{◌∙◌, ◌∷◌, ◌++◌, [], None, ap, refl, ◌^◌, arith}
use Rattle.template_machine.specs.declared.run.Run.{Run}
use Rattle.template_machine.proofs.Beside.{level_waits, skips_on}
use Rattle.frame_stack.specs.declared.frame.Frame.TheVariants.{Region, Skip}
use Rattle.template_machine.proofs.Beginning.{begins_skipped, load_pushed}
use Rattle.template_machine.proofs.Falling.{begins_within}
use Rattle.template_machine.specs.Work.{means_of}
use Rattle.template_machine.proofs.run.Run.skip_to_siblings.Goals as goal

pub level_at-level-requires : goal.level_at-level-requires
level_at-level-requires c = level_waits c.args.program.now c.args.self.now c.args.running.pc c.args.running.body c.requires.awaits

pub returns-clause-stands : goal.returns-clause-stands
returns-clause-stands c =
    skips_on c.args.program.now c.args.self.now c.push.new.self (record c.push.new.self { aside = c.push-2.new.self }) c.push-3.new.self
    c.args.running.pc c.args.running.body c.level_at-level.result c.spend_children.new.frames c.requires.awaits c.level_at-level.ensures c.requires.unspent
    c.spend_children.ensures c.in_ok-push.ensures.ok refl
    (c.in_ok-push-2.ensures.items ∙ ap (λ (x : Run). x.aside.items ++ None ∷ []) c.in_ok-push.ensures.ok) c.in_ok-push-3.ensures.ok

pub returns-clause-works : goal.returns-clause-works
returns-clause-works c =
    let r = c.args.self.now in
    let t = record c.push.new.self { aside = c.push-2.new.self } in
    begins_within 6 (2 ^ 68) r _ (omega arith)
    (begins_skipped c.level_at-level.result (Region c.args.running.pc c.level_at-level.result) (Skip 0) r t c.push-3.new.self c.spend_children.new.frames c.spend_children.ensures
    (load_pushed (Region c.args.running.pc c.level_at-level.result) (record r { frames = c.spend_children.new.frames }) c.push.new.self c.in_ok-push.ensures.ok)
    (ap means_of c.in_ok-push.ensures.ok) c.in_ok-push-3.ensures.ok (omega arith))
