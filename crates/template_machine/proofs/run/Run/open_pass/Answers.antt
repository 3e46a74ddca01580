use Rattle.std.proofs.Common.{◌≡◌, ◌∙◌, ◌∷◌, ◌++◌, [], true, refl, ap, sym, subst, arith}
use Rattle.frame_stack.specs.Stack.{with_frames}
use Rattle.frame_stack.specs.declared.frame.Frame.TheVariants.{Pass}
use Rattle.template_machine.specs.declared.run.Doing.TheVariants as doing
use Rattle.template_machine.specs.declared.run.Run.{Run}
use Rattle.template_machine.specs.Well.{IsWell}
use Rattle.node_stack.specs.Path.{can_have_children}
use Rattle.node_stack.specs.Stack.{path}
use Rattle.template_machine.proofs.Overs.{goes_or_waits}
use Rattle.template_machine.proofs.Taken.{head_passes}
use Rattle.template_machine.proofs.Tops.{top_pushed}
use Rattle.template_machine.proofs.Ways.{way_here, way_level}
use Rattle.template_machine.proofs.Lightened.{pushed_list}
use Rattle.template_machine.proofs.Spared.{goes_asks}
use Rattle.std.proofs.Common.{reverse}
use Rattle.template_machine.specs.Behind.{MovesFrom}
use Rattle.template_machine.specs.Entering.{pass_opened}
use Rattle.template_machine.proofs.Finished.{frame_wants_memory}
use Rattle.template_machine.proofs.PassedThrough.{opens_moves, pass_memory}
use Rattle.template_machine.proofs.Saying.{stops_with}
use Rattle.template_machine.proofs.run.Run.open_pass.Goals as goal
use Rattle.template_machine.proofs.Shelved.{stands_still}

pub returns-clause-stands : goal.returns-clause-stands
returns-clause-stands c =
    let p = c.args.program.now in
    let r = c.args.self.now in
    let level = c.level.result in
    let frame = Pass c.args.base level true in
    let m = record r { frames = with_frames (r.frames.frames ++ frame ∷ []) r.frames } in
    let e : c.push.new.self ≡ m = c.in_ok-push.ensures.ok in
    let n = c.list_goes_on.new.self in
    let run : n ≡ record m { doing = doing.List } = c.list_goes_on.ensures.run ∙ ap (λ (x : Run). record x { doing = doing.List }) e in
    let w = head_passes p r (record m { doing = doing.List }) c.args.base level true c.requires.head
    (record { outer = refl; aside = refl; store = refl; putting = stands_still _ }) refl (top_pushed r.frames.frames frame) c.requires.base
    (c.level.ensures ∙ sym (way_level (path r.source.stack))) (ap can_have_children (way_here (path r.source.stack)) ∙ c.requires.list) refl in
    goes_or_waits p c.list_goes_on.result c.push.new.self n c.list_goes_on.ensures.run c.list_goes_on.ensures.step (subst (IsWell p) (sym run) w)

pub returns-clause-works : goal.returns-clause-works
returns-clause-works c =
    pushed_list 5 c.args.self.now c.push.new.self c.list_goes_on.new.self (Pass c.args.base c.level.result true) c.in_ok-push.ensures.ok c.list_goes_on.ensures.run (omega arith)

pub returns-clause-asks : goal.returns-clause-asks
returns-clause-asks c = goes_asks c.list_goes_on.result _ c.list_goes_on.ensures.step

pub returns-clause-opens : goal.returns-clause-opens
returns-clause-opens c = λ alone fresh twice.
    let p = c.args.program.now in
    let r = c.args.self.now in
    let level = c.level.result in
    let frame = Pass c.args.base level true in
    let n = c.list_goes_on.new.self in
    let e = c.in_ok-push.ensures.ok in
    let run = c.list_goes_on.ensures.run in
    opens_moves p r n c.push.new.self c.args.base level twice c.list_goes_on.result c.requires.head alone fresh c.requires.list (c.level.ensures ∙ sym (way_level (path r.source.stack)))
    (ap (λ (x : Run). reverse x.frames.frames) (run ∙ ap (λ (x : Run). record x { doing = doing.List }) e) ∙ top_pushed r.frames.frames frame)
    (run ∙ ap (λ (x : Run). record x { doing = doing.List }) e ∙ sym (ap (λ (x : Run). record r { frames = x.frames; doing = doing.List }) (run ∙ ap (λ (x : Run). record x { doing = doing.List }) e)))
    c.list_goes_on.ensures.step

pub returns-in_err-push-clause-opens : goal.returns-in_err-push-clause-opens
returns-in_err-push-clause-opens c = λ alone fresh twice.
    let p = c.args.program.now in
    let r = c.args.self.now in
    let e = c.in_err-push.field-0.0 in
    subst (λ x. MovesFrom p (λ given left f. pass_opened given p twice c.args.base r left f) x c.push.new.self) (sym (stops_with c.from_residual.result e c.from_residual.ensures.1))
    (frame_wants_memory p (λ given left f. pass_opened given p twice c.args.base r left f) c.push.new.self e
    (pass_memory _ p.limits.instances c.args.base c.level.result true r.frames.frames e c.in_err-push.ensures.full))
