use Rattle.std.proofs.Common.{false}
use Rattle.template_machine.specs.Behind.{MovesFrom, body_done}
use Rattle.template_machine.proofs.Finished.{frame_wants_memory, skip_memory}
use Rattle.template_machine.proofs.Saying.{stops_with}
use Rattle.template_machine.specs.declared.stop.Stop.TheVariants as stop
use Rattle.template_machine.proofs.Finished.{body_moves_open, memory_moves, unspent_moves}
use Rattle.std.proofs.Common.{reverse, Some, Err}
use Rattle.std.proofs.Common.{◌≡◌, ◌∙◌, ◌∷◌, ◌++◌, [], refl, ap, sym, subst, arith}
use Rattle.frame_stack.specs.Stack.{with_frames}
use Rattle.frame_stack.specs.declared.frame.Frame.TheVariants.{Skip}
use Rattle.node_stack.specs.Path.{can_have_children, current}
use Rattle.node_stack.specs.Stack.{path}
use Rattle.template_machine.specs.declared.run.Doing.TheVariants as doing
use Rattle.template_machine.specs.declared.run.Run.{Run}
use Rattle.template_machine.specs.Well.{IsWell}
use Rattle.template_machine.proofs.Taken.{body_skipped, both_by}
use Rattle.template_machine.proofs.Tops.{top_pushed}
use Rattle.template_machine.proofs.Ways.{way_here}
use Rattle.template_machine.proofs.Lightened.{pushed_list}
use Rattle.template_machine.proofs.run.Run.skip_children.Goals as goal
use Rattle.template_machine.proofs.Shelved.{stands_still}

pub returns-clause-stands : goal.returns-clause-stands
returns-clause-stands c =
    let p = c.args.program.now in
    let r = c.args.self.now in
    let m = record r { frames = with_frames (r.frames.frames ++ Skip 0 ∷ []) r.frames } in
    let e : c.push.new.self ≡ m = c.in_ok-push.ensures.ok in
    let b = both_by (can_have_children (current (path r.source.stack))) c.args.spent c.requires.open in
    subst (λ (x : Run). IsWell p (record x { doing = doing.List })) (sym e)
    (body_skipped p r (record m { doing = doing.List }) c.args.level c.args.spent c.requires.over c.requires.apart
    (ap can_have_children (way_here (path r.source.stack)) ∙ b.0) b.1 (record { outer = refl; aside = refl; store = refl; putting = stands_still _ }) refl
    (top_pushed r.frames.frames (Skip 0)) refl)

pub returns-clause-works : goal.returns-clause-works
returns-clause-works c =
    pushed_list 4 c.args.self.now c.push.new.self (record c.push.new.self { doing = doing.List }) (Skip 0) c.in_ok-push.ensures.ok refl (omega arith)

pub returns-clause-moves : goal.returns-clause-moves
returns-clause-moves c = λ alone.
    let p = c.args.program.now in
    let r = c.args.self.now in
    let m = record r { frames = with_frames (r.frames.frames ++ Skip 0 ∷ []) r.frames } in
    let e : c.push.new.self ≡ m = c.in_ok-push.ensures.ok in
    let b = both_by (can_have_children (current (path r.source.stack))) c.args.spent c.requires.open in
    let pushed = ap (λ (x : Run). reverse x.frames.frames) e ∙ top_pushed r.frames.frames (Skip 0) in
    unspent_moves p r (record c.push.new.self { doing = doing.List }) c.args.spent b.1
    (body_moves_open p r (record c.push.new.self { doing = doing.List }) alone c.requires.over.apart b.0 pushed
    (ap (λ (x : Run). record x { doing = doing.List }) e ∙ sym (ap (λ (x : Run). record r { frames = x.frames; doing = doing.List }) e)))

pub returns-in_err-push-clause-moves : goal.returns-in_err-push-clause-moves
returns-in_err-push-clause-moves c = λ alone.
    let p = c.args.program.now in
    let r = c.args.self.now in
    let e = c.in_err-push.field-0.0 in
    subst (λ x. MovesFrom p (λ given left f. body_done given p false c.args.spent r left f) x c.push.new.self) (sym (stops_with c.from_residual.result e c.from_residual.ensures.1))
    (frame_wants_memory p (λ given left f. body_done given p false c.args.spent r left f) c.push.new.self e (skip_memory c.args.at p.limits.instances r.frames.frames e c.in_err-push.ensures.full))
