use Rattle.std.proofs.Common.{◌-◌, ◌++◌, ◌∷◌, [], length, reverse, refl, ap, ◌∙◌}
use Rattle.frame_stack.specs.Change.{changed, with_locals}
use Rattle.frame_stack.specs.Locals.{local}
use Rattle.frame_stack.specs.Stack.{FrameStack, with_frames}
use Rattle.template_machine.specs.declared.run.Run.{Run}
use Rattle.template_machine.proofs.Taking.{binds_one}
use Rattle.template_machine.proofs.Tops.{top_changed}
use Rattle.template_machine.proofs.run.Run.bind.Goals as goal

pub returns-clause-binds : goal.returns-clause-binds
returns-clause-binds c =
    let r = c.args.self.now in
    let x = local c.in_ok-name.name c.args.value in
    binds_one c.args.param.now c.in_ok-name.name c.args.value r c.push_local.new.self c.in_ok-name.ensures
    (c.in_ok-push_local.ensures.ok
    ∙ ap (λ n. with_frames (changed (with_locals (λ ls. ls ++ x ∷ [])) (n - 1) r.frames.frames) r.frames) c.count-body.ensures)

pub returns-clause-pushes : goal.returns-clause-pushes
returns-clause-pushes c = λ f others e.
    let r = c.args.self.now in
    let xs = r.frames.frames in
    let x = local c.in_ok-name.name c.args.value in
    ap (λ (s : FrameStack). reverse s.frames) c.in_ok-push_local.ensures.ok
    ∙ ap (λ n. reverse (changed (with_locals (λ ls. ls ++ x ∷ [])) (n - 1) xs)) c.count-body.ensures
    ∙ top_changed (with_locals (λ ls. ls ++ x ∷ [])) xs f others e
    ∙ ap (λ n. with_locals (λ ls. ls ++ local n c.args.value ∷ []) f ∷ others) c.in_ok-name.ensures

pub returns-clause-rest : goal.returns-clause-rest
returns-clause-rest c = refl
