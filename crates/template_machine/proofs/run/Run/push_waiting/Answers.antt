use Rattle.std.proofs.Common.{◌≡◌, ◌∷◌, ◌++◌, ◌∙◌, [], List, length, refl, ap, sym, subst, arith, append-nil, append_assoc}
use Rattle.std.specs.Vec.Iter.{into_iter_items}
use Rattle.frame_stack.specs.Stack.{FrameStack}
use Rattle.template_machine.specs.Working.{PushesWaiting}
use Rattle.template_machine.specs.declared.run.Run.{Run}
use Rattle.template_machine.proofs.Pushing.{pushed_more, pushed_none, pushed_within}
use Rattle.template_machine.proofs.run.Run.push_waiting.Goals as goal

pub loop-value-init : goal.loop-value-init
loop-value-init c =
    let e : into_iter_items c.into_iter-value-iterator.result ≡ c.args.values = cc in
    (pushed_none c.args.self.now c.args.body, e)

pub push_local-requires : goal.push_local-requires
push_local-requires c =
    pushed_within c.args.self.now c.loop-value.self c.args.body c.loop-value.yielded c.loop-value.invariant.0 c.requires

pub loop-value-preserved : goal.loop-value-preserved
loop-value-preserved c =
    let r = c.args.self.now in
    let s = c.loop-value.self in
    let t = record s { frames = c.push_local.new.self } in
    let ys = c.loop-value.yielded in (
      pushed_more r s t c.args.body ys _ c.no_name-name.ensures c.loop-value.invariant.0 (ap (λ (f : FrameStack). record s { frames = f }) c.in_ok-push_local.ensures.ok),
      append_assoc ys (c.in-Some.value ∷ []) _ ∙ ap (λ l. ys ++ l) (sym c.in-Some.ensures.steps.0) ∙ c.loop-value.invariant.1,
    )

pub returns-clause-pushes : goal.returns-clause-pushes
returns-clause-pushes c =
    let items = into_iter_items c.loop-value.value-iterator in
    let none : length items ≡ 0 = omega (arith, c.loop-value.value-iterator.rest.ok.0, c.in-None.ensures.steps.0) in
    subst (λ vs. PushesWaiting vs c.args.body c.args.self.now c.loop-value.self)
    (sym (append-nil c.loop-value.yielded) ∙ ap (λ l. c.loop-value.yielded ++ l) (sym (nothing items none)) ∙ c.loop-value.invariant.1) c.loop-value.invariant.0
  where
    nothing : {A : Type 0} (xs : List A) → length xs ≡ 0 → xs ≡ []
    nothing [] e = refl
    nothing (x ∷ xs) e = absurd (omega (arith, e))

pub returns-clause-rest : goal.returns-clause-rest
returns-clause-rest c =
    let e = c.loop-value.invariant.0.1.1 in e ∙ sym (ap (λ (x : Run). record c.args.self.now { frames = x.frames }) e)

pub returns-in_err-push_local-clause-rest : goal.returns-in_err-push_local-clause-rest
returns-in_err-push_local-clause-rest c = ap (λ (x : Run). record x { frames = c.push_local.new.self }) c.loop-value.invariant.0.1.1
