use Rattle.std.proofs.Common.{◌≡◌, ◌+◌, ◌∙◌, [], ◌∷◌, ◌++◌, ap, sym, arith, append-nil, append_assoc}
use Rattle.template_machine.specs.Bodies.{active_in, below}
use Rattle.template_machine.specs.declared.bodies.Seen.TheVariants.{Outside, Template, Within}
use Rattle.template_machine.proofs.Below.{active_at}
use Rattle.template_machine.proofs.bodies.active.Goals as goal

pub returns-in-Outside : goal.returns-in-Outside
returns-in-Outside c =
    let up : c.in-Some.under + 1 ≡ c.loop-under.top = omega (arith, c.in-Some.ensures) in
    sym (append-nil c.loop-under.active)
    ∙ ap (λ l. c.loop-under.active ++ l)
    (sym (active_at c.args.level c.args.frames.now.frames c.loop-under.top c.in-Some.under c.at.result.now Outside up c.at.ensures (sym c.see.ensures ∙ c.in-Outside.is)))
    ∙ c.loop-under.invariant.done

pub loop-under-preserved-in_ok-push-in-Template : goal.loop-under-preserved-in_ok-push-in-Template
loop-under-preserved-in_ok-push-in-Template c =
    let up : c.in-Some.under + 1 ≡ c.loop-under.top = omega (arith, c.in-Some.ensures) in
    let rest = active_in c.args.level (below c.in-Some.under c.args.frames.now.frames) in
    record {
      within = omega (arith, c.in-Some.ensures);
      done =
          ap (λ l. l ++ rest) c.in_ok-push-in-Template.ensures.ok
          ∙ append_assoc c.loop-under.active (c.in-Template.template ∷ []) rest
          ∙ ap (λ l. c.loop-under.active ++ l)
          (sym (active_at c.args.level c.args.frames.now.frames c.loop-under.top c.in-Some.under c.at.result.now (Template c.in-Template.template) up c.at.ensures (sym c.see.ensures ∙ c.in-Template.is)))
          ∙ c.loop-under.invariant.done;
    }

pub loop-under-preserved : goal.loop-under-preserved
loop-under-preserved c =
    let up : c.in-Some.under + 1 ≡ c.loop-under.top = omega (arith, c.in-Some.ensures) in
    record {
      within = omega (arith, c.in-Some.ensures);
      done =
          ap (λ l. c.loop-under.active ++ l)
          (sym (active_at c.args.level c.args.frames.now.frames c.loop-under.top c.in-Some.under c.at.result.now Within up c.at.ensures (sym c.see.ensures ∙ c.in-Within.is)))
          ∙ c.loop-under.invariant.done;
    }
