use Rattle.std.proofs.Common.{◌≡◌, ◌+◌, ◌∙◌, true, ap, sym, arith, length}
use Rattle.frame_stack.specs.Change.{with_spent}
use Rattle.frame_stack.specs.Stack.{FrameStack}
use Rattle.template_machine.proofs.Below.{changed_long, done_at, done_body, done_on, done_out}
use Rattle.template_machine.proofs.bodies.spend_children.Goals as goal

pub returns-in-Outside : goal.returns-in-Outside
returns-in-Outside c =
    let up : c.in-Some.under + 1 ≡ c.loop-under.top = omega (arith, c.in-Some.ensures) in
    sym (done_out c.args.level c.loop-under.frames.frames c.loop-under.top c.in-Some.under c.at.result.now up c.at.ensures (sym c.see.ensures ∙ c.in-Outside.is))
    ∙ c.loop-under.invariant.done

pub loop-under-preserved-in-Template : goal.loop-under-preserved-in-Template
loop-under-preserved-in-Template c =
    let up : c.in-Some.under + 1 ≡ c.loop-under.top = omega (arith, c.in-Some.ensures) in
    let frames = ap (λ (x : FrameStack). x.frames) c.set_spent.ensures in
    let long = changed_long (with_spent true) c.loop-under.frames.frames c.in-Some.under c.at.result.now c.at.ensures in
    record {
      within = omega (arith, c.in-Some.ensures, ap length frames, long);
      done =
          ap (λ l. done_at c.args.level l c.in-Some.under) frames
          ∙ done_body c.args.level c.loop-under.frames.frames c.loop-under.top c.in-Some.under c.at.result.now c.in-Template.field-0 up c.at.ensures
          (sym c.see.ensures ∙ c.in-Template.is)
          ∙ c.loop-under.invariant.done;
    }

pub loop-under-preserved : goal.loop-under-preserved
loop-under-preserved c =
    let up : c.in-Some.under + 1 ≡ c.loop-under.top = omega (arith, c.in-Some.ensures) in
    record {
      within = omega (arith, c.in-Some.ensures);
      done =
          done_on c.args.level c.loop-under.frames.frames c.loop-under.top c.in-Some.under c.at.result.now up c.at.ensures (sym c.see.ensures ∙ c.in-Within.is)
          ∙ c.loop-under.invariant.done;
    }
