use Rattle.std.proofs.Common.{◌-◌, ◌∙◌, reverse, ap}
use Rattle.frame_stack.specs.Change.{changed, with_turn}
use Rattle.frame_stack.specs.Stack.{FrameStack}
use Rattle.frame_stack.specs.declared.frame.Frame.TheVariants.{Loop}
use Rattle.template_machine.proofs.Placing.{top_changed}
use Rattle.template_machine.proofs.bodies.count_turn.Goals as goal

pub returns : goal.returns
returns c = λ turn others is.
    ap (λ (x : FrameStack). reverse x.frames) c.set_turn.ensures
    ∙ ap (λ n. reverse (changed (with_turn c.args.bound) (n - 1) c.args.frames.now.frames)) c.count-top.ensures
    ∙ top_changed (with_turn c.args.bound) c.args.frames.now.frames (Loop turn) others is
