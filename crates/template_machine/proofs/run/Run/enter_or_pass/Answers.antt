use Rattle.std.proofs.Common.{◌≡◌, ◌+◌, if◌then◌else◌, reverse, ap, sym, ◌∙◌}
use Rattle.frame_stack.specs.Change.{with_pc}
use Rattle.template_machine.specs.Bodies.{on_body}
use Rattle.template_machine.proofs.run.Run.enter_or_pass.Goals as goal

pub returns-then-inside-clause-behind : goal.returns-then-inside-clause-behind
returns-then-inside-clause-behind c =
    c.enter_list.ensures.behind
    ∙ sym (ap (λ b. on_body (with_pc (if b then c.args.running.pc + 1 else c.args.to)) (reverse c.args.self.now.frames.frames)) c.if-inside.true)

pub returns-clause-behind : goal.returns-clause-behind
returns-clause-behind c =
    c.pass_list.ensures.behind
    ∙ sym (ap (λ b. on_body (with_pc (if b then c.args.running.pc + 1 else c.args.to)) (reverse c.args.self.now.frames.frames)) c.if-inside.false)
