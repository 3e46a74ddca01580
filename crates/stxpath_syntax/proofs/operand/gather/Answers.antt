use Rattle.std.proofs.Common.{◌∙◌, sym, ap}
use Rattle.stxpath_syntax.proofs.Gathering.{gathered_step, gathered_end}
use Rattle.stxpath_syntax.proofs.operand.gather.Goals as goal

pub frames-preserved : goal.frames-preserved
frames-preserved c =
    c.frames.invariant ∙ gathered_step c.args.least c.frames.stack c.take_bound.new.stack c.in-Some.frame c.frames.operand c.in_ok-operand.operand
    c.in-Some.ensures.1 c.in-Some.ensures.0 c.in_ok-operand.ensures

pub returns : goal.returns
returns c =
    c.frames.invariant ∙ gathered_end c.args.least c.frames.stack c.frames.operand c.in_default.ensures.0 ∙ ap (λ s. (s, c.frames.operand)) (sym c.in_default.ensures.1)
