use Rattle.std.proofs.Common.{ap, ◌∙◌}
use Rattle.stx_base.specs.declared.part.Part.TheVariants.{End}
use Rattle.result_writer.specs.Target.{Target, behind}
use Rattle.result_writer.proofs.writer.Writer.end_innermost.Goals as goal

pub returns-clause-ok : goal.returns-clause-ok
returns-clause-ok c name =
    c.in-Ok.ensures.ok name
    ∙ ap (λ (t : Target). behind t (End name)) c.self.view_is
