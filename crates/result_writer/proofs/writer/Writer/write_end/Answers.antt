use Rattle.std.proofs.Common.{sym, ap, ◌∙◌}
use Rattle.stx_base.specs.declared.part.Part.TheVariants.{End}
use Rattle.result_writer.specs.Target.{Target, behind}
use Rattle.result_writer.proofs.Answered.{where_ok}
use Rattle.result_writer.proofs.writer.Writer.write_end.Goals as goal

pub returns-clause-ok : goal.returns-clause-ok
returns-clause-ok c name =
    where_ok c.end.result (sym c.is_err.ensures.value ∙ c.if-is_err.false) (c.end.ensures.ok name)
    ∙ ap (λ (t : Target). behind t (End name)) c.self.view_is
