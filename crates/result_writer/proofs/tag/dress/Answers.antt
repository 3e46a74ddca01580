use Rattle.std.proofs.Common.{sym, ◌∙◌}
use Rattle.result_writer.proofs.Steadying.{dressed-steady}
use Rattle.result_writer.proofs.tag.dress.Goals as goal

pub returns-then-keeps_names : goal.returns-then-keeps_names
returns-then-keeps_names c =
    sym (dressed-steady c.args.in_force.now c.args.tag.now (sym c.keeps_names.ensures ∙ c.if-keeps_names.true) (c.requires c.if-keeps.true))
