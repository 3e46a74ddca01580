use Rattle.std.proofs.Common.{ap, sym, ◌∙◌}
use Rattle.result_writer.specs.Allowed.{is_good_name}
use Rattle.result_writer.proofs.Opening.{good_start}
use Rattle.result_writer.proofs.opened.Opened.accept_start.Goals as goal

pub start-requires-clause-good : goal.start-requires-clause-good
start-requires-clause-good c = ap is_good_name c.in_ok-name.ensures ∙ good_start _ _ c.args.name.now (sym c.in_default.ensures)
