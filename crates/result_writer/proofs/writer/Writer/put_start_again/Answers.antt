use Rattle.std.proofs.Common.{sym}
use Rattle.result_writer.proofs.Opening.{good_start}
use Rattle.result_writer.proofs.writer.Writer.put_start_again.Goals as goal

pub start_again-requires : goal.start_again-requires
start_again-requires c = good_start _ _ c.args.name (sym c.in_default.ensures)
