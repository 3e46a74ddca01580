use Rattle.std.proofs.Common.{sym}
use Rattle.result_writer.proofs.Opening.{good_start}
use Rattle.result_writer.proofs.writer.Writer.put_owned_start.Goals as goal

pub write_start-requires : goal.write_start-requires
write_start-requires c = good_start _ _ c.args.name (sym c.in_default.ensures)
