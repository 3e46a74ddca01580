use Rattle.std.proofs.Common.{◌≡◌}
use Rattle.xml_rows.proofs.writer.judged.put_all.Given as goal

abbrev pub invariant-loop-part : goal.invariant-loop-part
invariant-loop-part l = l.both.judge ≡ l.both.writer
