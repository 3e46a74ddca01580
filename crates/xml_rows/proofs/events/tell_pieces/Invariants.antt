use Rattle.std.proofs.Common.{◌≡◌, false}
use Rattle.xml_rows.proofs.events.tell_pieces.Given as goal

abbrev pub invariant-loop-piece : goal.invariant-loop-piece
invariant-loop-piece l = l.reader.lexer.ended ≡ false
