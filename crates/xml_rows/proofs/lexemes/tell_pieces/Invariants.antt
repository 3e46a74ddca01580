use Rattle.std.proofs.Common.{◌≡◌, false}
use Rattle.xml_rows.proofs.lexemes.tell_pieces.Given as goal

abbrev pub invariant-loop-piece : goal.invariant-loop-piece
invariant-loop-piece g l = l.lexer.ended ≡ false
