use Rattle.std.proofs.Common.{◌≡◌}
use Rattle.xml_rows.proofs.lexemes.LexemesDrains.drain.Given as goal

abbrev pub invariant-loop : goal.invariant-loop
invariant-loop l = l.lexer.ended ≡ l.initial.lexer.ended
