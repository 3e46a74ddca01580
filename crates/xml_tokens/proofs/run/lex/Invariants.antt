use Rattle.std.proofs.Common.{◌≡◌, None, false, take}
use Rattle.std.specs.List.{flat_map}
use Rattle.xml_tokens.specs.Run.{Taken, document}
use Rattle.xml_tokens.proofs.run.lex.Given as goal

abbrev pub invariant-loop-piece : goal.invariant-loop-piece
invariant-loop-piece l = record {
  fresh : l.lexer.over ≡ None;
  going : l.lexer.ended ≡ false;
  taken : Taken (record (document l.fn.limits (flat_map (λ piece. piece.items) (take l.piece-index l.pieces))) { ended = false }) l.lexemes l.lexer;
}
