use Rattle.std.proofs.Common.{◌≡◌, ◌++◌, List, None, length}
use Rattle.xml_tokens.specs.Run.{Taken}
use Rattle.xml_tokens.specs.declared.lexeme.Lexeme.{Lexeme}
use Rattle.xml_tokens.proofs.run.drain.Given as goal

abbrev pub invariant-taking : goal.invariant-taking
invariant-taking l = record {
  fresh : l.lexer.over ≡ None;
  taken : (taken : List Lexeme) × (l.lexemes ≡ l.initial.lexemes ++ taken) × Taken l.initial.lexer taken l.lexer;
}

abbrev pub decreases-taking : goal.decreases-taking
decreases-taking l = length l.lexer.unread
