use Rattle.std.proofs.Common.{◌≡◌, ◌+◌, ◌++◌, ◌≤◌, List, Option, length}
use Rattle.stxpath_syntax.specs.declared.fault.PathFault.{PathFault}
use Rattle.stxpath_syntax.specs.declared.token.Placed.{Placed}
use Rattle.stxpath_syntax.specs.Tokens.{Lexed, Tokens}
use Rattle.stxpath_syntax.proofs.lex.tokens.Given as goal

abbrev pub invariant-tokens : goal.invariant-tokens
invariant-tokens l =
    ((ts : List Placed) (over : Option PathFault) → Lexed l.before l.rest ts over → Tokens l.fn.at l.fn.text (l.found ++ ts) over)
    × (l.before.at + length l.rest ≡ l.fn.at + length l.fn.text) × (length l.rest ≤ length l.fn.text)

abbrev pub decreases-tokens : goal.decreases-tokens
decreases-tokens l = length l.rest
