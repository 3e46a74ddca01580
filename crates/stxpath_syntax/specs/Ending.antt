-- What the token behind an operand does, in the two parts of the code.
use Rattle.std.specs.Prelude.{ℕ, List, Option, Some, None}
use Rattle.stxpath_syntax.specs.declared.expr.Expr.{Expr}
use Rattle.stxpath_syntax.specs.declared.meant.Meant.{Meant}
use Rattle.stxpath_syntax.specs.declared.operand.Sequel.{Sequel}
use Rattle.stxpath_syntax.specs.declared.operand.Sequel.TheVariants.{Operator, Close, Comma, ClosePredicate}
use Rattle.stxpath_syntax.specs.declared.state.Frame.{Frame}
use Rattle.stxpath_syntax.specs.declared.token.Token.{Token}
use Rattle.stxpath_syntax.specs.declared.token.Token.TheVariants as token
use Rattle.stxpath_syntax.specs.Grammar.{left_level}
use Rattle.stxpath_syntax.specs.Machine.{Next, wait, close, separate, close_predicate}

-- what a token does that can stand behind an operand
abbrev pub sequel_of : Token → Option Sequel
sequel_of (token.Operator o) = Some (Operator o)
sequel_of token.Close = Some Close
sequel_of token.Comma = Some Comma
sequel_of token.ClosePredicate = Some ClosePredicate
sequel_of _ = None

abbrev pub ended : Sequel → ℕ → List Frame × Meant Expr → Next
ended (Operator o) at gathered = wait o at gathered
ended Close at gathered = close gathered
ended Comma at gathered = separate gathered
ended ClosePredicate at gathered = close_predicate gathered

abbrev pub least : Sequel → ℕ
least (Operator o) = left_level o
least _ = 0
