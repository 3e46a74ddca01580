use Rattle.std.proofs.Common.{◌≡◌, Some, Err, sym, subst, arith}
use Rattle.std.proofs.lemmas.Result.{err_from_is_err_and}
use Rattle.stxpath_syntax.specs.declared.state.Mode.TheVariants.{Operand}
use Rattle.stxpath_syntax.specs.Counts.{CountTo}
use Rattle.stxpath_syntax.specs.Grammar.{Spells}
use Rattle.stxpath_syntax.specs.Machine.{run, end_of_expression}
use Rattle.stxpath_syntax.specs.Running.{Runs}
use Rattle.stxpath_syntax.proofs.Answering.{no_tokens, no_state, ran}
use Rattle.stxpath_syntax.proofs.Running.{in_state}
use Rattle.stxpath_syntax.proofs.Stopping.{expression_begun, expressions}
use Rattle.stxpath_syntax.proofs.parse.expression.Goals as goal

pub returns-in_err-tokens : goal.returns-in_err-tokens
returns-in_err-tokens c =
    let p = err_from_is_err_and c.from_residual.result c.from_residual.ensures.1 in
    rw (p.1, p.2) (no_tokens (Spells c.args.dialect c.args.scope.now 1) c.args.at c.args.text.now c.in_err-tokens.field-0.0 c.in_err-tokens.ensures)

pub returns-in_err-state : goal.returns-in_err-state
returns-in_err-state c =
    let p = err_from_is_err_and c.from_residual-in_err-state.result c.from_residual-in_err-state.ensures.1 in
    let dialect = c.args.dialect in
    let scope = c.args.scope.now in
    let h = subst (λ frames. Runs dialect scope (in_state frames Operand) c.in_ok-tokens.tokens (Err c.in_err-state.field-0.0)) c.new.ensures c.in_err-state.ensures in
    rw (p.1, p.2) (no_state dialect scope (Spells dialect scope 1) expression_begun (end_of_expression scope) (expressions dialect scope) c.args.at c.args.text.now
    c.in_ok-tokens.tokens c.in_err-state.field-0.0 c.in_ok-tokens.ensures h)

pub returns : goal.returns
returns c =
    let dialect = c.args.dialect in
    let scope = c.args.scope.now in
    let h = subst (λ frames. run dialect scope c.in_ok-tokens.tokens (in_state frames Operand) ≡ Some c.in_ok-state.state) c.new.ensures c.in_ok-state.ensures in
    ran dialect scope (Spells dialect scope 1) expression_begun (end_of_expression scope) (expressions dialect scope) c.args.at c.args.text.now c.in_ok-tokens.tokens
    c.in_ok-state.state c.whole_expression.result c.in_ok-tokens.ensures h c.whole_expression.ensures

pub run-requires : goal.run-requires
run-requires c = record { frames = subst (CountTo 0) (sym c.new.ensures) tt; mode = omega arith }
