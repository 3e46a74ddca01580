use Rattle.std.proofs.Common.{◌∙◌, ap, arith}
use Rattle.std.proofs.lemmas.Result.{err_from_is_err_and}
use Rattle.stxpath_syntax.specs.Tokens.{is_too_deep}
use Rattle.stxpath_syntax.proofs.Counts.{classed_deep}
use Rattle.stxpath_syntax.proofs.Looping.{lex_fault, lex_end}
use Rattle.stxpath_syntax.proofs.lex.tokens.Goals as goal

pub returns-in_err-next : goal.returns-in_err-next
returns-in_err-next c =
    let p = err_from_is_err_and c.from_residual.result c.from_residual.ensures.1 in
    rw (p.1, p.2) (lex_fault c.args.at c.args.text.now c.tokens.found c.tokens.before c.tokens.rest.now c.in_err-next.field-0.0 c.tokens.invariant.0 c.in_err-next.ensures)

pub offset_bounds-rest-next : goal.offset_bounds-rest-next
offset_bounds-rest-next c =
    let h = rw c.in-Some.is at c.in_ok-next.ensures in
    omega (arith, h.2, c.tokens.invariant.2)

pub returns : goal.returns
returns c =
    let h = rw c.in_default.is at c.in_ok-next.ensures in
    lex_end c.args.at c.args.text.now c.tokens.found c.tokens.before c.tokens.rest.now c.tokens.invariant.0 h

pub before_next-before-requires : goal.before_next-before-requires
before_next-before-requires c =
    let h = rw c.in-Some.is at c.in_ok-next.ensures in
    ap (λ t. is_too_deep c.tokens.before.opened t.token) h.0.is_it
    ∙ classed_deep c.tokens.before.opened c.tokens.before.is_operand h.0.found.0 ∙ h.0.is_not_too_deep
