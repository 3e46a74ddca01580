use Rattle.std.proofs.Common.{◌∙◌, sym}
use Rattle.std.proofs.lemmas.Result.{err_from_is_err_and}
use Rattle.stxpath_syntax.proofs.Cutting.{cut_double, lone_by, unended_by, value_by, faulty_by}
use Rattle.stxpath_syntax.proofs.avt.braced.Goals as goal

pub returns-then-follows : goal.returns-then-follows
returns-then-follows c = cut_double c.args.dialect c.args.scope.now c.args.at c.args.c c.args.rest.now c.requires.brace (sym c.follows.ensures ∙ c.if-follows.true)

pub returns-then-c-eq125 : goal.returns-then-c-eq125
returns-then-c-eq125 c =
    lone_by c.args.dialect c.args.scope.now c.args.at c.args.c c.args.rest.now c.syntax.result c.if-c-eq125.true c.syntax.ensures (sym c.follows.ensures ∙ c.if-follows.false)

pub returns-in_default : goal.returns-in_default
returns-in_default c =
    unended_by c.args.dialect c.args.scope.now c.args.at c.args.c c.args.rest.now c.syntax-in_default.result c.requires.brace c.if-c-eq125.false c.syntax-in_default.ensures
    (sym c.follows.ensures ∙ c.if-follows.false) (sym c.closing.ensures.value ∙ c.in_default.is)

pub returns-in_err-value : goal.returns-in_err-value
returns-in_err-value c =
    let p = err_from_is_err_and c.from_residual.result c.from_residual.ensures.1 in
    rw (p.1, p.2) (faulty_by c.args.dialect c.args.scope.now c.args.at c.args.c c.in-Some.len c.args.rest.now c.in_err-value.field-0.0 c.requires.brace c.if-c-eq125.false
    (sym c.follows.ensures ∙ c.if-follows.false) (sym c.in-Some.ensures.value) c.in_err-value.ensures)

pub returns : goal.returns
returns c =
    value_by c.args.dialect c.args.scope.now c.args.at c.args.c c.in-Some.len c.args.rest.now c.in_ok-value.value c.requires.brace c.if-c-eq125.false
    (sym c.follows.ensures ∙ c.if-follows.false) (sym c.in-Some.ensures.value) c.in_ok-value.ensures
