use Rattle.std.proofs.Common.{take}
use Rattle.std.proofs.lemmas.Bool.{OnFalse_at, OnFalse_from}
use Rattle.group_scope.specs.Rows.{NoRows}
use Rattle.group_scope.specs.Words.{of_element}
use Rattle.group_scope.proofs.Rowless.{no_name, no_names}
use Rattle.group_scope.proofs.scope.Scope.may_have_element.Goals as goal

pub returns-then-not-may_have_kind : goal.returns-then-not-may_have_kind
returns-then-not-may_have_kind c =
    let rows = c.args.self.now.rows in
    no_names rows c.args.self.now.words c.args.name.now (OnFalse_at c.if-not-may_have_kind.true c.may_have_kind-3.ensures)
    (OnFalse_at c.if-may_have_kind-2.false c.may_have_kind-2.ensures) (OnFalse_at c.if-may_have_kind.false c.may_have_kind.ensures)

pub returns : goal.returns
returns c =
    let rows = c.args.self.now.rows in
    OnFalse_from c.may_have.result (NoRows rows (take 3 (of_element c.args.self.now.words c.args.name.now)))
    (λ unset. no_name rows c.args.self.now.words c.args.name.now (OnFalse_at unset c.may_have.ensures.number) (OnFalse_at c.if-may_have_unknown.false c.may_have_unknown.ensures)
    (OnFalse_at c.if-may_have_kind-2.false c.may_have_kind-2.ensures) (OnFalse_at c.if-may_have_kind.false c.may_have_kind.ensures))
