use Rattle.std.proofs.Common.{◌∷◌, [], Some, refl}
use Rattle.std.proofs.lemmas.Bool.{OnFalse_at, OnFalse_from}
use Rattle.group_scope.specs.Rows.{NoRows}
use Rattle.group_scope.specs.declared.key.Test.TheVariants as test
use Rattle.group_scope.proofs.Rowless.{no_tests, one_less}
use Rattle.group_scope.proofs.scope.Scope.may_have_cdata.Goals as goal

pub returns : goal.returns
returns c =
    let rows = c.args.self.now.rows in
    OnFalse_from c.may_have_kind-2.result (NoRows rows (Some test.CData ∷ Some test.Chars ∷ []))
    (λ unset. one_less rows test.CData test.CData (Some test.Chars ∷ []) refl (OnFalse_at c.if-may_have_kind.false c.may_have_kind.ensures)
    (one_less rows test.Chars test.Chars [] refl (OnFalse_at unset c.may_have_kind-2.ensures) (no_tests rows)))
