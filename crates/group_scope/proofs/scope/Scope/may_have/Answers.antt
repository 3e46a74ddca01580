use Rattle.std.proofs.Common.{◌≡◌, Bool, ◌∷◌, [], None, Some, refl, sym, subst}
use Rattle.std.specs.Bool.{OnFalse}
use Rattle.std.proofs.lemmas.Bool.{OnFalse_at, OnFalse_from}
use Rattle.node_stack.specs.Open.{node_of}
use Rattle.node_stack.specs.Path.{kind_of}
use Rattle.node_stack.specs.declared.node.NodeView.{NodeView}
use Rattle.group_scope.specs.Rows.{NoRows}
use Rattle.group_scope.specs.Words.{asked, of_element}
use Rattle.group_scope.specs.declared.key.Test.TheVariants as test
use Rattle.group_scope.specs.declared.rows.Rows.{Rows}
use Rattle.group_scope.specs.declared.words.Words.{Words}
use Rattle.group_scope.proofs.Rowless.{name_then_any, no_tests, one_less, section_then_any}
use Rattle.group_scope.proofs.scope.Scope.may_have.Goals as goal

-- of what a node is
of_it : (rows : Rows) (words : Words) (v w : NodeView) (b : Bool) → v ≡ w → OnFalse b (NoRows rows (asked words (kind_of (node_of w)))) → OnFalse b (NoRows rows (asked words (kind_of (node_of v))))
of_it rows words v w b e h = subst (λ (x : NodeView). OnFalse b (NoRows rows (asked words (kind_of (node_of x))))) (sym e) h

pub returns-in-Document : goal.returns-in-Document
returns-in-Document c =
    let rows = c.args.self.now.rows in
    of_it rows c.args.self.now.words c.args.node _ c.may_have_kind-in-Document.result c.in-Document.is
    (OnFalse_from c.may_have_kind-in-Document.result (NoRows rows (Some test.Document ∷ None ∷ None ∷ None ∷ []))
    (λ unset. one_less rows test.Document test.Document (None ∷ None ∷ None ∷ []) refl (OnFalse_at unset c.may_have_kind-in-Document.ensures) (no_tests rows)))

pub returns-in-Element : goal.returns-in-Element
returns-in-Element c =
    let rows = c.args.self.now.rows in
    let words = c.args.self.now.words in
    let name = c.in-Element.name.now in
    of_it rows words c.args.node _ c.may_have_element.result c.in-Element.is
    (OnFalse_from c.may_have_element.result (NoRows rows (of_element words name))
    (λ unset. name_then_any rows words name (OnFalse_at unset c.may_have_element.ensures) (OnFalse_at c.if-may_have_kind.false c.may_have_kind.ensures)))

pub returns-in-Chars : goal.returns-in-Chars
returns-in-Chars c =
    let rows = c.args.self.now.rows in
    of_it rows c.args.self.now.words c.args.node _ c.may_have_kind-in-Chars.result c.in-Chars.is
    (OnFalse_from c.may_have_kind-in-Chars.result (NoRows rows (Some test.Chars ∷ Some test.AnyNode ∷ None ∷ None ∷ []))
    (λ unset. one_less rows test.Chars test.Chars (Some test.AnyNode ∷ None ∷ None ∷ []) refl (OnFalse_at unset c.may_have_kind-in-Chars.ensures)
    (one_less rows test.AnyNode test.AnyNode (None ∷ None ∷ []) refl (OnFalse_at c.if-may_have_kind.false c.may_have_kind.ensures) (no_tests rows))))

pub returns-in-CData : goal.returns-in-CData
returns-in-CData c =
    let rows = c.args.self.now.rows in
    of_it rows c.args.self.now.words c.args.node _ c.may_have_cdata.result c.in-CData.is
    (OnFalse_from c.may_have_cdata.result (NoRows rows (Some test.CData ∷ Some test.Chars ∷ Some test.AnyNode ∷ None ∷ []))
    (λ unset. section_then_any rows (OnFalse_at unset c.may_have_cdata.ensures) (OnFalse_at c.if-may_have_kind.false c.may_have_kind.ensures)))

pub returns-in-Comment : goal.returns-in-Comment
returns-in-Comment c =
    let rows = c.args.self.now.rows in
    of_it rows c.args.self.now.words c.args.node _ c.may_have_kind-in-Comment.result c.in-Comment.is
    (OnFalse_from c.may_have_kind-in-Comment.result (NoRows rows (Some test.Comment ∷ Some test.AnyNode ∷ None ∷ None ∷ []))
    (λ unset. one_less rows test.Comment test.Comment (Some test.AnyNode ∷ None ∷ None ∷ []) refl (OnFalse_at unset c.may_have_kind-in-Comment.ensures)
    (one_less rows test.AnyNode test.AnyNode (None ∷ None ∷ []) refl (OnFalse_at c.if-may_have_kind.false c.may_have_kind.ensures) (no_tests rows))))
