use Rattle.std.proofs.Common.{◌∙◌, ◌∷◌, [], ap, codes}
use Rattle.sheet_loader.specs.Gathering.{values_in}
use Rattle.sheet_loader.specs.Making.{as_expression, value_at}
use Rattle.sheet_loader.specs.Meant.{item_of}
use Rattle.sheet_loader.specs.declared.item.Item.TheVariants as made
use Rattle.sheet_loader.specs.declared.kind.Kind.TheVariants as kind
use Rattle.sheet_loader.proofs.MakingLemmas.{by_kind, content-held}
use Rattle.sheet_loader.proofs.making.item.Goals as goal

pub returns-in-ValueOf : goal.returns-in-ValueOf
returns-in-ValueOf c = λ items h.
    by_kind c.args.kind kind.ValueOf c.args.spot.group c.args.spot.at c.args.scope.now (values_in c.args.values.now) items (item_of (c.value_of.result) ∷ []) c.in-ValueOf.is
    (ap (λ i. item_of i ∷ []) c.value_of.ensures)

pub returns-in-Chars : goal.returns-in-Chars
returns-in-Chars c = λ items h.
    by_kind c.args.kind kind.Chars c.args.spot.group c.args.spot.at c.args.scope.now (values_in c.args.values.now) items (item_of (c.chars.result) ∷ []) c.in-Chars.is
    (ap (λ i. item_of i ∷ []) c.chars.ensures ∙ cc)

pub returns-in-Copy : goal.returns-in-Copy
returns-in-Copy c = λ items h.
    by_kind c.args.kind kind.Copy c.args.spot.group c.args.spot.at c.args.scope.now (values_in c.args.values.now) items (item_of (c.copy.result) ∷ []) c.in-Copy.is
    (ap (λ i. item_of i ∷ []) c.copy.ensures ∙ cc)

pub returns-in_ok-copy-in-Element : goal.returns-in_ok-copy-in-Element
returns-in_ok-copy-in-Element c = λ items h.
    by_kind c.args.kind kind.Element c.args.spot.group c.args.spot.at c.args.scope.now (values_in c.args.values.now) items (item_of (c.element.result) ∷ []) c.in-Element.is
    (ap (λ i. item_of i ∷ []) c.element.ensures ∙ cc (c.in_ok-copy-in-Element.ensures))

pub returns-in_ok-copy-in-StartElement : goal.returns-in_ok-copy-in-StartElement
returns-in_ok-copy-in-StartElement c = λ items h.
    by_kind c.args.kind kind.StartElement c.args.spot.group c.args.spot.at c.args.scope.now (values_in c.args.values.now) items (item_of (c.start_element.result) ∷ []) c.in-StartElement.is
    (ap (λ i. item_of i ∷ []) c.start_element.ensures ∙ cc (c.in_ok-copy-in-StartElement.ensures))

pub returns-in_ok-copy-in-EndElement : goal.returns-in_ok-copy-in-EndElement
returns-in_ok-copy-in-EndElement c = λ items h.
    by_kind c.args.kind kind.EndElement c.args.spot.group c.args.spot.at c.args.scope.now (values_in c.args.values.now) items (item_of (c.end_element.result) ∷ []) c.in-EndElement.is
    (ap (λ i. item_of i ∷ []) c.end_element.ensures ∙ cc (c.in_ok-copy-in-EndElement.ensures))

pub returns-in_ok-copy-in-Attribute : goal.returns-in_ok-copy-in-Attribute
returns-in_ok-copy-in-Attribute c = λ items h.
    by_kind c.args.kind kind.Attribute c.args.spot.group c.args.spot.at c.args.scope.now (values_in c.args.values.now) items (item_of (c.attribute.result) ∷ []) c.in-Attribute.is
    (ap (λ i. item_of i ∷ []) c.attribute.ensures ∙ cc (c.in_ok-copy-in-Attribute.ensures, content-held (as_expression (value_at (codes "select") (values_in c.args.values.now))) c.args.inner.now.text items h.text))

pub returns-in-Comment : goal.returns-in-Comment
returns-in-Comment c = λ items h.
    by_kind c.args.kind kind.Comment c.args.spot.group c.args.spot.at c.args.scope.now (values_in c.args.values.now) items (item_of (c.comment.result) ∷ []) c.in-Comment.is
    (ap (λ i. item_of i ∷ []) c.comment.ensures ∙ cc (content-held (as_expression (value_at (codes "select") (values_in c.args.values.now))) c.args.inner.now.text items h.text))

pub returns-in_ok-copy-in-Instruction : goal.returns-in_ok-copy-in-Instruction
returns-in_ok-copy-in-Instruction c = λ items h.
    by_kind c.args.kind kind.Instruction c.args.spot.group c.args.spot.at c.args.scope.now (values_in c.args.values.now) items (item_of (c.instruction.result) ∷ []) c.in-Instruction.is
    (ap (λ i. item_of i ∷ []) c.instruction.ensures ∙ cc (c.in_ok-copy-in-Instruction.ensures, content-held (as_expression (value_at (codes "select") (values_in c.args.values.now))) c.args.inner.now.text items h.text))

pub returns-in-Message : goal.returns-in-Message
returns-in-Message c = λ items h.
    by_kind c.args.kind kind.Message c.args.spot.group c.args.spot.at c.args.scope.now (values_in c.args.values.now) items (item_of (c.message.result) ∷ []) c.in-Message.is
    (ap (λ i. item_of i ∷ []) c.message.ensures ∙ cc (content-held (as_expression (value_at (codes "select") (values_in c.args.values.now))) c.args.inner.now.text items h.text))

pub returns-in-Choose : goal.returns-in-Choose
returns-in-Choose c = λ items h.
    by_kind c.args.kind kind.Choose c.args.spot.group c.args.spot.at c.args.scope.now (values_in c.args.values.now) items (item_of (c.choose.result) ∷ []) c.in-Choose.is
    (ap (λ i. item_of i ∷ []) c.choose.ensures ∙ cc)

pub returns-in-ForEachItem : goal.returns-in-ForEachItem
returns-in-ForEachItem c = λ items h.
    by_kind c.args.kind kind.ForEachItem c.args.spot.group c.args.spot.at c.args.scope.now (values_in c.args.values.now) items (item_of (c.for_each_item.result) ∷ []) c.in-ForEachItem.is
    (ap (λ i. item_of i ∷ []) c.for_each_item.ensures ∙ cc)

pub returns-in-While : goal.returns-in-While
returns-in-While c = λ items h.
    by_kind c.args.kind kind.While c.args.spot.group c.args.spot.at c.args.scope.now (values_in c.args.values.now) items (item_of (c.while_holds.result) ∷ []) c.in-While.is
    (ap (λ i. item_of i ∷ []) c.while_holds.ensures ∙ cc)

pub returns-in-Assign : goal.returns-in-Assign
returns-in-Assign c = λ items h.
    by_kind c.args.kind kind.Assign c.args.spot.group c.args.spot.at c.args.scope.now (values_in c.args.values.now) items (item_of (c.assign.result) ∷ []) c.in-Assign.is
    (ap (λ i. item_of i ∷ []) c.assign.ensures)

pub returns-in-CallProcedure : goal.returns-in-CallProcedure
returns-in-CallProcedure c = λ items h.
    by_kind c.args.kind kind.CallProcedure c.args.spot.group c.args.spot.at c.args.scope.now (values_in c.args.values.now) items (item_of (c.call_procedure.result) ∷ []) c.in-CallProcedure.is
    (ap (λ i. item_of i ∷ []) c.call_procedure.ensures ∙ cc)

pub returns-in-ProcessChildren : goal.returns-in-ProcessChildren
returns-in-ProcessChildren c = λ items h.
    by_kind c.args.kind kind.ProcessChildren c.args.spot.group c.args.spot.at c.args.scope.now (values_in c.args.values.now) items (item_of (c.process_children.result) ∷ []) c.in-ProcessChildren.is
    (ap (λ i. item_of i ∷ []) c.process_children.ensures ∙ cc)

pub returns-in-ProcessAttributes : goal.returns-in-ProcessAttributes
returns-in-ProcessAttributes c = λ items h.
    by_kind c.args.kind kind.ProcessAttributes c.args.spot.group c.args.spot.at c.args.scope.now (values_in c.args.values.now) items (item_of (c.process_attributes.result) ∷ []) c.in-ProcessAttributes.is
    (ap (λ i. item_of i ∷ []) c.process_attributes.ensures ∙ cc)

pub returns-in-ProcessSelf : goal.returns-in-ProcessSelf
returns-in-ProcessSelf c = λ items h.
    by_kind c.args.kind kind.ProcessSelf c.args.spot.group c.args.spot.at c.args.scope.now (values_in c.args.values.now) items (item_of (c.process_self.result) ∷ []) c.in-ProcessSelf.is
    (ap (λ i. item_of i ∷ []) c.process_self.ensures ∙ cc)

pub returns-in-ProcessSiblings : goal.returns-in-ProcessSiblings
returns-in-ProcessSiblings c = λ items h.
    by_kind c.args.kind kind.ProcessSiblings c.args.spot.group c.args.spot.at c.args.scope.now (values_in c.args.values.now) items (item_of (c.process_siblings.result) ∷ []) c.in-ProcessSiblings.is
    (ap (λ i. item_of i ∷ []) c.process_siblings.ensures ∙ cc)

pub returns-in-ProcessBuffer : goal.returns-in-ProcessBuffer
returns-in-ProcessBuffer c = λ items h.
    by_kind c.args.kind kind.ProcessBuffer c.args.spot.group c.args.spot.at c.args.scope.now (values_in c.args.values.now) items (item_of (c.process_buffer.result) ∷ []) c.in-ProcessBuffer.is
    (ap (λ i. item_of i ∷ []) c.process_buffer.ensures ∙ cc)

pub returns-in-ProcessDocument : goal.returns-in-ProcessDocument
returns-in-ProcessDocument c = λ items h.
    by_kind c.args.kind kind.ProcessDocument c.args.spot.group c.args.spot.at c.args.scope.now (values_in c.args.values.now) items (item_of (c.process_document.result) ∷ []) c.in-ProcessDocument.is
    (ap (λ i. item_of i ∷ []) c.process_document.ensures ∙ cc)

pub returns-in-ResultBuffer : goal.returns-in-ResultBuffer
returns-in-ResultBuffer c = λ items h.
    by_kind c.args.kind kind.ResultBuffer c.args.spot.group c.args.spot.at c.args.scope.now (values_in c.args.values.now) items (item_of (c.result_buffer.result) ∷ []) c.in-ResultBuffer.is
    (ap (λ i. item_of i ∷ []) c.result_buffer.ensures ∙ cc)

pub returns-in-If : goal.returns-in-If
returns-in-If c = λ items h.
    by_kind c.args.kind kind.If c.args.spot.group c.args.spot.at c.args.scope.now (values_in c.args.values.now) items (item_of (c.if_holds.result) ∷ []) c.in-If.is
    (ap (λ i. item_of i ∷ []) c.if_holds.ensures ∙ cc)

pub returns-in-Else : goal.returns-in-Else
returns-in-Else c = λ items h.
    by_kind c.args.kind kind.Else c.args.spot.group c.args.spot.at c.args.scope.now (values_in c.args.values.now) items (item_of (made.Else c.take_body.result) ∷ []) c.in-Else.is
    (ap (λ i. item_of (made.Else i) ∷ []) c.take_body.ensures.value ∙ cc)

pub returns-in-When : goal.returns-in-When
returns-in-When c = λ items h.
    by_kind c.args.kind kind.When c.args.spot.group c.args.spot.at c.args.scope.now (values_in c.args.values.now) items (item_of (made.Branch c.when.result) ∷ []) c.in-When.is
    (ap (λ i. item_of (made.Branch i) ∷ []) c.when.ensures ∙ cc)

pub returns-in-Otherwise : goal.returns-in-Otherwise
returns-in-Otherwise c = λ items h.
    by_kind c.args.kind kind.Otherwise c.args.spot.group c.args.spot.at c.args.scope.now (values_in c.args.values.now) items (item_of (made.Otherwise c.take_body-in-Otherwise.result) ∷ []) c.in-Otherwise.is
    (ap (λ i. item_of (made.Otherwise i) ∷ []) c.take_body-in-Otherwise.ensures.value ∙ cc)

pub returns-in-Variable : goal.returns-in-Variable
returns-in-Variable c = λ items h.
    by_kind c.args.kind kind.Variable c.args.spot.group c.args.spot.at c.args.scope.now (values_in c.args.values.now) items (item_of (c.local.result) ∷ []) c.in-Variable.is
    (ap (λ i. item_of i ∷ []) c.local.ensures)

pub returns-in-Param : goal.returns-in-Param
returns-in-Param c = λ items h.
    by_kind c.args.kind kind.Param c.args.spot.group c.args.spot.at c.args.scope.now (values_in c.args.values.now) items (item_of (made.Param c.variable.result) ∷ []) c.in-Param.is
    (ap (λ i. item_of (made.Param i) ∷ []) c.variable.ensures)

pub returns-in-WithParam : goal.returns-in-WithParam
returns-in-WithParam c = λ items h.
    by_kind c.args.kind kind.WithParam c.args.spot.group c.args.spot.at c.args.scope.now (values_in c.args.values.now) items (item_of (made.Value c.with_param.result) ∷ []) c.in-WithParam.is
    (ap (λ i. item_of (made.Value i) ∷ []) c.with_param.ensures)
