use Rattle.std.proofs.Common.{◌∙◌, ap, sym}
use Rattle.std.specs.Str.{chars}
use Rattle.sheet_loader.specs.Attributes as spec
use Rattle.sheet_loader.specs.Elements as element
use Rattle.sheet_loader.specs.Meant.{kind_of}
use Rattle.sheet_loader.proofs.rows.rows.Goals as goal

pub returns-in-One : goal.returns-in-One
unfolding chars
returns-in-One c = ap (λ d. spec.rows d c.args.in_body element.Transform) (sym c.in-One.is) ∙ ap (λ k. spec.rows c.args.dialect c.args.in_body (kind_of k)) (sym c.in-Transform.is)

pub returns-in-OneOne : goal.returns-in-OneOne
unfolding chars
returns-in-OneOne c = ap (λ d. spec.rows d c.args.in_body element.Transform) (sym c.in-OneOne.is) ∙ ap (λ k. spec.rows c.args.dialect c.args.in_body (kind_of k)) (sym c.in-Transform.is)

pub returns-then-in_body : goal.returns-then-in_body
unfolding chars
returns-then-in_body c = ap (λ b. spec.rows c.args.dialect b element.Variable) (sym c.if-in_body.true) ∙ ap (λ k. spec.rows c.args.dialect c.args.in_body (kind_of k)) (sym c.in-Variable.is)

pub returns-else-in_body : goal.returns-else-in_body
unfolding chars
returns-else-in_body c = ap (λ b. spec.rows c.args.dialect b element.Variable) (sym c.if-in_body.false) ∙ ap (λ k. spec.rows c.args.dialect c.args.in_body (kind_of k)) (sym c.in-Variable.is)

pub returns-in-Group : goal.returns-in-Group
unfolding chars
returns-in-Group c = ap (λ k. spec.rows c.args.dialect c.args.in_body (kind_of k)) (sym c.in-Group.is)

pub returns-in-Template : goal.returns-in-Template
unfolding chars
returns-in-Template c = ap (λ k. spec.rows c.args.dialect c.args.in_body (kind_of k)) (sym c.in-Template.is)

pub returns-in-Procedure : goal.returns-in-Procedure
unfolding chars
returns-in-Procedure c = ap (λ k. spec.rows c.args.dialect c.args.in_body (kind_of k)) (sym c.in-Procedure.is)

pub returns-in-Include : goal.returns-in-Include
unfolding chars
returns-in-Include c = ap (λ k. spec.rows c.args.dialect c.args.in_body (kind_of k)) (sym c.in-Include.is)

pub returns-in-Param : goal.returns-in-Param
unfolding chars
returns-in-Param c = ap (λ k. spec.rows c.args.dialect c.args.in_body (kind_of k)) (sym c.in-Param.is)

pub returns-in-Buffer : goal.returns-in-Buffer
unfolding chars
returns-in-Buffer c = ap (λ k. spec.rows c.args.dialect c.args.in_body (kind_of k)) (sym c.in-Buffer.is)

pub returns-in-ValueOf : goal.returns-in-ValueOf
unfolding chars
returns-in-ValueOf c = ap (λ k. spec.rows c.args.dialect c.args.in_body (kind_of k)) (sym c.in-ValueOf.is)

pub returns-in-Copy : goal.returns-in-Copy
unfolding chars
returns-in-Copy c = ap (λ k. spec.rows c.args.dialect c.args.in_body (kind_of k)) (sym c.in-Copy.is)

pub returns-in-Element : goal.returns-in-Element
unfolding chars
returns-in-Element c = ap (λ k. spec.rows c.args.dialect c.args.in_body (kind_of k)) (sym c.in-Element.is)

pub returns-in-StartElement : goal.returns-in-StartElement
unfolding chars
returns-in-StartElement c = ap (λ k. spec.rows c.args.dialect c.args.in_body (kind_of k)) (sym c.in-StartElement.is)

pub returns-in-EndElement : goal.returns-in-EndElement
unfolding chars
returns-in-EndElement c = ap (λ k. spec.rows c.args.dialect c.args.in_body (kind_of k)) (sym c.in-EndElement.is)

pub returns-in-Attribute : goal.returns-in-Attribute
unfolding chars
returns-in-Attribute c = ap (λ k. spec.rows c.args.dialect c.args.in_body (kind_of k)) (sym c.in-Attribute.is)

pub returns-in-Comment : goal.returns-in-Comment
unfolding chars
returns-in-Comment c = ap (λ k. spec.rows c.args.dialect c.args.in_body (kind_of k)) (sym c.in-Comment.is)

pub returns-in-Instruction : goal.returns-in-Instruction
unfolding chars
returns-in-Instruction c = ap (λ k. spec.rows c.args.dialect c.args.in_body (kind_of k)) (sym c.in-Instruction.is)

pub returns-in-Message : goal.returns-in-Message
unfolding chars
returns-in-Message c = ap (λ k. spec.rows c.args.dialect c.args.in_body (kind_of k)) (sym c.in-Message.is)

pub returns-in-If : goal.returns-in-If
unfolding chars
returns-in-If c = ap (λ k. spec.rows c.args.dialect c.args.in_body (kind_of k)) (sym c.in-If.is)

pub returns-in-When : goal.returns-in-When
unfolding chars
returns-in-When c = ap (λ k. spec.rows c.args.dialect c.args.in_body (kind_of k)) (sym c.in-When.is)

pub returns-in-ForEachItem : goal.returns-in-ForEachItem
unfolding chars
returns-in-ForEachItem c = ap (λ k. spec.rows c.args.dialect c.args.in_body (kind_of k)) (sym c.in-ForEachItem.is)

pub returns-in-While : goal.returns-in-While
unfolding chars
returns-in-While c = ap (λ k. spec.rows c.args.dialect c.args.in_body (kind_of k)) (sym c.in-While.is)

pub returns-in-Assign : goal.returns-in-Assign
unfolding chars
returns-in-Assign c = ap (λ k. spec.rows c.args.dialect c.args.in_body (kind_of k)) (sym c.in-Assign.is)

pub returns-in-CallProcedure : goal.returns-in-CallProcedure
unfolding chars
returns-in-CallProcedure c = ap (λ k. spec.rows c.args.dialect c.args.in_body (kind_of k)) (sym c.in-CallProcedure.is)

pub returns-in-ProcessChildren : goal.returns-in-ProcessChildren
unfolding chars
returns-in-ProcessChildren c = ap (λ k. spec.rows c.args.dialect c.args.in_body (kind_of k)) (sym c.in-ProcessChildren.is)

pub returns-in-ProcessAttributes : goal.returns-in-ProcessAttributes
unfolding chars
returns-in-ProcessAttributes c = ap (λ k. spec.rows c.args.dialect c.args.in_body (kind_of k)) (sym c.in-ProcessAttributes.is)

pub returns-in-ProcessSelf : goal.returns-in-ProcessSelf
unfolding chars
returns-in-ProcessSelf c = ap (λ k. spec.rows c.args.dialect c.args.in_body (kind_of k)) (sym c.in-ProcessSelf.is)

pub returns-in-ProcessSiblings : goal.returns-in-ProcessSiblings
unfolding chars
returns-in-ProcessSiblings c = ap (λ k. spec.rows c.args.dialect c.args.in_body (kind_of k)) (sym c.in-ProcessSiblings.is)

pub returns-in-ProcessBuffer : goal.returns-in-ProcessBuffer
unfolding chars
returns-in-ProcessBuffer c = ap (λ k. spec.rows c.args.dialect c.args.in_body (kind_of k)) (sym c.in-ProcessBuffer.is)

pub returns-in-ProcessDocument : goal.returns-in-ProcessDocument
unfolding chars
returns-in-ProcessDocument c = ap (λ k. spec.rows c.args.dialect c.args.in_body (kind_of k)) (sym c.in-ProcessDocument.is)

pub returns-in-ResultBuffer : goal.returns-in-ResultBuffer
unfolding chars
returns-in-ResultBuffer c = ap (λ k. spec.rows c.args.dialect c.args.in_body (kind_of k)) (sym c.in-ResultBuffer.is)

pub returns-in-WithParam : goal.returns-in-WithParam
unfolding chars
returns-in-WithParam c = ap (λ k. spec.rows c.args.dialect c.args.in_body (kind_of k)) (sym c.in-WithParam.is)
