-- What the program's own types stand for.
use Rattle.std.specs.Prelude.{◌≡◌, List, ℕ, [], ◌∷◌, codes, Result, Ok, Err}
use Rattle.std.specs.Str.{chars}
use Rattle.stx_base.specs.declared.fault.Place.{Place}
use Rattle.stx_base.specs.declared.fault.SheetCode.{SheetCode}
use Rattle.stxpath_syntax.specs.declared.fault.ParseFault.{ParseFault}
use Rattle.stxpath_syntax.specs.declared.fault.ParseFault.TheVariants as parse
use Rattle.sheet_model.specs.declared.instr.Instr.TheVariants as instr
use Rattle.sheet_loader.specs.Attributes as attribute
use Rattle.sheet_loader.specs.Reading as reading
use Rattle.sheet_loader.specs.Values as read
use Rattle.sheet_loader.specs.Versions as version
use Rattle.sheet_loader.specs.declared.frame.Version.{Version}
use Rattle.sheet_loader.specs.Elements as element
use Rattle.sheet_loader.specs.declared.inside.Before.{Before}
use Rattle.sheet_loader.specs.declared.inside.Before.TheVariants as before
use Rattle.sheet_loader.specs.declared.inside.Inside.{Inside}
use Rattle.sheet_loader.specs.declared.inside.Inside.TheVariants as inside
use Rattle.sheet_loader.specs.declared.item.Item.{Item}
use Rattle.sheet_loader.specs.declared.item.Item.TheVariants as item
use Rattle.sheet_loader.specs.declared.kind.Kind.{Kind}
use Rattle.sheet_loader.specs.declared.kind.Kind.TheVariants as kind
use Rattle.sheet_loader.specs.declared.refused.Refused.{Refused}
use Rattle.sheet_loader.specs.declared.refused.Refused.TheVariants as refused
use Rattle.sheet_loader.specs.declared.refused.Stop.{Stop}
use Rattle.sheet_loader.specs.declared.refused.Stop.TheVariants as stop
use Rattle.sheet_loader.specs.declared.rows.Form.{Form}
use Rattle.sheet_loader.specs.declared.rows.Form.TheVariants as form
use Rattle.sheet_loader.specs.declared.rows.Row.{Row}
use Rattle.sheet_loader.specs.declared.value.Value.{Value}
use Rattle.sheet_loader.specs.declared.value.Value.TheVariants as value

abbrev pub kind_of : Kind → element.Kind
kind_of kind.Transform = element.Transform
kind_of kind.Group = element.Group
kind_of kind.Template = element.Template
kind_of kind.Procedure = element.Procedure
kind_of kind.Include = element.Include
kind_of kind.Param = element.Param
kind_of kind.Variable = element.Variable
kind_of kind.Buffer = element.Buffer
kind_of kind.ValueOf = element.ValueOf
kind_of kind.Chars = element.Chars
kind_of kind.Copy = element.Copy
kind_of kind.Element = element.Element
kind_of kind.StartElement = element.StartElement
kind_of kind.EndElement = element.EndElement
kind_of kind.Attribute = element.Attribute
kind_of kind.Comment = element.Comment
kind_of kind.Instruction = element.Instruction
kind_of kind.Message = element.Message
kind_of kind.If = element.If
kind_of kind.Else = element.Else
kind_of kind.Choose = element.Choose
kind_of kind.When = element.When
kind_of kind.Otherwise = element.Otherwise
kind_of kind.ForEachItem = element.ForEachItem
kind_of kind.While = element.While
kind_of kind.Assign = element.Assign
kind_of kind.CallProcedure = element.CallProcedure
kind_of kind.ProcessChildren = element.ProcessChildren
kind_of kind.ProcessAttributes = element.ProcessAttributes
kind_of kind.ProcessSelf = element.ProcessSelf
kind_of kind.ProcessSiblings = element.ProcessSiblings
kind_of kind.ProcessBuffer = element.ProcessBuffer
kind_of kind.ProcessDocument = element.ProcessDocument
kind_of kind.ResultBuffer = element.ResultBuffer
kind_of kind.WithParam = element.WithParam

abbrev pub inside_of : Inside → element.Inside
inside_of (inside.Document included) = element.Document included
inside_of (inside.Declarations params) = element.Declarations params
inside_of inside.StartOfBody = element.Start_of_body
inside_of inside.Body = element.Body
inside_of inside.Branches = element.Branches
inside_of inside.WithParams = element.With_params
inside_of (inside.Characters kept) = element.Characters kept
inside_of inside.Parts = element.Parts
inside_of inside.Nothing = element.Nothing

abbrev pub before_of : Before → element.Before
before_of before.Something = element.Something
before_of before.AfterIf = element.After_if
before_of before.AfterOtherwise = element.After_otherwise

-- the local part of an element's name
abbrev pub word_of : Kind → List ℕ
word_of kind.Transform = codes "transform"
word_of kind.Group = codes "group"
word_of kind.Template = codes "template"
word_of kind.Procedure = codes "procedure"
word_of kind.Include = codes "include"
word_of kind.Param = codes "param"
word_of kind.Variable = codes "variable"
word_of kind.Buffer = codes "buffer"
word_of kind.ValueOf = codes "value-of"
word_of kind.Chars = codes "text"
word_of kind.Copy = codes "copy"
word_of kind.Element = codes "element"
word_of kind.StartElement = codes "start-element"
word_of kind.EndElement = codes "end-element"
word_of kind.Attribute = codes "attribute"
word_of kind.Comment = codes "comment"
word_of kind.Instruction = codes "processing-instruction"
word_of kind.Message = codes "message"
word_of kind.If = codes "if"
word_of kind.Else = codes "else"
word_of kind.Choose = codes "choose"
word_of kind.When = codes "when"
word_of kind.Otherwise = codes "otherwise"
word_of kind.ForEachItem = codes "for-each-item"
word_of kind.While = codes "while"
word_of kind.Assign = codes "assign"
word_of kind.CallProcedure = codes "call-procedure"
word_of kind.ProcessChildren = codes "process-children"
word_of kind.ProcessAttributes = codes "process-attributes"
word_of kind.ProcessSelf = codes "process-self"
word_of kind.ProcessSiblings = codes "process-siblings"
word_of kind.ProcessBuffer = codes "process-buffer"
word_of kind.ProcessDocument = codes "process-document"
word_of kind.ResultBuffer = codes "result-buffer"
word_of kind.WithParam = codes "with-param"

abbrev pub yes_or_no : List (List ℕ)
yes_or_no = codes "yes" ∷ codes "no" ∷ []

abbrev pub visibilities : List (List ℕ)
visibilities = codes "local" ∷ codes "group" ∷ codes "global" ∷ []

abbrev pub form_of : Form → attribute.Form
form_of form.YesOrNo = attribute.Word yes_or_no
form_of form.Visibility = attribute.Word visibilities
form_of form.Version = attribute.Version
form_of form.Passing = attribute.Passing
form_of form.Priority = attribute.Priority
form_of form.Named = attribute.Named
form_of form.Expression = attribute.Expression
form_of form.Pattern = attribute.Patterned
form_of form.Tests = attribute.Tests
form_of form.Template = attribute.Template_of_value
form_of form.Any = attribute.Any

abbrev pub row_of : Row → attribute.Row
row_of r = record { name = chars r.name.now; is_required = r.is_required; form = form_of r.form }

abbrev pub value_of : Value → read.Value
value_of (value.Word text) = read.A_word text
value_of (value.Pass p) = read.A_pass p
value_of (value.Priority p) = read.A_priority p
value_of (value.Name n) = read.A_name n
value_of (value.Expression x) = read.An_expression x
value_of (value.Pattern p) = read.A_pattern p.alternatives
value_of (value.Template t) = read.A_template t.parts

-- what a node of a list came to; the content of a buffer stands apart
abbrev pub item_of : Item → reading.Item
item_of (item.Instruction i) = reading.Instruction i
item_of (item.If test body at) = reading.An_if test body at
item_of (item.Else other) = reading.An_else other
item_of (item.Local name select at) = reading.A_local name (instr.Local name select at)
item_of (item.Branch w) = reading.A_branch w
item_of (item.Otherwise inner) = reading.An_otherwise inner
item_of (item.Param v) = reading.A_param v
item_of (item.Value v) = reading.A_value v
item_of (item.Text text) = reading.Text text

-- what is read of a value, or the code that refuses it; want of memory may come at any time
abbrev pub Tells : Result read.Value SheetCode → Result Value Refused → Type 0
Tells found (Ok v) = found ≡ Ok (value_of v)
Tells found (Err (refused.Code code)) = found ≡ Err code
Tells found (Err refused.Memory) = Unit {0}

-- why a text of the path language is refused
abbrev pub IsOfFault : ParseFault → Refused → Type 0
IsOfFault (parse.Path fault) made = made ≡ refused.Code (read.code_of fault.kind)
IsOfFault parse.Memory made = made ≡ refused.Memory

abbrev pub version_of : Version → version.Version
version_of v = record { dialect = v.dialect; is_known = v.is_known }

-- why reading stops at an element that is refused
abbrev pub stop_at : Refused → Place → Stop
stop_at (refused.Code why) at = stop.Fault why at
stop_at refused.Memory at = stop.Memory
