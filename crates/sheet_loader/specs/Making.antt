-- What the elements of a sheet come to, once they were judged.
use Rattle.std.specs.Prelude.{ℕ, ℤ, Bool, true, false, List, [], ◌∷◌, Option, Some, None, codes, bytes_eq, if◌then◌else◌}
use Rattle.std.specs.List.{list_all, flat_map}
use Rattle.stx_base.specs.declared.fault.Place.{Place}
use Rattle.stx_base.specs.declared.name.Binding.{Binding}
use Rattle.stx_base.specs.declared.name.Name.{Name}
use Rattle.stx_base.specs.declared.part.Part.{Part}
use Rattle.stxpath_syntax.specs.declared.expr.Avt.{Avt}
use Rattle.stxpath_syntax.specs.declared.expr.Expr.{Expr}
use Rattle.stxpath_syntax.specs.declared.expr.Expr.TheVariants as expression
use Rattle.stxpath_syntax.specs.declared.expr.Pattern.{Pattern}
use Rattle.sheet_model.specs.declared.instr.Content.{Content}
use Rattle.sheet_model.specs.declared.instr.Content.TheVariants as content
use Rattle.sheet_model.specs.declared.instr.Instr.{Instr}
use Rattle.sheet_model.specs.declared.instr.Instr.TheVariants as instr
use Rattle.sheet_model.specs.declared.instr.When.{When}
use Rattle.sheet_model.specs.declared.instr.WithParam.{WithParam}
use Rattle.sheet_model.specs.declared.pass.Pass.{Pass}
use Rattle.sheet_model.specs.declared.sheet.Variable.{Variable}
use Rattle.sheet_model.specs.declared.sheet.Visibility.{Visibility}
use Rattle.sheet_model.specs.declared.sheet.Visibility.TheVariants as seen
use Rattle.sheet_loader.specs.Elements as element
use Rattle.sheet_loader.specs.Elements.{Kind, Before, Something, After_if, After_otherwise, Inside, Start_of_body, Body}
use Rattle.sheet_loader.specs.Reading.{Item, Instruction, An_if, An_else, A_local, A_branch, An_otherwise, A_param, A_value, Text, A_part}
use Rattle.sheet_loader.specs.Values.{Value, A_word, A_pass, A_priority, A_name, An_expression, A_pattern, A_template}

-- the values of a tag's attributes by their names, where no attribute has a fault
abbrev pub Values : Type 0
Values = List (List ℕ × Value)

abbrev pub value_at : (name : List ℕ) → Values → Option Value
value_at name [] = None
value_at name (v ∷ others) = if bytes_eq v.0 name then Some v.1 else value_at name others

abbrev pub as_name : Option Value → Option Name
as_name (Some (A_name n)) = Some n
as_name other = None

abbrev pub as_expression : Option Value → Option Expr
as_expression (Some (An_expression x)) = Some x
as_expression other = None

abbrev pub as_pattern : Option Value → Option Pattern
as_pattern (Some (A_pattern alternatives)) = Some (record { alternatives = alternatives })
as_pattern other = None

abbrev pub as_template : Option Value → Option Avt
as_template (Some (A_template parts)) = Some (record { parts = parts })
as_template other = None

abbrev pub as_priority : Option Value → Option ℤ
as_priority (Some (A_priority p)) = Some p
as_priority other = None

abbrev pub as_word : Option Value → List ℕ
as_word (Some (A_word word)) = word
as_word other = []

abbrev pub is_yes : Option Value → Bool
is_yes v = bytes_eq (as_word v) (codes "yes")

-- what a group passes through: as it says, or as the group around it
abbrev pub pass_or : Pass → Option Value → Pass
pass_or around (Some (A_pass own)) = own
pass_or around other = around

abbrev pub visibility_of : List ℕ → Visibility
visibility_of word =
    if bytes_eq word (codes "global") then seen.Global else if bytes_eq word (codes "group") then seen.Group else seen.Local

-- A required attribute is there where no fault was found, so that what stands for its lack never comes.
abbrev pub or_else : {A : Type 0} → A → Option A → A
or_else lacking None = lacking
or_else lacking (Some found) = found

-- the expanded name alone, without the prefix that it is written with (Namespaces in XML 1.0, 2.1)
abbrev pub bare : Name → Name
bare n = record n { prefix = [] }

abbrev pub nameless : Name
nameless = record { uri = []; local = []; prefix = [] }

abbrev pub name : Values → Name
name values = or_else nameless (as_name (value_at (codes "name") values))

abbrev pub select : Values → Expr
select values = or_else (expression.Seq []) (as_expression (value_at (codes "select") values))

abbrev pub test : Values → Expr
test values = or_else (expression.Seq []) (as_expression (value_at (codes "test") values))

abbrev pub template : List ℕ → Values → Avt
template word values = or_else (record { parts = [] }) (as_template (value_at word values))

abbrev pub pattern : List ℕ → Values → Pattern
pattern word values = or_else (record { alternatives = [] }) (as_pattern (value_at word values))

-- The instructions of a body: an else belongs to the if before it.
abbrev pub body : List Item → List Instr
body [] = []
body (An_if test inner at ∷ An_else other ∷ items) = instr.If test inner other at ∷ body items
body (An_if test inner at ∷ items) = instr.If test inner [] at ∷ body items
body (Instruction i ∷ items) = i ∷ body items
body (A_local name i ∷ items) = i ∷ body items
body (other ∷ items) = body items

abbrev pub params_of_item : Item → List Variable
params_of_item (A_param v) = v ∷ []
params_of_item other = []

-- the parameters of a template or procedure
abbrev pub params : List Item → List Variable
params items = flat_map params_of_item items

abbrev pub values_of_item : Item → List WithParam
values_of_item (A_value v) = v ∷ []
values_of_item other = []

abbrev pub with_params : List Item → List WithParam
with_params items = flat_map values_of_item items

abbrev pub branch_of_item : Item → List When
branch_of_item (A_branch w) = w ∷ []
branch_of_item other = []

abbrev pub branches : List Item → List When
branches items = flat_map branch_of_item items

abbrev pub otherwise_of_item : Item → List Instr
otherwise_of_item (An_otherwise inner) = inner
otherwise_of_item other = []

abbrev pub otherwise : List Item → List Instr
otherwise items = flat_map otherwise_of_item items

abbrev pub text_of_item : Item → List ℕ
text_of_item (Text text) = text
text_of_item other = []

-- the characters in a list, those of all its texts
abbrev pub characters : List Item → List ℕ
characters items = flat_map text_of_item items

abbrev pub parts_of_item : Item → List Part
parts_of_item (A_part p) = p ∷ []
parts_of_item other = []

abbrev pub parts : List Item → List Part
parts items = flat_map parts_of_item items

-- the names that an item brings into scope for what stands behind it
abbrev pub local_of_item : Item → List Name
local_of_item (A_local name i) = name ∷ []
local_of_item (A_param v) = v.name ∷ []
local_of_item other = []

abbrev pub locals_of : List Item → List Name
locals_of items = flat_map local_of_item items

abbrev pub is_a_param : Item → Bool
is_a_param (A_param v) = true
is_a_param other = false

-- behind anything else no parameter may stand
abbrev pub behind : Inside → List Item → Inside
behind Start_of_body items = if list_all is_a_param items then Start_of_body else Body
behind other items = other

-- what stands directly before
abbrev pub last_of : List Item → Before
last_of [] = Something
last_of (An_if test inner at ∷ []) = After_if
last_of (An_otherwise inner ∷ []) = After_otherwise
last_of (item ∷ items) = last_of items

-- content: the attribute, or without it the characters inside
abbrev pub content_of : Option Expr → List Item → Content
content_of (Some x) items = content.Select x
content_of None items = content.Chars (characters items)

abbrev pub content_in : Values → List Item → Content
content_in values items = content_of (as_expression (value_at (codes "select") values)) items

abbrev pub group_in : Values → Option Name
group_in values = as_name (value_at (codes "group") values)

abbrev pub one : Instr → List Item
one i = Instruction i ∷ []

-- the variable that an element declares; with `select` left out it has the empty text
abbrev pub variable : (group : ℕ) → (param : Bool) → Place → Values → Variable
variable group param at values = record {
  group = group;
  name = name values;
  select = as_expression (value_at (codes "select") values);
  keep = is_yes (value_at (codes "keep-value") values);
  param = param;
  at = at;
}

-- What an element of a body, of a choose, of a process instruction or a parameter comes to: its place, the declarations in force
-- at it, its values, and what its list came to.
abbrev pub item : Kind → (group : ℕ) → Place → (scope : List Binding) → Values → List Item → List Item
item element.ValueOf group at scope v inner =
    one (instr.ValueOf (select v) (as_template (value_at (codes "separator") v)) at)
item element.Chars group at scope v inner = one (instr.Chars (characters inner) at)
item element.Copy group at scope v inner = one (instr.Copy (as_pattern (value_at (codes "attributes") v)) (body inner) at)
item element.Element group at scope v inner =
    one (instr.Element (template (codes "name") v) (as_template (value_at (codes "namespace") v)) scope (body inner) at)
item element.StartElement group at scope v inner =
    one (instr.StartElement (template (codes "name") v) (as_template (value_at (codes "namespace") v)) scope at)
item element.EndElement group at scope v inner =
    one (instr.EndElement (template (codes "name") v) (as_template (value_at (codes "namespace") v)) scope at)
item element.Attribute group at scope v inner =
    one (instr.Attribute (template (codes "name") v) (as_template (value_at (codes "namespace") v)) scope (content_in v inner) at)
item element.Comment group at scope v inner = one (instr.Comment (content_in v inner) at)
item element.Instruction group at scope v inner = one (instr.Pi (template (codes "name") v) scope (content_in v inner) at)
item element.Message group at scope v inner = one (instr.Message (content_in v inner) at)
item element.If group at scope v inner = An_if (test v) (body inner) at ∷ []
item element.Else group at scope v inner = An_else (body inner) ∷ []
item element.Choose group at scope v inner = one (instr.Choose (branches inner) (otherwise inner) at)
item element.When group at scope v inner = A_branch (record { test = test v; body = body inner }) ∷ []
item element.Otherwise group at scope v inner = An_otherwise (body inner) ∷ []
item element.ForEachItem group at scope v inner = one (instr.ForEachItem (name v) (select v) (body inner) at)
item element.While group at scope v inner = one (instr.While (test v) (body inner) at)
item element.Assign group at scope v inner = one (instr.Assign (name v) (select v) at)
item element.CallProcedure group at scope v inner = one (instr.CallProcedure (name v) (with_params inner) at)
item element.ProcessChildren group at scope v inner = one (instr.ProcessChildren (group_in v) (with_params inner) at)
item element.ProcessAttributes group at scope v inner = one (instr.ProcessAttributes (group_in v) (with_params inner) at)
item element.ProcessSelf group at scope v inner = one (instr.ProcessSelf (group_in v) (with_params inner) at)
item element.ProcessSiblings group at scope v inner =
    one (instr.ProcessSiblings (as_pattern (value_at (codes "while") v)) (as_pattern (value_at (codes "until") v)) (group_in v) (with_params inner) at)
item element.ProcessBuffer group at scope v inner = one (instr.ProcessBuffer (name v) (group_in v) (with_params inner) at)
item element.ProcessDocument group at scope v inner =
    one (instr.ProcessDocument (template (codes "href") v) (group_in v) (with_params inner) at)
item element.ResultBuffer group at scope v inner =
    one (instr.ResultBuffer (name v) (is_yes (value_at (codes "clear") v)) (body inner) at)
item element.Variable group at scope v inner =
    A_local (name v) (instr.Local (name v) (as_expression (value_at (codes "select") v)) at) ∷ []
item element.Param group at scope v inner = A_param (variable group true at v) ∷ []
item element.WithParam group at scope v inner = A_value (record { name = name v; select = select v }) ∷ []
item other group at scope v inner = []
