-- The attributes of each element, and the forms of their values.
use Rattle.std.specs.Prelude.{ℕ, Bool, true, false, ◌++◌, List, [], ◌∷◌, codes}
use Rattle.stxpath_syntax.specs.declared.dialect.Dialect.{Dialect}
use Rattle.stxpath_syntax.specs.declared.dialect.Dialect.TheVariants.{One, OneOne}
use Rattle.sheet_loader.specs.Elements.{Kind, Transform, Group, Template, Procedure, Include, Param, Variable, Buffer, ValueOf, Copy, Element, StartElement, EndElement, Attribute, Comment, Instruction, Message, If, When, ForEachItem, While, Assign, CallProcedure, ProcessChildren, ProcessAttributes, ProcessSelf, ProcessSiblings, ProcessBuffer, ProcessDocument, ResultBuffer, WithParam}

-- the form of an attribute's value
pub data Form : Type 0 where
  -- one of these words
  Word : List (List ℕ) → Form
  -- a version of the language
  Version : Form
  -- the kinds of nodes that are passed through
  Passing : Form
  -- a priority in hundredths
  Priority : Form
  -- a name, with its prefix resolved; without one it is in no namespace
  Named : Form
  Expression : Form
  Patterned : Form
  -- attribute tests with bars between them, read as a pattern
  Tests : Form
  -- plain text with expressions in braces
  Template_of_value : Form
  -- any text
  Any : Form

pub record Row : Type 0 where
  pub name : List ℕ
  pub is_required : Bool
  pub form : Form

abbrev pub required : List ℕ → Form → Row
required name form = record { name = name; is_required = true; form = form }

abbrev pub optional : List ℕ → Form → Row
optional name form = record { name = name; is_required = false; form = form }

abbrev pub yes_or_no : Form
yes_or_no = Word (codes "yes" ∷ codes "no" ∷ [])

-- a sheet of version 1.1 may have CDATA sections told from other text
abbrev pub for_cdata : Dialect → List Row
for_cdata One = []
for_cdata OneOne = optional (codes "recognize-cdata") yes_or_no ∷ []

-- keep-value is for the variables of groups, whose copies may keep it
abbrev pub for_group : (in_body : Bool) → List Row
for_group true = []
for_group false = optional (codes "keep-value") yes_or_no ∷ []

abbrev pub group : Row
group = optional (codes "group") Named

abbrev pub name : Row
name = required (codes "name") Named

abbrev pub select : Row
select = required (codes "select") Expression

abbrev pub maybe_select : Row
maybe_select = optional (codes "select") Expression

abbrev pub computed_name : List Row
computed_name = required (codes "name") Template_of_value ∷ optional (codes "namespace") Template_of_value ∷ []

abbrev pub test : List Row
test = required (codes "test") Expression ∷ []

-- The attributes of an element in their order; `in_body` says that a variable stands in a body.
abbrev pub rows : Dialect → (in_body : Bool) → Kind → List Row
rows dialect in_body Transform =
    required (codes "version") Version ∷ optional (codes "pass-through") Passing ∷ optional (codes "strip-space") yes_or_no ∷ for_cdata dialect
rows dialect in_body Group = optional (codes "name") Named ∷ optional (codes "pass-through") Passing ∷ []
rows dialect in_body Template =
    required (codes "match") Patterned ∷ optional (codes "priority") Priority
    ∷ optional (codes "visibility") (Word (codes "local" ∷ codes "group" ∷ codes "global" ∷ []))
    ∷ optional (codes "public") yes_or_no ∷ optional (codes "new-scope") yes_or_no ∷ []
rows dialect in_body Procedure = name ∷ []
rows dialect in_body Include = required (codes "href") Any ∷ []
rows dialect in_body Param = name ∷ maybe_select ∷ []
rows dialect in_body Variable = name ∷ maybe_select ∷ for_group in_body
rows dialect in_body Buffer = name ∷ []
rows dialect in_body ValueOf = select ∷ optional (codes "separator") Template_of_value ∷ []
rows dialect in_body Copy = optional (codes "attributes") Tests ∷ []
rows dialect in_body Element = computed_name
rows dialect in_body StartElement = computed_name
rows dialect in_body EndElement = computed_name
rows dialect in_body Attribute = computed_name ++ maybe_select ∷ []
rows dialect in_body Comment = maybe_select ∷ []
rows dialect in_body Instruction = required (codes "name") Template_of_value ∷ maybe_select ∷ []
rows dialect in_body Message = maybe_select ∷ []
rows dialect in_body If = test
rows dialect in_body When = test
rows dialect in_body ForEachItem = name ∷ select ∷ []
rows dialect in_body While = test
rows dialect in_body Assign = name ∷ select ∷ []
rows dialect in_body CallProcedure = name ∷ []
rows dialect in_body ProcessChildren = group ∷ []
rows dialect in_body ProcessAttributes = group ∷ []
rows dialect in_body ProcessSelf = group ∷ []
rows dialect in_body ProcessSiblings =
    optional (codes "while") Patterned ∷ optional (codes "until") Patterned ∷ group ∷ []
rows dialect in_body ProcessBuffer = name ∷ group ∷ []
rows dialect in_body ProcessDocument = required (codes "href") Template_of_value ∷ group ∷ []
rows dialect in_body ResultBuffer = name ∷ optional (codes "clear") yes_or_no ∷ []
rows dialect in_body WithParam = name ∷ select ∷ []
rows dialect in_body other = []
