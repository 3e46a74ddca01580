-- The elements of the language, and what stands where.
use Rattle.std.specs.Prelude.{ℕ, Bool, true, false, ◌&&◌, ◌||◌, not, List, [], ◌∷◌, Option, Some, None, codes, bytes_eq, if◌then◌else◌}

-- the namespace of sheets
abbrev pub stx_uri : List ℕ
stx_uri = codes "http://stx.sourceforge.net/2002/ns"

pub data Kind : Type 0 where
  Transform : Kind
  Group : Kind
  Template : Kind
  Procedure : Kind
  Include : Kind
  Param : Kind
  Variable : Kind
  Buffer : Kind
  ValueOf : Kind
  Chars : Kind
  Copy : Kind
  Element : Kind
  StartElement : Kind
  EndElement : Kind
  Attribute : Kind
  Comment : Kind
  Instruction : Kind
  Message : Kind
  If : Kind
  Else : Kind
  Choose : Kind
  When : Kind
  Otherwise : Kind
  ForEachItem : Kind
  While : Kind
  Assign : Kind
  CallProcedure : Kind
  ProcessChildren : Kind
  ProcessAttributes : Kind
  ProcessSelf : Kind
  ProcessSiblings : Kind
  ProcessBuffer : Kind
  ProcessDocument : Kind
  ResultBuffer : Kind
  WithParam : Kind

-- the local part of each element's name
abbrev pub names : List (List ℕ × Kind)
names =
    (codes "transform", Transform) ∷ (codes "group", Group) ∷ (codes "template", Template) ∷ (codes "procedure", Procedure)
    ∷ (codes "include", Include) ∷ (codes "param", Param) ∷ (codes "variable", Variable) ∷ (codes "buffer", Buffer)
    ∷ (codes "value-of", ValueOf) ∷ (codes "text", Chars) ∷ (codes "copy", Copy) ∷ (codes "element", Element)
    ∷ (codes "start-element", StartElement) ∷ (codes "end-element", EndElement) ∷ (codes "attribute", Attribute)
    ∷ (codes "comment", Comment) ∷ (codes "processing-instruction", Instruction) ∷ (codes "message", Message)
    ∷ (codes "if", If) ∷ (codes "else", Else) ∷ (codes "choose", Choose) ∷ (codes "when", When) ∷ (codes "otherwise", Otherwise)
    ∷ (codes "for-each-item", ForEachItem) ∷ (codes "while", While) ∷ (codes "assign", Assign)
    ∷ (codes "call-procedure", CallProcedure) ∷ (codes "process-children", ProcessChildren)
    ∷ (codes "process-attributes", ProcessAttributes) ∷ (codes "process-self", ProcessSelf)
    ∷ (codes "process-siblings", ProcessSiblings) ∷ (codes "process-buffer", ProcessBuffer)
    ∷ (codes "process-document", ProcessDocument) ∷ (codes "result-buffer", ResultBuffer) ∷ (codes "with-param", WithParam) ∷ []

-- what stands beside the first entry with this word
abbrev pub lookup : {A : Type 0} → List (List ℕ × A) → List ℕ → Option A
lookup [] word = None
lookup (entry ∷ entries) word = if bytes_eq entry.0 word then Some entry.1 else lookup entries word

abbrev pub kind_named : (local : List ℕ) → Option Kind
kind_named = lookup names

-- What the list of an element may hold. Comments and processing instructions may stand everywhere, and count for nothing.
pub data Inside : Type 0 where
  -- a file: its root, of the sheet itself or of a file that is included
  Document : (included : Bool) → Inside
  -- groups, templates, procedures, includes, variables and buffers; in the transform of the sheet itself parameters too
  Declarations : (params : Bool) → Inside
  -- parameters, and then a body
  Start_of_body : Inside
  -- instructions, literal elements and literal texts
  Body : Inside
  -- the branches of a choose
  Branches : Inside
  -- values for parameters
  With_params : Inside
  -- characters; white space alone is dropped unless it is kept
  Characters : (kept : Bool) → Inside
  -- texts and literal elements, written as they are
  Parts : Inside
  Nothing : Inside

abbrev pub is_declaration : Kind → Bool
is_declaration Group = true
is_declaration Template = true
is_declaration Procedure = true
is_declaration Include = true
is_declaration Variable = true
is_declaration Buffer = true
is_declaration other = false

abbrev pub is_param : Kind → Bool
is_param Param = true
is_param other = false

-- an instruction of a body; an else has its place directly behind an if
abbrev pub is_instruction : Kind → Bool
is_instruction Transform = false
is_instruction Group = false
is_instruction Template = false
is_instruction Procedure = false
is_instruction Include = false
is_instruction Param = false
is_instruction Buffer = false
is_instruction Else = false
is_instruction When = false
is_instruction Otherwise = false
is_instruction WithParam = false
is_instruction other = true

-- What stands before an element in its list, as far as it counts.
pub data Before : Type 0 where
  Something : Before
  -- an if without an else
  After_if : Before
  -- an otherwise
  After_otherwise : Before

abbrev pub is_else : Kind → Bool
is_else Else = true
is_else other = false

abbrev pub may_be_else : Before → Kind → Bool
may_be_else After_if kind = is_else kind
may_be_else other kind = false

-- a branch of a choose: nothing comes behind an otherwise
abbrev pub is_branch : Before → Kind → Bool
is_branch After_otherwise kind = false
is_branch other When = true
is_branch other Otherwise = true
is_branch other kind = false

abbrev pub is_with_param : Kind → Bool
is_with_param WithParam = true
is_with_param other = false

abbrev pub is_template : Kind → Bool
is_template Template = true
is_template other = false

abbrev pub is_procedure : Kind → Bool
is_procedure Procedure = true
is_procedure other = false

abbrev pub is_buffer : Kind → Bool
is_buffer Buffer = true
is_buffer other = false

abbrev pub is_variable : Kind → Bool
is_variable Variable = true
is_variable other = false

abbrev pub is_include : Kind → Bool
is_include Include = true
is_include other = false

-- the elements that are groups of the sheet
abbrev pub makes_group : Kind → Bool
makes_group Group = true
makes_group Transform = true
makes_group other = false

abbrev pub is_transform : Kind → Bool
is_transform Transform = true
is_transform other = false

-- whether an element may stand there
abbrev pub is_allowed : Inside → Before → Kind → Bool
is_allowed (Document included) before kind = is_transform kind
is_allowed (Declarations params) before kind = is_declaration kind || (params && is_param kind)
is_allowed Start_of_body before kind = is_param kind || is_instruction kind
is_allowed Body before kind = is_instruction kind || may_be_else before kind
is_allowed Branches before kind = is_branch before kind
is_allowed With_params before kind = is_with_param kind
is_allowed (Characters kept) before kind = false
is_allowed Parts before kind = false
is_allowed Nothing before kind = false

-- whether a literal element may stand there
abbrev pub allows_literals : Inside → Bool
allows_literals Start_of_body = true
allows_literals Body = true
allows_literals Parts = true
allows_literals other = false

-- whether a text that is no white space may stand there
abbrev pub allows_text : Inside → Bool
allows_text Start_of_body = true
allows_text Body = true
allows_text Parts = true
allows_text (Characters kept) = true
allows_text other = false

-- whether a text of white space alone counts there
abbrev pub keeps_space : Inside → Bool
keeps_space (Characters kept) = kept
keeps_space other = false

-- the sheet itself may have parameters
abbrev pub is_own : Inside → Bool
is_own (Document included) = not included
is_own other = false

-- what the list of an element holds that stands there; `has_select` says that its content comes from its attribute
abbrev pub inside_of : Inside → Kind → (has_select : Bool) → Inside
inside_of around Transform has_select = Declarations (is_own around)
inside_of around Group has_select = Declarations false
inside_of around Template has_select = Start_of_body
inside_of around Procedure has_select = Start_of_body
inside_of around Buffer has_select = Parts
inside_of around Chars has_select = Characters true
inside_of around Copy has_select = Body
inside_of around Element has_select = Body
inside_of around Attribute has_select = if has_select then Nothing else Characters false
inside_of around Comment has_select = if has_select then Nothing else Characters false
inside_of around Instruction has_select = if has_select then Nothing else Characters false
inside_of around Message has_select = if has_select then Nothing else Characters false
inside_of around If has_select = Body
inside_of around Else has_select = Body
inside_of around Choose has_select = Branches
inside_of around When has_select = Body
inside_of around Otherwise has_select = Body
inside_of around ForEachItem has_select = Body
inside_of around While has_select = Body
inside_of around CallProcedure has_select = With_params
inside_of around ProcessChildren has_select = With_params
inside_of around ProcessAttributes has_select = With_params
inside_of around ProcessSelf has_select = With_params
inside_of around ProcessSiblings has_select = With_params
inside_of around ProcessBuffer has_select = With_params
inside_of around ProcessDocument has_select = With_params
inside_of around ResultBuffer has_select = Body
inside_of around other has_select = Nothing
