-- What an instruction itself has: its place, and its expressions, patterns and templates.
use Rattle.std.specs.Prelude.{List, [], ◌∷◌, ◌++◌, map, Option, Some, None}
use Rattle.std.specs.Option.{option_to_list}
use Rattle.stx_base.specs.declared.fault.Place.{Place}
use Rattle.stx_base.specs.declared.name.Name.{Name}
use Rattle.stxpath_syntax.specs.declared.expr.Avt.{Avt}
use Rattle.stxpath_syntax.specs.declared.expr.Expr.{Expr}
use Rattle.stxpath_syntax.specs.declared.expr.Pattern.{Pattern}
use Rattle.sheet_model.specs.declared.instr.Content.{Content}
use Rattle.sheet_model.specs.declared.instr.Content.TheVariants as content
use Rattle.sheet_model.specs.declared.instr.Instr.TheOpen.{Instr-F}
use Rattle.sheet_model.specs.declared.instr.LiteralAttr.{LiteralAttr}
use Rattle.sheet_model.specs.declared.instr.WithParam.{WithParam}

-- where it stands in the text
abbrev pub place : {A B : Type 0} → Instr-F A B → Place
place (Instr-F.ValueOf select separator at) = at
place (Instr-F.Chars text at) = at
place (Instr-F.Copy attributes body at) = at
place (Instr-F.Element name namespace scope body at) = at
place (Instr-F.StartElement name namespace scope at) = at
place (Instr-F.EndElement name namespace scope at) = at
place (Instr-F.Attribute name namespace scope content at) = at
place (Instr-F.Comment content at) = at
place (Instr-F.Pi name scope content at) = at
place (Instr-F.Message content at) = at
place (Instr-F.If test body other at) = at
place (Instr-F.Choose whens other at) = at
place (Instr-F.ForEachItem name select body at) = at
place (Instr-F.While test body at) = at
place (Instr-F.Assign name select at) = at
place (Instr-F.CallProcedure name params at) = at
place (Instr-F.ProcessChildren group params at) = at
place (Instr-F.ProcessAttributes group params at) = at
place (Instr-F.ProcessSelf group params at) = at
place (Instr-F.ProcessSiblings going until group params at) = at
place (Instr-F.ProcessBuffer name group params at) = at
place (Instr-F.ProcessDocument href group params at) = at
place (Instr-F.ResultBuffer name clear body at) = at
place (Instr-F.Literal name attrs body at) = at
place (Instr-F.LiteralChars text at) = at
place (Instr-F.Local name select at) = at

-- the values that it hands to parameters
abbrev pub handed : {A B : Type 0} → Instr-F A B → List WithParam
handed (Instr-F.CallProcedure name params at) = params
handed (Instr-F.ProcessChildren group params at) = params
handed (Instr-F.ProcessAttributes group params at) = params
handed (Instr-F.ProcessSelf group params at) = params
handed (Instr-F.ProcessSiblings going until group params at) = params
handed (Instr-F.ProcessBuffer name group params at) = params
handed (Instr-F.ProcessDocument href group params at) = params
handed x = []

abbrev pub content_expression : Content → List Expr
content_expression (content.Select select) = select ∷ []
content_expression (content.Chars text) = []

-- the expressions that are no part of a template, of its own and of what it hands to parameters; each branch has a test
abbrev pub own_expressions : {A B : Type 0} → (B → Expr) → Instr-F A B → List Expr
own_expressions test (Instr-F.ValueOf select separator at) = select ∷ []
own_expressions test (Instr-F.Attribute name namespace scope content at) = content_expression content
own_expressions test (Instr-F.Comment content at) = content_expression content
own_expressions test (Instr-F.Pi name scope content at) = content_expression content
own_expressions test (Instr-F.Message content at) = content_expression content
own_expressions test (Instr-F.If x body other at) = x ∷ []
own_expressions test (Instr-F.Choose whens other at) = map test whens
own_expressions test (Instr-F.ForEachItem name select body at) = select ∷ []
own_expressions test (Instr-F.While x body at) = x ∷ []
own_expressions test (Instr-F.Assign name select at) = select ∷ []
own_expressions test (Instr-F.Local name select at) = option_to_list select
own_expressions test x = []

abbrev pub expressions : {A B : Type 0} → (B → Expr) → Instr-F A B → List Expr
expressions test x = own_expressions test x ++ map (λ (p : WithParam). p.select) (handed x)

abbrev pub templates : {A B : Type 0} → Instr-F A B → List Avt
templates (Instr-F.ValueOf select separator at) = option_to_list separator
templates (Instr-F.Element name namespace scope body at) = name ∷ option_to_list namespace
templates (Instr-F.StartElement name namespace scope at) = name ∷ option_to_list namespace
templates (Instr-F.EndElement name namespace scope at) = name ∷ option_to_list namespace
templates (Instr-F.Attribute name namespace scope content at) = name ∷ option_to_list namespace
templates (Instr-F.Pi name scope content at) = name ∷ []
templates (Instr-F.ProcessDocument href group params at) = href ∷ []
templates (Instr-F.Literal name attrs body at) = map (λ (a : LiteralAttr). a.value) attrs
templates x = []

-- the attributes that a copy takes along
abbrev pub copied_attributes : {A B : Type 0} → Instr-F A B → List Pattern
copied_attributes (Instr-F.Copy attributes body at) = option_to_list attributes
copied_attributes x = []

-- the conditions of siblings
abbrev pub conditions : {A B : Type 0} → Instr-F A B → List Pattern
conditions (Instr-F.ProcessSiblings going until group params at) = option_to_list going ++ option_to_list until
conditions x = []

-- the base group that it names
abbrev pub base_named : {A B : Type 0} → Instr-F A B → Option Name
base_named (Instr-F.ProcessChildren group params at) = group
base_named (Instr-F.ProcessAttributes group params at) = group
base_named (Instr-F.ProcessSelf group params at) = group
base_named (Instr-F.ProcessSiblings going until group params at) = group
base_named (Instr-F.ProcessBuffer name group params at) = group
base_named (Instr-F.ProcessDocument href group params at) = group
base_named x = None

abbrev pub procedure_named : {A B : Type 0} → Instr-F A B → Option Name
procedure_named (Instr-F.CallProcedure name params at) = Some name
procedure_named x = None

abbrev pub buffer_named : {A B : Type 0} → Instr-F A B → Option Name
buffer_named (Instr-F.ProcessBuffer name group params at) = Some name
buffer_named (Instr-F.ResultBuffer name clear body at) = Some name
buffer_named x = None

-- the variables that it declares, or binds items to
abbrev pub variables_named : {A B : Type 0} → Instr-F A B → List Name
variables_named (Instr-F.Local name select at) = name ∷ []
variables_named (Instr-F.ForEachItem name select body at) = name ∷ []
variables_named x = []
