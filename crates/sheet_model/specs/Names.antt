-- The names that a body says, as they wait to be found.
use Rattle.std.specs.Prelude.{Bool, not, List, [], ◌∷◌, ◌++◌, map, filter}
use Rattle.std.specs.List.{flat_map, list_any}
use Rattle.std.specs.Option.{option_to_list}
use Rattle.stx_base.specs.declared.name.Name.{Name}
use Rattle.stxpath_syntax.specs.declared.expr.Alternative.{Alternative}
use Rattle.stxpath_syntax.specs.declared.expr.Alternative.TheVariants as alternative
use Rattle.stxpath_syntax.specs.declared.expr.Avt.{Avt}
use Rattle.stxpath_syntax.specs.declared.expr.AvtPart.{AvtPart}
use Rattle.stxpath_syntax.specs.declared.expr.AvtPart.TheVariants as part
use Rattle.stxpath_syntax.specs.declared.expr.Expr.{Expr}
use Rattle.stxpath_syntax.specs.declared.expr.Expr.TheFolds.{fold-Expr}
use Rattle.stxpath_syntax.specs.declared.expr.Expr.TheOpen.{Expr-F, PathStep-F}
use Rattle.stxpath_syntax.specs.declared.expr.PathStep.{PathStep}
use Rattle.stxpath_syntax.specs.declared.expr.Pattern.{Pattern}
pub use Rattle.result_writer.specs.Target.{same_name as is_same}
use Rattle.sheet_model.specs.declared.instr.Instr.{Instr}
use Rattle.sheet_model.specs.declared.instr.Instr.TheFolds.{fold-Instr}
use Rattle.sheet_model.specs.declared.instr.Instr.TheOpen.{Instr-F, When-F}
use Rattle.sheet_model.specs.declared.instr.WithParam.{WithParam}
use Rattle.sheet_model.specs.declared.sheet.Variable.{Variable}
use Rattle.sheet_model.specs.Parts.{base_named, buffer_named, conditions, copied_attributes, expressions, handed, procedure_named, templates}

abbrev pub is_among : List Name → Name → Bool
is_among names n = list_any (λ m. is_same m n) names

abbrev pub joined : {A : Type 0} → List (List A) → List A
joined lists = flat_map (λ l. l) lists

abbrev pub layer_variables : Expr-F (List Name) (List Name) → List Name
layer_variables (Expr-F.Var name) = name ∷ []
layer_variables (Expr-F.Call f args) = joined args
layer_variables (Expr-F.Seq parts) = joined parts
layer_variables (Expr-F.Neg x) = x
layer_variables (Expr-F.Binary b x y) = x ++ y
layer_variables (Expr-F.Abs steps t) = joined steps
layer_variables x = []

abbrev pub step_variables : PathStep-F (List Name) (List Name) → List Name
step_variables s = joined s.predicates

-- the variables that an expression names
unfoldable pub variables : Expr → List Name
variables = fold-Expr (List Name) (List Name) layer_variables step_variables

abbrev pub part_variables : AvtPart → List Name
part_variables (part.Chars text) = []
part_variables (part.Value x) = variables x

abbrev pub template_variables : Avt → List Name
template_variables t = flat_map part_variables t.parts

abbrev pub alternative_variables : Alternative → List Name
alternative_variables alternative.Root = []
alternative_variables (alternative.Steps steps) = flat_map (λ (s : PathStep). flat_map variables s.predicates) steps

abbrev pub pattern_variables : Pattern → List Name
pattern_variables p = flat_map alternative_variables p.alternatives

-- what a name in a body is of; a local stands beside those that are in scope where it is declared
pub data Mention : Type 0 where
  GroupNamed : Name → Mention
  ProcedureNamed : Name → Mention
  BufferNamed : Name → Mention
  VariableNamed : Name → Mention
  LocalDeclared : Name → (in_scope : List Name) → Mention
  ParamsNamed : List Name → Mention

-- variables that are no locals
abbrev pub free : (locals : List Name) → List Name → List Mention
free locals names = map (λ n. VariableNamed n) (filter (λ n. not (is_among locals n)) names)

-- what is said of it, by the locals in scope
abbrev pub Saying : Type 0
Saying = (locals : List Name) → List Mention

-- one of a body: what it says, and the local that it declares for what follows
pub record Said : Type 0 where
  pub says : Saying
  pub declares : List Name

pub record Branch : Type 0 where
  pub test : Expr
  pub says : Saying

-- a body, one after the other
abbrev pub in_turn : List Said → Saying
in_turn [] locals = []
in_turn (x ∷ xs) locals = x.says locals ++ in_turn xs (x.declares ++ locals)

abbrev pub within : Instr-F Said Branch → Saying
within (Instr-F.Copy attributes body at) locals = in_turn body locals
within (Instr-F.Element name namespace scope body at) locals = in_turn body locals
within (Instr-F.If test body other at) locals = in_turn body locals ++ in_turn other locals
within (Instr-F.Choose whens other at) locals = flat_map (λ b. b.says locals) whens ++ in_turn other locals
within (Instr-F.ForEachItem name select body at) locals = in_turn body (name ∷ locals)
within (Instr-F.While test body at) locals = in_turn body locals
within (Instr-F.ResultBuffer name clear body at) locals = in_turn body locals
within (Instr-F.Literal name attrs body at) locals = in_turn body locals
within x locals = []

-- the variable that is set, and the local that is declared
abbrev pub bound : {A B : Type 0} → Instr-F A B → Saying
bound (Instr-F.Assign name select at) locals = free locals (name ∷ [])
bound (Instr-F.ForEachItem name select body at) locals = LocalDeclared name locals ∷ []
bound (Instr-F.Local name select at) locals = LocalDeclared name locals ∷ []
bound x locals = []

abbrev pub declared : {A B : Type 0} → Instr-F A B → List Name
declared (Instr-F.Local name select at) = name ∷ []
declared x = []

-- what an instruction itself says: patterns see no locals
abbrev pub own : Instr-F Said Branch → Saying
own x locals =
    free locals (flat_map variables (expressions (λ (b : Branch). b.test) x) ++ flat_map template_variables (templates x))
    ++ free [] (flat_map pattern_variables (conditions x ++ copied_attributes x))
    ++ bound x locals
    ++ map (λ n. GroupNamed n) (option_to_list (base_named x))
    ++ map (λ n. ProcedureNamed n) (option_to_list (procedure_named x))
    ++ map (λ n. BufferNamed n) (option_to_list (buffer_named x))
    ++ ParamsNamed (map (λ (p : WithParam). p.name) (handed x)) ∷ []

abbrev pub layer_said : Instr-F Said Branch → Said
layer_said x = record { says = λ locals. own x locals ++ within x locals; declares = declared x }

abbrev pub branch_said : When-F Said Branch → Branch
branch_said w = record { test = w.test; says = in_turn w.body }

unfoldable pub said : Instr → Said
said = fold-Instr Said Branch layer_said branch_said

-- parameters, each of which sees those before it, and then a body
abbrev pub with_params : List Variable → List Instr → Saying
with_params [] body locals = in_turn (map said body) locals
with_params (p ∷ params) body locals =
    free locals (flat_map variables (option_to_list p.select)) ++ LocalDeclared p.name locals ∷ with_params params body (p.name ∷ locals)
