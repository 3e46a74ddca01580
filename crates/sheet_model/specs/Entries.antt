-- How many entries the lists of a sheet have, but for those of bindings.
use Rattle.std.specs.Prelude.{ℕ, ◌+◌, List, length, sum, sum_by}
use Rattle.std.specs.Option.{option_to_list}
use Rattle.stxpath_syntax.specs.declared.expr.Alternative.{Alternative}
use Rattle.stxpath_syntax.specs.declared.expr.Alternative.TheVariants as alternative
use Rattle.stxpath_syntax.specs.declared.expr.Avt.{Avt}
use Rattle.stxpath_syntax.specs.declared.expr.AvtPart.{AvtPart}
use Rattle.stxpath_syntax.specs.declared.expr.AvtPart.TheVariants as part
use Rattle.stxpath_syntax.specs.declared.expr.Expr.{Expr}
use Rattle.stxpath_syntax.specs.declared.expr.Expr.TheFolds.{fold-Expr}
use Rattle.stxpath_syntax.specs.declared.expr.Expr.TheOpen.{Expr-F, PathStep-F}
use Rattle.stxpath_syntax.specs.declared.expr.PathStep.{PathStep}
use Rattle.stxpath_syntax.specs.declared.expr.Pattern.{Pattern}
use Rattle.sheet_model.specs.Body.{children, instructions}
use Rattle.sheet_model.specs.Parts.{conditions, copied_attributes, expressions, handed, templates}
use Rattle.sheet_model.specs.declared.instr.Instr.{Instr}
use Rattle.sheet_model.specs.declared.instr.Instr.TheOpen.{Instr-F}
use Rattle.sheet_model.specs.declared.instr.Instr.TheViews.{out-Instr}
use Rattle.sheet_model.specs.declared.instr.When.{When}
use Rattle.sheet_model.specs.declared.sheet.Buffer.{Buffer}
use Rattle.sheet_model.specs.declared.sheet.Procedure.{Procedure}
use Rattle.sheet_model.specs.declared.sheet.Sheet.{Sheet}
use Rattle.sheet_model.specs.declared.sheet.Template.{Template}
use Rattle.sheet_model.specs.declared.sheet.Variable.{Variable}

abbrev pub layer_entries : Expr-F ℕ ℕ → ℕ
layer_entries (Expr-F.Call f args) = length args + sum args
layer_entries (Expr-F.Seq parts) = length parts + sum parts
layer_entries (Expr-F.Neg x) = x
layer_entries (Expr-F.Binary b x y) = x + y
layer_entries (Expr-F.Abs steps t) = length steps + sum steps
layer_entries x = 0

abbrev pub step_entries : PathStep-F ℕ ℕ → ℕ
step_entries s = length s.predicates + sum s.predicates

unfoldable pub expression_entries : Expr → ℕ
expression_entries = fold-Expr ℕ ℕ layer_entries step_entries

abbrev pub part_entries : AvtPart → ℕ
part_entries (part.Chars text) = 0
part_entries (part.Value x) = expression_entries x

abbrev pub template_entries : Avt → ℕ
template_entries t = length t.parts + sum_by part_entries t.parts

abbrev pub alternative_entries : Alternative → ℕ
alternative_entries alternative.Root = 0
alternative_entries (alternative.Steps steps) =
    length steps + sum_by (λ (s : PathStep). length s.predicates + sum_by expression_entries s.predicates) steps

abbrev pub pattern_entries : Pattern → ℕ
pattern_entries p = length p.alternatives + sum_by alternative_entries p.alternatives

-- the branches of a choice, and the attributes of a literal element
abbrev pub listed_in : {A B : Type 0} → Instr-F A B → ℕ
listed_in (Instr-F.Choose whens other at) = length whens
listed_in (Instr-F.Literal name attrs body at) = length attrs
listed_in x = 0

abbrev pub own_entries : Instr-F Instr When → ℕ
own_entries x =
    listed_in x + length (handed x)
    + sum_by expression_entries (expressions (λ (w : When). w.test) x)
    + sum_by template_entries (templates x)
    + sum_by pattern_entries (conditions x)
    + sum_by pattern_entries (copied_attributes x)

-- the entries of its lists; what stands within it is counted where it stands
abbrev pub instruction_entries : Instr → ℕ
instruction_entries i = own_entries (out-Instr i) + length (children i)

abbrev pub variable_entries : Variable → ℕ
variable_entries v = sum_by expression_entries (option_to_list v.select)

abbrev pub variables_entries : List Variable → ℕ
variables_entries vs = length vs + sum_by variable_entries vs

abbrev pub entries : Sheet → ℕ
entries s =
    length s.groups + length s.templates + length s.procedures + length s.buffers + length s.files
    + variables_entries s.variables
    + sum_by (λ (t : Template). pattern_entries t.pattern + variables_entries t.params + length t.body) s.templates
    + sum_by (λ (p : Procedure). variables_entries p.params + length p.body) s.procedures
    + sum_by (λ (b : Buffer). length b.content) s.buffers
    + sum_by instruction_entries (instructions s)
