-- How small sheets and documents are made, by which the definitions are tried.
use Rattle.std.specs.Prelude.{codes, ◌≡◌, ℕ, pos, Bool, false, List, [], ◌∷◌, Some, None}
use Rattle.stx_base.specs.Course.{Over}
use Rattle.stx_base.specs.declared.fault.Place.{Place}
use Rattle.stx_base.specs.declared.limits.Limits.{Limits}
use Rattle.stx_base.specs.declared.name.Attr.{Attr}
use Rattle.stx_base.specs.declared.name.Name.{Name}
use Rattle.stx_base.specs.declared.node.NodeTest.{NodeTest}
use Rattle.stx_base.specs.declared.node.NodeTest.TheVariants as test
use Rattle.stx_base.specs.declared.part.Part.TheVariants as part
use Rattle.sheet_model.specs.declared.instr.Instr.{Instr}
use Rattle.sheet_model.specs.declared.instr.Instr.TheVariants as i
use Rattle.sheet_model.specs.declared.pass.Pass.{Pass}
use Rattle.sheet_model.specs.declared.sheet.Sheet.{Sheet}
use Rattle.sheet_model.specs.declared.sheet.Template.{Template}
use Rattle.sheet_model.specs.declared.sheet.Visibility.TheVariants as visibility
use Rattle.sheet_model.specs.declared.sheet.Variable.{Variable}
use Rattle.stxpath_syntax.specs.declared.expr.Alternative.TheVariants as alternative
use Rattle.stxpath_syntax.specs.declared.expr.Avt.{Avt}
use Rattle.stxpath_syntax.specs.declared.expr.AvtPart.TheVariants as part_of
use Rattle.stxpath_syntax.specs.declared.expr.Expr.{Expr}
use Rattle.stxpath_syntax.specs.declared.expr.Expr.TheVariants as e
use Rattle.stxpath_syntax.specs.declared.expr.Link.TheVariants as link
use Rattle.stxpath_syntax.specs.declared.expr.Pattern.{Pattern}
use Rattle.stxpath_syntax.specs.declared.expr.PathStep.{roll-PathStep}
use Rattle.xml_events.specs.Tree.{Fresh, Waiting, Forest, End, Nested}
use Rattle.template_machine.specs.Ending.{Said, Put, Ending, Done}
use Rattle.template_machine.specs.Job.{Given as Handed}
use Rattle.template_machine.specs.Outcome.{outcome}

-- a name in no namespace
abbrev pub name : List ℕ → Name
name local = record { uri = []; local = local; prefix = [] }

-- a place in the one file
abbrev pub at : ℕ → Place
at n = record { file = 0; offset = n }

-- documents
abbrev pub none : Forest
none = End Fresh 0

abbrev pub element : List ℕ → List Attr → (kids next : Forest) → Forest
element local attrs kids next = Nested Waiting (record { offset = 0; name = name local; attrs = attrs; decls = [] }) kids next

-- patterns of one step
abbrev pub a_step : NodeTest → Pattern
a_step t = record { alternatives = alternative.Steps (roll-PathStep (record { link = link.Start; test = t; predicates = [] }) ∷ []) ∷ [] }

abbrev pub named : List ℕ → Pattern
named local = a_step (test.Name (name local))

abbrev pub root : Pattern
root = record { alternatives = alternative.Root ∷ [] }

-- a template of the root group
abbrev pub template : Pattern → List Instr → Template
template pattern body = record {
  group = 0;
  pattern = pattern;
  priority = None;
  visibility = visibility.Local;
  public = false;
  new_scope = false;
  params = [];
  body = body;
  at = at 0;
}

-- a literal element, whose place doesn't matter
abbrev pub literal : List ℕ → List Instr → Instr
literal local body = i.Literal (name local) [] body (at 0)

abbrev pub value_of : Expr → Instr
value_of e = i.ValueOf e None (at 0)

-- process instructions without more, at a place
abbrev pub process_children : ℕ → Instr
process_children n = i.ProcessChildren None [] (at n)

-- expressions
abbrev pub self : Expr
self = e.Up 0 None

abbrev pub var : List ℕ → Expr
var local = e.Var (name local)

abbrev pub whole : ℕ → Expr
whole n = e.Whole (pos n)

-- a template of plain characters
abbrev pub plain : List ℕ → Avt
plain text = record { parts = part_of.Chars text ∷ [] }

-- a literal element with a value in an attribute
abbrev pub showing : (local : List ℕ) → Expr → Instr
showing local x = i.Literal (name local) (record { name = name (codes "v"); value = record { parts = part_of.Value x ∷ [] } } ∷ []) [] (at 0)

-- a variable of the root group
abbrev pub variable : List ℕ → Expr → (keep : Bool) → Variable
variable local e keep = record { group = 0; name = name local; select = Some e; keep = keep; param = false; at = at 0 }

-- a sheet of one group
abbrev pub sheet : Pass → List Template → Sheet
sheet pass templates = record {
  groups = record { parent = None; name = None; pass = pass; at = at 0 } ∷ [];
  templates = templates;
  procedures = [];
  buffers = [];
  variables = [];
  strip = false;
  cdata = false;
  files = [];
}

abbrev pub limits : Limits
limits = record { lexeme = 1000; text = 1000; depth = 10; instances = 5; sequence = 100; buffer = 1000; elements = 10; sources = 4; input = 1000; sheet = 1000; fuel = 20 }

abbrev pub handed : Sheet → Handed
handed s = record { sheet = s; params = []; documents = λ name. None; limits = limits }

-- what is said
abbrev pub start : List ℕ → Said
start local = Put (part.Start (name local) [])

abbrev pub end : List ℕ → Said
end local = Put (part.End (name local))

abbrev pub chars : List ℕ → Said
chars text = Put (part.Chars text)

-- a sheet says this on a document, and is done
abbrev pub Gives : Sheet → Forest → List Said → Type 0
Gives s tree os = outcome (handed s) tree ≡ Over os Done

-- or it stops so
abbrev pub Stops : Sheet → Forest → List Said → Ending → Type 0
Stops s tree os e = outcome (handed s) tree ≡ Over os e
