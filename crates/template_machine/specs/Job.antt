-- What a run carries along, and what is done by recursion in it.
use Rattle.std.specs.Prelude.{ℕ, List, [], Option, None}
use Rattle.stx_base.specs.Course.{Course}
use Rattle.stx_base.specs.declared.fault.Place.{Place}
use Rattle.stx_base.specs.declared.limits.Limits.{Limits}
use Rattle.stx_base.specs.declared.node.NodeTest.{NodeTest}
use Rattle.result_writer.specs.Target.{Left}
use Rattle.sheet_model.specs.declared.instr.Instr.{Instr}
use Rattle.sheet_model.specs.declared.sheet.Sheet.{Sheet}
use Rattle.stxpath_syntax.specs.declared.expr.Expr.{Expr}
use Rattle.stxpath_syntax.specs.declared.expr.Pattern.{Pattern}
use Rattle.xml_events.specs.Tree.{Begun, Forest, End}
use Rattle.event_buffers.specs.Buffers.{Buffers}
use Rattle.template_machine.specs.Ending.{Said, Ending}
use Rattle.template_machine.specs.Trail.{Trail}
use Rattle.var_store.specs.declared.bound.Bound.{Bound}
use Rattle.var_store.specs.Copies.{Stored}

-- What a run is given: the sheet, the parameters of the command by their local names, the other documents by name, as trees, and
-- the limits.
pub record Given : Type 0 where
  pub sheet : Sheet
  pub params : List Bound
  pub documents : (name : List ℕ) → Option Forest
  pub limits : Limits

-- What a run carries along: the units of fuel that are left, the copies of variables and of buffers, what the parts that were put
-- leave of the output, and the buffers to which parts go in its place, the innermost first.
pub record State : Type 0 where
  pub fuel : ℕ
  pub variables : Stored
  pub buffers : Buffers
  pub result : Left
  pub targets : List ℕ

-- Where nodes come from: the main document, or a buffer (which has no name) or another document that a process instruction at a
-- place opened, as the so-manieth source that is open at once.
pub data Source : Type 0 where
  Main : Source
  Opened : (document : Option (List ℕ)) → Place → (number : ℕ) → Source

-- When the siblings of a region end: at one that doesn't fit the first pattern or fits the second, where the patterns see the
-- variables of a group.
pub record Condition : Type 0 where
  pub group : ℕ
  pub going : Option Pattern
  pub until : Option Pattern

-- A level, which is an open list of nodes: what ends it, how many instances are open on it, and from where its nodes come.
pub record Level : Type 0 where
  pub conditions : List Condition
  pub instances : ℕ
  pub source : Source

-- Nodes of a list: how many earlier ones pass each test, as far as positions tell, and those still to come.
pub record Siblings : Type 0 where
  pub earlier : NodeTest → ℕ
  pub coming : Forest

-- What asks for nodes: a process instruction at a place, with the base group for them and the values that it hands to parameters.
-- The nodes have a level, and stand within the current node of a trail.
pub record Asked : Type 0 where
  pub at : Place
  pub base : ℕ
  pub params : List Bound
  pub level : Level
  pub within : Trail

-- Whose body runs: the group in which its template or procedure stands, the test by which positions count, the templates that are
-- active for the current node, its level, and the way to it.
pub record Self : Type 0 where
  pub group : ℕ
  pub test : NodeTest
  pub active : List ℕ
  pub level : Level
  pub trail : Trail

-- Where a body stands: the current node's children, or None once they are gone (a leaf never has any), the siblings that remain,
-- its locals, the oldest first, and the state.
pub record Here : Type 0 where
  pub kids : Option Forest
  pub left : Siblings
  pub locals : List Bound
  pub state : State

-- What is done by general recursion: nodes of a list, the instructions of a list, or the turns of a loop with a test.
pub data Job : Type 0 where
  Nodes : Siblings → Asked → State → Job
  Body : List Instr → Self → Here → Job
  Loop : (test : Expr) → (body : List Instr) → Place → Self → Here → Job

abbrev pub Does : Type 0
Does = Course Job Here Said Ending

-- a level of its own, where nothing is open yet and no condition holds
abbrev pub fresh : Source → Level
fresh source = record { conditions = []; instances = 0; source = source }

abbrev pub sources_open : Source → ℕ
sources_open Main = 0
sources_open (Opened document at number) = number

-- a list of nodes from its beginning
abbrev pub all_of : Forest → Siblings
all_of list = record { earlier = λ t. 0; coming = list }

abbrev pub with_state : Here → State → Here
with_state a st = record a { state = st }

-- no siblings
abbrev pub alone : Siblings
alone = all_of (End Begun 0)

-- a node without children that has no siblings
abbrev pub single : State → Here
single st = record { kids = None; left = alone; locals = []; state = st }

-- where a list of nodes was left: what remains of it, and the state
abbrev pub remains : Siblings → State → Here
remains left st = record { kids = None; left = left; locals = []; state = st }
