-- How the variables of groups are made, as the definition makes them.
use Rattle.std.specs.Prelude.{◌≡◌, ℕ, ◌-◌, Bool, true, List, [], OnOk, Result, Some, Ok, Err, drop, length, slice_get, take}
use Rattle.node_stack.specs.Path.{PathNode, kind_of}
use Rattle.node_stack.specs.Stack.{path}
use Rattle.node_stack.specs.Test.{passes}
use Rattle.sheet_model.specs.declared.sheet.Variable.{Variable}
use Rattle.stx_base.specs.declared.node.NodeTest.{NodeTest}
use Rattle.stxpath_eval.specs.Setting.{Setting}
use Rattle.stxpath_values.specs.declared.value.Atom.{Atom}
use Rattle.template_machine.specs.Commands.{HasParams}
use Rattle.template_machine.specs.Declaring.{commanded, kept, makes, makes_scope, new_value, seen_before}
use Rattle.template_machine.specs.Job.{Does, Given, Self, State}
use Rattle.template_machine.specs.Programs.{IsProgramOf}
use Rattle.template_machine.specs.Saying.{Gave, Yields}
use Rattle.template_machine.specs.Still.{nodes_of, trail_of}
use Rattle.template_machine.specs.Variables.{declared}
use Rattle.template_machine.specs.declared.program.Program.{Program}
use Rattle.template_machine.specs.declared.run.Run.{Run}
use Rattle.template_machine.specs.declared.stop.Stop.{Stop}

-- what a declaration sees that stands at a place of the sheet, where positions count by a test
abbrev pub sight_before : Program → Run → (place : ℕ) → Variable → NodeTest → Setting
sight_before p r place v t = record {
  vars = seen_before p.sheet (take place p.sheet.variables) v.group r.store;
  limits = p.limits;
  path = path r.source.stack;
  place = length (path r.source.stack).nodes - 1;
  test = t;
}

-- a variable is given its value as the definition gives it, or there is none
abbrev pub GaveNew : Program → Run → (place : ℕ) → Variable → NodeTest → Result (List Atom) Stop → Type 0
GaveNew p r place v t result =
    (given : Given) → HasParams p given → (st : State) → st.variables ≡ r.store
    → Gave v.at result (new_value given (commanded given v) (kept given v st) v (sight_before p r place v t))

-- The variable at a place is made, or stops the run.
abbrev pub MakesOne : Program → (place : ℕ) → Variable → NodeTest → Result (Unit {0}) Stop → (old new : Run) → Type 0
MakesOne p place v t (Ok done) old new =
    (value : List Atom) × (GaveNew p old place v t (Ok value) × (new ≡ record old { store = declared old.store v.group v.name value }))
MakesOne p place v t (Err e) old new = GaveNew p old place v t (Err e)

-- the current node passes the test by which positions count
abbrev pub PassesTest : NodeTest → Run → Type 0
PassesTest t r =
    (x : PathNode) → slice_get (path r.source.stack).nodes (length (path r.source.stack).nodes - 1) ≡ Some x → passes t (kind_of x.node) ≡ true

-- who sees what is declared: by this test, at the current node
pub record Declares (t : NodeTest) (r : Run) (self : Self) : Type 0 where
  pub test : self.test ≡ t
  pub trail : self.trail ≡ trail_of (nodes_of r.source)

abbrev pub with_store : Run → State → State
with_store r st = record st { variables = r.store }

-- The variables before a place of the sheet are made of which something holds: they come as the definition makes them.
pub record HasMade (p : Program) (is : Variable → Bool) (place : ℕ) (t : NodeTest) (old now : Run) : Type 0 where
  pub rest : now ≡ record old { store = now.store }
  pub does :
      (given : Given) → IsProgramOf given.sheet given.limits p → HasParams p given → (self : Self) → Declares t old self → (st : State) → st.variables ≡ old.store
      → (go : State → Does)
      → makes given is [] given.sheet.variables self st go
      ≡ makes given is (take place p.sheet.variables) (drop place p.sheet.variables) self (with_store now st) go

-- All of them are, or one stops the run.
abbrev pub Makes : Program → (Variable → Bool) → NodeTest → Result (Unit {0}) Stop → (old new : Run) → Type 0
Makes p is t (Ok done) old new = HasMade p is (length p.sheet.variables) t old new
Makes p is t (Err e) old new =
    (given : Given) → IsProgramOf given.sheet given.limits p → HasParams p given → (self : Self) → Declares t old self → (st : State) → st.variables ≡ old.store
    → (go : State → Does) → Yields {A = Unit {0}} (Err e) (makes given is [] given.sheet.variables self st go) (λ done. go st)

-- New copies of a group are laid, and its variables made in them, as the definition does; or one stops the run.
pub record HasScope (p : Program) (group : ℕ) (t : NodeTest) (old new : Run) : Type 0 where
  pub targets : new.putting.targets ≡ old.putting.targets
  pub does :
      (given : Given) → IsProgramOf given.sheet given.limits p → HasParams p given → (self : Self) → Declares t old self → (st : State) → st.variables ≡ old.store
      → st.buffers ≡ old.putting.buffers → (go : State → Does)
      → makes_scope given true group self st go ≡ go (record st { variables = new.store; buffers = new.putting.buffers })

abbrev pub MakesScope : Program → (group : ℕ) → NodeTest → Result (Unit {0}) Stop → (old new : Run) → Type 0
MakesScope p group t (Ok done) old new = HasScope p group t old new
MakesScope p group t (Err e) old new =
    (given : Given) → IsProgramOf given.sheet given.limits p → HasParams p given → (self : Self) → Declares t old self → (st : State) → st.variables ≡ old.store
    → (go : State → Does) → Yields {A = Unit {0}} (Err e) (makes_scope given true group self st go) (λ done. go st)
