-- What is left of a run is what the run still does: each thing that is done is done by going on with what waits.
use Rattle.stxpath_values.specs.declared.value.Atom.{Atom}
use Rattle.stxpath_syntax.specs.declared.expr.Expr.{Expr}
use Rattle.stx_base.specs.declared.name.Name.{Name}
use Rattle.event_buffers.specs.Buffers.{busy_at, read_at}
use Rattle.event_buffers.specs.Forest.{forest}
use Rattle.std.specs.Prelude.{Some, None, ◌≡◌, ℕ, List, [], ◌∷◌, ◌++◌, None, false, ◌+◌, nat_lt, true, Bool}
use Rattle.stx_base.specs.Course.{Ask, Ret, Same, and_then}
use Rattle.stx_base.specs.declared.fault.Place.{Place}
use Rattle.stx_base.specs.declared.name.Attr.{Attr}
use Rattle.stx_base.specs.declared.node.NodeTest.{NodeTest}
use Rattle.stx_base.specs.declared.part.Part.{Part}
use Rattle.node_stack.specs.Path.{Attribute}
use Rattle.sheet_model.specs.declared.instr.Instr.{Instr}
use Rattle.sheet_model.specs.declared.sheet.Template.{Template}
use Rattle.var_store.specs.declared.bound.Bound.{Bound}
use Rattle.xml_events.specs.Document.{inner, outer}
use Rattle.xml_events.specs.Tree.{Element, Forest, Future, Nested, Mark, Stage, End}
use Rattle.template_machine.specs.Acting.{cut_to, put_around, siblings_of, asked_of, begins_reading, begins_writing, buffer_nodes, document_nodes, turns, with_local, writes}
use Rattle.template_machine.specs.Declaring.{at_start, binds, makes_all}
use Rattle.template_machine.specs.Fuel.{begin, ended, is_entered, when_ready, spend}
use Rattle.template_machine.specs.Job.{Asked, Body, Given, Here, Self, Source, State, all_of, remains, single, with_state, Loop, Opened, sources_open}
use Rattle.template_machine.specs.Meaning.{asked_first, at_document, code, exec, first_here, meaning, siblings}
use Rattle.template_machine.specs.Passing.{children, enters, finish, node}
use Rattle.template_machine.specs.Putting.{puts}
use Rattle.template_machine.specs.Trail.{Trail, document, passing_among, stands}
use Rattle.template_machine.specs.Waiting.{Wait, Instructions, Parts, Template_of, Siblings_of, Children_of, Region_of, Attributes_of, Skip_of, Spot, beyond, here_at, rest, Source_of, Test, Turns, Written}

-- where a body goes on before its node's children
abbrev pub before_kids : (earlier : NodeTest → ℕ) → (locals : List Bound) → Future → State → Here
before_kids earlier locals f st = here_at (record { spent = false; earlier = earlier; locals = locals }) f st

-- the way to an attribute behind earlier ones
abbrev pub attribute_trail : Attr → (earlier : List Attr) → Asked → Trail
attribute_trail x earlier asked = stands (Attribute x) (passing_among earlier) asked.within

pub record Resumes (given : Given) : Type 0 where
  -- a run begins with nothing that waits
  pub starts :
      (list : Forest) (f : Future)
      → meaning given list
      ≡ makes_all given (at_document given) (at_start given) (λ st. and_then (node given (asked_first given) (document ∷ []) (first_here given list st)) (rest given [] f))
  -- the next instruction, and then what is left of its list; behind the last the locals are cut
  pub instruction :
      (i : Instr) (is : List Instr) (self : Self) (before : List Bound) (ws : List Wait) (f : Future) (a : Here)
      → rest given (Instructions (i ∷ is) self before ∷ ws) f a
      ≡ and_then (exec given i self a) (rest given (Instructions is self before ∷ ws) f)
  pub list_over :
      (self : Self) (before : List Bound) (ws : List Wait) (f : Future) (a : Here)
      → rest given (Instructions [] self before ∷ ws) f a
      ≡ rest given ws f (cut_to before a)
  -- a list of instructions begins
  pub list_begins :
      (is : List Instr) (self : Self) (ws : List Wait) (f : Future) (a : Here)
      → Same (code given) (Ask (Body is self a) (rest given ws f)) (rest given (Instructions is self a.locals ∷ ws) f a)
  -- parts around a list of instructions
  pub around :
      (at : Place) (before behind : List Part) (is : List Instr) (self : Self) (ws : List Wait) (f : Future) (a : Here)
      → and_then (put_around given at before is behind self a) (rest given ws f)
      ≡ puts given at before a.state (λ st. Ask (Body is self (with_state a st)) (rest given (Parts at behind ∷ ws) f))
  -- a template's body is entered
  pub enters_body :
      (handed : List Bound) (t : Template) (self : Self) (ws : List Wait) (f : Future) (a : Here) (st : State)
      → enters given handed t self a (rest given ws f) st
      ≡ binds given t.params handed self (record a { locals = []; state = st }) (λ b. Ask (Body t.body self b) (rest given (Template_of t a.locals ∷ ws) f))
  -- children are processed, and their list is over before the body goes on in the list around it
  pub kids :
      (twice : Place) (asked : Asked) (earlier : NodeTest → ℕ) (locals : List Bound) (ws : List Wait) (f : Future) (st : State)
      → and_then (children twice asked (before_kids earlier locals f st) Ret) (rest given ws (beyond false f))
      ≡ rest given (Siblings_of asked ∷ Children_of earlier locals ∷ ws) (outer f) (remains (all_of (inner f)) st)
  -- siblings are processed, once the children are gone, and the body goes on with what remains of them
  pub region :
      (asked : Asked) (ws : List Wait) (f : Future) (a : Here)
      → and_then (siblings_of given asked a) (rest given ws f)
      ≡ and_then (finish given asked.level.source a) (rest given (Siblings_of asked ∷ Region_of a.locals ∷ ws) f)
  -- a head that is taken, and then the list behind it
  pub taken :
      (asked : Asked) (trail : Trail) (ws : List Wait) (f : Future) (a : Here)
      → and_then (and_then (node given asked trail a) (siblings asked)) (rest given ws f)
      ≡ and_then (node given asked trail a) (rest given (Siblings_of asked ∷ ws) f)
  -- an attribute, and then those behind it
  pub attribute :
      (x : Attr) (earlier coming : List Attr) (asked : Asked) (spot : Spot) (ws : List Wait) (f : Future) (a : Here)
      → rest given (Attributes_of earlier (x ∷ coming) asked spot ∷ ws) f a
      ≡ and_then (node given asked (attribute_trail x earlier asked) (single a.state)) (rest given (Attributes_of (earlier ++ x ∷ []) coming asked spot ∷ ws) f)
  -- an element in a list that is passed over, and then what is behind it
  pub passed_over :
      (source : Source) (stage : Stage) (e : Element) (list next : Forest) (earlier nodes : NodeTest → ℕ) (locals : List Bound)
      (ws : List Wait) (f : Future) (st : State)
      → rest given (Skip_of source earlier ∷ ws) f (record { kids = None; left = record { earlier = nodes; coming = Nested stage e list next }; locals = locals; state = st })
      ≡ when_ready source stage list (begin given source (is_entered stage) st (λ t. rest given (Skip_of source (λ t. 0) ∷ Skip_of source earlier ∷ ws) (next ∷ f) (remains (all_of list) t)))
  -- and its end
  pub passed_end :
      (source : Source) (m : Mark) (offset : ℕ) (earlier nodes : NodeTest → ℕ) (locals : List Bound) (ws : List Wait)
      (f : Future) (st : State)
      → rest given (Skip_of source earlier ∷ ws) f (record { kids = None; left = record { earlier = nodes; coming = End m offset }; locals = locals; state = st })
      ≡ rest given ws (outer f) (record { kids = None; left = record { earlier = earlier; coming = inner f }; locals = []; state = ended given source m st })
  -- a turn of a loop with a test, and then the loop again
  pub test_turn :
      (test : Expr) (is : List Instr) (at : Place) (self : Self) (ws : List Wait) (f : Future) (a : Here)
      → and_then (Ask (Body is self a) (λ b. Ask (Loop test is at self b) Ret)) (rest given ws f)
      ≡ Ask (Body is self a) (rest given (Test test is at self ∷ ws) f)
  -- a turn of a loop over items, and then the turns that are left
  pub item_turn :
      (at : Place) (name : Name) (x : Atom) (xs : List Atom) (is : List Instr) (self : Self) (ws : List Wait) (f : Future)
      (a : Here)
      → and_then (turns given at name (x ∷ xs) is self a) (rest given ws f)
      ≡ spend at a.state (λ st. Ask (Body is self (with_local name (x ∷ []) (with_state a st))) (rest given (Turns at name xs is self a.locals ∷ ws) f))
  -- a buffer is written by a list of instructions
  pub writing :
      (at : Place) (id : ℕ) (clear : Bool) (is : List Instr) (self : Self) (ws : List Wait) (f : Future) (a : Here)
      → busy_at a.state.buffers id ≡ None
      → and_then (writes given at (Some id) clear is self a) (rest given ws f)
      ≡ Ask (Body is self (with_state a (begins_writing id clear a.state))) (rest given (Written id at ∷ ws) f)
  -- a buffer's nodes are processed, and another document's, and the body goes on where it was
  pub reading :
      (at : Place) (base : ℕ) (handed : List Bound) (id : ℕ) (self : Self) (spot : Spot) (ws : List Wait) (f : Future)
      (st : State)
      → busy_at st.buffers id ≡ None
      → nat_lt (sources_open self.level.source) given.limits.sources ≡ true
      → let asked = asked_of given at base handed (Opened None at (sources_open self.level.source + 1)) in
      and_then (buffer_nodes given at base handed (Some id) self (here_at spot f st)) (rest given ws (beyond spot.spent f))
      ≡ rest given (Siblings_of asked ∷ Source_of (Some id) spot ∷ ws) f (remains (all_of (forest (read_at (begins_reading id st).buffers id))) (begins_reading id st))
  pub other_document :
      (at : Place) (base : ℕ) (handed : List Bound) (name : List ℕ) (self : Self) (spot : Spot) (ws : List Wait) (f : Future)
      (st : State) (list : Forest)
      → let asked = asked_of given at base handed (Opened (Some name) at (sources_open self.level.source + 1)) in
      and_then (document_nodes given at base handed name self (here_at spot f st) (Some list)) (rest given ws (beyond spot.spent f))
      ≡ rest given (Siblings_of asked ∷ Source_of None spot ∷ ws) f (remains (all_of list) st)
