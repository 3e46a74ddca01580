-- What is left of a run: what waits, the innermost first, and what is still to come of the open lists.
use Rattle.std.specs.Prelude.{ℕ, Bool, true, false, List, [], ◌∷◌, Option, Some, None}
use Rattle.stx_base.specs.Course.{Ask, Halt, and_then}
use Rattle.stx_base.specs.declared.fault.Place.{Place}
use Rattle.stx_base.specs.declared.name.Attr.{Attr}
use Rattle.stx_base.specs.declared.name.Name.{Name}
use Rattle.stx_base.specs.declared.node.NodeTest.{NodeTest}
use Rattle.stx_base.specs.declared.part.Part.{Part}
use Rattle.sheet_model.specs.declared.instr.Instr.{Instr}
use Rattle.sheet_model.specs.declared.sheet.Template.{Template}
use Rattle.stxpath_syntax.specs.declared.expr.Expr.{Expr}
use Rattle.stxpath_values.specs.declared.value.Atom.{Atom}
use Rattle.var_store.specs.declared.bound.Bound.{Bound}
use Rattle.xml_events.specs.Document.{inner, outer}
use Rattle.xml_events.specs.Tree.{Forest, Future}
use Rattle.event_buffers.specs.Buffers.{unclosed_at}
use Rattle.template_machine.specs.Acting.{cut_to, ends_reading, ends_writing, turns}
use Rattle.template_machine.specs.Declaring.{ends_scope}
use Rattle.template_machine.specs.Fuel.{skip}
use Rattle.template_machine.specs.Job.{Asked, Does, Given, Here, Loop, Nodes, Self, Source, State, with_state}
use Rattle.template_machine.specs.Meaning.{body, ending_of}
use Rattle.template_machine.specs.Passing.{attributes, finish}
use Rattle.template_machine.specs.Putting.{puts, unless_refused}

-- Where a body goes on once a source or its attributes are over: whether its node's children are gone, what positions need of the
-- earlier nodes of its list, and its locals. Its children, if they aren't gone, and the siblings that remain are still to come.
pub record Spot : Type 0 where
  pub spent : Bool
  pub earlier : NodeTest → ℕ
  pub locals : List Bound

-- What waits until what is within it is over.
pub data Wait : Type 0 where
  -- the instructions that are left of a list, and the locals before the list
  Instructions : List Instr → Self → (before : List Bound) → Wait
  -- parts behind a list of instructions
  Parts : Place → List Part → Wait
  -- the turns that are left of a loop over items, and the locals before it; a loop with a test
  Turns : Place → Name → List Atom → List Instr → Self → (before : List Bound) → Wait
  Test : Expr → List Instr → Place → Self → Wait
  -- a buffer that is written
  Written : (id : ℕ) → Place → Wait
  -- the caller of a template's body, and of a procedure's
  Template_of : Template → (caller : List Bound) → Wait
  Procedure_of : (caller : List Bound) → Wait
  -- a node whose children are skipped unless they are gone, behind its template's body
  Finish : Source → Wait
  -- a list of nodes behind one of them
  Siblings_of : Asked → Wait
  -- a body whose node's children, or whose siblings, are processed
  Children_of : (earlier : NodeTest → ℕ) → (locals : List Bound) → Wait
  Region_of : (locals : List Bound) → Wait
  -- attributes, and a buffer or another document, that are processed
  Attributes_of : (earlier coming : List Attr) → Asked → Spot → Wait
  Source_of : (buffer : Option ℕ) → Spot → Wait
  -- a list that is passed over, in a node of a list
  Skip_of : Source → (earlier : NodeTest → ℕ) → Wait

-- what is still to come of the lists around the innermost one
abbrev pub beyond : (spent : Bool) → Future → Future
beyond true f = outer f
beyond false f = outer (outer f)

abbrev pub kids_to_come : (spent : Bool) → Future → Option Forest
kids_to_come true f = None
kids_to_come false f = Some (inner f)

abbrev pub left_to_come : (spent : Bool) → Future → Forest
left_to_come true f = inner f
left_to_come false f = inner (outer f)

-- where a body goes on
abbrev pub here_at : Spot → Future → State → Here
here_at s f st = record {
  kids = kids_to_come s.spent f;
  left = record { earlier = s.earlier; coming = left_to_come s.spent f };
  locals = s.locals;
  state = st;
}

-- a buffer that was read isn't read any more
abbrev pub source_over : (buffer : Option ℕ) → State → State
source_over None st = st
source_over (Some id) st = ends_reading id st

module _ (given : Given) where
  -- What is left to do, from what waits, the lists around the innermost one, and where the innermost goes on.
  abbrev pub rest : List Wait → Future → Here → Does
  rest [] f a = Halt (ending_of given a.state.result)
  rest (Instructions is self before ∷ ws) f a = and_then (body given is self a) (λ b. rest ws f (cut_to before b))
  rest (Parts at parts ∷ ws) f a = puts given at parts a.state (λ st. rest ws f (with_state a st))
  rest (Turns at name items is self before ∷ ws) f a = and_then (turns given at name items is self (cut_to before a)) (rest ws f)
  rest (Test test is at self ∷ ws) f a = Ask (Loop test is at self a) (rest ws f)
  rest (Written id at ∷ ws) f a =
      unless_refused (unclosed_at a.state.buffers id) at (rest ws f (with_state a (ends_writing id a.state)))
  rest (Template_of t caller ∷ ws) f a = rest ws f (record a { locals = caller; state = ends_scope given t.new_scope t.group a.state })
  rest (Procedure_of caller ∷ ws) f a = rest ws f (record a { locals = caller })
  rest (Finish source ∷ ws) f a = and_then (finish given source a) (rest ws f)
  rest (Siblings_of asked ∷ ws) f a = Ask (Nodes a.left asked a.state) (rest ws f)
  rest (Children_of earlier locals ∷ ws) f a =
      rest ws (outer f) (record { kids = None; left = record { earlier = earlier; coming = inner f }; locals = locals; state = a.state })
  rest (Region_of locals ∷ ws) f a = rest ws f (record { kids = None; left = a.left; locals = locals; state = a.state })
  rest (Attributes_of earlier coming asked spot ∷ ws) f a =
      attributes given earlier coming asked a.state (λ st. rest ws (beyond spot.spent f) (here_at spot f st))
  rest (Source_of buffer spot ∷ ws) f a = rest ws (beyond spot.spent f) (here_at spot f (source_over buffer a.state))
  rest (Skip_of source earlier ∷ ws) f a =
      and_then (finish given source a) (λ b.
      skip given source b.left.coming b.state (λ st.
      rest ws (outer f) (record { kids = None; left = record { earlier = earlier; coming = inner f }; locals = []; state = st })))
