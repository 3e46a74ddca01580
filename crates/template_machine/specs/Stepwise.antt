-- What single operations of a body's code mean in a run.
use Rattle.std.specs.Prelude.{ℕ, zero, suc, ◌-◌, Bool, true, false, List, [], ◌∷◌, Option, Some, None, Result, Ok, Err, length, map, slice_get, take}
use Rattle.stx_base.specs.Course.{Course, Ret, Halt, Say, Ask, and_then}
use Rattle.stx_base.specs.declared.fault.Place.{Place}
use Rattle.stx_base.specs.declared.fault.RunCode.TheVariants as run_code
use Rattle.stx_base.specs.declared.name.Name.{Name}
use Rattle.stx_base.specs.declared.part.Part.{Part}
use Rattle.stx_base.specs.declared.part.Part.TheVariants as part
use Rattle.event_buffers.specs.Buffers.{busy_at, unclosed_at}
use Rattle.event_buffers.specs.declared.fault.BufferFault.{BufferFault}
use Rattle.instr_code.specs.Running.{Flat, flat}
use Rattle.instr_code.specs.Running as running
use Rattle.instr_code.specs.Steps.{Call, Fails, Holds, Other, Steps, Stops, Verdict}
use Rattle.node_stack.specs.Path.{Node, Document, Element}
use Rattle.sheet_model.specs.Parts.{place}
use Rattle.sheet_model.specs.declared.instr.Instr.{Instr}
use Rattle.sheet_model.specs.declared.instr.Instr.TheOpen.{Instr-F}
use Rattle.sheet_model.specs.declared.instr.Instr.TheViews.{out-Instr}
use Rattle.sheet_model.specs.declared.instr.When.{When}
use Rattle.stxpath_syntax.specs.declared.expr.Expr.{Expr}
use Rattle.stxpath_syntax.specs.declared.expr.Pattern.{Pattern}
use Rattle.stxpath_values.specs.Outcome as outcome
use Rattle.stxpath_values.specs.declared.fault.EvalFault.{EvalFault}
use Rattle.stxpath_values.specs.declared.value.Atom.{Atom}
use Rattle.stxpath_values.specs.declared.value.Atom.TheVariants as atom
use Rattle.template_machine.specs.Acting.{acts, attribute_of, begins_writing, copy_parts, ends_writing, put_parts, with_local}
use Rattle.template_machine.specs.Declaring.{at_start}
use Rattle.template_machine.specs.Ending.{Ending, Needs, Said, Spent, buffer_code, code_of, fault_at}
use Rattle.template_machine.specs.Finding.{buffer_seen, passing}
use Rattle.template_machine.specs.Fuel.{spend}
use Rattle.template_machine.specs.Job.{Does, Given, Here, Job, Self, single, with_state}
use Rattle.template_machine.specs.Lists.{rest_of}
use Rattle.template_machine.specs.Meaning.{at_document, code}
use Rattle.template_machine.specs.Passing.{start_parts}
use Rattle.template_machine.specs.Putting.{attribute_part, unless_refused}
use Rattle.template_machine.specs.Trail.{current}
use Rattle.template_machine.specs.Values.{atoms_of, computed_name, namespace_text, setting, template_text, truth_of}

-- Where the code of a body runs: whose body it is and where it stands; what is put aside, the innermost first, which is the name of an
-- element that is open, or the items of a loop; and how many items each open loop has had, the innermost first.
pub record Working : Type 0 where
  pub self : Self
  pub here : Here
  pub aside : List (List Atom)
  pub turns : List ℕ

abbrev pub stands_at : Working → Here → Working
stands_at w a = record w { here = a }

-- a body that begins
abbrev pub begun : Self → Here → Working
begun self a = record { self = self; here = a; aside = []; turns = [] }

abbrev pub Outcome : Type 0
Outcome = Verdict Working Said Ending

abbrev pub Working_does : Type 0
Working_does = Course (Call Job Working) Working Said Ending

-- what a run does, where its calls are no code
abbrev pub by_given : Working → Does → Working_does
by_given w (Ret a) = Ret (stands_at w a)
by_given w (Halt e) = Halt e
by_given w (Say o x) = Say o (by_given w x)
by_given w (Ask q k) = Ask (Other q) (λ v. by_given w (k v.here))

-- What a run does where some of its bodies run by their code.
abbrev pub Flat_does : Type 0
Flat_does = Course (Flat Job Working) Working Said Ending

-- what a run does, and then what follows
abbrev pub lifted : Does → (Here → Flat_does) → Flat_does
lifted (Ret a) k = k a
lifted (Halt e) k = Halt e
lifted (Say o x) k = Say o (lifted x k)
lifted (Ask q h) k = Ask (running.Given q) (λ w. lifted (h w.here) k)

abbrev pub with_said : Said → Outcome → Outcome
with_said o (Holds os w) = Holds (o ∷ os) w
with_said o (Fails os w) = Fails (o ∷ os) w
with_said o (Stops os e) = Stops (o ∷ os) e

-- what comes of something that makes no call, and then of what follows
abbrev pub outcome_of : Does → (Here → Outcome) → Outcome
outcome_of (Ret a) go = go a
outcome_of (Halt e) go = Stops [] e
outcome_of (Say o x) go = with_said o (outcome_of x go)
outcome_of (Ask q k) go = Stops [] Needs

-- a value, or else the run stops at a place
abbrev pub valued : {A : Type 0} → Place → Result A EvalFault → (A → Outcome) → Outcome
valued at (Ok x) go = go x
valued at (Err fault) go = Stops [] (fault_at (code_of fault) at)

-- a unit is spent, if one is left
abbrev pub spent : Place → Here → (Here → Outcome) → Outcome
spent at a go = elim a.state.fuel [ zero ↦ Stops [] (Spent at) | suc n ↦ go (with_state a (record a.state { fuel = n })) ]

abbrev pub taken_in : Option BufferFault → Place → Outcome → Outcome
taken_in None at go = go
taken_in (Some fault) at go = Stops [] (fault_at (buffer_code fault) at)

abbrev pub decides : Bool → Working → Outcome
decides true w = Holds [] w
decides false w = Fails [] w

-- What is put aside.

abbrev pub puts_aside : List Atom → Working → Working
puts_aside value w = record w { aside = value ∷ w.aside }

abbrev pub takes_up : Working → Working
takes_up w = record w { aside = rest_of w.aside }

abbrev pub last_aside : List (List Atom) → List Atom
last_aside [] = []
last_aside (value ∷ others) = value

-- a name as a value, and back
abbrev pub tag_of : Name → List Atom
tag_of n = atom.Chars n.uri ∷ atom.Chars n.local ∷ atom.Chars n.prefix ∷ []

abbrev pub tagged : List Atom → Name
tagged (atom.Chars uri ∷ atom.Chars local ∷ atom.Chars prefix ∷ []) = record { uri = uri; local = local; prefix = prefix }
tagged value = record { uri = []; local = []; prefix = [] }

-- Loops.

abbrev pub in_loop : Working → Working
in_loop w = record w { turns = 0 ∷ w.turns }

abbrev pub out_of_loop : Working → Working
out_of_loop w = record w { turns = rest_of w.turns }

abbrev pub turn_now : List ℕ → ℕ
turn_now [] = 0
turn_now (turn ∷ others) = turn

-- the last so many locals are taken off
abbrev pub without_last : (count : ℕ) → Here → Here
without_last count a = record a { locals = take (length a.locals - count) a.locals }

-- the part behind a copy of a node
abbrev pub copy_end : Node → List Part
copy_end (Element name attrs decls first) = part.End name ∷ []
copy_end n = []

-- a buffer that is written, if it is seen
abbrev pub buffer_opens : Place → Option ℕ → (clear : Bool) → Working → Here → Outcome
buffer_opens at None clear w a = Fails [] (stands_at w a)
buffer_opens at (Some id) clear w a =
    taken_in (busy_at a.state.buffers id) at (Holds [] (stands_at w (with_state a (begins_writing id clear a.state))))

-- and its end
abbrev pub buffer_closes : Place → Option ℕ → Working → Working_does
buffer_closes at None w = Ret w
buffer_closes at (Some id) w =
    by_given w (unless_refused (unclosed_at w.here.state.buffers id) at (Ret (with_state w.here (ends_writing id w.here.state))))

-- the items of a loop are put aside
abbrev pub walks : Place → Result (List Atom) EvalFault → Working → Working_does
walks at (Ok items) w = Ret (in_loop (puts_aside items w))
walks at (Err fault) w = Halt (fault_at (code_of fault) at)

-- a unit is spent
abbrev pub spends : Place → Working → Working_does
spends at w = by_given w (spend at w.here.state (λ st. Ret (with_state w.here st)))

-- a loop with a test goes round once more, for a unit, or is over
abbrev pub goes_round : Place → (holds : Bool) → Working → Outcome
goes_round at true w = spent at w.here (λ a. Holds [] (stands_at w a))
goes_round at false w = Fails [] (out_of_loop w)

-- the next turn of a loop over items, if one is left
abbrev pub turn_over : Place → Name → Option Atom → Working → Outcome
turn_over at name None w = Fails [] (out_of_loop (takes_up w))
turn_over at name (Some x) w =
    spent at w.here (λ a. Holds [] (record w { here = with_local name (x ∷ []) a; turns = suc (turn_now w.turns) ∷ rest_of w.turns }))

abbrev pub turn_by : Instr-F Instr When → Working → Outcome
turn_by (Instr-F.ForEachItem name select body at) w = turn_over at name (slice_get (last_aside w.aside) (turn_now w.turns)) w
turn_by x w = Fails [] w

module _ (given : Given) where
  -- an instruction without lists inside
  abbrev pub single_by : Instr-F Instr When → Working → Working_does
  single_by x w = by_given w (spend (place x) w.here.state (λ st. acts given x w.self (with_state w.here st)))

  -- The beginnings of instructions round a list.

  -- a copy of the current node: one that has no children has no list
  abbrev pub copy_opens : Place → Option Pattern → Working → Here → Node → Outcome
  copy_opens at attributes w a Document = Holds [] (stands_at w a)
  copy_opens at attributes w a (Element name attrs decls first) =
      outcome_of (put_parts given at (start_parts w.self.trail name (passing attributes attrs)) a) (λ b. Holds [] (stands_at w b))
  copy_opens at attributes w a n = outcome_of (put_parts given at (copy_parts n) a) (λ b. Fails [] (stands_at w b))

  -- an element whose name is computed, which is put aside
  abbrev pub element_opens : Place → Option Name → Working → Here → Outcome
  element_opens at None w a = Stops [] (fault_at run_code.BadName at)
  element_opens at (Some n) w a =
      outcome_of (put_parts given at (part.Start n [] ∷ []) a) (λ b. Holds [] (puts_aside (tag_of n) (stands_at w b)))

  abbrev pub opens_by : Instr-F Instr When → Working → Here → Outcome
  opens_by (Instr-F.Copy attributes body at) w a = copy_opens at attributes w a (current w.self.trail)
  opens_by (Instr-F.Element name namespace scope body at) w a =
      valued at (template_text name (setting given w.self a)) (λ text.
      valued at (namespace_text namespace (setting given w.self a)) (λ uri.
      element_opens at (computed_name true scope uri text) w a))
  opens_by (Instr-F.ResultBuffer name clear body at) w a = buffer_opens at (buffer_seen given.sheet w.self.group name) clear w a
  opens_by (Instr-F.Literal name attrs body at) w a =
      valued at (outcome.each (attribute_of (setting given w.self a)) attrs) (λ as_.
      outcome_of (put_parts given at (part.Start name [] ∷ map attribute_part as_) a) (λ b. Holds [] (stands_at w b)))
  opens_by x w a = Fails [] (stands_at w a)

  -- Their ends.

  abbrev pub closes_by : Instr-F Instr When → Working → Working_does
  closes_by (Instr-F.Copy attributes body at) w = by_given w (put_parts given at (copy_end (current w.self.trail)) w.here)
  closes_by (Instr-F.Element name namespace scope body at) w =
      by_given (takes_up w) (put_parts given at (part.End (tagged (last_aside w.aside)) ∷ []) w.here)
  closes_by (Instr-F.ResultBuffer name clear body at) w = buffer_closes at (buffer_seen given.sheet w.self.group name) w
  closes_by (Instr-F.Literal name attrs body at) w = by_given w (put_parts given at (part.End name ∷ []) w.here)
  closes_by x w = Ret w

  -- The beginning of a choose or a loop, behind its unit.

  abbrev pub begins_by : Instr-F Instr When → Working → Working_does
  begins_by (Instr-F.ForEachItem name select body at) w = walks at (atoms_of select (setting given w.self w.here)) w
  begins_by (Instr-F.While test body at) w = Ret (in_loop w)
  begins_by x w = Ret w

  -- Tests: an if spends its unit where its test is asked, and a loop one for each turn.

  abbrev pub asks : Place → Expr → Working → Outcome
  asks at test w = valued at (truth_of test (setting given w.self w.here)) (λ holds. decides holds w)

  abbrev pub arm_asks : Place → Option When → Working → Outcome
  arm_asks at None w = Fails [] w
  arm_asks at (Some x) w = asks at x.test w

  abbrev pub test_by : Instr-F Instr When → (arm : ℕ) → Working → Outcome
  test_by (Instr-F.If test body other at) arm w = spent at w.here (λ a. asks at test (stands_at w a))
  test_by (Instr-F.Choose whens other at) arm w = arm_asks at (slice_get whens arm) w
  test_by (Instr-F.While test body at) arm w =
      valued at (truth_of test (setting given w.self w.here)) (λ holds. goes_round at holds w)
  test_by x arm w = Fails [] w

  -- what single steps mean in a run
  abbrev pub steps_of : Steps Job Working Said Ending
  steps_of = record {
    given = λ q. by_given (begun (at_document given) (single (at_start given))) (code given q);
    single = λ i w. single_by (out-Instr i) w;
    begins = λ i w. and_then (spends (place (out-Instr i)) w) (begins_by (out-Instr i));
    opens = λ i w. spent (place (out-Instr i)) w.here (λ a. opens_by (out-Instr i) w a);
    closes = λ i w. closes_by (out-Instr i) w;
    test = λ i arm w. test_by (out-Instr i) arm w;
    turn = λ i w. turn_by (out-Instr i) w;
    drops = λ count w. stands_at w (without_last count w.here);
  }

  -- what one call does where bodies may run by their code
  abbrev pub flat_code : Flat Job Working → Flat_does
  flat_code = flat steps_of given.sheet
