-- What a run of a sheet does with a document.
use Rattle.sheet_model.specs.Parts.{place}
use Rattle.std.specs.Prelude.{ℕ, Bool, true, false, not, ◌||◌, if◌then◌else◌, List, [], ◌∷◌, Option, Some, None}
use Rattle.std.specs.List.{list_any}
use Rattle.stx_base.specs.Course.{Ret, Halt, Ask, and_then}
use Rattle.stx_base.specs.declared.fault.RunCode.TheVariants as run_code
use Rattle.stx_base.specs.declared.node.NodeTest.{NodeTest}
use Rattle.stx_base.specs.declared.node.NodeTest.TheVariants as test
use Rattle.node_stack.specs.Path.{Node}
use Rattle.result_writer.specs.Target.{Left, is_closed}
use Rattle.sheet_model.specs.declared.instr.Instr.{Instr, out-Instr}
use Rattle.xml_events.specs.Tree.{Begun, Entered, Forest, End, Cut, Single, Nested}
use Rattle.template_machine.specs.Acting.{act, cut_to, loop}
use Rattle.template_machine.specs.Declaring.{at_start, makes_all}
use Rattle.template_machine.specs.Ending.{Ending, Done, fault_at}
use Rattle.template_machine.specs.Fuel.{begin, ended, is_begun, is_entered, spend, unready, when_ready}
use Rattle.template_machine.specs.Job.{Asked, Body, Condition, Does, Given, Here, Job, Loop, Main, Nodes, Self, State, fresh, remains, single, with_state}
use Rattle.template_machine.specs.Passing.{group_at, node}
use Rattle.template_machine.specs.Trail.{Trail, document, element_node, first_by, leaf_node, one_more, stands, without_place}
use Rattle.template_machine.specs.Values.{fits_there, pattern_setting}

-- where a node stands that is taken from a list: its children, and the siblings behind it
abbrev pub taken : Node → (kids : Option Forest) → (next : Forest) → (earlier : NodeTest → ℕ) → State → Here
taken n kids next earlier st =
    record { kids = kids; left = record { earlier = one_more n earlier; coming = next }; locals = []; state = st }

-- the siblings that remain of a list
abbrev pub siblings : Asked → Here → Does
siblings asked a = Ask (Nodes a.left asked a.state) Ret

module _ (given : Given) where
  -- an instruction: its unit of fuel, and then what it does
  abbrev pub exec : Instr → Self → Here → Does
  exec i self a = spend (place (out-Instr i)) a.state (λ st. act given i self (with_state a st))

  -- instructions in order
  abbrev pub body : List Instr → Self → Here → Does
  body [] self a = Ret a
  body (i ∷ is) self a = and_then (exec i self a) (body is self)

  -- the locals of a list last to its end
  abbrev pub list : List Instr → Self → Here → Does
  list is self a = and_then (body is self a) (λ b. Ret (cut_to a.locals b))

  -- the current node of a trail ends a region
  abbrev pub ends_by : Trail → State → Condition → Bool
  ends_by trail st c =
      let g = pattern_setting given trail st c.group in not (fits_there g true c.going) || fits_there g false c.until

  -- it ends some region of its level: all of them are asked anew
  abbrev pub ends_some : List Condition → Trail → State → Bool
  ends_some conditions trail st = list_any (ends_by trail st) conditions

  -- A head that was begun: where it ends a region the list is given back, and else the head is taken, and then the siblings that remain.
  abbrev pub head : Node → (kids : Option Forest) → (list next : Forest) → (earlier : NodeTest → ℕ) → Asked → State → Does
  head n kids list next earlier asked st =
      let trail = stands n earlier asked.within in
      if ends_some asked.level.conditions trail st
      then Ret (remains (record { earlier = earlier; coming = list }) st)
      else and_then (node given asked trail (taken n kids next earlier st)) (siblings asked)

  -- The nodes of a list that are still to come, behind earlier ones: what remains of it. Of a head or an end that was begun it isn't kept
  -- where it stood in its document: only what wasn't begun has faults there.
  abbrev pub nodes : (earlier : NodeTest → ℕ) → Forest → Asked → State → Does
  nodes earlier (End m offset) asked st =
      Ret (remains (record { earlier = earlier; coming = End Begun 0 }) (ended given asked.level.source m st))
  nodes earlier (Cut why) asked st = Halt (unready asked.level.source why)
  nodes earlier (Single m leaf next) asked st =
      begin given asked.level.source (is_begun m) st (λ st.
      head (leaf_node leaf) None (Single Begun (without_place leaf) next) next earlier asked st)
  nodes earlier (Nested stage e kids next) asked st =
      when_ready asked.level.source stage kids (begin given asked.level.source (is_entered stage) st (λ st.
      head (element_node stage e kids) (Some kids) (Nested (Entered (first_by stage kids)) (record e { offset = 0 }) kids next) next earlier asked st))

  -- what one call does
  abbrev pub code : Job → Does
  code (Nodes left asked st) = nodes left.earlier left.coming asked st
  code (Body is self a) = list is self a
  code (Loop test is at self a) = loop given test is at self a

  -- the variables of all groups are made at the document node, where no template runs
  abbrev pub at_document : Self
  at_document = record { group = 0; test = test.Document; active = []; level = fresh Main; trail = document ∷ [] }

  -- the document node is asked for by the root group
  abbrev pub asked_first : Asked
  asked_first = record { at = group_at given 0; base = 0; params = []; level = fresh Main; within = [] }

  -- the document node, with its children, before anything is put
  abbrev pub first_here : Forest → State → Here
  first_here tree st = record (single st) { kids = Some tree }

  -- a run is done only where no element of the output is open
  abbrev pub ending_of : Left → Ending
  ending_of l = if is_closed l.elements l.held then Done else fault_at run_code.UnclosedResult (group_at given 0)

  -- What a run does: it makes all variables, and takes the document node.
  abbrev pub meaning : Forest → Does
  meaning tree =
      makes_all given at_document (at_start given) (λ st.
      and_then (node given asked_first (document ∷ []) (first_here tree st)) (λ a. Halt (ending_of a.state.result)))
