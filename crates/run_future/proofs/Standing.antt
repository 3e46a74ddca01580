-- Where bodies go on, and how open lists and sources do.
use Rattle.std.proofs.Common.{◌≡◌, ℕ, zero, suc, ◌+◌, ◌-◌, Bool, true, false, not, ◌||◌, List, [], ◌∷◌, ◌++◌, Option, Some, None, refl, ap, sym, ◌∙◌}
use Rattle.std.specs.Prelude.{if◌then◌else◌, nat_lt, unwrap_or}
use Rattle.std.specs.Option.{option_map_or}
use Rattle.stx_base.specs.Course.{Ask, Halt, Ret, Same, and_then}
use Rattle.stx_base.specs.declared.fault.RunCode.TheVariants as code
use Rattle.stx_base.specs.declared.node.NodeTest.{NodeTest}
use Rattle.stx_base.proofs.Course.{funext, same_equal, same_then, unfolds}
use Rattle.event_buffers.specs.Buffers.{busy_at, read_at}
use Rattle.event_buffers.specs.Forest.{forest}
use Rattle.frame_stack.specs.declared.frame.Frame.{Frame}
use Rattle.frame_stack.specs.declared.frame.Frame.TheVariants.{Attributes, Body, Call, Loop, Pass, Region, Skip, Source as Source_frame}
use Rattle.instr_code.specs.Running.{Flat, as_flat, start_of}
use Rattle.instr_code.specs.Running as running
use Rattle.instr_code.specs.Steps.{renamed}
use Rattle.node_stack.specs.Path.{PathNode, is_attribute}
use Rattle.sheet_model.specs.declared.instr.Instr.{Instr}
use Rattle.sheet_model.specs.declared.instr.Instr.TheOpen.{Instr-F}
use Rattle.sheet_model.specs.declared.instr.Instr.TheViews.{out-Instr}
use Rattle.sheet_model.specs.declared.instr.When.{When}
use Rattle.var_store.specs.declared.bound.Bound.{Bound}
use Rattle.xml_events.specs.Document.{inner, outer}
use Rattle.xml_events.specs.Tree.{Begun, Cut, End, Forest, Fresh, Future, Mark, Nested, Told, Waiting, Why}
use Rattle.template_machine.specs.Acting.{asked_of, begins_reading, buffer_nodes, document_nodes, ends_reading, opens}
use Rattle.template_machine.specs.Bodies.{spent_in}
use Rattle.template_machine.specs.Declaring.{at_start}
use Rattle.template_machine.specs.Ending.{fault_at}
use Rattle.template_machine.specs.Fuel.{ended, skip, unready}
use Rattle.template_machine.specs.Giving.{StopsAt}
use Rattle.template_machine.specs.Job as job
use Rattle.template_machine.specs.Job.{Asked, Does, Given, Here, Job, Main, Nodes, Opened, Self, Siblings, Source, State, all_of, fresh, remains, single, sources_open, with_state}
use Rattle.template_machine.specs.Lists.{rest_of}
use Rattle.template_machine.specs.Meaning.{at_document, nodes}
use Rattle.template_machine.specs.Passing as passing
use Rattle.template_machine.specs.Putting.{unless_refused}
use Rattle.template_machine.specs.Seen.{named_of}
use Rattle.template_machine.specs.Still as still
use Rattle.template_machine.specs.Still.{Lists, Mode, Returns, Runs, counts_of, first_node, has_kids, trail_of}
use Rattle.template_machine.specs.Stepwise.{Flat_does, Working, begun, by_given, flat_code, lifted, steps_of}
use Rattle.template_machine.specs.Trail.{document}
use Rattle.template_machine.specs.Values.{got, setting, template_text}
use Rattle.template_machine.specs.declared.program.Program.{Program}
use Rattle.template_machine.specs.declared.run.Doing.TheVariants as doing
use Rattle.template_machine.proofs.Listing.{IsList}
use Rattle.run_future.specs.Remaining as future
use Rattle.run_future.specs.Remaining.{Ground, Reading, asked_at, asked_in, asks, list_taken, lists_left}
use Rattle.run_future.specs.Laws.{BufferBegins, DocumentBegins, Gives, IsOther, SourcesBegin, SourcesEnd, WaitsForDocument, WaitsForNodes, behind_source, within}
use Rattle.run_future.proofs.Held.{holds_nodes}

-- a ground with another head and other lists
abbrev pub moved : Ground → Option PathNode → Future → Ground
moved g head lists = record g { here = record g.here { head = head; lists = lists } }

-- where a body goes on
abbrev pub stands : Option Forest → Siblings → State → Here
stands kids left st = record { kids = kids; left = left; locals = []; state = st }

-- a call of the whole run
abbrev pub Asks : Type 0
Asks = Flat Job Working

module _ (given : Given) (p : Program) where
  -- The locals with which it goes on aren't seen.
  pub locals_unseen : (mode : Mode) (turns : List ℕ) (fs : List Frame) (g : Ground) (a : Here) (l : List Bound)
      → future.rest given p mode turns fs g (record a { locals = l }) ≡ future.rest given p mode turns fs g a
  locals_unseen mode turns [] g a l = refl
  locals_unseen mode turns (Loop turn ∷ fs) g a l = locals_unseen mode (turns ++ turn ∷ []) fs g a l
  locals_unseen Runs turns (Body template alternative pc locals level spent ∷ fs) g a l = refl
  locals_unseen Returns turns (Body template alternative pc locals level spent ∷ fs) g a l = refl
  locals_unseen Lists turns (Body template alternative pc locals level spent ∷ fs) g a l = refl
  locals_unseen Runs turns (Call procedure pc locals level ∷ fs) g a l = refl
  locals_unseen Returns turns (Call procedure pc locals level ∷ fs) g a l = refl
  locals_unseen Lists turns (Call procedure pc locals level ∷ fs) g a l = refl
  locals_unseen mode turns (Region asked level ∷ fs) g a l = refl
  locals_unseen mode turns (Attributes next asked ∷ fs) g a l = refl
  locals_unseen mode turns (Source_frame buffer next asked ∷ fs) g a l = refl
  locals_unseen mode turns (Skip depth ∷ fs) g a l = refl
  locals_unseen mode turns (Pass base level spent ∷ fs) g a l = refl

  -- who waits stands in the innermost source, whatever is to come of it
  pub waiter_source : (fs : List Frame) (g : Ground) → (future.waiter given p fs g).level.source ≡ g.here.source
  waiter_source [] g = refl
  waiter_source (Loop turn ∷ fs) g = waiter_source fs g
  waiter_source (Body template alternative pc locals level spent ∷ fs) g = refl
  waiter_source (Call procedure pc locals level ∷ fs) g = refl
  waiter_source (Region asked level ∷ fs) g = refl
  waiter_source (Attributes next asked ∷ fs) g = refl
  waiter_source (Source_frame buffer next asked ∷ fs) g = refl
  waiter_source (Skip depth ∷ fs) g = refl
  waiter_source (Pass base level spent ∷ fs) g = refl

  pub waiter_moved : (fs : List Frame) (g : Ground) (head : Option PathNode) (lists : Future) → future.waiter given p fs (moved g head lists) ≡ future.waiter given p fs g
  waiter_moved [] g head lists = refl
  waiter_moved (Loop turn ∷ fs) g head lists = waiter_moved fs g head lists
  waiter_moved (Body template alternative pc locals level spent ∷ fs) g head lists = refl
  waiter_moved (Call procedure pc locals level ∷ fs) g head lists = refl
  waiter_moved (Region asked level ∷ fs) g head lists = refl
  waiter_moved (Attributes next asked ∷ fs) g head lists = refl
  waiter_moved (Source_frame buffer next asked ∷ fs) g head lists = refl
  waiter_moved (Skip depth ∷ fs) g head lists = refl
  waiter_moved (Pass base level spent ∷ fs) g head lists = refl

  -- Where a body goes on: with an attribute, with siblings, or with children.

  abbrev pub left_gone : Ground → Siblings
  left_gone g = record { earlier = still.before_held given p g.here.head (counts_of (rest_of g.here.nodes)); coming = inner g.here.lists }

  abbrev pub left_kids : Ground → Siblings
  left_kids g = record { earlier = counts_of (rest_of g.here.nodes); coming = inner (outer g.here.lists) }

  abbrev pub spot : (attribute closed : Bool) → Ground → (Ground → Here → Flat_does) → State → Flat_does
  spot attribute closed g k st =
      if attribute
      then k g (single st)
      else if closed
      then k (list_taken g) (stands None (left_gone g) st)
      else k (list_taken (list_taken g)) (stands (Some (inner g.here.lists)) (left_kids g) st)

  -- what is so of each is so where it goes on
  by_spot : (P : Flat_does → Flat_does → Type 0) (spent : Bool) (g : Ground) (h k : Ground → Here → Flat_does) (st su : State)
      → ((head : Option PathNode) (lists : Future) (kids : Option Forest) (left : Siblings) → P (h (moved g head lists) (stands kids left st)) (k (moved g head lists) (stands kids left su)))
      → P (future.goes_on_at given p spent g h st) (future.goes_on_at given p spent g k su)
  by_spot P spent g h k st su e = by (is_attribute (Some (first_node g.here.nodes))) (spent || not (has_kids (first_node g.here.nodes)))
    where
      by : (attribute closed : Bool) → P (spot attribute closed g h st) (spot attribute closed g k su)
      by true closed = e g.here.head g.here.lists None job.alone
      by false true = e None (outer g.here.lists) None (left_gone g)
      by false false = e None (outer (outer g.here.lists)) (Some (inner g.here.lists)) (left_kids g)

  -- where a call comes first
  asks_first : (spent : Bool) (g : Ground) (h k : Ground → Here → Flat_does) (q : Asks) (F : State → State) (st : State)
      → ((head : Option PathNode) (lists : Future) (kids : Option Forest) (left : Siblings)
      → h (moved g head lists) (stands kids left st) ≡ Ask q (λ (w : Working). k (moved g head lists) (stands kids left (F w.here.state))))
      → future.goes_on_at given p spent g h st ≡ Ask q (λ (w : Working). future.goes_on_at given p spent g k (F w.here.state))
  asks_first spent g h k q F st e = by (is_attribute (Some (first_node g.here.nodes))) (spent || not (has_kids (first_node g.here.nodes)))
    where
      by : (attribute closed : Bool) → spot attribute closed g h st ≡ Ask q (λ (w : Working). spot attribute closed g k (F w.here.state))
      by true closed = e g.here.head g.here.lists None job.alone
      by false true = e None (outer g.here.lists) None (left_gone g)
      by false false = e None (outer (outer g.here.lists)) (Some (inner g.here.lists)) (left_kids g)

  -- Sources that begin.

  abbrev pub locals_of : List Frame → List Bound
  locals_of fs = named_of (still.locals_in given p fs)

  abbrev pub with_locals : List Frame → Here → Here
  with_locals fs a = record a { locals = locals_of fs }

  abbrev pub goes_behind : List Frame → Ground → Here → Flat_does
  goes_behind fs g a = future.rest given p Returns [] fs g a

  -- the nodes of a source are asked for, and then the instruction is over
  abbrev asks_nodes : List Frame → Source → Forest → State → Asks
  asks_nodes fs source list st =
      running.Given (Nodes (all_of list) (still.asked_by given p (asked_in given p fs) (still.locals_in given p fs) (fresh source) (document ∷ [])) st)

  abbrev reads : List Frame → Source → Forest → State → (State → State) → Ground → Flat_does
  reads fs source list st F g = Ask (asks_nodes fs source list st) (λ (w : Working). future.instr_over given p fs (goes_behind fs) g (F w.here.state))

  abbrev base_of : List Frame → ℕ
  base_of fs = (asks given p fs (at_document given)).base

  abbrev params_of : List Frame → List Bound
  params_of fs = (asks given p fs (at_document given)).params

  abbrev buffer_by : List Frame → (id : ℕ) → Source → State → Here → Does
  buffer_by fs id source st a =
      Ask (Nodes (all_of (forest (read_at (begins_reading id st).buffers id)))
      (asked_of given (asked_at given p fs) (base_of fs) (params_of fs) (Opened None (asked_at given p fs) (sources_open source + 1))) (begins_reading id st))
      (λ (b : Here). Ret (with_state a (ends_reading id b.state)))

  buffer_there : (fs : List Frame) (b : Ground) (st : State) (id : ℕ) (kids : Option Forest) (left : Siblings)
      → busy_at st.buffers id ≡ None → nat_lt (sources_open b.here.source) given.limits.sources ≡ true
      → lifted (buffer_nodes given (asked_at given p fs) (base_of fs) (params_of fs) (Some id) (future.waiter given p fs b) (with_locals fs (stands kids left st))) (goes_behind fs b)
      ≡ Ask (asks_nodes fs (Opened None (asked_at given p fs) (sources_open b.here.source + 1)) (forest (read_at (begins_reading id st).buffers id)) (begins_reading id st))
      (λ (w : Working). goes_behind fs b (stands kids left (ends_reading id w.here.state)))
  buffer_there fs b st id kids left free room =
      let at = asked_at given p fs in
      let a = with_locals fs (stands kids left st) in
      ap (λ o. lifted (unless_refused o at (opens given at (future.waiter given p fs b).level.source (buffer_by fs id (future.waiter given p fs b).level.source st a))) (goes_behind fs b)) free
      ∙ ap (λ source. lifted (opens given at source (buffer_by fs id source st a)) (goes_behind fs b)) (waiter_source fs b)
      ∙ ap (λ t. lifted (if t then buffer_by fs id b.here.source st a else Halt (fault_at code.TooManySources at)) (goes_behind fs b)) room
      ∙ ap (λ k. Ask (asks_nodes fs (Opened None at (sources_open b.here.source + 1)) (forest (read_at (begins_reading id st).buffers id)) (begins_reading id st)) k)
      (funext (λ (w : Working). locals_unseen Returns [] fs b (stands kids left (ends_reading id w.here.state)) (locals_of fs)))

  buffer_begins : (fs : List Frame) (g : Ground) (st : State) (id : ℕ) → BufferBegins given p fs g st id
  buffer_begins fs g st id free room =
      asks_first (unwrap_or (spent_in fs) true) g
      (λ b a. lifted (buffer_nodes given (asked_at given p fs) (base_of fs) (params_of fs) (Some id) (future.waiter given p fs b) (with_locals fs a)) (goes_behind fs b))
      (goes_behind fs)
      (asks_nodes fs (Opened None (asked_at given p fs) (sources_open g.here.source + 1)) (forest (read_at (begins_reading id st).buffers id)) (begins_reading id st))
      (ends_reading id) st
      (λ head lists kids left. buffer_there fs (moved g head lists) st id kids left free room)
      ∙ ap (λ list. reads fs (Opened None (asked_at given p fs) (sources_open g.here.source + 1)) list (begins_reading id st) (ends_reading id) g)
      (sym (holds_nodes (read_at (begins_reading id st).buffers id)))

  abbrev document_by : List Frame → (name : List ℕ) → (tree : Forest) → Source → Here → Does
  document_by fs name tree source a =
      Ask (Nodes (all_of tree) (asked_of given (asked_at given p fs) (base_of fs) (params_of fs) (Opened (Some name) (asked_at given p fs) (sources_open source + 1))) a.state)
      (λ (b : Here). Ret (with_state a b.state))

  document_there : (fs : List Frame) (b : Ground) (st : State) (name : List ℕ) (tree : Forest) (kids : Option Forest) (left : Siblings)
      → lifted (document_nodes given (asked_at given p fs) (base_of fs) (params_of fs) name (future.waiter given p fs b) (with_locals fs (stands kids left st)) (Some tree)) (goes_behind fs b)
      ≡ Ask (asks_nodes fs (Opened (Some name) (asked_at given p fs) (sources_open b.here.source + 1)) tree st) (λ (w : Working). goes_behind fs b (stands kids left w.here.state))
  document_there fs b st name tree kids left =
      ap (λ source. lifted (document_by fs name tree source (with_locals fs (stands kids left st))) (goes_behind fs b)) (waiter_source fs b)
      ∙ ap (λ k. Ask (asks_nodes fs (Opened (Some name) (asked_at given p fs) (sources_open b.here.source + 1)) tree st) k)
      (funext (λ (w : Working). locals_unseen Returns [] fs b (stands kids left w.here.state) (locals_of fs)))

  document_begins : (fs : List Frame) (g : Ground) (st : State) (name : List ℕ) (tree : Forest) → DocumentBegins given p fs g st name tree
  document_begins fs g st name tree =
      asks_first (unwrap_or (spent_in fs) true) g
      (λ b a. lifted (document_nodes given (asked_at given p fs) (base_of fs) (params_of fs) name (future.waiter given p fs b) (with_locals fs a) (Some tree)) (goes_behind fs b))
      (goes_behind fs) (asks_nodes fs (Opened (Some name) (asked_at given p fs) (sources_open g.here.source + 1)) tree st) (λ st. st) st
      (λ head lists kids left. document_there fs (moved g head lists) st name tree kids left)

  -- Runs that wait for a document.

  -- by its name the instruction opens what there is
  opens_named : (fs : List Frame) (g : Ground) (st : State) (name : List ℕ) (f : Instr-F Instr When) (self : Self) (kids : Option Forest) (left : Siblings)
      → Gives given p fs g st name f → self ≡ future.waiter given p fs g
      → future.opens given p (asks given p fs self) f self (with_locals fs (stands kids left st))
      ≡ document_nodes given (asked_at given p fs) (base_of fs) (params_of fs) name self (with_locals fs (stands kids left st)) (given.documents name)
  opens_named fs g st name (Instr-F.ProcessDocument href group params at) self kids left gives is =
      ap (λ r. got at r (λ name. document_nodes given (asked_at given p fs) (base_of fs) (params_of fs) name self (with_locals fs (stands kids left st)) (given.documents name)))
      (ap (λ (s : Self). template_text href (setting given s (with_locals fs (single st)))) is ∙ gives)
  opens_named fs g st name f self kids left gives is = absurd gives

  wants : (fs : List Frame) (g : Ground) (st : State) (name : List ℕ) (there : Option Forest) → WaitsForDocument given p fs g st name → given.documents name ≡ there
      → (head : Option PathNode) (lists : Future) (kids : Option Forest) (left : Siblings)
      → lifted (future.wanted given p fs (future.waiter given p fs (moved g head lists)) (with_locals fs (stands kids left st))) (goes_behind fs (moved g head lists))
      ≡ lifted (document_nodes given (asked_at given p fs) (base_of fs) (params_of fs) name (future.waiter given p fs (moved g head lists)) (with_locals fs (stands kids left st)) there) (goes_behind fs (moved g head lists))
  wants fs g st name there waits is head lists kids left =
      let b = moved g head lists in
      let self = future.waiter given p fs b in
      let a = with_locals fs (stands kids left st) in
      ap (λ o. lifted (option_map_or (λ i. future.opens given p (asks given p fs self) (out-Instr i) self a) o (Ret a)) (goes_behind fs b)) waits.is
      ∙ ap (λ x. lifted x (goes_behind fs b)) (opens_named fs g st name (out-Instr waits.instr) self kids left waits.gives (waiter_moved fs g head lists))
      ∙ ap (λ o. lifted (document_nodes given (asked_at given p fs) (base_of fs) (params_of fs) name self a o) (goes_behind fs b)) is

  waits_nodes : (fs : List Frame) (g : Ground) (st : State) (name : List ℕ) (tree : Forest) → WaitsForDocument given p fs g st name → given.documents name ≡ Some tree
      → future.waits_for given p (future.wanted given p fs) fs g st
      ≡ future.goes_on given p doing.List (Source_frame None 0 (asked_in given p fs) ∷ fs) (within (Opened (Some name) (asked_at given p fs) (sources_open g.here.source + 1)) (tree ∷ []) g) st
  waits_nodes fs g st name tree waits is =
      asks_first (unwrap_or (spent_in fs) true) g
      (λ b a. lifted (future.wanted given p fs (future.waiter given p fs b) (with_locals fs a)) (goes_behind fs b))
      (goes_behind fs) (asks_nodes fs (Opened (Some name) (asked_at given p fs) (sources_open g.here.source + 1)) tree st) (λ st. st) st
      (λ head lists kids left. wants fs g st name (Some tree) waits is head lists kids left ∙ document_there fs (moved g head lists) st name tree kids left)

  waits_none : (fs : List Frame) (g : Ground) (st : State) (name : List ℕ) → WaitsForDocument given p fs g st name → given.documents name ≡ None
      → future.waits_for given p (future.wanted given p fs) fs g st ≡ Halt (fault_at code.NoDocument (asked_at given p fs))
  waits_none fs g st name waits is =
      by_spot (λ x y. x ≡ Halt (fault_at code.NoDocument (asked_at given p fs))) (unwrap_or (spent_in fs) true) g
      (λ b a. lifted (future.wanted given p fs (future.waiter given p fs b) (with_locals fs a)) (goes_behind fs b))
      (goes_behind fs) st st
      (λ head lists kids left. wants fs g st name None waits is head lists kids left)

  -- Lists that end, and that go no further.

  abbrev code_of_run : Does → Flat_does
  code_of_run x = renamed (as_flat (steps_of given) (start_of (steps_of given) given.sheet)) (by_given (begun (at_document given) (single (at_start given))) x)

  ended_other : (source : Source) (m : Mark) (st : State) → IsOther source → ended given source m st ≡ st
  ended_other Main m st other = absurd other
  ended_other (Opened d at n) Fresh st other = refl
  ended_other (Opened d at n) Told st other = refl
  ended_other (Opened d at n) Begun st other = refl

  nodes_end : (earlier : NodeTest → ℕ) (list : Forest) (asked : Asked) (st : State) (m : Mark) (offset : ℕ) → list ≡ End m offset → IsOther asked.level.source
      → nodes given earlier list asked st ≡ Ret (remains (record { earlier = earlier; coming = End Begun 0 }) st)
  nodes_end earlier list asked st m offset is other =
      ap (λ l. nodes given earlier l asked st) is
      ∙ ap (λ t. Ret (remains (record { earlier = earlier; coming = End Begun 0 }) t)) (ended_other asked.level.source m st other)

  -- a call for nodes that gives what remains of them
  pub nodes_give : (left : Siblings) (asked : Asked) (st : State) (a : Here) (k : Working → Flat_does) → nodes given left.earlier left.coming asked st ≡ Ret a
      → Same (flat_code given) (Ask (running.Given (Nodes left asked st)) k) (k (record (begun (at_document given) (single (at_start given))) { here = a }))
  nodes_give left asked st a k e = unfolds (flat_code given) (running.Given (Nodes left asked st)) k (ap (λ x. and_then (code_of_run x) k) e)

  -- an instruction that is over
  pub is_over : (fs : List Frame) (g : Ground) (st : State) → future.instr_over given p fs (goes_behind fs) g st ≡ future.waits_for given p (λ self a. Ret a) fs g st
  is_over fs g st =
      by_spot (λ x y. x ≡ y) (unwrap_or (spent_in fs) true) g (goes_behind fs) (λ b a. lifted (Ret (with_locals fs a)) (goes_behind fs b)) st st
      (λ head lists kids left. sym (locals_unseen Returns [] fs (moved g head lists) (stands kids left st) (locals_of fs)))

  source_ends : (buffer : Option ℕ) (next asked : ℕ) (fs : List Frame) (g : Ground) (x : Reading) (xs : List Reading) (st : State) (m : Mark) (offset : ℕ)
      → IsOther g.here.source → inner g.here.lists ≡ End m offset
      → Same (flat_code given) (future.goes_on given p doing.List (Source_frame buffer next asked ∷ fs) (record g { around = x ∷ xs }) st)
      (future.waits_for given p (λ self a. Ret a) fs (record g { here = x; around = xs }) (behind_source buffer st))
  source_ends buffer next asked fs g x xs st m offset other over =
      let counts = still.before_held given p g.here.head (counts_of g.here.nodes) in
      let q = still.asked_by given p asked (still.locals_in given p fs) (fresh g.here.source) (document ∷ []) in
      same_then
      (nodes_give (record { earlier = counts; coming = inner g.here.lists }) q st (remains (record { earlier = counts; coming = End Begun 0 }) st)
      (λ (w : Working). future.instr_over given p fs (goes_behind fs) (record g { here = x; around = xs }) (behind_source buffer w.here.state))
      (nodes_end counts (inner g.here.lists) q st m offset over other))
      (same_equal (flat_code given) (is_over fs (record g { here = x; around = xs }) (behind_source buffer st)))

  nodes_stop : (earlier : NodeTest → ℕ) (list : Forest) (asked : Asked) (st : State) (why : Why) → StopsAt why list → nodes given earlier list asked st ≡ Halt (unready asked.level.source why)
  nodes_stop earlier (Cut w) asked st why same = ap (λ x. Halt (unready asked.level.source x)) same
  nodes_stop earlier (Nested Waiting e (Cut w) next) asked st why same = ap (λ x. Halt (unready asked.level.source x)) same
  nodes_stop earlier list asked st why same = absurd same

  asked_cut : (left : Siblings) (asked : Asked) (st : State) (k : Working → Flat_does) (why : Why) → StopsAt why left.coming
      → Same (flat_code given) (Ask (running.Given (Nodes left asked st)) k) (Halt (unready asked.level.source why))
  asked_cut left asked st k why cut =
      unfolds (flat_code given) (running.Given (Nodes left asked st)) k (ap (λ x. and_then (code_of_run x) k) (nodes_stop left.earlier left.coming asked st why cut))

  skip_stops : (list : Forest) (st : State) (go : State → Does) (why : Why) (c : Source) → StopsAt why list → skip given c list st go ≡ Halt (unready c why)
  skip_stops (Cut w) st go why c same = ap (λ x. Halt (unready c x)) same
  skip_stops (Nested Waiting e (Cut w) next) st go why c same = ap (λ x. Halt (unready c x)) same
  skip_stops list st go why c same = absurd same

  skip_cut : (depth : ℕ) (c : Source) (list : Forest) (f : Future) (st : State) (k : Future → State → Flat_does) (why : Why) → StopsAt why list
      → still.skips given p depth c list f st k ≡ Halt (unready c why)
  skip_cut zero c list f st k why cut = ap (λ x. lifted x (λ b. k f b.state)) (skip_stops list st (λ st. Ret (single st)) why c cut)
  skip_cut (suc n) c list f st k why cut = ap (λ x. lifted x (λ b. still.skips given p n c (inner f) (outer f) b.state k)) (skip_stops list st (λ st. Ret (single st)) why c cut)

  pub at_cut : (turns : List ℕ) (fs : List Frame) (g : Ground) (a : Here) (why : Why) → IsList fs → StopsAt why a.left.coming
      → Same (flat_code given) (future.rest given p Lists turns fs g a) (Halt (unready g.here.source why))
  at_cut turns [] g a why list cut = absurd list
  at_cut turns (Loop turn ∷ fs) g a why list cut = at_cut (turns ++ turn ∷ []) fs g a why list cut
  at_cut turns (Attributes next asked ∷ fs) g a why list cut = absurd list
  at_cut turns (Skip depth ∷ fs) g a why list cut = same_equal (flat_code given) (skip_cut depth g.here.source a.left.coming g.here.lists a.state _ why cut)
  at_cut turns (Body template alternative pc locals level spent ∷ fs) g a why list cut =
      asked_cut a.left (still.asked_by given p (pc - 1) locals (fresh g.here.source) (trail_of g.here.nodes)) a.state _ why cut
  at_cut turns (Call procedure pc locals level ∷ fs) g a why list cut =
      asked_cut a.left (still.asked_by given p (pc - 1) locals (fresh g.here.source) (trail_of g.here.nodes)) a.state _ why cut
  at_cut turns (Region asked level ∷ fs) g a why list cut =
      asked_cut a.left (still.asked_by given p asked (still.locals_in given p fs) (future.level_at given p level g.here.source (Region asked level ∷ fs)) (trail_of g.here.nodes)) a.state _ why cut
  at_cut turns (Source_frame buffer next asked ∷ fs) g a why list cut =
      asked_cut a.left (still.asked_by given p asked (still.locals_in given p fs) (fresh g.here.source) (document ∷ [])) a.state _ why cut
  at_cut turns (Pass base level spent ∷ fs) g a why list cut =
      asked_cut a.left (passing.passed_on given base g.here.source (trail_of g.here.nodes)) a.state _ why cut

pub sources_begin : SourcesBegin
sources_begin given p fs g st = (buffer_begins given p fs g st, document_begins given p fs g st)

pub waits_for_nodes : WaitsForNodes
waits_for_nodes given p fs g st name waits = (λ tree is. waits_nodes given p fs g st name tree waits is, waits_none given p fs g st name waits)

pub sources_end : SourcesEnd
sources_end given p buffer next asked fs g x xs st m offset other over = source_ends given p buffer next asked fs g x xs st m offset other over
