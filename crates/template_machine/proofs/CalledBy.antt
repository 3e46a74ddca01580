-- A procedure is called: its body begins, and then the code goes on behind the call.
use Rattle.std.proofs.Common.{◌≡◌, ◌<◌, ◌≤◌, ◌⊎◌, inl, inr, ℕ, ◌+◌, ◌-◌, true, List, [], ◌∷◌, ◌++◌, length, reverse, Some, None, Ok, Err, IsSome, refl, ap, sym, subst, ◌∙◌}
use Rattle.std.specs.Prelude.{slice_get, unwrap_or}
use Rattle.std.specs.Option.{option_map}
use Rattle.std.proofs.lemmas.List.{length-map, reverse-append}
use Rattle.stx_base.specs.Course.{Ask, Halt, Ret, Same}
use Rattle.stx_base.proofs.Course.{same_equal, same_then}
use Rattle.stx_base.specs.declared.fault.Place.{Place}
use Rattle.stx_base.specs.declared.fault.RunCode.TheVariants.{Instances}
use Rattle.stx_base.specs.declared.limits.Limits.{Limits}
use Rattle.stx_base.specs.declared.name.Name.{Name}
use Rattle.frame_stack.specs.Change.{with_pc}
use Rattle.frame_stack.specs.Level.{instances}
use Rattle.frame_stack.specs.Stack.{IsFull, with_frames}
use Rattle.frame_stack.specs.declared.frame.Frame.{Frame}
use Rattle.frame_stack.specs.declared.frame.Frame.TheVariants.{Body, Call}
use Rattle.frame_stack.specs.declared.locals.Local.{Local}
use Rattle.instr_code.specs.Bare.{template_without_body}
use Rattle.instr_code.specs.Code.{code_of}
use Rattle.instr_code.specs.Running as codes
use Rattle.instr_code.specs.declared.code.Code.{Code}
use Rattle.instr_code.specs.declared.code.Op.TheVariants as op
use Rattle.node_stack.specs.Path.{kind_of}
use Rattle.node_stack.specs.Stack.{path}
use Rattle.node_stack.specs.Test.{passes}
use Rattle.result_writer.specs.Target.{Left}
use Rattle.sheet_model.specs.Parts.{handed, procedure_named}
use Rattle.sheet_model.specs.declared.instr.Instr.{Instr}
use Rattle.sheet_model.specs.declared.instr.Instr.TheOpen.{Instr-F}
use Rattle.sheet_model.specs.declared.instr.Instr.TheViews.{out-Instr}
use Rattle.sheet_model.specs.declared.instr.When.{When}
use Rattle.sheet_model.specs.declared.instr.WithParam.{WithParam}
use Rattle.sheet_model.specs.declared.sheet.Procedure.{Procedure}
use Rattle.sheet_model.specs.declared.sheet.Sheet.{Sheet}
use Rattle.stx_base.specs.declared.node.NodeTest.TheVariants as test
use Rattle.stxpath_values.specs.Outcome.{each}
use Rattle.stxpath_values.specs.declared.value.Atom.{Atom}
use Rattle.var_store.specs.declared.bound.Bound.{Bound}
use Rattle.xml_events.specs.Tree.{Future}
use Rattle.template_machine.specs.Acting.{act, acts, calls}
use Rattle.template_machine.specs.Behind.{MovesFrom, acts_in, instr_acts, lists_now, scene_now, whose_in}
use Rattle.template_machine.specs.Bodies.{level_in, on_body, pc_in, skipped_in, spent_in}
use Rattle.template_machine.specs.Called.{HasNames}
use Rattle.template_machine.specs.Declaring.{binds, hands}
use Rattle.template_machine.specs.Ending.{Faulted, Spent}
use Rattle.template_machine.specs.Finding.{procedure_at, procedure_seen}
use Rattle.template_machine.specs.Job as job
use Rattle.template_machine.specs.Job.{Asked, Does, Given, Here, Level, Self, State}
use Rattle.template_machine.specs.Lists.{rest_of}
use Rattle.template_machine.specs.Moments.{IsAtOp}
use Rattle.template_machine.specs.Ordinary.{HeadIsCounted, IsAlone}
use Rattle.template_machine.specs.Outcome.{AreNew}
use Rattle.template_machine.specs.Parameters.{Binds, CanBind, HasBound, here_with, named_values, self_on}
use Rattle.template_machine.specs.Passing.{back, instance}
use Rattle.template_machine.specs.Programs.{IsProgramOf}
use Rattle.template_machine.specs.Reached.{CallsProcedure}
use Rattle.template_machine.specs.Saying.{Gave, Proceeds, Yields, sight}
use Rattle.template_machine.specs.Seen.{named_of}
use Rattle.template_machine.specs.Shifting.{handed_value}
use Rattle.template_machine.specs.Sources.{held_node}
use Rattle.template_machine.specs.Steps.{test_in}
use Rattle.template_machine.specs.Still as still
use Rattle.template_machine.specs.Still.{Runs, Scene, first_node, nodes_of}
use Rattle.template_machine.specs.Stepwise.{Flat_does, Working, flat_code}
use Rattle.template_machine.specs.Stops.{fault}
use Rattle.template_machine.specs.Values.{got}
use Rattle.template_machine.specs.declared.program.Link.{Link}
use Rattle.template_machine.specs.declared.program.Program.{Program}
use Rattle.template_machine.specs.declared.run.Doing.TheVariants as doing
use Rattle.template_machine.specs.declared.run.Run.{Run}
use Rattle.template_machine.specs.declared.run.Running.{Running}
use Rattle.template_machine.specs.declared.run.Step.{Step}
use Rattle.template_machine.specs.declared.run.Step.TheVariants as step
use Rattle.template_machine.specs.declared.stop.Stop.{Stop}
use Rattle.template_machine.specs.declared.stop.Stop.TheVariants as stop
use Rattle.template_machine.proofs.EntersBody.{no_room, room_there, yields_full, yields_memory}
use Rattle.template_machine.proofs.Instructed.{goes_equal, goes_nowhere, hands_stop, stops_there, values_seen}
use Rattle.template_machine.proofs.Moving.{moves_pc}
use Rattle.template_machine.proofs.Named.{procedure_linked}
use Rattle.template_machine.proofs.Operated.{of_ok}
use Rattle.template_machine.proofs.Processed.{group_there, of_group, whose_group}
use Rattle.template_machine.proofs.Saying.{yields_by}
use Rattle.template_machine.proofs.Sighting.{fits_there, test_moves}
use Rattle.template_machine.proofs.Stilled.{goes_on_alike}
use Rattle.template_machine.proofs.Untouched.{call_frame, spent_in_moved, untouched_from, untouched_moved, untouched_to}
use Rattle.template_machine.proofs.Varying.{yields_any}
use Rattle.template_machine.proofs.CalledOn.{OfSheet, behind_call, body_code, call_enters, callee_is, of_sheet_is, on_same, seen_bare, some_same}

-- the name and the values of an instruction that calls a procedure
record ForCall (at : Place) (x : Instr-F Instr When) : Type 0 where
  name : Name
  params : List WithParam
  is : x ≡ Instr-F.CallProcedure name params at

for_call : (at : Place) (x : Instr-F Instr When) → CallsProcedure at x → ForCall at x
for_call at (Instr-F.CallProcedure name params own) same = record { name = name; params = params; is = ap (Instr-F.CallProcedure name params) same }
for_call at x asks = absurd asks

-- The instruction acts.

module _ (given : Given) (p : Program) (program : IsProgramOf given.sheet given.limits p) (r m : Run) (running : Running) (n : ℕ) (i : Instr) (spot : Place) (at : IsAtOp p r running (op.Do n))
    (is : slice_get p.code.instrs n ≡ Some i) (asks : CallsProcedure spot (out-Instr i)) where
  abbrev fs : List Frame
  fs = reverse r.frames.frames

  abbrev c : Scene
  c = scene_now given p r

  abbrev self : Self
  self = whose_in given p fs c

  abbrev own : Here → Here
  own a = record a { locals = named_of (still.locals_in given p fs) }

  abbrev called : Asked → Self → Here → Does
  called q s a = calls given spot q.params (procedure_at given.sheet (procedure_seen given.sheet s.group (for_call spot (out-Instr i) asks).name)) s a

  -- it hands its values first
  call_first : (a : Here) → act given i self a ≡ hands given spot (handed (out-Instr i)) self a (λ bs. called (record { at = spot; base = 0; params = bs; level = self.level; within = self.trail }) self a)
  call_first a =
      let x = for_call spot (out-Instr i) asks in
      ap (λ y. acts given y self a) x.is
      ∙ ap (λ y. hands given spot (handed y) self a (λ bs. calls given spot bs (procedure_at given.sheet (procedure_seen given.sheet self.group x.name)) self a)) (sym x.is)

  -- values that aren't given stop it
  pub call_stop : (e : Stop) (left : Left) (f : Future) (follows : Flat_does) → Gave {A = List (List Atom)} spot (Err e) (each (handed_value (sight p r)) (handed (out-Instr i)))
      → Proceeds given p {A = Step} (Err e) (instr_acts given p i running.pc r left f) [] follows
  call_stop e left f follows gave = hands_stop given p r m running n i spot at program is called Step e (λ a. call_first a) gave left f follows

  -- what it yields where it stops
  stops_so : (e : Stop) (left : Left) (f : Future) (follows : Flat_does) → ((a : Here) → a.state ≡ still.state_of given p r left → Yields {A = Unit {0}} (Err e) (act given i self (own a)) (λ done. Ret a))
      → Proceeds given p {A = Step} (Err e) (instr_acts given p i running.pc r left f) [] follows
  stops_so (stop.Fault fault) left f follows y =
      same_equal (flat_code given)
      (goes_equal given p (unwrap_or (spent_in fs) true) (first_node c.nodes) (rest_of c.nodes) (lists_now given p r f) (acts_in given p i running.pc [] fs c) (λ g a. Halt (Faulted fault)) (still.state_of given p r left)
      (λ g a q. stops_there given p i running.pc [] fs c g a (Faulted fault) at.pc (y a q))
      ∙ goes_nowhere given p (unwrap_or (spent_in fs) true) (first_node c.nodes) (rest_of c.nodes) (lists_now given p r f) (Halt (Faulted fault)) (still.state_of given p r left))
  stops_so (stop.Spent place) left f follows y =
      same_equal (flat_code given)
      (goes_equal given p (unwrap_or (spent_in fs) true) (first_node c.nodes) (rest_of c.nodes) (lists_now given p r f) (acts_in given p i running.pc [] fs c) (λ g a. Halt (Spent place)) (still.state_of given p r left)
      (λ g a q. stops_there given p i running.pc [] fs c g a (Spent place) at.pc (y a q))
      ∙ goes_nowhere given p (unwrap_or (spent_in fs) true) (first_node c.nodes) (rest_of c.nodes) (lists_now given p r f) (Halt (Spent place)) (still.state_of given p r left))
  stops_so stop.Memory left f follows y = (instr_acts given p i running.pc r left f, same_equal (flat_code given) refl)

  -- Its values are at hand, and the procedure is found.
  module _ (behind : reverse m.frames.frames ≡ on_body (with_pc (running.pc + 1)) fs) (link : Link) (linked : slice_get p.links n ≡ Some link) (q : Procedure) (there : slice_get p.sheet.procedures link.named ≡ Some q)
      (level start : ℕ) (level_is : level_in (reverse m.frames.frames) ≡ Some level) (params : List WithParam) (named : params ≡ handed (out-Instr i)) (vs : List (List Atom)) (gave : each (handed_value (sight p r)) params ≡ Ok vs) where
    abbrev k : ℕ
    k = link.named

    abbrev gs : List Frame
    gs = on_body (with_pc (running.pc + 1)) fs

    abbrev w : OfSheet given.sheet k q
    w = of_sheet_is given p program k q there

    abbrev frame : Frame
    frame = Call k start [] level

    level_there : level_in gs ≡ Some level
    level_there = ap level_in (sym behind) ∙ level_is

    found : procedure_at given.sheet (procedure_seen given.sheet self.group (for_call spot (out-Instr i) asks).name) ≡ Some w.whole
    found =
        let x = for_call spot (out-Instr i) asks in
        let g = group_there given p r running n i at is in
        let b = of_group given p r running n i at is in
        ap (λ o. procedure_at given.sheet (procedure_seen given.sheet o x.name)) (whose_group given p fs c running.pc at.pc ∙ ap (λ o. unwrap_or o 0) g.1)
        ∙ ap (procedure_at given.sheet)
        (sym (seen_bare given.sheet g.0 x.name) ∙ sym (ap (λ (s : Sheet). procedure_seen s g.0 x.name) program.sheet_is)
        ∙ procedure_linked p r at.well.steady running.pc n (op.Do n) i x.name at.is refl is (ap procedure_named x.is) b.body g.0 b.grouped (
          running.pc,
          op.Do n,
          record { start = b.within.start; starts = b.within.starts; behind = b.within.behind; before = b.within.before; stands = at.is },
          refl,
        )
        link linked)
        ∙ w.there

    abbrev bound : List Bound
    bound = named_values params vs

    abbrev begins : Here → Level → Does
    begins a more =
        let callee : Self = record self { group = w.whole.group; level = more } in
        binds given w.whole.params bound callee (record a { locals = [] }) (λ b. Ask (job.Body w.whole.body callee b) (λ b. Ret (back a b.state b)))

    to_instance : (a : Here) → a.state.variables ≡ r.store → act given i self (own a) ≡ instance given spot self.level (begins (own a))
    to_instance a store =
        values_seen given p r m running n i spot at program is called (λ a. call_first a) a store
        ∙ ap (λ ps. got spot (each (handed_value (sight p r)) ps) (λ us. calls given spot (named_values ps us) (procedure_at given.sheet (procedure_seen given.sheet self.group (for_call spot (out-Instr i) asks).name)) self (own a))) (sym named)
        ∙ ap (λ o. got spot o (λ us. calls given spot (named_values params us) (procedure_at given.sheet (procedure_seen given.sheet self.group (for_call spot (out-Instr i) asks).name)) self (own a))) gave
        ∙ ap (λ o. calls given spot bound o self (own a)) found

    count : self.level.instances ≡ still.instances_in given p level (reverse m.frames.frames)
    count = sym (ap (λ (s : Self). s.level.instances) (on_same given p 0 level running.pc (running.pc + 1) fs c at.pc level_there)) ∙ sym (ap (still.instances_in given p level) behind)

    -- there is no room for one more instance
    pub call_full : (e : Stop) (left : Left) (f : Future) (follows : Flat_does) → (e ≡ stop.Memory) ⊎ ((e ≡ fault Instances spot) × IsFull p.limits.instances frame m.frames.frames)
        → Proceeds given p {A = Step} (Err e) (instr_acts given p i running.pc r left f) [] follows
    call_full e left f follows (inl memory) = stops_so e left f follows (λ a same. yields_memory e memory (act given i self (own a)) (λ done. Ret a))
    call_full e left f follows (inr full) =
        stops_so e left f follows
        (λ a same.
        let its : full.1.0 ≡ level = some_same (sym full.1.1) in
        yields_by (Err e) (act given i self (own a)) (instance given spot self.level (begins (own a))) (λ done. Ret a) (to_instance a (ap (λ (s : State). s.variables) same))
        (yields_full e spot full.0 (instance given spot self.level (begins (own a))) (λ done. Ret a)
        (no_room given p program level m.frames.frames self.level count spot (begins (own a)) (subst (λ l. p.limits.instances ≤ instances l m.frames.frames) its full.1.2))))

    -- A frame of the procedure is pushed.
    module _ (t : Run) (rest : m ≡ record r { frames = m.frames }) (pushed : t ≡ record m { frames = with_frames (m.frames.frames ++ frame ∷ []) m.frames }) (room : instances level m.frames.frames < p.limits.instances) where
      on_top : reverse t.frames.frames ≡ frame ∷ gs
      on_top = ap (λ (x : Run). reverse x.frames.frames) pushed ∙ reverse-append m.frames.frames (frame ∷ []) ∙ ap (λ l. frame ∷ l) behind

      all_rest : t ≡ record r { frames = t.frames }
      all_rest =
          pushed ∙ ap (λ (x : Run). record x { frames = with_frames (m.frames.frames ++ frame ∷ []) m.frames }) rest
          ∙ ap (λ (x : Run). record r { frames = x.frames }) (sym pushed)

      abbrev callee : Self
      callee = self_on given p t frame gs

      callee_now : callee ≡ still.self_of given p level frame gs c
      callee_now = ap (λ (x : Run). still.self_of given p level frame gs (still.scene_by given p x.source.ahead x)) all_rest

      callee_so : (record self { group = w.whole.group; level = record self.level { instances = self.level.instances + 1 } }) ≡ callee
      callee_so =
          ap (λ g. record self { group = g; level = record self.level { instances = self.level.instances + 1 } })
          (sym (ap (λ o. unwrap_or (option_map (λ (y : Procedure). y.group) o) 0) there ∙ ap (λ (y : Procedure). y.group) w.same))
          ∙ sym (callee_is given p k start level running.pc (running.pc + 1) fs c at.pc level_there) ∙ sym callee_now

      abbrev after : Here → Here → Does
      after a b = Ask (job.Body w.whole.body callee b) (λ b. Ret (back (own a) b.state b))

      to_binds : (a : Here) → a.state.variables ≡ r.store → act given i self (own a) ≡ binds given q.params bound callee (here_with a []) (after a)
      to_binds a store =
          to_instance a store
          ∙ room_there given p program level m.frames.frames self.level count spot (begins (own a)) room
          ∙ ap (λ (s : Self). binds given w.whole.params bound s (record a { locals = [] }) (λ b. Ask (job.Body w.whole.body s b) (λ b. Ret (back (own a) b.state b)))) callee_so
          ∙ ap (λ ps. binds given ps bound callee (record a { locals = [] }) (after a)) (sym (ap (λ (y : Procedure). y.params) w.same))

      -- a parameter has no value
      pub call_unbound : (u : Run) (e : Stop) (left : Left) (f : Future) (follows : Flat_does) → Binds p q.params (λ given. named_values params vs) (Err e) t u
          → Proceeds given p {A = Step} (Err e) (instr_acts given p i running.pc r left f) [] follows
      call_unbound u e left f follows b =
          stops_so e left f follows
          (λ a same.
          let store : a.state.variables ≡ r.store = ap (λ (s : State). s.variables) same in
          yields_by (Err e) (act given i self (own a)) (binds given q.params bound callee (here_with a []) (after a)) (λ done. Ret a) (to_binds a store)
          (yields_any e (binds given q.params bound callee (here_with a []) (after a)) (λ done. after a a) (λ done. Ret a)
          (b given program frame gs start on_top refl a (store ∙ sym (ap (λ (x : Run). x.store) all_rest)) (after a))))

      -- and the body begins
      module _ (new : AreNew given) (fuel : r.fuel ≤ p.limits.fuel) (starts : slice_get p.code.starts (length p.sheet.templates + k) ≡ Some start) (u : Run) (h : HasBound p q.params [] (λ given. named_values params vs) t u) where
        acts_so : (a : Here) → a.state.variables ≡ r.store → act given i self (own a) ≡ Ask (job.Body w.whole.body callee (record a { locals = named_of h.locals })) (λ b. Ret (back (own a) b.state b))
        acts_so a store =
            to_binds a store ∙ h.does given program frame gs start on_top refl a (store ∙ sym (ap (λ (x : Run). x.store) all_rest)) (after a)

        abbrev number : ℕ
        number = length given.sheet.templates + k

        number_is : length p.sheet.templates ≡ length given.sheet.templates
        number_is = ap (λ (s : Sheet). length s.templates) program.sheet_is ∙ length-map given.sheet.templates template_without_body

        starts_there : slice_get (code_of given.sheet).starts number ≡ Some start
        starts_there = ap (λ (x : Code). slice_get x.starts number) (sym program.code_is) ∙ ap (λ l. slice_get p.code.starts (l + k)) (sym number_is) ∙ starts

        frames_now : reverse u.frames.frames ≡ Call k start h.locals level ∷ gs
        frames_now = h.behind frame gs on_top

        rest_now : u ≡ record r { frames = u.frames }
        rest_now = h.rest ∙ ap (λ (x : Run). record x { frames = u.frames }) all_rest

        pub call_goes : (left : Left) (f : Future) → Same (flat_code given) (instr_acts given p i running.pc r left f) (still.still given p u left f)
        call_goes left f =
            let spent = unwrap_or (spent_in fs) true in
            let n = first_node c.nodes in
            let above = rest_of c.nodes in
            let lists = lists_now given p r f in
            let st = still.state_of given p r left in
            let asked : Future → Here → Flat_does = λ g a.
            Ask (codes.Given (job.Body w.whole.body callee (record a { locals = named_of h.locals }))) (λ (v : Working). still.rest given p Runs [] gs c g v.here) in
            let runs : Future → Here → Flat_does = λ g. still.rest given p Runs [] (Call k start h.locals level ∷ gs) c g in
            same_then
            (same_equal (flat_code given)
            (goes_equal given p spent n above lists (acts_in given p i running.pc [] fs c) asked st
            (λ g a same.
            behind_call given p i running.pc [] fs c g a (job.Body w.whole.body callee (record a { locals = named_of h.locals })) at.pc (acts_so a (ap (λ (s : State). s.variables) same)))))
            (same_then
            (goes_on_alike given p spent n above lists asked runs st st []
            (λ g a same.
            subst (λ (s : State). Same (flat_code given) (asked g a) (runs g (record a { state = s }))) same
            (call_enters given p new number k start level running.pc w.whole.body h.locals fs c g callee a at.pc (body_code given.sheet k w.whole w.there) starts_there
            (subst (λ l. a.state.fuel ≤ l) (ap (λ (l : Limits). l.fuel) program.limits_are) (subst (λ (s : State). s.fuel ≤ p.limits.fuel) (sym same) fuel)) h.none callee_now)))
            (same_equal (flat_code given)
            (ap (λ o. still.goes_on_at given p (unwrap_or o true) n above lists runs st) (sym (spent_in_moved (with_pc (running.pc + 1)) (λ o. running.pc + 1) (λ l. l) (moves_pc (running.pc + 1)) fs running.pc at.pc))
            ∙ sym
            (ap (λ (x : Run). still.still given p x left f) rest_now
            ∙ ap (λ d. still.doing_now given p d r.source.ahead (reverse u.frames.frames) (record r { frames = u.frames }) left f) at.doing
            ∙ ap (λ l. still.doing_now given p doing.Body r.source.ahead l (record r { frames = u.frames }) left f) frames_now))))

-- So of a run.

call_alone : (p : Program) (r u : Run) (pc k start level : ℕ) (locals : List Local) → pc_in (reverse r.frames.frames) ≡ Some pc
    → IsSome (level_in (on_body (with_pc (pc + 1)) (reverse r.frames.frames))) → reverse u.frames.frames ≡ Call k start locals level ∷ on_body (with_pc (pc + 1)) (reverse r.frames.frames)
    → u ≡ record r { frames = u.frames } → IsAlone p r → IsAlone p u
call_alone p r u pc k start level locals at some frames rest alone = record {
  origin = ap (λ (x : Run). x.source.origin) rest ∙ alone.origin;
  outer = ap (λ (x : Run). x.outer.items) rest ∙ alone.outer;
  aside = ap (λ (x : Run). x.aside.items) rest ∙ alone.aside;
  held = ap (λ (x : Run). held_node x.source) rest ∙ alone.held;
  counted = λ e. subst HeadIsCounted (sym (ap (λ (x : Run). nodes_of x.source) rest)) (alone.counted (sym (ap (λ (x : Run). x.source.ahead) rest) ∙ e));
  whole = λ e depth skipped. absurd (let no : None ≡ Some depth = sym (ap skipped_in frames) ∙ skipped in cc);
  untouched =
      let gs = on_body (with_pc (pc + 1)) (reverse r.frames.frames) in
      untouched_to (Call k start locals level ∷ gs) (reverse u.frames.frames) (nodes_of r.source) (nodes_of u.source) (sym frames) (sym (ap (λ (x : Run). nodes_of x.source) rest))
      (untouched_from gs (Call k start locals level ∷ gs) (nodes_of r.source) (λ a e. sym (call_frame a k start level locals gs some) ∙ e)
      (untouched_moved (with_pc (pc + 1)) (λ o. pc + 1) (λ l. l) (moves_pc (pc + 1)) (reverse r.frames.frames) (nodes_of r.source) pc at alone.untouched));
  fuel = subst (λ n. n ≤ p.limits.fuel) (sym (ap (λ (x : Run). x.fuel) rest)) alone.fuel;
}

module _ (p : Program) (r m : Run) (running : Running) (n : ℕ) (i : Instr) (spot : Place) (at : IsAtOp p r running (op.Do n)) (is : slice_get p.code.instrs n ≡ Some i) (asks : CallsProcedure spot (out-Instr i)) where
  abbrev was : Given → Left → Future → Flat_does
  was given left f = instr_acts given p i running.pc r left f

  -- what stops, stops it
  stops_moves : (e : Stop) (s : Run) → ((given : Given) → IsProgramOf given.sheet given.limits p → (left : Left) (f : Future) → Proceeds given p {A = Step} (Err e) (was given left f) [] (still.still given p s left f))
      → MovesFrom p was (Err e) s
  stops_moves e s does = record { alone = tt; over = λ o. absurd (cc); does = λ given new program left f. does given program left f }

  pub call_ungiven : (e : Stop) (s : Run) → Gave {A = List (List Atom)} spot (Err e) (each (handed_value (sight p r)) (handed (out-Instr i))) → MovesFrom p was (Err e) s
  call_ungiven e s gave = stops_moves e s (λ given program left f. call_stop given p program r m running n i spot at is asks e left f (still.still given p s left f) gave)

  module _ (behind : reverse m.frames.frames ≡ on_body (with_pc (running.pc + 1)) (reverse r.frames.frames)) (link : Link) (linked : slice_get p.links n ≡ Some link) (q : Procedure) (there : slice_get p.sheet.procedures link.named ≡ Some q)
      (level start : ℕ) (level_is : level_in (reverse m.frames.frames) ≡ Some level) (params : List WithParam) (named : params ≡ handed (out-Instr i)) (vs : List (List Atom)) (gave : each (handed_value (sight p r)) params ≡ Ok vs) where
    pub call_no_room : (e : Stop) (s : Run) → (e ≡ stop.Memory) ⊎ ((e ≡ fault Instances spot) × IsFull p.limits.instances (Call link.named start [] level) m.frames.frames) → MovesFrom p was (Err e) s
    call_no_room e s full =
        stops_moves e s
        (λ given program left f. call_full given p program r m running n i spot at is asks behind link linked q there level start level_is params named vs gave e left f (still.still given p s left f) full)

    module _ (t : Run) (rest : m ≡ record r { frames = m.frames }) (pushed : t ≡ record m { frames = with_frames (m.frames.frames ++ Call link.named start [] level ∷ []) m.frames }) (room : instances level m.frames.frames < p.limits.instances) where
      top_now : reverse t.frames.frames ≡ Call link.named start [] level ∷ on_body (with_pc (running.pc + 1)) (reverse r.frames.frames)
      top_now = ap (λ (x : Run). reverse x.frames.frames) pushed ∙ reverse-append m.frames.frames (Call link.named start [] level ∷ []) ∙ ap (λ l. Call link.named start [] level ∷ l) behind

      rest_of_all : t ≡ record r { frames = t.frames }
      rest_of_all =
          pushed ∙ ap (λ (x : Run). record x { frames = with_frames (m.frames.frames ++ Call link.named start [] level ∷ []) m.frames }) rest
          ∙ ap (λ (x : Run). record r { frames = x.frames }) (sym pushed)

      pub call_can_bind : HasNames q.params → CanBind p q.params t
      call_can_bind names = record {
        names = names;
        apart = λ e. at.well.apart at.doing (sym (ap (λ (x : Run). x.source.ahead) rest_of_all) ∙ e);
        fits = λ x last.
            ap (λ o. passes (unwrap_or o test.Document) (kind_of x.node)) (ap (test_in p.sheet) top_now ∙ test_moves p.sheet (running.pc + 1) (reverse r.frames.frames))
            ∙ fits_there p r running (op.Do n) at x (sym (ap (λ (y : Run). slice_get (path y.source.stack).nodes (length (path y.source.stack).nodes - 1)) rest_of_all) ∙ last);
      }

      pub call_not_bound : (e : Stop) (u s : Run) → Binds p q.params (λ given. named_values params vs) (Err e) t u → MovesFrom p was (Err e) s
      call_not_bound e u s b =
          stops_moves e s
          (λ given program left f. call_unbound given p program r m running n i spot at is asks behind link linked q there level start level_is params named vs gave t rest pushed room u e left f (still.still given p s left f) b)

      pub call_moves : (u : Run) → IsAlone p r → slice_get p.code.starts (length p.sheet.templates + link.named) ≡ Some start → HasBound p q.params [] (λ given. named_values params vs) t u → MovesFrom p was (Ok step.More) u
      call_moves u alone starts h = record {
        alone =
            call_alone p r u running.pc link.named start level h.locals at.pc (subst (λ o. IsSome o) (sym (ap level_in (sym behind) ∙ level_is)) refl) (h.behind _ _ top_now)
            (h.rest ∙ ap (λ (x : Run). record x { frames = u.frames }) rest_of_all) alone;
        over = λ e. absurd (let no : step.More ≡ step.Over = of_ok (Ok step.More) refl e in cc);
        does = λ given new program left f.
            call_goes given p program r m running n i spot at is asks behind link linked q there level start level_is params named vs gave t rest pushed room new alone.fuel starts u h left f;
      }
