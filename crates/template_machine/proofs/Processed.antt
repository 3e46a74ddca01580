-- Instructions that process the attributes of a node, or its children.
use Rattle.std.proofs.Common.{◌≡◌, ◌≢◌, ℕ, zero, suc, ◌+◌, ◌≤◌, Bool, true, false, not, ◌||◌, ◌⊎◌, inl, inr, List, [], ◌∷◌, ◌++◌, drop, length, map, reverse, take, Option, Some, None, Ok, Err, refl, ap, sym, subst, ◌∙◌, arith}
use Rattle.std.specs.Prelude.{if◌then◌else◌, slice_get, unwrap_or, IsSome}
use Rattle.std.specs.Option.{option_and_then, option_map, option_map_or}
use Rattle.std.proofs.lemmas.List.{length-map, reverse-append}
use Rattle.std.proofs.lemmas.Option.{slice_get-map}
use Rattle.stx_base.specs.Course.{Ret}
use Rattle.stx_base.proofs.Course.{funext, same_equal}
use Rattle.stx_base.specs.declared.fault.Place.{Place}
use Rattle.stx_base.specs.declared.fault.RunCode.TheVariants.{Instances}
use Rattle.stx_base.specs.declared.name.Attr.{Attr}
use Rattle.stx_base.specs.declared.name.Name.{Name}
use Rattle.frame_stack.specs.Stack.{IsFull, with_frames}
use Rattle.frame_stack.specs.declared.frame.Frame.{Frame}
use Rattle.frame_stack.specs.declared.frame.Frame.TheVariants.{Attributes, Body, Call, Loop, Pass, Region, Skip, Source}
use Rattle.instr_code.specs.Bare.{without_bodies}
use Rattle.instr_code.specs.declared.code.Op.TheVariants as op
use Rattle.node_stack.specs.Path as paths
use Rattle.node_stack.specs.Path.{Node, Document, Element, Chars, CData, Comment, Pi, Attribute, PathNode, is_attribute}
use Rattle.node_stack.specs.Stack.{path}
use Rattle.result_writer.specs.Target.{Left}
use Rattle.sheet_model.specs.Parts.{base_named, handed, place}
use Rattle.sheet_model.specs.declared.instr.Instr.{Instr}
use Rattle.sheet_model.specs.declared.instr.Instr.TheOpen.{Instr-F}
use Rattle.sheet_model.specs.declared.instr.Instr.TheViews.{out-Instr}
use Rattle.sheet_model.specs.declared.instr.When.{When}
use Rattle.sheet_model.specs.declared.instr.WithParam.{WithParam}
use Rattle.sheet_model.specs.declared.sheet.Procedure.{Procedure}
use Rattle.sheet_model.specs.declared.sheet.Sheet.{Sheet}
use Rattle.sheet_model.specs.declared.sheet.Template.{Template}
use Rattle.var_store.specs.declared.bound.Bound.{Bound}
use Rattle.xml_events.specs.Document.{inner, outer}
use Rattle.xml_events.specs.Tree.{Future}
use Rattle.template_machine.specs.Acting.{act, acts, asked_within, attributes_of}
use Rattle.template_machine.specs.Behind.{MovesFrom, asks_at, handed_acts, instr_acts, instr_done, lists_now, scene_now, whose_in}
use Rattle.template_machine.specs.Bodies.{frame_in, level_in, pc_in, skipped_in, spent_in}
use Rattle.template_machine.specs.Declaring.{hands}
use Rattle.template_machine.specs.Finding.{base_of}
use Rattle.template_machine.specs.Job.{Asked, Does, Given, Here, Self, State, fresh, single, with_state}
use Rattle.template_machine.specs.Contexts.{HasStations, Station}
use Rattle.template_machine.specs.Lists.{rest_of}
use Rattle.template_machine.specs.Moments.{IsAtOp}
use Rattle.template_machine.specs.Ordinary.{AreUntouched, HeadIsCounted, IsAlone, is_on_attribute, spent_of}
use Rattle.template_machine.specs.Passing.{attributes}
use Rattle.template_machine.specs.Programs.{IsProgramOf, IsWithin, done_by, groups_of, link_at, link_of}
use Rattle.template_machine.specs.Reached.{AsksForAttributes}
use Rattle.template_machine.specs.Seen.{named_of}
use Rattle.template_machine.specs.Shifting.{Hands}
use Rattle.template_machine.specs.Sources.{held_node, is_in_element}
use Rattle.template_machine.specs.Standing.{Standing, standing_of}
use Rattle.template_machine.specs.Steps.{group_of}
use Rattle.template_machine.specs.Stops.{fault as stopped_by}
use Rattle.template_machine.specs.Well.{AreWell}
use Rattle.template_machine.specs.Working.{Awaits}
use Rattle.template_machine.specs.Still as still
use Rattle.template_machine.specs.Still.{Returns, Scene, first_node, nodes_of, trail_of}
use Rattle.template_machine.specs.Stepwise.{Flat_does, flat_code, lifted}
use Rattle.template_machine.specs.Trail.{current}
use Rattle.template_machine.specs.declared.program.Link.{Link}
use Rattle.template_machine.specs.declared.program.Program.{Program}
use Rattle.template_machine.specs.declared.run.Doing.TheVariants as doing
use Rattle.template_machine.specs.declared.run.Run.{Run}
use Rattle.template_machine.specs.declared.run.Running.{Running}
use Rattle.template_machine.specs.declared.run.Step.{Step}
use Rattle.template_machine.specs.declared.run.Step.TheVariants as step
use Rattle.template_machine.specs.declared.source.Ahead.TheVariants as ahead
use Rattle.template_machine.specs.declared.stop.Stop.{Stop}
use Rattle.template_machine.specs.declared.stop.Stop.TheVariants as stop
use Rattle.template_machine.proofs.Arms.{seen_at}
use Rattle.template_machine.proofs.Finished.{attribute_now, current_there, first_now, moves_by, path_still}
use Rattle.template_machine.proofs.Instructed.{goes_equal, hands_ok, hands_stop, instr_there}
use Rattle.template_machine.proofs.Localized.{Leaves, attributes_leave, attributes_then}
use Rattle.template_machine.proofs.Operated.{of_ok}
use Rattle.template_machine.proofs.Operating.{at_place, body_goes}
use Rattle.template_machine.proofs.Alone.{handed_alone}
use Rattle.template_machine.proofs.Beside.{element_node}
use Rattle.template_machine.proofs.Untouched.{own_spent, untouched_to}
use Rattle.template_machine.proofs.Ways.{way_here}

-- The base group of what an instruction asks for is that of its body's group.

left_of : {A : Type 0} (xs ys : List A) (n : ℕ) (x : A) → slice_get xs n ≡ Some x → slice_get (xs ++ ys) n ≡ Some x
left_of [] ys n x e = absurd (cc)
left_of (y ∷ xs) ys zero x e = e
left_of (y ∷ xs) ys (suc n) x e = left_of xs ys n x e

pub right_of : {A : Type 0} (xs ys : List A) (n : ℕ) (x : A) → slice_get ys n ≡ Some x → slice_get (xs ++ ys) (length xs + n) ≡ Some x
right_of [] ys n x e = let same : 0 + n ≡ n = omega arith in ap (slice_get ys) same ∙ e
right_of (y ∷ xs) ys n x e =
    let same : length (y ∷ xs) + n ≡ suc (length xs + n) = omega arith in ap (slice_get (y ∷ (xs ++ ys))) same ∙ right_of xs ys n x e

template_group : (s : Sheet) (template group : ℕ) → option_map (λ (t : Template). t.group) (slice_get s.templates template) ≡ Some group → slice_get (groups_of s) template ≡ Some group
template_group s template group e =
    left_of (map (λ (t : Template). t.group) s.templates) (map (λ (q : Procedure). q.group) s.procedures) template group
    (slice_get-map (λ (t : Template). t.group) s.templates template ∙ e)

procedure_group : (s : Sheet) (procedure group : ℕ) → option_map (λ (q : Procedure). q.group) (slice_get s.procedures procedure) ≡ Some group
    → slice_get (groups_of s) (length s.templates + procedure) ≡ Some group
procedure_group s procedure group e =
    ap (λ n. slice_get (groups_of s) (n + procedure)) (sym (length-map s.templates (λ (t : Template). t.group)))
    ∙ right_of (map (λ (t : Template). t.group) s.templates) (map (λ (q : Procedure). q.group) s.procedures) procedure group
    (slice_get-map (λ (q : Procedure). q.group) s.procedures procedure ∙ e)

-- the body in whose code the innermost body goes on, and its group
pub record IsOfGroup (p : Program) (group pc : ℕ) : Type 0 where
  pub body : ℕ
  pub within : IsWithin p.code body pc
  pub grouped : slice_get (groups_of p.sheet) body ≡ Some group

same_number : {x y : ℕ} → Some x ≡ Some y → x ≡ y
same_number e = cc

own_body : (p : Program) (stations : List Station) → HasStations p.code stations p.sheet → (loops : ℕ) (waits : Bool) (fs : List Frame) (s : Standing) (pc group : ℕ)
    → pc_in fs ≡ Some pc → option_and_then (group_of p.sheet) (frame_in fs) ≡ Some group → AreWell p stations loops waits fs s → IsOfGroup p group pc
own_body p stations stand loops waits [] s pc group here grouped w = absurd (cc)
own_body p stations stand loops waits (Loop turn ∷ fs) s pc group here grouped w = own_body p stations stand (suc loops) waits fs s pc group here grouped w
own_body p stations stand loops waits (Body template alternative q locals level spent ∷ fs) s pc group here grouped w =
    let b = w.1.1.0 in
    record {
      body = template;
      within = subst (IsWithin p.code template) (same_number here) (subst (λ k. IsWithin p.code k q) b.own (stand.own q w.0 b.there.0 b.there.1));
      grouped = template_group p.sheet template group grouped;
    }
own_body p stations stand loops waits (Call procedure q locals level ∷ fs) s pc group here grouped w =
    let b = w.1.1.0 in
    let number = length p.sheet.templates + procedure in
    record {
      body = number;
      within = subst (IsWithin p.code number) (same_number here) (subst (λ k. IsWithin p.code k q) b.own (stand.own q w.0 b.there.0 b.there.1));
      grouped = procedure_group p.sheet procedure group grouped;
    }
own_body p stations stand loops waits (Region asked level ∷ fs) s pc group here grouped w = absurd (cc)
own_body p stations stand loops waits (Attributes next asked ∷ fs) s pc group here grouped w = absurd (cc)
own_body p stations stand loops waits (Source buffer next asked ∷ fs) s pc group here grouped w = absurd (cc)
own_body p stations stand loops waits (Skip depth ∷ fs) s pc group here grouped w = absurd (cc)
own_body p stations stand loops waits (Pass base level spent ∷ fs) s pc group here grouped w = absurd (cc)

base_bare : (s : Sheet) (o : Option Name) (group : ℕ) → base_of (without_bodies s) o group ≡ base_of s o group
base_bare s None group = refl
base_bare s (Some name) group = refl

module _ (given : Given) (p : Program) where
  pub whose_group : (fs : List Frame) (c : Scene) (pc : ℕ) → pc_in fs ≡ Some pc → (whose_in given p fs c).group ≡ unwrap_or (option_and_then (group_of p.sheet) (frame_in fs)) 0
  whose_group [] c pc here = absurd (cc)
  whose_group (Loop turn ∷ fs) c pc here = whose_group fs c pc here
  whose_group (Body template alternative q locals level spent ∷ fs) c pc here = refl
  whose_group (Call procedure q locals level ∷ fs) c pc here = refl
  whose_group (Region asked level ∷ fs) c pc here = absurd (cc)
  whose_group (Attributes next asked ∷ fs) c pc here = absurd (cc)
  whose_group (Source buffer next asked ∷ fs) c pc here = absurd (cc)
  whose_group (Skip depth ∷ fs) c pc here = absurd (cc)
  whose_group (Pass base level spent ∷ fs) c pc here = absurd (cc)

  pub whose_node : (fs : List Frame) (c : Scene) (pc : ℕ) → pc_in fs ≡ Some pc → ((whose_in given p fs c).level.source ≡ c.source) × ((whose_in given p fs c).trail ≡ trail_of c.nodes)
  whose_node [] c pc here = absurd (cc)
  whose_node (Loop turn ∷ fs) c pc here = whose_node fs c pc here
  whose_node (Body template alternative q locals level spent ∷ fs) c pc here = (refl, refl)
  whose_node (Call procedure q locals level ∷ fs) c pc here = (refl, refl)
  whose_node (Region asked level ∷ fs) c pc here = absurd (cc)
  whose_node (Attributes next asked ∷ fs) c pc here = absurd (cc)
  whose_node (Source buffer next asked ∷ fs) c pc here = absurd (cc)
  whose_node (Skip depth ∷ fs) c pc here = absurd (cc)
  whose_node (Pass base level spent ∷ fs) c pc here = absurd (cc)

  -- what is returned to has locals of its own
  pub returns_bare : (turns : List ℕ) (fs : List Frame) (c : Scene) (f : Future) (a : Here) (own : List Bound) (pc : ℕ) → pc_in fs ≡ Some pc
      → still.rest given p Returns turns fs c f (record a { locals = own }) ≡ still.rest given p Returns turns fs c f a
  returns_bare turns [] c f a own pc here = absurd (cc)
  returns_bare turns (Loop turn ∷ fs) c f a own pc here = returns_bare (turns ++ turn ∷ []) fs c f a own pc here
  returns_bare turns (Body template alternative q locals level spent ∷ fs) c f a own pc here = refl
  returns_bare turns (Call procedure q locals level ∷ fs) c f a own pc here = refl
  returns_bare turns (Region asked level ∷ fs) c f a own pc here = absurd (cc)
  returns_bare turns (Attributes next asked ∷ fs) c f a own pc here = absurd (cc)
  returns_bare turns (Source buffer next asked ∷ fs) c f a own pc here = absurd (cc)
  returns_bare turns (Skip depth ∷ fs) c f a own pc here = absurd (cc)
  returns_bare turns (Pass base level spent ∷ fs) c f a own pc here = absurd (cc)

  pub current_first : (nodes : List PathNode) → current (trail_of nodes) ≡ first_node nodes
  current_first [] = refl
  current_first (x ∷ xs) = refl

  module _ (r : Run) (running : Running) (n : ℕ) (i : Instr) (at : IsAtOp p r running (op.Do n)) (is : slice_get p.code.instrs n ≡ Some i) where
    pub group_there : (group : ℕ) × (option_and_then (group_of p.sheet) (frame_in (reverse r.frames.frames)) ≡ Some group)
    group_there =
        let s = seen_at p r running (op.Do n) at in
        let x = at_place p r running (op.Do n) at in
        (s.group, ap (option_and_then (group_of p.sheet)) (x.1.0 ∙ sym x.1.1) ∙ s.group_is)

    pub of_group : IsOfGroup p group_there.0 running.pc
    of_group =
        own_body p at.well.stations at.well.stand 0 false (reverse r.frames.frames) (standing_of r) running.pc group_there.0 at.pc group_there.1 (body_goes p r at.well at.doing).well

    linked_there : link_at p running.pc ≡ Some (link_of p.sheet group_there.0 i)
    linked_there =
        let w = at.well in
        let b = of_group in
        ap (λ o. option_and_then (λ k. slice_get p.links k) (option_and_then done_by o)) at.is
        ∙ at.well.steady.program.links_are b.body group_there.0 n b.grouped (
          running.pc,
          op.Do n,
          record { start = b.within.start; starts = b.within.starts; behind = b.within.behind; before = b.within.before; stands = at.is },
          refl,
        )
        i is

    module _ (of_sheet : IsProgramOf given.sheet given.limits p) (fs : List Frame) where
      abbrev c : Scene
      c = scene_now given p r

      abbrev self : Self
      self = whose_in given p (reverse r.frames.frames) c

      base_there : (asks_at given p running.pc fs c).base ≡ base_of given.sheet (base_named (out-Instr i)) self.group
      base_there =
          ap (λ o. option_map_or (λ (l : Link). l.base) o 0) linked_there
          ∙ ap (λ (s : Sheet). base_of s (base_named (out-Instr i)) group_there.0) of_sheet.sheet_is
          ∙ base_bare given.sheet (base_named (out-Instr i)) group_there.0
          ∙ ap (base_of given.sheet (base_named (out-Instr i))) (sym (whose_group (reverse r.frames.frames) c running.pc at.pc ∙ ap (λ o. unwrap_or o 0) group_there.1))

      -- what the instruction asks of the current node
      pub asks_within : (bs : List Bound)
          → (record (asks_at given p running.pc fs c) { params = bs }) ≡ asked_within given (place (out-Instr i)) (base_of given.sheet (base_named (out-Instr i)) self.group) bs self
      asks_within bs =
          let w = whose_node (reverse r.frames.frames) c running.pc at.pc in
          ap (λ o. record (asks_at given p running.pc fs c) { params = bs; at = option_map_or (λ j. place (out-Instr j)) o (record { file = 0; offset = 0 }) }) (instr_there given p r running n i at is)
          ∙ ap (λ b. record (asks_at given p running.pc fs c) { params = bs; at = place (out-Instr i); base = b }) base_there
          ∙ ap (λ s. record { at = place (out-Instr i); base = base_of given.sheet (base_named (out-Instr i)) self.group; params = bs; level = fresh s; within = trail_of c.nodes }) (sym w.0)
          ∙ ap (λ t. record { at = place (out-Instr i); base = base_of given.sheet (base_named (out-Instr i)) self.group; params = bs; level = fresh self.level.source; within = t }) (sym w.1)

-- Attributes.

-- the group and the values of an instruction that asks for them
pub record ForAttributes (at : Place) (x : Instr-F Instr When) : Type 0 where
  pub group : Option Name
  pub params : List WithParam
  pub is : x ≡ Instr-F.ProcessAttributes group params at

pub for_attributes : (at : Place) (x : Instr-F Instr When) → AsksForAttributes at x → ForAttributes at x
for_attributes at (Instr-F.ProcessAttributes group params own) same = record { group = group; params = params; is = ap (Instr-F.ProcessAttributes group params) same }
for_attributes at x asks = absurd asks

take_none : {A : Type 0} (xs : List A) → take 0 xs ≡ []
take_none [] = refl
take_none (x ∷ xs) = refl

drop_none : {A : Type 0} (xs : List A) → drop 0 xs ≡ xs
drop_none [] = refl
drop_none (x ∷ xs) = refl

of_element : (n : Node) → paths.is_element n ≡ true → (given : Given) (q : Asked) (a : Here)
    → attributes_of given q n a ≡ attributes given [] (paths.attributes (Some n)) q a.state (λ st. Ret (with_state a st))
of_element Document e given q a = absurd (cc)
of_element (Element name attrs decls first) e given q a = refl
of_element (Chars text) e given q a = absurd (cc)
of_element (CData text) e given q a = absurd (cc)
of_element (Comment text) e given q a = absurd (cc)
of_element (Pi target text) e given q a = absurd (cc)
of_element (Attribute x) e given q a = absurd (cc)

of_others : (n : Node) → paths.is_element n ≡ false → (given : Given) (q : Asked) (a : Here) → attributes_of given q n a ≡ Ret a
of_others Document e given q a = refl
of_others (Element name attrs decls first) e given q a = absurd (cc)
of_others (Chars text) e given q a = refl
of_others (CData text) e given q a = refl
of_others (Comment text) e given q a = refl
of_others (Pi target text) e given q a = refl
of_others (Attribute x) e given q a = refl

attributes_leave_all : (given : Given) (q : Asked) (n : Node) (a : Here) → Leaves (λ b. b.locals ≡ a.locals) (attributes_of given q n a)
attributes_leave_all given q (Element name attrs decls first) a = attributes_leave given (λ b. b.locals ≡ a.locals) [] attrs q a.state (λ st. Ret (with_state a st)) (λ t. refl)
attributes_leave_all given q Document a = refl
attributes_leave_all given q (Chars text) a = refl
attributes_leave_all given q (CData text) a = refl
attributes_leave_all given q (Comment text) a = refl
attributes_leave_all given q (Pi target text) a = refl
attributes_leave_all given q (Attribute x) a = refl

-- what is done with them
abbrev pub takes_attributes : Given → Asked → Self → Here → Does
takes_attributes given q self a = attributes_of given q (current self.trail) a

-- the current node of a run
pub node_now : (given : Given) (p : Program) (r : Run) → r.source.ahead ≢ ahead.Here → (n : Node) × ((paths.current (path r.source.stack) ≡ Some n) × (first_node (scene_now given p r).nodes ≡ n))
node_now given p r apart =
    let t = current_there r in (t.0, (t.1, ap first_node (path_still given p r.source.ahead (nodes_of r.source) apart) ∙ first_now r t.0 t.1))

module _ (given : Given) (p : Program) where
  -- it hands its values first
  attributes_first : (r new : Run) (running : Running) (n : ℕ) (i : Instr) (spot : Place) (at : IsAtOp p r running (op.Do n)) → IsProgramOf given.sheet given.limits p → slice_get p.code.instrs n ≡ Some i
      → AsksForAttributes spot (out-Instr i) → (a : Here)
      → act given i (whose_in given p (reverse r.frames.frames) (scene_now given p r)) a
      ≡ hands given spot (handed (out-Instr i)) (whose_in given p (reverse r.frames.frames) (scene_now given p r)) a
      (λ bs. takes_attributes given (record (asks_at given p running.pc (reverse new.frames.frames) (scene_now given p r)) { params = bs }) (whose_in given p (reverse r.frames.frames) (scene_now given p r)) a)
  attributes_first r new running n i spot at of_sheet is asks a =
      let self = whose_in given p (reverse r.frames.frames) (scene_now given p r) in
      let q = asks_at given p running.pc (reverse new.frames.frames) (scene_now given p r) in
      let x = for_attributes spot (out-Instr i) asks in
      let here : place (out-Instr i) ≡ spot = ap place x.is in
      let base : base_of given.sheet (base_named (out-Instr i)) self.group ≡ base_of given.sheet x.group self.group = ap (λ y. base_of given.sheet (base_named y) self.group) x.is in
      ap (λ y. acts given y self a) x.is
      ∙ ap (hands given spot x.params self a)
      (funext (λ (bs : List Bound).
      sym
      (ap (λ k. attributes_of given k (current self.trail) a)
      (asks_within given p r running n i at is of_sheet (reverse new.frames.frames) bs
      ∙ ap (λ at. asked_within given at (base_of given.sheet (base_named (out-Instr i)) self.group) bs self) here
      ∙ ap (λ b. asked_within given spot b bs self) base))))
      ∙ ap (λ y. hands given spot (handed y) self a (λ bs. takes_attributes given (record q { params = bs }) self a)) (sym x.is)

  -- behind the values, of an element: its attributes are a list of their own
  attributes_go : (m s : Run) (asked : ℕ) (left : Left) (f : Future) (pc : ℕ) → m.source.ahead ≢ ahead.Here → is_in_element (path m.source.stack) ≡ true → pc_in (reverse m.frames.frames) ≡ Some pc
      → reverse s.frames.frames ≡ Attributes 0 asked ∷ reverse m.frames.frames → s ≡ record m { frames = s.frames; doing = doing.List }
      → handed_acts given p (takes_attributes given) asked m left f ≡ still.still given p s left f
  attributes_go m s asked left f pc apart element here pushed rest =
      let gs = reverse m.frames.frames in
      let c = scene_now given p m in
      let st = still.state_of given p m left in
      let q = asks_at given p asked gs c in
      let self = whose_in given p gs c in
      let own = named_of (still.locals_in given p gs) in
      let n = node_now given p m apart in
      let lists = lists_now given p m f in
      let over = still.goes_on_at given p (unwrap_or (spent_in gs) true) (first_node c.nodes) (rest_of c.nodes) lists in
      let list : List Attr → List Attr → Flat_does = λ xs ys. lifted (attributes given xs ys q st (λ t. Ret (single t))) (λ b. over (λ g. still.rest given p Returns [] gs c g) b.state) in
      let is : paths.is_element (current self.trail) ≡ true =
      ap (λ t. paths.is_element (current t)) ((whose_node given p gs c pc here).1) ∙ ap paths.is_element (current_first given p c.nodes ∙ n.1.1) ∙ sym (ap (λ o. option_map_or paths.is_element o false) n.1.0) ∙ element in
      let attrs : paths.attributes (Some (current self.trail)) ≡ paths.attributes (Some (first_node c.nodes)) =
      ap (λ t. paths.attributes (Some (current t))) ((whose_node given p gs c pc here).1) ∙ ap (λ n. paths.attributes (Some n)) (current_first given p c.nodes) in
      goes_equal given p (unwrap_or (spent_in gs) true) (first_node c.nodes) (rest_of c.nodes) lists
      (λ g a. lifted (takes_attributes given q self (record a { locals = own })) (still.rest given p Returns [] gs c g))
      (λ g a. lifted (attributes given [] (paths.attributes (Some (first_node c.nodes))) q st (λ t. Ret (single t))) (λ b. still.rest given p Returns [] gs c g (with_state a b.state))) st
      (λ g a same.
      ap (λ x. lifted x (still.rest given p Returns [] gs c g)) (of_element (current self.trail) is given q (record a { locals = own }))
      ∙ ap (λ l. lifted (attributes given [] l q a.state (λ t. Ret (with_state (record a { locals = own }) t))) (still.rest given p Returns [] gs c g)) attrs
      ∙ ap (λ (x : State). lifted (attributes given [] (paths.attributes (Some (first_node c.nodes))) q x (λ t. Ret (with_state (record a { locals = own }) t))) (still.rest given p Returns [] gs c g)) same
      ∙ attributes_then given [] (paths.attributes (Some (first_node c.nodes))) q st (λ t. Ret (with_state (record a { locals = own }) t)) (still.rest given p Returns [] gs c g)
      ∙ ap (lifted (attributes given [] (paths.attributes (Some (first_node c.nodes))) q st (λ t. Ret (single t))))
      (funext (λ (b : Here). returns_bare given p [] gs c g (with_state a b.state) own pc here)))
      ∙ outwards (attributes given [] (paths.attributes (Some (first_node c.nodes))) q st (λ t. Ret (single t))) (unwrap_or (spent_in gs) true) (first_node c.nodes) (rest_of c.nodes) lists (λ g. still.rest given p Returns [] gs c g) st
      ∙ ap (λ l. list l (paths.attributes (Some (first_node c.nodes)))) (sym (take_none (paths.attributes (Some (first_node c.nodes)))))
      ∙ ap (list (take 0 (paths.attributes (Some (first_node c.nodes))))) (sym (drop_none (paths.attributes (Some (first_node c.nodes)))))
      ∙ ap (λ fs. still.doing_now given p doing.List m.source.ahead fs (record m { frames = s.frames; doing = doing.List }) left f) (sym pushed)
      ∙ sym (ap (λ (x : Run). still.doing_now given p x.doing x.source.ahead (reverse s.frames.frames) x left f) rest)
    where
      -- a course that starts from a state, in each state of the node
      outwards : (x : Does) (spent : Bool) (n : Node) (above : List PathNode) (g : Future) (k : Future → Here → Flat_does) (st : State)
          → still.goes_on_at given p spent n above g (λ g a. lifted x (λ b. k g (with_state a b.state))) st ≡ lifted x (λ b. still.goes_on_at given p spent n above g k b.state)
      outwards x spent n above g k st = by (is_attribute (Some n)) (spent || not (still.has_kids n))
        where
          by : (alone b : Bool)
              → (if alone then lifted x (λ h. k g (with_state (single st) h.state)) else if b then lifted x (λ h. k (outer g) (with_state (record { kids = None; left = record { earlier = still.counts_of above; coming = inner g }; locals = []; state = st }) h.state))
              else lifted x (λ h. k (outer (outer g)) (with_state (record { kids = Some (inner g); left = record { earlier = still.counts_of above; coming = inner (outer g) }; locals = []; state = st }) h.state)))
              ≡ lifted x
              (λ h. if alone then k g (single h.state) else if b then k (outer g) (record { kids = None; left = record { earlier = still.counts_of above; coming = inner g }; locals = []; state = h.state })
              else k (outer (outer g)) (record { kids = Some (inner g); left = record { earlier = still.counts_of above; coming = inner (outer g) }; locals = []; state = h.state }))
          by true b = refl
          by false true = refl
          by false false = refl

  -- of another node, the instruction is over
  attributes_none : (m : Run) (asked : ℕ) (left : Left) (f : Future) (pc : ℕ) → m.source.ahead ≢ ahead.Here → is_in_element (path m.source.stack) ≡ false → pc_in (reverse m.frames.frames) ≡ Some pc
      → handed_acts given p (takes_attributes given) asked m left f ≡ instr_done given p m left f
  attributes_none m asked left f pc apart other here =
      let gs = reverse m.frames.frames in
      let c = scene_now given p m in
      let q = asks_at given p asked gs c in
      let self = whose_in given p gs c in
      let own = named_of (still.locals_in given p gs) in
      let n = node_now given p m apart in
      let is : paths.is_element (current self.trail) ≡ false =
      ap (λ t. paths.is_element (current t)) ((whose_node given p gs c pc here).1) ∙ ap paths.is_element (current_first given p c.nodes ∙ n.1.1) ∙ sym (ap (λ o. option_map_or paths.is_element o false) n.1.0) ∙ other in
      goes_equal given p (unwrap_or (spent_in gs) true) (first_node c.nodes) (rest_of c.nodes) (lists_now given p m f)
      (λ g a. lifted (takes_attributes given q self (record a { locals = own })) (still.rest given p Returns [] gs c g))
      (λ g. still.rest given p Returns [] gs c g) (still.state_of given p m left)
      (λ g a same.
      ap (λ x. lifted x (still.rest given p Returns [] gs c g)) (of_others (current self.trail) is given q (record a { locals = own }))
      ∙ returns_bare given p [] gs c g a own pc here)

-- So of a run.

none_full : (limit asked : ℕ) (frames : List Frame) → IsFull limit (Attributes 0 asked) frames → ⊥
none_full limit asked frames h = let no : None ≡ Some h.0 = h.1 in cc

pub list_memory : (at : Place) (limit asked : ℕ) (frames : List Frame) (e : Stop) → (e ≡ stop.Memory) ⊎ ((e ≡ stopped_by Instances at) × IsFull limit (Attributes 0 asked) frames) → e ≡ stop.Memory
list_memory at limit asked frames e (inl memory) = memory
list_memory at limit asked frames e (inr h) = absurd (none_full limit asked frames h.1)

-- no child of its element is counted
attributes_open : (m s : Run) {asked next : ℕ} (x : Frame) → x ≡ Attributes next asked → reverse s.frames.frames ≡ x ∷ reverse m.frames.frames → nodes_of s.source ≡ nodes_of m.source
    → is_in_element (path m.source.stack) ≡ true → IsSome (level_in (reverse m.frames.frames)) → AreUntouched (reverse m.frames.frames) (nodes_of m.source)
    → AreUntouched (reverse s.frames.frames) (nodes_of s.source)
attributes_open m s {asked} {next} x list frames nodes element body h =
    let gs = reverse m.frames.frames in
    let ns = nodes_of m.source in
    let node : is_on_attribute ns ≡ false = attribute_now m ∙ ap is_attribute (way_here (path m.source.stack)) ∙ element_node (paths.current (path m.source.stack)) element in
    untouched_to (Attributes next asked ∷ gs) (reverse s.frames.frames) ns (nodes_of s.source) (ap (λ y. y ∷ gs) (sym list) ∙ sym frames) (sym nodes)
    (λ e. h (ap (λ b. spent_of b gs) node ∙ own_spent gs body ∙ e))

module _ (p : Program) (r m : Run) (running : Running) (n : ℕ) (i : Instr) (spot : Place) (at : IsAtOp p r running (op.Do n)) (is : slice_get p.code.instrs n ≡ Some i)
    (asks : AsksForAttributes spot (out-Instr i)) where
  abbrev was : Given → Left → Future → Flat_does
  was given left f = instr_acts given p i running.pc r left f

  module _ {A : Type 0} (done : A) (h : Hands p i spot running.pc (Ok done) r m) (waits : Awaits p m running.pc running.body) where
    handed_so : (given : Given) → IsProgramOf given.sheet given.limits p → (left : Left) (f : Future) → was given left f ≡ handed_acts given p (takes_attributes given) running.pc m left f
    handed_so given program left f =
        hands_ok given p r m running n i spot at program is (takes_attributes given) done h
        (λ a. attributes_first given p r m running n i spot at program is asks a)
        (λ a. attributes_leave_all given (asks_at given p running.pc (reverse m.frames.frames) (scene_now given p r)) (current (whose_in given p (reverse r.frames.frames) (scene_now given p r)).trail) a) left f

    pub attributes_over : (s : Run) → is_in_element (path m.source.stack) ≡ false → MovesFrom p (λ given left f. instr_done given p m left f) (Ok step.More) s → MovesFrom p was (Ok step.More) s
    attributes_over s other moves =
        moves_by p was (λ given left f. instr_done given p m left f) (Ok step.More) s
        (λ given program left f.
        same_equal (flat_code given) (handed_so given program left f ∙ attributes_none given p m running.pc left f (suc running.pc) waits.waits.apart other waits.pc)) moves

    pub attributes_list : (t s : Run) → IsAlone p r → is_in_element (path m.source.stack) ≡ true
        → t ≡ record m { frames = with_frames (m.frames.frames ++ Attributes 0 running.pc ∷ []) m.frames } → s ≡ record t { doing = doing.List } → MovesFrom p was (Ok step.More) s
    attributes_list t s alone element pushed set =
        let top : reverse t.frames.frames ≡ Attributes 0 running.pc ∷ reverse m.frames.frames =
        ap (λ (x : Run). reverse x.frames.frames) pushed ∙ reverse-append m.frames.frames (Attributes 0 running.pc ∷ []) in
        let frames : reverse s.frames.frames ≡ Attributes 0 running.pc ∷ reverse m.frames.frames = ap (λ (x : Run). reverse x.frames.frames) set ∙ top in
        let rest : s ≡ record m { frames = s.frames; doing = doing.List } =
        set ∙ ap (λ (x : Run). record x { frames = t.frames; doing = doing.List }) pushed
        ∙ ap (λ (x : Run). record m { frames = x.frames; doing = doing.List }) (sym set) in
        let whole : s ≡ record r { frames = s.frames; doing = doing.List } = rest ∙ ap (λ (x : Run). record x { frames = s.frames; doing = doing.List }) h.rest in
        record {
          alone = record {
            origin = ap (λ (x : Run). x.source.origin) whole ∙ alone.origin;
            outer = ap (λ (x : Run). x.outer.items) whole ∙ alone.outer;
            aside = ap (λ (x : Run). x.aside.items) whole ∙ alone.aside;
            held = ap (λ (x : Run). held_node x.source) whole ∙ alone.held;
            counted = λ e. subst HeadIsCounted (sym (ap (λ (x : Run). nodes_of x.source) whole)) (alone.counted (sym (ap (λ (x : Run). x.source.ahead) whole) ∙ e));
            whole = λ e depth skipped. absurd (let no : None ≡ Some depth = sym (ap skipped_in frames) ∙ skipped in cc);
            untouched =
                attributes_open m s (Attributes 0 running.pc) refl frames (ap (λ (x : Run). nodes_of x.source) rest) element waits.waits.waits.body
                (handed_alone p r m running n i spot done at h alone waits).untouched;
            fuel = subst (λ u. u ≤ p.limits.fuel) (sym (ap (λ (x : Run). x.fuel) whole)) alone.fuel;
          };
          over = λ e. absurd (let no : step.More ≡ step.Over = of_ok (Ok _) refl e in cc);
          does = λ given new program left f.
              same_equal (flat_code given)
              (handed_so given program left f ∙ attributes_go given p m s running.pc left f (suc running.pc) waits.waits.apart element waits.pc frames rest);
        }

  -- values that aren't given stop it
  pub attributes_stop : {A : Type 0} (e : Stop) (s : Run) → Hands {A = A} p i spot running.pc (Err e) r m → MovesFrom p was (Err e) s
  attributes_stop e s h = record {
    alone = tt;
    over = λ o. absurd (cc);
    does = λ given new program left f.
        hands_stop given p r m running n i spot at program is (takes_attributes given) Step e (λ a. attributes_first given p r m running n i spot at program is asks a) h.gave left f
        (still.still given p s left f);
  }
