-- Instructions that process the children of a node.
use Rattle.std.proofs.Common.{◌≡◌, ◌≢◌, ℕ, suc, ◌+◌, ◌-◌, Bool, true, false, List, [], ◌∷◌, ◌++◌, reverse, Option, Some, Ok, Err, IsSome, refl, ap, sym, subst, ◌∙◌, arith}
use Rattle.std.specs.Prelude.{if◌then◌else◌, slice_get, unwrap_or}
use Rattle.std.specs.Option.{option_map_or}
use Rattle.stx_base.specs.Course.{Ask, Halt, Ret}
use Rattle.stx_base.proofs.Course.{funext, same_equal}
use Rattle.stx_base.specs.declared.fault.Place.{Place}
use Rattle.stx_base.specs.declared.fault.RunCode.TheVariants.{ChildrenTwice}
use Rattle.stx_base.specs.declared.name.Name.{Name}
use Rattle.frame_stack.specs.Stack.{FrameStack}
use Rattle.frame_stack.specs.declared.frame.Frame.{Frame}
use Rattle.frame_stack.specs.declared.frame.Frame.TheVariants.{Attributes, Body, Call, Loop, Pass, Region, Skip, Source}
use Rattle.instr_code.specs.Running as running
use Rattle.instr_code.specs.declared.code.Op.TheVariants as op
use Rattle.node_stack.specs.Path as paths
use Rattle.node_stack.specs.Path.{Attribute, CData, Chars, Comment, Document, Element, Node, PathNode, Pi, can_have_children}
use Rattle.node_stack.specs.Stack.{path}
use Rattle.result_writer.specs.Target.{Left}
use Rattle.sheet_model.specs.Parts.{base_named, handed, place}
use Rattle.sheet_model.specs.declared.instr.Instr.{Instr}
use Rattle.sheet_model.specs.declared.instr.Instr.TheOpen.{Instr-F}
use Rattle.sheet_model.specs.declared.instr.Instr.TheViews.{out-Instr}
use Rattle.sheet_model.specs.declared.instr.When.{When}
use Rattle.sheet_model.specs.declared.instr.WithParam.{WithParam}
use Rattle.var_store.specs.declared.bound.Bound.{Bound}
use Rattle.xml_events.specs.Document.{inner, outer}
use Rattle.xml_events.specs.Tree.{Future}
use Rattle.template_machine.specs.Acting.{act, acts, asked_within, has_list}
use Rattle.template_machine.specs.Behind.{MovesFrom, asks_at, handed_acts, instr_acts, instr_done, lists_now, scene_now, whose_in}
use Rattle.template_machine.specs.Bodies.{all_spent, level_in, pc_in, spent_in, takes_events}
use Rattle.template_machine.specs.Declaring.{hands}
use Rattle.template_machine.specs.Ending.{fault_at}
use Rattle.template_machine.specs.Finding.{base_of}
use Rattle.template_machine.specs.Job.{Asked, Does, Given, Here, Nodes, Self, State, all_of, remains}
use Rattle.template_machine.specs.Lists.{rest_of}
use Rattle.template_machine.specs.Moments.{IsAtOp}
use Rattle.template_machine.specs.Ordinary.{IsAlone}
use Rattle.template_machine.specs.Passing.{children, gone}
use Rattle.template_machine.specs.Programs.{IsProgramOf}
use Rattle.template_machine.specs.Reached.{AsksForChildren}
use Rattle.template_machine.specs.Seen.{named_of}
use Rattle.template_machine.specs.Shifting.{Hands}
use Rattle.template_machine.specs.Standing.{standing_of}
use Rattle.template_machine.specs.Still as still
use Rattle.template_machine.specs.Still.{Lists, Returns, Scene, first_node, nodes_of}
use Rattle.template_machine.specs.Stepwise.{Flat_does, Working, flat_code, lifted}
use Rattle.template_machine.specs.Stops.{fault}
use Rattle.template_machine.specs.Trail.{current}
use Rattle.template_machine.specs.Working.{Awaits}
use Rattle.template_machine.specs.declared.program.Program.{Program}
use Rattle.template_machine.specs.declared.run.Doing.TheVariants as doing
use Rattle.template_machine.specs.declared.run.Run.{Run}
use Rattle.template_machine.specs.declared.run.Running.{Running}
use Rattle.template_machine.specs.declared.run.Step.{Step}
use Rattle.template_machine.specs.declared.run.Step.TheVariants as step
use Rattle.template_machine.specs.declared.source.Ahead.TheVariants as ahead
use Rattle.template_machine.specs.declared.stop.Stop.{Stop}
use Rattle.template_machine.proofs.Alone.{body_untouched, handed_alone}
use Rattle.template_machine.proofs.AskedAgain.{returns_any}
use Rattle.template_machine.proofs.Behind.{gone_on, kids_on}
use Rattle.template_machine.proofs.Beside.{list_by}
use Rattle.template_machine.proofs.Finished.{current_there, first_now, moves_by}
use Rattle.template_machine.proofs.Instructed.{goes_equal, hands_ok, hands_stop, instr_there}
use Rattle.template_machine.proofs.Localized.{Leaves, children_leaves}
use Rattle.template_machine.proofs.Operated.{of_ok}
use Rattle.template_machine.proofs.PassedAgain.{waits_unknown}
use Rattle.template_machine.proofs.PassedThrough.{nodes_there, opens_no_attribute}
use Rattle.template_machine.proofs.Processed.{asks_within, current_first, node_now, returns_bare, whose_node}
use Rattle.template_machine.proofs.Sighting.{front}
use Rattle.template_machine.proofs.Spending.{level_stays, says_so}
use Rattle.template_machine.proofs.Spent.{rest_spent}
use Rattle.template_machine.proofs.Untaken.{again_untouched}
use Rattle.template_machine.proofs.Untouched.{IsUntouched, untouched_to}

-- the group and the values of an instruction that asks for them
record ForChildren (at : Place) (x : Instr-F Instr When) : Type 0 where
  group : Option Name
  params : List WithParam
  is : x ≡ Instr-F.ProcessChildren group params at

for_children : (at : Place) (x : Instr-F Instr When) → AsksForChildren at x → ForChildren at x
for_children at (Instr-F.ProcessChildren group params own) same = record { group = group; params = params; is = ap (Instr-F.ProcessChildren group params) same }
for_children at x asks = absurd asks

-- a node has a list of nodes
list_same : (n : Node) → has_list n ≡ can_have_children (Some n)
list_same Document = refl
list_same (Element name attrs decls first) = refl
list_same (Chars text) = refl
list_same (CData text) = refl
list_same (Comment text) = refl
list_same (Pi target text) = refl
list_same (Attribute a) = refl

-- what is done with them
abbrev pub takes_children : Given → Asked → Self → Here → Does
takes_children given q self a = if has_list (current self.trail) then children q.at q a (λ b. Ret b) else Ret a

children_leave : (given : Given) (q : Asked) (self : Self) (a : Here) → Leaves (λ b. b.locals ≡ a.locals) (takes_children given q self a)
children_leave given q self a = by (has_list (current self.trail))
  where
    by : (b : Bool) → Leaves (λ b. b.locals ≡ a.locals) (if b then children q.at q a (λ b. Ret b) else Ret a)
    by true = children_leaves given (λ b. b.locals ≡ a.locals) q.at q a (λ b. Ret b) (λ b e. e)
    by false = refl

module _ (given : Given) (p : Program) where
  -- it hands its values first
  children_first : (r new : Run) (running : Running) (n : ℕ) (i : Instr) (spot : Place) (at : IsAtOp p r running (op.Do n)) → IsProgramOf given.sheet given.limits p → slice_get p.code.instrs n ≡ Some i
      → AsksForChildren spot (out-Instr i) → (a : Here)
      → act given i (whose_in given p (reverse r.frames.frames) (scene_now given p r)) a
      ≡ hands given spot (handed (out-Instr i)) (whose_in given p (reverse r.frames.frames) (scene_now given p r)) a
      (λ bs. takes_children given (record (asks_at given p running.pc (reverse new.frames.frames) (scene_now given p r)) { params = bs }) (whose_in given p (reverse r.frames.frames) (scene_now given p r)) a)
  children_first r new running n i spot at of_sheet is asks a =
      let self = whose_in given p (reverse r.frames.frames) (scene_now given p r) in
      let q = asks_at given p running.pc (reverse new.frames.frames) (scene_now given p r) in
      let x = for_children spot (out-Instr i) asks in
      let here : place (out-Instr i) ≡ spot = ap place x.is in
      let base : base_of given.sheet (base_named (out-Instr i)) self.group ≡ base_of given.sheet x.group self.group = ap (λ y. base_of given.sheet (base_named y) self.group) x.is in
      ap (λ y. acts given y self a) x.is
      ∙ ap (hands given spot x.params self a)
      (funext (λ (bs : List Bound).
      sym
      (ap (λ (k : Asked). takes_children given k self a)
      (asks_within given p r running n i at is of_sheet (reverse new.frames.frames) bs
      ∙ ap (λ at. asked_within given at (base_of given.sheet (base_named (out-Instr i)) self.group) bs self) here
      ∙ ap (λ b. asked_within given spot b bs self) base))))
      ∙ ap (λ y. hands given spot (handed y) self a (λ bs. takes_children given (record q { params = bs }) self a)) (sym x.is)

  -- A list of children that goes on for a body, and then the body goes on behind its instruction.
  lists_return : (asked : ℕ) (turns : List ℕ) (fs : List Frame) (c : Scene) (f : Future) (a : Here) → pc_in fs ≡ Some (suc asked)
      → still.rest given p Lists turns fs c f a
      ≡ Ask (running.Given (Nodes a.left (asks_at given p asked fs c) a.state)) (λ (w : Working). still.rest given p Returns turns fs c (outer f) (still.siblings_of given p (rest_of c.nodes) f w.here.state))
  lists_return asked turns [] c f a here = absurd (cc)
  lists_return asked turns (Loop turn ∷ fs) c f a here = lists_return asked (turns ++ turn ∷ []) fs c f a here
  lists_return asked turns (Body template alternative pc locals level spent ∷ fs) c f a here =
      let gs = Body template alternative pc locals level spent ∷ fs in
      let before : pc - 1 ≡ asked = behind_one pc asked here in
      ap (λ k. Ask (running.Given (Nodes a.left (asks_at given p k gs c) a.state)) (λ (w : Working). still.rest given p Returns turns gs c (outer f) (still.siblings_of given p (rest_of c.nodes) f w.here.state))) before
    where
      behind_one : (pc asked : ℕ) → Some pc ≡ Some (suc asked) → pc - 1 ≡ asked
      behind_one pc asked e = let same : pc ≡ suc asked = cc in omega (arith, same)
  lists_return asked turns (Call procedure pc locals level ∷ fs) c f a here =
      let gs = Call procedure pc locals level ∷ fs in
      let before : pc - 1 ≡ asked = behind_one pc asked here in
      ap (λ k. Ask (running.Given (Nodes a.left (asks_at given p k gs c) a.state)) (λ (w : Working). still.rest given p Returns turns gs c (outer f) (still.siblings_of given p (rest_of c.nodes) f w.here.state))) before
    where
      behind_one : (pc asked : ℕ) → Some pc ≡ Some (suc asked) → pc - 1 ≡ asked
      behind_one pc asked e = let same : pc ≡ suc asked = cc in omega (arith, same)
  lists_return asked turns (Region own level ∷ fs) c f a here = absurd (cc)
  lists_return asked turns (Attributes next own ∷ fs) c f a here = absurd (cc)
  lists_return asked turns (Source buffer next own ∷ fs) c f a here = absurd (cc)
  lists_return asked turns (Skip depth ∷ fs) c f a here = absurd (cc)
  lists_return asked turns (Pass base level spent ∷ fs) c f a here = absurd (cc)

  module _ (m : Run) (asked : ℕ) (left : Left) (f : Future) (apart : m.source.ahead ≢ ahead.Here) (at : pc_in (reverse m.frames.frames) ≡ Some (suc asked)) where
    abbrev gs : List Frame
    gs = reverse m.frames.frames

    abbrev c : Scene
    c = scene_now given p m

    abbrev st : State
    st = still.state_of given p m left

    abbrev q : Asked
    q = asks_at given p asked gs c

    abbrev own : List Bound
    own = named_of (still.locals_in given p gs)

    -- by whether the node has a list of nodes
    abbrev acts_by : (spent has : Bool) → Flat_does
    acts_by spent has =
        still.goes_on_at given p spent (first_node c.nodes) (rest_of c.nodes) (lists_now given p m f)
        (λ g a. lifted (if has then children q.at q (record a { locals = own }) (λ b. Ret b) else Ret (record a { locals = own })) (still.rest given p Returns [] gs c g)) st

    node_is : has_list (current (whose_in given p gs c).trail) ≡ can_have_children (paths.current (path m.source.stack))
    node_is =
        let n = node_now given p m apart in
        ap (λ t. has_list (current t)) ((whose_node given p gs c (suc asked) at).1) ∙ ap has_list (current_first given p c.nodes ∙ n.1.1) ∙ list_same n.0 ∙ sym (ap can_have_children n.1.0)

    acts_so : (has : Bool) → can_have_children (paths.current (path m.source.stack)) ≡ has
        → handed_acts given p (takes_children given) asked m left f ≡ acts_by (unwrap_or (spent_in gs) true) has
    acts_so has is = ap (acts_by (unwrap_or (spent_in gs) true)) (node_is ∙ is)

    -- of a node that has none, the instruction is over
    pub children_none : can_have_children (paths.current (path m.source.stack)) ≡ false → handed_acts given p (takes_children given) asked m left f ≡ instr_done given p m left f
    children_none none =
        acts_so false none
        ∙ goes_equal given p (unwrap_or (spent_in gs) true) (first_node c.nodes) (rest_of c.nodes) (lists_now given p m f)
        (λ g a. still.rest given p Returns [] gs c g (record a { locals = own })) (λ g. still.rest given p Returns [] gs c g) st
        (λ g a same. returns_bare given p [] gs c g a own (suc asked) at)

    first_list : can_have_children (paths.current (path m.source.stack)) ≡ true → can_have_children (Some (first_node c.nodes)) ≡ true
    first_list has =
        let n = node_now given p m apart in
        ap (λ y. can_have_children (Some y)) n.1.1 ∙ sym (ap can_have_children n.1.0) ∙ has

    -- they are gone
    pub children_twice : can_have_children (paths.current (path m.source.stack)) ≡ true → spent_in gs ≡ Some true
        → handed_acts given p (takes_children given) asked m left f ≡ Halt (fault_at ChildrenTwice q.at)
    children_twice has spent =
        acts_so true has
        ∙ ap (λ o. acts_by (unwrap_or o true) true) spent
        ∙ gone_on given p true (first_node c.nodes) (rest_of c.nodes) (lists_now given p m f)
        (λ g a. lifted (children q.at q (record a { locals = own }) (λ b. Ret b)) (still.rest given p Returns [] gs c g)) st
        (opens_no_attribute (first_node c.nodes) (first_list has)) refl

    abbrev scene_in : List PathNode → Scene
    scene_in ns = record c { nodes = ns }

    abbrev asks_of : List PathNode → Asked
    asks_of ns = asks_at given p asked gs (scene_in ns)

    abbrev opened_by : List PathNode → Flat_does
    opened_by ns =
        still.goes_on_at given p false (first_node ns) (rest_of ns) f
        (λ g a. lifted (children (asks_of ns).at (asks_of ns) (record a { locals = own }) (λ b. Ret b)) (still.rest given p Returns [] gs (scene_in ns) g)) st

    abbrev listed_by : (level : ℕ) → List PathNode → Flat_does
    listed_by level ns =
        still.rest given p Lists [] (all_spent level gs) (scene_in ns) (outer f) (remains (record { earlier = still.counts_of ns; coming = inner f }) st)

    some_body : IsSome (level_in gs)
    some_body = has_body gs at
      where
        has_body : (fs : List Frame) → pc_in fs ≡ Some (suc asked) → IsSome (level_in fs)
        has_body [] e = absurd (cc)
        has_body (Loop turn ∷ fs) e = has_body fs e
        has_body (Body template alternative pc locals level spent ∷ fs) e = refl
        has_body (Call procedure pc locals level ∷ fs) e = refl
        has_body (x ∷ fs) e = absurd (cc)

    opened_there : (level : ℕ) (x : PathNode) (xs : List PathNode) → can_have_children (Some x.node) ≡ true → x.children.passing ≡ (λ t. 0) → opened_by (x ∷ xs) ≡ listed_by level (x ∷ xs)
    opened_there level x xs kids none =
        let ns = x ∷ xs in
        let own_asks = asks_of ns in
        let back : Here → Flat_does = still.rest given p Returns [] gs (scene_in ns) (outer (outer f)) in
        kids_on given p x.node xs f (λ g a. lifted (children own_asks.at own_asks (record a { locals = own }) (λ b. Ret b)) (still.rest given p Returns [] gs (scene_in ns) g)) st
        (opens_no_attribute x.node kids) kids
        ∙ ap (λ k. Ask (running.Given (Nodes (all_of (inner f)) own_asks st)) k)
        (funext (λ (w : Working). returns_any given p [] gs (scene_in ns) (outer (outer f)) (still.siblings_of given p xs (outer f) w.here.state) own some_body))
        ∙ ap (λ e. Ask (running.Given (Nodes (record { earlier = e; coming = inner f }) own_asks st)) (λ (w : Working). back (still.siblings_of given p xs (outer f) w.here.state))) (sym none)
        ∙ sym (lists_return asked [] gs (scene_in ns) (outer f) (remains (record { earlier = x.children.passing; coming = inner f }) st) at)
        ∙ sym (rest_spent given p level gs Lists [] (scene_in ns) (outer f) (remains (record { earlier = x.children.passing; coming = inner f }) st))

    opened_now : (level : ℕ) → can_have_children (paths.current (path m.source.stack)) ≡ true → spent_in gs ≡ Some false → IsUntouched m → (ns : List PathNode) → nodes_of m.source ≡ ns
        → opened_by ns ≡ listed_by level ns
    opened_now level has unspent untouched [] e = absurd (nodes_there m e)
    opened_now level has unspent untouched (x ∷ xs) e =
        let t = current_there m in
        let first : x.node ≡ t.0 = sym (ap first_node e) ∙ first_now m t.0 t.1 in
        let kids : can_have_children (Some x.node) ≡ true = ap (λ y. can_have_children (Some y)) first ∙ sym (ap can_have_children t.1) ∙ has in
        opened_there level x xs kids (untouched unspent x xs e kids)

    takes_body : (fs : List Frame) → IsSome (level_in fs) → takes_events fs ≡ true
    takes_body [] some = refl
    takes_body (Attributes next own ∷ fs) some = absurd (cc)
    takes_body (x ∷ fs) some = refl

    -- and else they are a list
    pub children_go : (s : Run) (level : ℕ) → can_have_children (paths.current (path m.source.stack)) ≡ true → spent_in gs ≡ Some false → IsUntouched m → m.source.ahead ≡ ahead.Nothing
        → reverse s.frames.frames ≡ all_spent level gs → s ≡ record m { frames = s.frames; doing = doing.List } → handed_acts given p (takes_children given) asked m left f ≡ still.still given p s left f
    children_go s level has unspent untouched unknown frames rest =
        let ns = nodes_of m.source in
        let same : still.path_before given p m.source.ahead ns ≡ ns = front m.source.ahead ns given p apart in
        let more : takes_events (all_spent level gs) ≡ true = takes_body (all_spent level gs) (subst (λ o. IsSome o) (sym (level_stays level gs)) some_body) in
        acts_so true has
        ∙ ap (λ o. acts_by (unwrap_or o true) true) unspent
        ∙ ap (λ hd.
        still.goes_on_at given p false (first_node (still.path_before given p m.source.ahead ns)) (rest_of (still.path_before given p m.source.ahead ns)) (still.known_before given p hd ns (still.held_of given p m) f)
        (λ g a.
        lifted (children (asks_of (still.path_before given p m.source.ahead ns)).at (asks_of (still.path_before given p m.source.ahead ns)) (record a { locals = own }) (λ b. Ret b))
        (still.rest given p Returns [] gs (scene_in (still.path_before given p m.source.ahead ns)) g)) st) unknown
        ∙ ap opened_by same
        ∙ opened_now level has unspent untouched ns refl
        ∙ sym
        (ap (λ (y : Run). still.still given p y left f) rest
        ∙ ap (λ l. still.doing_now given p doing.List m.source.ahead l (record m { frames = s.frames; doing = doing.List }) left f) frames
        ∙ ap (λ hd. still.doing_now given p doing.List hd (all_spent level gs) (record m { frames = s.frames; doing = doing.List }) left f) unknown
        ∙ ap (λ b. still.list_goes given p b ahead.Nothing (all_spent level gs) (record m { frames = s.frames; doing = doing.List }) left f) more)

-- So of a run.

module _ (p : Program) (r m : Run) (running : Running) (n : ℕ) (i : Instr) (spot : Place) (at : IsAtOp p r running (op.Do n)) (is : slice_get p.code.instrs n ≡ Some i)
    (asks : AsksForChildren spot (out-Instr i)) where
  abbrev was : Given → Left → Future → Flat_does
  was given left f = instr_acts given p i running.pc r left f

  module _ {A : Type 0} (done : A) (h : Hands p i spot running.pc (Ok done) r m) (waits : Awaits p m running.pc running.body) where
    handed_so : (given : Given) → IsProgramOf given.sheet given.limits p → (left : Left) (f : Future) → was given left f ≡ handed_acts given p (takes_children given) running.pc m left f
    handed_so given program left f =
        hands_ok given p r m running n i spot at program is (takes_children given) done h
        (λ a. children_first given p r m running n i spot at program is asks a)
        (λ a. children_leave given (asks_at given p running.pc (reverse m.frames.frames) (scene_now given p r)) (whose_in given p (reverse r.frames.frames) (scene_now given p r)) a) left f

    pub children_over : (s : Run) → can_have_children (paths.current (path m.source.stack)) ≡ false → MovesFrom p (λ given left f. instr_done given p m left f) (Ok step.More) s → MovesFrom p was (Ok step.More) s
    children_over s none moves =
        moves_by p was (λ given left f. instr_done given p m left f) (Ok step.More) s
        (λ given program left f. same_equal (flat_code given) (handed_so given program left f ∙ children_none given p m running.pc left f waits.waits.apart waits.pc none)) moves

    -- the place of what asks
    spot_there : (given : Given) → (asks_at given p running.pc (reverse m.frames.frames) (scene_now given p m)).at ≡ spot
    spot_there given =
        ap (λ o. option_map_or (λ (j : Instr). place (out-Instr j)) o (record { file = 0; offset = 0 })) (instr_there given p r running n i at is)
        ∙ ap place (for_children spot (out-Instr i) asks).is

    pub children_gone : can_have_children (paths.current (path m.source.stack)) ≡ true → spent_in (reverse m.frames.frames) ≡ Some true → MovesFrom p was (Err (fault ChildrenTwice spot)) m
    children_gone has spent = record {
      alone = tt;
      over = λ e. absurd (cc);
      does = λ given new program left f.
          same_equal (flat_code given)
          (handed_so given program left f ∙ children_twice given p m running.pc left f waits.waits.apart waits.pc has spent ∙ ap (λ k. Halt (fault_at ChildrenTwice k)) (spot_there given));
    }

    pub children_list : (level : ℕ) (frames : FrameStack) → IsAlone p r → can_have_children (paths.current (path m.source.stack)) ≡ true → spent_in (reverse m.frames.frames) ≡ Some false
        → level_in (reverse m.frames.frames) ≡ Some level → reverse frames.frames ≡ all_spent level (reverse m.frames.frames)
        → MovesFrom p was (Ok step.More) (record m { frames = frames; doing = doing.List })
    children_list level frames alone has unspent own spends =
        let here = handed_alone p r m running n i spot done at h alone waits in
        let unknown : m.source.ahead ≡ ahead.Nothing = waits_unknown p m running.pc running.body waits here unspent has in
        let w = waits.waits in
        let gone_now : spent_in (all_spent level (reverse m.frames.frames)) ≡ Some true = says_so p w.stations level 0 true (reverse m.frames.frames) (standing_of m) w.waits.well own in
        let s = record m { frames = frames; doing = doing.List } in
        record {
          alone = record {
            origin = here.origin;
            outer = here.outer;
            aside = here.aside;
            held = here.held;
            counted = λ e. absurd (w.apart e);
            whole = λ e. absurd (let no : ahead.Nothing ≡ ahead.Ended = sym unknown ∙ e in cc);
            untouched =
                untouched_to (all_spent level (reverse m.frames.frames)) (reverse frames.frames) (nodes_of m.source) (nodes_of m.source) (sym spends) refl
                (again_untouched m (all_spent level (reverse m.frames.frames)) gone_now (list_by m has));
            fuel = here.fuel;
          };
          over = λ e. absurd (let no : step.More ≡ step.Over = of_ok (Ok step.More) refl e in cc);
          does = λ given new program left f.
              same_equal (flat_code given)
              (handed_so given program left f ∙ children_go given p m running.pc left f w.apart waits.pc s level has unspent (body_untouched p m w here) unknown spends refl);
        }

  -- values that aren't given stop it
  pub children_stop : {A : Type 0} (e : Stop) (s : Run) → Hands {A = A} p i spot running.pc (Err e) r m → MovesFrom p was (Err e) s
  children_stop e s h = record {
    alone = tt;
    over = λ o. absurd (cc);
    does = λ given new program left f.
        hands_stop given p r m running n i spot at program is (takes_children given) Step e (λ a. children_first given p r m running n i spot at program is asks a) h.gave left f
        (still.still given p s left f);
  }
