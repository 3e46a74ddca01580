-- A node that is asked for again, and has no other template, is passed through.
use Rattle.std.proofs.Common.{◌≡◌, ◌≢◌, ◌≤◌, ℕ, Bool, true, false, List, [], ◌∷◌, reverse, Option, Some, None, Result, Ok, Err, IsSome, refl, ap, sym, subst, ◌∙◌}
use Rattle.std.specs.Prelude.{◌==◌, if◌then◌else◌, option_map, slice_get, unwrap_or}
use Rattle.std.specs.Option.{option_map_or}
use Rattle.stx_base.specs.Course.{Ask, Halt, Ret, says}
use Rattle.stx_base.proofs.Course.{funext, same_equal}
use Rattle.stx_base.specs.declared.fault.Place.{Place}
use Rattle.stx_base.specs.declared.fault.RunCode.TheVariants.{ChildrenTwice}
use Rattle.stx_base.specs.declared.name.Binding.{Binding}
use Rattle.frame_stack.specs.declared.frame.Frame.{Frame}
use Rattle.frame_stack.specs.declared.frame.Frame.TheVariants.{Pass}
use Rattle.group_scope.specs.Choice.{chosen_of}
use Rattle.group_scope.specs.declared.rank.Chosen.{Chosen}
use Rattle.group_scope.specs.declared.rank.Rank.{Rank}
use Rattle.instr_code.specs.Running as running
use Rattle.node_stack.specs.Path.{Attribute, CData, Chars, Comment, Document, Element, Node, PathNode, Pi, can_have_children, current, is_attribute}
use Rattle.node_stack.specs.Stack.{path}
use Rattle.result_writer.specs.Target.{Left, Target}
use Rattle.sheet_model.specs.Passing.{kinds}
use Rattle.sheet_model.specs.declared.sheet.Group.{Group}
use Rattle.sheet_model.specs.declared.sheet.Sheet.{Sheet}
use Rattle.var_store.specs.declared.bound.Bound.{Bound}
use Rattle.xml_events.specs.Document.{inner, outer}
use Rattle.xml_events.specs.Tree.{Future}
use Rattle.template_machine.specs.Asking.{base_by, place_by}
use Rattle.template_machine.specs.Behind.{MovesFrom, StepsFrom, asked_again, instr_done, lists_now, scene_now}
use Rattle.template_machine.specs.Bodies.{active_in, all_spent, level_in, skipped_in, spent_in}
use Rattle.template_machine.specs.Choosing.{ChoosesAs}
use Rattle.template_machine.specs.Ending.{Said, fault_at}
use Rattle.template_machine.specs.Entering.{again_opened, first_parts}
use Rattle.template_machine.specs.Job.{Does, Given, Here, Main, Nodes, State, all_of, single, with_state}
use Rattle.template_machine.specs.Lists.{rest_of}
use Rattle.template_machine.specs.Moments.{GoesOrWaits}
use Rattle.template_machine.specs.Ordinary.{IsAlone}
use Rattle.template_machine.specs.Passing.{children, choice, gone, group_at, kinds_in, parts_before, parts_behind, pass_node, pass_of, passed_on, place_of}
use Rattle.template_machine.specs.Programs.{IsProgramOf}
use Rattle.template_machine.specs.Putting.{puts}
use Rattle.template_machine.specs.Saying.{Puts, placed}
use Rattle.template_machine.specs.Seen.{named_of}
use Rattle.template_machine.specs.Sources.{held_node}
use Rattle.template_machine.specs.Standing.{known_now, standing_of}
use Rattle.template_machine.specs.Still as still
use Rattle.template_machine.specs.Still.{Lists, Returns, Scene, first_node, nodes_of, state_of, trail_of}
use Rattle.template_machine.specs.Stepwise.{Flat_does, Working, flat_code, lifted}
use Rattle.template_machine.specs.Stops.{fault}
use Rattle.template_machine.specs.Trail as trail
use Rattle.template_machine.specs.Trail.{Trail, scope_of}
use Rattle.template_machine.specs.Well.{is_again}
use Rattle.template_machine.specs.Working.{Awaits}
use Rattle.template_machine.specs.declared.program.Program.{Program}
use Rattle.template_machine.specs.declared.run.Asker.TheVariants as asker
use Rattle.template_machine.specs.declared.run.Doing.TheVariants as doing
use Rattle.template_machine.specs.declared.run.Run.{Run}
use Rattle.template_machine.specs.declared.run.Step.{Step}
use Rattle.template_machine.specs.declared.source.Ahead.TheVariants as ahead
use Rattle.template_machine.specs.declared.stop.Stop.{Stop}
use Rattle.template_machine.specs.Ways.{here, way_of}
use Rattle.template_machine.proofs.AskedAgain.{comes_to, going, gone_is, nodes_same, returns_any, some_level}
use Rattle.template_machine.proofs.Behind.{gone_on, kids_on}
use Rattle.template_machine.proofs.Children.{is_open, no_attribute}
use Rattle.template_machine.proofs.Finished.{attribute_now, current_there, first_now}
use Rattle.template_machine.proofs.HeadTaken.{GoesOnBy}
use Rattle.template_machine.proofs.Operated.{of_ok}
use Rattle.template_machine.proofs.PassedOn.{lifted_says, proceeds_on, stops_first}
use Rattle.template_machine.proofs.PassedThrough.{first_as, goes_only, nodes_there, opens_no_attribute, puts_alike, unknown_by}
use Rattle.template_machine.proofs.Sighting.{front}
use Rattle.template_machine.proofs.Spent.{again_spent, rest_spent}
use Rattle.template_machine.proofs.Ways.{way_here}
use Rattle.template_machine.proofs.Whose.{same_number}
use Rattle.template_machine.proofs.Untouched.{IsUntouched, pass_none, untouched_here, untouched_to}

-- What is put of it, and what follows.

module _ (given : Given) (twice : Place) (base : ℕ) (trail_now : Trail) (b : Here) where
  abbrev then_children : Node → State → Does
  then_children n st =
      children twice (passed_on given base Main trail_now) (with_state b st) (λ b.
      puts given (group_at given base) (parts_behind (kinds_in given base) n) b.state (λ s. Ret (with_state b s)))

  abbrev then_go : Node → State → Does
  then_go Document st = then_children Document st
  then_go (Element name attrs decls first) st = then_children (Element name attrs decls first) st
  then_go n st = Ret (with_state b st)

  abbrev put_first : Option Group → (scope : List Binding) → Node → State → Does
  put_first o sc n st = puts given (place_of o) (first_parts (pass_of given o) sc n) st (then_go n)

  by_node : (n : Node) → trail.current trail_now ≡ n
      → pass_node given twice base Main trail_now (trail.current trail_now) b ≡ put_first (slice_get given.sheet.groups base) (scope_of trail_now) n b.state
  by_node Document e =
      ap (λ y. pass_node given twice base Main trail_now y b) e
      ∙ ap (λ y. puts given (group_at given base) (parts_before (kinds_in given base) trail_now y) b.state (then_children y)) e
  by_node (Element name attrs decls first) e =
      ap (λ y. pass_node given twice base Main trail_now y b) e
      ∙ ap (λ y. puts given (group_at given base) (parts_before (kinds_in given base) trail_now y) b.state (then_children y)) e
  by_node (Chars text) e = ap (λ y. pass_node given twice base Main trail_now y b) e
  by_node (CData text) e = ap (λ y. pass_node given twice base Main trail_now y b) e
  by_node (Comment text) e = ap (λ y. pass_node given twice base Main trail_now y b) e
  by_node (Pi target_is text) e = ap (λ y. pass_node given twice base Main trail_now y b) e
  by_node (Attribute a) e = ap (λ y. pass_node given twice base Main trail_now y b) e

module _ (p : Program) (r m : Run) (asked body level base : ℕ) (spent : Bool) (h : Awaits p r asked body) (own : level_in (reverse r.frames.frames) ≡ Some level)
    (gone_so : spent_in (reverse r.frames.frames) ≡ Some spent) (based : base ≡ base_by p (asker.Instr asked body)) (g : Group) (is : slice_get p.sheet.groups base ≡ Some g) (n : Node)
    (there : current (path r.source.stack) ≡ Some n) (scope : List Binding) (bound : scope ≡ scope_of (trail_of (nodes_of r.source)))
    (chooses : ChoosesAs p r base (active_in level (reverse r.frames.frames)) None) (rest : m ≡ record r { putting = m.putting }) where
  abbrev twice : Place
  twice = place_by p (asker.Instr asked body)

  abbrev st_put : Given → Left → State
  st_put given left = state_of given p (record r { putting = m.putting }) left

  module _ (given : Given) (program : IsProgramOf given.sheet given.limits p) (left : Left) (f : Future) where
    abbrev there_go : GoesOnBy given p spent (first_node (scene_now given p r).nodes) (rest_of (scene_now given p r).nodes) (lists_now given p r f)
    there_go = going given p program r asked body level spent h own gone_so f

    abbrev b_now : Here
    b_now = record (there_go.here (state_of given p r left)) { locals = named_of (still.locals_in given p (reverse r.frames.frames)) }

    abbrev trail_now : Trail
    trail_now = trail_of (scene_now given p r).nodes

    abbrev returns_all : Future → Here → Flat_does
    returns_all g a = still.rest given p Returns [] (reverse r.frames.frames) (scene_now given p r) g a

    abbrev behind : Here → Flat_does
    behind = returns_all there_go.coming

    nodes_are : (scene_now given p r).nodes ≡ nodes_of r.source
    nodes_are = nodes_same given p program r asked body level spent h own gone_so

    first_is : first_node (scene_now given p r).nodes ≡ n
    first_is = ap first_node nodes_are ∙ first_now r n there

    current_is : trail.current trail_now ≡ n
    current_is = first_as (scene_now given p r).nodes ∙ first_is

    scope_same : scope ≡ scope_of trail_now
    scope_same = bound ∙ ap (λ ns. scope_of (trail_of ns)) (sym nodes_are)

    group_there : slice_get given.sheet.groups base ≡ Some g
    group_there = ap (λ (s : Sheet). slice_get s.groups base) (sym program.sheet_is) ∙ is

    none_chosen : (o : Option Rank) → None ≡ option_map chosen_of o → o ≡ None
    none_chosen None e = refl
    none_chosen (Some c) e = absurd (cc)

    abbrev goes_by : Node → State → Does
    goes_by = then_go given twice base trail_now b_now

    passed_is : asked_again given p asked r left f ≡ lifted (puts given g.at (first_parts (kinds g.pass) scope n) (state_of given p r left) (goes_by n)) behind
    passed_is =
        let st = state_of given p r left in
        let active = active_in level (reverse r.frames.frames) in
        comes_to given p program r asked body level spent h own gone_so left f None
        (ap (λ k. choice given k active (trail_of (nodes_of r.source)) st) (sym based) ∙ none_chosen _ (chooses given program left))
        ∙ ap (λ k. lifted (pass_node given twice k Main trail_now (trail.current trail_now) b_now) behind) (sym based)
        ∙ ap (λ y. lifted y behind)
        (by_node given twice base trail_now b_now n current_is
        ∙ ap (λ sc. put_first given twice base trail_now b_now (slice_get given.sheet.groups base) sc n b_now.state) (sym scope_same)
        ∙ ap (λ o. put_first given twice base trail_now b_now o scope n b_now.state) group_there
        ∙ ap (λ s. puts given g.at (first_parts (kinds g.pass) scope n) s (goes_by n)) (there_go.same st))

    some_there : IsSome (level_in (reverse r.frames.frames))
    some_there = some_level given p program r asked body level spent h own gone_so

    spent_there : unwrap_or (spent_in (reverse r.frames.frames)) true ≡ spent
    spent_there = gone_is given p program r asked body level spent h own gone_so

    module _ (left_now : Left) where
      abbrev st_now : State
      st_now = st_put given left_now

      abbrev next_is : Flat_does
      next_is = lifted (goes_by n (state_of given p m left_now)) behind

      abbrev over_by : Bool → State → Flat_does
      over_by none_left st = still.goes_on_at given p none_left (first_node (scene_now given p r).nodes) (rest_of (scene_now given p r).nodes) (lists_now given p r f) returns_all st

      -- nothing more
      over_is : behind (with_state b_now (state_of given p m left_now)) ≡ instr_done given p m left_now f
      over_is =
          ap (λ (y : Run). behind (with_state b_now (state_of given p y left_now))) rest
          ∙ returns_any given p [] (reverse r.frames.frames) (scene_now given p r) there_go.coming (with_state (there_go.here (state_of given p r left)) st_now)
          (named_of (still.locals_in given p (reverse r.frames.frames))) some_there
          ∙ ap behind (there_go.other (state_of given p r left) st_now)
          ∙ sym (there_go.goes returns_all st_now)
          ∙ sym (ap (λ s. over_by s st_now) spent_there)
          ∙ sym (ap (λ (y : Run). instr_done given p y left_now f) rest)

      goes_over : can_have_children (Some n) ≡ false → next_is ≡ instr_done given p m left_now f
      goes_over leaf = by n leaf
        where
          by : (y : Node) → can_have_children (Some y) ≡ false → lifted (goes_by y (state_of given p m left_now)) behind ≡ instr_done given p m left_now f
          by Document l = absurd (cc)
          by (Element name attrs decls first) l = absurd (cc)
          by (Chars text) l = over_is
          by (CData text) l = over_is
          by (Comment text) l = over_is
          by (Pi target_is text) l = over_is
          by (Attribute a) l = over_is

      abbrev ends_by : Node → Here → Does
      ends_by y b = puts given (group_at given base) (parts_behind (kinds_in given base) y) b.state (λ s. Ret (with_state b s))

      abbrev opens_by : Bool → State → Flat_does
      opens_by none_left st =
          still.goes_on_at given p none_left (first_node (scene_now given p r).nodes) (rest_of (scene_now given p r).nodes) (lists_now given p r f)
          (λ g a.
          lifted
          (children twice (passed_on given base Main trail_now) (record a { locals = named_of (still.locals_in given p (reverse r.frames.frames)) }) (ends_by (trail.current trail_now)))
          (returns_all g)) st

      -- its children
      opened_is : (y : Node) → trail.current trail_now ≡ y
          → lifted (then_children given twice base trail_now b_now y (state_of given p m left_now)) behind ≡ again_opened given p twice base m left_now f
      opened_is y e =
          ap (λ (s : Run). lifted (then_children given twice base trail_now b_now y (state_of given p s left_now)) behind) rest
          ∙ ap (λ z. lifted (then_children given twice base trail_now b_now z st_now) behind) (sym e)
          ∙ ap (λ b. lifted (children twice (passed_on given base Main trail_now) (record b { locals = named_of (still.locals_in given p (reverse r.frames.frames)) }) (ends_by (trail.current trail_now))) behind)
          (there_go.other (state_of given p r left) st_now)
          ∙ sym
          (there_go.goes
          (λ g a.
          lifted
          (children twice (passed_on given base Main trail_now) (record a { locals = named_of (still.locals_in given p (reverse r.frames.frames)) }) (ends_by (trail.current trail_now)))
          (returns_all g)) st_now)
          ∙ sym (ap (λ s. opens_by s st_now) spent_there)
          ∙ sym (ap (λ (s : Run). again_opened given p twice base s left_now f) rest)

      goes_opened : can_have_children (Some n) ≡ true → next_is ≡ again_opened given p twice base m left_now f
      goes_opened list = by n current_is list
        where
          by : (y : Node) → trail.current trail_now ≡ y → can_have_children (Some y) ≡ true → lifted (goes_by y (state_of given p m left_now)) behind ≡ again_opened given p twice base m left_now f
          by Document e l = opened_is Document e
          by (Element name attrs decls first) e l = opened_is (Element name attrs decls first) e
          by (Chars text) e l = absurd (cc)
          by (CData text) e l = absurd (cc)
          by (Comment text) e l = absurd (cc)
          by (Pi target_is text) e l = absurd (cc)
          by (Attribute a) e l = absurd (cc)

      -- which are gone
      goes_twice : can_have_children (Some n) ≡ true → spent ≡ true → next_is ≡ Halt (fault_at ChildrenTwice twice)
      goes_twice list gone_now =
          goes_opened list
          ∙ ap (λ (s : Run). again_opened given p twice base s left_now f) rest
          ∙ ap (λ s. opens_by s st_now) (spent_there ∙ gone_now)
          ∙ gone_on given p true (first_node (scene_now given p r).nodes) (rest_of (scene_now given p r).nodes) (lists_now given p r f)
          (λ g a.
          lifted
          (children twice (passed_on given base Main trail_now) (record a { locals = named_of (still.locals_in given p (reverse r.frames.frames)) }) (ends_by (trail.current trail_now)))
          (returns_all g)) st_now (ap (λ y. is_attribute (Some y)) first_is ∙ opens_no_attribute n list) refl

  -- Steps from there on.

  module _ {S : Type 0} (output : S → Target) (told : S → S → List Said → Type 0) (out mid : S) where
    abbrev Parts : Result (Unit {0}) Stop → Type 0
    Parts result = Puts {A = Unit {0}} output told g.at (first_parts (kinds g.pass) scope n) result r.putting m.putting out mid

    abbrev came_from : Given → Left → Future → Flat_does
    came_from given left f = asked_again given p asked r left f

    said_first : (q : Parts (Ok tt)) (given : Given) (program : IsProgramOf given.sheet given.limits p) → (output out).limit ≡ given.limits.elements → (f : Future)
        → asked_again given p asked r (output out).left f ≡ says q.said (next_is given program (output out).left f (output mid).left)
    said_first q given program limit f =
        let left = (output out).left in
        let k = behind given program left f in
        let go = goes_by given program left f n in
        passed_is given program left f
        ∙ ap (λ y. lifted y k) (q.does given limit (state_of given p r left) go)
        ∙ lifted_says q.said (go (placed m.putting (output mid).left (state_of given p r left))) k
        ∙ ap (λ st. says q.said (lifted (go st) k)) (sym (ap (λ (y : Run). state_of given p y (output mid).left) rest))

    module _ (now : Given → Left → Future → Flat_does)
        (same : (given : Given) (program : IsProgramOf given.sheet given.limits p) (left left_now : Left) (f : Future) → next_is given program left f left_now ≡ now given left_now f) where
      put_then : (result : Result Step Stop) (s : Run) → Parts (Ok tt) → MovesFrom p now result s → StepsFrom output told p came_from result s out mid
      put_then result s q moves = record {
        said = q.said;
        tells = q.tells;
        alone = moves.alone;
        over = moves.over;
        does = λ given new program params limit f.
            let left_now = (output mid).left in
            proceeds_on given p result (came_from given (output out).left f) (now given left_now f) q.said (still.still given p s left_now f)
            (same_equal (flat_code given) (said_first q given program limit f ∙ ap (says q.said) (same given program (output out).left left_now f)))
            (moves.does given new program left_now f);
      }

    -- it has no children, and the instruction is over
    pub again_over : can_have_children (Some n) ≡ false → (result : Result Step Stop) (s : Run) → Parts (Ok tt) → MovesFrom p (λ given left f. instr_done given p m left f) result s
        → StepsFrom output told p came_from result s out mid
    again_over leaf result s q moves =
        put_then (λ given left f. instr_done given p m left f) (λ given program left left_now f. goes_over given program left f left_now leaf) result s q moves

    -- its children are processed
    pub again_opens : can_have_children (Some n) ≡ true → (result : Result Step Stop) (s : Run) → Parts (Ok tt) → MovesFrom p (λ given left f. again_opened given p twice base m left f) result s
        → StepsFrom output told p came_from result s out mid
    again_opens list result s q moves =
        put_then (λ given left f. again_opened given p twice base m left f) (λ given program left left_now f. goes_opened given program left f left_now list) result s q moves

    -- they are gone
    pub again_twice : can_have_children (Some n) ≡ true → spent ≡ true → (e : Stop) → e ≡ fault ChildrenTwice twice → Parts (Ok tt) → StepsFrom output told p came_from (Err e) m out mid
    again_twice list gone_now e is_twice q =
        subst (λ y. StepsFrom output told p came_from (Err y) m out mid) (sym is_twice)
        (put_then (λ given left f. Halt (fault_at ChildrenTwice twice)) (λ given program left left_now f. goes_twice given program left f left_now list gone_now) (Err (fault ChildrenTwice twice)) m q
        (record { alone = tt; over = λ y. absurd (cc); does = λ given new program left f. same_equal (flat_code given) refl }))

    -- a part isn't put, or memory is wanting
    pub again_unput : (e : Stop) → Parts (Err e) → StepsFrom output told p came_from (Err e) m out mid
    again_unput e q = record {
      said = q.said;
      tells = q.tells;
      alone = tt;
      over = λ y. absurd (cc);
      does = λ given new program params limit f.
          let left = (output out).left in
          let go = goes_by given program left f n in
          stops_first given p e (came_from given left f) (puts given g.at (first_parts (kinds g.pass) scope n) (state_of given p r left) go) _ (behind given program left f) q.said
          (still.still given p m (output mid).left f) (same_equal (flat_code given) (passed_is given program left f)) (q.does given limit (state_of given p r left) go);
    }

-- Its children are processed, which aren't gone.

module _ (given : Given) (p : Program) (m n : Run) (base level : ℕ) (twice : Place) (list : can_have_children (current (path m.source.stack)) ≡ true) (unspent : spent_in (reverse m.frames.frames) ≡ Some false)
    (untouched : IsUntouched m) (apart : m.source.ahead ≢ ahead.Here) (unknown : m.source.ahead ≡ ahead.Nothing) (own : level_in (reverse m.frames.frames) ≡ Some level)
    (pushed : reverse n.frames.frames ≡ Pass base level true ∷ all_spent level (reverse m.frames.frames)) (rest : n ≡ record m { frames = n.frames; doing = doing.List }) (left : Left) (f : Future) where
  abbrev ls : List Frame
  ls = reverse m.frames.frames

  abbrev scene_in : List PathNode → Scene
  scene_in ns = record (scene_now given p m) { nodes = ns }

  abbrev st : State
  st = state_of given p m left

  abbrev own_locals_now : List Bound
  own_locals_now = named_of (still.locals_in given p ls)

  -- by the nodes of its path
  abbrev opened_by : Bool → List PathNode → Flat_does
  opened_by none_left ns =
      still.goes_on_at given p none_left (first_node ns) (rest_of ns) f
      (λ g a.
      lifted
      (children twice (passed_on given base Main (trail_of ns)) (record a { locals = own_locals_now }) (λ b.
      puts given (group_at given base) (parts_behind (kinds_in given base) (trail.current (trail_of ns))) b.state (λ s. Ret (with_state b s))))
      (still.rest given p Returns [] ls (scene_in ns) g)) st

  abbrev now_by : List PathNode → Flat_does
  now_by ns =
      still.rest given p Lists [] (Pass base level true ∷ all_spent level ls) (scene_in ns) (outer f)
      (record { kids = None; left = record { earlier = still.counts_of ns; coming = inner f }; locals = []; state = st })

  goes_again : is_again level (all_spent level ls) ≡ true
  goes_again = again_spent given p level ls level ∙ ap (λ o. option_map_or (λ k. k == level) o false) own ∙ same_number level

  some_body : IsSome (level_in ls)
  some_body = subst (λ o. IsSome o) (sym own) refl

  opened_there : (x : PathNode) (xs : List PathNode) → can_have_children (Some x.node) ≡ true → x.children.passing ≡ (λ t. 0) → opened_by false (x ∷ xs) ≡ now_by (x ∷ xs)
  opened_there x xs kids none =
      let ns = x ∷ xs in
      let asked = passed_on given base Main (trail_of ns) in
      let parts = parts_behind (kinds_in given base) x.node in
      let back : Here → Flat_does = still.rest given p Returns [] ls (scene_in ns) (outer (outer f)) in
      let spent_back : Here → Flat_does = still.rest given p Returns [] (all_spent level ls) (scene_in ns) (outer (outer f)) in
      let here_is : Here = record { kids = Some (inner f); left = record { earlier = still.counts_of xs; coming = inner (outer f) }; locals = own_locals_now; state = st } in
      kids_on given p x.node xs f
      (λ g a.
      lifted (children twice asked (record a { locals = own_locals_now }) (λ b. puts given (group_at given base) parts b.state (λ s. Ret (with_state b s)))) (still.rest given p Returns [] ls (scene_in ns) g)) st
      (opens_no_attribute x.node kids) kids
      ∙ ap (λ k. Ask (running.Given (Nodes (all_of (inner f)) asked st)) k)
      (funext (λ (w : Working).
      puts_alike given (group_at given base) parts w.here.state (λ s. Ret (with_state (gone here_is w.here.state) s)) (λ s. Ret (single s)) back
      (λ b. spent_back (still.siblings_of given p xs (outer f) b.state))
      (λ s.
      returns_any given p [] ls (scene_in ns) (outer (outer f)) (still.siblings_of given p xs (outer f) s) own_locals_now some_body
      ∙ sym (rest_spent given p level ls Returns [] (scene_in ns) (outer (outer f)) (still.siblings_of given p xs (outer f) s)))))
      ∙ ap (λ e. Ask (running.Given (Nodes (record { earlier = e; coming = inner f }) asked st)) (λ (w : Working).
      lifted (puts given (group_at given base) parts w.here.state (λ s. Ret (single s))) (λ b. spent_back (still.siblings_of given p xs (outer f) b.state)))) (sym none)
      ∙ ap (λ goes. Ask (running.Given (Nodes (record { earlier = x.children.passing; coming = inner f }) asked st)) (λ (w : Working).
      lifted (puts given (group_at given base) parts w.here.state (λ s. Ret (single s))) (λ b.
      if goes
      then spent_back (still.siblings_of given p xs (outer f) b.state)
      else still.rest given p Lists [] (all_spent level ls) (still.node_over (scene_in ns)) (outer (outer f)) (still.siblings_of given p xs (outer f) b.state)))) (sym goes_again)

  opened_now : (ns : List PathNode) → nodes_of m.source ≡ ns → opened_by false ns ≡ now_by ns
  opened_now ns e = by ns e
    where
      t : (n : Node) × (current (path m.source.stack) ≡ Some n)
      t = current_there m

      by : (ns : List PathNode) → nodes_of m.source ≡ ns → opened_by false ns ≡ now_by ns
      by [] e = absurd (nodes_there m e)
      by (x ∷ xs) e =
          let first : x.node ≡ t.0 = sym (ap first_node e) ∙ first_now m t.0 t.1 in
          let kids : can_have_children (Some x.node) ≡ true = ap (λ y. can_have_children (Some y)) first ∙ sym (ap can_have_children t.1) ∙ list in
          opened_there x xs kids (untouched unspent x xs e kids)

  pub opens_again : again_opened given p twice base m left f ≡ still.still given p n left f
  opens_again =
      let ns = nodes_of m.source in
      let same : still.path_before given p m.source.ahead ns ≡ ns = front m.source.ahead ns given p apart in
      ap (λ hd. still.goes_on_at given p (unwrap_or (spent_in ls) true) (first_node (still.path_before given p m.source.ahead ns)) (rest_of (still.path_before given p m.source.ahead ns)) (still.known_before given p hd ns (still.held_of given p m) f)
      (λ g a.
      lifted
      (children twice (passed_on given base Main (trail_of (still.path_before given p m.source.ahead ns))) (record a { locals = own_locals_now }) (λ b.
      puts given (group_at given base) (parts_behind (kinds_in given base) (trail.current (trail_of (still.path_before given p m.source.ahead ns)))) b.state (λ s. Ret (with_state b s))))
      (still.rest given p Returns [] ls (scene_in (still.path_before given p m.source.ahead ns)) g)) st) unknown
      ∙ ap (opened_by (unwrap_or (spent_in ls) true)) same
      ∙ ap (λ o. opened_by (unwrap_or o true) ns) unspent
      ∙ opened_now ns refl
      ∙ sym
      (ap (λ (y : Run). still.still given p y left f) rest
      ∙ ap (λ l. still.doing_now given p doing.List m.source.ahead l (record m { frames = n.frames; doing = doing.List }) left f) pushed
      ∙ ap (λ hd. still.doing_now given p doing.List hd (Pass base level true ∷ all_spent level ls) (record m { frames = n.frames; doing = doing.List }) left f) unknown)

-- nothing is known of a body's node whose children aren't gone
pub waits_unknown : (p : Program) (r : Run) (asked body : ℕ) → Awaits p r asked body → IsAlone p r → spent_in (reverse r.frames.frames) ≡ Some false → can_have_children (current (path r.source.stack)) ≡ true
    → r.source.ahead ≡ ahead.Nothing
waits_unknown p r asked body h alone unspent list =
    let w = h.waits in
    let has = ap can_have_children (way_here (path r.source.stack)) ∙ list in
    let o = is_open p w.stations (reverse r.frames.frames) (standing_of r) (known_now r) w.waits has unspent in
    unknown_by r.source.ahead r.source.held w.apart w.steady.source.held alone.held o.0

pub again_moves : (p : Program) (m n s : Run) (base level : ℕ) (twice : Place) (t : Step) → IsAlone p m → can_have_children (current (path m.source.stack)) ≡ true → spent_in (reverse m.frames.frames) ≡ Some false
    → IsUntouched m → m.source.ahead ≢ ahead.Here → m.source.ahead ≡ ahead.Nothing → level_in (reverse m.frames.frames) ≡ Some level
    → reverse n.frames.frames ≡ Pass base level true ∷ all_spent level (reverse m.frames.frames) → n ≡ record m { frames = n.frames; doing = doing.List }
    → GoesOrWaits t s → MovesFrom p (λ given left f. again_opened given p twice base m left f) (Ok t) n
again_moves p m n s base level twice t alone list unspent untouched apart unknown own pushed rest goes =
    let opened : List Frame = Pass base level true ∷ all_spent level (reverse m.frames.frames) in
    record {
      alone = record {
        origin = ap (λ (y : Run). y.source.origin) rest ∙ alone.origin;
        outer = ap (λ (y : Run). y.outer.items) rest ∙ alone.outer;
        aside = ap (λ (y : Run). y.aside.items) rest ∙ alone.aside;
        held = ap (λ (y : Run). held_node y.source) rest ∙ alone.held;
        counted = λ is. absurd (let no : ahead.Nothing ≡ ahead.Here = sym unknown ∙ sym (ap (λ (y : Run). y.source.ahead) rest) ∙ is in cc);
        whole = λ is depth skipped. absurd (let no : None ≡ Some depth = sym (ap skipped_in pushed) ∙ skipped in cc);
        untouched =
            untouched_to opened (reverse n.frames.frames) (nodes_of m.source) (nodes_of n.source) (sym pushed) (sym (ap (λ (y : Run). nodes_of y.source) rest))
            (untouched_here opened (nodes_of m.source) (attribute_now m ∙ no_attribute (here (way_of (path m.source.stack))) (ap can_have_children (way_here (path m.source.stack)) ∙ list))
            (λ e. pass_none base level true (all_spent level (reverse m.frames.frames)) e));
        fuel = subst (λ u. u ≤ p.limits.fuel) (sym (ap (λ (y : Run). y.fuel) rest)) alone.fuel;
      };
      over = λ e. absurd (goes_only t s goes (of_ok (Ok _) refl e));
      does = λ given new program left f. same_equal (flat_code given) (opens_again given p m n base level twice list unspent untouched apart unknown own pushed rest left f);
    }

-- What holds behind parts that were put.

pub untouched_put : (r m : Run) → m ≡ record r { putting = m.putting } → IsUntouched r → IsUntouched m
untouched_put r m rest touched unspent x xs e kids =
    touched (sym (ap (λ (y : Run). spent_in (reverse y.frames.frames)) rest) ∙ unspent) x xs (sym (ap (λ (y : Run). nodes_of y.source) rest) ∙ e) kids

-- the choice is of the base group of what asked, and of templates that aren't active
pub chosen_again : (p : Program) (r : Run) (base base_now : ℕ) (l active : List ℕ) (o now : Option Chosen) → base ≡ base_now → l ≡ active → o ≡ now → ChoosesAs p r base l o → ChoosesAs p r base_now active now
chosen_again p r base base_now l active o now based same is chooses =
    subst (ChoosesAs p r base_now active) is (subst (λ k. ChoosesAs p r base_now k o) same (subst (λ b. ChoosesAs p r b l o) based chooses))
