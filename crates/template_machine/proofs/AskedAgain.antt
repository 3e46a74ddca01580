-- The current node is asked for again: the next template for it begins, or else it is passed through.
use Rattle.std.proofs.Common.{◌≡◌, ◌≤◌, ℕ, zero, suc, ◌+◌, Bool, true, false, List, [], ◌∷◌, ◌++◌, map, reverse, Option, Some, None, Result, Ok, Err, IsSome, refl, ap, sym, subst, ◌∙◌, arith}
use Rattle.std.specs.Prelude.{◌==◌, if◌then◌else◌, option_map, slice_get, unwrap_or}
use Rattle.std.specs.Option.{option_map_or}
use Rattle.std.proofs.lemmas.List.{reverse-reverse}
use Rattle.std.proofs.lemmas.Option.{slice_get-map}
use Rattle.stx_base.specs.Course.{Ask, Ret, Same}
use Rattle.stx_base.proofs.Course.{funext, same_equal, same_then}
use Rattle.stx_base.specs.declared.limits.Limits.{Limits}
use Rattle.stx_base.specs.declared.node.NodeTest.TheVariants as test
use Rattle.frame_stack.specs.declared.frame.Frame.{Frame}
use Rattle.frame_stack.specs.declared.frame.Frame.TheVariants.{Attributes, Body, Call, Loop, Pass, Region, Skip, Source}
use Rattle.frame_stack.specs.declared.locals.Local.{Local}
use Rattle.frame_stack.specs.Change.{locals_of}
use Rattle.group_scope.specs.declared.rank.Chosen.{Chosen}
use Rattle.group_scope.specs.declared.rank.Rank.{Rank}
use Rattle.instr_code.specs.Bare.{template_without_body}
use Rattle.instr_code.specs.Code.{code_of, sheet_bodies}
use Rattle.instr_code.specs.declared.code.Code.{Code}
use Rattle.instr_code.specs.Running.{At}
use Rattle.match_patterns.specs.Fits.{test_of}
use Rattle.result_writer.specs.Target.{Left, Target}
use Rattle.sheet_model.specs.declared.instr.Instr.{Instr}
use Rattle.sheet_model.specs.declared.sheet.Procedure.{Procedure}
use Rattle.sheet_model.specs.declared.sheet.Sheet.{Sheet}
use Rattle.sheet_model.specs.declared.sheet.Template.{Template}
use Rattle.stxpath_values.specs.declared.value.Atom.{Atom}
use Rattle.var_store.specs.declared.bound.Bound.{Bound}
use Rattle.xml_events.specs.Document.{outer}
use Rattle.xml_events.specs.Tree.{Future}
use Rattle.template_machine.specs.Asking.{base_by, place_by}
use Rattle.template_machine.specs.Behind.{StepsFrom, asked_again, lists_now, scene_now, whose_in}
use Rattle.template_machine.specs.Bodies.{active_by, active_in, level_in, skipped_in, spent_in}
use Rattle.template_machine.specs.declared.bodies.Seen.TheVariants.{Template as Own, Outside}
use Rattle.template_machine.specs.Choosing.{ChoosesAs}
use Rattle.template_machine.specs.Commands.{HasParams}
use Rattle.template_machine.specs.Declaring.{ends_scope, makes_scope}
use Rattle.template_machine.specs.Ending.{Said}
use Rattle.template_machine.specs.Entering.{Enters, self_entered}
use Rattle.template_machine.specs.Job as job
use Rattle.template_machine.specs.Job.{Does, Given, Here, Level, Main, Self, State}
use Rattle.template_machine.specs.Lists.{rest_of}
use Rattle.template_machine.specs.Ordinary.{IsAlone}
use Rattle.template_machine.specs.Outcome.{AreNew}
use Rattle.template_machine.specs.Parameters.{handed_by}
use Rattle.template_machine.specs.Passing.{again, choice, enters, instance, pass_node, returns, run_as, runs, template_at}
use Rattle.template_machine.specs.Programs.{IsProgramOf, instr_at}
use Rattle.template_machine.specs.Saying.{Proceeds, Yields}
use Rattle.template_machine.specs.Seen.{named_of}
use Rattle.template_machine.specs.Sources.{held_node}
use Rattle.template_machine.specs.Standing.{standing_of}
use Rattle.template_machine.specs.Still as still
use Rattle.template_machine.specs.Still.{Lists, Returns, Runs, Scene, aside_of, first_node, nodes_of, state_of, trail_of}
use Rattle.template_machine.specs.Stepwise.{Flat_does, Working, flat_code, lifted}
use Rattle.template_machine.specs.Trail as trail
use Rattle.template_machine.specs.Trail.{Trail}
use Rattle.template_machine.specs.Well.{is_again}
use Rattle.template_machine.specs.Working.{Awaits, IsChosen}
use Rattle.template_machine.specs.declared.program.Program.{Program}
use Rattle.template_machine.specs.declared.run.Asker.{Asker}
use Rattle.template_machine.specs.declared.run.Asker.TheVariants as asker
use Rattle.template_machine.specs.declared.run.Doing.TheVariants as doing
use Rattle.template_machine.specs.declared.run.Run.{Run}
use Rattle.template_machine.specs.declared.run.Step.{Step}
use Rattle.template_machine.specs.declared.run.Step.TheVariants as step
use Rattle.template_machine.specs.declared.stop.Stop.{Stop}
use Rattle.template_machine.specs.declared.stop.Stop.TheVariants as stop
use Rattle.template_machine.proofs.Calling.{level_here}
use Rattle.template_machine.proofs.HeadTaken.{GoesOnBy, goes_so, own_locals, rank_there, template_there}
use Rattle.template_machine.proofs.Placing.{placed as frame_placed}
use Rattle.template_machine.proofs.RunByCode.{bodies_run}
use Rattle.template_machine.proofs.Sighting.{front}
use Rattle.template_machine.proofs.Whose.{same_number, test_by}
use Rattle.template_machine.proofs.Untaken.{same_untouched}
use Rattle.template_machine.proofs.Untouched.{untouched_to}

some_same : {A : Type 0} {x y : A} → Some x ≡ Some y → x ≡ y
some_same e = cc

plus_one : (n : ℕ) → 1 + n ≡ n + 1
plus_one n = omega arith

-- Whose the innermost body is, and what it goes on with.

module _ (given : Given) (p : Program) where
  -- whatever locals are given to it
  pub returns_any : (turns : List ℕ) (fs : List Frame) (c : Scene) (f : Future) (a : Here) (l : List Bound) → IsSome (level_in fs)
      → still.rest given p Returns turns fs c f (record a { locals = l }) ≡ still.rest given p Returns turns fs c f a
  returns_any turns [] c f a l some = refl
  returns_any turns (Loop turn ∷ fs) c f a l some = returns_any (turns ++ turn ∷ []) fs c f a l some
  returns_any turns (Body template alternative pc locals own spent ∷ fs) c f a l some = refl
  returns_any turns (Call procedure pc locals own ∷ fs) c f a l some = refl
  returns_any turns (Region asked own ∷ fs) c f a l some = absurd (cc)
  returns_any turns (Attributes next asked ∷ fs) c f a l some = absurd (cc)
  returns_any turns (Source buffer next asked ∷ fs) c f a l some = absurd (cc)
  returns_any turns (Skip depth ∷ fs) c f a l some = absurd (cc)
  returns_any turns (Pass base own spent ∷ fs) c f a l some = absurd (cc)

  module _ (c : Scene) (level : ℕ) where
    whose_active : (fs : List Frame) → level_in fs ≡ Some level → (whose_in given p fs c).active ≡ active_in level fs
    whose_active [] e = absurd (cc)
    whose_active (Loop turn ∷ fs) e = whose_active fs e
    whose_active (Body template alternative pc locals own spent ∷ fs) e =
        let same : own ≡ level = some_same e in ap (λ n. active_in n (Body template alternative pc locals own spent ∷ fs)) same
    whose_active (Call procedure pc locals own ∷ fs) e = let same : own ≡ level = some_same e in ap (λ n. active_in n (Call procedure pc locals own ∷ fs)) same
    whose_active (Region asked own ∷ fs) e = absurd (cc)
    whose_active (Attributes next asked ∷ fs) e = absurd (cc)
    whose_active (Source buffer next asked ∷ fs) e = absurd (cc)
    whose_active (Skip depth ∷ fs) e = absurd (cc)
    whose_active (Pass base own spent ∷ fs) e = absurd (cc)

    whose_level : (fs : List Frame) → level_in fs ≡ Some level → (whose_in given p fs c).level ≡ still.level_at given p level c.source fs
    whose_level [] e = absurd (cc)
    whose_level (Loop turn ∷ fs) e = whose_level fs e
    whose_level (Body template alternative pc locals own spent ∷ fs) e =
        let same : own ≡ level = some_same e in ap (λ n. still.level_at given p n c.source (Body template alternative pc locals own spent ∷ fs)) same
    whose_level (Call procedure pc locals own ∷ fs) e =
        let same : own ≡ level = some_same e in ap (λ n. still.level_at given p n c.source (Call procedure pc locals own ∷ fs)) same
    whose_level (Region asked own ∷ fs) e = absurd (cc)
    whose_level (Attributes next asked ∷ fs) e = absurd (cc)
    whose_level (Source buffer next asked ∷ fs) e = absurd (cc)
    whose_level (Skip depth ∷ fs) e = absurd (cc)
    whose_level (Pass base own spent ∷ fs) e = absurd (cc)

    whose_trail : (fs : List Frame) → level_in fs ≡ Some level → (whose_in given p fs c).trail ≡ trail_of c.nodes
    whose_trail [] e = absurd (cc)
    whose_trail (Loop turn ∷ fs) e = whose_trail fs e
    whose_trail (Body template alternative pc locals own spent ∷ fs) e = refl
    whose_trail (Call procedure pc locals own ∷ fs) e = refl
    whose_trail (Region asked own ∷ fs) e = absurd (cc)
    whose_trail (Attributes next asked ∷ fs) e = absurd (cc)
    whose_trail (Source buffer next asked ∷ fs) e = absurd (cc)
    whose_trail (Skip depth ∷ fs) e = absurd (cc)
    whose_trail (Pass base own spent ∷ fs) e = absurd (cc)

  -- whose a body is that begins on the node of another
  module _ (rank : Rank) (start level : ℕ) (locals : List Local) (spent : Bool) (fs : List Frame) (c : Scene) (t : Template) where
    abbrev frame : Frame
    frame = Body rank.template rank.alternative start locals level spent

    abbrev made : Option Template → (active : List ℕ) → Level → Self
    made o active level_now = record {
      group = unwrap_or (option_map (λ (x : Template). x.group) o) 0;
      test = unwrap_or (option_map test_of (slice_get (option_map_or (λ (x : Template). x.pattern.alternatives) o []) rank.alternative)) test.Document;
      active = active;
      level = level_now;
      trail = trail_of c.nodes;
    }

    abbrev leveled : Bool → ℕ → Level
    leveled b instances = record { conditions = still.conditions_of given p level fs; instances = (if b then 1 else 0) + instances; source = c.source }

    abbrev below_it : Level
    below_it = still.level_at given p level c.source fs

    whose_again : IsProgramOf given.sheet given.limits p → slice_get given.sheet.templates rank.template ≡ Some t
        → run_as rank t (active_in level fs) (record below_it { instances = below_it.instances + 1 }) (trail_of c.nodes) ≡ still.self_of given p level frame fs c
    whose_again program there =
        let is : slice_get p.sheet.templates rank.template ≡ Some (template_without_body t) =
        ap (λ (s : Sheet). slice_get s.templates rank.template) program.sheet_is ∙ slice_get-map template_without_body given.sheet.templates rank.template ∙ ap (option_map template_without_body) there in
        let active : active_in level (frame ∷ fs) ≡ rank.template ∷ active_in level fs =
        ap (λ b. active_by (if b then Own rank.template else Outside) (active_in level fs)) (same_number level) in
        let now : Level = still.level_at given p level c.source (frame ∷ fs) in
        let more : Level = record below_it { instances = below_it.instances + 1 } in
        let at_level : now ≡ more =
        ap (λ b. leveled b (still.instances_in given p level fs)) (same_number level)
        ∙ ap (λ n. record below_it { instances = n }) (plus_one (still.instances_in given p level fs)) in
        sym
        (ap (λ o. made o (active_in level (frame ∷ fs)) now) is
        ∙ ap (λ l. made (Some (template_without_body t)) l now) active
        ∙ ap (λ l. made (Some (template_without_body t)) (rank.template ∷ active_in level fs) l) at_level
        ∙ ap (λ x. record (made (Some (template_without_body t)) (rank.template ∷ active_in level fs) more) { test = x }) (test_by given p (slice_get t.pattern.alternatives rank.alternative)))

-- Its body begins.

module _ (given : Given) (p : Program) (new : AreNew given) where
  module _ (template alternative start level : ℕ) (locals : List Local) (spent : Bool) (fs : List Frame) (c : Scene) (f : Future) (t : Template) (a b : Here) where
    abbrev own_frame : Frame
    own_frame = Body template alternative start locals level spent

    abbrev whose : Self
    whose = still.self_of given p level own_frame fs c

    -- what follows the body
    abbrev behind : Here → Flat_does
    behind h = still.rest given p Returns [] fs c f (record h { locals = a.locals; state = ends_scope given t.new_scope t.group h.state })

    abbrev at_start : Self → List (List Atom) → List Bound → Working
    at_start self aside own = record { self = self; here = record b { locals = own }; aside = aside; turns = [] }

    abbrev begins_with : (Here → Flat_does) → Flat_does
    begins_with k = Ask (At start (at_start whose (aside_of locals) (named_of locals))) (λ (w : Working). k w.here)

    body_again : (self : Self) → slice_get given.sheet.templates template ≡ Some t → slice_get (sheet_bodies given.sheet) template ≡ Some t.body
        → slice_get (code_of given.sheet).starts template ≡ Some start → is_again level fs ≡ true → IsSome (level_in fs) → b.state.fuel ≤ given.limits.fuel → self ≡ whose → aside_of locals ≡ []
        → b.locals ≡ named_of locals
        → Same (flat_code given) (lifted (Ask (job.Body t.body self b) (returns given t a (λ x. Ret x))) (still.rest given p Returns [] fs c f))
        (still.rest given p Runs [] (own_frame ∷ fs) c f b)
    body_again self there body code goes_back some fuel who none own =
        same_then (bodies_run given new template start t.body self b behind body code fuel)
        (same_equal (flat_code given)
        (ap (λ s. Ask (At start (at_start s [] b.locals)) (λ (w : Working). behind w.here)) who
        ∙ ap (λ x. Ask (At start (at_start whose x b.locals)) (λ (w : Working). behind w.here)) (sym none)
        ∙ ap (λ l. Ask (At start (at_start whose (aside_of locals) l)) (λ (w : Working). behind w.here)) own
        ∙ ap begins_with (funext (λ (h : Here). returns_any given p [] fs c f (record h { locals = []; state = ends_scope given t.new_scope t.group h.state }) a.locals some))
        ∙ ap (λ o. begins_with (λ h. still.rest given p Returns [] fs c f (record h { locals = []; state = still.scope_ends given p o h.state }))) (sym there)
        ∙ ap (λ x. begins_with (still.template_over given p template x c (still.rest given p Returns [] fs c f) (still.rest given p Lists [] fs (still.node_over c) f))) (sym goes_back)))

-- The moment at which the node is asked for again.

module _ (given : Given) (p : Program) (program : IsProgramOf given.sheet given.limits p) (r : Run) (asked body level : ℕ) (spent : Bool) (h : Awaits p r asked body)
    (own : level_in (reverse r.frames.frames) ≡ Some level) (gone_so : spent_in (reverse r.frames.frames) ≡ Some spent) where
  abbrev fs : List Frame
  fs = reverse r.frames.frames

  abbrev scene : Scene
  scene = scene_now given p r

  abbrev x : Asker
  x = asker.Instr asked body

  abbrev locals_now : List Bound
  locals_now = named_of (still.locals_in given p fs)

  abbrev lv : Level
  lv = still.level_at given p level Main fs

  abbrev active : List ℕ
  active = active_in level fs

  params_is : still.values_handed given p (instr_at p.code asked) (still.locals_in given p fs) ≡ handed_by given p r x
  params_is =
      let b = frame_placed fs body h.place in
      let there : slice_get r.frames.frames body ≡ Some b.frame = ap (λ l. slice_get l body) (sym (reverse-reverse r.frames.frames)) ∙ b.there in
      ap (still.values_handed given p (instr_at p.code asked)) (own_locals given p program r scene refl fs b.frame b.is)
      ∙ sym (ap (λ o. still.values_handed given p (instr_at p.code asked) (option_map_or locals_of o [])) there)

  again_true : is_again level fs ≡ true
  again_true = ap (λ o. option_map_or (λ n. n == level) o false) own ∙ same_number level

  pub some_level : IsSome (level_in fs)
  some_level = subst (λ o. IsSome o) (sym own) refl

  pub gone_is : unwrap_or (spent_in fs) true ≡ spent
  gone_is = ap (λ o. unwrap_or o true) gone_so

  pub nodes_same : scene.nodes ≡ nodes_of r.source
  nodes_same = front r.source.ahead (nodes_of r.source) given p h.waits.apart

  pub going : (f : Future) → GoesOnBy given p spent (first_node scene.nodes) (rest_of scene.nodes) (lists_now given p r f)
  going f = goes_so given p spent (first_node scene.nodes) (rest_of scene.nodes) (lists_now given p r f)

  abbrev behind_all : Future → Here → Flat_does
  behind_all g a = still.rest given p Returns [] fs scene g a

  abbrev here_by : Future → State → Here
  here_by f st = record ((going f).here st) { locals = locals_now }

  -- by whose body it is
  abbrev again_at : (templates : List ℕ) → Level → Trail → Here → Does
  again_at templates own_level own_trail b = elim (choice given (base_by p x) templates own_trail b.state) [
    | None ↦ pass_node given (place_by p x) (base_by p x) own_level.source own_trail (trail.current own_trail) b
    | Some c ↦ runs given (place_by p x) (handed_by given p r x) c (template_at given c) templates own_level own_trail b (λ h. Ret h)
  ]

  -- by the template that is chosen
  abbrev again_by : Option Rank → Here → Does
  again_by o b = elim o [
    | None ↦ pass_node given (place_by p x) (base_by p x) Main (trail_of scene.nodes) (trail.current (trail_of scene.nodes)) b
    | Some c ↦ runs given (place_by p x) (handed_by given p r x) c (template_at given c) active lv (trail_of scene.nodes) b (λ h. Ret h)
  ]

  abbrev who : Self
  who = whose_in given p fs scene

  abbrev done_by : List Bound → Future → Here → Flat_does
  done_by params f a = lifted (again given (place_by p x) (base_by p x) params who (record a { locals = locals_now })) (behind_all f)

  abbrev gone_by : Bool → List Bound → Future → State → Flat_does
  gone_by none_left params f st = still.goes_on_at given p none_left (first_node scene.nodes) (rest_of scene.nodes) (lists_now given p r f) (done_by params) st

  pub comes_to : (left : Left) (f : Future) (o : Option Rank) → choice given (base_by p x) active (trail_of (nodes_of r.source)) (state_of given p r left) ≡ o
      → asked_again given p asked r left f ≡ lifted (again_by o (here_by f (state_of given p r left))) (behind_all (going f).coming)
  comes_to left f o is =
      let st = state_of given p r left in
      let b = here_by f st in
      let k = behind_all (going f).coming in
      ap (λ s. gone_by s (still.values_handed given p (instr_at p.code asked) (still.locals_in given p fs)) f st) gone_is
      ∙ ap (λ ps. gone_by spent ps f st) params_is
      ∙ (going f).goes (done_by (handed_by given p r x)) st
      ∙ ap (λ l. lifted (again_at l who.level who.trail b) k) (whose_active given p scene level fs own)
      ∙ ap (λ l. lifted (again_at active l who.trail b) k) (whose_level given p scene level fs own)
      ∙ ap (λ t. lifted (again_at active lv t b) k) (whose_trail given p scene level fs own)
      ∙ ap (λ o. lifted (again_by o b) k)
      (ap (λ ns. choice given (base_by p x) active (trail_of ns) b.state) nodes_same
      ∙ ap (choice given (base_by p x) active (trail_of (nodes_of r.source))) ((going f).same st) ∙ is)

  -- A template was chosen, and its body is entered.
  module _ (new : AreNew given) (params : HasParams p given) (alone : IsAlone p r) (rank : Rank) (t : Template) (there : slice_get given.sheet.templates rank.template ≡ Some t) (n : Run)
      (left : Left) (f : Future) (is : choice given (base_by p x) active (trail_of (nodes_of r.source)) (state_of given p r left) ≡ Some rank) where
    abbrev st : State
    st = state_of given p r left

    abbrev b_now : Here
    b_now = here_by f st

    abbrev behind_it : Here → Flat_does
    behind_it = behind_all (going f).coming

    abbrev ends : Here → Does
    ends b = Ret b

    abbrev begins : Level → Does
    begins more =
        let self = run_as rank t active more (trail_of scene.nodes) in
        makes_scope given t.new_scope t.group self b_now.state (enters given (handed_by given p r x) t self b_now ends)

    runs_is : asked_again given p asked r left f ≡ lifted (instance given (place_by p x) lv begins) behind_it
    runs_is =
        comes_to left f (Some rank) is
        ∙ ap (λ o. lifted (runs given (place_by p x) (handed_by given p r x) rank o active lv (trail_of scene.nodes) b_now ends) behind_it) there

    entered_self : (start there_level : ℕ) → there_level ≡ level
        → run_as rank t active (record lv { instances = lv.instances + 1 }) (trail_of scene.nodes) ≡ self_entered given p r rank.template rank.alternative start there_level spent
    entered_self start there_level same =
        whose_again given p rank start level [] spent fs scene t program there
        ∙ ap (λ n. self_entered given p r rank.template rank.alternative start n spent) (sym same)

    module _ (result : Result (Unit {0}) Stop) (e : Enters p rank.template rank.alternative x spent (place_by p x) result r n) where
      same_level : e.level ≡ level
      same_level = e.level_is ∙ sym (level_here p h.waits.stations 0 true fs (standing_of r) level own h.waits.waits.well)

      abbrev self_now : Self
      self_now = self_entered given p r rank.template rank.alternative e.start e.level spent

      abbrev here_now : Here
      here_now = record b_now { locals = named_of e.locals; state = state_of given p n left }

      abbrev body_begins : Unit {0} → Does
      body_begins done = Ask (job.Body t.body self_now here_now) (returns given t b_now ends)

      entered_as : Yields result (instance given (place_by p x) lv begins) body_begins
      entered_as =
          e.does given program params t there left lv (sym (ap (λ n. still.instances_in given p n fs) same_level)) b_now ends begins
          (ap (λ s. makes_scope given t.new_scope t.group s b_now.state (enters given (handed_by given p r x) t s b_now ends)) (entered_self e.start e.level same_level)
          ∙ ap (λ y. makes_scope given t.new_scope t.group self_now y (enters given (handed_by given p r x) t self_now b_now ends)) ((going f).same st))

    -- it stops
    pub again_stops : (s : Stop) → Enters p rank.template rank.alternative x spent (place_by p x) (Err s) r n
        → Proceeds given p {A = Step} (Err s) (asked_again given p asked r left f) [] (still.still given p n left f)
    again_stops s e = by s (entered_as (Err s) e)
      where
        by : (s_now : Stop) → Yields {A = Unit {0}} (Err s_now) (instance given (place_by p x) lv begins) (body_begins (Err s) e)
            → Proceeds given p {A = Step} (Err s_now) (asked_again given p asked r left f) [] (still.still given p n left f)
        by (stop.Fault fault_now) y = same_equal (flat_code given) (runs_is ∙ ap (λ z. lifted z behind_it) y)
        by (stop.Spent at) y = same_equal (flat_code given) (runs_is ∙ ap (λ z. lifted z behind_it) y)
        by stop.Memory y = (asked_again given p asked r left f, same_equal (flat_code given) refl)

    body_code : slice_get (sheet_bodies given.sheet) rank.template ≡ Some t.body
    body_code = bodies_first given.sheet.templates (map (λ (q : Procedure). q.body) given.sheet.procedures) rank.template there
      where
        bodies_first : (ts : List Template) (others : List (List Instr)) (k : ℕ) → slice_get ts k ≡ Some t → slice_get (map (λ (y : Template). y.body) ts ++ others) k ≡ Some t.body
        bodies_first [] others k at = absurd (cc)
        bodies_first (y ∷ ts) others zero at = ap (option_map (λ (z : Template). z.body)) at
        bodies_first (y ∷ ts) others (suc k) at = bodies_first ts others k at

    -- or goes on
    pub again_goes : Enters p rank.template rank.alternative x spent (place_by p x) (Ok tt) r n → Same (flat_code given) (asked_again given p asked r left f) (still.still given p n left f)
    again_goes e =
        let gs = Body rank.template rank.alternative e.start e.locals e.level spent ∷ fs in
        let g = going f in
        let b = here_now (Ok tt) e in
        let now = state_of given p n left in
        let entered = record r { frames = n.frames; store = n.store; putting = n.putting; doing = doing.Body } in
        let fuel : b.state.fuel ≤ given.limits.fuel =
        subst (λ l. n.fuel ≤ l) (ap (λ (l : Limits). l.fuel) program.limits_are) (subst (λ u. u ≤ p.limits.fuel) (sym (ap (λ (y : Run). y.fuel) e.rest)) alone.fuel) in
        same_then (same_equal (flat_code given) (runs_is ∙ ap (λ y. lifted y behind_it) (entered_as (Ok tt) e)))
        (same_then
        (body_again given p new rank.template rank.alternative e.start e.level e.locals spent fs scene g.coming t b_now b (self_now (Ok tt) e) there body_code
        (ap (λ (c : Code). slice_get c.starts rank.template) (sym program.code_is) ∙ e.starts) (ap (λ n. is_again n fs) (same_level (Ok tt) e) ∙ again_true) some_level fuel refl e.none refl)
        (same_equal (flat_code given)
        (ap (λ y. still.rest given p Runs [] gs scene g.coming y) (ap (λ (y : Here). record y { locals = named_of e.locals }) (g.other st now))
        ∙ sym
        (ap (λ (y : Run). still.still given p y left f) e.rest
        ∙ ap (λ l. still.doing_now given p doing.Body r.source.ahead l entered left f) e.frames
        ∙ g.goes (λ f. still.rest given p Runs [] gs scene f) (state_of given p entered left)
        ∙ ap (λ y. still.rest given p Runs [] gs scene g.coming (g.here (state_of given p y left))) (sym e.rest)))))

-- Where a template was chosen, a step from there on.

module _ (p : Program) (r n : Run) (asked body level : ℕ) (spent : Bool) (h : Awaits p r asked body) (own : level_in (reverse r.frames.frames) ≡ Some level)
    (gone_so : spent_in (reverse r.frames.frames) ≡ Some spent) (alone : IsAlone p r) where
  abbrev who_asks : Asker
  who_asks = asker.Instr asked body

  abbrev came_from : Given → Left → Future → Flat_does
  came_from given left f = asked_again given p asked r left f

  module _ (c : Chosen) (chosen : IsChosen p r c.template c.alternative) (chooses : ChoosesAs p r (base_by p who_asks) (active_in level (reverse r.frames.frames)) (Some c)) where
    stops_so : (s : Stop) → Enters p c.template c.alternative who_asks spent (place_by p who_asks) (Err s) r n
        → (given : Given) → AreNew given → IsProgramOf given.sheet given.limits p → HasParams p given → (left : Left) (f : Future) → Proceeds given p {A = Step} (Err s) (came_from given left f) [] (still.still given p n left f)
    stops_so s e given new program params left f =
        let k = rank_there _ c (chooses given program left) in
        let t = template_there given p program c.template chosen.declared chosen.is in
        again_stops given p program r asked body level spent h own gone_so new params alone k.0 t.0 (ap (slice_get given.sheet.templates) k.1.1 ∙ t.1) n left f k.1.0 s
        (subst (λ y. Enters p k.0.template y who_asks spent (place_by p who_asks) (Err s) r n) (sym k.1.2)
        (subst (λ y. Enters p y c.alternative who_asks spent (place_by p who_asks) (Err s) r n) (sym k.1.1) e))

    goes_so_on : Enters p c.template c.alternative who_asks spent (place_by p who_asks) (Ok tt) r n
        → (given : Given) → AreNew given → IsProgramOf given.sheet given.limits p → HasParams p given → (left : Left) (f : Future) → Same (flat_code given) (came_from given left f) (still.still given p n left f)
    goes_so_on e given new program params left f =
        let k = rank_there _ c (chooses given program left) in
        let t = template_there given p program c.template chosen.declared chosen.is in
        again_goes given p program r asked body level spent h own gone_so new params alone k.0 t.0 (ap (slice_get given.sheet.templates) k.1.1 ∙ t.1) n left f k.1.0
        (subst (λ y. Enters p k.0.template y who_asks spent (place_by p who_asks) (Ok tt) r n) (sym k.1.2)
        (subst (λ y. Enters p y c.alternative who_asks spent (place_by p who_asks) (Ok tt) r n) (sym k.1.1) e))

    alone_again : Enters p c.template c.alternative who_asks spent (place_by p who_asks) (Ok tt) r n → IsAlone p n
    alone_again e = record {
      origin = ap (λ (y : Run). y.source.origin) e.rest ∙ alone.origin;
      outer = ap (λ (y : Run). y.outer.items) e.rest ∙ alone.outer;
      aside = ap (λ (y : Run). y.aside.items) e.rest ∙ alone.aside;
      held = ap (λ (y : Run). held_node y.source) e.rest ∙ alone.held;
      counted = λ is. absurd (h.waits.apart (sym (ap (λ (y : Run). y.source.ahead) e.rest) ∙ is));
      whole = λ is depth skipped. absurd (let no : None ≡ Some depth = sym (ap skipped_in e.frames) ∙ skipped in cc);
      untouched =
          untouched_to _ (reverse n.frames.frames) (nodes_of r.source) (nodes_of n.source) (sym e.frames) (sym (ap (λ (y : Run). nodes_of y.source) e.rest))
          (same_untouched r c.template c.alternative e.start e.level spent e.locals (reverse r.frames.frames) gone_so alone.untouched);
      fuel = subst (λ u. u ≤ p.limits.fuel) (sym (ap (λ (y : Run). y.fuel) e.rest)) alone.fuel;
    }

    module _ {S : Type 0} (output : S → Target) (told : S → S → List Said → Type 0) (nothing : (s : S) → told s s []) (out : S) where
      pub again_entered : Enters p c.template c.alternative who_asks spent (place_by p who_asks) (Ok tt) r n → StepsFrom output told p came_from (Ok step.More) n out out
      again_entered e = record {
        said = [];
        tells = nothing out;
        alone = alone_again e;
        over = λ y. absurd (cc);
        does = λ given new program params limit f. goes_so_on e given new program params (output out).left f;
      }

      pub again_stopped : (s : Stop) → Enters p c.template c.alternative who_asks spent (place_by p who_asks) (Err s) r n → StepsFrom output told p came_from (Err s) n out out
      again_stopped s e = record {
        said = [];
        tells = nothing out;
        alone = tt;
        over = λ y. absurd (cc);
        does = λ given new program params limit f. stops_so s e given new program params (output out).left f;
      }
