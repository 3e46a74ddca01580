-- A head is taken for which a template was chosen.
use Rattle.std.proofs.Common.{◌≡◌, ◌≢◌, ◌<◌, ◌≤◌, ℕ, zero, suc, ◌+◌, ◌-◌, Bool, true, false, not, ◌||◌, List, [], ◌∷◌, ◌++◌, length, map, reverse, Option, Some, None, Result, Ok, Err, IsSome, refl, ap, sym, subst, ◌∙◌, arith}
use Rattle.std.specs.Prelude.{OnOk, if◌then◌else◌, slice_get, unwrap_or}
use Rattle.std.specs.Option.{option_map, option_map_or}
use Rattle.std.proofs.lemmas.Option.{slice_get-map}
use Rattle.stx_base.specs.Course.{Ask, Halt, Same, says}
use Rattle.stx_base.proofs.Course.{same_equal, same_then}
use Rattle.stx_base.specs.declared.fault.Place.{Place}
use Rattle.stx_base.specs.declared.limits.Limits.{Limits}
use Rattle.var_store.specs.declared.bound.Bound.{Bound}
use Rattle.frame_stack.specs.Change.{locals_of}
use Rattle.frame_stack.specs.declared.frame.Frame.{Frame}
use Rattle.frame_stack.specs.declared.frame.Frame.TheVariants.{Attributes, Body, Call, Loop, Pass, Region, Skip, Source}
use Rattle.frame_stack.specs.declared.locals.Local.{Local}
use Rattle.group_scope.specs.Choice.{chosen_of}
use Rattle.group_scope.specs.declared.rank.Chosen.{Chosen}
use Rattle.group_scope.specs.declared.rank.Rank.{Rank}
use Rattle.instr_code.specs.Bare.{template_without_body}
use Rattle.instr_code.specs.Code.{code_of, sheet_bodies}
use Rattle.instr_code.specs.declared.code.Code.{Code}
use Rattle.node_stack.specs.Path.{Node, PathNode, can_have_children, is_attribute}
use Rattle.node_stack.specs.Stack.{path}
use Rattle.result_writer.specs.Target.{Left, Target}
use Rattle.sheet_model.specs.declared.instr.Instr.{Instr}
use Rattle.sheet_model.specs.declared.sheet.Procedure.{Procedure}
use Rattle.sheet_model.specs.declared.sheet.Sheet.{Sheet}
use Rattle.sheet_model.specs.declared.sheet.Template.{Template}
use Rattle.xml_events.specs.Document.{inner, outer}
use Rattle.xml_events.specs.Tree.{Future}
use Rattle.template_machine.specs.Asking.{AsksAt, IsAsker, IsPassing, asking, base_by, place_by}
use Rattle.template_machine.specs.Behind.{MovesFrom, StepsFrom, asks_in, head_taken, lists_now, scene_now}
use Rattle.template_machine.specs.Bodies.{body_in, frame_in, level_in, pc_in, skipped_in, spent_in}
use Rattle.template_machine.specs.Choosing.{ChoosesAs}
use Rattle.template_machine.specs.Commands.{HasParams}
use Rattle.template_machine.specs.Contexts.{Station}
use Rattle.template_machine.specs.Declaring.{makes_scope}
use Rattle.template_machine.specs.Ending.{Said}
use Rattle.template_machine.specs.Entering.{Enters, IsUncounted, head_passed, self_entered}
use Rattle.template_machine.specs.Job as job
use Rattle.template_machine.specs.Job.{Asked, Does, Given, Here, Level, Main, Self, State, fresh, single}
use Rattle.template_machine.specs.Listed.{AreInOrder}
use Rattle.template_machine.specs.Lists.{rest_of}
use Rattle.template_machine.specs.Moments.{HasHead}
use Rattle.template_machine.specs.Ordinary.{IsAlone}
use Rattle.template_machine.specs.Outcome.{AreNew}
use Rattle.template_machine.specs.Parameters.{handed_by}
use Rattle.template_machine.specs.Passing.{choice, enters, finish, instance, node, pass_node, place_of, returns, run_as, runs, template_at}
use Rattle.template_machine.specs.Passing as passing
use Rattle.template_machine.specs.Programs.{IsProgramOf, instr_at, link_at}
use Rattle.template_machine.specs.Saying.{Proceeds, Yields}
use Rattle.template_machine.specs.Seen.{named_of}
use Rattle.template_machine.specs.Sources.{held_node}
use Rattle.template_machine.specs.Standing.{Standing, node_over, standing_of}
use Rattle.template_machine.specs.Still as still
use Rattle.template_machine.specs.Still.{Lists, Runs, Scene, aside_of, first_node, nodes_of, state_of, trail_of}
use Rattle.template_machine.specs.Stepwise.{Flat_does, flat_code, lifted}
use Rattle.template_machine.specs.Trail.{Trail, current}
use Rattle.template_machine.specs.Ways.{Way, first_in, here, left, number_of, way_of}
use Rattle.template_machine.specs.Well.{AreWell, AsksBefore, CanTake, is_again}
use Rattle.template_machine.specs.Working.{IsChosen}
use Rattle.template_machine.specs.declared.program.Link.{Link}
use Rattle.template_machine.specs.declared.program.Program.{Program}
use Rattle.template_machine.specs.declared.run.Asker.{Asker}
use Rattle.template_machine.specs.declared.run.Asker.TheVariants as asker
use Rattle.template_machine.specs.declared.run.Doing.TheVariants as doing
use Rattle.template_machine.specs.declared.run.Run.{Run}
use Rattle.template_machine.specs.declared.run.Step.{Step}
use Rattle.template_machine.specs.declared.run.Step.TheVariants as step
use Rattle.template_machine.specs.declared.source.Ahead.TheVariants as ahead
use Rattle.template_machine.specs.declared.stop.Stop.{Stop}
use Rattle.template_machine.specs.declared.stop.Stop.TheVariants as stop
use Rattle.template_machine.proofs.Asking.{pc_asked}
use Rattle.template_machine.proofs.Embodied.{body_enters}
use Rattle.template_machine.proofs.Entered.{asking_at}
use Rattle.template_machine.proofs.InOrder.{NoOther, alone_there, in_order, nothing_below}
use Rattle.template_machine.proofs.Placing.{placed}
use Rattle.template_machine.proofs.Sighting.{front}
use Rattle.template_machine.proofs.Whose.{levels_below, whose_is}
use Rattle.template_machine.proofs.Untaken.{head_untouched}
use Rattle.template_machine.proofs.Untouched.{untouched_to}
use Rattle.std.proofs.lemmas.List.{reverse-reverse}

some_same : {A : Type 0} {x y : A} → Some x ≡ Some y → x ≡ y
some_same e = cc

same_suc : {m n : ℕ} → Some (suc m) ≡ Some (suc n) → m ≡ n
same_suc e = cc

-- Where a node goes on, whatever the state is.
pub record GoesOnBy (given : Given) (p : Program) (spent : Bool) (n : Node) (above : List PathNode) (f : Future) : Type 0 where
  pub coming : Future
  pub here : State → Here
  pub bare : (st : State) → (here st).locals ≡ []
  pub same : (st : State) → (here st).state ≡ st
  pub other : (st now : State) → record (here st) { state = now } ≡ here now
  pub goes : (k : Future → Here → Flat_does) (st : State) → still.goes_on_at given p spent n above f k st ≡ k coming (here st)

pub goes_so : (given : Given) (p : Program) (spent : Bool) (n : Node) (above : List PathNode) (f : Future) → GoesOnBy given p spent n above f
goes_so given p spent n above f = by (is_attribute (Some n)) (spent || not (still.has_kids n)) refl refl
  where
    by : (alone gone : Bool) → is_attribute (Some n) ≡ alone → (spent || not (still.has_kids n)) ≡ gone → GoesOnBy given p spent n above f
    by true gone e h = record {
      coming = f;
      here = λ st. single st;
      bare = λ st. refl;
      same = λ st. refl;
      other = λ st now. refl;
      goes = λ k st.
          ap (λ x. if x then k f (single st) else if spent || not (still.has_kids n)
          then k (outer f) (record { kids = None; left = record { earlier = still.counts_of above; coming = inner f }; locals = []; state = st })
          else k (outer (outer f)) (record { kids = Some (inner f); left = record { earlier = still.counts_of above; coming = inner (outer f) }; locals = []; state = st })) e;
    }
    by false true e h = record {
      coming = outer f;
      here = λ st. record { kids = None; left = record { earlier = still.counts_of above; coming = inner f }; locals = []; state = st };
      bare = λ st. refl;
      same = λ st. refl;
      other = λ st now. refl;
      goes = λ k st.
          ap (λ x. if x then k f (single st) else if spent || not (still.has_kids n)
          then k (outer f) (record { kids = None; left = record { earlier = still.counts_of above; coming = inner f }; locals = []; state = st })
          else k (outer (outer f)) (record { kids = Some (inner f); left = record { earlier = still.counts_of above; coming = inner (outer f) }; locals = []; state = st })) e
          ∙ ap (λ x. if x
          then k (outer f) (record { kids = None; left = record { earlier = still.counts_of above; coming = inner f }; locals = []; state = st })
          else k (outer (outer f)) (record { kids = Some (inner f); left = record { earlier = still.counts_of above; coming = inner (outer f) }; locals = []; state = st })) h;
    }
    by false false e h = record {
      coming = outer (outer f);
      here = λ st. record { kids = Some (inner f); left = record { earlier = still.counts_of above; coming = inner (outer f) }; locals = []; state = st };
      bare = λ st. refl;
      same = λ st. refl;
      other = λ st now. refl;
      goes = λ k st.
          ap (λ x. if x then k f (single st) else if spent || not (still.has_kids n)
          then k (outer f) (record { kids = None; left = record { earlier = still.counts_of above; coming = inner f }; locals = []; state = st })
          else k (outer (outer f)) (record { kids = Some (inner f); left = record { earlier = still.counts_of above; coming = inner (outer f) }; locals = []; state = st })) e
          ∙ ap (λ x. if x
          then k (outer f) (record { kids = None; left = record { earlier = still.counts_of above; coming = inner f }; locals = []; state = st })
          else k (outer (outer f)) (record { kids = Some (inner f); left = record { earlier = still.counts_of above; coming = inner (outer f) }; locals = []; state = st })) h;
    }

-- Who asked for the current node.

-- a list of attributes is of the instruction that the body below waits for
abbrev OwnList : List Frame → Type 0
OwnList (Attributes next asked ∷ fs) = AsksBefore fs asked
OwnList fs = Unit {0}

pub record AskedAs (given : Given) (p : Program) (r : Run) (a : Asker) (asked : Asked) : Type 0 where
  base_is : asked.base ≡ base_by p a
  at_is : asked.at ≡ place_by p a
  level_is : asked.level ≡ fresh Main
  params_is : asked.params ≡ handed_by given p r a

module _ (given : Given) (p : Program) (program : IsProgramOf given.sheet given.limits p) (r : Run) (c : Scene) (main : c.source ≡ Main) where
  group_same : (base : ℕ) → passing.group_at given base ≡ place_of (slice_get p.sheet.groups base)
  group_same base = sym (ap (λ (s : Sheet). place_of (slice_get s.groups base)) program.sheet_is)

  pub own_locals : (fs : List Frame) (x : Frame) → frame_in fs ≡ Some x → still.locals_in given p fs ≡ locals_of x
  own_locals [] x e = absurd (cc)
  own_locals (Loop turn ∷ fs) x e = own_locals fs x e
  own_locals (Body template alternative pc locals level spent ∷ fs) x e = ap locals_of (some_same e)
  own_locals (Call procedure pc locals level ∷ fs) x e = ap locals_of (some_same e)
  own_locals (Region asked level ∷ fs) x e = ap locals_of (some_same e)
  own_locals (Attributes next asked ∷ fs) x e = ap locals_of (some_same e)
  own_locals (Source buffer next asked ∷ fs) x e = ap locals_of (some_same e)
  own_locals (Skip depth ∷ fs) x e = ap locals_of (some_same e)
  own_locals (Pass base level spent ∷ fs) x e = ap locals_of (some_same e)

  -- by the body that waits
  asks_body : (fs : List Frame) (asked body : ℕ) → body_in fs ≡ Some body → pc_in fs ≡ Some (suc asked)
      → asks_in given p fs c ≡ still.asked_by given p asked (still.locals_in given p fs) (fresh c.source) (trail_of c.nodes)
  asks_body [] asked body at pc = absurd (cc)
  asks_body (Loop turn ∷ fs) asked body at pc = asks_body fs asked body at pc
  asks_body (Body template alternative q locals level spent ∷ fs) asked body at pc =
      let same : q ≡ suc asked = some_same pc in
      let less : suc asked - 1 ≡ asked = omega arith in
      ap (λ n. still.asked_by given p (n - 1) locals (fresh c.source) (trail_of c.nodes)) same ∙ ap (λ n. still.asked_by given p n locals (fresh c.source) (trail_of c.nodes)) less
  asks_body (Call procedure q locals level ∷ fs) asked body at pc =
      let same : q ≡ suc asked = some_same pc in
      let less : suc asked - 1 ≡ asked = omega arith in
      ap (λ n. still.asked_by given p (n - 1) locals (fresh c.source) (trail_of c.nodes)) same ∙ ap (λ n. still.asked_by given p n locals (fresh c.source) (trail_of c.nodes)) less
  asks_body (Region own level ∷ fs) asked body at pc = absurd (cc)
  asks_body (Attributes next own ∷ fs) asked body at pc = absurd (cc)
  asks_body (Source buffer next own ∷ fs) asked body at pc = absurd (cc)
  asks_body (Skip depth ∷ fs) asked body at pc = absurd (cc)
  asks_body (Pass base level spent ∷ fs) asked body at pc = absurd (cc)

  by_body : (fs gs : List Frame) (asked body : ℕ) → asking fs ≡ gs → reverse r.frames.frames ≡ fs → body_in gs ≡ Some body
      → (x : Asked) → x ≡ still.asked_by given p asked (still.locals_in given p gs) (fresh c.source) (trail_of c.nodes) → AskedAs given p r (asker.Instr asked body) x
  by_body fs gs asked body is frames at x e =
      let b = placed gs body at in
      let there : slice_get r.frames.frames body ≡ Some b.frame =
      ap (λ l. slice_get l body) (sym (reverse-reverse r.frames.frames) ∙ ap reverse frames) ∙ asking_at fs body b.frame (ap (λ l. slice_get (reverse l) body) is ∙ b.there) in
      record {
        base_is = ap (λ (y : Asked). y.base) e;
        at_is = ap (λ (y : Asked). y.at) e;
        level_is = ap (λ (y : Asked). y.level) e ∙ ap fresh main;
        params_is =
            ap (λ (y : Asked). y.params) e ∙ ap (still.values_handed given p (instr_at p.code asked)) (own_locals gs b.frame b.is)
            ∙ sym (ap (λ o. still.values_handed given p (instr_at p.code asked) (option_map_or locals_of o [])) there);
      }

  pub asked_as : (a : Asker) (fs : List Frame) (w : Way) → reverse r.frames.frames ≡ fs → IsAsker p a fs → AreInOrder fs → CanTake fs w → OwnList fs → AskedAs given p r a (asks_in given p fs c)
  asked_as asker.Root fs w frames is order takes own =
      subst (λ l. AskedAs given p r asker.Root (asks_in given p l c)) (sym is.on) (record { base_is = refl; at_is = group_same 0; level_is = refl; params_is = refl })
  asked_as (asker.Pass base) [] w frames is order takes own = absurd is.on
  asked_as (asker.Pass base) (Pass other level spent ∷ fs) w frames is order takes own = record {
    base_is = is.on;
    at_is = group_same other ∙ ap (λ n. place_of (slice_get p.sheet.groups n)) is.on;
    level_is = ap fresh main;
    params_is = refl;
  }
  asked_as (asker.Pass base) (Loop turn ∷ fs) w frames is order takes own = absurd is.on
  asked_as (asker.Pass base) (Body template alternative pc locals level spent ∷ fs) w frames is order takes own = absurd is.on
  asked_as (asker.Pass base) (Call procedure pc locals level ∷ fs) w frames is order takes own = absurd is.on
  asked_as (asker.Pass base) (Region asked level ∷ fs) w frames is order takes own = absurd is.on
  asked_as (asker.Pass base) (Attributes next asked ∷ fs) w frames is order takes own = absurd is.on
  asked_as (asker.Pass base) (Source buffer next asked ∷ fs) w frames is order takes own = absurd is.on
  asked_as (asker.Pass base) (Skip depth ∷ fs) w frames is order takes own = absurd is.on
  asked_as (asker.Instr asked body) [] w frames is order takes own = absurd (let no = is.on.0 in cc)
  asked_as (asker.Instr asked body) (Loop turn ∷ fs) w frames is order takes own =
      by_body (Loop turn ∷ fs) (Loop turn ∷ fs) asked body refl frames is.on.0 _ (asks_body (Loop turn ∷ fs) asked body is.on.0 is.on.1)
  asked_as (asker.Instr asked body) (Body template alternative pc locals level spent ∷ fs) w frames is order takes own =
      let gs = Body template alternative pc locals level spent ∷ fs in by_body gs gs asked body refl frames is.on.0 _ (asks_body gs asked body is.on.0 is.on.1)
  asked_as (asker.Instr asked body) (Call procedure pc locals level ∷ fs) w frames is order takes own =
      let gs = Call procedure pc locals level ∷ fs in by_body gs gs asked body refl frames is.on.0 _ (asks_body gs asked body is.on.0 is.on.1)
  asked_as (asker.Instr asked body) (Region other level ∷ fs) w frames is order takes own = absurd order
  asked_as (asker.Instr asked body) (Attributes next other ∷ fs) w frames is order takes own =
      let same : other ≡ asked = same_suc (sym (pc_asked fs other own).0 ∙ is.on.1) in
      by_body (Attributes next other ∷ fs) fs asked body refl frames is.on.0 _
      (ap (λ n. still.asked_by given p n (still.locals_in given p fs) (fresh c.source) (trail_of c.nodes)) same)
  asked_as (asker.Instr asked body) (Source buffer next other ∷ fs) w frames is order takes own = absurd order
  asked_as (asker.Instr asked body) (Skip depth ∷ fs) w frames is order takes own = absurd takes
  asked_as (asker.Instr asked body) (Pass base level spent ∷ fs) w frames is order takes own = absurd (let no = is.on.0 in cc)

-- Levels below a head.

module _ (given : Given) (p : Program) (stations : List Station) where
  nodes_less : (ns : List Node) → (rest_of ns ≡ [] → ⊥) → is_attribute (first_in ns) ≡ false
      → length (rest_of ns) - (if is_attribute (first_in (rest_of ns)) then 2 else 1) < length ns - (if is_attribute (first_in ns) then 2 else 1)
  nodes_less [] some leaf = absurd (some refl)
  nodes_less (x ∷ []) some leaf = absurd (some refl)
  nodes_less (x ∷ y ∷ ns) some leaf = two (is_attribute (Some y)) (is_attribute (Some x)) (length ns) leaf
    where
      two : (b c : Bool) (n : ℕ) → c ≡ false → suc n - (if b then 2 else 1) < suc (suc n) - (if c then 2 else 1)
      two true true n e = absurd (cc)
      two false true n e = absurd (cc)
      two true false n e = omega arith
      two false false n e = omega arith

  one_less : (fs : List Frame) (x : Frame) (gs : List Frame) (s : Standing) → fs ≡ x ∷ gs → AreWell p stations 0 true fs (node_over s) → NoOther s → is_attribute (here s.source.way) ≡ false
      → number_of (node_over s).source.way < number_of s.source.way
  one_less fs x gs s is w alone leaf =
      nodes_less s.source.way.nodes (λ none. let no : fs ≡ [] = nothing_below p stations 0 true fs (node_over s) w none alone in cc) leaf

  pub none_of_level : (fs : List Frame) (s : Standing) → AreWell p stations 0 true fs (node_over s) → CanTake fs s.source.way → NoOther s → still.instances_in given p (number_of s.source.way) fs ≡ 0
  none_of_level [] s w takes alone = refl
  none_of_level (Attributes next asked ∷ fs) s w takes alone = refl
  none_of_level (Skip depth ∷ fs) s w takes alone = absurd takes
  none_of_level (Source buffer next asked ∷ fs) s w takes alone = refl
  none_of_level (Region asked level ∷ fs) s w takes alone = absurd (in_order p stations 0 true (Region asked level ∷ fs) (node_over s) w alone)
  none_of_level (Loop turn ∷ fs) s w takes alone =
      levels_below given p stations (number_of s.source.way) 0 true (Loop turn ∷ fs) (node_over s) w alone (one_less (Loop turn ∷ fs) (Loop turn) fs s refl w alone takes.0)
  none_of_level (Body template alternative pc locals level spent ∷ fs) s w takes alone =
      let x = Body template alternative pc locals level spent in
      levels_below given p stations (number_of s.source.way) 0 true (x ∷ fs) (node_over s) w alone (one_less (x ∷ fs) x fs s refl w alone takes.0)
  none_of_level (Call procedure pc locals level ∷ fs) s w takes alone =
      let x = Call procedure pc locals level in
      levels_below given p stations (number_of s.source.way) 0 true (x ∷ fs) (node_over s) w alone (one_less (x ∷ fs) x fs s refl w alone takes.0)
  none_of_level (Pass base level spent ∷ fs) s w takes alone =
      let x = Pass base level spent in
      levels_below given p stations (number_of s.source.way) 0 true (x ∷ fs) (node_over s) w alone (one_less (x ∷ fs) x fs s refl w alone takes.0)

-- a list of attributes belongs to the body below it
own_list : (p : Program) (stations : List Station) (fs : List Frame) (s : Standing) → AreWell p stations 0 true fs s → OwnList fs
own_list p stations [] s w = tt
own_list p stations (Loop turn ∷ fs) s w = tt
own_list p stations (Body template alternative pc locals level spent ∷ fs) s w = tt
own_list p stations (Call procedure pc locals level ∷ fs) s w = tt
own_list p stations (Region asked level ∷ fs) s w = tt
own_list p stations (Attributes next asked ∷ fs) s w = w.1
own_list p stations (Source buffer next asked ∷ fs) s w = tt
own_list p stations (Skip depth ∷ fs) s w = tt
own_list p stations (Pass base level spent ∷ fs) s w = tt

-- The head of a run.

module _ (given : Given) (p : Program) (program : IsProgramOf given.sheet given.limits p) (r : Run) (a : Asker) (h : HasHead p r) (asks : IsAsker p a (reverse r.frames.frames)) (alone : IsAlone p r) where
  abbrev frames_of : List Frame
  frames_of = reverse r.frames.frames

  abbrev scene : Scene
  scene = scene_now given p r

  abbrev asked_now : Asked
  asked_now = asks_in given p frames_of (still.node_over scene)

  asked_is : AskedAs given p r a asked_now
  asked_is =
      let other = alone_there p r alone in
      asked_as given p program r (still.node_over scene) refl a frames_of (standing_of r).source.way refl asks
      (in_order p h.stations 0 true frames_of (node_over (standing_of r)) h.head.well other) h.head.take (own_list p h.stations frames_of (node_over (standing_of r)) h.head.well)

  pub trail_same : trail_of scene.nodes ≡ trail_of (nodes_of r.source)
  trail_same = ap trail_of (front r.source.ahead (nodes_of r.source) given p h.apart)

  pub going : (f : Future) → GoesOnBy given p false (first_node scene.nodes) (rest_of scene.nodes) (lists_now given p r f)
  going f = goes_so given p false (first_node scene.nodes) (rest_of scene.nodes) (lists_now given p r f)

  -- what is done with it, by the template that is chosen
  abbrev node_by : (chosen_now : Option Rank) → Here → Does
  node_by o b = elim o [
    | None ↦ pass_node given (place_by p a) (base_by p a) Main (trail_of scene.nodes) (current (trail_of scene.nodes)) b
    | Some c ↦ runs given (place_by p a) (handed_by given p r a) c (template_at given c) [] (fresh Main) (trail_of scene.nodes) b (finish given Main)
  ]

  abbrev node_of : (at : Place) → (base : ℕ) → (params : List Bound) → Level → Here → Does
  node_of at base params level b = elim (choice given base [] (trail_of scene.nodes) b.state) [
    | None ↦ pass_node given at base level.source (trail_of scene.nodes) (current (trail_of scene.nodes)) b
    | Some c ↦ runs given at params c (template_at given c) [] level (trail_of scene.nodes) b (finish given level.source)
  ]

  pub head_is : (left : Left) (f : Future) (o : Option Rank) → choice given (base_by p a) [] (trail_of (nodes_of r.source)) (state_of given p r left) ≡ o
      → head_taken given p r left f ≡ lifted (node_by o ((going f).here (state_of given p r left))) (still.rest given p Lists [] frames_of (still.node_over scene) (going f).coming)
  head_is left f o is =
      let st = state_of given p r left in
      let b = (going f).here st in
      let k = still.rest given p Lists [] frames_of (still.node_over scene) (going f).coming in
      let ask = asked_is in
      (going f).goes (λ f a. lifted (node given asked_now (trail_of scene.nodes) a) (still.rest given p Lists [] frames_of (still.node_over scene) f)) st
      ∙ ap (λ x. lifted (node_of x asked_now.base asked_now.params asked_now.level b) k) ask.at_is
      ∙ ap (λ x. lifted (node_of (place_by p a) x asked_now.params asked_now.level b) k) ask.base_is
      ∙ ap (λ x. lifted (node_of (place_by p a) (base_by p a) x asked_now.level b) k) ask.params_is
      ∙ ap (λ x. lifted (node_of (place_by p a) (base_by p a) (handed_by given p r a) x b) k) ask.level_is
      ∙ ap (λ x. lifted (node_by x b) k)
      (ap (λ t. choice given (base_by p a) [] t b.state) trail_same ∙ ap (choice given (base_by p a) [] (trail_of (nodes_of r.source))) ((going f).same st) ∙ is)

  -- A template was chosen, and its body is entered.
  module _ (new : AreNew given) (params : HasParams p given) (rank : Rank) (t : Template) (there : slice_get given.sheet.templates rank.template ≡ Some t) (n : Run) (left : Left) (f : Future)
      (is : choice given (base_by p a) [] (trail_of (nodes_of r.source)) (state_of given p r left) ≡ Some rank) where
    abbrev st : State
    st = state_of given p r left

    abbrev behind : Here → Flat_does
    behind = still.rest given p Lists [] frames_of (still.node_over scene) (going f).coming

    abbrev begins : Level → Does
    begins more =
        let self = run_as rank t [] more (trail_of scene.nodes) in
        makes_scope given t.new_scope t.group self ((going f).here st).state (enters given (handed_by given p r a) t self ((going f).here st) (finish given Main))

    runs_is : head_taken given p r left f ≡ lifted (instance given (place_by p a) (fresh Main) begins) behind
    runs_is =
        head_is left f (Some rank) is
        ∙ ap (λ o. lifted (runs given (place_by p a) (handed_by given p r a) rank o [] (fresh Main) (trail_of scene.nodes) ((going f).here st) (finish given Main)) behind) there

    abbrev body_there : (e_start e_level : ℕ) → List Local → Frame
    body_there start level locals = Body rank.template rank.alternative start locals level false

    entered_self : (start level : ℕ) → level ≡ number_of (way_of (path r.source.stack))
        → run_as rank t [] (record (fresh Main) { instances = 1 }) (trail_of scene.nodes) ≡ self_entered given p r rank.template rank.alternative start level false
    entered_self start level own =
        whose_is given p rank.template rank.alternative start level [] frames_of scene rank t program there refl refl (ap (λ n. is_again n frames_of) own ∙ h.head.apart)
        (in_order p h.stations 0 true frames_of (node_over (standing_of r)) h.head.well (alone_there p r alone))
        (ap (λ n. still.instances_in given p n frames_of) own ∙ none_of_level given p h.stations frames_of (standing_of r) h.head.well h.head.take (alone_there p r alone))

    module _ (result : Result (Unit {0}) Stop) (e : Enters p rank.template rank.alternative a false (place_by p a) result r n) where
      abbrev self_now : Self
      self_now = self_entered given p r rank.template rank.alternative e.start e.level false

      abbrev here_now : Here
      here_now = record ((going f).here st) { locals = named_of e.locals; state = state_of given p n left }

      abbrev body_begins : Unit {0} → Does
      body_begins done = Ask (job.Body t.body self_now here_now) (returns given t ((going f).here st) (finish given Main))

      entered_as : Yields result (instance given (place_by p a) (fresh Main) begins) body_begins
      entered_as =
          e.does given program params t there left (fresh Main)
          (sym (ap (λ n. still.instances_in given p n frames_of) e.level_is ∙ none_of_level given p h.stations frames_of (standing_of r) h.head.well h.head.take (alone_there p r alone)))
          ((going f).here st) (finish given Main) begins
          (ap (λ s. makes_scope given t.new_scope t.group s ((going f).here st).state (enters given (handed_by given p r a) t s ((going f).here st) (finish given Main))) (entered_self e.start e.level e.level_is)
          ∙ ap (λ x. makes_scope given t.new_scope t.group self_now x (enters given (handed_by given p r a) t self_now ((going f).here st) (finish given Main))) ((going f).same st))

    -- it stops
    pub stops_there : (s : Stop) → Enters p rank.template rank.alternative a false (place_by p a) (Err s) r n → Proceeds given p {A = Step} (Err s) (head_taken given p r left f) [] (still.still given p n left f)
    stops_there s e = by s (entered_as (Err s) e)
      where
        by : (x : Stop) → Yields {A = Unit {0}} (Err x) (instance given (place_by p a) (fresh Main) begins) (body_begins (Err s) e) → Proceeds given p {A = Step} (Err x) (head_taken given p r left f) [] (still.still given p n left f)
        by (stop.Fault fault) y = same_equal (flat_code given) (runs_is ∙ ap (λ x. lifted x behind) y)
        by (stop.Spent at) y = same_equal (flat_code given) (runs_is ∙ ap (λ x. lifted x behind) y)
        by stop.Memory y = (head_taken given p r left f, same_equal (flat_code given) refl)

    body_code : slice_get (sheet_bodies given.sheet) rank.template ≡ Some t.body
    body_code = bodies_first given.sheet.templates (map (λ (q : Procedure). q.body) given.sheet.procedures) rank.template there
      where
        bodies_first : (ts : List Template) (others : List (List Instr)) (k : ℕ) → slice_get ts k ≡ Some t → slice_get (map (λ (x : Template). x.body) ts ++ others) k ≡ Some t.body
        bodies_first [] others k at = absurd (cc)
        bodies_first (x ∷ ts) others zero at = ap (option_map (λ (y : Template). y.body)) at
        bodies_first (x ∷ ts) others (suc k) at = bodies_first ts others k at

    -- or goes on
    pub goes_there : (e : Enters p rank.template rank.alternative a false (place_by p a) (Ok tt) r n) → Same (flat_code given) (head_taken given p r left f) (still.still given p n left f)
    goes_there e =
        let frame = body_there e.start e.level e.locals in
        let gs = frame ∷ frames_of in
        let g = going f in
        let b = here_now (Ok tt) e in
        let now = state_of given p n left in
        let fuel : b.state.fuel ≤ given.limits.fuel =
        subst (λ l. n.fuel ≤ l) (ap (λ (l : Limits). l.fuel) program.limits_are) (subst (λ u. u ≤ p.limits.fuel) (sym (ap (λ (x : Run). x.fuel) e.rest)) alone.fuel) in
        same_then (same_equal (flat_code given) (runs_is ∙ ap (λ x. lifted x behind) (entered_as (Ok tt) e)))
        (same_then
        (body_enters given p new rank.template rank.alternative e.start e.level e.locals frames_of scene g.coming t (g.here st) b (self_now (Ok tt) e) there body_code
        (ap (λ (c : Code). slice_get c.starts rank.template) (sym program.code_is) ∙ e.starts) (ap (λ n. is_again n frames_of) e.level_is ∙ h.head.apart) (g.bare st) fuel refl e.none refl)
        (same_equal (flat_code given)
        (ap (λ x. still.rest given p Runs [] gs scene g.coming x) (ap (λ (x : Here). record x { locals = named_of e.locals }) (g.other st now))
        ∙ sym
        (ap (λ (x : Run). still.still given p x left f) e.rest
        ∙ ap (λ l. still.doing_now given p doing.Body r.source.ahead l (record r { frames = n.frames; store = n.store; putting = n.putting; doing = doing.Body }) left f) e.frames
        ∙ g.goes (λ f. still.rest given p Runs [] gs scene f) (state_of given p (record r { frames = n.frames; store = n.store; putting = n.putting; doing = doing.Body }) left)
        ∙ ap (λ x. still.rest given p Runs [] gs scene g.coming (g.here (state_of given p x left))) (sym e.rest)))))

-- Where a template was chosen, a step from the head on.

pub rank_there : (o : Option Rank) (c : Chosen) → Some c ≡ option_map chosen_of o → (rank : Rank) × ((o ≡ Some rank) × (rank.template ≡ c.template) × (rank.alternative ≡ c.alternative))
rank_there None c e = absurd (cc)
rank_there (Some rank) c e = (let same : c ≡ chosen_of rank = some_same e in (rank, (refl, sym (ap (λ (x : Chosen). x.template) same), sym (ap (λ (x : Chosen). x.alternative) same))))

pub template_there : (given : Given) (p : Program) → IsProgramOf given.sheet given.limits p → (k : ℕ) (q : Template) → slice_get p.sheet.templates k ≡ Some q → (t : Template) × (slice_get given.sheet.templates k ≡ Some t)
template_there given p program k q is =
    by (slice_get given.sheet.templates k) refl (sym (slice_get-map template_without_body given.sheet.templates k) ∙ sym (ap (λ (s : Sheet). slice_get s.templates k) program.sheet_is) ∙ is)
  where
    by : (o : Option Template) → slice_get given.sheet.templates k ≡ o → option_map template_without_body (slice_get given.sheet.templates k) ≡ Some q → (t : Template) × (slice_get given.sheet.templates k ≡ Some t)
    by None e h = absurd (let no : None ≡ Some q = sym (ap (option_map template_without_body) e) ∙ h in cc)
    by (Some t) e h = (t, e)

module _ (p : Program) (r n : Run) (a : Asker) (h : HasHead p r) (asks : IsAsker p a (reverse r.frames.frames)) (alone : IsAlone p r) (c : Chosen) (chosen : IsChosen p r c.template c.alternative)
    (chooses : ChoosesAs p r (base_by p a) [] (Some c)) where
  abbrev came_from : Given → Left → Future → Flat_does
  came_from given left f = head_taken given p r left f

  pub entered_stops : (s : Stop) → Enters p c.template c.alternative a false (place_by p a) (Err s) r n
      → (given : Given) → AreNew given → IsProgramOf given.sheet given.limits p → HasParams p given → (left : Left) (f : Future) → Proceeds given p {A = Step} (Err s) (came_from given left f) [] (still.still given p n left f)
  entered_stops s e given new program params left f =
      let k = rank_there _ c (chooses given program left) in
      let t = template_there given p program c.template chosen.declared chosen.is in
      stops_there given p program r a h asks alone new params k.0 t.0 (ap (slice_get given.sheet.templates) k.1.1 ∙ t.1) n left f k.1.0 s
      (subst (λ x. Enters p k.0.template x a false (place_by p a) (Err s) r n) (sym k.1.2) (subst (λ x. Enters p x c.alternative a false (place_by p a) (Err s) r n) (sym k.1.1) e))

  pub entered_goes : Enters p c.template c.alternative a false (place_by p a) (Ok tt) r n
      → (given : Given) → AreNew given → IsProgramOf given.sheet given.limits p → HasParams p given → (left : Left) (f : Future) → Same (flat_code given) (came_from given left f) (still.still given p n left f)
  entered_goes e given new program params left f =
      let k = rank_there _ c (chooses given program left) in
      let t = template_there given p program c.template chosen.declared chosen.is in
      goes_there given p program r a h asks alone new params k.0 t.0 (ap (slice_get given.sheet.templates) k.1.1 ∙ t.1) n left f k.1.0
      (subst (λ x. Enters p k.0.template x a false (place_by p a) (Ok tt) r n) (sym k.1.2) (subst (λ x. Enters p x c.alternative a false (place_by p a) (Ok tt) r n) (sym k.1.1) e))

  alone_entered : IsUncounted r → Enters p c.template c.alternative a false (place_by p a) (Ok tt) r n → IsAlone p n
  alone_entered uncounted e = record {
    origin = ap (λ (x : Run). x.source.origin) e.rest ∙ alone.origin;
    outer = ap (λ (x : Run). x.outer.items) e.rest ∙ alone.outer;
    aside = ap (λ (x : Run). x.aside.items) e.rest ∙ alone.aside;
    held = ap (λ (x : Run). held_node x.source) e.rest ∙ alone.held;
    counted = λ is. absurd (h.apart (sym (ap (λ (x : Run). x.source.ahead) e.rest) ∙ is));
    whole = λ is depth skipped. absurd (let no : None ≡ Some depth = sym (ap skipped_in e.frames) ∙ skipped in cc);
    untouched =
        untouched_to _ (reverse n.frames.frames) (nodes_of r.source) (nodes_of n.source) (sym e.frames) (sym (ap (λ (x : Run). nodes_of x.source) e.rest))
        (head_untouched r c.template c.alternative e.start e.level e.locals (reverse r.frames.frames) uncounted alone.untouched);
    fuel = subst (λ u. u ≤ p.limits.fuel) (sym (ap (λ (x : Run). x.fuel) e.rest)) alone.fuel;
  }

  module _ {S : Type 0} (output : S → Target) (told : S → S → List Said → Type 0) (nothing : (s : S) → told s s []) (out : S) where
    pub takes_entered : IsUncounted r → Enters p c.template c.alternative a false (place_by p a) (Ok tt) r n → StepsFrom output told p (λ given left f. head_taken given p r left f) (Ok step.More) n out out
    takes_entered uncounted e = record {
      said = [];
      tells = nothing out;
      alone = alone_entered uncounted e;
      over = λ x. absurd (cc);
      does = λ given new program params limit f. entered_goes e given new program params (output out).left f;
    }

    pub takes_stopped : (s : Stop) → Enters p c.template c.alternative a false (place_by p a) (Err s) r n → StepsFrom output told p (λ given left f. head_taken given p r left f) (Err s) n out out
    takes_stopped s e = record {
      said = [];
      tells = nothing out;
      alone = tt;
      over = λ x. absurd (cc);
      does = λ given new program params limit f. entered_stops s e given new program params (output out).left f;
    }

-- for want of memory
pub takes_memory : {S : Type 0} (output : S → Target) (told : S → S → List Said → Type 0) (nothing : (s : S) → told s s []) (p : Program) (was : Given → Left → Future → Flat_does) (s : Stop) (n : Run) (out : S)
    → s ≡ stop.Memory → StepsFrom output told p was (Err s) n out out
takes_memory output told nothing p was s n out is =
    subst (λ x. StepsFrom output told p was (Err x) n out out) (sym is)
    (record {
      said = [];
      tells = nothing out;
      alone = tt;
      over = λ x. absurd (cc);
      does = λ given new program params limit f. (was given (output out).left f, same_equal (flat_code given) refl);
    })

-- Where none was chosen, the head is passed through.
pub passes_on : (given : Given) (p : Program) (program : IsProgramOf given.sheet given.limits p) (r : Run) (a : Asker) → HasHead p r → IsAsker p a (reverse r.frames.frames) → IsAlone p r
    → ChoosesAs p r (base_by p a) [] None → (left : Left) (f : Future) → head_taken given p r left f ≡ head_passed given p (place_by p a) (base_by p a) r left f
passes_on given p program r a h asks alone chooses left f =
    let g = going given p program r a h asks alone f in
    let none = none_there (choice given (base_by p a) [] (trail_of (nodes_of r.source)) (state_of given p r left)) (chooses given program left) in
    head_is given p program r a h asks alone left f None none
    ∙ sym
    (g.goes (λ f b. lifted (pass_node given (place_by p a) (base_by p a) Main (trail_of (scene_now given p r).nodes) (current (trail_of (scene_now given p r).nodes)) b)
    (still.rest given p Lists [] (reverse r.frames.frames) (still.node_over (scene_now given p r)) f)) (state_of given p r left))
  where
    none_there : (o : Option Rank) → None ≡ option_map chosen_of o → o ≡ None
    none_there None e = refl
    none_there (Some rank) e = absurd (cc)

pub takes_passed : {S : Type 0} (output : S → Target) (told : S → S → List Said → Type 0) (p : Program) (r n : Run) (a : Asker) → HasHead p r → IsAsker p a (reverse r.frames.frames) → IsAlone p r
    → ChoosesAs p r (base_by p a) [] None → (result : Result Step Stop) (out now : S) → StepsFrom output told p (λ given left f. head_passed given p (place_by p a) (base_by p a) r left f) result n out now
    → StepsFrom output told p (λ given left f. head_taken given p r left f) result n out now
takes_passed output told p r n a h asks alone chooses result out now steps = record {
  said = steps.said;
  tells = steps.tells;
  alone = steps.alone;
  over = steps.over;
  does = λ given new program params limit f.
      subst (λ x. Proceeds given p result x steps.said (still.still given p n (output now).left f)) (sym (passes_on given p program r a h asks alone chooses (output out).left f))
      (steps.does given new program params limit f);
}
