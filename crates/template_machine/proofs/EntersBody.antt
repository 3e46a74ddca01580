-- A template's body begins as the definition begins it.
use Rattle.std.proofs.Common.{◌≡◌, ◌≢◌, ◌<◌, ◌≤◌, ◌⊎◌, inl, inr, ℕ, zero, suc, ◌+◌, ◌-◌, nat_lt, Bool, true, false, cond, not, List, [], ◌∷◌, ◌++◌, length, map, reverse, Option, Some, None, Result, Ok, Err, IsSome, refl, ap, sym, subst, ◌∙◌, take, arith, lt-ltb, le-ltb, length-append, count_by, get_or}
use Rattle.std.specs.Prelude.{OnOk, if◌then◌else◌, slice_get, take_while, unwrap_or}
use Rattle.std.specs.List.{prefix_len}
use Rattle.std.specs.Option.{option_and_then, option_map, option_map_or}
use Rattle.std.proofs.lemmas.List.{reverse-append}
use Rattle.std.proofs.lemmas.List.Sums.{sum_by-cons}
use Rattle.std.proofs.lemmas.Option.{slice_get-map, slice_get_within}
use Rattle.stx_base.specs.Course.{Ask, Halt}
use Rattle.stx_base.specs.declared.fault.Place.{Place}
use Rattle.stx_base.specs.declared.fault.RunCode.TheVariants.{Instances}
use Rattle.stx_base.specs.declared.limits.Limits.{Limits}
use Rattle.stx_base.specs.Character.{is_ncname}
use Rattle.stx_base.specs.declared.name.Name.{Name}
use Rattle.stx_base.specs.declared.node.NodeTest.{NodeTest}
use Rattle.stx_base.specs.declared.node.NodeTest.TheVariants as test
use Rattle.frame_stack.specs.Change.{locals_of}
use Rattle.frame_stack.specs.Frame.{instance_of, is_instance, opens_list}
use Rattle.frame_stack.specs.Level.{instances}
use Rattle.frame_stack.specs.Stack.{FrameStack, IsFull, with_frames}
use Rattle.frame_stack.specs.declared.frame.Frame.{Frame}
use Rattle.frame_stack.specs.declared.frame.Frame.TheVariants.{Attributes, Body, Call, Loop, Pass, Region, Skip, Source}
use Rattle.frame_stack.specs.declared.locals.Local.{Local}
use Rattle.instr_code.specs.Bare.{template_without_body}
use Rattle.match_patterns.specs.Fits.{test_of}
use Rattle.node_stack.specs.Path.{PathNode, kind_of}
use Rattle.node_stack.specs.Stack.{path}
use Rattle.node_stack.specs.Test.{passes}
use Rattle.result_writer.specs.Target.{Left}
use Rattle.sheet_model.specs.Sound.{IsSpelled}
use Rattle.sheet_model.specs.declared.sheet.Procedure.{Procedure}
use Rattle.sheet_model.specs.declared.sheet.Sheet.{Sheet}
use Rattle.sheet_model.specs.declared.sheet.Template.{Template}
use Rattle.template_machine.specs.Called.{HasName, HasNames}
use Rattle.template_machine.specs.Commands.{HasParams}
use Rattle.template_machine.specs.Declaring.{binds, makes_scope}
use Rattle.template_machine.specs.Ending.{fault_at}
use Rattle.template_machine.specs.Entering.{Enters, self_entered}
use Rattle.template_machine.specs.Job as job
use Rattle.template_machine.specs.Job.{Does, Given, Here, Level, Self, State}
use Rattle.template_machine.specs.Made.{WaitFor}
use Rattle.template_machine.specs.Parameters.{Binds, CanBind, HasBound, handed_by, here_with, self_on}
use Rattle.template_machine.specs.Passing.{enters, instance, returns}
use Rattle.template_machine.specs.Programs.{IsProgramOf, instr_at}
use Rattle.template_machine.specs.Saying.{Yields}
use Rattle.template_machine.specs.Seen.{named_of}
use Rattle.template_machine.specs.Steps.{test_in}
use Rattle.template_machine.specs.Still as still
use Rattle.template_machine.specs.Still.{state_of}
use Rattle.template_machine.specs.Stops.{fault}
use Rattle.template_machine.specs.Varying.{Declares, HasScope, MakesScope, PassesTest}
use Rattle.template_machine.specs.Ways.{here, number_of, way_of}
use Rattle.template_machine.specs.Well.{IsSteady}
use Rattle.template_machine.specs.Working.{CanEnter, IsChosen}
use Rattle.template_machine.specs.declared.program.Program.{Program}
use Rattle.template_machine.specs.declared.run.Asker.{Asker}
use Rattle.template_machine.specs.declared.run.Asker.TheVariants as asker
use Rattle.template_machine.specs.declared.run.Doing.TheVariants as doing
use Rattle.template_machine.specs.declared.run.Run.{Run}
use Rattle.template_machine.specs.declared.source.Ahead.TheVariants as ahead
use Rattle.template_machine.specs.declared.source.Source as sources
use Rattle.template_machine.specs.declared.stop.Stop.{Stop}
use Rattle.template_machine.specs.declared.stop.Stop.TheVariants as stop
use Rattle.template_machine.proofs.Choosing.{program_sound}
use Rattle.template_machine.proofs.Evaluable.{all_at}
use Rattle.template_machine.proofs.Saying.{yields_by}
use Rattle.template_machine.proofs.Seeing.{passes_by}
use Rattle.template_machine.proofs.Sighting.{front, last_there}
use Rattle.template_machine.proofs.Sights.{got_before}
use Rattle.template_machine.proofs.Varying.{yields_any}
use Rattle.template_machine.proofs.Ways.{way_here}

-- Instances.

module _ (given : Given) (p : Program) (level : ℕ) where
  abbrev among : List Frame → ℕ
  among fs = count_by (is_instance level) (take_while (λ f. not (opens_list f)) fs)

  while_on : (x : Frame) (fs : List Frame) → opens_list x ≡ false → take_while (λ f. not (opens_list f)) (x ∷ fs) ≡ x ∷ take_while (λ f. not (opens_list f)) fs
  while_on x fs shut =
      let n = prefix_len (λ (f : Frame). not (opens_list f)) fs in
      let next : 1 + n ≡ suc n = omega arith in
      ap (λ b. take (cond (not b) (1 + n) 0) (x ∷ fs)) shut ∙ ap (λ k. take k (x ∷ fs)) next

  one_first : (x : Frame) (fs : List Frame) → opens_list x ≡ false → among (x ∷ fs) ≡ cond (is_instance level x) 1 0 + among fs
  one_first x fs shut =
      ap (count_by (is_instance level)) (while_on x fs shut)
      ∙ sum_by-cons (λ (y : Frame). cond (is_instance level y) 1 0) x (take_while (λ f. not (opens_list f)) fs)

  none_first : (x : Frame) (fs : List Frame) → opens_list x ≡ true → among (x ∷ fs) ≡ 0
  none_first x fs opens =
      ap (λ b. count_by (is_instance level) (take (cond (not b) (1 + prefix_len (λ (f : Frame). not (opens_list f)) fs) 0) (x ∷ fs))) opens

  counted : (fs : List Frame) → among fs ≡ still.instances_in given p level fs
  counted [] = refl
  counted (Body template alternative pc locals own spent ∷ fs) = one_first (Body template alternative pc locals own spent) fs refl ∙ ap (λ n. cond (is_instance level (Body template alternative pc locals own spent)) 1 0 + n) (counted fs)
  counted (Call procedure pc locals own ∷ fs) = one_first (Call procedure pc locals own) fs refl ∙ ap (λ n. cond (is_instance level (Call procedure pc locals own)) 1 0 + n) (counted fs)
  counted (Loop turn ∷ fs) = one_first (Loop turn) fs refl ∙ (let same : 0 + among fs ≡ among fs = omega arith in same ∙ counted fs)
  counted (Region asked own ∷ fs) = one_first (Region asked own) fs refl ∙ (let same : 0 + among fs ≡ among fs = omega arith in same ∙ counted fs)
  counted (Skip depth ∷ fs) = one_first (Skip depth) fs refl ∙ (let same : 0 + among fs ≡ among fs = omega arith in same ∙ counted fs)
  counted (Pass base own spent ∷ fs) = one_first (Pass base own spent) fs refl ∙ (let same : 0 + among fs ≡ among fs = omega arith in same ∙ counted fs)
  counted (Attributes next asked ∷ fs) = none_first (Attributes next asked) fs refl
  counted (Source buffer next asked ∷ fs) = none_first (Source buffer next asked) fs refl

  pub instances_are : (xs : List Frame) → instances level xs ≡ still.instances_in given p level (reverse xs)
  instances_are xs = counted (reverse xs)

-- Where a method stops, what would follow doesn't matter.
pub yields_memory : (e : Stop) → e ≡ stop.Memory → (x : Does) (l : Unit {0} → Does) → Yields {A = Unit {0}} (Err e) x l
yields_memory e is x l = subst (λ s. Yields {A = Unit {0}} (Err s) x l) (sym is) tt

pub yields_full : (e : Stop) (at : Place) → e ≡ fault Instances at → (x : Does) (l : Unit {0} → Does) → x ≡ Halt (fault_at Instances at) → Yields {A = Unit {0}} (Err e) x l
yields_full e at is x l h = subst (λ s. Yields {A = Unit {0}} (Err s) x l) (sym is) h

module _ (given : Given) (p : Program) (program : IsProgramOf given.sheet given.limits p) (level : ℕ) (xs : List Frame) (now : Level) (count : now.instances ≡ still.instances_in given p level (reverse xs)) (at : Place) (k : Level → Does) where
  -- a level has room for one more instance
  pub room_there : instances level xs < p.limits.instances → instance given at now k ≡ k (record now { instances = now.instances + 1 })
  room_there room =
      let less : now.instances < given.limits.instances =
      subst (λ l. now.instances < l) (ap (λ (l : Limits). l.instances) program.limits_are) (subst (λ n. n < p.limits.instances) (instances_are given p level xs ∙ sym count) room) in
      ap (λ b. if b then k (record now { instances = now.instances + 1 }) else Halt (fault_at Instances at)) (lt-ltb now.instances given.limits.instances less)

  -- or not
  pub no_room : p.limits.instances ≤ instances level xs → instance given at now k ≡ Halt (fault_at Instances at)
  no_room full =
      let more : given.limits.instances ≤ now.instances =
      subst (λ l. l ≤ now.instances) (ap (λ (l : Limits). l.instances) program.limits_are) (subst (λ n. p.limits.instances ≤ n) (instances_are given p level xs ∙ sym count) full) in
      ap (λ b. if b then k (record now { instances = now.instances + 1 }) else Halt (fault_at Instances at)) (le-ltb now.instances given.limits.instances more)

-- The template as the sheet has it.
same_template : (given : Given) (p : Program) → IsProgramOf given.sheet given.limits p → (n : ℕ) (q t : Template) → slice_get p.sheet.templates n ≡ Some q → slice_get given.sheet.templates n ≡ Some t → q ≡ template_without_body t
same_template given p program n q t is there =
    one
    (sym is ∙ ap (λ (s : Sheet). slice_get s.templates n) program.sheet_is ∙ slice_get-map template_without_body given.sheet.templates n ∙ ap (option_map template_without_body) there)
  where
    one : {x y : Template} → Some x ≡ Some y → x ≡ y
    one e = cc

-- What waits where it asked, below the frame that is pushed.
handed_pushed : (given : Given) (p : Program) (r m : Run) (x : Frame) (a : Asker) → m.frames.frames ≡ r.frames.frames ++ x ∷ [] → WaitFor p m a → handed_by given p m a ≡ handed_by given p r a
handed_pushed given p r m x asker.Root e w = refl
handed_pushed given p r m x (asker.Pass base) e w = refl
handed_pushed given p r m x (asker.Instr asked body) e w =
    ap (λ o. still.values_handed given p (instr_at p.code asked) (option_map_or locals_of o []))
    (ap (λ l. slice_get l body) e ∙ got_before r.frames.frames (x ∷ []) body (omega (arith, w.below, ap length e, length-append r.frames.frames (x ∷ []))))

-- The current node passes the test by which its template was chosen.
pub chosen_test : (p : Program) (r : Run) (template alternative start level : ℕ) (locals : List Local) (spent : Bool) (fs : List Frame) → IsChosen p r template alternative
    → (t : NodeTest) × ((test_in p.sheet (Body template alternative start locals level spent ∷ fs) ≡ Some t) × PassesTest t r)
chosen_test p r template alternative start level locals spent fs c =
    let a = passes_by p c.declared alternative (here (way_of (path r.source.stack))) c.passes_by in (
      test_of a.0,
      (
        ap (λ o. option_map test_of (slice_get (option_map_or (λ (t : Template). t.pattern.alternatives) o []) alternative)) c.is ∙ ap (option_map test_of) a.1.0,
        λ x is. a.1.1 x.node (way_here (path r.source.stack) ∙ last_there (path r.source.stack).nodes x is),
      ),
    )

module _ (p : Program) (r m : Run) (template alternative start level : ℕ) (spent : Bool) (q : Template) (a : Asker) (at : Place) (chosen : IsChosen p r template alternative)
    (is : slice_get p.sheet.templates template ≡ Some q) (starts : slice_get p.code.starts template ≡ Some start) (level_is : level ≡ number_of (way_of (path r.source.stack))) (apart : r.source.ahead ≢ ahead.Here) where
  abbrev frame : Frame
  frame = Body template alternative start [] level spent

  abbrev fs : List Frame
  fs = reverse r.frames.frames

  abbrev self_then : Given → Self
  self_then given = self_entered given p r template alternative start level spent

  -- for want of room
  pub enters_full : (e : Stop) (new : Run) → (e ≡ stop.Memory) ⊎ ((e ≡ fault Instances at) × IsFull p.limits.instances frame r.frames.frames) → Enters p template alternative a spent at (Err e) r new
  enters_full e new (inl memory) = record {
    start = start;
    starts = starts;
    level = level;
    level_is = level_is;
    locals = [];
    none = refl;
    frames = tt;
    rest = tt;
    does = λ given program params t there left now count b go k kis. yields_memory e memory (instance given at now k) _;
  }
  enters_full e new (inr full) = record {
    start = start;
    starts = starts;
    level = level;
    level_is = level_is;
    locals = [];
    none = refl;
    frames = tt;
    rest = tt;
    does = λ given program params t there left now count b go k kis.
        let own : full.1.0 ≡ level = one (sym full.1.1) in
        yields_full e at full.0 (instance given at now k) _
        (no_room given p program level r.frames.frames now count at k (subst (λ n. p.limits.instances ≤ instances n r.frames.frames) own full.1.2));
  }
    where
      one : {x y : ℕ} → Some x ≡ Some y → x ≡ y
      one e = cc

  module _ (pushed : m ≡ record r { frames = with_frames (r.frames.frames ++ frame ∷ []) r.frames; doing = doing.Body }) (room : instances level r.frames.frames < p.limits.instances) (waits : WaitFor p m a) (names : HasNames q.params) where
    pushed_frames : m.frames.frames ≡ r.frames.frames ++ frame ∷ []
    pushed_frames = ap (λ (x : Run). x.frames.frames) pushed

    on_top : reverse m.frames.frames ≡ frame ∷ fs
    on_top = ap reverse pushed_frames ∙ reverse-append r.frames.frames (frame ∷ [])

    self_is : (given : Given) (n : Run) → n.source ≡ r.source → self_on given p n frame fs ≡ self_then given
    self_is given n source = ap (λ (s : sources.Source). still.self_of given p level frame fs (still.scene_by given p s.ahead (record r { source = s }))) source

    pub can_bind : CanBind p q.params m
    can_bind =
        let t = chosen_test p r template alternative start level [] spent fs chosen in record {
          names = names;
          apart = λ e. apart (ap (λ (x : Run). x.source.ahead) (sym pushed) ∙ e);
          fits = λ x at_last.
              ap (λ o. passes (unwrap_or o test.Document) (kind_of x.node)) (ap (test_in p.sheet) on_top ∙ t.1.0)
              ∙ t.1.1 x (ap (λ (y : Run). slice_get (path y.source.stack).nodes (length (path y.source.stack).nodes - 1)) (sym pushed) ∙ at_last);
        }

    -- behind its copies, in a run in which these wait
    module _ (mid n : Run) (result : Result (Unit {0}) Stop) (laid : mid ≡ record m { store = mid.store; putting = mid.putting }) (binds_so : Binds p q.params (λ given. handed_by given p mid a) result mid n) where
      mid_frames : mid.frames.frames ≡ r.frames.frames ++ frame ∷ []
      mid_frames = ap (λ (x : Run). x.frames.frames) laid ∙ pushed_frames

      mid_top : reverse mid.frames.frames ≡ frame ∷ fs
      mid_top = ap (λ (x : Run). reverse x.frames.frames) laid ∙ on_top

      mid_waits : (y : Asker) → WaitFor p m y → WaitFor p mid y
      mid_waits asker.Root w = tt
      mid_waits (asker.Pass base) w = tt
      mid_waits (asker.Instr asked body) w = record {
        instr = w.instr;
        asks = w.asks;
        frame = w.frame;
        there = ap (λ (x : Run). slice_get x.frames.frames body) laid ∙ w.there;
        level = w.level;
        long = w.long;
        below = subst (λ (s : FrameStack). body + 1 < length s.frames) (sym (ap (λ (x : Run). x.frames) laid)) w.below;
      }

      handed_is : (given : Given) → handed_by given p mid a ≡ handed_by given p r a
      handed_is given = handed_pushed given p r mid frame a mid_frames (mid_waits a waits)

      mid_self : (given : Given) → self_on given p mid frame fs ≡ self_then given
      mid_self given =
          self_is given mid (ap (λ (x : Run). x.source) laid ∙ ap (λ (x : Run). x.source) pushed)

      abbrev mid_state : State → State
      mid_state st = record st { variables = mid.store; buffers = mid.putting.buffers }

      -- the parameters
      params_bind : (given : Given) (t : Template) → q ≡ template_without_body t → (b : Here) (st : State) (go : Here → Does)
          → enters given (handed_by given p r a) t (self_then given) b go (mid_state st)
          ≡ binds given q.params (handed_by given p mid a) (self_on given p mid frame fs) (record b { locals = []; state = mid_state st }) (λ c. Ask (job.Body t.body (self_then given) c) (returns given t b go))
      params_bind given t same b st go =
          let k = λ (c : Here). Ask (job.Body t.body (self_then given) c) (returns given t b go) in
          ap (λ vs. binds given vs (handed_by given p r a) (self_then given) (record b { locals = []; state = mid_state st }) k) (sym (ap (λ (x : Template). x.params) same))
          ∙ ap (λ h. binds given q.params h (self_then given) (record b { locals = []; state = mid_state st }) k) (sym (handed_is given))
          ∙ ap (λ s. binds given q.params (handed_by given p mid a) s (record b { locals = []; state = mid_state st }) k) (sym (mid_self given))

      module _ (given : Given) (program : IsProgramOf given.sheet given.limits p) (t : Template) (there : slice_get given.sheet.templates template ≡ Some t) (left : Left) (now : Level)
          (count : now.instances ≡ still.instances_in given p level (reverse r.frames.frames)) (b : Here) (go : Here → Does) (k : Level → Does)
          (kis : k (record now { instances = now.instances + 1 }) ≡ enters given (handed_by given p r a) t (self_then given) b go (mid_state (state_of given p r left))) where
        come : instance given at now k
            ≡ binds given q.params (handed_by given p mid a) (self_on given p mid frame fs) (record b { locals = []; state = mid_state (state_of given p r left) }) (λ c. Ask (job.Body t.body (self_then given) c) (returns given t b go))
        come =
            room_there given p program level r.frames.frames now count at k room ∙ kis
            ∙ params_bind given t (same_template given p program template q t is there) b (state_of given p r left) go

        state_now : (h : HasBound p q.params [] (λ given. handed_by given p mid a) mid n) → mid.putting.targets ≡ r.putting.targets → mid_state (state_of given p r left) ≡ state_of given p n left
        state_now h targets =
            sym
            (ap (λ (x : Run). state_of given p x left) h.rest ∙ ap (λ (x : Run). state_of given p (record x { frames = n.frames }) left) laid
            ∙ ap (λ (x : Run). state_of given p (record x { frames = n.frames; store = mid.store; putting = mid.putting }) left) pushed
            ∙ ap (λ ts. record (mid_state (state_of given p r left)) { targets = reverse ts }) targets)

        done : (h : HasBound p q.params [] (λ given. handed_by given p mid a) mid n) → mid.putting.targets ≡ r.putting.targets
            → instance given at now k ≡ Ask (job.Body t.body (self_then given) (record b { locals = named_of h.locals; state = state_of given p n left })) (returns given t b go)
        done h targets =
            come
            ∙ h.does given program frame fs start mid_top refl (record b { locals = []; state = mid_state (state_of given p r left) }) refl (λ c. Ask (job.Body t.body (self_then given) c) (returns given t b go))
            ∙ ap (λ s. Ask (job.Body t.body (self_then given) (record b { locals = named_of h.locals; state = s })) (returns given t b go)) (state_now h targets)

        stops : (e : Stop) → Binds p q.params (λ given. handed_by given p mid a) (Err e) mid n → (l : Unit {0} → Does) → Yields {A = Unit {0}} (Err e) (instance given at now k) l
        stops e h l =
            let c : Here = record b { locals = []; state = mid_state (state_of given p r left) } in
            let go_on = λ (c : Here). Ask (job.Body t.body (self_then given) c) (returns given t b go) in
            yields_by (Err e) (instance given at now k) _ l come
            (yields_any e (binds given q.params (handed_by given p mid a) (self_on given p mid frame fs) c go_on) (λ done. go_on c) l (h given program frame fs start mid_top refl c refl go_on))

    -- Without new copies.
    module _ (plain : q.new_scope ≡ false) (n : Run) where
      plain_is : (given : Given) → IsProgramOf given.sheet given.limits p → (t : Template) → slice_get given.sheet.templates template ≡ Some t → (left : Left) (b : Here) (go : Here → Does)
          → makes_scope given t.new_scope t.group (self_then given) (state_of given p r left) (enters given (handed_by given p r a) t (self_then given) b go)
          ≡ enters given (handed_by given p r a) t (self_then given) b go (record (state_of given p r left) { variables = m.store; buffers = m.putting.buffers })
      plain_is given program t there left b go =
          let none : t.new_scope ≡ false = sym (ap (λ (x : Template). x.new_scope) (same_template given p program template q t is there)) ∙ plain in
          let k = enters given (handed_by given p r a) t (self_then given) b go in
          ap (λ x. makes_scope given x t.group (self_then given) (state_of given p r left) k) none
          ∙ ap (λ x. k (record (state_of given p r left) { variables = x; buffers = r.putting.buffers })) (sym (ap (λ (x : Run). x.store) pushed))
          ∙ ap (λ x. k (record (state_of given p r left) { variables = m.store; buffers = x })) (sym (ap (λ (x : Run). x.putting.buffers) pushed))

      pub enters_plainly : (h : HasBound p q.params [] (λ given. handed_by given p m a) m n) → Enters p template alternative a spent at (Ok tt) r n
      enters_plainly h = record {
        start = start;
        starts = starts;
        level = level;
        level_is = level_is;
        locals = h.locals;
        none = h.none;
        frames = h.behind frame fs on_top;
        rest =
            h.rest ∙ ap (λ (x : Run). record x { frames = n.frames }) pushed
            ∙ sym (ap (λ (x : Run). record r { frames = n.frames; store = x.store; putting = x.putting; doing = doing.Body }) h.rest ∙ ap (λ (x : Run). record r { frames = n.frames; store = x.store; putting = x.putting; doing = doing.Body }) pushed);
        does = λ given program params t there left now count b go k kis.
            done m n (Ok tt) refl h given program t there left now count b go k (kis ∙ plain_is given program t there left b go) h (ap (λ (x : Run). x.putting.targets) pushed);
      }

      pub enters_not : (e : Stop) → Binds p q.params (λ given. handed_by given p m a) (Err e) m n → Enters p template alternative a spent at (Err e) r n
      enters_not e h = record {
        start = start;
        starts = starts;
        level = level;
        level_is = level_is;
        locals = [];
        none = refl;
        frames = tt;
        rest = tt;
        does = λ given program params t there left now count b go k kis.
            stops m n (Err e) refl h given program t there left now count b go k (kis ∙ plain_is given program t there left b go) e h _;
      }

      pub enters_plain : (result : Result (Unit {0}) Stop) → Binds p q.params (λ given. handed_by given p m a) result m n → Enters p template alternative a spent at result r n
      enters_plain (Ok done) h = enters_plainly h
      enters_plain (Err e) h = enters_not e h

    -- With them.
    module _ (anew : q.new_scope ≡ true) where
      pub tested : (t : NodeTest) × ((test_in p.sheet (frame ∷ fs) ≡ Some t) × PassesTest t r)
      tested = chosen_test p r template alternative start level [] spent fs chosen

      pub scope_test : test_in p.sheet (reverse m.frames.frames) ≡ Some tested.0
      scope_test = ap (test_in p.sheet) on_top ∙ tested.1.0

      pub scope_passes : PassesTest tested.0 m
      scope_passes = subst (PassesTest tested.0) (sym pushed) tested.1.1

      declares : (given : Given) → Declares tested.0 m (self_then given)
      declares given = record {
        test = ap (λ o. unwrap_or o test.Document) tested.1.0;
        trail = ap still.trail_of (front r.source.ahead (still.nodes_of r.source) given p apart) ∙ ap (λ (x : Run). still.trail_of (still.nodes_of x.source)) (sym pushed);
      }

      module _ (given : Given) (program : IsProgramOf given.sheet given.limits p) (t : Template) (there : slice_get given.sheet.templates template ≡ Some t) (left : Left) (b : Here) (go : Here → Does) where
        scope_first : makes_scope given t.new_scope t.group (self_then given) (state_of given p r left) (enters given (handed_by given p r a) t (self_then given) b go)
            ≡ makes_scope given true q.group (self_then given) (state_of given p r left) (enters given (handed_by given p r a) t (self_then given) b go)
        scope_first =
            let same = same_template given p program template q t is there in
            let k = enters given (handed_by given p r a) t (self_then given) b go in
            ap (λ x. makes_scope given x t.group (self_then given) (state_of given p r left) k) (sym (ap (λ (x : Template). x.new_scope) same) ∙ anew)
            ∙ ap (λ x. makes_scope given true x (self_then given) (state_of given p r left) k) (sym (ap (λ (x : Template). x.group) same))

      -- they can't be made
      pub enters_scopeless : (n : Run) (e : Stop) → MakesScope p q.group tested.0 (Err e) m n → Enters p template alternative a spent at (Err e) r n
      enters_scopeless n e h = record {
        start = start;
        starts = starts;
        level = level;
        level_is = level_is;
        locals = [];
        none = refl;
        frames = tt;
        rest = tt;
        does = λ given program params t there left now count b go k kis.
            yields_by (Err e) (instance given at now k) (makes_scope given true q.group (self_then given) (state_of given p r left) (enters given (handed_by given p r a) t (self_then given) b go)) _
            (room_there given p program level r.frames.frames now count at k room ∙ kis ∙ scope_first given program t there left b go)
            (yields_any e (makes_scope given true q.group (self_then given) (state_of given p r left) (enters given (handed_by given p r a) t (self_then given) b go)) _ _
            (h given program params (self_then given) (declares given) (state_of given p r left) (ap (λ (x : Run). x.store) (sym pushed)) (enters given (handed_by given p r a) t (self_then given) b go)));
      }

      module _ (mid n : Run) (laid : mid ≡ record m { store = mid.store; putting = mid.putting }) (scope : HasScope p q.group tested.0 m mid) where
        scope_is : (given : Given) → IsProgramOf given.sheet given.limits p → HasParams p given → (t : Template) → slice_get given.sheet.templates template ≡ Some t → (left : Left) (b : Here) (go : Here → Does)
            → makes_scope given t.new_scope t.group (self_then given) (state_of given p r left) (enters given (handed_by given p r a) t (self_then given) b go)
            ≡ enters given (handed_by given p r a) t (self_then given) b go (record (state_of given p r left) { variables = mid.store; buffers = mid.putting.buffers })
        scope_is given program params t there left b go =
            scope_first given program t there left b go
            ∙ scope.does given program params (self_then given) (declares given) (state_of given p r left) (ap (λ (x : Run). x.store) (sym pushed)) (ap (λ (x : Run). x.putting.buffers) (sym pushed))
            (enters given (handed_by given p r a) t (self_then given) b go)

        targets_are : mid.putting.targets ≡ r.putting.targets
        targets_are = scope.targets ∙ ap (λ (x : Run). x.putting.targets) pushed

        pub enters_scoped_so : (h : HasBound p q.params [] (λ given. handed_by given p mid a) mid n) → Enters p template alternative a spent at (Ok tt) r n
        enters_scoped_so h = record {
          start = start;
          starts = starts;
          level = level;
          level_is = level_is;
          locals = h.locals;
          none = h.none;
          frames = h.behind frame fs (ap (λ (x : Run). reverse x.frames.frames) laid ∙ on_top);
          rest =
              h.rest ∙ ap (λ (x : Run). record x { frames = n.frames }) laid ∙ ap (λ (x : Run). record x { frames = n.frames; store = mid.store; putting = mid.putting }) pushed
              ∙ sym (ap (λ (x : Run). record r { frames = n.frames; store = x.store; putting = x.putting; doing = doing.Body }) h.rest);
          does = λ given program params t there left now count b go k kis.
              done mid n (Ok tt) laid h given program t there left now count b go k (kis ∙ scope_is given program params t there left b go) h targets_are;
        }

        pub enters_scoped_not : (e : Stop) → Binds p q.params (λ given. handed_by given p mid a) (Err e) mid n → Enters p template alternative a spent at (Err e) r n
        enters_scoped_not e h = record {
          start = start;
          starts = starts;
          level = level;
          level_is = level_is;
          locals = [];
          none = refl;
          frames = tt;
          rest = tt;
          does = λ given program params t there left now count b go k kis.
              stops mid n (Err e) laid h given program t there left now count b go k (kis ∙ scope_is given program params t there left b go) e h _;
        }

        pub enters_scoped : (result : Result (Unit {0}) Stop) → Binds p q.params (λ given. handed_by given p mid a) result mid n → Enters p template alternative a spent at result r n
        enters_scoped (Ok done) h = enters_scoped_so h
        enters_scoped (Err e) h = enters_scoped_not e h

        pub can_bind_there : CanBind p q.params mid
        can_bind_there = subst (CanBind p q.params) (sym laid) (record { names = can_bind.names; apart = can_bind.apart; fits = can_bind.fits })

-- What holds where a body is entered.

some_name : (n : Name) → IsSpelled n → HasName n
some_name n spelled none = absurd (let no : is_ncname [] ≡ true = ap is_ncname (sym none) ∙ spelled in cc)

pub template_names : (p : Program) (r : Run) → IsSteady p r → (n : ℕ) (t : Template) → slice_get p.sheet.templates n ≡ Some t → HasNames t.params
template_names p r s n t is =
    let P : Template → Type 0 = λ t. HasNames t.params in
    all_at P p.sheet.templates n t (λ k d l. λ i e m. some_name (get_or (get_or p.sheet.templates k d).params i e).name (((program_sound p r s).readable.templates k d l).1 i e m).0) is

pub procedure_names : (p : Program) (r : Run) → IsSteady p r → (n : ℕ) (q : Procedure) → slice_get p.sheet.procedures n ≡ Some q → HasNames q.params
procedure_names p r s n q is =
    let P : Procedure → Type 0 = λ q. HasNames q.params in
    all_at P p.sheet.procedures n q (λ k d l. λ i e m. some_name (get_or (get_or p.sheet.procedures k d).params i e).name ((program_sound p r s).readable.procedures k d l i e m).0) is

pub can_apart : (p : Program) (spent : Bool) (r : Run) → CanEnter p spent r → r.source.ahead ≢ ahead.Here
can_apart p spent r (inl h) = h.0.apart
can_apart p spent r (inr h) = h.0.apart
