-- A template's body is entered for the current node.
use Rattle.std.proofs.Common.{◌≡◌, ◌≢◌, ℕ, zero, suc, ◌+◌, ◌-◌, ◌<◌, ◌≤◌, inl, inr, Bool, true, false, List, [], ◌∷◌, ◌++◌, length, map, reverse, All, Some, IsSome, refl, ap, sym, subst, ◌∙◌, arith, append-nil, length-append}
use Rattle.std.specs.Prelude.{◌==◌, MatchBool, if◌then◌else◌, unwrap_or}
use Rattle.std.specs.List.{slice_get, slice_set}
use Rattle.std.specs.Option.{option_and_then, option_map, option_map_or}
use Rattle.std.proofs.lemmas.Bool.{eq-eqb, false≢true}
use Rattle.std.proofs.lemmas.List.{length-map, reverse-append, reverse-reverse}
use Rattle.std.proofs.lemmas.List.Elements.{All-cons, All-head, All-nil, All-tail}
use Rattle.std.proofs.lemmas.Option.{slice_get_within}
use Rattle.frame_stack.specs.Change.{changed, locals_of, with_locals}
use Rattle.frame_stack.specs.Stack.{FrameStack, with_frames}
use Rattle.frame_stack.specs.declared.frame.Frame.{Frame}
use Rattle.frame_stack.specs.declared.frame.Frame.TheVariants.{Attributes, Body, Region, Source}
use Rattle.frame_stack.specs.declared.locals.Local.{Local}
use Rattle.match_patterns.specs.Fits.{test_of}
use Rattle.node_stack.specs.Stack.{path}
use Rattle.sheet_model.specs.Parts.{handed}
use Rattle.sheet_model.specs.declared.instr.Instr.{Instr}
use Rattle.sheet_model.specs.declared.instr.Instr.TheViews.{out-Instr}
use Rattle.sheet_model.specs.declared.sheet.Sheet.{Sheet}
use Rattle.sheet_model.specs.declared.sheet.Template.{Template}
use Rattle.template_machine.specs.Asking.{AsksOn, asking}
use Rattle.template_machine.specs.Bodies.{below, body_in, level_in, level_of, pc_in, spent_in}
use Rattle.template_machine.specs.Contexts.{Goes, HasStations, Named, Station, begun}
use Rattle.template_machine.specs.Made.{AreEvaluable, BindsParams, LaysScope, WaitFor, scope_laid}
use Rattle.template_machine.specs.Programs.{instr_at}
use Rattle.template_machine.specs.Seen.{ParentsStandBefore}
use Rattle.template_machine.specs.Standing.{Free, Known, Shelf, Standing, Usage, in_group, known_now, known_of, region_over, rooms_of, scope_over, source_over, standing_of}
use Rattle.template_machine.specs.Steps.{Sees, group_of, test_in}
use Rattle.template_machine.specs.Ways.{here, number_of, way_of}
use Rattle.template_machine.specs.Well.{AreOf, AreWell, BodyGoesOn, BodyWaits, CanTakeOff, GoesOn, IsLaidOver, IsSettled, IsSteady, IsWell, PassesBy, TellWithin, is_again, waiting_at}
use Rattle.template_machine.specs.Working.{CanEnter, IsChosen}
use Rattle.template_machine.specs.declared.program.Program.{Program}
use Rattle.template_machine.specs.declared.run.Asker.{Asker}
use Rattle.template_machine.specs.declared.run.Asker.TheVariants as asker
use Rattle.template_machine.specs.declared.run.Doing.TheVariants as doing
use Rattle.template_machine.specs.declared.run.Run.{Run}
use Rattle.template_machine.specs.declared.source.Ahead.TheVariants as ahead
use Rattle.template_machine.specs.declared.source.Source as sources
use Rattle.template_machine.proofs.Around.{tree_parents}
use Rattle.template_machine.proofs.Asking.{first_on, outer_on, placed_level}
use Rattle.template_machine.proofs.Below.{below_all}
use Rattle.template_machine.proofs.Calling.{are_named, level_here}
use Rattle.template_machine.proofs.Choosing.{program_sound}
use Rattle.template_machine.proofs.Entering.{enters, over_again}
use Rattle.template_machine.proofs.Evaluable.{all_at, template_params}
use Rattle.template_machine.proofs.Laid.{scope_back}
use Rattle.template_machine.proofs.Making.{laid_steady}
use Rattle.template_machine.proofs.Moving.{asked_there, body_is, waiting_long}
use Rattle.template_machine.proofs.Nodes.{is_way}
use Rattle.template_machine.proofs.Operating.{does_otherwise, with_other_frames}
use Rattle.template_machine.proofs.Placing.{before_at, last_at, placed, reversed, top_changed}
use Rattle.template_machine.proofs.Seeing.{node_there, passes_by, some_there}
use Rattle.template_machine.proofs.Ways.{way_here, way_told}

-- its frame on top of those of a run that goes on with it
abbrev pub entered_with : Frame → Run → Run
entered_with x r = record r { frames = with_frames (r.frames.frames ++ x ∷ []) r.frames; doing = doing.Body }

-- A template that there is.

pub group_within : (p : Program) (r : Run) → IsSteady p r → (n : ℕ) (t : Template) → slice_get p.sheet.templates n ≡ Some t → t.group < length p.sheet.groups
group_within p r s n t is =
    let P : Template → Type 0 = λ t. t.group < length p.sheet.groups in
    all_at P p.sheet.templates n t (λ k d l. ((program_sound p r s).numbers.templates k d l).0.0) is

-- The run behind the push of its frame.

module _ (p : Program) (r : Run) (s : IsSteady p r) (template alternative pc level : ℕ) (locals : List Local) (spent : Bool) where
  abbrev pub pushed : Run
  pushed = entered_with (Body template alternative pc locals level spent) r

  pub pushed_steady : IsSteady p pushed
  pushed_steady =
      let x = Body template alternative pc locals level spent in
      let frames = with_frames (r.frames.frames ++ x ∷ []) r.frames in
      does_otherwise p (record r { frames = frames }) doing.Body
      (with_other_frames p r frames s
      (subst (λ l. TellWithin l (rooms_of r) (standing_of r).shelves) (sym (reverse-append r.frames.frames (x ∷ []))) s.within))

  pub pushed_sees : IsChosen p r template alternative → Sees p pushed (length pushed.frames.frames - 1)
  pushed_sees c =
      let x = Body template alternative pc locals level spent in
      let xs = r.frames.frames in
      let more = xs ++ x ∷ [] in
      let place : length more - 1 ≡ length xs = omega (arith, length-append xs (x ∷ [])) in
      let long : suc (length more - 1) ≡ length more = omega (arith, length-append xs (x ∷ [])) in
      let there : slice_get more (length more - 1) ≡ Some x = ap (slice_get more) place ∙ last_at xs x in
      let n = node_there (way_of (path r.source.stack)).nodes (is_way r.source.stack) in
      let a = passes_by p c.declared alternative (here (way_of (path r.source.stack))) c.passes_by in
      record {
        level = level;
        level_is = ap (option_and_then level_of) there;
        group = c.declared.group;
        group_is = ap (option_and_then (group_of p.sheet)) there ∙ ap (option_map (λ (t : Template). t.group)) c.is;
        test = test_of a.0;
        test_is =
            ap (λ k. test_in p.sheet (below k more)) long ∙ ap (test_in p.sheet) (below_all more ∙ reverse-append xs (x ∷ []))
            ∙ ap (λ o. option_map test_of (slice_get (option_map_or (λ (t : Template). t.pattern.alternatives) o []) alternative)) c.is
            ∙ ap (option_map test_of) a.1.0;
        told = way_told (path r.source.stack) n.0 (test_of a.0) (sym (way_here (path r.source.stack)) ∙ n.1) (a.1.1 n.0 n.1);
        parents = subst (λ (y : Sheet). ParentsStandBefore y.groups) (sym s.program.sheet_is) (tree_parents s.sheet.groups s.sound.groups);
        sized = s.groups;
        root = s.program.root_is;
      }

-- Values that wait at the instruction that asked.

-- a body waits under what asked
asking_well : (p : Program) (stations : List Station) (fs : List Frame) (s : Standing) → AreWell p stations 0 true fs s
    → (t : Standing) × AreWell p stations 0 true (asking fs) t
asking_well p stations (Region asked level ∷ fs) s w =
    first_on s.aside _ ((t : Standing) × AreWell p stations 0 true fs t) w.3 (λ x others h. (region_over x others s, h.2))
asking_well p stations (Attributes next asked ∷ fs) s w = (s, w.3)
asking_well p stations (Source buffer next asked ∷ fs) s w =
    outer_on s.around _ ((t : Standing) × AreWell p stations 0 true fs t) w.5 (λ o others h. (source_over buffer o.source others s, h.1))
asking_well p stations fs s w = (s, w)

pub asking_at : (fs : List Frame) (n : ℕ) (x : Frame) → slice_get (reverse (asking fs)) n ≡ Some x → slice_get (reverse fs) n ≡ Some x
asking_at (Region asked level ∷ fs) n x is = ap (λ l. slice_get l n) (reversed (Region asked level) fs) ∙ before_at (reverse fs) (Region asked level ∷ []) n x is
asking_at (Attributes next asked ∷ fs) n x is = ap (λ l. slice_get l n) (reversed (Attributes next asked) fs) ∙ before_at (reverse fs) (Attributes next asked ∷ []) n x is
asking_at (Source buffer next asked ∷ fs) n x is = ap (λ l. slice_get l n) (reversed (Source buffer next asked) fs) ∙ before_at (reverse fs) (Source buffer next asked ∷ []) n x is
asking_at fs n x is = is

-- a body itself asked
pub asking_itself : (fs : List Frame) → IsSome (level_in fs) → asking fs ≡ fs
asking_itself (Region asked level ∷ fs) some = absurd (false≢true some)
asking_itself (Attributes next asked ∷ fs) some = absurd (false≢true some)
asking_itself (Source buffer next asked ∷ fs) some = absurd (false≢true some)
asking_itself fs some = refl

record Hands (p : Program) (gs : List Frame) (asked body : ℕ) : Type 0 where
  instr : Instr
  asks : instr_at p.code asked ≡ Some instr
  frame : Frame
  there : slice_get (reverse gs) body ≡ Some frame
  level : IsSome (level_of frame)
  long : length (handed (out-Instr instr)) ≤ length (locals_of frame)

hands : (p : Program) (stations : List Station) (gs : List Frame) (t : Standing) (asked body : ℕ) → AreWell p stations 0 true gs t → body_in gs ≡ Some body
    → pc_in gs ≡ Some (suc asked) → Hands p gs asked body
hands p stations gs t asked body w at pc =
    let some = placed_level gs body at in
    let b = body_is p stations 0 true gs t some w in
    let i = some_there (instr_at p.code asked) (asked_there p stations 0 gs b.0 t (suc asked) pc b.1) in
    let x = placed gs body at in
    let waits = waiting_long p stations 0 gs b.0 t x.frame (suc asked) x.is pc b.1 in
    let count : waiting_at p true (suc asked) ≡ length (handed (out-Instr i.0)) = ap (λ o. option_map_or (λ j. length (handed (out-Instr j))) o 0) i.1 in
    record {
      instr = i.0;
      asks = i.1;
      frame = x.frame;
      there = x.there;
      level = subst (λ o. IsSome (option_and_then level_of o)) x.is some;
      long = omega (arith, waits, count);
    }

-- in a run with one frame more
pub wait_for : (p : Program) (r n : Run) (x : Frame) (a : Asker) (stations : List Station) (s : Standing) → AreWell p stations 0 true (reverse r.frames.frames) s
    → AsksOn a (reverse r.frames.frames) → n.frames.frames ≡ r.frames.frames ++ x ∷ [] → WaitFor p n a
wait_for p r n x asker.Root stations s w on e = tt
wait_for p r n x (asker.Pass base) stations s w on e = tt
wait_for p r n x (asker.Instr asked body) stations s w on e =
    let fs = reverse r.frames.frames in
    let t = asking_well p stations fs s w in
    let h = hands p stations (asking fs) t.0 asked body t.1 on.0 on.1 in
    let there : slice_get r.frames.frames body ≡ Some h.frame = ap (λ l. slice_get l body) (sym (reverse-reverse r.frames.frames)) ∙ asking_at fs body h.frame h.there in
    record {
      instr = h.instr;
      asks = h.asks;
      frame = h.frame;
      there = ap (λ l. slice_get l body) e ∙ before_at r.frames.frames (x ∷ []) body h.frame there;
      level = h.level;
      long = h.long;
      below = omega (arith, slice_get_within r.frames.frames body h.frame there, ap length e, length-append r.frames.frames (x ∷ []));
    }

pub waits_entered : (p : Program) (r n : Run) (x : Frame) (a : Asker) (spent : Bool) → CanEnter p spent r → AsksOn a (reverse r.frames.frames)
    → n.frames.frames ≡ r.frames.frames ++ x ∷ [] → WaitFor p n a
waits_entered p r n x a spent (inl h) on e = wait_for p r n x a h.0.stations _ h.0.head.well on e
waits_entered p r n x a spent (inr h) on e = wait_for p r n x a h.0.stations _ h.0.waits.well on e

-- New copies of its group.

copy_there : (xs : List ℕ) (n : ℕ) → n < length xs → All (λ k. 0 < k) xs → (k : ℕ) × ((slice_get xs n ≡ Some k) × (0 < k))
copy_there [] n less all = absurd (omega (arith, less))
copy_there (x ∷ xs) zero less all = (x, (refl, All-head (λ k. 0 < k) x xs all))
copy_there (x ∷ xs) (suc n) less all = copy_there xs n (omega (arith, less)) (All-tail (λ k. 0 < k) x xs all)

set_there : (xs : List ℕ) (n x y : ℕ) → slice_get xs n ≡ Some x → slice_get (slice_set xs n y) n ≡ Some y
set_there [] n x y is = absurd (omega (arith, slice_get_within [] n x is))
set_there (z ∷ xs) zero x y is = refl
set_there (z ∷ xs) (suc n) x y is = set_there xs n x y is

laid_over : (us : List Usage) → 0 < length us → IsLaidOver (Free ∷ us)
laid_over [] some = absurd (omega (arith, some))
laid_over (u ∷ us) some = tt

abbrev LaidOverIn : (group : ℕ) → Shelf → Type 0
LaidOverIn group x = x.group ≡ group → IsLaidOver x.copies

one_laid : (b : Bool) (group : ℕ) (x : Shelf) → (x.group == group) ≡ b → 0 < length x.copies → LaidOverIn group (if b then record x { copies = Free ∷ x.copies } else x)
one_laid true group x is some = λ e. laid_over x.copies some
one_laid false group x is some = λ e. absurd (false≢true (sym is ∙ eq-eqb x.group group e))

all_laid : (group : ℕ) (xs : List Shelf) → All (λ (x : Shelf). 0 < length x.copies) xs → All (LaidOverIn group) (map (in_group (λ us. Free ∷ us) group) xs)
all_laid group [] all = All-nil (LaidOverIn group)
all_laid group (x ∷ xs) all =
    let P : Shelf → Type 0 = λ x. 0 < length x.copies in
    All-cons (LaidOverIn group) (in_group (λ us. Free ∷ us) group x) (map (in_group (λ us. Free ∷ us) group) xs)
    (one_laid (x.group == group) group x refl (All-head P x xs all)) (all_laid group xs (All-tail P x xs all))

-- can be taken off, and what was before is again
scope_taken : (group : ℕ) (s : Standing) → group < length s.copies → All (λ k. 0 < k) s.copies → All (λ (x : Shelf). 0 < length x.copies) s.shelves
    → CanTakeOff group (scope_laid group s) × (scope_over true group (scope_laid group s) ≡ s)
scope_taken group s less copied shelved =
    let k = copy_there s.copies group less copied in
    let more : unwrap_or (slice_get s.copies group) 0 + 1 ≡ k.0 + 1 = ap (λ o. unwrap_or o 0 + 1) k.1.0 in
    let there : unwrap_or (slice_get (slice_set s.copies group (unwrap_or (slice_get s.copies group) 0 + 1)) group) 0 ≡ k.0 + 1 =
    ap (λ o. unwrap_or o 0) (set_there s.copies group k.0 (unwrap_or (slice_get s.copies group) 0 + 1) k.1.0) ∙ more in
    ((omega (arith, there, k.1.1), all_laid group s.shelves shelved), scope_back group k.0 s k.1.0)

-- A run behind them.

pub lays_steady : (p : Program) (group : ℕ) (r t : Run) → LaysScope group r t → IsSteady p r → IsSteady p t
lays_steady p group r t l s =
    subst (IsSteady p) (sym l.rest) (laid_steady p r group t.store t.putting (ap standing_of (sym l.rest) ∙ l.standing) l.holds s)

pub lays_sees : (p : Program) (group : ℕ) (r t : Run) (body : ℕ) → LaysScope group r t → IsSteady p r → Sees p r body → Sees p t body
lays_sees p group r t body l steady s =
    subst (λ (y : Run). Sees p y body) (sym l.rest)
    (record {
      level = s.level;
      level_is = s.level_is;
      group = s.group;
      group_is = s.group_is;
      test = s.test;
      test_is = s.test_is;
      told = s.told;
      parents = s.parents;
      sized = (lays_steady p group r t l steady).groups;
      root = s.root;
    })

-- What is left of the run.
pub record Enters (p : Program) (r t : Run) (frame : Frame) (declared : Template) : Type 0 where
  pub steady : IsSteady p t
  pub rest : t ≡ record (entered_with frame r) { store = t.store; putting = t.putting }
  pub source : (standing_of t).source ≡ (standing_of r).source
  pub back : scope_over declared.new_scope declared.group (standing_of t) ≡ standing_of r
  pub off : declared.new_scope ≡ true → CanTakeOff declared.group (standing_of t)

-- without a new scope
pub enters_plain : (p : Program) (r : Run) (frame : Frame) (declared : Template) → declared.new_scope ≡ false → IsSteady p (entered_with frame r)
    → Enters p r (entered_with frame r) frame declared
enters_plain p r frame declared none steady = record {
  steady = steady;
  rest = refl;
  source = refl;
  back = ap (λ b. scope_over b declared.group (standing_of r)) none;
  off = λ e. absurd (false≢true (sym none ∙ e));
}

-- and with one
pub enters_scope : (p : Program) (r t : Run) (frame : Frame) (declared : Template) → declared.new_scope ≡ true → declared.group < length p.sheet.groups
    → IsSteady p (entered_with frame r) → LaysScope declared.group (entered_with frame r) t → Enters p r t frame declared
enters_scope p r t frame declared some less steady l =
    let s = standing_of r in
    let taken = scope_taken declared.group s (omega (arith, less, steady.groups, length-map r.store length)) steady.copied steady.shelved in
    record {
      steady = lays_steady p declared.group (entered_with frame r) t l steady;
      rest = l.rest;
      source = ap (λ (x : Standing). x.source) l.standing;
      back = ap (λ b. scope_over b declared.group (standing_of t)) some ∙ ap (scope_over true declared.group) l.standing ∙ taken.1;
      off = λ e. subst (CanTakeOff declared.group) (sym l.standing) taken.0;
    }

-- The body of a node that is asked for again, at its beginning.

again_fits : (b : Bool) (A B : Type 0) → b ≡ true → A → MatchBool b A B
again_fits true A B e a = a
again_fits false A B e a = absurd (false≢true e)

enters_again : (p : Program) (stations : List Station) (fs : List Frame) (s t : Standing) (number alternative pc level : ℕ) (spent : Bool) (locals : List Local)
    (template : Template) (known : Known) → BodyWaits p stations fs s known → spent_in fs ≡ Some spent → slice_get p.sheet.templates number ≡ Some template
    → PassesBy p template alternative (here s.source.way) → Goes stations pc (begun number template.params) → AreOf locals (map (λ v. Named v.name) template.params)
    → level ≡ number_of s.source.way → t.source ≡ s.source → scope_over template.new_scope template.group t ≡ s
    → (template.new_scope ≡ true → CanTakeOff template.group t) → BodyGoesOn p stations (Body number alternative pc locals level spent ∷ fs) t known
enters_again p stations fs s t number alternative pc level spent locals template known b left is passes there are own same scope takes =
    let l = some_there (level_in fs) b.body in
    let here_too : l.0 ≡ level = level_here p stations 0 true fs s l.0 l.1 b.well ∙ sym own in
    let again : is_again level fs ≡ true = ap (λ o. option_map_or (λ n. n == level) o false) l.1 ∙ eq-eqb l.0 level here_too in
    record {
      body = refl;
      well = (
        begun number template.params,
        (
          template,
          (
            record {
              there = there;
              own = refl;
              in_loops = refl;
              locals_fit = (locals, ([], (sym (append-nil locals), refl, are)));
              asked = λ e. absurd (false≢true e);
              level_is = own ∙ ap (λ x. number_of x.way) (sym same);
              writes = (t.targets, refl);
            },
            record { template_is = is; passes_by = subst (PassesBy p template alternative) (ap (λ x. here x.way) (sym same)) passes; own_copies = takes },
            (λ e. absurd (false≢true (sym e ∙ again))),
            (λ e. left),
            subst (AreWell p stations 0 true fs) (sym (over_again level fs (scope_over template.new_scope template.group t) again ∙ scope)) b.well,
          ),
        ),
      );
      fits =
          again_fits (is_again level fs) (IsSettled fs t.source.way known.begun known.front) _ again
          (subst (λ x. IsSettled fs x.way known.begun known.front) (sym same) b.fits);
    }

-- The run goes on once its parameters are bound.

goes : (p : Program) (r t : Run) (stations : List Station) (template alternative pc level : ℕ) (spent : Bool) (declared : Template) (params : List Local)
    → HasStations p.code stations p.sheet → Enters p r t (Body template alternative pc [] level spent) declared
    → (bindings : FrameStack) → bindings ≡ with_frames (changed (with_locals (λ ls. ls ++ params)) (length t.frames.frames - 1) t.frames.frames) t.frames
    → r.source.ahead ≢ ahead.Here
    → BodyGoesOn p stations (Body template alternative pc params level spent ∷ reverse r.frames.frames) (standing_of t) (known_now r)
    → IsWell p (record t { frames = bindings })
goes p r t stations template alternative pc level spent declared params stand e bindings is apart b =
    let x = Body template alternative pc [] level spent in
    let y = Body template alternative pc params level spent in
    let fs = reverse r.frames.frames in
    let old : reverse t.frames.frames ≡ x ∷ fs = ap (λ (z : Run). reverse z.frames.frames) e.rest ∙ reverse-append r.frames.frames (x ∷ []) in
    let same : reverse bindings.frames ≡ y ∷ fs = ap (λ (z : FrameStack). reverse z.frames) is ∙ top_changed (with_locals (λ ls. ls ++ params)) t.frames.frames x fs old in
    let n = record t { frames = bindings } in
    let doing_is : t.doing ≡ doing.Body = ap (λ (z : Run). z.doing) e.rest in
    let source : t.source ≡ r.source = ap (λ (z : Run). z.source) e.rest in
    let tells : TellWithin (x ∷ fs) (rooms_of t) (standing_of t).shelves = subst (λ l. TellWithin l (rooms_of t) (standing_of t).shelves) old e.steady.within in
    record {
      steady = with_other_frames p t bindings e.steady (subst (λ l. TellWithin l (rooms_of t) (standing_of t).shelves) (sym same) tells);
      stations = stations;
      stand = stand;
      apart = λ d. subst (λ (z : sources.Source). z.ahead ≢ ahead.Here) (sym source) apart;
      goes_on =
          subst (λ d. GoesOn p stations d t.source.ahead (reverse bindings.frames) (standing_of t) (known_now t)) (sym doing_is)
          (subst (λ l. BodyGoesOn p stations l (standing_of t) (known_now t)) (sym same)
          (subst (λ (z : sources.Source). BodyGoesOn p stations (y ∷ fs) (standing_of t) (known_of z)) (sym source) b));
    }

same_start : {a b : ℕ} → Some a ≡ Some b → a ≡ b
same_start e = cc

starts_there : (p : Program) (stations : List Station) (template pc : ℕ) (declared : Template) → HasStations p.code stations p.sheet
    → slice_get p.sheet.templates template ≡ Some declared → slice_get p.code.starts template ≡ Some pc → Goes stations pc (begun template declared.params)
starts_there p stations template pc declared stand is starts =
    let s = stand.templates template declared is in subst (λ n. Goes stations n (begun template declared.params)) (same_start (sym s.1.0 ∙ starts)) s.1.1

enters_by : (p : Program) (r t u : Run) (template alternative pc level : ℕ) (spent : Bool) (declared : Template) → CanEnter p spent r
    → slice_get p.sheet.templates template ≡ Some declared → PassesBy p declared alternative (here (way_of (path r.source.stack)))
    → slice_get p.code.starts template ≡ Some pc → level ≡ number_of (way_of (path r.source.stack)) → Enters p r t (Body template alternative pc [] level spent) declared
    → BindsParams declared.params t u → IsWell p u
enters_by p r t u template alternative pc level spent declared (inl h) is passes starts own e binds =
    subst (IsWell p) (sym binds.rest)
    (goes p r t h.0.stations template alternative pc level spent declared binds.locals h.0.stand e _ refl h.0.apart
    (enters p h.0.stations (reverse r.frames.frames) (standing_of r) (standing_of t) template alternative pc level spent binds.locals declared (known_now r) h.0.head h.1 is passes
    (starts_there p h.0.stations template pc declared h.0.stand is starts) (are_named binds.locals declared.params binds.named) own e.source e.back e.off))
enters_by p r t u template alternative pc level spent declared (inr h) is passes starts own e binds =
    let w = h.0 in
    subst (IsWell p) (sym binds.rest)
    (goes p r t w.stations template alternative pc level spent declared binds.locals w.stand e _ refl w.apart
    (enters_again p w.stations (reverse r.frames.frames) (standing_of r) (standing_of t) template alternative pc level spent binds.locals declared (known_now r) w.waits h.1 is passes
    (starts_there p w.stations template pc declared w.stand is starts) (are_named binds.locals declared.params binds.named) own e.source e.back e.off))

-- What the calls of the method find, behind the push of the frame.

pub can_steady : (p : Program) (spent : Bool) (r : Run) → CanEnter p spent r → IsSteady p r
can_steady p spent r (inl h) = h.0.steady
can_steady p spent r (inr h) = h.0.steady

pub starts_within : (p : Program) (spent : Bool) (r : Run) (template : ℕ) (declared : Template) → CanEnter p spent r → slice_get p.sheet.templates template ≡ Some declared
    → template < length p.code.starts
starts_within p spent r template declared (inl h) is =
    let s = h.0.stand.templates template declared is in slice_get_within p.code.starts template s.0 s.1.0
starts_within p spent r template declared (inr h) is =
    let s = h.0.stand.templates template declared is in slice_get_within p.code.starts template s.0 s.1.0

one_template : {a b : Template} → Some a ≡ Some b → a ≡ b
one_template e = cc

module _ (p : Program) (r m : Run) (template alternative pc level : ℕ) (locals : List Local) (spent : Bool) (declared : Template) (can : CanEnter p spent r)
    (chosen : IsChosen p r template alternative) (there : slice_get p.sheet.templates template ≡ Some declared) (none : locals ≡ [])
    (is : m ≡ record r { frames = with_frames (r.frames.frames ++ Body template alternative pc locals level spent ∷ []) r.frames }) where
  steady_before : IsSteady p r
  steady_before = can_steady p spent r can

  frame_is : record m { doing = doing.Body } ≡ entered_with (Body template alternative pc [] level spent) r
  frame_is =
      ap (λ (y : Run). record y { doing = doing.Body }) is ∙ ap (λ ls. entered_with (Body template alternative pc ls level spent) r) none

  frames_are : m.frames.frames ≡ r.frames.frames ++ Body template alternative pc [] level spent ∷ []
  frames_are = ap (λ (y : Run). y.frames.frames) frame_is

  pushed_steady_too : IsSteady p (entered_with (Body template alternative pc [] level spent) r)
  pushed_steady_too = pushed_steady p r steady_before template alternative pc level [] spent

  pub enter_steady : IsSteady p (record m { doing = doing.Body })
  enter_steady = subst (IsSteady p) (sym frame_is) pushed_steady_too

  pub enter_sees : Sees p (record m { doing = doing.Body }) (length m.frames.frames - 1)
  enter_sees =
      subst (λ (y : Run). Sees p y (length y.frames.frames - 1)) (sym frame_is)
      (pushed_sees p r steady_before template alternative pc level [] spent chosen)

  pub enter_some : 0 < length m.frames.frames
  enter_some = omega (arith, ap length frames_are, length-append r.frames.frames (Body template alternative pc [] level spent ∷ []))

  pub enter_group : declared.group < length p.sheet.groups
  enter_group = group_within p r steady_before template declared there

  pub enter_params : AreEvaluable declared.params
  enter_params = template_params p r steady_before template declared there

  pub enter_waits : (a : Asker) → AsksOn a (reverse r.frames.frames) → WaitFor p (record m { doing = doing.Body }) a
  enter_waits a on = waits_entered p r (record m { doing = doing.Body }) (Body template alternative pc [] level spent) a spent can on frames_are

  passes_too : PassesBy p declared alternative (here (way_of (path r.source.stack)))
  passes_too = subst (λ t. PassesBy p t alternative (here (way_of (path r.source.stack)))) (one_template (sym chosen.is ∙ there)) chosen.passes_by

  pub enter_plain : (u : Run) → declared.new_scope ≡ false → slice_get p.code.starts template ≡ Some pc → level ≡ number_of (way_of (path r.source.stack))
      → BindsParams declared.params (record m { doing = doing.Body }) u → IsWell p u
  enter_plain u plain starts own binds =
      let x = Body template alternative pc [] level spent in
      enters_by p r (entered_with x r) u template alternative pc level spent declared can there passes_too starts own
      (enters_plain p r x declared plain pushed_steady_too)
      (subst (λ (y : Run). BindsParams declared.params y u) frame_is binds)

  -- and behind a new scope
  module _ (t : Run) (laid : LaysScope declared.group (record m { doing = doing.Body }) t) where
    frames_stay : t.frames ≡ m.frames
    frames_stay = ap (λ (y : Run). y.frames) laid.rest

    pub scope_sees : Sees p t (length t.frames.frames - 1)
    scope_sees =
        subst (λ (f : FrameStack). Sees p t (length f.frames - 1)) (sym frames_stay)
        (lays_sees p declared.group (record m { doing = doing.Body }) t (length m.frames.frames - 1) laid enter_steady enter_sees)

    pub scope_some : 0 < length t.frames.frames
    scope_some = omega (arith, enter_some, ap (λ (f : FrameStack). length f.frames) frames_stay)

    pub scope_waits : (a : Asker) → AsksOn a (reverse r.frames.frames) → WaitFor p t a
    scope_waits a on =
        waits_entered p r t (Body template alternative pc [] level spent) a spent can on (ap (λ (f : FrameStack). f.frames) frames_stay ∙ frames_are)

    pub enter_scoped : (u : Run) → declared.new_scope ≡ true → slice_get p.code.starts template ≡ Some pc → level ≡ number_of (way_of (path r.source.stack))
        → BindsParams declared.params t u → IsWell p u
    enter_scoped u some starts own binds =
        let x = Body template alternative pc [] level spent in
        enters_by p r t u template alternative pc level spent declared can there passes_too starts own
        (enters_scope p r t x declared some enter_group pushed_steady_too (subst (λ (y : Run). LaysScope declared.group y t) frame_is laid)) binds
