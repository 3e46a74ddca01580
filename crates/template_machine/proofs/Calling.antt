-- A procedure's body is entered.
use Rattle.std.proofs.Common.{◌≡◌, ℕ, zero, suc, ◌+◌, ◌-◌, ◌<◌, Bool, false, List, [], ◌∷◌, ◌++◌, length, map, reverse, Some, IsSome, refl, ap, sym, subst, ◌∙◌, arith, append-nil, length-append}
use Rattle.std.specs.List.{slice_get}
use Rattle.std.specs.Option.{option_and_then, option_map}
use Rattle.std.proofs.lemmas.Bool.{false≢true}
use Rattle.std.proofs.lemmas.List.{reverse-append}
use Rattle.std.proofs.lemmas.Option.{slice_get_within}
use Rattle.frame_stack.specs.Change.{changed, with_locals}
use Rattle.frame_stack.specs.Stack.{FrameStack, with_frames}
use Rattle.frame_stack.specs.declared.frame.Frame.{Frame}
use Rattle.frame_stack.specs.declared.frame.Frame.TheVariants.{Body, Call, Loop}
use Rattle.frame_stack.specs.declared.locals.Local.{Local}
use Rattle.sheet_model.specs.declared.sheet.Procedure.{Procedure}
use Rattle.sheet_model.specs.declared.sheet.Variable.{Variable}
use Rattle.template_machine.specs.Bodies.{below, level_in, level_of}
use Rattle.template_machine.specs.Contexts.{Context, Goes, Named, Station, begun}
use Rattle.template_machine.specs.Made.{BindsParams}
use Rattle.template_machine.specs.Standing.{Known, Standing, known_now, standing_of}
use Rattle.template_machine.specs.Steps.{Sees, group_of, test_in}
use Rattle.template_machine.specs.Ways.{number_of}
use Rattle.template_machine.specs.Well.{AreOf, AreWell, BodyGoesOn, IsWell}
use Rattle.template_machine.specs.Working.{HasProcedure, Runs}
use Rattle.template_machine.specs.declared.program.Link.{Link}
use Rattle.template_machine.specs.declared.program.Program.{Program}
use Rattle.template_machine.specs.declared.run.Run.{Run}
use Rattle.template_machine.proofs.Below.{below_all}
use Rattle.template_machine.proofs.Moving.{BodyIs, body_is}
use Rattle.template_machine.proofs.Operating.{body_goes, goes_under}
use Rattle.template_machine.proofs.Placing.{last_at, placed_in, top_changed}
use Rattle.template_machine.proofs.Seeing.{sees, test_below}

module _ (p : Program) (stations : List Station) where
  -- a body's level is the place of the current node
  level_in_body : (loops : ℕ) (waits : Bool) (fs : List Frame) (c : Context) (s : Standing) (level : ℕ) → level_in fs ≡ Some level → BodyIs p stations loops waits fs c s
      → level ≡ number_of s.source.way
  level_in_body loops waits [] c s level at b = absurd b
  level_in_body loops waits (Loop turn ∷ fs) c s level at b = level_in_body (suc loops) waits fs c s level at b
  level_in_body loops waits (Body template alternative pc locals own spent ∷ fs) c s level at b = let same : own ≡ level = cc in sym same ∙ b.level_is
  level_in_body loops waits (Call procedure pc locals own ∷ fs) c s level at b = let same : own ≡ level = cc in sym same ∙ b.level_is
  level_in_body loops waits (f ∷ fs) c s level at b = absurd b

  pub level_here : (loops : ℕ) (waits : Bool) (fs : List Frame) (s : Standing) (level : ℕ) → level_in fs ≡ Some level → AreWell p stations loops waits fs s
      → level ≡ number_of s.source.way
  level_here loops waits fs s level at w =
      let b = body_is p stations loops waits fs s (subst (λ o. IsSome o) (sym at) refl) w in level_in_body loops waits fs b.0 s level at b.1

  -- the body of a procedure at its beginning, with its parameters
  pub calls : (fs : List Frame) (s : Standing) (number pc level : ℕ) (locals : List Local) (q : Procedure) (known : Known) → BodyGoesOn p stations fs s known
      → slice_get p.sheet.procedures number ≡ Some q → Goes stations pc (begun (length p.sheet.templates + number) q.params) → AreOf locals (map (λ v. Named v.name) q.params) → level_in fs ≡ Some level
      → BodyGoesOn p stations (Call number pc locals level ∷ fs) s known
  calls fs s number pc level locals q known b is there are own = record {
    body = refl;
    well = (
      begun (length p.sheet.templates + number) q.params,
      (
        q,
        (
          record {
            there = there;
            own = refl;
            in_loops = refl;
            locals_fit = (locals, ([], (sym (append-nil locals), refl, are)));
            asked = λ e. absurd (false≢true e);
            level_is = level_here 0 false fs s level own b.well;
            writes = (s.targets, refl);
          },
          is,
          own,
          b.well,
        ),
      ),
    );
    fits = b.fits;
  }

-- locals by their names
pub are_named : (xs : List Local) (vs : List Variable) → map (λ (x : Local). x.name) xs ≡ map (λ (v : Variable). v.name) vs → AreOf xs (map (λ v. Named v.name) vs)
are_named [] [] e = tt
are_named [] (v ∷ vs) e = absurd (cc)
are_named (x ∷ xs) [] e = absurd (cc)
are_named (x ∷ xs) (v ∷ vs) e =
    let first : x.name ≡ v.name = cc in let others : map (λ (x : Local). x.name) xs ≡ map (λ (v : Variable). v.name) vs = cc in (first, are_named xs vs others)

-- The frame of a procedure's body on top, without its parameters, and with them.

-- what is on top of pushed frames
pub pushed_top : (frames more : FrameStack) (x : Frame) → more ≡ with_frames (frames.frames ++ x ∷ []) frames → reverse more.frames ≡ x ∷ reverse frames.frames
pushed_top frames more x is = ap (λ (y : FrameStack). reverse y.frames) is ∙ reverse-append frames.frames (x ∷ [])

pub pushed_long : (frames more : FrameStack) (x : Frame) → more ≡ with_frames (frames.frames ++ x ∷ []) frames → length more.frames - 1 ≡ length frames.frames
pushed_long frames more x is = omega (arith, ap (λ (y : FrameStack). length y.frames) is, length-append frames.frames (x ∷ []))

-- its expressions can be evaluated
pub sees_called : (p : Program) (r : Run) (body number pc level : ℕ) (locals : List Local) (q : Procedure) (more : FrameStack) → Runs p r body
    → slice_get p.sheet.procedures number ≡ Some q → more ≡ with_frames (r.frames.frames ++ Call number pc locals level ∷ []) r.frames
    → Sees p (record r { frames = more }) (length more.frames - 1)
sees_called p r body number pc level locals q more h is pushed =
    let x = Call number pc locals level in
    let s = sees p r body h in
    let place : length more.frames - 1 ≡ length r.frames.frames = pushed_long r.frames more x pushed in
    let there : slice_get more.frames (length more.frames - 1) ≡ Some x =
    ap (slice_get more.frames) place ∙ ap (λ (y : FrameStack). slice_get y.frames (length r.frames.frames)) pushed ∙ last_at r.frames.frames x in
    let long : suc (length more.frames - 1) ≡ length more.frames = omega (arith, slice_get_within more.frames (length more.frames - 1) x there) in
    let outside : test_in p.sheet (reverse r.frames.frames) ≡ Some s.test = sym (test_below p.sheet r.frames.frames body h.place) ∙ s.test_is in
    record {
      level = level;
      level_is = ap (option_and_then level_of) there;
      group = q.group;
      group_is = ap (option_and_then (group_of p.sheet)) there ∙ ap (option_map (λ (x : Procedure). x.group)) is;
      test = s.test;
      test_is =
          ap (λ n. test_in p.sheet (below n more.frames)) long ∙ ap (test_in p.sheet) (below_all more.frames ∙ pushed_top r.frames more x pushed) ∙ outside;
      told = s.told;
      parents = s.parents;
      sized = s.sized;
      root = s.root;
    }

bound_on : (p : Program) (r : Run) (body number pc level : ℕ) (bound : List Local) (q : Procedure) (more bindings : FrameStack) (h : Runs p r body)
    → slice_get p.sheet.procedures number ≡ Some q → Goes h.well.stations pc (begun (length p.sheet.templates + number) q.params) → AreOf bound (map (λ v. Named v.name) q.params)
    → level_in (reverse r.frames.frames) ≡ Some level → more ≡ with_frames (r.frames.frames ++ Call number pc [] level ∷ []) r.frames
    → bindings ≡ with_frames (changed (with_locals (λ ls. ls ++ bound)) (length more.frames - 1) more.frames) more → IsWell p (record r { frames = bindings })
bound_on p r body number pc level bound q more bindings h is there are own pushed binds =
    let fs = reverse r.frames.frames in
    let s = standing_of r in
    let w = h.well in
    let b = body_goes p r w h.doing in
    let x = Call number pc [] level in
    let same : reverse bindings.frames ≡ Call number pc bound level ∷ fs =
    ap (λ (y : FrameStack). reverse y.frames) binds
    ∙ top_changed (with_locals (λ ls. ls ++ bound)) more.frames x fs (pushed_top r.frames more x pushed) in
    goes_under p r w bindings h.doing (Call number pc bound level ∷ fs) same
    (calls p w.stations fs s number pc level bound q (known_now r) b is there are own) w.steady.within

-- and it goes on once they are bound
pub called_on : (p : Program) (r t u : Run) (body number pc level : ℕ) (q : Procedure) (h : Runs p r body)
    → slice_get p.sheet.procedures number ≡ Some q → Goes h.well.stations pc (begun (length p.sheet.templates + number) q.params) → level_in (reverse r.frames.frames) ≡ Some level
    → t ≡ record r { frames = with_frames (r.frames.frames ++ Call number pc [] level ∷ []) r.frames } → BindsParams q.params t u → IsWell p u
called_on p r t u body number pc level q h is there own pushed binds =
    let bound = binds.locals in
    let more = t.frames in
    let bindings = with_frames (changed (with_locals (λ ls. ls ++ bound)) (length more.frames - 1) more.frames) more in
    let by : u ≡ record r { frames = bindings } = binds.rest ∙ ap (λ (x : Run). record x { frames = bindings }) pushed in
    subst (IsWell p) (sym by)
    (bound_on p r body number pc level bound q more bindings h is there (are_named bound q.params binds.named) own (ap (λ (x : Run). x.frames) pushed) refl)

-- What a call finds.

pub level_runs : (p : Program) (r : Run) (body : ℕ) → Runs p r body → IsSome (option_and_then level_of (slice_get r.frames.frames body))
level_runs p r body h =
    let x = placed_in r.frames.frames body h.place in
    subst (λ o. IsSome (option_and_then level_of o)) (x.1.0 ∙ sym x.1.1) (body_goes p r h.well h.doing).body

pub level_of_running : (p : Program) (r : Run) (body level : ℕ) → Runs p r body → option_and_then level_of (slice_get r.frames.frames body) ≡ Some level
    → level_in (reverse r.frames.frames) ≡ Some level
level_of_running p r body level h is = let x = placed_in r.frames.frames body h.place in ap (option_and_then level_of) (x.1.0 ∙ sym x.1.1) ∙ is

one_link : {a b : Link} → Some a ≡ Some b → a ≡ b
one_link e = cc

pub procedure_less : (p : Program) (n : ℕ) (l : Link) → HasProcedure p n → slice_get p.links n ≡ Some l → l.named < length p.sheet.procedures
procedure_less p n l h is = subst (λ (x : Link). x.named < length p.sheet.procedures) (one_link (sym h.1.0 ∙ is)) h.1.1

procedure_there : (xs : List Procedure) (n : ℕ) → n < length xs → (q : Procedure) × (slice_get xs n ≡ Some q)
procedure_there [] n less = absurd (omega (arith, less))
procedure_there (x ∷ xs) zero less = (x, refl)
procedure_there (x ∷ xs) (suc n) less = procedure_there xs n (omega (arith, less))

pub procedure_starts : (p : Program) (r : Run) (body n : ℕ) (h : Runs p r body) → n < length p.sheet.procedures
    → (q : Procedure) × ((slice_get p.sheet.procedures n ≡ Some q) × (start : ℕ)
    × (slice_get p.code.starts (length p.sheet.templates + n) ≡ Some start) × Goes h.well.stations start (begun (length p.sheet.templates + n) q.params))
procedure_starts p r body n h less =
    let q = procedure_there p.sheet.procedures n less in
    let s = h.well.stand.procedures n q.0 q.1 in
    (q.0, (q.1, s.0, s.1.0, s.1.1))

pub pushed_some : (r t : Run) (x : Frame) → t ≡ record r { frames = with_frames (r.frames.frames ++ x ∷ []) r.frames } → 0 < length t.frames.frames
pushed_some r t x is = omega (arith, ap (λ (y : Run). length y.frames.frames) is, length-append r.frames.frames (x ∷ []))

pub sees_pushed : (p : Program) (r t : Run) (body number pc level : ℕ) (locals : List Local) (q : Procedure) → Runs p r body → slice_get p.sheet.procedures number ≡ Some q
    → t ≡ record r { frames = with_frames (r.frames.frames ++ Call number pc locals level ∷ []) r.frames } → Sees p t (length t.frames.frames - 1)
sees_pushed p r t body number pc level locals q h there is =
    subst (λ (y : Run). Sees p y (length y.frames.frames - 1)) (sym is)
    (sees_called p r body number pc level locals q (with_frames (r.frames.frames ++ Call number pc locals level ∷ []) r.frames) h there refl)

same_start : {a b : ℕ} → Some a ≡ Some b → a ≡ b
same_start e = cc

-- the whole call
pub call_on : (p : Program) (r t u : Run) (body number pc level : ℕ) (locals : List Local) (q : Procedure) (h : Runs p r body) → slice_get p.sheet.procedures number ≡ Some q
    → slice_get p.code.starts (length p.sheet.templates + number) ≡ Some pc → locals ≡ [] → option_and_then level_of (slice_get r.frames.frames body) ≡ Some level
    → t ≡ record r { frames = with_frames (r.frames.frames ++ Call number pc locals level ∷ []) r.frames } → BindsParams q.params t u → IsWell p u
call_on p r t u body number pc level locals q h there starts none at pushed binds =
    let s = h.well.stand.procedures number q there in
    let same : s.0 ≡ pc = same_start (sym s.1.0 ∙ starts) in
    called_on p r t u body number pc level q h there (subst (λ n. Goes h.well.stations n (begun (length p.sheet.templates + number) q.params)) same s.1.1) (level_of_running p r body level h at)
    (pushed ∙ ap (λ ls. record r { frames = with_frames (r.frames.frames ++ Call number pc ls level ∷ []) r.frames }) none) binds
