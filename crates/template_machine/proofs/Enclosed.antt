-- Bodies that enter lists inside instructions, and leave them.
use Rattle.std.proofs.Common.{◌≡◌, ℕ, suc, ◌+◌, ◌-◌, ◌<◌, false, List, [], ◌∷◌, ◌++◌, length, map, reverse, take, Some, IsSome, refl, ap, sym, subst, ◌∙◌, arith, length-append}
use Rattle.std.proofs.lemmas.Bool.{false≢true}
use Rattle.std.specs.List.{slice_get}
use Rattle.std.specs.Option.{option_and_then, option_map}
use Rattle.frame_stack.specs.Change.{changed, locals_of, with_locals, with_pc}
use Rattle.frame_stack.specs.Stack.{FrameStack, with_frames}
use Rattle.frame_stack.specs.declared.frame.Frame.{Frame}
use Rattle.frame_stack.specs.declared.frame.Frame.TheVariants.{Body, Call, Loop}
use Rattle.frame_stack.specs.declared.locals.Local.{Local}
use Rattle.instr_code.specs.declared.code.Op.TheVariants as op
use Rattle.stxpath_values.specs.declared.value.Atom.{Atom}
use Rattle.template_machine.specs.Bodies.{frame_in, level_of, on_body, pc_in}
use Rattle.template_machine.specs.Contexts.{Around, AroundTag, Context, Goes, HasForm, HasStations, Kind, Station, Tag, with_kind, within}
use Rattle.template_machine.specs.Standing.{Standing, standing_of}
use Rattle.template_machine.specs.Moments.{IsAtOp}
use Rattle.template_machine.specs.Well.{AreOf, AreTexts, AreWell, IsOf, IsWell, buffers_of}
use Rattle.template_machine.specs.Standing.{writing_over}
use Rattle.template_machine.specs.declared.program.Program.{Program}
use Rattle.template_machine.specs.declared.run.Run.{Run}
use Rattle.template_machine.specs.declared.run.Running.{Running}
use Rattle.template_machine.proofs.Branching.{one_form}
use Rattle.template_machine.proofs.Moving.{BodyIs, alone, are_first, are_more, body_moves, by_themselves, goes_at, goes_on, locals_long, moves, moves_locals, moves_pc, some_level, steps}
use Rattle.template_machine.proofs.Operating.{at_body, at_place, behind_locals, behind_pc, goes_elsewhere, some_context}

module _ (p : Program) (stations : List Station) where
  -- the list inside an instruction is run
  enters : (fs : List Frame) (s : Standing) (pc n to : ℕ) → HasStations p.code stations p.sheet → pc_in fs ≡ Some pc
      → slice_get p.code.ops pc ≡ Some (op.Open n to) → HasForm p.code n Around
      → AreWell p stations 0 false fs s → AreWell p stations 0 false (on_body (with_pc (pc + 1)) fs) s
  enters fs s pc n to stand at is has w =
      goes_on p stations fs s pc (pc + 1) at
      (λ c g.
      let l = stand.leads pc (op.Open n to) c g.0 is g.1 in
      let same : l.0 ≡ Around = one_form _ _ _ l.1.0 has in
      subst (λ f. Goes stations (pc + 1) (within f n c)) same l.1.2) w

  -- or isn't
  passes : (fs : List Frame) (s : Standing) (pc n to : ℕ) → HasStations p.code stations p.sheet → pc_in fs ≡ Some pc
      → slice_get p.code.ops pc ≡ Some (op.Open n to)
      → AreWell p stations 0 false fs s → AreWell p stations 0 false (on_body (with_pc to) fs) s
  passes fs s pc n to stand at is w = goes_on p stations fs s pc to at (λ c g. let l = stand.leads pc (op.Open n to) c g.0 is g.1 in l.1.3) w

  -- it is over
  leaves : (fs : List Frame) (s : Standing) (pc n : ℕ) → HasStations p.code stations p.sheet → pc_in fs ≡ Some pc
      → slice_get p.code.ops pc ≡ Some (op.Close n) → HasForm p.code n Around
      → AreWell p stations 0 false fs s → AreWell p stations 0 false (on_body (with_pc (pc + 1)) fs) s
  leaves fs s pc n stand at is has w =
      goes_on p stations fs s pc (pc + 1) at
      (λ c g.
      let l = stand.leads pc (op.Close n) c g.0 is g.1 in
      let same : l.0 ≡ Around = one_form _ _ _ l.1.0 has in
      let o = l.1.2.0 in
      let was : c ≡ o = subst (λ f. c ≡ within f n o) same l.1.2.1.0 in
      let falls = l.1.2.1.1 in
      subst (λ x. Goes stations (pc + 1) x) (sym was) (falls.0, falls.1.0)) w

  -- The list of an element is run, whose name waits.
  tagged : (fs : List Frame) (s : Standing) (pc n to : ℕ) (x : Local) → HasStations p.code stations p.sheet → pc_in fs ≡ Some pc
      → slice_get p.code.ops pc ≡ Some (op.Open n to) → HasForm p.code n AroundTag → IsOf x Tag
      → AreWell p stations 0 false fs s → AreWell p stations 0 false (on_body (λ f. with_locals (λ ls. ls ++ x ∷ []) (with_pc (pc + 1) f)) fs) s
  tagged fs s pc n to x stand at is has tag w =
      steps p stations (λ f. with_locals (λ ls. ls ++ x ∷ []) (with_pc (pc + 1) f)) (λ o. pc + 1) (λ ls. ls ++ x ∷ []) (moves_locals (pc + 1) (λ ls. ls ++ x ∷ []))
      (λ n m. n ≡ m) (λ n m e. ap suc e) 0 0 false false fs s pc refl at w
      (λ c g.
      let l = stand.leads pc (op.Open n to) c g.0 is g.1 in
      let same : l.0 ≡ AroundTag = one_form _ _ _ l.1.0 has in
      let d = with_kind Tag c in (
        d,
        (
          refl,
          λ whose k m locals level e body. record {
            there = subst (λ f. Goes stations (pc + 1) (within f n c)) same l.1.2;
            own = body.own;
            in_loops = body.in_loops ∙ e;
            locals_fit =
                by_themselves p stations (locals ++ x ∷ []) d.locals
                (are_more p stations locals c.locals x Tag (alone p stations locals c.locals body.locals_fit) tag);
            asked = λ e. absurd (false≢true e);
            level_is = body.level_is;
            writes = body.writes;
          },
        ),
      ))

  -- what stood at the begin of such an element
  pub before_tag : (pc n : ℕ) (c : Context) → HasStations p.code stations p.sheet → slice_get p.code.ops pc ≡ Some (op.Close n) → HasForm p.code n AroundTag
      → Goes stations pc c → (o : Context) × ((c ≡ with_kind Tag o) × Goes stations (pc + 1) o)
  before_tag pc n c stand is has g =
      let l = stand.leads pc (op.Close n) c g.0 is g.1 in
      let same : l.0 ≡ AroundTag = one_form _ _ _ l.1.0 has in
      let o = l.1.2.0 in
      let falls = l.1.2.1.1 in
      (o, (subst (λ f. c ≡ within f n o) same l.1.2.1.0, (falls.0, falls.1.0)))

  -- It is over, and its name is taken off.
  untagged : (fs : List Frame) (s : Standing) (pc n len : ℕ) → HasStations p.code stations p.sheet → pc_in fs ≡ Some pc
      → slice_get p.code.ops pc ≡ Some (op.Close n) → HasForm p.code n AroundTag → ((c : Context) → BodyIs p stations 0 false fs c s → len + 1 ≡ length c.locals)
      → AreWell p stations 0 false fs s → AreWell p stations 0 false (on_body (λ f. with_locals (take len) (with_pc (pc + 1) f)) fs) s
  untagged fs s pc n len stand at is has long w =
      moves p stations (λ f. with_locals (take len) (with_pc (pc + 1) f)) (λ o. pc + 1) (take len) (moves_locals (pc + 1) (take len)) 0 0 false false fs s s (some_level p stations fs pc at) w
      (λ c b.
      let o = before_tag pc n c stand is has (goes_at p stations 0 false fs c s pc at b) in
      let kinds : c.locals ≡ o.0.locals ++ Tag ∷ [] = ap (λ (x : Context). x.locals) o.1.0 in
      let same : len ≡ length o.0.locals = omega (arith, long c b, ap length kinds, length-append o.0.locals (Tag ∷ [])) in (
        o.0,
        (
          body_moves p stations (λ f. with_locals (take len) (with_pc (pc + 1) f)) (λ o. pc + 1) (take len) (moves_locals (pc + 1) (take len)) (λ n m. n ≡ m) (λ n m e. ap suc e)
              0 0 false false fs c o.0 s s pc refl at b
              (λ whose k m locals level e body. record {
                there = o.1.1;
                own = sym (ap (λ (x : Context). x.body) o.1.0) ∙ body.own;
                in_loops = sym (ap (λ (x : Context). x.loops) o.1.0) ∙ body.in_loops ∙ e;
                locals_fit =
                    by_themselves p stations (take len locals) o.0.locals
                    (subst (λ k. AreOf (take k locals) o.0.locals) (sym same)
                    (are_first p stations locals o.0.locals (Tag ∷ []) (subst (AreOf locals) kinds (alone p stations locals c.locals body.locals_fit))));
                asked = λ e. absurd (false≢true e);
                level_is = body.level_is;
                writes = subst (λ ws. (outer : List ℕ) × (s.targets ≡ buffers_of p ws ++ outer)) (ap (λ (x : Context). x.writing) o.1.0) body.writes;
              }),
          ap (λ ws. writing_over (buffers_of p ws) s) (sym (ap (λ (x : Context). x.writing) o.1.0)),
        ),
      ))

  locals_are : (loops : ℕ) (fs : List Frame) (c : Context) (s : Standing) (x : Frame) → frame_in fs ≡ Some x → BodyIs p stations loops false fs c s → AreOf (locals_of x) c.locals
  locals_are loops [] c s x is b = absurd b
  locals_are loops (Loop turn ∷ fs) c s x is b = locals_are (suc loops) fs c s x is b
  locals_are loops (Body template alternative pc locals level spent ∷ fs) c s x is b =
      let same : Body template alternative pc locals level spent ≡ x = cc in
      subst (λ (y : Frame). AreOf (locals_of y) c.locals) same (alone p stations locals c.locals b.locals_fit)
  locals_are loops (Call procedure pc locals level ∷ fs) c s x is b =
      let same : Call procedure pc locals level ≡ x = cc in
      subst (λ (y : Frame). AreOf (locals_of y) c.locals) same (alone p stations locals c.locals b.locals_fit)
  locals_are loops (f ∷ fs) c s x is b = absurd b

abbrev values_of : List Local → List (List Atom)
values_of locals = map (λ (l : Local). l.value) locals

last_texts : (xs : List Local) (ks : List Kind) (v : List Atom) → AreOf xs (ks ++ Tag ∷ []) → slice_get (values_of xs) (length xs - 1) ≡ Some v → AreTexts v
last_texts [] [] v h at = absurd h
last_texts [] (k ∷ ks) v h at = absurd h
last_texts (x ∷ []) [] v h at = let same : x.value ≡ v = cc in subst AreTexts same h.0.1
last_texts (x ∷ []) (k ∷ []) v h at = absurd h.1
last_texts (x ∷ []) (k ∷ l ∷ ks) v h at = absurd h.1
last_texts (x ∷ y ∷ xs) [] v h at = absurd h.1
last_texts (x ∷ y ∷ xs) (k ∷ ks) v h at =
    let next : length (x ∷ y ∷ xs) - 1 ≡ suc (length (y ∷ xs) - 1) = omega arith in
    last_texts (y ∷ xs) ks v h.1 (subst (λ n. slice_get (values_of (x ∷ y ∷ xs)) n ≡ Some v) next at)

some_tag : (xs : List Local) (ks : List Kind) → AreOf xs (ks ++ Tag ∷ []) → 0 < length xs
some_tag [] [] h = absurd h
some_tag [] (k ∷ ks) h = absurd h
some_tag (x ∷ xs) ks h = omega arith

-- The body of a run.

pub record HasTag (r : Run) (body : ℕ) : Type 0 where
  pub frame : Frame
  pub there : slice_get r.frames.frames body ≡ Some frame
  pub level : IsSome (level_of frame)
  pub some : 0 < length (locals_of frame)
  pub last : (v : List Atom) → slice_get (values_of (locals_of frame)) (length (locals_of frame) - 1) ≡ Some v → AreTexts v

pub has_tag : (p : Program) (r : Run) (running : Running) (n : ℕ) → IsAtOp p r running (op.Close n) → HasForm p.code n AroundTag → HasTag r running.body
has_tag p r running n at has =
    let c = some_context p r running (op.Close n) at in
    let fs = reverse r.frames.frames in
    let g = goes_at p at.well.stations 0 false fs c.0 (standing_of r) running.pc at.pc c.1 in
    let o = before_tag p at.well.stations running.pc n c.0 at.well.stand at.is has g in
    let a = at_place p r running (op.Close n) at in
    let are : AreOf (locals_of a.0) (o.0.locals ++ Tag ∷ []) =
    subst (AreOf (locals_of a.0)) (ap (λ (x : Context). x.locals) o.1.0) (locals_are p at.well.stations 0 fs c.0 (standing_of r) a.0 a.1.0 c.1) in
    record {
      frame = a.0;
      there = a.1.1;
      level =
          subst (λ q. IsSome (option_and_then level_of q)) a.1.0 (at_body p r running (op.Close n) at).body;
      some = some_tag (locals_of a.0) o.0.locals are;
      last = λ v is. last_texts (locals_of a.0) o.0.locals v are is;
    }

-- the locals that are got are the frame's
pub same_locals : (fs : List Frame) (body : ℕ) (frame : Frame) (locals : List Local) → slice_get fs body ≡ Some frame
    → option_map locals_of (slice_get fs body) ≡ Some locals → locals_of frame ≡ locals
same_locals fs body frame locals there are = one (locals_of frame) locals (sym (ap (option_map locals_of) there) ∙ are)
  where
    one : (xs ys : List Local) → Some xs ≡ Some ys → xs ≡ ys
    one xs ys e = cc

pub enters_list : (p : Program) (r : Run) (running : Running) (n to : ℕ) (frames : FrameStack) → (at : IsAtOp p r running (op.Open n to)) → HasForm p.code n Around
    → frames ≡ with_frames (changed (with_pc (running.pc + 1)) running.body r.frames.frames) r.frames → IsWell p (record r { frames = frames })
enters_list p r running n to frames at has is =
    let next = running.pc + 1 in
    goes_elsewhere p r at.well frames (with_pc next) (λ o. next) (λ l. l) (moves_pc next) at.doing (behind_pc p r running (op.Open n to) at next frames is).0
    (enters p at.well.stations (reverse r.frames.frames) (standing_of r) running.pc n to at.well.stand at.pc at.is has (at_body p r running (op.Open n to) at).well)

pub passes_list : (p : Program) (r : Run) (running : Running) (n to : ℕ) (frames : FrameStack) → (at : IsAtOp p r running (op.Open n to))
    → frames ≡ with_frames (changed (with_pc to) running.body r.frames.frames) r.frames → IsWell p (record r { frames = frames })
passes_list p r running n to frames at is =
    goes_elsewhere p r at.well frames (with_pc to) (λ o. to) (λ l. l) (moves_pc to) at.doing (behind_pc p r running (op.Open n to) at to frames is).0
    (passes p at.well.stations (reverse r.frames.frames) (standing_of r) running.pc n to at.well.stand at.pc at.is (at_body p r running (op.Open n to) at).well)

pub leaves_list : (p : Program) (r : Run) (running : Running) (n : ℕ) (frames : FrameStack) → (at : IsAtOp p r running (op.Close n)) → HasForm p.code n Around
    → frames ≡ with_frames (changed (with_pc (running.pc + 1)) running.body r.frames.frames) r.frames → IsWell p (record r { frames = frames })
leaves_list p r running n frames at has is =
    let next = running.pc + 1 in
    goes_elsewhere p r at.well frames (with_pc next) (λ o. next) (λ l. l) (moves_pc next) at.doing (behind_pc p r running (op.Close n) at next frames is).0
    (leaves p at.well.stations (reverse r.frames.frames) (standing_of r) running.pc n at.well.stand at.pc at.is has (at_body p r running (op.Close n) at).well)

pub enters_tagged : (p : Program) (r : Run) (running : Running) (n to : ℕ) (x : Local) (frames more : FrameStack) → (at : IsAtOp p r running (op.Open n to))
    → HasForm p.code n AroundTag → IsOf x Tag → frames ≡ with_frames (changed (with_pc (running.pc + 1)) running.body r.frames.frames) r.frames
    → more ≡ with_frames (changed (with_locals (λ ls. ls ++ x ∷ [])) running.body frames.frames) frames → IsWell p (record r { frames = more })
enters_tagged p r running n to x frames more at has tag is then_is =
    let next = running.pc + 1 in
    let h : List Local → List Local = λ ls. ls ++ x ∷ [] in
    goes_elsewhere p r at.well more (λ f. with_locals h (with_pc next f)) (λ o. next) h (moves_locals next h) at.doing
    (behind_locals p r running (op.Open n to) at next h frames more is then_is)
    (tagged p at.well.stations (reverse r.frames.frames) (standing_of r) running.pc n to x at.well.stand at.pc at.is has tag (at_body p r running (op.Open n to) at).well)

pub leaves_tagged : (p : Program) (r : Run) (running : Running) (n len : ℕ) (frames more : FrameStack) → (at : IsAtOp p r running (op.Close n))
    → HasForm p.code n AroundTag → (t : HasTag r running.body) → len ≡ length (locals_of t.frame) - 1
    → frames ≡ with_frames (changed (with_pc (running.pc + 1)) running.body r.frames.frames) r.frames
    → more ≡ with_frames (changed (with_locals (take len)) running.body frames.frames) frames → IsWell p (record r { frames = more })
leaves_tagged p r running n len frames more at has t short is then_is =
    let next = running.pc + 1 in
    let a = at_place p r running (op.Close n) at in
    let same : a.0 ≡ t.frame = one_frame a.0 t.frame (sym a.1.1 ∙ t.there) in
    goes_elsewhere p r at.well more (λ f. with_locals (take len) (with_pc next f)) (λ o. next) (take len) (moves_locals next (take len)) at.doing
    (behind_locals p r running (op.Close n) at next (take len) frames more is then_is)
    (untagged p at.well.stations (reverse r.frames.frames) (standing_of r) running.pc n len at.well.stand at.pc at.is has
    (λ c b.
    omega (arith, short, t.some, ap (λ (y : Frame). length (locals_of y)) same, locals_long p at.well.stations 0 (reverse r.frames.frames) c (standing_of r) a.0 a.1.0 b))
    (at_body p r running (op.Close n) at).well)
  where
    one_frame : (y z : Frame) → Some y ≡ Some z → y ≡ z
    one_frame y z e = cc
