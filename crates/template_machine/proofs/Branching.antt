-- Tests and loops.
use Rattle.std.proofs.Common.{◌≡◌, ℕ, suc, ◌+◌, false, List, [], ◌∷◌, ◌++◌, Option, Some, refl, ap, sym, subst, ◌∙◌, arith}
use Rattle.std.specs.List.{slice_get}
use Rattle.std.proofs.lemmas.Bool.{false≢true}
use Rattle.frame_stack.specs.Change.{with_locals, with_pc}
use Rattle.frame_stack.specs.declared.frame.Frame.{Frame}
use Rattle.frame_stack.specs.declared.frame.Frame.TheVariants.{Body, Call, Loop}
use Rattle.frame_stack.specs.declared.locals.Local.{Local}
use Rattle.instr_code.specs.declared.code.Op.TheVariants as op
use Rattle.stx_base.specs.declared.name.Name.{Name}
use Rattle.template_machine.specs.Bodies.{on_body, pc_in}
use Rattle.template_machine.specs.Contexts.{Asks, Begins, Choice, Choices, Context, Declares, Form, Goes, HasForm, HasStations, Named, Repeats, Single, Station, behind, in_loop, with_kind}
use Rattle.template_machine.specs.Standing.{Standing}
use Rattle.template_machine.specs.Moments.{Branches, IsBranch}
use Rattle.template_machine.specs.Well.{AreWell, WaitBehind, buffers_of}
use Rattle.template_machine.specs.declared.program.Program.{Program}
use Rattle.template_machine.proofs.Moving.{BodyIs, alone, are_more, by_themselves, goes_on, moves_locals, moves_pc, steps}

-- an instruction has one form
pub one_form : (o : Option Form) (f g : Form) → o ≡ Some f → o ≡ Some g → f ≡ g
one_form o f g a b = cc

module _ (p : Program) (stations : List Station) where
  -- a single step that declares nothing
  pub passes_on : (fs : List Frame) (s : Standing) (pc n : ℕ) → HasStations p.code stations p.sheet → pc_in fs ≡ Some pc
      → slice_get p.code.ops pc ≡ Some (op.Do n) → HasForm p.code n Single
      → AreWell p stations 0 false fs s → AreWell p stations 0 false (on_body (with_pc (pc + 1)) fs) s
  passes_on fs s pc n stand at is has w =
      goes_on p stations fs s pc (pc + 1) at
      (λ c g.
      let l = stand.leads pc (op.Do n) c g.0 is g.1 in
      let same : l.0 ≡ Single = one_form _ _ _ l.1.0 has in
      subst (λ f. Goes stations (pc + 1) (behind f c)) same l.1.2) w

  -- the test of an if, or of a branch
  pub branches : (fs : List Frame) (s : Standing) (pc n arm to : ℕ) → HasStations p.code stations p.sheet → pc_in fs ≡ Some pc
      → slice_get p.code.ops pc ≡ Some (op.Test n arm to) → HasForm p.code n Choice
      → AreWell p stations 0 false fs s
      → AreWell p stations 0 false (on_body (with_pc (pc + 1)) fs) s × AreWell p stations 0 false (on_body (with_pc to) fs) s
  branches fs s pc n arm to stand at is has w =
      let asks : (c : Context) (g : Goes stations pc c) → Goes stations (pc + 1) c × Goes stations to c = λ c g.
      let l = stand.leads pc (op.Test n arm to) c g.0 is g.1 in
      let same : l.0 ≡ Choice = one_form _ _ _ l.1.0 has in
      subst (λ f. Asks p.code stations f arm to pc c g.0) same l.1.1 in
      (goes_on p stations fs s pc (pc + 1) at (λ c g. (asks c g).0) w, goes_on p stations fs s pc to at (λ c g. (asks c g).1) w)

  pub arms : (fs : List Frame) (s : Standing) (pc n arm to many : ℕ) → HasStations p.code stations p.sheet → pc_in fs ≡ Some pc
      → slice_get p.code.ops pc ≡ Some (op.Test n arm to) → HasForm p.code n (Choices many)
      → AreWell p stations 0 false fs s
      → AreWell p stations 0 false (on_body (with_pc (pc + 1)) fs) s × AreWell p stations 0 false (on_body (with_pc to) fs) s
  arms fs s pc n arm to many stand at is has w =
      let asks : (c : Context) (g : Goes stations pc c) → Asks p.code stations (Choices many) arm to pc c g.0 = λ c g.
      let l = stand.leads pc (op.Test n arm to) c g.0 is g.1 in
      let same : l.0 ≡ Choices many = one_form _ _ _ l.1.0 has in
      subst (λ f. Asks p.code stations f arm to pc c g.0) same l.1.1 in (
        goes_on p stations fs s pc (pc + 1) at (λ c g. let a = asks c g in (a.1.0, a.1.1.0)) w,
        goes_on p stations fs s pc to at (λ c g. let a = asks c g in (a.2.0, a.2.1.0)) w,
      )

  -- a loop by a test begins
  pub loop_begins : (fs : List Frame) (s : Standing) (pc n turn : ℕ) → HasStations p.code stations p.sheet → pc_in fs ≡ Some pc
      → slice_get p.code.ops pc ≡ Some (op.Begin n) → HasForm p.code n Repeats
      → AreWell p stations 0 false fs s → AreWell p stations 0 false (Loop turn ∷ on_body (with_pc (pc + 1)) fs) s
  loop_begins fs s pc n turn stand at is has w =
      steps p stations (with_pc (pc + 1)) (λ o. pc + 1) (λ l. l) (moves_pc (pc + 1)) (λ n m. m ≡ suc n) (λ n m e. ap suc e) 0 1 false false fs s pc refl at w
      (λ c g.
      let l = stand.leads pc (op.Begin n) c g.0 is g.1 in
      let same : l.0 ≡ Repeats = one_form _ _ _ l.1.0 has in
      let b : Goes stations (pc + 1) (in_loop c) = subst (λ f. Begins p.code stations f pc c) same l.1.1 in (
        in_loop c,
        (
          refl,
          λ whose n m locals level e body. record {
            there = b;
            own = body.own;
            in_loops = ap suc body.in_loops ∙ sym e;
            locals_fit = body.locals_fit;
            asked = λ e. absurd (false≢true e);
            level_is = body.level_is;
            writes = body.writes;
          },
        ),
      ))

  -- the frame on top is a loop, where one is open
  pub top_loop : (fs : List Frame) (c : Context) (s : Standing) (o : Context) → c ≡ in_loop o → BodyIs p stations 0 false fs c s
      → (turn : ℕ) × ((gs : List Frame) × (fs ≡ Loop turn ∷ gs))
  top_loop [] c s o e b = absurd b
  top_loop (Loop turn ∷ fs) c s o e b = (turn, (fs, refl))
  top_loop (Body template alternative pc locals level spent ∷ fs) c s o e b = absurd (omega (arith, b.in_loops, ap (λ (x : Context). x.loops) e))
  top_loop (Call procedure pc locals level ∷ fs) c s o e b = absurd (omega (arith, b.in_loops, ap (λ (x : Context). x.loops) e))
  top_loop (f ∷ fs) c s o e b = absurd b

  -- a loop by a test goes on, or is over
  pub turn_begins : (fs : List Frame) (s : Standing) (pc n arm to : ℕ) → HasStations p.code stations p.sheet → pc_in fs ≡ Some pc
      → slice_get p.code.ops pc ≡ Some (op.Test n arm to) → HasForm p.code n Repeats
      → AreWell p stations 0 false fs s → AreWell p stations 0 false (on_body (with_pc (pc + 1)) fs) s
  turn_begins fs s pc n arm to stand at is has w =
      goes_on p stations fs s pc (pc + 1) at
      (λ c g.
      let l = stand.leads pc (op.Test n arm to) c g.0 is g.1 in
      let same : l.0 ≡ Repeats = one_form _ _ _ l.1.0 has in
      let a : Asks p.code stations Repeats arm to pc c g.0 = subst (λ f. Asks p.code stations f arm to pc c g.0) same l.1.1 in a.1.1) w

  pub loop_ends : (turn : ℕ) (fs : List Frame) (s : Standing) (pc n arm to : ℕ) → HasStations p.code stations p.sheet → pc_in fs ≡ Some pc
      → slice_get p.code.ops pc ≡ Some (op.Test n arm to) → HasForm p.code n Repeats
      → AreWell p stations 0 false (Loop turn ∷ fs) s → AreWell p stations 0 false (on_body (with_pc to) fs) s
  loop_ends turn fs s pc n arm to stand at is has w =
      steps p stations (with_pc to) (λ o. to) (λ l. l) (moves_pc to) (λ n m. n ≡ suc m) (λ n m e. ap suc e) 1 0 false false fs s pc refl at w
      (λ c g.
      let l = stand.leads pc (op.Test n arm to) c g.0 is g.1 in
      let same : l.0 ≡ Repeats = one_form _ _ _ l.1.0 has in
      let a : Asks p.code stations Repeats arm to pc c g.0 = subst (λ f. Asks p.code stations f arm to pc c g.0) same l.1.1 in
      let o = a.0 in (
        o,
        (
          sym (ap (λ (x : Context). x.writing) a.1.0),
          λ whose n m locals level e body. record {
            there = (a.1.2.0, a.1.2.1.0);
            own = sym (ap (λ (x : Context). x.body) a.1.0) ∙ body.own;
            in_loops = omega (arith, body.in_loops, e, ap (λ (x : Context). x.loops) a.1.0);
            locals_fit = subst (WaitBehind 0 locals) (ap (λ (x : Context). x.locals) a.1.0) body.locals_fit;
            asked = λ e. absurd (false≢true e);
            level_is = body.level_is;
            writes = subst (λ ws. (outer : List ℕ) × (s.targets ≡ buffers_of p ws ++ outer)) (ap (λ (x : Context). x.writing) a.1.0) body.writes;
          },
        ),
      ))

  -- a variable is declared
  pub declares : (fs : List Frame) (s : Standing) (pc n : ℕ) (name : Name) (x : Local) → HasStations p.code stations p.sheet → pc_in fs ≡ Some pc
      → slice_get p.code.ops pc ≡ Some (op.Do n) → HasForm p.code n (Declares name) → x.name ≡ name
      → AreWell p stations 0 false fs s → AreWell p stations 0 false (on_body (λ f. with_locals (λ ls. ls ++ x ∷ []) (with_pc (pc + 1) f)) fs) s
  declares fs s pc n name x stand at is has named w =
      steps p stations (λ f. with_locals (λ ls. ls ++ x ∷ []) (with_pc (pc + 1) f)) (λ o. pc + 1) (λ ls. ls ++ x ∷ []) (moves_locals (pc + 1) (λ ls. ls ++ x ∷ []))
      (λ n m. n ≡ m) (λ n m e. ap suc e) 0 0 false false fs s pc refl at w
      (λ c g.
      let l = stand.leads pc (op.Do n) c g.0 is g.1 in
      let same : l.0 ≡ Declares name = one_form _ _ _ l.1.0 has in
      let d = with_kind (Named name) c in (
        d,
        (
          refl,
          λ whose n m locals level e body. record {
            there = subst (λ f. Goes stations (pc + 1) (behind f c)) same l.1.2;
            own = body.own;
            in_loops = body.in_loops ∙ e;
            locals_fit =
                by_themselves p stations (locals ++ x ∷ []) d.locals
                (are_more p stations locals c.locals x (Named name) (alone p stations locals c.locals body.locals_fit) named);
            asked = λ e. absurd (false≢true e);
            level_is = body.level_is;
            writes = body.writes;
          },
        ),
      ))

  both_ways : (fs : List Frame) (s : Standing) (pc n arm to : ℕ) → HasStations p.code stations p.sheet → pc_in fs ≡ Some pc
      → slice_get p.code.ops pc ≡ Some (op.Test n arm to) → (f : Form) → HasForm p.code n f → Branches f
      → AreWell p stations 0 false fs s
      → AreWell p stations 0 false (on_body (with_pc (pc + 1)) fs) s × AreWell p stations 0 false (on_body (with_pc to) fs) s
  both_ways fs s pc n arm to stand at is Choice has b w = branches fs s pc n arm to stand at is has w
  both_ways fs s pc n arm to stand at is (Choices many) has b w = arms fs s pc n arm to many stand at is has w
  both_ways fs s pc n arm to stand at is f has b w = absurd b

  -- either way of a test
  pub asked : (fs : List Frame) (s : Standing) (pc n arm to : ℕ) → HasStations p.code stations p.sheet → pc_in fs ≡ Some pc
      → slice_get p.code.ops pc ≡ Some (op.Test n arm to) → IsBranch p.code n
      → AreWell p stations 0 false fs s
      → AreWell p stations 0 false (on_body (with_pc (pc + 1)) fs) s × AreWell p stations 0 false (on_body (with_pc to) fs) s
  asked fs s pc n arm to stand at is b w = both_ways fs s pc n arm to stand at is b.0 b.1.0 b.1.1 w
