-- Choices, and loops over items.
use Rattle.std.proofs.Common.{◌≡◌, ℕ, suc, ◌+◌, false, List, [], ◌∷◌, ◌++◌, length, take, Some, refl, ap, sym, subst, ◌∙◌, arith, length-append}
use Rattle.std.specs.List.{slice_get}
use Rattle.std.proofs.lemmas.Bool.{false≢true}
use Rattle.frame_stack.specs.Change.{with_locals, with_pc}
use Rattle.frame_stack.specs.declared.frame.Frame.{Frame}
use Rattle.frame_stack.specs.declared.frame.Frame.TheVariants.{Loop}
use Rattle.frame_stack.specs.declared.locals.Local.{Local}
use Rattle.instr_code.specs.declared.code.Op.TheVariants as op
use Rattle.stx_base.specs.declared.name.Name.{Name}
use Rattle.template_machine.specs.Bodies.{on_body, pc_in}
use Rattle.template_machine.specs.Contexts.{Begins, Choices, Context, Goes, HasForm, HasStations, Items, Named, Station, Turns, Walks, in_loop, with_kind}
use Rattle.template_machine.specs.Standing.{Standing, writing_over}
use Rattle.template_machine.specs.Well.{AreOf, AreWell, buffers_of}
use Rattle.template_machine.specs.Working.{IsChoice}
use Rattle.template_machine.specs.declared.program.Program.{Program}
use Rattle.template_machine.proofs.Branching.{one_form}
use Rattle.template_machine.proofs.Moving.{BodyIs, Moves, alone, are_first, are_more, body_moves, by_themselves, goes_at, goes_on, moves, moves_locals, some_level, steps}

-- locals and then the next operation are others
pub moves_back : (pc : ℕ) (h : List Local → List Local) → Moves (λ f. with_pc pc (with_locals h f)) (λ o. pc) h
moves_back pc h = record { template = λ t a o l n s. refl; procedure = λ q o l n. refl }

module _ (p : Program) (stations : List Station) where
  -- one of several branches is chosen
  pub choice_begins : (fs : List Frame) (s : Standing) (pc n : ℕ) → HasStations p.code stations p.sheet → pc_in fs ≡ Some pc
      → slice_get p.code.ops pc ≡ Some (op.Begin n) → IsChoice p.code n → AreWell p stations 0 false fs s → AreWell p stations 0 false (on_body (with_pc (pc + 1)) fs) s
  choice_begins fs s pc n stand at is has w =
      goes_on p stations fs s pc (pc + 1) at
      (λ c g.
      let l = stand.leads pc (op.Begin n) c g.0 is g.1 in
      let same : l.0 ≡ Choices has.0 = one_form _ _ _ l.1.0 has.1 in
      subst (λ f. Begins p.code stations f pc c) same l.1.1) w

  -- a loop over items begins, which wait as the last local
  pub walk_begins : (fs : List Frame) (s : Standing) (pc n turn : ℕ) (name : Name) (x : Local) → HasStations p.code stations p.sheet → pc_in fs ≡ Some pc
      → slice_get p.code.ops pc ≡ Some (op.Begin n) → HasForm p.code n (Walks name) → x.name.local ≡ [] → AreWell p stations 0 false fs s
      → AreWell p stations 0 false (Loop turn ∷ on_body (λ f. with_locals (λ ls. ls ++ x ∷ []) (with_pc (pc + 1) f)) fs) s
  walk_begins fs s pc n turn name x stand at is has unnamed w =
      steps p stations (λ f. with_locals (λ ls. ls ++ x ∷ []) (with_pc (pc + 1) f)) (λ o. pc + 1) (λ ls. ls ++ x ∷ []) (moves_locals (pc + 1) (λ ls. ls ++ x ∷ []))
      (λ n m. m ≡ suc n) (λ n m e. ap suc e) 0 1 false false fs s pc refl at w
      (λ c g.
      let l = stand.leads pc (op.Begin n) c g.0 is g.1 in
      let same : l.0 ≡ Walks name = one_form _ _ _ l.1.0 has in
      let b : Goes stations (pc + 1) (in_loop (with_kind Items c)) = subst (λ f. Begins p.code stations f pc c) same l.1.1 in
      let d = in_loop (with_kind Items c) in (
        d,
        (
          refl,
          λ whose n m locals level e body. record {
            there = b;
            own = body.own;
            in_loops = ap suc body.in_loops ∙ sym e;
            locals_fit =
                by_themselves p stations (locals ++ x ∷ []) d.locals
                (are_more p stations locals c.locals x Items (alone p stations locals c.locals body.locals_fit) unnamed);
            asked = λ e. absurd (false≢true e);
            level_is = body.level_is;
            writes = body.writes;
          },
        ),
      ))

  -- what a place asks for that begins a turn
  pub turns_at : (c : Context) (pc n to : ℕ) (name : Name) → HasStations p.code stations p.sheet → slice_get p.code.ops pc ≡ Some (op.Turn n to)
      → HasForm p.code n (Walks name) → (g : Goes stations pc c) → Turns p.code stations (Walks name) to pc c g.0
  turns_at c pc n to name stand is has g =
      let l = stand.leads pc (op.Turn n to) c g.0 is g.1 in
      let same : l.0 ≡ Walks name = one_form _ _ _ l.1.0 has in
      subst (λ f. Turns p.code stations f to pc c g.0) same l.1.1

  -- the next item is bound
  pub item_binds : (fs : List Frame) (s : Standing) (pc n to : ℕ) (name : Name) (x : Local) → HasStations p.code stations p.sheet → pc_in fs ≡ Some pc
      → slice_get p.code.ops pc ≡ Some (op.Turn n to) → HasForm p.code n (Walks name) → x.name ≡ name
      → AreWell p stations 0 false fs s → AreWell p stations 0 false (on_body (λ f. with_locals (λ ls. ls ++ x ∷ []) (with_pc (pc + 1) f)) fs) s
  item_binds fs s pc n to name x stand at is has named w =
      steps p stations (λ f. with_locals (λ ls. ls ++ x ∷ []) (with_pc (pc + 1) f)) (λ o. pc + 1) (λ ls. ls ++ x ∷ []) (moves_locals (pc + 1) (λ ls. ls ++ x ∷ []))
      (λ n m. n ≡ m) (λ n m e. ap suc e) 0 0 false false fs s pc refl at w
      (λ c g.
      let a = turns_at c pc n to name stand is has g in
      let d = with_kind (Named name) c in (
        d,
        (
          refl,
          λ whose n m locals level e body. record {
            there = a.1.1;
            own = body.own;
            in_loops = body.in_loops ∙ e;
            locals_fit =
                by_themselves p stations (locals ++ x ∷ []) d.locals
                (are_more p stations locals c.locals x (Named name) (alone p stations locals c.locals body.locals_fit) named);
            asked = λ e. absurd (false≢true e);
            level_is = body.level_is;
            writes = body.writes;
          },
        ),
      ))

  -- no item is left
  pub walk_ends : (turn : ℕ) (fs : List Frame) (s : Standing) (pc n to len : ℕ) (name : Name) → HasStations p.code stations p.sheet → pc_in fs ≡ Some pc
      → slice_get p.code.ops pc ≡ Some (op.Turn n to) → HasForm p.code n (Walks name)
      → ((c : Context) → BodyIs p stations 1 false fs c s → len + 1 ≡ length c.locals)
      → AreWell p stations 0 false (Loop turn ∷ fs) s → AreWell p stations 0 false (on_body (λ f. with_pc to (with_locals (take len) f)) fs) s
  walk_ends turn fs s pc n to len name stand at is has long w =
      moves p stations (λ f. with_pc to (with_locals (take len) f)) (λ o. to) (take len) (moves_back to (take len)) 1 0 false false fs s s (some_level p stations fs pc at) w
      (λ c b.
      let a = turns_at c pc n to name stand is has (goes_at p stations 1 false fs c s pc at b) in
      let o = a.0 in
      let kinds : c.locals ≡ o.locals ++ Items ∷ [] = ap (λ (x : Context). x.locals) a.1.0 in
      let same : len ≡ length o.locals = omega (arith, long c b, ap length kinds, length-append o.locals (Items ∷ [])) in (
        o,
        (
          body_moves p stations (λ f. with_pc to (with_locals (take len) f)) (λ o. to) (take len) (moves_back to (take len)) (λ n m. n ≡ suc m) (λ n m e. ap suc e)
              1 0 false false fs c o s s pc refl at b
              (λ whose n m locals level e body. record {
                there = (a.1.2.0, a.1.2.1.0);
                own = sym (ap (λ (x : Context). x.body) a.1.0) ∙ body.own;
                in_loops = omega (arith, body.in_loops, e, ap (λ (x : Context). x.loops) a.1.0);
                locals_fit =
                    by_themselves p stations (take len locals) o.locals
                    (subst (λ k. AreOf (take k locals) o.locals) (sym same)
                    (are_first p stations locals o.locals (Items ∷ []) (subst (AreOf locals) kinds (alone p stations locals c.locals body.locals_fit))));
                asked = λ e. absurd (false≢true e);
                level_is = body.level_is;
                writes = subst (λ ws. (outer : List ℕ) × (s.targets ≡ buffers_of p ws ++ outer)) (ap (λ (x : Context). x.writing) a.1.0) body.writes;
              }),
          ap (λ ws. writing_over (buffers_of p ws) s) (sym (ap (λ (x : Context). x.writing) a.1.0)),
        ),
      ))
