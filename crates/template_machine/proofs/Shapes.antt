-- The stations of an instruction, by its form.
use Rattle.std.proofs.Common.{◌≡◌, ℕ, suc, ◌+◌, List, [], ◌∷◌, ◌++◌, length, refl, sym, subst, ◌∙◌, arith, length-append}
use Rattle.instr_code.specs.declared.code.Code.{Code}
use Rattle.instr_code.specs.declared.code.Op.{Op}
use Rattle.instr_code.specs.declared.code.Op.TheVariants as op
use Rattle.template_machine.specs.Contexts.{AroundBuffer, AroundTag, Context, Declares, IsAt, Leads, Station, HasForm, Form, IsRound, IsSingle, within, behind}
use Rattle.template_machine.proofs.Laying.{AreLed, AreOwn, Holds, Laid, holds_first, holds_second, holds_to, is_to, laid_behind, laid_op, led_append, own_append, own_of}

-- nothing is asked of the stations
abbrev pub Any : List Station → Type 0
Any all = Unit {0}

-- behind an instruction, and within its list, the body is the same
body_behind : (f : Form) (c : Context) → (behind f c).body ≡ c.body
body_behind (Declares name) c = refl
body_behind f c = refl

body_within : (f : Form) (n : ℕ) (c : Context) → (within f n c).body ≡ c.body
body_within AroundTag n c = refl
body_within AroundBuffer n c = refl
body_within f n c = refl

module _ (code : Code) where
  -- one step
  pub laid_single : (n p : ℕ) (f : Form) (c : Context) (low : ℕ) → HasForm code n f → IsSingle f
      → Laid code Any (op.Do n ∷ []) p c (behind f c) low
  laid_single n p f c low has single = laid_op code Any (op.Do n) p c (behind f c) low 0 (body_behind f c) (λ all a here at. (f, (has, single, (low, at))))

  -- round a list
  pub laid_round : (n p to : ℕ) (f : Form) (c : Context) (low : ℕ) (body : List Op) → HasForm code n f → IsRound f
      → to ≡ p + 1 + length body + 1 → Laid code Any body (p + 1) (within f n c) (within f n c) (suc low)
      → Laid code Any (op.Open n to ∷ (body ++ op.Close n ∷ [])) p c c low
  laid_round n p to f c low body has round e b =
      let q = p + 1 + length body in
      let close : Laid code Any (op.Close n ∷ []) q (within f n c) c low =
      laid_op code Any (op.Close n) q (within f n c) c low (suc low) (sym (body_within f n c))
      (λ all a here at. (f, (has, round, (c, (refl, (low, (at, omega arith))))))) in
      let rest : Laid code Any (body ++ op.Close n ∷ []) (p + 1) (within f n c) c low =
      laid_behind code Any body (op.Close n ∷ []) (p + 1) q (within f n c) (within f n c) c low close b refl in
      record {
        high = 0;
        stations = record { context = c; rank = 0 } ∷ rest.stations;
        long = omega (arith, rest.long);
        own = (refl, own_of rest.stations (body_within f n c) rest.own);
        same = refl;
        begins = λ all a h at. h.0;
        leads = λ all a h at.
            let long = length-append body (op.Close n ∷ []) in
            let end = is_to all (p + length (op.Open n to ∷ (body ++ op.Close n ∷ []))) (p + 1 + length (body ++ op.Close n ∷ [])) c low (omega arith) at in
            let exit = is_to all (p + length (op.Open n to ∷ (body ++ op.Close n ∷ []))) to c low (omega (arith, e, long)) at in
            ((f, (has, round, (rest.high, rest.begins all a h.1 end), (low, exit))), rest.leads all a h.1 end);
      }

  -- A test, a list behind which a jump leads on, and what comes where the test fails.
  pub laid_fork : (A : List Station → Type 0) (test jump : Op) (p q far : ℕ) (c : Context) (low between rank : ℕ) (body other : List Op)
      → (o : Laid code A other far c c low)
      → (b : Laid code A body (p + 1) c c between)
      → q ≡ p + 1 + length body → far ≡ q + 1
      → ((all : List Station) → A all → IsAt all (far + length other) c low → Leads code all q c between jump)
      → ((all : List Station) → A all → IsAt all (p + 1) c b.high → IsAt all far c o.high → Leads code all p c rank test)
      → Laid code A (test ∷ (body ++ jump ∷ other)) p c c low
  laid_fork A test jump p q far c low between rank body other o b e g jumps asks = record {
    high = rank;
    stations = record { context = c; rank = rank } ∷ (b.stations ++ record { context = c; rank = between } ∷ o.stations);
    long =
        omega (arith, length-append b.stations (record { context = c; rank = between } ∷ o.stations), length-append body (jump ∷ other), b.long, o.long);
    own = (refl, own_append c.body b.stations (record { context = c; rank = between } ∷ o.stations) b.own (refl, o.own));
    same = refl;
    begins = λ all a h at. h.0;
    leads = λ all a h at.
        let long = length-append body (jump ∷ other) in
        let second : Holds all q (record { context = c; rank = between } ∷ o.stations) =
        holds_second all (p + 1) q b.stations (record { context = c; rank = between } ∷ o.stations) (omega (arith, e, b.long)) h.1 in
        let first : Holds all (p + 1) b.stations = holds_first all (p + 1) b.stations (record { context = c; rank = between } ∷ o.stations) h.1 in
        let third : Holds all far o.stations = holds_to all (q + 1) far o.stations (sym g) second.1 in
        let end = is_to all (p + length (test ∷ (body ++ jump ∷ other))) (far + length other) c low (omega (arith, e, g, long)) at in
        let middle = is_to all q (p + 1 + length body) c between e second.0 in (
          asks all a (b.begins all a first middle) (o.begins all a third end),
          led_append code all (p + 1) q body b.stations (jump ∷ other) (record { context = c; rank = between } ∷ o.stations) (sym e)
              (b.leads all a first middle)
              (jumps all a end, subst (λ n. AreLed code all n other o.stations) g (o.leads all a third end)),
        );
  }

  -- A loop: what begins it, what asks at each turn, and a list behind which a jump leads back.
  pub laid_loop : (start ask : Op) (p end : ℕ) (c d e : Context) (low : ℕ) (body : List Op) → d.body ≡ c.body
      → (b : Laid code Any body (p + 1 + 1) e d (suc (suc low)))
      → end ≡ p + 1 + 1 + length body + 1
      → ((all : List Station) → IsAt all (p + 1) d (suc low) → Leads code all p c 0 start)
      → ((all : List Station) → IsAt all (p + 1 + 1) e b.high → IsAt all end c low → Leads code all (p + 1) d (suc low) ask)
      → Laid code Any (start ∷ ask ∷ (body ++ op.Jump (p + 1) ∷ [])) p c c low
  laid_loop start ask p end c d e low body whose b is starts asks =
      let q = p + 1 + 1 + length body in
      let back : Station = record { context = d; rank = suc (suc low) } in
      record {
        high = 0;
        stations = record { context = c; rank = 0 } ∷ record { context = d; rank = suc low } ∷ (b.stations ++ back ∷ []);
        long = omega (arith, length-append b.stations (back ∷ []), length-append body (op.Jump (p + 1) ∷ []), b.long);
        own = (refl, (whose, own_append c.body b.stations (back ∷ []) (own_of b.stations (sym b.same ∙ whose) b.own) (whose, tt)));
        same = refl;
        begins = λ all a h at. h.0;
        leads = λ all a h at.
            let long = length-append body (op.Jump (p + 1) ∷ []) in
            let second : Holds all q (back ∷ []) = holds_second all (p + 1 + 1) q b.stations (back ∷ []) (omega (arith, b.long)) h.1.1 in
            let first : Holds all (p + 1 + 1) b.stations = holds_first all (p + 1 + 1) b.stations (back ∷ []) h.1.1 in
            let exit = is_to all (p + length (start ∷ ask ∷ (body ++ op.Jump (p + 1) ∷ []))) end c low (omega (arith, is, long)) at in (
              starts all h.1.0,
              (
                asks all (b.begins all a first second.0) exit,
                led_append code all (p + 1 + 1) q body b.stations (op.Jump (p + 1) ∷ []) (back ∷ []) refl
                    (b.leads all a first second.0)
                    ((suc low, (h.1.0, omega arith)), tt),
              ),
            );
      }
