-- The innermost body goes on elsewhere.
use Rattle.std.proofs.Common.{◌≡◌, ℕ, suc, ◌+◌, Bool, true, false, List, [], ◌∷◌, ◌++◌, length, take, Some, IsSome, refl, ap, sym, subst, ◌∙◌, arith, append-nil, length-append}
use Rattle.std.proofs.lemmas.Bool.{false≢true}
use Rattle.std.specs.List.{slice_get}
use Rattle.frame_stack.specs.Change.{locals_of, with_locals, with_pc}
use Rattle.frame_stack.specs.declared.frame.Frame.{Frame}
use Rattle.frame_stack.specs.declared.frame.Frame.TheVariants.{Body, Call, Loop}
use Rattle.frame_stack.specs.declared.locals.Local.{Local}
use Rattle.instr_code.specs.declared.code.Op.TheVariants as op
use Rattle.template_machine.specs.Bodies.{body_in, frame_in, level_in, on_body, pc_in}
use Rattle.template_machine.specs.Contexts.{Context, Goes, HasStations, Kind, Station}
use Rattle.template_machine.specs.Standing.{Standing, scope_over, writing_over}
use Rattle.template_machine.specs.Well.{AreOf, AreWell, CanTake, IsBody, IsOf, IsTemplate, WaitBehind, buffers_of, instr_before, over, waiting_at}
use Rattle.std.proofs.Math.Seq.{take-append_seam}
use Rattle.template_machine.specs.declared.program.Program.{Program}

-- a change of a body's next operation, and of its locals
pub record Moves (g : Frame → Frame) (to : ℕ → ℕ) (h : List Local → List Local) : Type 0 where
  pub template :
      (template alternative old : ℕ) (locals : List Local) (level : ℕ) (spent : Bool)
      → g (Body template alternative old locals level spent) ≡ Body template alternative (to old) (h locals) level spent
  pub procedure : (procedure old : ℕ) (locals : List Local) (level : ℕ) → g (Call procedure old locals level) ≡ Call procedure (to old) (h locals) level

pub moves_pc : (pc : ℕ) → Moves (with_pc pc) (λ o. pc) (λ l. l)
moves_pc pc = record { template = λ t a o l n s. refl; procedure = λ q o l n. refl }

pub moves_locals : (pc : ℕ) (h : List Local → List Local) → Moves (λ f. with_locals h (with_pc pc f)) (λ o. pc) h
moves_locals pc h = record { template = λ t a o l n s. refl; procedure = λ q o l n. refl }

pub moves_only : (h : List Local → List Local) → Moves (with_locals h) (λ o. o) h
moves_only h = record { template = λ t a o l n s. refl; procedure = λ q o l n. refl }

module _ (p : Program) (stations : List Station) where
  -- the innermost body, of which so many loops more are open
  abbrev pub BodyIs : (loops : ℕ) → (waits : Bool) → List Frame → Context → Standing → Type 0
  BodyIs loops waits [] c s = ⊥
  BodyIs loops waits (Loop turn ∷ fs) c s = BodyIs (suc loops) waits fs c s
  BodyIs loops waits (Body template alternative pc locals level spent ∷ fs) c s = IsBody p stations template loops waits pc locals level c s
  BodyIs loops waits (Call procedure pc locals level ∷ fs) c s = IsBody p stations (length p.sheet.templates + procedure) loops waits pc locals level c s
  BodyIs loops waits (f ∷ fs) c s = ⊥

  -- it has a context
  pub body_is : (loops : ℕ) (waits : Bool) (fs : List Frame) (s : Standing) → IsSome (level_in fs) → AreWell p stations loops waits fs s
      → (c : Context) × BodyIs loops waits fs c s
  body_is loops waits [] s some w = absurd (false≢true some)
  body_is loops waits (Loop turn ∷ fs) s some w = body_is (suc loops) waits fs s some w
  body_is loops waits (Body template alternative pc locals level spent ∷ fs) s some w = (w.0, w.1.1.0)
  body_is loops waits (Call procedure pc locals level ∷ fs) s some w = (w.0, w.1.1.0)
  body_is loops waits (f ∷ fs) s some w = absurd (false≢true some)

  -- it goes on at another operation with other locals, and with the same that it writes
  pub moves : (g : Frame → Frame) (pc : ℕ → ℕ) (h : List Local → List Local) → Moves g pc h
      → (loops more : ℕ) (waits waited : Bool) (fs : List Frame) (s t : Standing) → IsSome (level_in fs)
      → AreWell p stations loops waits fs s
      → ((c : Context) → BodyIs loops waits fs c s
      → (d : Context) × (BodyIs more waited (on_body g fs) d t × (writing_over (buffers_of p d.writing) t ≡ writing_over (buffers_of p c.writing) s)))
      → AreWell p stations more waited (on_body g fs) t
  moves g pc h m loops more waits waited [] s t some w f = absurd (false≢true some)
  moves g pc h m loops more waits waited (Loop turn ∷ fs) s t some w f = moves g pc h m (suc loops) (suc more) waits waited fs s t some w f
  moves g pc h m loops more waits waited (Body template alternative old locals level spent ∷ fs) s t some w f =
      let d = f w.0 w.1.1.0 in
      let is = m.template template alternative old locals level spent in
      let body : IsBody p stations template more waited (pc old) (h locals) level d.0 t = subst (λ (x : Frame). BodyIs more waited (x ∷ fs) d.0 t) is d.1.0 in
      let moved : AreWell p stations more waited (Body template alternative (pc old) (h locals) level spent ∷ fs) t = (
        d.0,
        (
          w.1.0,
          (
            body,
            subst (λ (x : Standing). IsTemplate p template alternative w.1.0 x) (sym d.1.1) w.1.1.1,
            (λ e. subst (λ (x : Standing). CanTake fs x.source.way) (sym d.1.1) (w.1.1.2 e)),
            w.1.1.3,
            subst (λ (x : Standing). AreWell p stations 0 true fs (over level fs (scope_over w.1.0.new_scope w.1.0.group x))) (sym d.1.1) w.1.1.4,
          ),
        ),
      ) in
      subst (λ (x : Frame). AreWell p stations more waited (x ∷ fs) t) (sym is) moved
  moves g pc h m loops more waits waited (Call procedure old locals level ∷ fs) s t some w f =
      let d = f w.0 w.1.1.0 in
      let is = m.procedure procedure old locals level in
      let body : IsBody p stations (length p.sheet.templates + procedure) more waited (pc old) (h locals) level d.0 t = subst (λ (x : Frame). BodyIs more waited (x ∷ fs) d.0 t) is d.1.0 in
      let moved : AreWell p stations more waited (Call procedure (pc old) (h locals) level ∷ fs) t =
      (d.0, (w.1.0, (body, w.1.1.1, w.1.1.2, subst (AreWell p stations 0 false fs) (sym d.1.1) w.1.1.3))) in
      subst (λ (x : Frame). AreWell p stations more waited (x ∷ fs) t) (sym is) moved
  moves g pc h m loops more waits waited (f ∷ fs) s t some w k = absurd (false≢true some)

  -- the same data at another operation, where so many loops are open instead
  pub body_moves : (g : Frame → Frame) (to : ℕ → ℕ) (h : List Local → List Local) → Moves g to h
      → (R : ℕ → ℕ → Type 0) → ((n m : ℕ) → R n m → R (suc n) (suc m))
      → (loops more : ℕ) (waits waited : Bool) (fs : List Frame) (c d : Context) (s t : Standing) (pc : ℕ) → R loops more → pc_in fs ≡ Some pc
      → BodyIs loops waits fs c s
      → ((whose n m : ℕ) (locals : List Local) (level : ℕ) → R n m → IsBody p stations whose n waits pc locals level c s
      → IsBody p stations whose m waited (to pc) (h locals) level d t)
      → BodyIs more waited (on_body g fs) d t
  body_moves g to h m R up loops more waits waited [] c d s t pc r at b f = absurd b
  body_moves g to h m R up loops more waits waited (Loop turn ∷ fs) c d s t pc r at b f =
      body_moves g to h m R up (suc loops) (suc more) waits waited fs c d s t pc (up loops more r) at b f
  body_moves g to h m R up loops more waits waited (Body template alternative old locals level spent ∷ fs) c d s t pc r at b f =
      let same : old ≡ pc = cc in
      subst (λ (x : Frame). BodyIs more waited (x ∷ fs) d t) (sym (m.template template alternative old locals level spent))
      (subst (λ n. IsBody p stations template more waited (to n) (h locals) level d t) (sym same)
      (f template loops more locals level r (subst (λ n. IsBody p stations template loops waits n locals level c s) same b)))
  body_moves g to h m R up loops more waits waited (Call procedure old locals level ∷ fs) c d s t pc r at b f =
      let same : old ≡ pc = cc in
      subst (λ (x : Frame). BodyIs more waited (x ∷ fs) d t) (sym (m.procedure procedure old locals level))
      (subst (λ n. IsBody p stations (length p.sheet.templates + procedure) more waited (to n) (h locals) level d t) (sym same)
      (f (length p.sheet.templates + procedure) loops more locals level r (subst (λ n. IsBody p stations (length p.sheet.templates + procedure) loops waits n locals level c s) same b)))
  body_moves g to h m R up loops more waits waited (f ∷ fs) c d s t pc r at b k = absurd b

  -- an innermost body has an operation
  pub some_level : (fs : List Frame) (pc : ℕ) → pc_in fs ≡ Some pc → IsSome (level_in fs)
  some_level [] pc at = absurd (cc)
  some_level (Loop turn ∷ fs) pc at = some_level fs pc at
  some_level (Body template alternative old locals level spent ∷ fs) pc at = refl
  some_level (Call procedure old locals level ∷ fs) pc at = refl
  some_level (f ∷ fs) pc at = absurd (cc)

  -- its station
  pub goes_at : (loops : ℕ) (waits : Bool) (fs : List Frame) (c : Context) (s : Standing) (pc : ℕ) → pc_in fs ≡ Some pc → BodyIs loops waits fs c s
      → Goes stations pc c
  goes_at loops waits [] c s pc at b = absurd b
  goes_at loops waits (Loop turn ∷ fs) c s pc at b = goes_at (suc loops) waits fs c s pc at b
  goes_at loops waits (Body template alternative old locals level spent ∷ fs) c s pc at b =
      let same : old ≡ pc = cc in subst (λ n. Goes stations n c) same b.there
  goes_at loops waits (Call procedure old locals level ∷ fs) c s pc at b = let same : old ≡ pc = cc in subst (λ n. Goes stations n c) same b.there
  goes_at loops waits (f ∷ fs) c s pc at b = absurd b

  -- a step of the innermost body, which writes what it wrote
  pub steps : (g : Frame → Frame) (to : ℕ → ℕ) (h : List Local → List Local) → Moves g to h
      → (R : ℕ → ℕ → Type 0) → ((n m : ℕ) → R n m → R (suc n) (suc m))
      → (loops more : ℕ) (waits waited : Bool) (fs : List Frame) (s : Standing) (pc : ℕ) → R loops more → pc_in fs ≡ Some pc → AreWell p stations loops waits fs s
      → ((c : Context) → Goes stations pc c → (d : Context) × ((d.writing ≡ c.writing)
      × ((whose n m : ℕ) (locals : List Local) (level : ℕ) → R n m → IsBody p stations whose n waits pc locals level c s
      → IsBody p stations whose m waited (to pc) (h locals) level d s)))
      → AreWell p stations more waited (on_body g fs) s
  steps g to h m R up loops more waits waited fs s pc r at w f =
      moves g to h m loops more waits waited fs s s (some_level fs pc at) w
      (λ c b. let d = f c (goes_at loops waits fs c s pc at b) in
      (d.0, (body_moves g to h m R up loops more waits waited fs c d.0 s s pc r at b d.1.1, ap (λ ns. writing_over (buffers_of p ns) s) d.1.0)))

  -- A step to an operation with the same context.
  pub goes_on : (fs : List Frame) (s : Standing) (pc to : ℕ) → pc_in fs ≡ Some pc → ((c : Context) → Goes stations pc c → Goes stations to c)
      → AreWell p stations 0 false fs s → AreWell p stations 0 false (on_body (with_pc to) fs) s
  goes_on fs s pc to at go w =
      steps (with_pc to) (λ o. to) (λ l. l) (moves_pc to) (λ n m. n ≡ m) (λ n m e. ap suc e) 0 0 false false fs s pc refl at w
      (λ c g. (
        c,
        (
          refl,
          λ whose n m locals level e b. record {
            there = go c g;
            own = b.own;
            in_loops = b.in_loops ∙ e;
            locals_fit = b.locals_fit;
            asked = λ e. absurd (false≢true e);
            level_is = b.level_is;
            writes = b.writes;
          },
        ),
      ))

  -- A jump.
  pub jumps : (fs : List Frame) (s : Standing) (pc to : ℕ) → HasStations p.code stations p.sheet → pc_in fs ≡ Some pc → slice_get p.code.ops pc ≡ Some (op.Jump to)
      → AreWell p stations 0 false fs s → AreWell p stations 0 false (on_body (with_pc to) fs) s
  jumps fs s pc to stand at is w =
      goes_on fs s pc to at (λ c g. let falls = stand.leads pc (op.Jump to) c g.0 is g.1 in (falls.0, falls.1.0)) w

  -- Locals that are taken off at the end of a list.
  pub are_long : (xs : List Local) (ks : List Kind) → AreOf xs ks → length xs ≡ length ks
  are_long [] [] h = refl
  are_long [] (k ∷ ks) h = absurd h
  are_long (x ∷ xs) [] h = absurd h
  are_long (x ∷ xs) (k ∷ ks) h = ap suc (are_long xs ks h.1)

  pub are_first : (xs : List Local) (ks gone : List Kind) → AreOf xs (ks ++ gone) → AreOf (take (length ks) xs) ks
  are_first xs [] gone h = tt
  are_first [] (k ∷ ks) gone h = absurd h
  are_first (x ∷ xs) (k ∷ ks) gone h = (h.0, are_first xs ks gone h.1)

  pub are_more : (xs : List Local) (ks : List Kind) (x : Local) (k : Kind) → AreOf xs ks → IsOf x k → AreOf (xs ++ x ∷ []) (ks ++ k ∷ [])
  are_more [] [] x k h i = (i, tt)
  are_more [] (l ∷ ks) x k h i = absurd h
  are_more (y ∷ xs) [] x k h i = absurd h
  are_more (y ∷ xs) (l ∷ ks) x k h i = (h.0, are_more xs ks x k h.1 i)

  -- none waits
  none_left : (own waiting xs : List Local) → xs ≡ own ++ waiting → length waiting ≡ 0 → xs ≡ own
  none_left own [] xs is long = is ∙ append-nil own
  none_left own (w ∷ ws) xs is long = absurd (omega (arith, long))

  pub alone : (xs : List Local) (ks : List Kind) → WaitBehind 0 xs ks → AreOf xs ks
  alone xs ks h = subst (λ l. AreOf l ks) (sym (none_left h.0 h.1.0 xs h.1.1.0 h.1.1.1)) h.1.1.2

  pub by_themselves : (xs : List Local) (ks : List Kind) → AreOf xs ks → WaitBehind 0 xs ks
  by_themselves xs ks h = (xs, ([], (sym (append-nil xs), refl, h)))

  pub drops : (fs : List Frame) (s : Standing) (pc count len : ℕ) → HasStations p.code stations p.sheet → pc_in fs ≡ Some pc
      → slice_get p.code.ops pc ≡ Some (op.Drop count) → ((c : Context) → BodyIs 0 false fs c s → len + count ≡ length c.locals)
      → AreWell p stations 0 false fs s → AreWell p stations 0 false (on_body (λ f. with_locals (take len) (with_pc (pc + 1) f)) fs) s
  drops fs s pc count len stand at is long w =
      moves (λ f. with_locals (take len) (with_pc (pc + 1) f)) (λ o. pc + 1) (take len) (moves_locals (pc + 1) (take len)) 0 0 false false fs s s (some_level fs pc at) w
      (λ c b.
      let g = goes_at 0 false fs c s pc at b in
      let o = stand.leads pc (op.Drop count) c g.0 is g.1 in
      let kinds : c.locals ≡ o.0.locals ++ o.1.0 = ap (λ (x : Context). x.locals) o.1.1.0 in
      let same : len ≡ length o.0.locals = omega (arith, long c b, ap length kinds, length-append o.0.locals o.1.0, o.1.1.1) in (
        o.0,
        (
          body_moves (λ f. with_locals (take len) (with_pc (pc + 1) f)) (λ o. pc + 1) (take len) (moves_locals (pc + 1) (take len)) (λ n m. n ≡ m) (λ n m e. ap suc e)
              0 0 false false fs c o.0 s s pc refl at b
              (λ whose n m locals level e body. record {
                there = (o.1.1.2.0, o.1.1.2.1.0);
                own = sym (ap (λ (x : Context). x.body) o.1.1.0) ∙ body.own;
                in_loops = sym (ap (λ (x : Context). x.loops) o.1.1.0) ∙ body.in_loops ∙ e;
                locals_fit =
                    by_themselves (take len locals) o.0.locals
                    (subst (λ k. AreOf (take k locals) o.0.locals) (sym same)
                    (are_first locals o.0.locals o.1.0 (subst (AreOf locals) kinds (alone locals c.locals body.locals_fit))));
                asked = λ e. absurd (false≢true e);
                level_is = body.level_is;
                writes = subst (λ ws. (outer : List ℕ) × (s.targets ≡ buffers_of p ws ++ outer)) (ap (λ (x : Context). x.writing) o.1.1.0) body.writes;
              }),
          ap (λ ws. writing_over (buffers_of p ws) s) (sym (ap (λ (x : Context). x.writing) o.1.1.0)),
        ),
      ))

  -- its locals
  pub locals_long : (loops : ℕ) (fs : List Frame) (c : Context) (s : Standing) (x : Frame) → frame_in fs ≡ Some x → BodyIs loops false fs c s
      → length (locals_of x) ≡ length c.locals
  locals_long loops [] c s x is b = absurd b
  locals_long loops (Loop turn ∷ fs) c s x is b = locals_long (suc loops) fs c s x is b
  locals_long loops (Body template alternative pc locals level spent ∷ fs) c s x is b =
      let same : Body template alternative pc locals level spent ≡ x = cc in
      ap (λ y. length (locals_of y)) (sym same) ∙ are_long locals c.locals (alone locals c.locals b.locals_fit)
  locals_long loops (Call procedure pc locals level ∷ fs) c s x is b =
      let same : Call procedure pc locals level ≡ x = cc in
      ap (λ y. length (locals_of y)) (sym same) ∙ are_long locals c.locals (alone locals c.locals b.locals_fit)
  locals_long loops (f ∷ fs) c s x is b = absurd b

-- One change behind another.

pub place_moves : (g : Frame → Frame) (pc : ℕ → ℕ) (h : List Local → List Local) → Moves g pc h → (fs : List Frame) → IsSome (level_in fs)
    → body_in (on_body g fs) ≡ body_in fs
place_moves g pc h m [] some = absurd (false≢true some)
place_moves g pc h m (Loop turn ∷ fs) some = place_moves g pc h m fs some
place_moves g pc h m (Body template alternative old locals level spent ∷ fs) some =
    ap (λ x. body_in (x ∷ fs)) (m.template template alternative old locals level spent)
place_moves g pc h m (Call procedure old locals level ∷ fs) some = ap (λ x. body_in (x ∷ fs)) (m.procedure procedure old locals level)
place_moves g pc h m (f ∷ fs) some = absurd (false≢true some)

pub frame_moves : (g : Frame → Frame) (pc : ℕ → ℕ) (h : List Local → List Local) → Moves g pc h → (fs : List Frame) (x : Frame) → IsSome (level_in fs) → frame_in fs ≡ Some x
    → frame_in (on_body g fs) ≡ Some (g x)
frame_moves g pc h m [] x some is = absurd (false≢true some)
frame_moves g pc h m (Loop turn ∷ fs) x some is = frame_moves g pc h m fs x some is
frame_moves g pc h m (Body template alternative old locals level spent ∷ fs) x some is =
    let same : Body template alternative old locals level spent ≡ x = cc in
    ap (λ y. frame_in (y ∷ fs)) (m.template template alternative old locals level spent)
    ∙ ap (λ y. Some y) (sym (m.template template alternative old locals level spent)) ∙ ap (λ y. Some (g y)) same
frame_moves g pc h m (Call procedure old locals level ∷ fs) x some is =
    let same : Call procedure old locals level ≡ x = cc in
    ap (λ y. frame_in (y ∷ fs)) (m.procedure procedure old locals level)
    ∙ ap (λ y. Some y) (sym (m.procedure procedure old locals level)) ∙ ap (λ y. Some (g y)) same
frame_moves g pc h m (f ∷ fs) x some is = absurd (false≢true some)

pub on_twice : (f g : Frame → Frame) (pc : ℕ → ℕ) (h : List Local → List Local) → Moves f pc h → (fs : List Frame) → IsSome (level_in fs)
    → on_body g (on_body f fs) ≡ on_body (λ x. g (f x)) fs
on_twice f g pc h m [] some = absurd (false≢true some)
on_twice f g pc h m (Loop turn ∷ fs) some = ap (λ l. Loop turn ∷ l) (on_twice f g pc h m fs some)
on_twice f g pc h m (Body template alternative old locals level spent ∷ fs) some =
    let is = m.template template alternative old locals level spent in
    ap (λ x. on_body g (x ∷ fs)) is ∙ ap (λ x. g x ∷ fs) (sym is)
on_twice f g pc h m (Call procedure old locals level ∷ fs) some =
    let is = m.procedure procedure old locals level in
    ap (λ x. on_body g (x ∷ fs)) is ∙ ap (λ x. g x ∷ fs) (sym is)
on_twice f g pc h m (x ∷ fs) some = absurd (false≢true some)

module _ (p : Program) (stations : List Station) where
  -- The instruction that a body waits for is there, and its values.
  pub asked_there : (loops : ℕ) (fs : List Frame) (c : Context) (s : Standing) (pc : ℕ) → pc_in fs ≡ Some pc → BodyIs p stations loops true fs c s
      → IsSome (instr_before p pc)
  asked_there loops [] c s pc at b = absurd b
  asked_there loops (Loop turn ∷ fs) c s pc at b = asked_there (suc loops) fs c s pc at b
  asked_there loops (Body template alternative old locals level spent ∷ fs) c s pc at b =
      let same : old ≡ pc = cc in subst (λ n. IsSome (instr_before p n)) same (b.asked refl)
  asked_there loops (Call procedure old locals level ∷ fs) c s pc at b =
      let same : old ≡ pc = cc in subst (λ n. IsSome (instr_before p n)) same (b.asked refl)
  asked_there loops (f ∷ fs) c s pc at b = absurd b

  pub waiting_long : (loops : ℕ) (fs : List Frame) (c : Context) (s : Standing) (x : Frame) (pc : ℕ) → frame_in fs ≡ Some x → pc_in fs ≡ Some pc
      → BodyIs p stations loops true fs c s → length (locals_of x) ≡ length c.locals + waiting_at p true pc
  waiting_long loops [] c s x pc is at b = absurd b
  waiting_long loops (Loop turn ∷ fs) c s x pc is at b = waiting_long (suc loops) fs c s x pc is at b
  waiting_long loops (Body template alternative old locals level spent ∷ fs) c s x pc is at b =
      let same : Body template alternative old locals level spent ≡ x = cc in
      let here : old ≡ pc = cc in
      let w = b.locals_fit in
      omega (arith, ap (λ y. length (locals_of y)) same, ap length w.1.1.0, length-append w.0 w.1.0, w.1.1.1, are_long p stations w.0 c.locals w.1.1.2, ap (waiting_at p true) here)
  waiting_long loops (Call procedure old locals level ∷ fs) c s x pc is at b =
      let same : Call procedure old locals level ≡ x = cc in
      let here : old ≡ pc = cc in
      let w = b.locals_fit in
      omega (arith, ap (λ y. length (locals_of y)) same, ap length w.1.1.0, length-append w.0 w.1.0, w.1.1.1, are_long p stations w.0 c.locals w.1.1.2, ap (waiting_at p true) here)
  waiting_long loops (f ∷ fs) c s x pc is at b = absurd b

  -- An instruction that a body waits for is over: the values that waited for it are taken off.
  pub resumes : (fs : List Frame) (s : Standing) (pc len : ℕ) → pc_in fs ≡ Some pc → AreWell p stations 0 true fs s
      → ((c : Context) → BodyIs p stations 0 true fs c s → len ≡ length c.locals)
      → AreWell p stations 0 false (on_body (with_locals (take len)) fs) s
  resumes fs s pc len at w long =
      moves p stations (with_locals (take len)) (λ o. o) (take len) (moves_only (take len)) 0 0 true false fs s s (some_level p stations fs pc at) w
      (λ c b. (
        c,
        (
          body_moves p stations (with_locals (take len)) (λ o. o) (take len) (moves_only (take len)) (λ n m. n ≡ m) (λ n m e. ap suc e)
              0 0 true false fs c c s s pc refl at b
              (λ whose n m locals level e body.
              let v = body.locals_fit in
              let alone_now : take len locals ≡ v.0 =
              ap (λ k. take k locals) (long c b ∙ sym (are_long p stations v.0 c.locals v.1.1.2)) ∙ ap (take (length v.0)) v.1.1.0 ∙ take-append_seam v.0 v.1.0 in
              record {
                there = body.there;
                own = body.own;
                in_loops = body.in_loops ∙ e;
                locals_fit = by_themselves p stations (take len locals) c.locals (subst (λ l. AreOf l c.locals) (sym alone_now) v.1.1.2);
                asked = λ e. absurd (false≢true e);
                level_is = body.level_is;
                writes = body.writes;
              }),
          refl,
        ),
      ))
