-- What is left at each operation is what it does, and then what is left where it leads.
use Rattle.std.proofs.Common.{◌≡◌, inl, inr, ℕ, zero, suc, ◌+◌, ◌<◌, ◌≤◌, List, [], ◌∷◌, ◌++◌, length, map, Some, refl, ap, sym, subst, ◌∙◌, arith, append_assoc}
use Rattle.std.proofs.lemmas.Bool.{cases_lt}
use Rattle.std.proofs.lemmas.Option.{slice_get-map}
use Rattle.std.specs.List.{slice_get}
use Rattle.std.specs.Option.{option_map, option_map_or}
use Rattle.instr_code.specs.Acts.{Doing, Plain, act_by, act_of, acts, acts_within, before, beginning, branch_acts, choice_act, choices_act, closing, left_of_branches, left_to_take_off, listed, loop_act, round_act, taken_off, turn_by, turn_of, turns}
use Rattle.instr_code.specs.Bare.{bare}
use Rattle.instr_code.specs.Bodies.{joined}
use Rattle.instr_code.specs.Emitting.{inner_of, inner_ops, listed as lists_in}
use Rattle.instr_code.specs.Layout.{branches, choice_ops, choices_ops, list_piece, piece_of, pieces, round_ops}
use Rattle.instr_code.specs.Piece.{Piece, dropped, in_order}
use Rattle.instr_code.specs.Running.{left_in, operated}
use Rattle.instr_code.specs.Steps.{Steps, Verdict, Holds, Fails, Stops, decided, renamed}
use Rattle.instr_code.specs.declared.code.Op.{Op}
use Rattle.instr_code.specs.declared.code.Op.TheVariants as op
use Rattle.instr_code.specs.declared.inner.Inner.{Inner}
use Rattle.instr_code.specs.declared.inner.Inner.TheVariants as inside
use Rattle.instr_code.proofs.Acts.{acts-locals, agree, within}
use Rattle.instr_code.proofs.Counting.{count_is, list_count}
use Rattle.instr_code.proofs.Forms.{children_are, inner-size, unrolled}
use Rattle.instr_code.proofs.Lengths.{act_long, acts_long, list_long}
use Rattle.instr_code.proofs.Sized.{list_sized, piece_sized, sized}
use Rattle.instr_code.proofs.Standing.{Stands, stands_first, stands_here, stands_next, stands_second}
use Rattle.instr_code.proofs.Stepping.{In_loop, Jumps, LeadsOn, On_jump, Onward, Step, Turning, Turns}
use Rattle.sheet_model.specs.Body.{all_of, body_nesting, children, nesting}
use Rattle.sheet_model.specs.declared.instr.Instr.{Instr}
use Rattle.sheet_model.proofs.Nests.{body_nesting-append, nesting_is}
use Rattle.sheet_model.proofs.Searches.{all_of-append, all_of-single}
use Rattle.stx_base.specs.Course.{Ret, Halt, and_then}
use Rattle.stx_base.proofs.Course.{and_then_assoc, and_then_says, funext}

module _ {Q S O E : Type 0} where
  pub before_before : (x y k : Doing Q S O E) → before (before x y) k ≡ before x (before y k)
  before_before x y k = funext (λ st. and_then_assoc (x st) y k)

  pub decided_then : (v : Verdict S O E) (f g k : Doing Q S O E) → and_then (decided v f g) k ≡ decided v (before f k) (before g k)
  decided_then (Holds os st) f g k = and_then_says os (f st) k
  decided_then (Fails os st) f g k = and_then_says os (g st) k
  decided_then (Stops os e) f g k = and_then_says os (Halt e) k

  pub decided_same : (v : Verdict S O E) {f g h j : Doing Q S O E} → f ≡ h → g ≡ j → decided v f g ≡ decided v h j
  decided_same v {f} {g} {h} {j} a b = ap (λ f. decided v f g) a ∙ ap (λ g. decided v h g) b

  pub at : {f g : Doing Q S O E} → f ≡ g → (st : S) → f st ≡ g st
  at e st = ap (λ (h : Doing Q S O E). h st) e

module _ {Q S O E : Type 0} (steps : Steps Q S O E) (instrs : List Instr) (ops : List Op) (lefts : List (Doing Q S O E)) where
  abbrev pub here : ℕ → Doing Q S O E
  here p = left_in steps lefts p

  -- the instructions as code has them
  abbrev pub all : List Instr
  all = map bare instrs

  abbrev pub Stepped : ℕ → Type 0
  Stepped p = Step steps all ops here p

  pub found : (x : Doing Q S O E) (xs : List (Doing Q S O E)) {p : ℕ} → Stands lefts (x ∷ xs) p → here p ≡ x
  found x xs s = ap (λ c. option_map_or (λ (x : Doing Q S O E). x) c (λ st. Ret st)) (stands_here x xs s)

  -- each place of a range is a step
  abbrev pub Steady : (p e : ℕ) → Type 0
  Steady p e = (q : ℕ) → p ≤ q → q < e → Stepped q

  pub steady_none : (p e : ℕ) → e ≤ p → Steady p e
  steady_none p e none q from to = absurd (omega arith)

  pub steady_both : (p m e : ℕ) → Steady p m → Steady m e → Steady p e
  steady_both p m e a b q from to = elim (cases_lt q m) [ inl lt ↦ a q from lt | inr le ↦ b q le to ]

  pub steady_last : (p e : ℕ) → e ≡ p + 1 → Stepped p → Steady p e
  steady_last p e end s q from to = let same : p ≡ q = omega arith in subst (λ q. Stepped q) same s

  pub steady_then : (p e : ℕ) → Stepped p → Steady (p + 1) e → Steady p e
  steady_then p e s rest = steady_both p (p + 1) e (steady_last p (p + 1) refl s) rest

  -- An operation that leads on, where this is left.
  pub onward : (p : ℕ) (o : Op) (os : List Op) (x : Doing Q S O E) → Stands ops (o ∷ os) p → here p ≡ x → ((st : S) → x st ≡ operated steps all Plain here o p st) → LeadsOn o p
      → Stepped p
  onward p o os x s is same on = Onward o (stands_here o os s) (λ st. at is st ∙ same st) on

  -- Where something is done by the code of a range, with what is left behind it.
  pub record Runs (does behind : Doing Q S O E) (p e : ℕ) : Type 0 where
    pub enters : here p ≡ before does behind
    pub steady : Steady p e

  pub record Ends (behind : Doing Q S O E) (c p : ℕ) : Type 0 where
    pub enters : here p ≡ (λ st. behind (taken_off steps c st))
    pub steady : Steady p (p + (dropped c).size)

  -- the end of a list
  ends : (c m p : ℕ) (k : Doing Q S O E) → Stands ops ((dropped c).ops m p) p → Stands lefts (left_to_take_off steps c k) p → here (p + (dropped c).size) ≡ k → Ends k c p
  ends zero m p k os ls exit = record {
    enters = ap here (omega arith) ∙ exit;
    steady = steady_none p (p + 0) (omega arith);
  }
  ends (suc c) m p k os ls exit =
      let left : Doing Q S O E = λ st. k (steps.drops (suc c) st) in
      let is : here p ≡ left = found left [] ls in
      record {
        enters = is;
        steady = steady_last p (p + 1) refl (onward p (op.Drop (suc c)) [] left os is (λ st. sym (at exit (steps.drops (suc c) st))) tt);
      }

  -- lists that nest so deep at most
  abbrev pub ListsTo : ℕ → Type 0
  ListsTo n =
      (list : List Instr) → body_nesting list ≤ n → (m p : ℕ) (k : Doing Q S O E) → Stands ops ((in_order (pieces list)).ops m p) p
      → Stands lefts ((acts_within steps n list).left k) p → Stands instrs (all_of list) m → here (p + (in_order (pieces list)).size) ≡ k
      → Runs (acts_within steps n list).does k p (p + (in_order (pieces list)).size)

  -- a list inside an instruction
  pub list_runs : (n own : ℕ) (list : List Instr) → ListsTo n → body_nesting list ≤ n → (m p : ℕ) (k : Doing Q S O E) → Stands ops ((list_piece own list).ops m p) p
      → Stands lefts ((listed steps own (acts_within steps n list)).left k) p → Stands instrs (all_of list) m → here (p + (list_piece own list).size) ≡ k
      → Runs (listed steps own (acts_within steps n list)).does k p (p + (list_piece own list).size)
  list_runs n own list to deep m p k os ls is exit =
      let x = in_order (pieces list) in
      let a = acts_within steps n list in
      let c = x.locals + own in
      let same : a.locals + own ≡ c = ap (λ l. l + own) (acts-locals steps n list deep) in
      let h : Doing Q S O E = λ st. k (taken_off steps c st) in
      let end_op = (dropped c).ops (m + x.numbers) (p + x.size) in
      let left : Stands lefts (a.left h ++ left_to_take_off steps c k) p =
      subst (λ c. Stands lefts (a.left (λ st. k (taken_off steps c st)) ++ left_to_take_off steps c k) p) same ls in
      let off : p + x.size + (dropped c).size ≡ p + (x.size + (dropped c).size) = omega arith in
      let end : Ends k c (p + x.size) =
      ends c (m + x.numbers) (p + x.size) k (stands_second (x.ops m p) end_op x.size ((sized list).long m p) os)
      (stands_second (a.left h) (left_to_take_off steps c k) x.size (acts_long steps n list deep h) left) (ap here off ∙ exit) in
      let body : Runs a.does h p (p + x.size) =
      to list deep m p h (stands_first (x.ops m p) end_op os) (stands_first (a.left h) (left_to_take_off steps c k) left) is end.enters in
      subst (λ c. Runs (before a.does (λ st. Ret (taken_off steps c st))) k p (p + (list_piece own list).size)) (sym same)
      (record {
        enters = body.enters ∙ sym (before_before a.does (λ st. Ret (taken_off steps c st)) k);
        steady = steady_both p (p + x.size) (p + (list_piece own list).size) body.steady (subst (λ e. Steady (p + x.size) e) off end.steady);
      })

  -- the instruction with a number, as code has it
  numbered : (i : Instr) (is : List Instr) {m : ℕ} → Stands instrs (i ∷ is) m → slice_get all m ≡ Some (bare i)
  numbered i is {m} s = slice_get-map bare instrs m ∙ ap (λ c. option_map bare c) (stands_here i is s)

  by_number : {A : Type 0} (f : Instr → A) (d : A) (i : Instr) (is : List Instr) {m : ℕ} → Stands instrs (i ∷ is) m → f (bare i) ≡ option_map_or f (slice_get all m) d
  by_number f d i is s = sym (ap (λ c. option_map_or f c d) (numbered i is s))

  -- A single step.
  single_runs : (i : Instr) (is : List Instr) (m p : ℕ) (k : Doing Q S O E) → Stands ops (op.Do m ∷ []) p
      → Stands lefts (before (λ st. renamed Plain (steps.single (bare i) st)) k ∷ []) p → Stands instrs (i ∷ is) m → here (p + 1) ≡ k
      → Runs (λ st. renamed Plain (steps.single (bare i) st)) k p (p + 1)
  single_runs i is m p k os ls ns exit =
      let does : Doing Q S O E = λ st. renamed Plain (steps.single (bare i) st) in
      let enters = found (before does k) [] ls in
      record {
        enters = enters;
        steady = steady_last p (p + 1) refl
            (onward p (op.Do m) [] (before does k) os enters
            (λ st. ap (λ f. and_then (does st) f) (sym exit) ∙ by_number (λ x. and_then (renamed Plain (steps.single x st)) (here (p + 1))) (here (p + 1) st) i is ns) tt);
      }

  -- the numbers of pieces behind an operation
  renumbered : (x : Piece) (rest : List Op) (m n p : ℕ) → m ≡ n → Stands ops (x.ops m p ++ rest) p → Stands ops (x.ops n p ++ rest) p
  renumbered x rest m n p e s = subst (λ m. Stands ops (x.ops m p ++ rest) p) e s

  -- An instruction round a list.
  round_runs : (n : ℕ) (body : List Instr) (i : Instr) → ListsTo n → body_nesting body ≤ n → (m p : ℕ) (k : Doing Q S O E)
      → Stands ops ((round_ops (list_piece 0 body) m p).ops (m + 1) p) p → Stands lefts ((round_act steps (bare i) (listed steps 0 (acts_within steps n body))).left k) p
      → Stands instrs (i ∷ all_of body) m → here (p + (round_ops (list_piece 0 body) m p).size) ≡ k
      → Runs ((round_act steps (bare i) (listed steps 0 (acts_within steps n body))).does) k p (p + (round_ops (list_piece 0 body) m p).size)
  round_runs n body i to deep m p k os ls is exit =
      let b = list_piece 0 body in
      let a = listed steps 0 (acts_within steps n body) in
      let close = before (closing steps (bare i)) k in
      let does = (round_act steps (bare i) a).does in
      let q = p + 1 + b.size in
      let far = p + b.size + 2 in
      let end = p + (1 + (b.size + 1)) in
      let o = op.Open m far in
      let opened = b.ops (m + 1 + 0) (p + 1) ++ op.Close m ∷ [] in
      let os1 : Stands ops (b.ops (m + 1) (p + 1) ++ op.Close m ∷ []) (p + 1) =
      renumbered b (op.Close m ∷ []) (m + 1 + 0) (m + 1) (p + 1) (omega arith) (stands_next o opened os) in
      let ls1 : Stands lefts (a.left close ++ close ∷ []) (p + 1) = stands_next (before does k) (a.left close ++ close ∷ []) ls in
      let osc : Stands ops (op.Close m ∷ []) q = stands_second (b.ops (m + 1) (p + 1)) (op.Close m ∷ []) b.size ((list_sized 0 body).long (m + 1) (p + 1)) os1 in
      let lsc : Stands lefts (close ∷ []) q = stands_second (a.left close) (close ∷ []) b.size (list_long steps n 0 body deep close) ls1 in
      let closes : here q ≡ close = found close [] lsc in
      let inner : Runs a.does close (p + 1) q =
      list_runs n 0 body to deep (m + 1) (p + 1) close (stands_first (b.ops (m + 1) (p + 1)) (op.Close m ∷ []) os1) (stands_first (a.left close) (close ∷ []) ls1)
      (stands_next i (all_of body) is) closes in
      let behind : here (q + 1) ≡ k = ap here (omega arith) ∙ exit in
      let out : here far ≡ k = ap here (omega arith) ∙ exit in
      let closed : Stepped q =
      onward q (op.Close m) [] close osc closes (λ st. ap (λ f. and_then (closing steps (bare i) st) f) (sym behind) ∙ by_number (λ x. and_then (renamed Plain (steps.closes x st)) (here (q + 1))) (here (q + 1) st) i (all_of body) is) tt in
      let enters : here p ≡ before does k = found (before does k) (a.left close ++ close ∷ []) ls in
      let taken : before (before a.does (closing steps (bare i))) k ≡ here (p + 1) = before_before a.does (closing steps (bare i)) k ∙ sym inner.enters in
      let opens : Stepped p =
      onward p o opened (before does k) os enters
      (λ st.
      decided_then (steps.opens (bare i) st) (before a.does (closing steps (bare i))) (λ st. Ret st) k
      ∙ decided_same (steps.opens (bare i) st) taken (sym out)
      ∙ by_number (λ x. decided (steps.opens x st) (here (p + 1)) (here far)) (here (p + 1) st) i (all_of body) is) (omega arith) in
      record {
        enters = enters;
        steady = steady_then p end opens (steady_both (p + 1) q end inner.steady (steady_last q end (omega arith) closed));
      }

  -- Two lists, of which a test chooses.
  choice_runs : (n : ℕ) (body other : List Instr) (i : Instr) → ListsTo n → body_nesting body ≤ n → body_nesting other ≤ n → (m p : ℕ) (k : Doing Q S O E)
      → Stands ops ((choice_ops (list_piece 0 body) (list_piece 0 other) m p).ops (m + 1) p) p
      → Stands lefts ((choice_act steps (bare i) (listed steps 0 (acts_within steps n body)) (listed steps 0 (acts_within steps n other))).left k) p
      → Stands instrs (i ∷ all_of (body ++ other)) m
      → here (p + (choice_ops (list_piece 0 body) (list_piece 0 other) m p).size) ≡ k
      → Runs ((choice_act steps (bare i) (listed steps 0 (acts_within steps n body)) (listed steps 0 (acts_within steps n other))).does) k p (p + (choice_ops (list_piece 0 body) (list_piece 0 other) m p).size)
  choice_runs n body other i to deep low m p k os ls is exit =
      let b = list_piece 0 body in
      let c = list_piece 0 other in
      let a = listed steps 0 (acts_within steps n body) in
      let e = listed steps 0 (acts_within steps n other) in
      let does = (choice_act steps (bare i) a e).does in
      let q = p + 1 + b.size in
      let m2 = m + 1 + b.numbers in
      let to_other = p + b.size + 2 in
      let far = p + b.size + 2 + c.size in
      let end = p + (1 + (b.size + (1 + c.size))) in
      let t = op.Test m 0 to_other in
      let j = op.Jump far in
      let others = c.ops (m + 1 + 0 + b.numbers + 0) (q + 1) in
      let os1 : Stands ops (b.ops (m + 1) (p + 1) ++ j ∷ others) (p + 1) =
      renumbered b (j ∷ others) (m + 1 + 0) (m + 1) (p + 1) (omega arith) (stands_next t (b.ops (m + 1 + 0) (p + 1) ++ j ∷ others) os) in
      let ls1 : Stands lefts (a.left k ++ k ∷ e.left k) (p + 1) = stands_next (before does k) (a.left k ++ k ∷ e.left k) ls in
      let os2 : Stands ops (j ∷ others) q = stands_second (b.ops (m + 1) (p + 1)) (j ∷ others) b.size ((list_sized 0 body).long (m + 1) (p + 1)) os1 in
      let ls2 : Stands lefts (k ∷ e.left k) q = stands_second (a.left k) (k ∷ e.left k) b.size (list_long steps n 0 body deep k) ls1 in
      let os3 : Stands ops (c.ops m2 (q + 1)) (q + 1) = subst (λ z. Stands ops (c.ops z (q + 1)) (q + 1)) (omega arith) (stands_next j others os2) in
      let ls3 : Stands lefts (e.left k) (q + 1) = stands_next k (e.left k) ls2 in
      let is1 : Stands instrs (all_of body ++ all_of other) (m + 1) =
      subst (λ l. Stands instrs l (m + 1)) (all_of-append body other) (stands_next i (all_of (body ++ other)) is) in
      let is3 : Stands instrs (all_of other) m2 =
      stands_second (all_of body) (all_of other) b.numbers (list_count 0 body) is1 in
      let left : here q ≡ k = found k (e.left k) ls2 in
      let inner : Runs a.does k (p + 1) q =
      list_runs n 0 body to deep (m + 1) (p + 1) k (stands_first (b.ops (m + 1) (p + 1)) (j ∷ others) os1) (stands_first (a.left k) (k ∷ e.left k) ls1)
      (stands_first (all_of body) (all_of other) is1) left in
      let rest : Runs e.does k (q + 1) (q + 1 + c.size) = list_runs n 0 other to low m2 (q + 1) k os3 ls3 is3 (ap here (omega arith) ∙ exit) in
      let out : here far ≡ k = ap here (omega arith) ∙ exit in
      let jumps : Stepped q = onward q j others k os2 left (λ st. sym (at out st)) (omega arith) in
      let enters : here p ≡ before does k = found (before does k) (a.left k ++ k ∷ e.left k) ls in
      let fails : before e.does k ≡ here to_other = sym rest.enters ∙ ap here (omega arith) in
      let tests : Stepped p =
      onward p t (b.ops (m + 1 + 0) (p + 1) ++ j ∷ others) (before does k) os enters
      (λ st.
      decided_then (steps.test (bare i) 0 st) a.does e.does k
      ∙ decided_same (steps.test (bare i) 0 st) (sym inner.enters) fails
      ∙ by_number (λ x. decided (steps.test x 0 st) (here (p + 1)) (here to_other)) (here (p + 1) st) i (all_of (body ++ other)) is) (omega arith) in
      let all : q + 1 + c.size ≡ end = omega arith in
      record {
        enters = enters;
        steady = steady_then p end tests (steady_both (p + 1) q end inner.steady (steady_then q end jumps (subst (λ z. Steady (q + 1) z) all rest.steady)));
      }

  -- Where branches leave: a jump on to what is behind them all.
  record Leaves (k : Doing Q S O E) (out far : ℕ) : Type 0 where
    jump : slice_get ops out ≡ Some (op.Jump far)
    there : here out ≡ k
    behind : here far ≡ k

  -- Branches, and the list behind them.
  branches_run : (n v out far : ℕ) (i : Instr) (is : List Instr) (bodies : List (List Instr)) (other : List Instr) → Stands instrs (i ∷ is) v → ListsTo n → body_nesting (joined bodies) ≤ n → body_nesting other ≤ n
      → (arm m p y z : ℕ) (k : Doing Q S O E) → Leaves k out far
      → y ≡ m + (branches v arm out p (map (list_piece 0) bodies)).numbers → z ≡ p + (branches v arm out p (map (list_piece 0) bodies)).size
      → Stands ops ((branches v arm out p (map (list_piece 0) bodies)).ops m p ++ (list_piece 0 other).ops y z) p
      → Stands lefts (left_of_branches steps (bare i) arm (map (λ b. listed steps 0 (acts_within steps n b)) bodies) (listed steps 0 (acts_within steps n other)) k) p
      → Stands instrs (all_of (joined bodies ++ other)) m → here (z + (list_piece 0 other).size) ≡ k → z + (list_piece 0 other).size ≤ far
      → Runs (branch_acts steps (bare i) arm (map (λ b. listed steps 0 (acts_within steps n b)) bodies) (listed steps 0 (acts_within steps n other))) k p (z + (list_piece 0 other).size)
  branches_run n v out far i is [] other at_v to deep low arm m p y z k leaves ey ez os ls ns exit near =
      let c = list_piece 0 other in
      let here_z : z ≡ p = omega arith in
      let here_y : y ≡ m = omega arith in
      let os1 : Stands ops (c.ops m p) p = subst (λ y. Stands ops (c.ops y p) p) here_y (subst (λ z. Stands ops (c.ops y z) p) here_z os) in
      subst (λ z. Runs (listed steps 0 (acts_within steps n other)).does k p (z + c.size)) (sym here_z)
      (list_runs n 0 other to low m p k os1 ls ns (ap (λ z. here (z + c.size)) (sym here_z) ∙ exit))
  branches_run n v out far i is (l ∷ ls) other at_v to deep low arm m p y z k leaves ey ez os lf ns exit near =
      let b = list_piece 0 l in
      let c = list_piece 0 other in
      let a = listed steps 0 (acts_within steps n l) in
      let e = listed steps 0 (acts_within steps n other) in
      let bs = map (list_piece 0) ls in
      let ws = map (λ b. listed steps 0 (acts_within steps n b)) ls in
      let q = p + 1 + b.size in
      let m2 = m + b.numbers in
      let next = p + b.size + 2 in
      let r = branches v (suc arm) out next bs in
      let t = op.Test v arm next in
      let j = op.Jump out in
      let does = branch_acts steps (bare i) arm (a ∷ ws) e in
      let more = branch_acts steps (bare i) (suc arm) ws e in
      let mores = left_of_branches steps (bare i) (suc arm) ws e k in
      let end = z + c.size in
      let parted = body_nesting-append l (joined ls) in
      let others = c.ops y z in
      let rests = r.ops (m + 0 + b.numbers + 0) (q + 1) in
      let b_ops = b.ops (m + 0) (p + 1) in
      let os0 : Stands ops (b_ops ++ (j ∷ (rests ++ others))) (p + 1) =
      subst (λ l. Stands ops l (p + 1)) (append_assoc b_ops (j ∷ rests) others) (stands_next t ((b_ops ++ j ∷ rests) ++ others) os) in
      let os1 : Stands ops (b.ops m (p + 1) ++ (j ∷ (rests ++ others))) (p + 1) = renumbered b (j ∷ (rests ++ others)) (m + 0) m (p + 1) (omega arith) os0 in
      let ls1 : Stands lefts (a.left k ++ k ∷ mores) (p + 1) = stands_next (before does k) (a.left k ++ k ∷ mores) lf in
      let os2 : Stands ops (j ∷ (rests ++ others)) q = stands_second (b.ops m (p + 1)) (j ∷ (rests ++ others)) b.size ((list_sized 0 l).long m (p + 1)) os1 in
      let ls2 : Stands lefts (k ∷ mores) q = stands_second (a.left k) (k ∷ mores) b.size (list_long steps n 0 l (omega arith) k) ls1 in
      let on : q + 1 ≡ next = omega arith in
      let same : m + 0 + b.numbers + 0 ≡ m2 = omega arith in
      let os3 : Stands ops (r.ops m2 next ++ others) next =
      subst (λ q. Stands ops (r.ops m2 q ++ others) q) on (subst (λ m. Stands ops (r.ops m (q + 1) ++ others) (q + 1)) same (stands_next j (rests ++ others) os2)) in
      let ls3 : Stands lefts mores next = subst (λ q. Stands lefts mores q) on (stands_next k mores ls2) in
      let joint : all_of ((l ++ joined ls) ++ other) ≡ all_of l ++ all_of (joined ls ++ other) =
      ap all_of (append_assoc l (joined ls) other) ∙ all_of-append l (joined ls ++ other) in
      let is1 : Stands instrs (all_of l ++ all_of (joined ls ++ other)) m = subst (λ l. Stands instrs l m) joint ns in
      let is3 : Stands instrs (all_of (joined ls ++ other)) m2 =
      stands_second (all_of l) (all_of (joined ls ++ other)) b.numbers (list_count 0 l) is1 in
      let left : here q ≡ k = found k mores ls2 in
      let inner : Runs a.does k (p + 1) q =
      list_runs n 0 l to (omega arith) m (p + 1) k (stands_first (b.ops m (p + 1)) (j ∷ (rests ++ others)) os1) (stands_first (a.left k) (k ∷ mores) ls1)
      (stands_first (all_of l) (all_of (joined ls ++ other)) is1) left in
      let rest : Runs more k next end =
      branches_run n v out far i is ls other at_v to (omega arith) low (suc arm) m2 next y z k leaves (omega arith) (omega arith) os3 ls3 is3 exit near in
      let jumps : Stepped q =
      Jumps out (stands_here j (rests ++ others) os2) (λ st. at left st ∙ sym (at leaves.there st))
      (On_jump far leaves.jump (omega arith) (λ st. at leaves.there st ∙ sym (at leaves.behind st))) in
      let enters : here p ≡ before does k = found (before does k) (a.left k ++ k ∷ mores) lf in
      let tests : Stepped p =
      onward p t ((b_ops ++ j ∷ rests) ++ others) (before does k) os enters
      (λ st.
      decided_then (steps.test (bare i) arm st) a.does more k
      ∙ decided_same (steps.test (bare i) arm st) (sym inner.enters) (sym rest.enters)
      ∙ by_number (λ x. decided (steps.test x arm st) (here (p + 1)) (here next)) (here (p + 1) st) i is at_v) (omega arith) in
      let further : Steady (q + 1) end = subst (λ q. Steady q end) (sym on) rest.steady in
      record { enters = enters; steady = steady_then p end tests (steady_both (p + 1) q end inner.steady (steady_then q end jumps further)) }

  -- Branches, of which the first is run whose test holds.
  choices_run : (n : ℕ) (bodies : List (List Instr)) (other : List Instr) (i : Instr) → ListsTo n → body_nesting (joined bodies) ≤ n → body_nesting other ≤ n → (m p : ℕ) (k : Doing Q S O E)
      → Stands ops ((choices_ops (map (list_piece 0) bodies) (list_piece 0 other) m p).ops (m + 1) p) p
      → Stands lefts ((choices_act steps (bare i) (map (λ b. listed steps 0 (acts_within steps n b)) bodies) (listed steps 0 (acts_within steps n other))).left k) p
      → Stands instrs (i ∷ all_of (joined bodies ++ other)) m
      → here (p + (choices_ops (map (list_piece 0) bodies) (list_piece 0 other) m p).size) ≡ k
      → Runs (choices_act steps (bare i) (map (λ b. listed steps 0 (acts_within steps n b)) bodies) (listed steps 0 (acts_within steps n other))).does k p
      (p + (choices_ops (map (list_piece 0) bodies) (list_piece 0 other) m p).size)
  choices_run n bodies other i to deep low m p k os ls is exit =
      let c = list_piece 0 other in
      let e = listed steps 0 (acts_within steps n other) in
      let bs = map (list_piece 0) bodies in
      let ws = map (λ b. listed steps 0 (acts_within steps n b)) bodies in
      let every = branches m 0 (p + 2) (p + 3) bs in
      let far = p + 3 + every.size + c.size in
      let end = p + (1 + (1 + (1 + (every.size + c.size)))) in
      let does = (choices_act steps (bare i) ws e).does in
      let begins = beginning steps (bare i) in
      let chosen = branch_acts steps (bare i) 0 ws e in
      let choosing = left_of_branches steps (bare i) 0 ws e k in
      let b = op.Begin m in
      let j1 = op.Jump (p + 3) in
      let j2 = op.Jump far in
      let y0 = m + 1 + 0 + 0 + 0 in
      let z0 = p + 1 + 1 + 1 in
      let others = every.ops y0 z0 ++ c.ops (y0 + every.numbers) (z0 + every.size) in
      let os1 : Stands ops (j1 ∷ (j2 ∷ others)) (p + 1) = stands_next b (j1 ∷ (j2 ∷ others)) os in
      let os2 : Stands ops (j2 ∷ others) (p + 1 + 1) = stands_next j1 (j2 ∷ others) os1 in
      let os3 : Stands ops others z0 = stands_next j2 others os2 in
      let ls1 : Stands lefts (before chosen k ∷ (k ∷ choosing)) (p + 1) = stands_next (before does k) (before chosen k ∷ (k ∷ choosing)) ls in
      let ls2 : Stands lefts (k ∷ choosing) (p + 1 + 1) = stands_next (before chosen k) (k ∷ choosing) ls1 in
      let ls3 : Stands lefts choosing z0 = stands_next k choosing ls2 in
      let same_y : y0 ≡ m + 1 = omega arith in
      let same_z : z0 ≡ p + 3 = omega arith in
      let y = m + 1 + every.numbers in
      let z = p + 3 + every.size in
      let os4 : Stands ops (every.ops (m + 1) (p + 3) ++ c.ops y z) (p + 3) =
      subst (λ v. Stands ops (every.ops v (p + 3) ++ c.ops (v + every.numbers) z) (p + 3)) same_y (subst (λ v. Stands ops (every.ops y0 v ++ c.ops (y0 + every.numbers) (v + every.size)) v) same_z os3) in
      let ls4 : Stands lefts choosing (p + 3) = subst (λ v. Stands lefts choosing v) same_z ls3 in
      let out : here far ≡ k = ap here (omega arith) ∙ exit in
      let left : here (p + 1 + 1) ≡ k = found k choosing ls2 in
      let two : p + 1 + 1 ≡ p + 2 = omega arith in
      let leaves : Leaves k (p + 2) far = record {
        jump = ap (λ v. slice_get ops v) (sym two) ∙ stands_here j2 others os2;
        there = ap here (sym two) ∙ left;
        behind = out;
      } in
      let rest : Runs chosen k (p + 3) (z + c.size) =
      branches_run n m (p + 2) far i (all_of (joined bodies ++ other)) bodies other is to deep low 0 (m + 1) (p + 3) y z k leaves refl refl os4 ls4 (stands_next i (all_of (joined bodies ++ other)) is) out (omega arith) in
      let enters : here p ≡ before does k = found (before does k) (before chosen k ∷ (k ∷ choosing)) ls in
      let first : here (p + 1) ≡ before chosen k = found (before chosen k) (k ∷ choosing) ls1 in
      let begun : Stepped p =
      onward p b (j1 ∷ (j2 ∷ others)) (before does k) os enters
      (λ st.
      and_then_assoc (begins st) chosen k
      ∙ ap (λ f. and_then (begins st) f) (sym first)
      ∙ by_number (λ x. and_then (renamed Plain (steps.begins x st)) (here (p + 1))) (here (p + 1) st) i (all_of (joined bodies ++ other)) is) tt in
      let jumped : Stepped (p + 1) =
      onward (p + 1) j1 (j2 ∷ others) (before chosen k) os1 first (λ st. sym (at rest.enters st)) (omega arith) in
      let left_out : Stepped (p + 1 + 1) = onward (p + 1 + 1) j2 others k os2 left (λ st. sym (at out st)) (omega arith) in
      let further : Steady (p + 1 + 1 + 1) end =
      subst (λ v. Steady v end) (sym same_z) (let last : z + c.size ≡ end = omega arith in subst (λ v. Steady (p + 3) v) last rest.steady) in
      record { enters = enters; steady = steady_then p end begun (steady_then (p + 1) end jumped (steady_then (p + 1 + 1) end left_out further)) }

  -- A loop, whose next turn an operation takes.
  loop_runs : (n own : ℕ) (body : List Instr) (i : Instr) → ListsTo n → body_nesting body ≤ n → (m p : ℕ) (k : Doing Q S O E) (o : Op) (v : S → Verdict S O E)
      → ((st : S) → operated steps all Plain here o (p + 1) st ≡ decided (v st) (here (p + 1 + 1)) (here (p + (list_piece own body).size + 3)))
      → ((st : S) → turn_of steps i st ≡ decided (v st) (before (listed steps own (acts steps body)).does (turns steps i)) (λ st. Ret st))
      → Stands ops (op.Begin m ∷ (o ∷ ((list_piece own body).ops (m + 1 + 0 + 0) (p + 1 + 1) ++ op.Jump (p + 1) ∷ []))) p
      → Stands lefts ((loop_act steps i (listed steps own (acts_within steps n body))).left k) p
      → Stands instrs (i ∷ all_of body) m → here (p + (1 + (1 + ((list_piece own body).size + 1)))) ≡ k
      → Runs (loop_act steps i (listed steps own (acts_within steps n body))).does k p (p + (1 + (1 + ((list_piece own body).size + 1))))
  loop_runs n own body i to deep m p k o v operates turns_so os ls is exit =
      let b = list_piece own body in
      let a = listed steps own (acts_within steps n body) in
      let again = before (turns steps i) k in
      let does = (loop_act steps i a).does in
      let begins = beginning steps (bare i) in
      let q = p + 1 + 1 + b.size in
      let end = p + (1 + (1 + (b.size + 1))) in
      let g = op.Begin m in
      let j = op.Jump (p + 1) in
      let body_ops = b.ops (m + 1 + 0 + 0) (p + 1 + 1) ++ j ∷ [] in
      let body_left = a.left again ++ again ∷ [] in
      let os1 : Stands ops (o ∷ body_ops) (p + 1) = stands_next g (o ∷ body_ops) os in
      let ls1 : Stands lefts (again ∷ body_left) (p + 1) = stands_next (before does k) (again ∷ body_left) ls in
      let os2 : Stands ops (b.ops (m + 1) (p + 1 + 1) ++ j ∷ []) (p + 1 + 1) =
      renumbered b (j ∷ []) (m + 1 + 0 + 0) (m + 1) (p + 1 + 1) (omega arith) (stands_next o body_ops os1) in
      let ls2 : Stands lefts body_left (p + 1 + 1) = stands_next again body_left ls1 in
      let osj : Stands ops (j ∷ []) q = stands_second (b.ops (m + 1) (p + 1 + 1)) (j ∷ []) b.size ((list_sized own body).long (m + 1) (p + 1 + 1)) os2 in
      let lsj : Stands lefts (again ∷ []) q = stands_second (a.left again) (again ∷ []) b.size (list_long steps n own body deep again) ls2 in
      let back : here q ≡ again = found again [] lsj in
      let first : here (p + 1) ≡ again = found again body_left ls1 in
      let enters : here p ≡ before does k = found (before does k) (again ∷ body_left) ls in
      let inner : Runs a.does again (p + 1 + 1) q =
      list_runs n own body to deep (m + 1) (p + 1 + 1) again (stands_first (b.ops (m + 1) (p + 1 + 1)) (j ∷ []) os2)
      (stands_first (a.left again) (again ∷ []) ls2) (stands_next i (all_of body) is) back in
      let out : here (p + b.size + 3) ≡ k = ap here (omega arith) ∙ exit in
      let taken : before (before a.does (turns steps i)) k ≡ here (p + 1 + 1) = before_before a.does (turns steps i) k ∙ sym inner.enters in
      let turning : Turning steps all ops here (p + 1) = record {
        op = o;
        is = stands_here o body_ops os1;
        loop = i;
        behind = k;
        asks = λ st. at first st;
        does = λ st.
            ap (λ x. and_then x k) (turns_so st)
            ∙ ap (λ b. and_then (decided (v st) (before (listed steps own b).does (turns steps i)) (λ st. Ret st)) k) (agree steps (body_nesting body) n body (omega arith) deep)
            ∙ decided_then (v st) (before a.does (turns steps i)) (λ st. Ret st) k
            ∙ decided_same (v st) taken (sym out)
            ∙ sym (operates st);
      } in
      let begun : Stepped p =
      onward p g (o ∷ body_ops) (before does k) os enters (λ st.
      and_then_assoc (begins st) (turns steps i) k
      ∙ ap (λ f. and_then (begins st) f) (sym first)
      ∙ by_number (λ x. and_then (renamed Plain (steps.begins x st)) (here (p + 1))) (here (p + 1) st) i (all_of body) is) tt in
      let jumps : Stepped q = Jumps (p + 1) (stands_here j [] osj) (λ st. at back st ∙ sym (at first st)) (In_loop turning) in
      record {
        enters = enters;
        steady = steady_then p end begun
            (steady_then (p + 1) end (Turns turning) (steady_both (p + 1 + 1) q end inner.steady (steady_last q end (omega arith) jumps)));
      }

  inner_runs : (n : ℕ) (i : Instr) (x : Inner) → inner_of i ≡ x → ListsTo n → body_nesting (lists_in x) ≤ n → (m p : ℕ) (k : Doing Q S O E)
      → Stands ops ((inner_ops x m p).ops (m + 1) p) p → Stands lefts ((act_by steps (acts_within steps n) i x).left k) p → Stands instrs (i ∷ all_of (lists_in x)) m
      → here (p + (inner_ops x m p).size) ≡ k → Runs (act_by steps (acts_within steps n) i x).does k p (p + (inner_ops x m p).size)
  inner_runs n i inside.Nothing e to deep m p k os ls is exit = single_runs i (all_of []) m p k os ls is exit
  inner_runs n i inside.Local e to deep m p k os ls is exit = single_runs i (all_of []) m p k os ls is exit
  inner_runs n i (inside.Round body) e to deep m p k os ls is exit = round_runs n body i to deep m p k os ls is exit
  inner_runs n i (inside.Choice body other) e to deep m p k os ls is exit =
      let parted = body_nesting-append body other in choice_runs n body other i to (omega arith) (omega arith) m p k os ls is exit
  inner_runs n i (inside.Choices bodies other) e to deep m p k os ls is exit =
      let parted = body_nesting-append (joined bodies) other in choices_run n bodies other i to (omega arith) (omega arith) m p k os ls is exit
  inner_runs n i (inside.While body) e to deep m p k os ls is exit =
      let far = p + (list_piece 0 body).size + 3 in
      loop_runs n 0 body i to deep m p k (op.Test m 0 far) (λ st. steps.test (bare i) 0 st)
      (λ st. sym (by_number (λ x. decided (steps.test x 0 st) (here (p + 1 + 1)) (here far)) (here (p + 1 + 1) st) i (all_of body) is))
      (λ st. ap (λ x. turn_by steps i x st) e) os ls is exit
  inner_runs n i (inside.ForEach body) e to deep m p k os ls is exit =
      let far = p + (list_piece 1 body).size + 3 in
      loop_runs n 1 body i to deep m p k (op.Turn m far) (λ st. steps.turn (bare i) st)
      (λ st. sym (by_number (λ x. decided (steps.turn x st) (here (p + 1 + 1)) (here far)) (here (p + 1 + 1) st) i (all_of body) is))
      (λ st. ap (λ x. turn_by steps i x st) e) os ls is exit

  -- One instruction.
  one_runs : (n : ℕ) (i : Instr) → ListsTo n → nesting i ≤ n + 1 → (m p : ℕ) (k : Doing Q S O E) → Stands ops ((piece_of i).ops m p) p
      → Stands lefts ((act_of steps (acts_within steps n) i).left k) p → Stands instrs (i ∷ all_of (children i)) m → here (p + (piece_of i).size) ≡ k
      → Runs (act_of steps (acts_within steps n) i).does k p (p + (piece_of i).size)
  one_runs n i to deep m p k os ls is exit =
      let x = inner_of i in
      let size : (piece_of i).size ≡ (inner_ops x m p).size = ap (λ (y : Piece). y.size) (unrolled i) ∙ sym (inner-size x m p) in
      subst (λ s. Runs (act_of steps (acts_within steps n) i).does k p (p + s)) (sym size)
      (inner_runs n i x refl to (within n i deep) m p k (subst (λ (y : Piece). Stands ops (y.ops m p) p) (unrolled i) os) ls
      (subst (λ l. Stands instrs (i ∷ all_of l) m) (children_are i) is) (ap (λ s. here (p + s)) (sym size) ∙ exit))

  lists_to : (n : ℕ) → ListsTo n
  lists_to zero [] deep m p k os ls is exit = record { enters = ap here (omega arith) ∙ exit; steady = steady_none p (p + 0) (omega arith) }
  lists_to zero (i ∷ list) deep m p k os ls is exit = absurd (omega (arith, nesting_is i))
  lists_to (suc n) [] deep m p k os ls is exit = record { enters = ap here (omega arith) ∙ exit; steady = steady_none p (p + 0) (omega arith) }
  lists_to (suc n) (i ∷ list) deep m p k os ls is exit =
      let y = piece_of i in
      let x = in_order (pieces list) in
      let a = act_of steps (acts_within steps n) i in
      let r = acts_within steps (suc n) list in
      let m2 = m + y.numbers in
      let p2 = p + y.size in
      let h = before r.does k in
      let joint : all_of (i ∷ list) ≡ (i ∷ all_of (children i)) ++ all_of list = all_of-append (i ∷ []) list ∙ ap (λ l. l ++ all_of list) (all_of-single i) in
      let split : Stands instrs ((i ∷ all_of (children i)) ++ all_of list) m = subst (λ l. Stands instrs l m) joint is in
      let none : y.numbers + 0 ≡ y.numbers = omega arith in
      let many : length (i ∷ all_of (children i)) ≡ y.numbers = sym (ap length (all_of-single i)) ∙ sym (count_is (i ∷ [])) ∙ none in
      let os2 : Stands ops (x.ops m2 p2) p2 = stands_second (y.ops m p) (x.ops m2 p2) y.size ((piece_sized i).long m p) os in
      let ls2 : Stands lefts (r.left k) p2 = stands_second (a.left h) (r.left k) y.size (act_long steps n i (omega arith) h) ls in
      let is2 : Stands instrs (all_of list) m2 = stands_second (i ∷ all_of (children i)) (all_of list) y.numbers many split in
      let rest : Runs r.does k p2 (p2 + x.size) = lists_to (suc n) list (omega arith) m2 p2 k os2 ls2 is2 (ap here (omega arith) ∙ exit) in
      let first : Runs a.does h p p2 =
      one_runs n i (lists_to n) (omega arith) m p h (stands_first (y.ops m p) (x.ops m2 p2) os) (stands_first (a.left h) (r.left k) ls)
      (stands_first (i ∷ all_of (children i)) (all_of list) split) rest.enters in
      let end : p2 + x.size ≡ p + (y.size + x.size) = omega arith in
      record {
        enters = first.enters ∙ sym (before_before a.does r.does k);
        steady = steady_both p p2 (p + (y.size + x.size)) first.steady (subst (λ v. Steady p2 v) end rest.steady);
      }

  -- Instructions in order.
  pub instructions_run : (list : List Instr) (m p : ℕ) (k : Doing Q S O E) → Stands ops ((in_order (pieces list)).ops m p) p → Stands lefts ((acts steps list).left k) p
      → Stands instrs (all_of list) m → here (p + (in_order (pieces list)).size) ≡ k → Runs (acts steps list).does k p (p + (in_order (pieces list)).size)
  instructions_run list m p k os ls is exit = lists_to (body_nesting list) list (omega arith) m p k os ls is exit
