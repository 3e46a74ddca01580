-- Instructions with loops, and all lists of instructions, are done by their code.
use Rattle.std.proofs.Common.{◌≡◌, inl, inr, ℕ, zero, suc, ◌+◌, ◌≤◌, Bool, true, false, List, [], ◌∷◌, ◌++◌, length, map, Some, None, Result, Ok, Err, if◌then◌else◌, refl, sym, ap, ◌∙◌, subst, arith, append_assoc, length-append}
use Rattle.std.specs.Prelude.{slice_get}
use Rattle.std.proofs.lemmas.List.{append-nil}
use Rattle.std.proofs.lemmas.Option.{slice_get_past}
use Rattle.stx_base.specs.Course.{Ret, Ask, and_then}
use Rattle.stx_base.proofs.Course.{and_then_ret}
use Rattle.stx_base.specs.declared.fault.Place.{Place}
use Rattle.stx_base.specs.declared.name.Name.{Name}
use Rattle.instr_code.specs.Acts.{Again, Plain, act_by, act_of, acts, acts_within, before, branch_acts, listed, turn_by, turns as loop_turns}
use Rattle.instr_code.specs.Bare.{bare, bare_when}
use Rattle.instr_code.specs.Bodies.{joined}
use Rattle.instr_code.specs.Emitting.{inner_layer, listed as lists_in}
use Rattle.instr_code.specs.Steps.{Holds, decided, renamed}
use Rattle.instr_code.specs.declared.inner.Inner.TheVariants as inner
use Rattle.instr_code.proofs.Forms.{children_are}
use Rattle.sheet_model.specs.Body.{body_nesting, nesting}
use Rattle.sheet_model.specs.Parts.{place}
use Rattle.sheet_model.proofs.Nests.{body_nesting-append, nesting_is}
use Rattle.sheet_model.specs.declared.instr.Instr.{Instr}
use Rattle.sheet_model.specs.declared.instr.Instr.TheOpen.{Instr-F}
use Rattle.sheet_model.specs.declared.instr.Instr.TheViews.{out-Instr}
use Rattle.sheet_model.specs.declared.instr.When.{When}
use Rattle.stxpath_syntax.specs.declared.expr.Expr.{Expr}
use Rattle.stxpath_values.specs.declared.fault.EvalFault.{EvalFault}
use Rattle.stxpath_values.specs.declared.value.Atom.{Atom}
use Rattle.template_machine.specs.Acting.{acts as acts_as, cut_to, loop, turns, with_local}
use Rattle.template_machine.specs.Ending.{code_of, fault_at}
use Rattle.template_machine.specs.Fuel.{spend}
use Rattle.template_machine.specs.Job.{Body, Does, Given, Here, Loop, Self, State, with_state}
use Rattle.template_machine.specs.Meaning.{body, exec}
use Rattle.template_machine.specs.Stepwise.{Working, begins_by, goes_round, spends, steps_of, test_by, turn_by as turned_by, turn_over, walks}
use Rattle.template_machine.specs.Values.{atoms_of, got, setting, truth_of}
use Rattle.template_machine.proofs.Simulating.{at_none, by_call, by_halt, by_other_call, by_ret, by_then}
use Rattle.template_machine.proofs.Stepping.{Nest_does, Sim, got_decided, nest, spends_begins, spent_decided}
use Rattle.template_machine.proofs.Coded.{Bodies, Is, Lists, act_at, ask_list, ask_own, at, at_seam, bare_out, buffer, chosen, copy, element, if_else, less_or_last, literal, round, single, tested}

-- what stands inside an instruction nests less deep
within : (n : ℕ) (i : Instr) → nesting i ≤ n + 1 → body_nesting (lists_in (inner_layer (out-Instr i))) ≤ n
within n i deep = omega (arith, nesting_is i, ap body_nesting (children_are i))

module _ (given : Given) where
  fewer : (d : ℕ) → Lists given (suc d) → Lists given d
  fewer d h c l = h c (omega (arith, l))

  -- Loops with a test.

  module _ (i : Instr) (self : Self) (aside : List (List Atom)) (loops : List ℕ) (test : Expr) (is : List Instr) (spot : Place) (e : out-Instr i ≡ Instr-F.While test is spot) where
    abbrev Rel : Here → Working → Type 0
    Rel b v = v ≡ at given self aside loops b

    abbrev round_at : Here → Working
    round_at a = at given self aside (0 ∷ loops) a

    one_round : (d : ℕ) → Lists given d → ((a : Here) → Sim given Rel d (Ask (Loop test is spot self a) Ret) (Ask (Again i (round_at a)) Ret))
        → (a : Here) → Sim given Rel d (loop given test is spot self a) (turn_by (steps_of given) i (inner.While is) (round_at a))
    one_round d h again a =
        subst (λ y. Sim given Rel d (loop given test is spot self a) (decided (test_by given y 0 (round_at a)) held (λ st. Ret st))) (sym (bare_out i (Instr-F.While test is spot) e))
        (got_decided given Rel d held (λ st. Ret st) spot (truth_of test (setting given self a)) (λ holds. if holds then spend spot a.state turn else Ret a) (λ holds. goes_round spot holds (round_at a)) of_test)
      where
        held : Working → Nest_does given
        held = before (listed (steps_of given) 0 (acts (steps_of given) is)).does (loop_turns (steps_of given) i)

        turn : State → Does
        turn st = Ask (Body is self (with_state a st)) (λ b. Ask (Loop test is spot self b) Ret)

        of_test : (holds : Bool) → Sim given Rel d (if holds then spend spot a.state turn else Ret a) (decided (goes_round spot holds (round_at a)) held (λ st. Ret st))
        of_test true =
            spent_decided given Rel d held (λ st. Ret st) spot a turn (λ b. Holds [] (round_at b))
            (λ st. ask_list given Rel (body_nesting is) is self aside (0 ∷ loops) (omega arith) (λ b. Ask (Loop test is spot self b) Ret) (loop_turns (steps_of given) i) d h (with_state a st) again)
        of_test false = by_ret d a (at given self aside loops a) refl

    rounds : (n : ℕ) → Lists given n → (a : Here) → Sim given Rel n (Ask (Loop test is spot self a) Ret) (Ask (Again i (round_at a)) Ret)
    rounds zero h a = at_none (Loop test is spot self a) Ret (Ask (Again i (round_at a)) Ret)
    rounds (suc d) h a =
        by_other_call (Again i (round_at a)) (λ v. Ret v)
        (by_call (Loop test is spot self a) Ret (nest given (Again i (round_at a))) (λ v. Ret v)
        (subst (λ x. Sim given Rel d (loop given test is spot self a) (turn_by (steps_of given) i (inner_layer x) (round_at a))) (sym e)
        (one_round d (fewer d h) (rounds d (fewer d h)) a))
        (λ r v q. by_ret (suc d) r v q))

  -- Loops over items.

  module _ (n : ℕ) (h : Lists given n) (i : Instr) (self : Self) (aside : List (List Atom)) (loops : List ℕ) (name : Name) (select : Expr) (is : List Instr) (spot : Place) (e : out-Instr i ≡ Instr-F.ForEachItem name select is spot) where
    abbrev Walked : Here → Working → Type 0
    Walked b v = v ≡ at given self aside loops b

    abbrev held : Working → Nest_does given
    held = before (listed (steps_of given) 1 (acts (steps_of given) is)).does (loop_turns (steps_of given) i)

    abbrev walking : (items : List Atom) → (k : ℕ) → Here → Working
    walking items k a = at given self (items ∷ aside) (k ∷ loops) a

    turned : (items : List Atom) (k : ℕ) (a : Here) (x : Does) → Sim given Walked n x (decided (turn_over spot name (slice_get items k) (walking items k a)) held (λ st. Ret st))
        → Sim given Walked n x (Ask (Again i (walking items k a)) Ret)
    turned items k a x s =
        by_other_call (Again i (walking items k a)) (λ v. Ret v)
        (subst (λ y. Sim given Walked n x y) (sym (and_then_ret (nest given (Again i (walking items k a)))))
        (subst (λ y. Sim given Walked n x (turn_by (steps_of given) i (inner_layer y) (walking items k a))) (sym e)
        (subst (λ y. Sim given Walked n x (decided (turned_by y (walking items k a)) held (λ st. Ret st))) (sym (bare_out i (Instr-F.ForEachItem name select is spot) e)) s)))

    walk : (items done xs : List Atom) (k : ℕ) → k ≡ length done → items ≡ done ++ xs → (a : Here)
        → Sim given Walked n (turns given spot name xs is self a) (Ask (Again i (walking items k a)) Ret)
    walk items done [] k p q a =
        let none : slice_get items k ≡ None = slice_get_past items k (omega (arith, p, ap length (q ∙ append-nil done))) in
        turned items k a (Ret a)
        (subst (λ o. Sim given Walked n (Ret a) (decided (turn_over spot name o (walking items k a)) held (λ st. Ret st))) (sym none) (by_ret n a (at given self aside loops a) refl))
    walk items done (x ∷ xs) k p q a =
        let some : slice_get items k ≡ Some x = ap (λ l. slice_get l k) q ∙ ap (slice_get (done ++ x ∷ xs)) p ∙ at_seam done x xs in
        let one : Here → Here = λ b. with_local name (x ∷ []) b in
        let others : Here → Does = λ b. turns given spot name xs is self (cut_to a.locals b) in
        let turn : State → Does = λ st. Ask (Body is self (one (with_state a st))) others in
        turned items k a (spend spot a.state turn)
        (subst (λ o. Sim given Walked n (spend spot a.state turn) (decided (turn_over spot name o (walking items k a)) held (λ st. Ret st))) (sym some)
        (spent_decided given Walked n held (λ st. Ret st) spot a turn (λ b. Holds [] (walking items (suc k) (one b)))
        (λ st. ask_own given Walked (body_nesting is) is self (items ∷ aside) (suc k ∷ loops) (omega arith) others (loop_turns (steps_of given) i) n h 1 (with_state a st) (one (with_state a st))
        (length-append a.locals (record { name = name; value = x ∷ [] } ∷ []))
        (λ b. walk items (done ++ x ∷ []) xs (suc k) (omega (arith, p, length-append done (x ∷ []))) (q ∙ sym (append_assoc done (x ∷ []) xs)) (cut_to a.locals b)))))

    walks_so : (r : Result (List Atom) EvalFault) (a : Here)
        → Sim given Walked n (got spot r (λ items. turns given spot name items is self a)) (and_then (renamed Plain (walks spot r (at given self aside loops a))) (loop_turns (steps_of given) i))
    walks_so (Ok items) a = walk items [] items 0 refl refl a
    walks_so (Err f) a = by_halt n (fault_at (code_of f) spot)

  -- Each instruction.

  module _ (n : ℕ) (h : Lists given n) (m : ℕ) (i : Instr) (self : Self) (aside : List (List Atom)) (loops : List ℕ) where
    abbrev Done_so : Here → Instr-F Instr When → Type 0
    Done_so a x =
        Sim given (λ b v. v ≡ at given self aside loops b) n (spend (place x) a.state (λ st. acts_as given x self (with_state a st)))
        ((act_by (steps_of given) (acts_within (steps_of given) m) i (inner_layer x)).does (at given self aside loops a))

    -- the beginning of a choose or a loop, and what follows
    begun_so : (a : Here) (x y : Instr-F Instr When) → out-Instr (bare i) ≡ y → (go : Working → Nest_does given)
        → ((st : State) → Sim given (λ b v. v ≡ at given self aside loops b) n (acts_as given x self (with_state a st)) (and_then (renamed Plain (begins_by given y (at given self aside loops (with_state a st)))) go))
        → place x ≡ place y
        → Sim given (λ b v. v ≡ at given self aside loops b) n (spend (place x) a.state (λ st. acts_as given x self (with_state a st)))
        (and_then (renamed Plain ((steps_of given).begins (bare i) (at given self aside loops a))) go)
    begun_so a x y e go s p =
        let Rel : Here → Working → Type 0 = λ b v. v ≡ at given self aside loops b in
        let w = at given self aside loops a in
        let k : State → Does = λ st. acts_as given x self (with_state a st) in
        subst (λ z. Sim given Rel n (spend (place x) a.state k) (and_then (renamed Plain (and_then (spends (place z) w) (begins_by given z))) go)) (sym e)
        (subst (λ spot. Sim given Rel n (spend spot a.state k) (and_then (renamed Plain (and_then (spends (place y) w) (begins_by given y))) go)) (sym p)
        (spends_begins given Rel n (place y) w k (begins_by given y) go s))

    by_layer : (a : Here) (x : Instr-F Instr When) → out-Instr i ≡ x → body_nesting (lists_in (inner_layer x)) ≤ m → Done_so a x
    by_layer a (Instr-F.ValueOf select separator spot) e deep = single given n h m i self aside loops a (Instr-F.ValueOf select separator spot) (bare_out i (Instr-F.ValueOf select separator spot) e)
    by_layer a (Instr-F.Chars text spot) e deep = single given n h m i self aside loops a (Instr-F.Chars text spot) (bare_out i (Instr-F.Chars text spot) e)
    by_layer a (Instr-F.StartElement name namespace scope spot) e deep = single given n h m i self aside loops a (Instr-F.StartElement name namespace scope spot) (bare_out i (Instr-F.StartElement name namespace scope spot) e)
    by_layer a (Instr-F.EndElement name namespace scope spot) e deep = single given n h m i self aside loops a (Instr-F.EndElement name namespace scope spot) (bare_out i (Instr-F.EndElement name namespace scope spot) e)
    by_layer a (Instr-F.Attribute name namespace scope content spot) e deep = single given n h m i self aside loops a (Instr-F.Attribute name namespace scope content spot) (bare_out i (Instr-F.Attribute name namespace scope content spot) e)
    by_layer a (Instr-F.Comment content spot) e deep = single given n h m i self aside loops a (Instr-F.Comment content spot) (bare_out i (Instr-F.Comment content spot) e)
    by_layer a (Instr-F.Pi name scope content spot) e deep = single given n h m i self aside loops a (Instr-F.Pi name scope content spot) (bare_out i (Instr-F.Pi name scope content spot) e)
    by_layer a (Instr-F.Message content spot) e deep = single given n h m i self aside loops a (Instr-F.Message content spot) (bare_out i (Instr-F.Message content spot) e)
    by_layer a (Instr-F.Assign name select spot) e deep = single given n h m i self aside loops a (Instr-F.Assign name select spot) (bare_out i (Instr-F.Assign name select spot) e)
    by_layer a (Instr-F.CallProcedure name params spot) e deep = single given n h m i self aside loops a (Instr-F.CallProcedure name params spot) (bare_out i (Instr-F.CallProcedure name params spot) e)
    by_layer a (Instr-F.ProcessChildren group params spot) e deep = single given n h m i self aside loops a (Instr-F.ProcessChildren group params spot) (bare_out i (Instr-F.ProcessChildren group params spot) e)
    by_layer a (Instr-F.ProcessAttributes group params spot) e deep = single given n h m i self aside loops a (Instr-F.ProcessAttributes group params spot) (bare_out i (Instr-F.ProcessAttributes group params spot) e)
    by_layer a (Instr-F.ProcessSelf group params spot) e deep = single given n h m i self aside loops a (Instr-F.ProcessSelf group params spot) (bare_out i (Instr-F.ProcessSelf group params spot) e)
    by_layer a (Instr-F.ProcessSiblings going until group params spot) e deep = single given n h m i self aside loops a (Instr-F.ProcessSiblings going until group params spot) (bare_out i (Instr-F.ProcessSiblings going until group params spot) e)
    by_layer a (Instr-F.ProcessBuffer name group params spot) e deep = single given n h m i self aside loops a (Instr-F.ProcessBuffer name group params spot) (bare_out i (Instr-F.ProcessBuffer name group params spot) e)
    by_layer a (Instr-F.ProcessDocument href group params spot) e deep = single given n h m i self aside loops a (Instr-F.ProcessDocument href group params spot) (bare_out i (Instr-F.ProcessDocument href group params spot) e)
    by_layer a (Instr-F.LiteralChars text spot) e deep = single given n h m i self aside loops a (Instr-F.LiteralChars text spot) (bare_out i (Instr-F.LiteralChars text spot) e)
    by_layer a (Instr-F.Local name select spot) e deep = single given n h m i self aside loops a (Instr-F.Local name select spot) (bare_out i (Instr-F.Local name select spot) e)
    by_layer a (Instr-F.Copy attributes is spot) e deep =
        round given n h m i self aside loops is deep a (Instr-F.Copy attributes is spot) (Instr-F.Copy attributes [] spot) (bare_out i (Instr-F.Copy attributes is spot) e) (copy given n h m i self aside loops is deep a attributes spot)
    by_layer a (Instr-F.Element name namespace scope is spot) e deep =
        round given n h m i self aside loops is deep a (Instr-F.Element name namespace scope is spot) (Instr-F.Element name namespace scope [] spot) (bare_out i (Instr-F.Element name namespace scope is spot) e)
        (element given n h m i self aside loops is deep a name namespace scope spot)
    by_layer a (Instr-F.ResultBuffer name clear is spot) e deep =
        round given n h m i self aside loops is deep a (Instr-F.ResultBuffer name clear is spot) (Instr-F.ResultBuffer name clear [] spot) (bare_out i (Instr-F.ResultBuffer name clear is spot) e)
        (buffer given n h m i self aside loops is deep a name clear spot)
    by_layer a (Instr-F.Literal name attrs is spot) e deep =
        round given n h m i self aside loops is deep a (Instr-F.Literal name attrs is spot) (Instr-F.Literal name attrs [] spot) (bare_out i (Instr-F.Literal name attrs is spot) e)
        (literal given n h m i self aside loops is deep a name attrs spot)
    by_layer a (Instr-F.If test is other spot) e deep =
        let parted = body_nesting-append is other in
        tested given n h m i self aside loops a (Instr-F.If test is other spot) (Instr-F.If test [] [] spot) (bare_out i (Instr-F.If test is other spot) e)
        (listed (steps_of given) 0 (act_at given m is)).does (listed (steps_of given) 0 (act_at given m other)).does
        (if_else given n h m i self aside loops a test is other spot (omega (arith, parted, deep)) (omega (arith, parted, deep)))
    by_layer a (Instr-F.Choose whens other spot) e deep =
        let bodies = map (λ (w : When). w.body) whens in
        let parted = body_nesting-append (joined bodies) other in
        let b = bare_out i (Instr-F.Choose whens other spot) e in
        begun_so a (Instr-F.Choose whens other spot) (Instr-F.Choose (map bare_when whens) [] spot) b
        (branch_acts (steps_of given) (bare i) 0 (map (λ l. listed (steps_of given) 0 (act_at given m l)) bodies) (listed (steps_of given) 0 (act_at given m other)))
        (λ st. chosen given n h m i self aside loops whens other spot b (omega (arith, parted, deep)) [] whens 0 refl refl (omega (arith, parted, deep)) (with_state a st)) refl
    by_layer a (Instr-F.While test is spot) e deep =
        begun_so a (Instr-F.While test is spot) (Instr-F.While test [] spot) (bare_out i (Instr-F.While test is spot) e) (loop_turns (steps_of given) i)
        (λ st. rounds i self aside loops test is spot e n h (with_state a st)) refl
    by_layer a (Instr-F.ForEachItem name select is spot) e deep =
        begun_so a (Instr-F.ForEachItem name select is spot) (Instr-F.ForEachItem name select [] spot) (bare_out i (Instr-F.ForEachItem name select is spot) e) (loop_turns (steps_of given) i)
        (λ st. walks_so n h i self aside loops name select is spot e (atoms_of select (setting given self (with_state a st))) (with_state a st)) refl

    executed : (a : Here) → nesting i ≤ m + 1
        → Sim given (λ b v. v ≡ at given self aside loops b) n (exec given i self a) ((act_of (steps_of given) (acts_within (steps_of given) m) i).does (at given self aside loops a))
    executed a deep = by_layer a (out-Instr i) refl (within m i deep)

  -- Lists.

  module _ (d : ℕ) (h : Lists given d) (self : Self) (aside : List (List Atom)) (loops : List ℕ) where
    bodies_at : (m : ℕ) (is : List Instr) (a : Here) → body_nesting is ≤ m → Sim given (Is given self aside loops) d (body given is self a) ((act_at given m is).does (at given self aside loops a))
    bodies_at zero [] a deep = by_ret d a (at given self aside loops a) refl
    bodies_at zero (i ∷ is) a deep = absurd (omega (arith, nesting_is i))
    bodies_at (suc m) [] a deep = by_ret d a (at given self aside loops a) refl
    bodies_at (suc m) (i ∷ is) a deep =
        by_then (body given is self) (act_at given (suc m) is).does (executed d h m i self aside loops a (omega arith))
        (λ b v q. subst (λ z. Sim given (Is given self aside loops) d (body given is self b) ((act_at given (suc m) is).does z)) (sym q) (bodies_at (suc m) is b (omega arith)))

  pub all_lists : (n : ℕ) → Lists given n
  all_lists zero d l = absurd (omega arith)
  all_lists (suc n) d l = elim (less_or_last d n l) [
    | inl less ↦ all_lists n d less
    | inr e ↦ subst (Bodies given) (sym e) (λ m is self aside loops a deep. bodies_at n (all_lists n) self aside loops m is a deep)
  ]

  pub all_bodies : (n : ℕ) → Bodies given n
  all_bodies n = all_lists (suc n) n (omega arith)
