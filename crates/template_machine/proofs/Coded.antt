-- The code of a list of instructions does what the instructions do.
use Rattle.std.proofs.Common.{◌≡◌, ◌⊎◌, inl, inr, ℕ, zero, suc, ◌+◌, ◌-◌, ◌<◌, ◌≤◌, Bool, true, false, List, [], ◌∷◌, ◌++◌, length, map, take, Option, Some, None, if◌then◌else◌, refl, sym, ap, ◌∙◌, subst, arith, append_assoc, length-append}
use Rattle.std.specs.Prelude.{slice_get}
use Rattle.std.specs.Option.{option_map}
use Rattle.std.proofs.lemmas.List.{length-map}
use Rattle.std.proofs.Math.Seq.{take-length}
use Rattle.std.proofs.lemmas.Option.{slice_get-map}
use Rattle.stx_base.specs.Course.{Ret, Halt, Ask, Answer, Given as Known, Over, Unknown, and_then, value, run}
use Rattle.stx_base.proofs.Course.{and_then_ret}
use Rattle.stx_base.specs.declared.fault.Place.{Place}
use Rattle.stx_base.specs.declared.fault.RunCode.TheVariants as run_code
use Rattle.stx_base.specs.declared.name.Attr.{Attr}
use Rattle.stx_base.specs.declared.name.Binding.{Binding}
use Rattle.stx_base.specs.declared.name.Name.{Name}
use Rattle.stx_base.specs.declared.part.Part.{Part}
use Rattle.stx_base.specs.declared.part.Part.TheVariants as part
use Rattle.event_buffers.specs.Buffers.{busy_at, unclosed_at}
use Rattle.instr_code.specs.Acts.{Act, Plain, act_of, act_by, acts_within, before, branch_acts, listed, round_act, taken_off}
use Rattle.instr_code.specs.Bare.{bare, bare_layer, bare_when}
use Rattle.instr_code.specs.Bodies.{joined}
use Rattle.instr_code.specs.Emitting.{inner_layer, inner_locals, inner_of}
use Rattle.instr_code.specs.Steps.{Fails, Holds, decided, renamed}
use Rattle.instr_code.specs.declared.inner.Inner.{Inner}
use Rattle.instr_code.specs.declared.inner.Inner.TheVariants as inner
use Rattle.node_stack.specs.Path.{Node, Document, Element, Chars, CData, Comment, Pi, Attribute}
use Rattle.sheet_model.specs.Body.{body_nesting}
use Rattle.sheet_model.specs.Names.{declared}
use Rattle.sheet_model.specs.Parts.{place}
use Rattle.sheet_model.proofs.Nests.{body_nesting-append, nesting_is}
use Rattle.sheet_model.specs.declared.instr.Instr.{Instr}
use Rattle.sheet_model.specs.declared.instr.Instr.TheOpen.{Instr-F}
use Rattle.sheet_model.specs.declared.instr.Instr.TheViews.{out-Instr, out-roll-Instr}
use Rattle.sheet_model.specs.declared.instr.LiteralAttr.{LiteralAttr}
use Rattle.sheet_model.specs.declared.instr.When.{When}
use Rattle.stxpath_syntax.specs.declared.expr.Avt.{Avt}
use Rattle.stxpath_syntax.specs.declared.expr.Expr.{Expr}
use Rattle.stxpath_syntax.specs.declared.expr.Pattern.{Pattern}
use Rattle.stxpath_values.specs.Outcome as outcome
use Rattle.stxpath_values.specs.declared.value.Atom.{Atom}
use Rattle.template_machine.specs.Acting.{acts as acts_as, attribute_of, begins_writing, choose, copied as copied_node, copy_parts, cut_to, ends_writing, put_around, put_parts, writes}
use Rattle.template_machine.specs.Ending.{Ending, Said, fault_at}
use Rattle.template_machine.specs.Finding.{buffer_seen, passing}
use Rattle.template_machine.specs.Fuel.{spend}
use Rattle.template_machine.specs.Job.{Body, Does, Given, Here, Job, Self, State, with_state}
use Rattle.template_machine.specs.Laws.{names}
use Rattle.template_machine.specs.Meaning.{body, code, exec, list}
use Rattle.template_machine.specs.Passing.{start_parts}
use Rattle.template_machine.specs.Putting.{attribute_part, unless_refused}
use Rattle.template_machine.specs.Stepwise.{Outcome, Working, arm_asks, asks, buffer_closes, buffer_opens, by_given, closes_by, copy_end, copy_opens, decides, element_opens, last_aside, opens_by, outcome_of, single_by, spent, stands_at, steps_of, tag_of, tagged, takes_up, test_by, valued, without_last}
use Rattle.template_machine.specs.Trail.{current}
use Rattle.template_machine.specs.Values.{computed_name, got, namespace_text, setting, template_text, truth_of}
use Rattle.var_store.specs.declared.bound.Bound.{Bound}
use Rattle.template_machine.proofs.Holding.{Meets, holds_more, holds_then, known_meets}
use Rattle.template_machine.proofs.Keeping.{Ok as Fine, Post}
use Rattle.template_machine.proofs.Kept.{Adds, code_ok, exec_ok}
use Rattle.template_machine.proofs.Resuming.{puts_then}
use Rattle.template_machine.proofs.Simulating.{Like, at_none, by_call, by_halt, by_ret, by_then}
use Rattle.template_machine.proofs.Stepping.{Nest_does, Sim, copied, got_decided, nest, outcome_decided, parts_free, refused_decided, spent_decided}

-- Lists.

pub at_seam : {A : Type 0} (xs : List A) (y : A) (ys : List A) → slice_get (xs ++ y ∷ ys) (length xs) ≡ Some y
at_seam [] y ys = refl
at_seam (x ∷ xs) y ys = at_seam xs y ys

take_take : {A : Type 0} (n m : ℕ) (xs : List A) → n ≤ m → take n (take m xs) ≡ take n xs
take_take zero m xs le = refl
take_take (suc n) zero xs le = absurd (omega (arith, le))
take_take (suc n) (suc m) [] le = refl
take_take (suc n) (suc m) (x ∷ xs) le = ap (λ l. x ∷ l) (take_take n m xs (omega (arith, le)))

-- what locals each instruction leaves
locals_declared : (x : Instr-F Instr When) → inner_locals (inner_layer x) ≡ length (declared x)
locals_declared (Instr-F.ValueOf select separator at) = refl
locals_declared (Instr-F.Chars text at) = refl
locals_declared (Instr-F.Copy attributes body at) = refl
locals_declared (Instr-F.Element name namespace scope body at) = refl
locals_declared (Instr-F.StartElement name namespace scope at) = refl
locals_declared (Instr-F.EndElement name namespace scope at) = refl
locals_declared (Instr-F.Attribute name namespace scope content at) = refl
locals_declared (Instr-F.Comment content at) = refl
locals_declared (Instr-F.Pi name scope content at) = refl
locals_declared (Instr-F.Message content at) = refl
locals_declared (Instr-F.If test body other at) = refl
locals_declared (Instr-F.Choose whens other at) = refl
locals_declared (Instr-F.ForEachItem name select body at) = refl
locals_declared (Instr-F.While test body at) = refl
locals_declared (Instr-F.Assign name select at) = refl
locals_declared (Instr-F.CallProcedure name params at) = refl
locals_declared (Instr-F.ProcessChildren group params at) = refl
locals_declared (Instr-F.ProcessAttributes group params at) = refl
locals_declared (Instr-F.ProcessSelf group params at) = refl
locals_declared (Instr-F.ProcessSiblings going until group params at) = refl
locals_declared (Instr-F.ProcessBuffer name group params at) = refl
locals_declared (Instr-F.ProcessDocument href group params at) = refl
locals_declared (Instr-F.ResultBuffer name clear body at) = refl
locals_declared (Instr-F.Literal name attrs body at) = refl
locals_declared (Instr-F.LiteralChars text at) = refl
locals_declared (Instr-F.Local name select at) = refl

act_locals : (f : List Instr → Act Job Working Said Ending) (given : Given) (i : Instr) (x : Inner) → (act_by (steps_of given) f i x).locals ≡ inner_locals x
act_locals f given i inner.Nothing = refl
act_locals f given i inner.Local = refl
act_locals f given i (inner.Round list) = refl
act_locals f given i (inner.Choice list other) = refl
act_locals f given i (inner.Choices lists other) = refl
act_locals f given i (inner.While list) = refl
act_locals f given i (inner.ForEach list) = refl

-- an instruction with empty lists, by its layer
pub bare_out : (i : Instr) (x : Instr-F Instr When) → out-Instr i ≡ x → out-Instr (bare i) ≡ bare_layer x
bare_out i x e = out-roll-Instr (bare_layer (out-Instr i)) ∙ ap bare_layer e

pub less_or_last : (d n : ℕ) → d < suc n → (d < n) ⊎ (d ≡ n)
less_or_last zero zero l = inr refl
less_or_last zero (suc n) l = inl (omega arith)
less_or_last (suc d) zero l = absurd (omega (arith, l))
less_or_last (suc d) (suc n) l = elim (less_or_last d n (omega (arith, l))) [ inl h ↦ inl (omega (arith, h)) | inr e ↦ inr (ap suc e) ]

-- results of which P holds
like_meets : {Q R S O E : Type 0} (Post : Q → R → Type 0) (Rel : R → S → Type 0) (P : R → Type 0) (a : Answer R O E) (b : Answer S O E) → Like Rel a b → Meets Post P a → Like (λ r s. Rel r s × P r) a b
like_meets Post Rel P (Known os r) b l h = (l.0, l.1, (l.2, h))
like_meets Post Rel P (Over os e) b l h = l
like_meets Post Rel P (Unknown os) b l h = tt

module _ (given : Given) where
  abbrev pub act_at : ℕ → List Instr → Act Job Working Said Ending
  act_at m is = acts_within (steps_of given) m is

  abbrev pub at : Self → (aside : List (List Atom)) → (turns : List ℕ) → Here → Working
  at self aside turns a = record { self = self; here = a; aside = aside; turns = turns }

  abbrev pub Is : Self → (aside : List (List Atom)) → (turns : List ℕ) → Here → Working → Type 0
  Is self aside turns b v = v ≡ at self aside turns b

  -- where calls are nested at most d deep
  abbrev pub Bodies : ℕ → Type 0
  Bodies d =
      (m : ℕ) (is : List Instr) (self : Self) (aside : List (List Atom)) (turns : List ℕ) (a : Here) → body_nesting is ≤ m
      → Sim given (Is self aside turns) d (body given is self a) ((act_at m is).does (at self aside turns a))

  abbrev pub Lists : ℕ → Type 0
  Lists n = (d : ℕ) → d < n → Bodies d

  -- How many locals there are.

  longer : (ns : List Name) (a b : Here) → Adds ns a b → length b.locals ≡ length a.locals + length ns
  longer ns a b e =
      sym (length-map b.locals (λ (x : Bound). x.name)) ∙ ap length (sym e) ∙ length-append (names a.locals) ns
      ∙ ap (λ n. n + length ns) (length-map a.locals (λ (x : Bound). x.name))

  lengths : (m : ℕ) (is : List Instr) (self : Self) (a : Here) (n : ℕ) → body_nesting is ≤ m → length a.locals ≡ n
      → Fine (λ b. length b.locals ≡ n + (act_at m is).locals) (body given is self a)
  lengths zero [] self a n deep e = e ∙ omega arith
  lengths zero (i ∷ is) self a n deep e = absurd (omega (arith, nesting_is i))
  lengths (suc m) [] self a n deep e = e ∙ omega arith
  lengths (suc m) (i ∷ is) self a n deep e =
      let own = (act_of (steps_of given) (acts_within (steps_of given) m) i).locals in
      let others = (act_at (suc m) is).locals in
      let P : Here → Type 0 = λ c. length c.locals ≡ n + (own + others) in
      let is_own : own ≡ length (declared (out-Instr i)) = act_locals (acts_within (steps_of given) m) given i (inner_of i) ∙ locals_declared (out-Instr i) in
      holds_then Post P (exec given i self a) (body given is self)
      (holds_more Post (Adds (declared (out-Instr i)) a) (λ b. Fine P (body given is self b)) (exec given i self a)
      (λ b g.
      holds_more Post (λ c. length c.locals ≡ (n + own) + others) P (body given is self b) (λ c h. h ∙ omega arith)
      (lengths (suc m) is self b (n + own) (omega arith) (longer (declared (out-Instr i)) a b g ∙ omega (arith, e, is_own))))
      (exec_ok given i self a))

  -- The end of a list.

  taken_off_is : (k : ℕ) (w : Working) → taken_off (steps_of given) k w ≡ stands_at w (without_last k w.here)
  taken_off_is zero w =
      let n : length w.here.locals ≡ length w.here.locals - 0 = omega arith in
      ap (λ l. stands_at w (record w.here { locals = l })) (sym (take-length w.here.locals) ∙ ap (λ k. take k w.here.locals) n)
  taken_off_is (suc k) w = refl

  cut_is : (k : ℕ) (a b : Here) → length b.locals ≡ length a.locals + k → without_last k b ≡ cut_to a.locals b
  cut_is k a b e = let n : length b.locals - k ≡ length a.locals = omega (arith, e) in ap (λ l. record b { locals = take l b.locals }) n

  module _ (d : ℕ) (bodies : Bodies d) (m : ℕ) (is : List Instr) (self : Self) (aside : List (List Atom)) (turns : List ℕ) (deep : body_nesting is ≤ m) where
    abbrev w_at : Here → Working
    w_at a = at self aside turns a

    with_lengths : (a : Here) → Sim given (λ b v. (v ≡ at self aside turns b) × (length b.locals ≡ length a.locals + (act_at m is).locals)) d (body given is self a) ((act_at m is).does (at self aside turns a))
    with_lengths a =
        let s = bodies m is self aside turns a deep in
        let P : Here → Type 0 = λ b. length b.locals ≡ length a.locals + (act_at m is).locals in
        record {
          depth = s.depth;
          like = like_meets Post (Is self aside turns) P (value (run (code given) d) (body given is self a)) (value (run (nest given) s.depth) ((act_at m is).does (at self aside turns a))) s.like
              (known_meets Post (code given) (code_ok given) d P (body given is self a) (lengths m is self a (length a.locals) deep refl));
        }

    -- a list, with locals that were made for it
    ended : (own : ℕ) (a c : Here) → length c.locals ≡ length a.locals + own
        → Sim given (λ r v. v ≡ at self aside turns (cut_to a.locals r)) d (list given is self c) ((listed (steps_of given) own (act_at m is)).does (at self aside turns c))
    ended own a c e =
        let l = (act_at m is).locals in
        by_then (λ b. Ret (cut_to c.locals b)) (λ st. Ret (taken_off (steps_of given) (l + own) st)) (with_lengths c)
        (λ b v h.
        by_ret d (cut_to c.locals b) (taken_off (steps_of given) (l + own) v)
        (ap (taken_off (steps_of given) (l + own)) h.0 ∙ taken_off_is (l + own) (at self aside turns b)
        ∙ ap (at self aside turns) (cut_is (l + own) a b (h.1 ∙ omega (arith, e)) ∙ ap (λ x. record b { locals = x }) (sym (take_take (length a.locals) (length c.locals) b.locals (omega (arith, e)))))))

    whole : (a : Here) → Sim given (Is self aside turns) d (list given is self a) ((listed (steps_of given) 0 (act_at m is)).does (at self aside turns a))
    whole a =
        let l = (act_at m is).locals in
        by_then (λ b. Ret (cut_to a.locals b)) (λ st. Ret (taken_off (steps_of given) (l + 0) st)) (with_lengths a)
        (λ b v h.
        by_ret d (cut_to a.locals b) (taken_off (steps_of given) (l + 0) v)
        (ap (taken_off (steps_of given) (l + 0)) h.0 ∙ taken_off_is (l + 0) (at self aside turns b)
        ∙ ap (at self aside turns) (cut_is (l + 0) a b (h.1 ∙ omega arith))))

  -- A list is called, where the code goes on with it.

  module _ (Then : Here → Working → Type 0) (m : ℕ) (is : List Instr) (self : Self) (aside : List (List Atom)) (turns : List ℕ) (deep : body_nesting is ≤ m) (k : Here → Does) (j : Working → Nest_does given) where
    pub ask_own : (n : ℕ) → Lists n → (own : ℕ) (a c : Here) → length c.locals ≡ length a.locals + own
        → ((r : Here) → Sim given Then n (k r) (j (at self aside turns (cut_to a.locals r))))
        → Sim given Then n (Ask (Body is self c) k) (and_then ((listed (steps_of given) own (act_at m is)).does (at self aside turns c)) j)
    ask_own zero h own a c e g = at_none (Body is self c) k (and_then ((listed (steps_of given) own (act_at m is)).does (at self aside turns c)) j)
    ask_own (suc d) h own a c e g =
        by_call (Body is self c) k ((listed (steps_of given) own (act_at m is)).does (at self aside turns c)) j
        (ended d (h d (omega arith)) m is self aside turns deep own a c e)
        (λ r v q. subst (λ z. Sim given Then (suc d) (k r) (j z)) (sym q) (g r))

    pub ask_list : (n : ℕ) → Lists n → (a : Here) → ((r : Here) → Sim given Then n (k r) (j (at self aside turns r)))
        → Sim given Then n (Ask (Body is self a) k) (and_then ((listed (steps_of given) 0 (act_at m is)).does (at self aside turns a)) j)
    ask_list zero h a g = at_none (Body is self a) k (and_then ((listed (steps_of given) 0 (act_at m is)).does (at self aside turns a)) j)
    ask_list (suc d) h a g =
        by_call (Body is self a) k ((listed (steps_of given) 0 (act_at m is)).does (at self aside turns a)) j
        (whole d (h d (omega arith)) m is self aside turns deep a)
        (λ r v q. subst (λ z. Sim given Then (suc d) (k r) (j z)) (sym q) (g r))

  pub ask_alone : (n : ℕ) → Lists n → (m : ℕ) (is : List Instr) (self : Self) (aside : List (List Atom)) (turns : List ℕ) → body_nesting is ≤ m → (a : Here)
      → Sim given (Is self aside turns) n (Ask (Body is self a) Ret) ((listed (steps_of given) 0 (act_at m is)).does (at self aside turns a))
  ask_alone n h m is self aside turns deep a =
      subst (λ y. Sim given (Is self aside turns) n (Ask (Body is self a) Ret) y) (and_then_ret ((listed (steps_of given) 0 (act_at m is)).does (at self aside turns a)))
      (ask_list (Is self aside turns) m is self aside turns deep Ret (λ v. Ret v) n h a (λ r. by_ret n r (at self aside turns r) refl))

  -- Instructions.

  module _ (n : ℕ) (h : Lists n) (m : ℕ) (i : Instr) (self : Self) (aside : List (List Atom)) (turns : List ℕ) where
    abbrev Rel : Here → Working → Type 0
    Rel b v = v ≡ at self aside turns b

    abbrev w_of : Here → Working
    w_of a = at self aside turns a

    -- what the first layer does, and what its operations do
    abbrev Does_so : Here → Instr-F Instr When → Type 0
    Does_so a x =
        Sim given Rel n (spend (place x) a.state (λ st. acts_as given x self (with_state a st))) ((act_by (steps_of given) (acts_within (steps_of given) m) i (inner_layer x)).does (w_of a))

    pub single : (a : Here) (x : Instr-F Instr When) → out-Instr (bare i) ≡ x
        → Sim given Rel n (spend (place x) a.state (λ st. acts_as given x self (with_state a st))) (renamed Plain (single_by given (out-Instr (bare i)) (w_of a)))
    single a x e =
        subst (λ y. Sim given Rel n (spend (place x) a.state (λ st. acts_as given x self (with_state a st))) (renamed Plain (single_by given y (w_of a)))) (sym e)
        (copied given Plain (nest given) (λ q. refl) n (spend (place x) a.state (λ st. acts_as given x self (with_state a st))) (w_of a))

    -- parts are put behind a list
    behind : (spot : Place) (parts : List Part) (w : Working) → Sim given (λ b v. v ≡ stands_at w b) n (put_parts given spot parts w.here) (renamed Plain (by_given w (put_parts given spot parts w.here)))
    behind spot parts w = copied given Plain (nest given) (λ q. refl) n (put_parts given spot parts w.here) w

    around_is : (spot : Place) (first : List Part) (list : List Instr) (last : List Part) (a : Here)
        → and_then (put_parts given spot first a) (λ b. Ask (Body list self b) (λ c. put_parts given spot last c)) ≡ put_around given spot first list last self a
    around_is spot first list last a = puts_then given spot first a.state (λ st. Ret (with_state a st)) (λ b. Ask (Body list self b) (λ c. put_parts given spot last c))

    module _ (list : List Instr) (deep : body_nesting list ≤ m) where
      abbrev inside : Working → Nest_does given
      inside = (listed (steps_of given) 0 (act_at m list)).does

      -- a list between parts
      around : (spot : Place) (first last : List Part) (a : Here) (inside_aside : List (List Atom)) (j : Working → Nest_does given)
          → ((c : Here) → Sim given Rel n (put_parts given spot last c) (j (at self inside_aside turns c)))
          → Sim given Rel n (put_around given spot first list last self a)
          (decided (outcome_of (put_parts given spot first a) (λ b. Holds [] (at self inside_aside turns b))) (before inside j) (λ st. Ret st))
      around spot first last a inside_aside j g =
          let k : Here → Does = λ b. Ask (Body list self b) (λ c. put_parts given spot last c) in
          let go : Here → Outcome = λ b. Holds [] (at self inside_aside turns b) in
          subst (λ y. Sim given Rel n y (decided (outcome_of (put_parts given spot first a) go) (before inside j) (λ st. Ret st))) (around_is spot first list last a)
          (outcome_decided given Rel n (before inside j) (λ st. Ret st) (put_parts given spot first a) (parts_free given spot first a) k go
          (λ b. ask_list Rel m list self inside_aside turns deep (λ c. put_parts given spot last c) j n h b g))

      -- an instruction round a list, by what it is without the list
      pub round : (a : Here) (x y : Instr-F Instr When) → out-Instr (bare i) ≡ y
          → Sim given Rel n (spend (place x) a.state (λ st. acts_as given x self (with_state a st)))
          (decided (spent (place y) a (λ b. opens_by given y (w_of a) b)) (before inside (λ st. renamed Plain (closes_by given y st))) (λ st. Ret st))
          → Sim given Rel n (spend (place x) a.state (λ st. acts_as given x self (with_state a st))) ((round_act (steps_of given) (bare i) (listed (steps_of given) 0 (act_at m list))).does (w_of a))
      round a x y e s =
          subst (λ z. Sim given Rel n (spend (place x) a.state (λ st. acts_as given x self (with_state a st)))
          (decided (spent (place z) a (λ b. opens_by given z (w_of a) b)) (before inside (λ st. renamed Plain (closes_by given z st))) (λ st. Ret st)))
          (sym e) s

      pub literal : (a : Here) (name : Name) (attrs : List LiteralAttr) (spot : Place)
          → Sim given Rel n (spend spot a.state (λ st. acts_as given (Instr-F.Literal name attrs list spot) self (with_state a st)))
          (decided (spent spot a (λ b. opens_by given (Instr-F.Literal name attrs [] spot) (w_of a) b)) (before inside (λ st. renamed Plain (closes_by given (Instr-F.Literal name attrs [] spot) st))) (λ st. Ret st))
      literal a name attrs spot =
          let j : Working → Nest_does given = λ st. renamed Plain (by_given st (put_parts given spot (part.End name ∷ []) st.here)) in
          let first : List Attr → List Part = λ as_. part.Start name [] ∷ map attribute_part as_ in
          spent_decided given Rel n (before inside j) (λ st. Ret st) spot a (λ st. acts_as given (Instr-F.Literal name attrs list spot) self (with_state a st)) (λ b. opens_by given (Instr-F.Literal name attrs [] spot) (w_of a) b)
          (λ st. got_decided given Rel n (before inside j) (λ st. Ret st) spot (outcome.each (attribute_of (setting given self (with_state a st))) attrs)
          (λ as_. put_around given spot (first as_) list (part.End name ∷ []) self (with_state a st))
          (λ as_. outcome_of (put_parts given spot (first as_) (with_state a st)) (λ b. Holds [] (w_of b)))
          (λ as_. around spot (first as_) (part.End name ∷ []) (with_state a st) aside j (λ c. behind spot (part.End name ∷ []) (w_of c))))

      pub copy : (a : Here) (attributes : Option Pattern) (spot : Place)
          → Sim given Rel n (spend spot a.state (λ st. acts_as given (Instr-F.Copy attributes list spot) self (with_state a st)))
          (decided (spent spot a (λ b. opens_by given (Instr-F.Copy attributes [] spot) (w_of a) b)) (before inside (λ st. renamed Plain (closes_by given (Instr-F.Copy attributes [] spot) st))) (λ st. Ret st))
      copy a attributes spot =
          spent_decided given Rel n (before inside j) (λ st. Ret st) spot a (λ st. acts_as given (Instr-F.Copy attributes list spot) self (with_state a st)) (λ b. opens_by given (Instr-F.Copy attributes [] spot) (w_of a) b)
          (λ st. of_node (with_state a st) (current self.trail) refl)
        where
          j : Working → Nest_does given
          j st = renamed Plain (by_given st (put_parts given spot (copy_end (current st.self.trail)) st.here))

          leaf : (b : Here) (parts : List Part) → Sim given Rel n (put_parts given spot parts b) (decided (outcome_of (put_parts given spot parts b) (λ c. Fails [] (w_of c))) (before inside j) (λ st. Ret st))
          leaf b parts =
              subst (λ y. Sim given Rel n y (decided (outcome_of (put_parts given spot parts b) (λ c. Fails [] (w_of c))) (before inside j) (λ st. Ret st))) (and_then_ret (put_parts given spot parts b))
              (outcome_decided given Rel n (before inside j) (λ st. Ret st) (put_parts given spot parts b) (parts_free given spot parts b) (λ c. Ret c) (λ c. Fails [] (w_of c)) (λ c. by_ret n c (w_of c) refl))

          of_node : (b : Here) (node : Node) → current self.trail ≡ node
              → Sim given Rel n (copied_node given spot attributes list self b node) (decided (copy_opens given spot attributes (w_of a) b node) (before inside j) (λ st. Ret st))
          of_node b Document q =
              ask_list Rel m list self aside turns deep (λ c. Ret c) j n h b
              (λ c. subst (λ z. Sim given Rel n (Ret c) (renamed Plain (by_given (w_of c) (put_parts given spot (copy_end z) c)))) (sym q) (by_ret n c (w_of c) refl))
          of_node b (Element name attrs decls first) q =
              around spot (start_parts self.trail name (passing attributes attrs)) (part.End name ∷ []) b aside j
              (λ c. subst (λ z. Sim given Rel n (put_parts given spot (part.End name ∷ []) c) (renamed Plain (by_given (w_of c) (put_parts given spot (copy_end z) c)))) (sym q) (behind spot (part.End name ∷ []) (w_of c)))
          of_node b (Chars text) q = leaf b (copy_parts (Chars text))
          of_node b (CData text) q = leaf b (copy_parts (CData text))
          of_node b (Comment text) q = leaf b (copy_parts (Comment text))
          of_node b (Pi target text) q = leaf b (copy_parts (Pi target text))
          of_node b (Attribute x) q = leaf b (copy_parts (Attribute x))

      pub element : (a : Here) (name : Avt) (namespace : Option Avt) (scope : List Binding) (spot : Place)
          → Sim given Rel n (spend spot a.state (λ st. acts_as given (Instr-F.Element name namespace scope list spot) self (with_state a st)))
          (decided (spent spot a (λ b. opens_by given (Instr-F.Element name namespace scope [] spot) (w_of a) b)) (before inside (λ st. renamed Plain (closes_by given (Instr-F.Element name namespace scope [] spot) st))) (λ st. Ret st))
      element a name namespace scope spot =
          spent_decided given Rel n (before inside j) (λ st. Ret st) spot a (λ st. acts_as given (Instr-F.Element name namespace scope list spot) self (with_state a st)) (λ b. opens_by given (Instr-F.Element name namespace scope [] spot) (w_of a) b)
          (λ st. got_decided given Rel n (before inside j) (λ st. Ret st) spot (template_text name (setting given self (with_state a st))) (first_then st) (first_out st)
          (λ text. got_decided given Rel n (before inside j) (λ st. Ret st) spot (namespace_text namespace (setting given self (with_state a st))) (λ uri. named_then st (computed_name true scope uri text))
          (λ uri. element_opens given spot (computed_name true scope uri text) (w_of a) (with_state a st))
          (λ uri. of_name st (computed_name true scope uri text))))
        where
          j : Working → Nest_does given
          j st = renamed Plain (by_given (takes_up st) (put_parts given spot (part.End (tagged (last_aside st.aside)) ∷ []) st.here))

          named_then : State → Option Name → Does
          named_then st o = elim o [ None ↦ Halt (fault_at run_code.BadName spot) | Some x ↦ put_around given spot (part.Start x [] ∷ []) list (part.End x ∷ []) self (with_state a st) ]

          first_then : State → List ℕ → Does
          first_then st text = got spot (namespace_text namespace (setting given self (with_state a st))) (λ uri. named_then st (computed_name true scope uri text))

          first_out : State → List ℕ → Outcome
          first_out st text = valued spot (namespace_text namespace (setting given self (with_state a st))) (λ uri. element_opens given spot (computed_name true scope uri text) (w_of a) (with_state a st))

          of_name : (st : State) (o : Option Name) → Sim given Rel n (named_then st o) (decided (element_opens given spot o (w_of a) (with_state a st)) (before inside j) (λ st. Ret st))
          of_name st None = by_halt n (fault_at run_code.BadName spot)
          of_name st (Some x) =
              around spot (part.Start x [] ∷ []) (part.End x ∷ []) (with_state a st) (tag_of x ∷ aside) j (λ c. behind spot (part.End x ∷ []) (w_of c))

      pub buffer : (a : Here) (name : Name) (clear : Bool) (spot : Place)
          → Sim given Rel n (spend spot a.state (λ st. acts_as given (Instr-F.ResultBuffer name clear list spot) self (with_state a st)))
          (decided (spent spot a (λ b. opens_by given (Instr-F.ResultBuffer name clear [] spot) (w_of a) b)) (before inside (λ st. renamed Plain (closes_by given (Instr-F.ResultBuffer name clear [] spot) st))) (λ st. Ret st))
      buffer a name clear spot =
          spent_decided given Rel n (before inside j) (λ st. Ret st) spot a (λ st. acts_as given (Instr-F.ResultBuffer name clear list spot) self (with_state a st)) (λ b. opens_by given (Instr-F.ResultBuffer name clear [] spot) (w_of a) b)
          (λ st. of_id (with_state a st) (buffer_seen given.sheet self.group name) refl)
        where
          j : Working → Nest_does given
          j st = renamed Plain (buffer_closes spot (buffer_seen given.sheet st.self.group name) st)

          of_id : (b : Here) (o : Option ℕ) → buffer_seen given.sheet self.group name ≡ o
              → Sim given Rel n (writes given spot o clear list self b) (decided (buffer_opens spot o clear (w_of a) b) (before inside j) (λ st. Ret st))
          of_id b None q = by_ret n b (w_of b) refl
          of_id b (Some id) q =
              let c = with_state b (begins_writing id clear b.state) in
              let shut : Here → Does = λ r. unless_refused (unclosed_at r.state.buffers id) spot (Ret (with_state r (ends_writing id r.state))) in
              refused_decided given Rel n (before inside j) (λ st. Ret st) (busy_at b.state.buffers id) spot (Ask (Body list self c) shut) (Holds [] (w_of c))
              (ask_list Rel m list self aside turns deep shut j n h c
              (λ r. subst (λ o. Sim given Rel n (shut r) (renamed Plain (buffer_closes spot o (w_of r)))) (sym q) (copied given Plain (nest given) (λ q. refl) n (shut r) (w_of r))))

    -- Choices.

    pub tested : (a : Here) (x y : Instr-F Instr When) → out-Instr (bare i) ≡ y → (held failed : Working → Nest_does given)
        → Sim given Rel n (spend (place x) a.state (λ st. acts_as given x self (with_state a st))) (decided (test_by given y 0 (w_of a)) held failed)
        → Sim given Rel n (spend (place x) a.state (λ st. acts_as given x self (with_state a st))) (decided ((steps_of given).test (bare i) 0 (w_of a)) held failed)
    tested a x y e held failed s =
        subst (λ z. Sim given Rel n (spend (place x) a.state (λ st. acts_as given x self (with_state a st))) (decided (test_by given z 0 (w_of a)) held failed)) (sym e) s

    either : (x y : Does) (w : Working) (held failed : Working → Nest_does given) → Sim given Rel n x (held w) → Sim given Rel n y (failed w)
        → (holds : Bool) → Sim given Rel n (if holds then x else y) (decided (decides holds w) held failed)
    either x y w held failed s t true = s
    either x y w held failed s t false = t

    pub if_else : (a : Here) (test : Expr) (list other : List Instr) (spot : Place) → body_nesting list ≤ m → body_nesting other ≤ m
        → Sim given Rel n (spend spot a.state (λ st. acts_as given (Instr-F.If test list other spot) self (with_state a st)))
        (decided (test_by given (Instr-F.If test [] [] spot) 0 (w_of a)) (listed (steps_of given) 0 (act_at m list)).does (listed (steps_of given) 0 (act_at m other)).does)
    if_else a test list other spot deep low =
        spent_decided given Rel n held failed spot a (λ st. acts_as given (Instr-F.If test list other spot) self (with_state a st)) (λ b. asks given spot test (w_of b))
        (λ st. got_decided given Rel n held failed spot (truth_of test (setting given self (with_state a st))) (λ holds. Ask (Body (if holds then list else other) self (with_state a st)) Ret) (λ holds. decides holds (w_of (with_state a st)))
        (of_test (with_state a st)))
      where
        held : Working → Nest_does given
        held = (listed (steps_of given) 0 (act_at m list)).does

        failed : Working → Nest_does given
        failed = (listed (steps_of given) 0 (act_at m other)).does

        of_test : (b : Here) (holds : Bool) → Sim given Rel n (Ask (Body (if holds then list else other) self b) Ret) (decided (decides holds (w_of b)) held failed)
        of_test b true = ask_alone n h m list self aside turns deep b
        of_test b false = ask_alone n h m other self aside turns low b

    module _ (whens : List When) (other : List Instr) (spot : Place) (e : out-Instr (bare i) ≡ Instr-F.Choose (map bare_when whens) [] spot) (low : body_nesting other ≤ m) where
      abbrev pub last : Act Job Working Said Ending
      last = listed (steps_of given) 0 (act_at m other)

      abbrev pub arms : List When → List (Act Job Working Said Ending)
      arms ws = map (λ b. listed (steps_of given) 0 (act_at m b)) (map (λ (w : When). w.body) ws)

      pub chosen : (done ws : List When) (arm : ℕ) → arm ≡ length done → whens ≡ done ++ ws → body_nesting (joined (map (λ (w : When). w.body) ws)) ≤ m → (b : Here)
          → Sim given Rel n (choose given spot ws other self b) (branch_acts (steps_of given) (bare i) arm (arms ws) last (w_of b))
      chosen done [] arm p q deep b = ask_alone n h m other self aside turns low b
      chosen done (x ∷ xs) arm p q deep b =
          let parted = body_nesting-append x.body (joined (map (λ (w : When). w.body) xs)) in
          let held : Working → Nest_does given = (listed (steps_of given) 0 (act_at m x.body)).does in
          let failed : Working → Nest_does given = branch_acts (steps_of given) (bare i) (suc arm) (arms xs) last in
          let one = Ask (Body x.body self b) Ret in
          let others = choose given spot xs other self b in
          let is : slice_get (map bare_when whens) arm ≡ Some (bare_when x) =
          slice_get-map bare_when whens arm ∙ ap (λ l. option_map bare_when (slice_get l arm)) q ∙ ap (λ n. option_map bare_when (slice_get (done ++ x ∷ xs) n)) p ∙ ap (option_map bare_when) (at_seam done x xs) in
          subst (λ y. Sim given Rel n (choose given spot (x ∷ xs) other self b) (decided (test_by given y arm (w_of b)) held failed)) (sym e)
          (subst (λ o. Sim given Rel n (choose given spot (x ∷ xs) other self b) (decided (arm_asks given spot o (w_of b)) held failed)) (sym is)
          (got_decided given Rel n held failed spot (truth_of x.test (setting given self b)) (λ holds. if holds then one else others) (λ holds. decides holds (w_of b))
          (either one others (w_of b) held failed (ask_alone n h m x.body self aside turns (omega (arith, parted, deep)) b)
          (chosen (done ++ x ∷ []) xs (suc arm) (omega (arith, p, length-append done (x ∷ []))) (q ∙ sym (append_assoc done (x ∷ []) xs)) (omega (arith, parted, deep)) b))))
