-- Parameters become the first locals of a body, as the definition binds them.
use Rattle.std.proofs.Common.{◌≡◌, ◌≢◌, ◌<◌, ◌≤◌, ℕ, zero, suc, ◌+◌, ◌-◌, Bool, true, cond, not, List, [], ◌∷◌, ◌++◌, length, map, drop, reverse, Option, Some, None, Result, Ok, Err, IsSome, refl, ap, sym, subst, ◌∙◌, arith, append_assoc, append-nil, length-append, length-drop, nat_lt}
use Rattle.std.specs.Prelude.{find, option_map, position, slice_get, unwrap_or}
use Rattle.std.specs.List.{position_or_len}
use Rattle.std.specs.Option.{option_and_then, option_map_or}
use Rattle.std.proofs.lemmas.List.{length-reverse}
use Rattle.std.proofs.lemmas.List.Folds.{find_at}
use Rattle.std.proofs.lemmas.Option.{slice_get-map, slice_get_past}
use Rattle.frame_stack.specs.Change.{locals_of, with_locals}
use Rattle.frame_stack.specs.declared.frame.Frame.{Frame}
use Rattle.frame_stack.specs.declared.frame.Frame.TheVariants.{Attributes, Body, Call, Loop, Pass, Region, Skip, Source}
use Rattle.frame_stack.specs.declared.locals.Local.{Local}
use Rattle.node_stack.specs.Path.{PathNode, kind_of}
use Rattle.node_stack.specs.Stack.{path}
use Rattle.node_stack.specs.Test.{passes}
use Rattle.sheet_model.specs.Names.{is_same}
use Rattle.sheet_model.specs.Parts.{handed}
use Rattle.sheet_model.specs.declared.instr.Instr.{Instr}
use Rattle.sheet_model.specs.declared.instr.Instr.TheViews.{out-Instr}
use Rattle.sheet_model.specs.declared.instr.WithParam.{WithParam}
use Rattle.sheet_model.specs.declared.sheet.Variable.{Variable}
use Rattle.stx_base.specs.declared.fault.Place.{Place}
use Rattle.stx_base.specs.declared.name.Name.{Name}
use Rattle.stx_base.specs.declared.node.NodeTest.TheVariants as test
use Rattle.stxpath_eval.specs.Setting.{Setting}
use Rattle.stxpath_values.specs.declared.fault.EvalFault.{EvalFault}
use Rattle.stxpath_values.specs.declared.value.Atom.{Atom}
use Rattle.var_store.specs.Variables.{bound, is_called, value_of}
use Rattle.var_store.specs.declared.bound.Bound.{Bound}
use Rattle.template_machine.specs.Bodies.{body_in, level_of, pc_of}
use Rattle.template_machine.specs.Called.{HasName, HasNames}
use Rattle.template_machine.specs.Declaring.{binds, parameter_value}
use Rattle.template_machine.specs.Job.{Does, Given, Here}
use Rattle.template_machine.specs.Made.{BindsParams, HandsValues, WaitFor}
use Rattle.template_machine.specs.Parameters.{Binds, CanBind, HasBound, PushesLocal, handed_by, here_with, self_on}
use Rattle.template_machine.specs.Programs.{IsProgramOf, instr_at}
use Rattle.template_machine.specs.Saying.{Gave, SeesAs, Yields, sight}
use Rattle.template_machine.specs.Seen.{named_of}
use Rattle.template_machine.specs.Steps.{test_in}
use Rattle.template_machine.specs.Still as still
use Rattle.template_machine.specs.Values.{got, selected, setting}
use Rattle.template_machine.specs.declared.program.Program.{Program}
use Rattle.template_machine.specs.declared.run.Asker.{Asker}
use Rattle.template_machine.specs.declared.run.Asker.TheVariants as asker
use Rattle.template_machine.specs.declared.run.Run.{Run}
use Rattle.template_machine.specs.declared.source.Ahead.TheVariants as ahead
use Rattle.template_machine.specs.declared.stop.Stop.{Stop}
use Rattle.template_machine.specs.declared.stop.Stop.TheVariants as stop
use Rattle.template_machine.proofs.Aside.{aside_kept, named_pushed}
use Rattle.template_machine.proofs.FirstPlace.{no_place, some_place}
use Rattle.template_machine.proofs.Saying.{got_yields, yields_by}
use Rattle.template_machine.proofs.Sighted.{texts_see_nodes}
use Rattle.template_machine.proofs.Sighting.{sees_so}
use Rattle.template_machine.proofs.Taking.{other_place}
use Rattle.template_machine.proofs.Tops.{top_frame}

-- The values that wait for parameters.

module _ (given : Given) (p : Program) (name : Name) where
  abbrev waits : List WithParam → List Local → List Bound
  waits names ls = still.handed_bounds given p names ls

  abbrev is_it : WithParam → Bool
  is_it w = is_same w.name name

  slots_same : (names : List WithParam) (ls : List Local) → length names ≤ length ls → position_or_len (is_called name) (waits names ls) ≡ position_or_len is_it names
  slots_same [] ls long = refl
  slots_same (w ∷ ws) [] long = absurd (omega (arith, long))
  slots_same (w ∷ ws) (x ∷ xs) long = ap (λ n. cond (not (is_it w)) (1 + n) 0) (slots_same ws xs (omega (arith, long)))

  as_many : (names : List WithParam) (ls : List Local) → length names ≤ length ls → length (waits names ls) ≡ length names
  as_many [] ls long = refl
  as_many (w ∷ ws) [] long = absurd (omega (arith, long))
  as_many (w ∷ ws) (x ∷ xs) long = ap suc (as_many ws xs (omega (arith, long)))

  value_at : (names : List WithParam) (ls : List Local) (k : ℕ) (v : List Atom) → length names ≤ length ls → k < length names → slice_get (map (λ (x : Local). x.value) ls) k ≡ Some v
      → slice_get (map (λ (b : Bound). b.value) (waits names ls)) k ≡ Some v
  value_at [] ls k v long less at = absurd (omega (arith, less))
  value_at (w ∷ ws) [] k v long less at = absurd (omega (arith, long))
  value_at (w ∷ ws) (x ∷ xs) zero v long less at = at
  value_at (w ∷ ws) (x ∷ xs) (suc k) v long less at = value_at ws xs k v (omega (arith, long)) (omega (arith, less)) at

  pub waits_value : (names : List WithParam) (ls : List Local) (k : ℕ) (v : List Atom) → length names ≤ length ls → position is_it names ≡ Some k
      → slice_get (map (λ (x : Local). x.value) ls) k ≡ Some v → value_of name (waits names ls) ≡ Some v
  waits_value names ls k v long there at =
      let n = position_or_len is_it names in
      let h = some_place (nat_lt n (length names)) n (length names) k refl there in
      ap (option_map (λ (b : Bound). b.value)) (find_at (is_called name) (waits names ls)) ∙ sym (slice_get-map (λ (b : Bound). b.value) (waits names ls) (position_or_len (is_called name) (waits names ls)))
      ∙ ap (slice_get (map (λ (b : Bound). b.value) (waits names ls))) (slots_same names ls long ∙ h.0) ∙ value_at names ls k v long h.1 at

  pub waits_none : (names : List WithParam) (ls : List Local) → length names ≤ length ls → position is_it names ≡ None → value_of name (waits names ls) ≡ None
  waits_none names ls long there =
      let n = position_or_len is_it names in
      let past : length names ≤ n = no_place (nat_lt n (length names)) n (length names) refl there in
      let same = slots_same names ls long in
      let many = as_many names ls long in
      ap (option_map (λ (b : Bound). b.value)) (find_at (is_called name) (waits names ls))
      ∙ ap (option_map (λ (b : Bound). b.value)) (slice_get_past (waits names ls) (position_or_len (is_called name) (waits names ls)) (omega (arith, past, same, many)))

behind_at : (ls : List Local) (n k : ℕ) → slice_get (map (λ (x : Local). x.value) (drop n ls)) k ≡ slice_get (map (λ (x : Local). x.value) ls) (n + k)
behind_at ls zero k = (let same : k ≡ 0 + k = omega arith in ap (slice_get (map (λ (x : Local). x.value) ls)) same)
behind_at [] (suc n) k = none (suc n + k)
  where
    none : (i : ℕ) → None ≡ slice_get {X = List Atom} [] i
    none zero = refl
    none (suc i) = refl
behind_at (x ∷ xs) (suc n) k = (let more : suc (n + k) ≡ suc n + k = omega arith in behind_at xs n k ∙ ap (slice_get (map (λ (y : Local). y.value) (x ∷ xs))) more)

module _ (given : Given) (p : Program) (r : Run) (asked body : ℕ) (name : Name) (i : Instr) (ls : List Local) (is : instr_at p.code asked ≡ Some i)
    (there : option_map locals_of (slice_get r.frames.frames body) ≡ Some ls) (long : length (handed (out-Instr i)) ≤ length ls) where
  own : (o : Option Frame) → option_map locals_of o ≡ Some ls → option_map_or locals_of o [] ≡ ls
  own None e = absurd (cc)
  own (Some x) e = one e
    where
      one : {A : Type 0} {x y : A} → Some x ≡ Some y → x ≡ y
      one e = cc

  handed_is : handed_by given p r (asker.Instr asked body) ≡ still.handed_bounds given p (handed (out-Instr i)) (drop (length ls - length (handed (out-Instr i))) ls)
  handed_is = ap (λ o. still.values_handed given p o (option_map_or locals_of (slice_get r.frames.frames body) [])) is ∙ ap (still.values_handed given p (Some i)) (own (slice_get r.frames.frames body) there)

  fits : length (handed (out-Instr i)) ≤ length (drop (length ls - length (handed (out-Instr i))) ls)
  fits = omega (arith, length-drop (length ls - length (handed (out-Instr i))) ls, long)

  pub waiting_is : (k : ℕ) (v : List Atom) → position (λ (w : WithParam). is_same w.name name) (handed (out-Instr i)) ≡ Some k
      → slice_get (map (λ (x : Local). x.value) ls) (length ls - length (handed (out-Instr i)) + k) ≡ Some v → Some v ≡ value_of name (handed_by given p r (asker.Instr asked body))
  waiting_is k v at value =
      sym
      (ap (value_of name) handed_is
      ∙ waits_value given p name (handed (out-Instr i)) (drop (length ls - length (handed (out-Instr i))) ls) k v fits at (behind_at ls (length ls - length (handed (out-Instr i))) k ∙ value))

  pub none_waits : position (λ (w : WithParam). is_same w.name name) (handed (out-Instr i)) ≡ None → None ≡ value_of name (handed_by given p r (asker.Instr asked body))
  none_waits at =
      sym (ap (value_of name) handed_is ∙ waits_none given p name (handed (out-Instr i)) (drop (length ls - length (handed (out-Instr i))) ls) fits at)

-- What is found for a parameter among the locals of the body that asked.
module _ (given : Given) (p : Program) (r : Run) (asked body : ℕ) (name : Name) (i : Instr) (names : List WithParam) (hands : HandsValues p r asked body) (is : instr_at p.code asked ≡ Some i)
    (all : names ≡ handed (out-Instr i)) where
  the_one : {A : Type 0} (x y : A) → Some x ≡ Some y → x ≡ y
  the_one x y e = cc

  long_enough : (ls : List Local) → option_map locals_of (slice_get r.frames.frames body) ≡ Some ls → length (handed (out-Instr i)) ≤ length ls
  long_enough ls there =
      let same : hands.instr ≡ i = the_one hands.instr i (sym hands.asks ∙ is) in
      let own : locals_of hands.frame ≡ ls = the_one (locals_of hands.frame) ls (sym (ap (option_map locals_of) hands.there) ∙ there) in
      subst (λ (l : List Local). length (handed (out-Instr i)) ≤ length l) own (subst (λ (j : Instr). length (handed (out-Instr j)) ≤ length (locals_of hands.frame)) same hands.long)

  pub waiting_found : (ls : List Local) (n k : ℕ) (v : List Atom) → option_map locals_of (slice_get r.frames.frames body) ≡ Some ls → n ≡ length ls
      → position (λ (w : WithParam). is_same w.name name) names ≡ Some k → slice_get (map (λ (x : Local). x.value) ls) (n - length names + k) ≡ Some v
      → Some v ≡ value_of name (handed_by given p r (asker.Instr asked body))
  waiting_found ls n k v there long at value =
      waiting_is given p r asked body name i ls is there (long_enough ls there) k v (subst (λ (l : List WithParam). position (λ (w : WithParam). is_same w.name name) l ≡ Some k) all at)
      (subst (λ (l : List WithParam). slice_get (map (λ (x : Local). x.value) ls) (length ls - length l + k) ≡ Some v) all
      (subst (λ m. slice_get (map (λ (x : Local). x.value) ls) (m - length names + k) ≡ Some v) long value))

  pub none_found : position (λ (w : WithParam). is_same w.name name) names ≡ None → None ≡ value_of name (handed_by given p r (asker.Instr asked body))
  none_found at =
      let there : option_map locals_of (slice_get r.frames.frames body) ≡ Some (locals_of hands.frame) = ap (option_map locals_of) hands.there in
      none_waits given p r asked body name i (locals_of hands.frame) is there (long_enough (locals_of hands.frame) there)
      (subst (λ (l : List WithParam). position (λ (w : WithParam). is_same w.name name) l ≡ None) all at)

-- Parameters that are bound leave them as they are.
pub handed_same : (given : Given) (p : Program) (vs : List Variable) (a b : Run) (x : Asker) → BindsParams vs a b → WaitFor p a x → handed_by given p b x ≡ handed_by given p a x
handed_same given p vs a b asker.Root binds w = refl
handed_same given p vs a b (asker.Pass base) binds w = refl
handed_same given p vs a b (asker.Instr asked body) binds w =
    ap (λ o. still.values_handed given p (instr_at p.code asked) (option_map_or locals_of o []))
    (ap (λ (r : Run). slice_get r.frames.frames body) binds.rest
    ∙ other_place (with_locals (λ ls. ls ++ binds.locals)) (length a.frames.frames - 1) body a.frames.frames (omega (arith, w.below)))

-- the top frame is a body
pub body_on_top : (xs : List Frame) (level : ℕ) → option_and_then level_of (slice_get xs (length xs - 1)) ≡ Some level → body_in (reverse xs) ≡ Some (length xs - 1)
body_on_top xs level is = by (slice_get xs (length xs - 1)) refl is
  where
    on : (x : Frame) (gs : List Frame) → reverse xs ≡ x ∷ gs → (m : ℕ) → level_of x ≡ Some m → body_in (reverse xs) ≡ Some (length xs - 1)
    on (Body template alternative pc locals own spent) gs e m has = (let long : length gs ≡ length xs - 1 = omega (arith, ap length e, length-reverse xs) in ap body_in e ∙ ap (λ n. Some n) long)
    on (Call procedure pc locals own) gs e m has = (let long : length gs ≡ length xs - 1 = omega (arith, ap length e, length-reverse xs) in ap body_in e ∙ ap (λ n. Some n) long)
    on (Loop turn) gs e m has = absurd (cc)
    on (Region asked own) gs e m has = absurd (cc)
    on (Attributes next asked) gs e m has = absurd (cc)
    on (Source buffer next asked) gs e m has = absurd (cc)
    on (Skip depth) gs e m has = absurd (cc)
    on (Pass base own spent) gs e m has = absurd (cc)

    by : (o : Option Frame) → slice_get xs (length xs - 1) ≡ o → option_and_then level_of o ≡ Some level → body_in (reverse xs) ≡ Some (length xs - 1)
    by None e has = absurd (cc)
    by (Some x) e has = let t = top_frame xs x e in on x t.0 t.1 level has

-- What a parameter gets.

pub value_given : (given : Given) (at : Place) (r : Result (Option (List Atom)) Stop) (v : Variable) (o : Option (List Atom)) (value : List Atom) (g : Setting) → Some value ≡ o
    → Gave {A = List Atom} at (Ok value) (parameter_value given o v g)
value_given given at r v o value g is = ap (λ x. parameter_value given x v g) (sym is)

pub value_made : (given : Given) (at : Place) (r : Result (List Atom) Stop) (v : Variable) (o : Option (List Atom)) (g : Setting) → None ≡ o → Gave at r (selected v.select g)
    → Gave at r (parameter_value given o v g)
value_made given at r v o g is gave = subst (λ x. Gave at r (parameter_value given x v g)) is gave

-- Frames under the one on top.

under_top : (ys : List Frame) (x y : Frame) (n : ℕ) → n < length ys → slice_get (ys ++ x ∷ []) n ≡ slice_get (ys ++ y ∷ []) n
under_top [] x y n less = absurd (omega (arith, less))
under_top (z ∷ ys) x y zero less = refl
under_top (z ∷ ys) x y (suc n) less = under_top ys x y n (omega (arith, less))

twice_more : (x : Frame) (ls ms : List Local) → with_locals (λ l. l ++ ms) (with_locals (λ l. l ++ ls) x) ≡ with_locals (λ l. l ++ (ls ++ ms)) x
twice_more (Body template alternative pc locals level spent) ls ms = ap (λ l. Body template alternative pc l level spent) (append_assoc locals ls ms)
twice_more (Call procedure pc locals level) ls ms = ap (λ l. Call procedure pc l level) (append_assoc locals ls ms)
twice_more (Loop turn) ls ms = refl
twice_more (Region asked level) ls ms = refl
twice_more (Attributes next asked) ls ms = refl
twice_more (Source buffer next asked) ls ms = refl
twice_more (Skip depth) ls ms = refl
twice_more (Pass base level spent) ls ms = refl

none_more : (x : Frame) → x ≡ with_locals (λ l. l ++ []) x
none_more (Body template alternative pc locals level spent) = ap (λ l. Body template alternative pc l level spent) (sym (append-nil locals))
none_more (Call procedure pc locals level) = ap (λ l. Call procedure pc l level) (sym (append-nil locals))
none_more (Loop turn) = refl
none_more (Region asked level) = refl
none_more (Attributes next asked) = refl
none_more (Source buffer next asked) = refl
none_more (Skip depth) = refl
none_more (Pass base level spent) = refl

-- None are bound yet.
pub bound_none : (p : Program) (params left : List Variable) (handed : Given → List Bound) (r : Run) → params ≡ left → HasBound p params left handed r r
bound_none p params left handed r same = record {
  locals = [];
  behind = λ x others e. e ∙ ap (λ y. y ∷ others) (none_more x);
  rest = refl;
  none = refl;
  does = λ given program b below pc on at a store go.
      ap (λ l. binds given l (handed given) (self_on given p r b below) (here_with a (locals_of b)) go) same
      ∙ ap (λ l. binds given left (handed given) (self_on given p r b below) (here_with a l) go) (sym (append-nil (locals_of b)));
}

-- What the body on top sees with the parameters so far.

module _ (p : Program) (params left : List Variable) (handed : Given → List Bound) (old mid : Run) (so : HasBound p params left handed old mid) (can : CanBind p params old) where
  abbrev more : Frame → Frame
  more b = with_locals (λ l. l ++ so.locals) b

  same_test : (fs : List Frame) (b : Frame) (below : List Frame) → fs ≡ b ∷ below → (gs : List Frame) → gs ≡ more b ∷ below → test_in p.sheet gs ≡ test_in p.sheet fs
  same_test fs (Body template alternative pc locals level spent) below e gs f = ap (test_in p.sheet) f ∙ sym (ap (test_in p.sheet) e)
  same_test fs (Call procedure pc locals level) below e gs f = ap (test_in p.sheet) f ∙ sym (ap (test_in p.sheet) e)
  same_test fs (Loop turn) below e gs f = ap (test_in p.sheet) f ∙ sym (ap (test_in p.sheet) e)
  same_test fs (Region asked level) below e gs f = ap (test_in p.sheet) f ∙ sym (ap (test_in p.sheet) e)
  same_test fs (Attributes next asked) below e gs f = ap (test_in p.sheet) f ∙ sym (ap (test_in p.sheet) e)
  same_test fs (Source buffer next asked) below e gs f = ap (test_in p.sheet) f ∙ sym (ap (test_in p.sheet) e)
  same_test fs (Skip depth) below e gs f = ap (test_in p.sheet) f ∙ sym (ap (test_in p.sheet) e)
  same_test fs (Pass base level spent) below e gs f = ap (test_in p.sheet) f ∙ sym (ap (test_in p.sheet) e)

  same_pc : (b : Frame) (pc : ℕ) → pc_of b ≡ Some pc → pc_of (more b) ≡ Some pc
  same_pc (Body template alternative q locals level spent) pc at = at
  same_pc (Call procedure q locals level) pc at = at
  same_pc (Loop turn) pc at = absurd (cc)
  same_pc (Region asked level) pc at = absurd (cc)
  same_pc (Attributes next asked) pc at = absurd (cc)
  same_pc (Source buffer next asked) pc at = absurd (cc)
  same_pc (Skip depth) pc at = absurd (cc)
  same_pc (Pass base level spent) pc at = absurd (cc)

  same_locals : (b : Frame) (pc : ℕ) → pc_of b ≡ Some pc → locals_of (more b) ≡ locals_of b ++ so.locals
  same_locals (Body template alternative q locals level spent) pc at = refl
  same_locals (Call procedure q locals level) pc at = refl
  same_locals (Loop turn) pc at = absurd (cc)
  same_locals (Region asked level) pc at = absurd (cc)
  same_locals (Attributes next asked) pc at = absurd (cc)
  same_locals (Source buffer next asked) pc at = absurd (cc)
  same_locals (Skip depth) pc at = absurd (cc)
  same_locals (Pass base level spent) pc at = absurd (cc)

  module _ (given : Given) where
    same_self : (b : Frame) (below : List Frame) (pc : ℕ) → pc_of b ≡ Some pc → self_on given p mid (more b) below ≡ self_on given p old b below
    same_self (Body template alternative q locals level spent) below pc at =
        ap (λ (r : Run). self_on given p r (more (Body template alternative q locals level spent)) below) so.rest
    same_self (Call procedure q locals level) below pc at =
        ap (λ (r : Run). self_on given p r (more (Call procedure q locals level)) below) so.rest
    same_self (Loop turn) below pc at = absurd (cc)
    same_self (Region asked level) below pc at = absurd (cc)
    same_self (Attributes next asked) below pc at = absurd (cc)
    same_self (Source buffer next asked) below pc at = absurd (cc)
    same_self (Skip depth) below pc at = absurd (cc)
    same_self (Pass base level spent) below pc at = absurd (cc)

    pub sees_bound : IsProgramOf given.sheet given.limits p → (b : Frame) (below : List Frame) (pc : ℕ) → reverse old.frames.frames ≡ b ∷ below → pc_of b ≡ Some pc
        → (a : Here) → a.state.variables ≡ old.store → SeesAs given p mid (self_on given p old b below) (here_with a (locals_of b ++ so.locals))
    sees_bound program b below pc on at a store =
        let front = so.behind b below on in
        let stack = ap (λ (r : Run). r.source.stack) so.rest in
        let fits : (x : PathNode) → slice_get (path mid.source.stack).nodes (length (path mid.source.stack).nodes - 1) ≡ Some x
        → passes (unwrap_or (test_in p.sheet (reverse mid.frames.frames)) test.Document) (kind_of x.node) ≡ true =
        λ x is.
        ap (λ o. passes (unwrap_or o test.Document) (kind_of x.node)) (same_test (reverse old.frames.frames) b below on (reverse mid.frames.frames) front)
        ∙ can.fits x (ap (λ s. slice_get (path s).nodes (length (path s).nodes - 1)) (sym stack) ∙ is) in
        let apart : mid.source.ahead ≢ ahead.Here = λ e. can.apart (ap (λ (r : Run). r.source.ahead) (sym so.rest) ∙ e) in
        let s = sees_so given p mid fits apart program [] (more b) below pc front (same_pc b pc at) a (store ∙ sym (ap (λ (r : Run). r.store) so.rest)) in
        subst (λ l. SeesAs given p mid (self_on given p old b below) (here_with a l)) (same_locals b pc at)
        (subst (λ w. SeesAs given p mid w (here_with a (locals_of (more b)))) (same_self b below pc at) s)

    value_seen : (o : Option (List Atom)) (v : Variable) → IsProgramOf given.sheet given.limits p → (b : Frame) (below : List Frame) (pc : ℕ) → reverse old.frames.frames ≡ b ∷ below → pc_of b ≡ Some pc
        → (a : Here) → a.state.variables ≡ old.store
        → parameter_value given o v (setting given (self_on given p old b below) (here_with a (locals_of b ++ so.locals))) ≡ parameter_value given o v (sight p mid)
    value_seen (Some value) v program b below pc on at a store = refl
    value_seen None v program b below pc on at a store =
        let s = sees_bound program b below pc on at a store in ap (selected v.select) s.is ∙ sym (texts_see_nodes.selects v.select (sight p mid) s.way s.alike)

-- One more is bound, or stops the run.

module _ (p : Program) (params : List Variable) (v : Variable) (vs : List Variable) (handed : Given → List Bound) (old mid new : Run) (so : HasBound p params (v ∷ vs) handed old mid) (can : CanBind p params old) where
  pub bound_next : (value : List Atom) → PushesLocal v.name value mid new → new ≡ record mid { frames = new.frames } → HasName v.name
      → ((given : Given) → Gave {A = List Atom} v.at (Ok value) (parameter_value given (value_of v.name (handed given)) v (sight p mid))) → HasBound p params vs handed old new
  bound_next value pushes rest named gave =
      let l : Local = record { name = v.name; value = value } in
      record {
        locals = so.locals ++ l ∷ [];
        behind = λ x others e. pushes (with_locals (λ ls. ls ++ so.locals) x) others (so.behind x others e) ∙ ap (λ y. y ∷ others) (twice_more x so.locals (l ∷ []));
        rest = rest ∙ ap (λ (r : Run). record r { frames = new.frames }) so.rest;
        none = aside_kept so.locals l named ∙ so.none;
        does = λ given program b below pc on at a store go.
            let h = handed given in
            let w = self_on given p old b below in
            let ls = locals_of b ++ so.locals in
            so.does given program b below pc on at a store go
            ∙ ap (λ x. got v.at x (λ value. binds given vs h w (record (here_with a ls) { locals = named_of ls ++ record { name = v.name; value = value } ∷ [] }) go))
            (value_seen p params (v ∷ vs) handed old mid so can given (value_of v.name h) v program b below pc on at a store ∙ gave given)
            ∙ ap (λ bs. binds given vs h w (record a { locals = bs }) go) (sym (named_pushed ls l named))
            ∙ ap (λ x. binds given vs h w (here_with a x) go) (append_assoc (locals_of b) so.locals (l ∷ []));
      }

  pub bound_stops : (e : Stop) → ((given : Given) → Gave {A = List Atom} v.at (Err e) (parameter_value given (value_of v.name (handed given)) v (sight p mid))) → Binds p params handed (Err e) old new
  bound_stops e gave given program b below pc on at a store go =
      let h = handed given in
      let w = self_on given p old b below in
      let ls = locals_of b ++ so.locals in
      yields_by (Err e) (binds given params h w (here_with a (locals_of b)) go) (binds given (v ∷ vs) h w (here_with a ls) go) (λ done. go a) (so.does given program b below pc on at a store go)
      (got_yields (Unit {0}) e v.at (parameter_value given (value_of v.name h) v (setting given w (here_with a ls))) (parameter_value given (value_of v.name h) v (sight p mid))
      (λ value. binds given vs h w (record (here_with a ls) { locals = named_of ls ++ record { name = v.name; value = value } ∷ [] }) go) (λ done. go a)
      (value_seen p params (v ∷ vs) handed old mid so can given (value_of v.name h) v program b below pc on at a store) (gave given))

pub bound_memory : (p : Program) (params : List Variable) (handed : Given → List Bound) (old new : Run) → Binds p params handed (Err stop.Memory) old new
bound_memory p params handed old new given program b below pc on at a store go = tt
