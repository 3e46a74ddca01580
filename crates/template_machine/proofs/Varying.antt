-- The variables of groups are made as the definition makes them.
use Rattle.std.proofs.Common.{◌≡◌, ◌<◌, ◌≤◌, ◌==◌, ℕ, zero, suc, ◌+◌, ◌-◌, Bool, true, false, List, [], ◌∷◌, ◌++◌, get_or, length, map, drop, take, reverse, Option, Some, None, Result, Ok, Err, refl, ap, sym, subst, ◌∙◌, arith}
use Rattle.std.specs.Prelude.{if◌then◌else◌, slice_get}
use Rattle.std.proofs.lemmas.List.{length-map, length-reverse}
use Rattle.node_stack.specs.Path.{PathNode}
use Rattle.node_stack.specs.Stack.{path}
use Rattle.sheet_model.specs.declared.sheet.Sheet.{Sheet}
use Rattle.sheet_model.specs.declared.sheet.Variable.{Variable}
use Rattle.stx_base.specs.declared.fault.Place.{Place}
use Rattle.stx_base.specs.declared.limits.Limits.{Limits}
use Rattle.stx_base.specs.declared.name.Name.{Name}
use Rattle.stx_base.specs.declared.node.NodeTest.{NodeTest}
use Rattle.stxpath_eval.specs.Setting.{Setting}
use Rattle.stxpath_values.specs.declared.fault.EvalFault.{EvalFault}
use Rattle.stxpath_values.specs.declared.value.Atom.{Atom}
use Rattle.event_buffers.specs.Buffers.{Buffers}
use Rattle.event_buffers.specs.Buffers.{on_group as of_group}
use Rattle.event_buffers.specs.Layer.{laid}
use Rattle.frame_stack.specs.declared.frame.Frame.{Frame}
use Rattle.var_store.specs.Copies.{Stored, on_group}
use Rattle.template_machine.specs.Alike.{along_path}
use Rattle.template_machine.specs.Commands.{HasParams}
use Rattle.template_machine.specs.Bodies.{below}
use Rattle.template_machine.specs.Declaring.{commanded, declaration_setting, kept, makes, new_value, seen_before, with_scope, with_variable}
use Rattle.template_machine.specs.Job.{Does, Given, Self, State}
use Rattle.template_machine.specs.Programs.{IsProgramOf}
use Rattle.template_machine.specs.Saying.{Gave, Yields}
use Rattle.template_machine.specs.Still.{nodes_of, trail_of}
use Rattle.template_machine.specs.Trail.{Trail, path_of, place_of, stand}
use Rattle.template_machine.specs.Steps.{test_in}
use Rattle.template_machine.specs.Values.{got, selected}
use Rattle.template_machine.specs.Variables.{declared, shadowed}
use Rattle.template_machine.specs.Varying.{Declares, GaveNew, HasMade, HasScope, Makes, MakesOne, MakesScope, PassesTest, sight_before, with_store}
use Rattle.template_machine.specs.declared.program.Program.{Program}
use Rattle.template_machine.specs.declared.run.Run.{Run}
use Rattle.template_machine.specs.declared.stop.Stop.{Stop}
use Rattle.template_machine.specs.declared.stop.Stop.TheVariants as stop
use Rattle.template_machine.proofs.Below.{below_all}
use Rattle.template_machine.proofs.Saying.{got_yields, yields_by}
use Rattle.template_machine.proofs.Sighted.{texts_see_nodes, trails_look_alike}
use Rattle.template_machine.proofs.Taking.{take_next}

-- What a declaration sees.

module _ (given : Given) (p : Program) (program : IsProgramOf given.sheet given.limits p) (place : ℕ) (t : NodeTest) (old now : Run) (made : now ≡ record old { store = now.store })
    (passes_it : PassesTest t old) (self : Self) (sees : Declares t old self) (st : State) (same : st.variables ≡ now.store) (v : Variable) where
  abbrev nodes : List PathNode
  nodes = (path now.source.stack).nodes

  abbrev trailed : Trail
  trailed = map (λ (x : PathNode). stand x.node x.earlier) (reverse nodes)

  abbrev sight_of : Sheet → Stored → Limits → Trail → NodeTest → Setting
  sight_of s store limits trail test = record {
    vars = seen_before s (take place p.sheet.variables) v.group store;
    limits = limits;
    path = path_of trail;
    place = place_of trail;
    test = test;
  }

  abbrev earlier : List Variable
  earlier = take place p.sheet.variables

  trail_is : self.trail ≡ trailed
  trail_is = sees.trail ∙ ap (λ (r : Run). trail_of (nodes_of r.source)) (sym made)

  long : place_of trailed ≡ length nodes - 1
  long = ap (λ n. n - 1) (length-map (reverse nodes) (λ (x : PathNode). stand x.node x.earlier) ∙ length-reverse nodes)

  seen_as : declaration_setting given earlier v self st ≡ along_path (path_of trailed) (sight_before p now place v t)
  seen_as =
      ap (λ x. sight_of given.sheet x given.limits self.trail self.test) same
      ∙ ap (λ x. sight_of given.sheet now.store given.limits x self.test) trail_is
      ∙ ap (λ x. sight_of given.sheet now.store given.limits trailed x) sees.test
      ∙ ap (λ x. sight_of given.sheet now.store x trailed t) (sym program.limits_are)
      ∙ sym (ap (λ (s : Sheet). sight_of s now.store p.limits trailed t) program.sheet_is)
      ∙ ap (λ n. record (sight_of p.sheet now.store p.limits trailed t) { place = n }) long

  pub declared_seen : (old_value : Option (List Atom)) (older_value : Option (List Atom))
      → new_value given old_value older_value v (declaration_setting given earlier v self st) ≡ new_value given old_value older_value v (sight_before p now place v t)
  declared_seen (Some x) o = refl
  declared_seen None (Some x) = refl
  declared_seen None None =
      let g = sight_before p now place v t in
      let fits : PassesTest t now = subst (PassesTest t) (sym made) passes_it in
      ap (selected v.select) seen_as ∙ sym (texts_see_nodes.selects v.select g (path_of trailed) (trails_look_alike g fits))

pub got_here : {A : Type 0} (xs : List A) (i : ℕ) (x : A) → slice_get xs i ≡ Some x → x ≡ get_or xs i x
got_here [] i x at = absurd (cc)
got_here (y ∷ ys) zero x at = (let same : y ≡ x = cc in sym same)
got_here (y ∷ ys) (suc i) x at = got_here ys i x at

-- None is made yet.
pub made_none : (p : Program) (is : Variable → Bool) (t : NodeTest) (r : Run) → HasMade p is 0 t r r
made_none p is t r = record {
  rest = refl;
  does = λ given program params self sees st same go.
      ap (λ vs. makes given is [] vs self st go) (sym (ap (λ (s : Sheet). s.variables) program.sheet_is))
      ∙ ap (λ es. makes given is es p.sheet.variables self st go) (sym (none_taken p.sheet.variables))
      ∙ ap (λ x. makes given is (take 0 p.sheet.variables) p.sheet.variables self (record st { variables = x }) go) same;
}
  where
    none_taken : {A : Type 0} (xs : List A) → take 0 xs ≡ []
    none_taken [] = refl
    none_taken (x ∷ xs) = refl

module _ (p : Program) (is : Variable → Bool) (place : ℕ) (t : NodeTest) (v : Variable) (old mid new : Run) (so : HasMade p is place t old mid) (there : slice_get p.sheet.variables place ≡ Some v)
    (left : drop place p.sheet.variables ≡ v ∷ drop (place + 1) p.sheet.variables) where
  abbrev others : List Variable
  others = drop (place + 1) p.sheet.variables

  more : take place p.sheet.variables ++ v ∷ [] ≡ take (place + 1) p.sheet.variables
  more = sym (take_next p.sheet.variables place v there) ∙ (let next : suc place ≡ place + 1 = omega arith in ap (λ n. take n p.sheet.variables) next)

  -- one that isn't asked for is passed over
  pub made_past : is v ≡ false → HasMade p is (place + 1) t old mid
  made_past isnt = record {
    rest = so.rest;
    does = λ given program params self sees st same go.
        let e = take place p.sheet.variables in
        let now = with_store mid st in
        so.does given program params self sees st same go
        ∙ ap (λ vs. makes given is e vs self now go) left
        ∙ ap (λ b. if b
        then got v.at (new_value given (commanded given v) (kept given v now) v (declaration_setting given e v self now)) (λ value. makes given is (e ++ v ∷ []) others self (with_variable given v value now) go)
        else makes given is (e ++ v ∷ []) others self now go) isnt
        ∙ ap (λ es. makes given is es others self now go) more;
  }

  module _ (yes : is v ≡ true) (passes_it : PassesTest t old) where
    came : (given : Given) → IsProgramOf given.sheet given.limits p → HasParams p given → (self : Self) → Declares t old self → (st : State) → st.variables ≡ old.store → (go : State → Does)
        → makes given is [] given.sheet.variables self st go
        ≡ got v.at (new_value given (commanded given v) (kept given v (with_store mid st)) v (sight_before p mid place v t))
        (λ value. makes given is (take place p.sheet.variables ++ v ∷ []) others self (with_variable given v value (with_store mid st)) go)
    came given program params self sees st same go =
        let e = take place p.sheet.variables in
        let now = with_store mid st in
        let next : List Atom → Does = λ value. makes given is (e ++ v ∷ []) others self (with_variable given v value now) go in
        so.does given program params self sees st same go
        ∙ ap (λ vs. makes given is e vs self now go) left
        ∙ ap (λ b. if b
        then got v.at (new_value given (commanded given v) (kept given v now) v (declaration_setting given e v self now)) next
        else makes given is (e ++ v ∷ []) others self now go) yes
        ∙ ap (λ x. got v.at x next) (declared_seen given p program place t old mid so.rest passes_it self sees now refl v (commanded given v) (kept given v now))

    pub made_next : MakesOne p place v t (Ok tt) mid new → HasMade p is (place + 1) t old new
    made_next one = record {
      rest = one.1.1 ∙ ap (λ (r : Run). record r { store = declared mid.store v.group v.name one.0 }) so.rest ∙ ap (λ x. record old { store = x }) (sym (ap (λ (r : Run). r.store) one.1.1));
      does = λ given program params self sees st same go.
          let now = with_store mid st in
          came given program params self sees st same go
          ∙ ap (λ x. got v.at x (λ value. makes given is (take place p.sheet.variables ++ v ∷ []) others self (with_variable given v value now) go)) (one.1.0 given params now refl)
          ∙ ap (λ es. makes given is es others self (with_variable given v one.0 now) go) more
          ∙ ap (λ x. makes given is (take (place + 1) p.sheet.variables) others self (record st { variables = x }) go) (sym (ap (λ (r : Run). r.store) one.1.1));
    }

    pub made_stops : (e : Stop) → GaveNew p mid place v t (Err e) → Makes p is t (Err e) old new
    made_stops e gave given program params self sees st same go =
        let now = with_store mid st in
        yields_by (Err e) (makes given is [] given.sheet.variables self st go)
        (got v.at (new_value given (commanded given v) (kept given v now) v (sight_before p mid place v t))
        (λ value. makes given is (take place p.sheet.variables ++ v ∷ []) others self (with_variable given v value now) go)) (λ done. go st) (came given program params self sees st same go)
        (got_yields (Unit {0}) e v.at (new_value given (commanded given v) (kept given v now) v (sight_before p mid place v t)) (new_value given (commanded given v) (kept given v now) v (sight_before p mid place v t))
        (λ value. makes given is (take place p.sheet.variables ++ v ∷ []) others self (with_variable given v value now) go) (λ done. go st) refl (gave given params now refl))

-- The test by which positions count in the body on top.
pub top_test : (s : Sheet) (xs : List Frame) (n : ℕ) (t u : NodeTest) → n ≡ length xs → 0 < length xs → test_in s (reverse xs) ≡ Some t → test_in s (below (n - 1 + 1) xs) ≡ Some u → t ≡ u
top_test s xs n t u long some tests same =
    let whole : n - 1 + 1 ≡ length xs = omega (arith, long, some) in
    one (sym tests ∙ ap (test_in s) (sym (below_all xs)) ∙ sym (ap (λ k. test_in s (below k xs)) whole) ∙ same)
  where
    one : {A : Type 0} {x y : A} → Some x ≡ Some y → x ≡ y
    one e = cc

-- Where a method stops, what would follow doesn't matter.
pub yields_any : (e : Stop) (x : Does) (k l : Unit {0} → Does) → Yields {A = Unit {0}} (Err e) x k → Yields {A = Unit {0}} (Err e) x l
yields_any (stop.Fault fault) x k l h = h
yields_any (stop.Spent at) x k l h = h
yields_any stop.Memory x k l h = tt

-- New copies, and what is made in them.

module _ (p : Program) (group : ℕ) (t : NodeTest) (old new : Run) (store : Stored) (buffers : Buffers) (stored : store ≡ on_group (λ cs. [] ∷ cs) group old.store)
    (shadowed_are : buffers ≡ of_group (λ copies. laid ∷ copies) group old.putting.buffers) where
  abbrev mid : Run
  mid = record old { store = store; putting = record old.putting { buffers = buffers } }

  abbrev asked : Variable → Bool
  asked v = v.group == group

  laid_store : (st : State) → st.variables ≡ old.store → (with_scope group st).variables ≡ store
  laid_store st same = ap (λ x. shadowed x group) same ∙ sym stored

  declares_there : (self : Self) → Declares t old self → Declares t mid self
  declares_there self d = record { test = d.test; trail = d.trail }

  all_dropped : (vs : List Variable) → drop (length vs) vs ≡ []
  all_dropped [] = refl
  all_dropped (v ∷ vs) = all_dropped vs

  scope_there : HasMade p asked (length p.sheet.variables) t mid new → HasScope p group t old new
  scope_there h = record {
    targets = ap (λ (r : Run). r.putting.targets) h.rest;
    does = λ given program params self sees st same kept_same go.
        let vs = p.sheet.variables in
        let now = with_scope group st in
        h.does given program params self (declares_there self sees) now (laid_store st same) go
        ∙ ap (λ l. makes given asked (take (length vs) vs) l self (with_store new now) go) (all_dropped vs)
        ∙ ap (λ b. go (record st { variables = new.store; buffers = of_group (λ copies. laid ∷ copies) group b })) kept_same
        ∙ ap (λ b. go (record st { variables = new.store; buffers = b })) (sym shadowed_are ∙ sym (ap (λ (r : Run). r.putting.buffers) h.rest));
  }

  pub scope_made : (result : Result (Unit {0}) Stop) → Makes p asked t result mid new → MakesScope p group t result old new
  scope_made (Ok done) h = scope_there h
  scope_made (Err e) h = λ given program params self sees st same go.
      yields_any e (makes given asked [] given.sheet.variables self (with_scope group st) go) (λ done. go (with_scope group st)) (λ done. go st)
      (h given program params self (declares_there self sees) (with_scope group st) (laid_store st same) go)

pub scope_memory : (p : Program) (group : ℕ) (t : NodeTest) (old new : Run) → MakesScope p group t (Err stop.Memory) old new
scope_memory p group t old new given program params self sees st same go = tt

pub one_memory : (p : Program) (place : ℕ) (v : Variable) (t : NodeTest) (old new : Run) → MakesOne p place v t (Err stop.Memory) old new
one_memory p place v t old new given params st same = tt
