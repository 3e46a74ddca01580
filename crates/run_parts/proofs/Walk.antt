-- What a run puts is accepted, call by call, and where something more is known of its sheet and document it is sound, too.
use Rattle.std.proofs.Common.{◌≡◌, ℕ, zero, suc, ◌+◌, nat_lt, Bool, true, false, List, [], ◌∷◌, ◌++◌, Option, Some, None, Result, Ok as Fits, Err, refl, subst, if◌then◌else◌}
use Rattle.stx_base.specs.Course.{Ret, Halt, Say, Ask, and_then}
use Rattle.stx_base.specs.declared.fault.Place.{Place}
use Rattle.stx_base.specs.declared.fault.RunCode.TheVariants as run_code
use Rattle.stx_base.specs.declared.name.Binding.{Binding}
use Rattle.stx_base.specs.declared.name.Name.{Name}
use Rattle.stx_base.specs.declared.part.Part.{Part}
use Rattle.node_stack.specs.Path.{Node, Document, Element, Chars, CData, Comment, Pi, Attribute}
use Rattle.result_writer.specs.Target.{Left, fault, is_closed, next}
use Rattle.result_writer.specs.declared.fault.ResultFault.{ResultFault}
use Rattle.sheet_model.specs.declared.instr.WithParam.{WithParam}
use Rattle.sheet_model.specs.declared.sheet.Procedure.{Procedure}
use Rattle.sheet_model.specs.declared.sheet.Template.{Template}
use Rattle.sheet_model.specs.declared.sheet.Variable.{Variable}
use Rattle.stxpath_values.specs.declared.fault.EvalFault.{EvalFault}
use Rattle.var_store.specs.Variables.{value_of}
use Rattle.var_store.specs.declared.bound.Bound.{Bound}
use Rattle.xml_events.specs.Tree.{Why, Need, Bad, Mark, Stage, Waiting, Ready, Entered, Forest, End, Cut, Single, Nested}
use Rattle.event_buffers.specs.Buffers.{refusal_at}
use Rattle.event_buffers.specs.declared.fault.BufferFault.{BufferFault}
use Rattle.group_scope.specs.declared.rank.Rank.{Rank}
use Rattle.template_machine.specs.Declaring.{binds, commanded, declaration_setting, ends_scope, hands, kept, makes, makes_scope, new_value, parameter_value, with_scope, with_variable}
use Rattle.template_machine.specs.Ending.{Done, Ending, Faulted, Malformed, Needs, Note, Open, Put, Said, Spent, fault_at}
use Rattle.template_machine.specs.Fuel.{begin, begin_now, end_now, ended, is_begun, is_entered, skip, spend, unready, when_ready}
use Rattle.template_machine.specs.Job.{Asked, Body, Does, Given, Here, Job, Level, Loop, Main, Nodes, Opened, Self, Source, State, all_of, with_state}
use Rattle.template_machine.specs.Passing.{back, children, enters, finish, gone, group_at, instance, kinds_in, leaf_parts, parts_before, parts_behind, pass_around, pass_leaf, pass_node, passed_on, returns, run_as, runs}
use Rattle.template_machine.specs.Putting.{kept_in, put_out, put_to, puts, unless_fault, unless_refused}
use Rattle.template_machine.specs.Trail.{Trail, current}
use Rattle.template_machine.specs.Values.{atoms_of, got, setting}
use Rattle.run_parts.specs.Sound.{is_part_of}
use Rattle.run_parts.proofs.Following.{Follows, follows_then}
use Rattle.run_parts.proofs.Ordered.{AreOrdered}
use Rattle.run_parts.proofs.Sound.{SoundList, SoundParts, SoundTrail, is_sound_node, sound_before, sound_behind, sound_leaf}

-- what is left of the output behind what is said
abbrev pub next_left : Left → Said → Left
next_left l (Put p) = next l p
next_left l (Note text) = l
next_left l (Open name) = l

abbrev pub KidsSound : (good : Binding → Bool) → Option Forest → Type 0
KidsSound good None = Unit {0}
KidsSound good (Some kids) = SoundList good kids

-- a run is done only where no element of the output is open
abbrev pub FineEnd : Left → Ending → Type 0
FineEnd l Done = is_closed l.elements l.held ≡ true
FineEnd l (Faulted fault) = Unit {0}
FineEnd l (Spent at) = Unit {0}
FineEnd l (Malformed document fault) = Unit {0}
FineEnd l Needs = Unit {0}

pub unready_fine : (l : Left) (source : Source) (why : Why) → FineEnd l (unready source why)
unready_fine l source Need = tt
unready_fine l Main (Bad fault) = tt
unready_fine l (Opened document at number) (Bad fault) = tt

abbrev pub left_of : Job → Left
left_of (Nodes left asked st) = st.result
left_of (Body is self a) = a.state.result
left_of (Loop test is at self a) = a.state.result

abbrev pub BodyOrdered : Option Template → Type 0
BodyOrdered None = Unit {0}
BodyOrdered (Some t) = AreOrdered t.body

abbrev pub CalledOrdered : Option Procedure → Type 0
CalledOrdered None = Unit {0}
CalledOrdered (Some p) = AreOrdered p.body

-- S says what is known besides: that the sheet is ordinary, and the document sound, as it declares good bindings alone.
module _ (given : Given) (S : Type 0) (good : Binding → Bool) where
  abbrev pub Fine : Left → Said → Type 0
  Fine l (Put p) = (fault given.limits.elements l p ≡ None) × (S → is_part_of good p ≡ true)
  Fine l (Note text) = Unit {0}
  Fine l (Open name) = Unit {0}

  -- all parts go to the output
  abbrev pub Plain : State → Type 0
  Plain st = S → st.targets ≡ []

  abbrev pub Stood : Here → Type 0
  Stood a = (S → KidsSound good a.kids) × (S → SoundList good a.left.coming) × Plain a.state

  abbrev pub Asks : Job → Type 0
  Asks (Nodes left asked st) = (S → SoundList good left.coming) × (S → SoundTrail good asked.within) × Plain st
  Asks (Body is self a) = (S → AreOrdered is) × (S → SoundTrail good self.trail) × Stood a
  Asks (Loop test is at self a) = (S → AreOrdered is) × (S → SoundTrail good self.trail) × Stood a

  abbrev pub Pre : Left → Job → Type 0
  Pre l q = (left_of q ≡ l) × Asks q

  abbrev pub Post : Left → Here → Type 0
  Post l a = (a.state.result ≡ l) × Stood a

  -- from there on what is done is as it may be
  pub record T (l : Left) (x : Does) : Type 0 where
    pub is : Follows next_left Fine FineEnd Pre Post l x

  pub at_left : (l m : Left) (x : Does) → l ≡ m → T l x → T m x
  at_left l m x e h = subst (λ l. T l x) e h

  pub ret_t : (l : Left) (a : Here) → a.state.result ≡ l → Stood a → T l (Ret a)
  ret_t l a e s = record { is = (e, s) }

  pub same_ret : (a : Here) → Stood a → T a.state.result (Ret a)
  same_ret a s = ret_t a.state.result a refl s

  pub halts : (l : Left) (e : Ending) → FineEnd l e → T l (Halt e)
  halts l e fine = record { is = fine }

  pub says_t : (l : Left) (o : Said) (x : Does) → Fine l o → T (next_left l o) x → T l (Say o x)
  says_t l o x f h = record { is = (f, h.is) }

  -- what is done with a result of a call
  on_result : (k : Here → Does) → ((r : Here) → Stood r → T r.state.result (k r)) → (v : Left) (r : Here) → Post v r → Follows next_left Fine FineEnd Pre Post v (k r)
  on_result k h v r p = (at_left r.state.result v (k r) p.0 (h r p.1)).is

  pub then_t : (l : Left) (x : Does) (k : Here → Does) → T l x → ((r : Here) → Stood r → T r.state.result (k r)) → T l (and_then x k)
  then_t l x k t h = record { is = follows_then next_left Fine FineEnd Pre Post l x k t.is (on_result k h) }

  pub asks : (q : Job) (k : Here → Does) → Asks q → ((r : Here) → Stood r → T r.state.result (k r)) → T (left_of q) (Ask q k)
  asks q k s h = record { is = ((refl, s), on_result k h) }

  pub got_t : {A : Type 0} (l : Left) (at : Place) (r : Result A EvalFault) (go : A → Does) → ((x : A) → T l (go x)) → T l (got at r go)
  got_t l at (Fits x) go h = h x
  got_t l at (Err f) go h = halts l _ tt

  pub either_t : (l : Left) (b : Bool) (x y : Does) → T l x → T l y → T l (if b then x else y)
  either_t l true x y h k = h
  either_t l false x y h k = k

  pub refused_t : (l : Left) (o : Option BufferFault) (at : Place) (x : Does) → T l x → T l (unless_refused o at x)
  refused_t l None at x h = h
  refused_t l (Some f) at x h = halts l _ tt

  pub spend_t : (at : Place) (st : State) (go : State → Does) → Plain st → ((t : State) → Plain t → T t.result (go t)) → T st.result (spend at st go)
  spend_t at st go k h = of_fuel st.fuel where
    of_fuel : (n : ℕ) → T st.result (elim n [ zero ↦ Halt (Spent at) | suc n ↦ go (record st { fuel = n }) ])
    of_fuel zero = halts _ _ tt
    of_fuel (suc n) = h (record st { fuel = n }) k

  pub ready_t : (l : Left) (source : Source) (stage : Stage) (kids : Forest) (x : Does) → T l x → T l (when_ready source stage kids x)
  ready_t l source (Ready first) kids x h = h
  ready_t l source (Entered first) kids x h = h
  ready_t l source Waiting (Cut why) x h = halts l _ (unready_fine l source why)
  ready_t l source Waiting (End m offset) x h = h
  ready_t l source Waiting (Single m leaf next) x h = h
  ready_t l source Waiting (Nested stage e kids next) x h = h

  pub children_t : (twice : Place) (asked : Asked) (a : Here) (go : Here → Does) → (S → SoundTrail good asked.within) → Stood a → ((b : Here) → Stood b → T b.state.result (go b)) → T a.state.result (children twice asked a go)
  children_t twice asked a go ways s h = of_kids a.kids s.0 where
    of_kids : (o : Option Forest) → (S → KidsSound good o)
        → T a.state.result (elim o [ None ↦ Halt (fault_at run_code.ChildrenTwice twice) | Some kids ↦ Ask (Nodes (all_of kids) asked a.state) (λ b. go (gone a b.state)) ])
    of_kids None k = halts _ _ tt
    of_kids (Some kids) k =
        asks (Nodes (all_of kids) asked a.state) (λ b. go (gone a b.state)) (k, ways, s.2) (λ b was. h (gone a b.state) ((λ x. tt), s.1, was.2))

  pub name_t : (l : Left) (at : Place) (o : Option Name) (go : Name → Does) → ((n : Name) → T l (go n)) → T l (elim o [ None ↦ Halt (fault_at run_code.BadName at) | Some n ↦ go n ])
  name_t l at None go h = halts l _ tt
  name_t l at (Some n) go h = h n

  -- Parts

  out_t : (o : Option ResultFault) (at : Place) (p : Part) (st : State) (go : State → Does) → fault given.limits.elements st.result p ≡ o → (S → is_part_of good p ≡ true) → T (next st.result p) (go (put_out p st))
      → T st.result (unless_fault o at (Say (Put p) (go (put_out p st))))
  out_t None at p st go e f h = says_t st.result (Put p) (go (put_out p st)) (e, f) h
  out_t (Some x) at p st go e f h = halts _ _ tt

  put_t : (targets : List ℕ) (at : Place) (p : Part) (st : State) (go : State → Does) → (S → is_part_of good p ≡ true) → (S → targets ≡ []) → Plain st → ((t : State) → Plain t → T t.result (go t))
      → T st.result (put_to given targets at p st go)
  put_t [] at p st go f e k h = out_t (fault given.limits.elements st.result p) at p st go refl f (h (put_out p st) k)
  put_t (id ∷ targets) at p st go f e k h = refused_t st.result (refusal_at st.buffers id p) at (go (kept_in id p st)) (h (kept_in id p st) k)

  pub puts_t : (at : Place) (ps : List Part) (st : State) (go : State → Does) → (S → SoundParts good ps) → Plain st → ((t : State) → Plain t → T t.result (go t)) → T st.result (puts given at ps st go)
  puts_t at [] st go f k h = h st k
  puts_t at (p ∷ ps) st go f k h = put_t st.targets at p st (λ t. puts given at ps t go) (λ s. (f s).0) k k (λ t k. puts_t at ps t go (λ s. (f s).1) k h)

  pub put_back_t : (at : Place) (parts : List Part) (a : Here) → (S → SoundParts good parts) → Stood a → T a.state.result (puts given at parts a.state (λ st. Ret (with_state a st)))
  put_back_t at parts a f s = puts_t at parts a.state _ f s.2 (λ t k. same_ret (with_state a t) (s.0, s.1, k))

  -- Variables and parameters

  pub makes_t : (test : Variable → Bool) (earlier vs : List Variable) (self : Self) (st : State) (go : State → Does) → Plain st → ((t : State) → Plain t → T t.result (go t))
      → T st.result (makes given test earlier vs self st go)
  makes_t test earlier [] self st go k h = h st k
  makes_t test earlier (v ∷ vs) self st go k h =
      either_t st.result (test v) _ _
      (got_t st.result v.at (new_value given (commanded given v) (kept given v st) v (declaration_setting given earlier v self st)) _
      (λ x. makes_t test (earlier ++ v ∷ []) vs self (with_variable given v x st) go k h))
      (makes_t test (earlier ++ v ∷ []) vs self st go k h)

  makes_scope_t : (new : Bool) (group : ℕ) (self : Self) (st : State) (go : State → Does) → Plain st → ((t : State) → Plain t → T t.result (go t))
      → T st.result (makes_scope given new group self st go)
  makes_scope_t false group self st go k h = h st k
  makes_scope_t true group self st go k h = makes_t _ [] given.sheet.variables self (with_scope group st) go k h

  pub binds_t : (vs : List Variable) (handed : List Bound) (self : Self) (a : Here) (go : Here → Does) → Stood a → ((b : Here) → Stood b → T b.state.result (go b)) → T a.state.result (binds given vs handed self a go)
  binds_t [] handed self a go s h = h a s
  binds_t (v ∷ vs) handed self a go s h =
      got_t a.state.result v.at (parameter_value given (value_of v.name handed) v (setting given self a)) _
      (λ x. binds_t vs handed self (record a { locals = a.locals ++ record { name = v.name; value = x } ∷ [] }) go s h)

  pub hands_t : (at : Place) (ps : List WithParam) (self : Self) (a : Here) (go : List Bound → Does) → ((bs : List Bound) → T a.state.result (go bs)) → T a.state.result (hands given at ps self a go)
  hands_t at [] self a go h = h []
  hands_t at (p ∷ ps) self a go h =
      got_t a.state.result at (atoms_of p.select (setting given self a)) _ (λ x. hands_t at ps self a _ (λ bs. h (record { name = p.name; value = x } ∷ bs)))

  -- Fuel

  pub begin_t : (source : Source) (before : Bool) (st : State) (go : State → Does) → Plain st → ((t : State) → Plain t → T t.result (go t)) → T st.result (begin given source before st go)
  begin_t source before st go k h = either_t st.result before _ _ (h st k) (of_source source) where
    of_source : (source : Source) → T st.result (begin_now given source st go)
    of_source Main = h (record st { fuel = given.limits.fuel }) k
    of_source (Opened name at number) = spend_t at st go k h

  -- the end of a list changes no more than fuel
  pub record AsBefore (st new : State) : Type 0 where
    pub result : new.result ≡ st.result
    pub plain : Plain st → Plain new

  pub end_as : (source : Source) (m : Mark) (st : State) → AsBefore st (ended given source m st)
  end_as source m st = one (is_begun m) source where
    now : (source : Source) → AsBefore st (end_now given source st)
    now Main = record { result = refl; plain = λ k. k }
    now (Opened name at number) = record { result = refl; plain = λ k. k }

    one : (b : Bool) (source : Source) → AsBefore st (if b then st else end_now given source st)
    one true source = record { result = refl; plain = λ k. k }
    one false source = now source

  skip_t : (source : Source) (l : Forest) (st : State) (go : State → Does) → Plain st → ((t : State) → Plain t → T t.result (go t)) → T st.result (skip given source l st go)
  skip_t source (End m offset) st go k h =
      let e = end_as source m st in at_left (ended given source m st).result st.result _ e.result (h (ended given source m st) (e.plain k))
  skip_t source (Cut why) st go k h = halts _ _ (unready_fine st.result source why)
  skip_t source (Single m leaf next) st go k h = begin_t source (is_begun m) st _ k (λ t k. skip_t source next t go k h)
  skip_t source (Nested stage e kids next) st go k h =
      ready_t st.result source stage kids _ (begin_t source (is_entered stage) st _ k (λ t k. skip_t source kids t _ k (λ t k. skip_t source next t go k h)))

  -- Templates

  pub instance_t : (l : Left) (at : Place) (level : Level) (go : Level → Does) → ((m : Level) → T l (go m)) → T l (instance given at level go)
  instance_t l at level go h =
      either_t l (nat_lt level.instances given.limits.instances) _ _ (h (record level { instances = level.instances + 1 })) (halts l _ tt)

  scope_as : (new : Bool) (group : ℕ) (st : State) → AsBefore st (ends_scope given new group st)
  scope_as false group st = record { result = refl; plain = λ k. k }
  scope_as true group st = record { result = refl; plain = λ k. k }

  enters_t : (handed : List Bound) (t : Template) (self : Self) (a : Here) (go : Here → Does) → (S → AreOrdered t.body) → (S → SoundTrail good self.trail) → Stood a → ((b : Here) → Stood b → T b.state.result (go b)) → (st : State) → Plain st
      → T st.result (enters given handed t self a go st)
  enters_t handed t self a go orders ways s h st k =
      binds_t t.params handed self (record a { locals = []; state = st }) _ (s.0, s.1, k)
      (λ b was. asks (Body t.body self b) (returns given t a go) (orders, ways, was)
      (λ c is.
      let e = scope_as t.new_scope t.group c.state in
      at_left (ends_scope given t.new_scope t.group c.state).result c.state.result _ e.result
      (h (back a (ends_scope given t.new_scope t.group c.state) c) (is.0, is.1, e.plain is.2))))

  pub runs_t : (at : Place) (handed : List Bound) (c : Rank) (o : Option Template) (active : List ℕ) (level : Level) (trail : Trail) (a : Here) (go : Here → Does) → (S → BodyOrdered o) → (S → SoundTrail good trail) → Stood a → ((b : Here) → Stood b → T b.state.result (go b))
      → T a.state.result (runs given at handed c o active level trail a go)
  runs_t at handed c None active level trail a go orders ways s h = h a s
  runs_t at handed c (Some t) active level trail a go orders ways s h =
      instance_t a.state.result at level _ (λ more.
      let self = run_as c t active more trail in
      makes_scope_t t.new_scope t.group self a.state (enters given handed t self a go) s.2 (enters_t handed t self a go orders ways s h))

  pub finish_t : (source : Source) (a : Here) → Stood a → T a.state.result (finish given source a)
  finish_t source a s = of_kids a.kids where
    of_kids : (o : Option Forest) → T a.state.result (elim o [ None ↦ Ret a | Some kids ↦ skip given source kids a.state (λ st. Ret (gone a st)) ])
    of_kids None = same_ret a s
    of_kids (Some kids) = skip_t source kids a.state _ s.2 (λ t k. same_ret (gone a t) ((λ x. tt), s.1, k))

  -- Nodes without templates

  pass_leaf_t : (base : ℕ) (n : Node) (a : Here) → (S → is_sound_node good n ≡ true) → Stood a → T a.state.result (pass_leaf given base (kinds_in given base) n a)
  pass_leaf_t base n a is s = put_back_t (group_at given base) (leaf_parts (kinds_in given base) n) a (λ x. sound_leaf good (kinds_in given base) n (is x)) s

  pass_around_t : (twice : Place) (base : ℕ) (source : Source) (trail : Trail) (a : Here) → (S → SoundTrail good trail) → Stood a → T a.state.result (pass_around given twice base (kinds_in given base) source trail a)
  pass_around_t twice base source trail a ways s =
      let k = kinds_in given base in
      let n = current trail in
      puts_t (group_at given base) (parts_before k trail n) a.state _ (λ x. sound_before good k trail n (ways x)) s.2
      (λ t plain. children_t twice (passed_on given base source trail) (with_state a t) _ ways (s.0, s.1, plain)
      (λ b was. put_back_t (group_at given base) (parts_behind k n) b (λ x. sound_behind good k n) was))

  pub pass_t : (twice : Place) (base : ℕ) (source : Source) (trail : Trail) (n : Node) (a : Here) → (S → SoundTrail good trail) → (S → is_sound_node good n ≡ true) → Stood a → T a.state.result (pass_node given twice base source trail n a)
  pass_t twice base source trail Document a ways is s = pass_around_t twice base source trail a ways s
  pass_t twice base source trail (Element name attrs decls first) a ways is s = pass_around_t twice base source trail a ways s
  pass_t twice base source trail (Chars text) a ways is s = pass_leaf_t base (Chars text) a is s
  pass_t twice base source trail (CData text) a ways is s = pass_leaf_t base (CData text) a is s
  pass_t twice base source trail (Comment text) a ways is s = pass_leaf_t base (Comment text) a is s
  pass_t twice base source trail (Pi target text) a ways is s = pass_leaf_t base (Pi target text) a is s
  pass_t twice base source trail (Attribute x) a ways is s = pass_leaf_t base (Attribute x) a is s
