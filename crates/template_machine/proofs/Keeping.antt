-- A list of instructions leaves the locals that were there.
use Rattle.std.proofs.Common.{◌≡◌, inl, inr, ℕ, zero, suc, ◌+◌, nat_lt, Bool, true, false, List, [], ◌∷◌, ◌++◌, Option, Some, None, Result, Ok as Fine, Err, refl, sym, subst, if◌then◌else◌}
use Rattle.stx_base.specs.Course.{Ret, Halt, Ask}
use Rattle.stx_base.specs.declared.fault.Place.{Place}
use Rattle.stx_base.specs.declared.fault.RunCode.TheVariants as run_code
use Rattle.stx_base.specs.declared.name.Attr.{Attr}
use Rattle.stx_base.specs.declared.part.Part.{Part}
use Rattle.node_stack.specs.Path.{Node, Document, Element, Chars, CData, Comment, Pi, Attribute}
use Rattle.result_writer.specs.Target.{fault}
use Rattle.result_writer.specs.declared.fault.ResultFault.{ResultFault}
use Rattle.sheet_model.specs.declared.instr.WithParam.{WithParam}
use Rattle.sheet_model.specs.declared.pass.Kinds.{Kinds}
use Rattle.sheet_model.specs.declared.sheet.Template.{Template}
use Rattle.sheet_model.specs.declared.sheet.Variable.{Variable}
use Rattle.stxpath_values.specs.declared.fault.EvalFault.{EvalFault}
use Rattle.var_store.specs.Variables.{value_of}
use Rattle.var_store.specs.declared.bound.Bound.{Bound}
use Rattle.xml_events.specs.Tree.{Forest}
use Rattle.event_buffers.specs.Buffers.{refusal_at}
use Rattle.event_buffers.specs.declared.fault.BufferFault.{BufferFault}
use Rattle.group_scope.specs.declared.rank.Rank.{Rank}
use Rattle.template_machine.specs.Declaring.{binds, commanded, declaration_setting, ends_scope, hands, kept, makes, makes_scope, new_value, parameter_value, with_scope, with_variable}
use Rattle.template_machine.specs.Ending.{Spent, fault_at}
use Rattle.template_machine.specs.Fuel.{skip, spend}
use Rattle.template_machine.specs.Job.{Given, State, Source, Here, Self, Job, Nodes, Body, Loop, Does, Level, Asked, all_of, single, with_state}
use Rattle.template_machine.specs.Laws.{names}
use Rattle.template_machine.specs.Passing.{again, attributes, back, children, choice, enters, finish, gone, group_at, instance, kinds_in, leaf_parts, node, parts_before, parts_behind, pass_around, pass_leaf, pass_node, passed_on, returns, run_as, runs, template_at}
use Rattle.template_machine.specs.Putting.{kept_in, put_out, put_to, puts, unless_fault, unless_refused}
use Rattle.template_machine.specs.Trail.{Trail, current, passing_among, stands}
use Rattle.template_machine.specs.Values.{atoms_of, got, setting}
use Rattle.template_machine.proofs.Holding.{Holds, holds_more, holds_then}
use Rattle.template_machine.proofs.Locals.{Grows}
use Rattle.template_machine.proofs.Skipping.{Silent, skip_silent}

-- what a call leaves of the locals: lists of instructions keep them
abbrev pub Post : Job → Here → Type 0
Post (Nodes left asked st) b = Unit {0}
Post (Body is self a) b = names b.locals ≡ names a.locals
Post (Loop test is at self a) b = names b.locals ≡ names a.locals

abbrev pub Ok : (Here → Type 0) → Does → Type 0
Ok P x = Holds Post P x

-- more locals, or the same names
abbrev pub More : Here → Here → Type 0
More a b = Grows a.locals b.locals

abbrev pub Alike : Here → Here → Type 0
Alike a b = names b.locals ≡ names a.locals

module _ (given : Given) (P : Here → Type 0) where
  pub got_ok : {A : Type 0} (at : Place) (r : Result A EvalFault) (go : A → Does) → ((x : A) → Ok P (go x)) → Ok P (got at r go)
  got_ok at (Fine x) go h = h x
  got_ok at (Err f) go h = tt

  pub either_ok : (b : Bool) (x y : Does) → Ok P x → Ok P y → Ok P (if b then x else y)
  either_ok true x y h k = h
  either_ok false x y h k = k

  pub fault_ok : (o : Option ResultFault) (at : Place) (x : Does) → Ok P x → Ok P (unless_fault o at x)
  fault_ok None at x h = h
  fault_ok (Some f) at x h = tt

  pub refused_ok : (o : Option BufferFault) (at : Place) (x : Does) → Ok P x → Ok P (unless_refused o at x)
  refused_ok None at x h = h
  refused_ok (Some f) at x h = tt

  put_ok : (targets : List ℕ) (at : Place) (p : Part) (st : State) (go : State → Does) → ((t : State) → Ok P (go t)) → Ok P (put_to given targets at p st go)
  put_ok [] at p st go h = fault_ok (fault given.limits.elements st.result p) at _ (h (put_out p st))
  put_ok (id ∷ targets) at p st go h = refused_ok (refusal_at st.buffers id p) at (go (kept_in id p st)) (h (kept_in id p st))

  pub puts_ok : (at : Place) (ps : List Part) (st : State) (go : State → Does) → ((t : State) → Ok P (go t)) → Ok P (puts given at ps st go)
  puts_ok at [] st go h = h st
  puts_ok at (p ∷ ps) st go h = put_ok st.targets at p st (λ t. puts given at ps t go) (λ t. puts_ok at ps t go h)

  makes_ok : (test : Variable → Bool) (earlier vs : List Variable) (self : Self) (st : State) (go : State → Does) → ((t : State) → Ok P (go t)) → Ok P (makes given test earlier vs self st go)
  makes_ok test earlier [] self st go h = h st
  makes_ok test earlier (v ∷ vs) self st go h =
      either_ok (test v) _ _
      (got_ok v.at (new_value given (commanded given v) (kept given v st) v (declaration_setting given earlier v self st)) _
      (λ x. makes_ok test (earlier ++ v ∷ []) vs self (with_variable given v x st) go h))
      (makes_ok test (earlier ++ v ∷ []) vs self st go h)

  makes_scope_ok : (new : Bool) (group : ℕ) (self : Self) (st : State) (go : State → Does) → ((t : State) → Ok P (go t)) → Ok P (makes_scope given new group self st go)
  makes_scope_ok false group self st go h = h st
  makes_scope_ok true group self st go h = makes_ok _ [] given.sheet.variables self (with_scope group st) go h

  pub binds_ok : (vs : List Variable) (handed : List Bound) (self : Self) (a : Here) (go : Here → Does) → ((b : Here) → Ok P (go b)) → Ok P (binds given vs handed self a go)
  binds_ok [] handed self a go h = h a
  binds_ok (v ∷ vs) handed self a go h =
      got_ok v.at (parameter_value given (value_of v.name handed) v (setting given self a)) _
      (λ x. binds_ok vs handed self (record a { locals = a.locals ++ record { name = v.name; value = x } ∷ [] }) go h)

  pub hands_ok : (at : Place) (ps : List WithParam) (self : Self) (a : Here) (go : List Bound → Does) → ((bs : List Bound) → Ok P (go bs)) → Ok P (hands given at ps self a go)
  hands_ok at [] self a go h = h []
  hands_ok at (p ∷ ps) self a go h =
      got_ok at (atoms_of p.select (setting given self a)) _ (λ x. hands_ok at ps self a _ (λ bs. h (record { name = p.name; value = x } ∷ bs)))

  pub spend_ok : (at : Place) (st : State) (go : State → Does) → ((t : State) → Ok P (go t)) → Ok P (spend at st go)
  spend_ok at st go h = of_fuel st.fuel where
    of_fuel : (n : ℕ) → Ok P (elim n [ zero ↦ Halt (Spent at) | suc n ↦ go (record st { fuel = n }) ])
    of_fuel zero = tt
    of_fuel (suc n) = h (record st { fuel = n })

  pub skip_ok : (source : Source) (l : Forest) (st : State) (go : State → Does) → ((t : State) → Ok P (go t)) → Ok P (skip given source l st go)
  skip_ok source l st go h = of_silent (skip_silent given source l st) where
    of_silent : Silent given st (skip given source l st) → Ok P (skip given source l st go)
    of_silent (inl s) = subst (λ x. Ok P x) (sym (s.1 go)) tt
    of_silent (inr s) = subst (λ x. Ok P x) (sym (s.1 go)) (h (record st { fuel = s.0 }))

  pub instance_ok : (at : Place) (level : Level) (go : Level → Does) → ((l : Level) → Ok P (go l)) → Ok P (instance given at level go)
  instance_ok at level go h =
      either_ok (nat_lt level.instances given.limits.instances) (go (record level { instances = level.instances + 1 })) (Halt (fault_at run_code.Instances at)) (h (record level { instances = level.instances + 1 })) tt

  enters_ok : (handed : List Bound) (t : Template) (self : Self) (a : Here) (go : Here → Does) → ((b : Here) → Alike a b → Ok P (go b)) → (st : State) → Ok P (enters given handed t self a go st)
  enters_ok handed t self a go h st =
      binds_ok t.params handed self (record a { locals = []; state = st }) (λ b. Ask (Body t.body self b) (returns given t a go))
      (λ b r q. h (back a (ends_scope given t.new_scope t.group r.state) r) refl)

  -- who calls a body has the same locals behind it
  runs_ok : (at : Place) (handed : List Bound) (c : Rank) (t : Option Template) (active : List ℕ) (level : Level) (trail : Trail) (a : Here) (go : Here → Does) → ((b : Here) → Alike a b → Ok P (go b)) → Ok P (runs given at handed c t active level trail a go)
  runs_ok at handed c None active level trail a go h = h a refl
  runs_ok at handed c (Some t) active level trail a go h =
      instance_ok at level (λ more. let self = run_as c t active more trail in makes_scope given t.new_scope t.group self a.state (enters given handed t self a go))
      (λ l. let self = run_as c t active l trail in makes_scope_ok t.new_scope t.group self a.state (enters given handed t self a go) (enters_ok handed t self a go h))

  pub children_ok : (twice : Place) (asked : Asked) (a : Here) (go : Here → Does) → ((b : Here) → Alike a b → Ok P (go b)) → Ok P (children twice asked a go)
  children_ok twice asked a go h = of_kids a.kids where
    of_kids : (o : Option Forest) → Ok P (elim o [ None ↦ Halt (fault_at run_code.ChildrenTwice twice) | Some kids ↦ Ask (Nodes (all_of kids) asked a.state) (λ b. go (gone a b.state)) ])
    of_kids None = tt
    of_kids (Some kids) = λ r q. h (gone a r.state) refl

module _ (given : Given) where
  pass_leaf_ok : (base : ℕ) (k : Kinds) (n : Node) (a : Here) → Ok (Alike a) (pass_leaf given base k n a)
  pass_leaf_ok base k n a = puts_ok given (Alike a) (group_at given base) (leaf_parts k n) a.state (λ st. Ret (with_state a st)) (λ t. refl)

  pass_around_ok : (twice : Place) (base : ℕ) (k : Kinds) (source : Source) (trail : Trail) (a : Here) → Ok (Alike a) (pass_around given twice base k source trail a)
  pass_around_ok twice base k source trail a =
      let behind : Here → Does = λ b. puts given (group_at given base) (parts_behind k (current trail)) b.state (λ st. Ret (with_state b st)) in
      puts_ok given (Alike a) (group_at given base) (parts_before k trail (current trail)) a.state (λ st. children twice (passed_on given base source trail) (with_state a st) behind)
      (λ t. children_ok given (Alike a) twice (passed_on given base source trail) (with_state a t) behind
      (λ b e. puts_ok given (Alike a) (group_at given base) (parts_behind k (current trail)) b.state (λ st. Ret (with_state b st)) (λ u. e)))

  pass_node_ok : (twice : Place) (base : ℕ) (source : Source) (trail : Trail) (n : Node) (a : Here) → Ok (Alike a) (pass_node given twice base source trail n a)
  pass_node_ok twice base source trail Document a = pass_around_ok twice base (kinds_in given base) source trail a
  pass_node_ok twice base source trail (Element name attrs decls first) a = pass_around_ok twice base (kinds_in given base) source trail a
  pass_node_ok twice base source trail (Chars text) a = pass_leaf_ok base (kinds_in given base) (Chars text) a
  pass_node_ok twice base source trail (CData text) a = pass_leaf_ok base (kinds_in given base) (CData text) a
  pass_node_ok twice base source trail (Comment text) a = pass_leaf_ok base (kinds_in given base) (Comment text) a
  pass_node_ok twice base source trail (Pi target text) a = pass_leaf_ok base (kinds_in given base) (Pi target text) a
  pass_node_ok twice base source trail (Attribute x) a = pass_leaf_ok base (kinds_in given base) (Attribute x) a

  pub again_ok : (at : Place) (base : ℕ) (handed : List Bound) (self : Self) (a : Here) → Ok (Alike a) (again given at base handed self a)
  again_ok at base handed self a = of_choice (choice given base self.active self.trail a.state) where
    of_choice : (o : Option Rank) → Ok (Alike a) (elim o [ None ↦ pass_node given at base self.level.source self.trail (current self.trail) a | Some c ↦ runs given at handed c (template_at given c) self.active self.level self.trail a (λ b. Ret b) ])
    of_choice None = pass_node_ok at base self.level.source self.trail (current self.trail) a
    of_choice (Some c) = runs_ok given (Alike a) at handed c (template_at given c) self.active self.level self.trail a (λ b. Ret b) (λ b e. e)

  pub finish_ok : (source : Source) (a : Here) → Ok (Alike a) (finish given source a)
  finish_ok source a = of_kids a.kids where
    of_kids : (o : Option Forest) → Ok (Alike a) (elim o [ None ↦ Ret a | Some kids ↦ skip given source kids a.state (λ st. Ret (gone a st)) ])
    of_kids None = refl
    of_kids (Some kids) = skip_ok given (Alike a) source kids a.state (λ st. Ret (gone a st)) (λ t. refl)

  -- whatever a node's body leaves, what follows starts from a state
  any_node : (asked : Asked) (trail : Trail) (a : Here) → Ok (λ b. Unit {0}) (node given asked trail a)
  any_node asked trail a = of_choice (choice given asked.base [] trail a.state) where
    of_choice : (o : Option Rank) → Ok (λ b. Unit {0}) (elim o [ None ↦ pass_node given asked.at asked.base asked.level.source trail (current trail) a | Some c ↦ runs given asked.at asked.params c (template_at given c) [] asked.level trail a (finish given asked.level.source) ])
    of_choice None = holds_more Post (Alike a) (λ b. Unit {0}) (pass_node given asked.at asked.base asked.level.source trail (current trail) a) (λ r e. tt) (pass_node_ok asked.at asked.base asked.level.source trail (current trail) a)
    of_choice (Some c) =
        runs_ok given (λ b. Unit {0}) asked.at asked.params c (template_at given c) [] asked.level trail a (finish given asked.level.source)
        (λ b e. holds_more Post (Alike b) (λ d. Unit {0}) (finish given asked.level.source b) (λ r q. tt) (finish_ok asked.level.source b))

  pub attributes_ok : (P : Here → Type 0) (earlier coming : List Attr) (asked : Asked) (st : State) (go : State → Does) → ((t : State) → Ok P (go t)) → Ok P (attributes given earlier coming asked st go)
  attributes_ok P earlier [] asked st go h = h st
  attributes_ok P earlier (x ∷ xs) asked st go h =
      let trail = stands (Attribute x) (passing_among earlier) asked.within in
      holds_then Post P (node given asked trail (single st)) (λ b. attributes given (earlier ++ x ∷ []) xs asked b.state go)
      (holds_more Post (λ b. Unit {0}) (λ b. Ok P (attributes given (earlier ++ x ∷ []) xs asked b.state go)) (node given asked trail (single st))
      (λ b u. attributes_ok P (earlier ++ x ∷ []) xs asked b.state go h) (any_node asked trail (single st)))
