-- Whatever its calls give, the current node asked for again leaves the locals of the body that asks.
use Rattle.std.proofs.Common.{◌≡◌, ◌++◌, ◌∷◌, [], List, nat_lt, Bool, true, false, Option, Some, None, Result, Ok as Fine, Err, ℕ, ◌+◌, refl, ap, sym, ◌∙◌, if◌then◌else◌}
use Rattle.stx_base.specs.Course.{Ask, Halt, Ret, Say, and_then}
use Rattle.stx_base.proofs.Course.{funext}
use Rattle.stx_base.specs.declared.fault.Place.{Place}
use Rattle.stx_base.specs.declared.fault.RunCode.TheVariants as run_code
use Rattle.stx_base.specs.declared.name.Attr.{Attr}
use Rattle.stx_base.specs.declared.part.Part.{Part}
use Rattle.node_stack.specs.Path.{Node, Document, Element, Chars, CData, Comment, Pi, Attribute}
use Rattle.result_writer.specs.Target.{fault}
use Rattle.result_writer.specs.declared.fault.ResultFault.{ResultFault}
use Rattle.sheet_model.specs.declared.pass.Kinds.{Kinds}
use Rattle.sheet_model.specs.declared.sheet.Template.{Template}
use Rattle.sheet_model.specs.declared.sheet.Variable.{Variable}
use Rattle.stxpath_values.specs.declared.fault.EvalFault.{EvalFault}
use Rattle.var_store.specs.Variables.{value_of}
use Rattle.var_store.specs.declared.bound.Bound.{Bound}
use Rattle.xml_events.specs.Tree.{Forest}
use Rattle.event_buffers.specs.Buffers.{refusal_at}
use Rattle.event_buffers.specs.declared.fault.BufferFault.{BufferFault}
use Rattle.group_scope.specs.declared.rank.Rank.{Rank}
use Rattle.instr_code.specs.Running as running
use Rattle.template_machine.specs.Declaring.{binds, commanded, declaration_setting, ends_scope, kept, makes, makes_scope, new_value, parameter_value, with_scope, with_variable}
use Rattle.template_machine.specs.Ending.{fault_at}
use Rattle.template_machine.specs.Job.{Asked, Body, Does, Given, Here, Level, Nodes, Self, Source, State, all_of, single, with_state}
use Rattle.template_machine.specs.Passing.{again, attributes, back, children, choice, enters, gone, group_at, instance, kinds_in, leaf_parts, node, parts_before, parts_behind, pass_around, pass_leaf, pass_node, passed_on, returns, run_as, runs, template_at}
use Rattle.template_machine.specs.Putting.{kept_in, put_out, put_to, puts, unless_fault, unless_refused}
use Rattle.template_machine.specs.Stepwise.{Flat_does, Working, lifted}
use Rattle.template_machine.specs.Trail.{Trail, current, passing_among, stands}
use Rattle.template_machine.specs.Values.{got, setting}

-- so it is with each result
abbrev pub Leaves : (Here → Type 0) → Does → Type 0
Leaves P (Ret a) = P a
Leaves P (Halt e) = Unit {0}
Leaves P (Say o x) = Leaves P x
Leaves P (Ask q k) = (b : Here) → Leaves P (k b)

-- and then what follows may differ elsewhere
pub lifted_alike : (P : Here → Type 0) (x : Does) (k h : Here → Flat_does) → Leaves P x → ((a : Here) → P a → k a ≡ h a) → lifted x k ≡ lifted x h
lifted_alike P (Ret a) k h l e = e a l
lifted_alike P (Halt end) k h l e = refl
lifted_alike P (Say o x) k h l e = ap (Say o) (lifted_alike P x k h l e)
lifted_alike P (Ask q g) k h l e =
    ap (λ (r : Working → Flat_does). Ask (running.Given q) r) (funext (λ (w : Working). lifted_alike P (g w.here) k h (l w.here) e))

-- with just these locals
abbrev pub Keeps : Here → Here → Type 0
Keeps a b = b.locals ≡ a.locals

module _ (given : Given) (P : Here → Type 0) where
  got_leaves : {A : Type 0} (at : Place) (r : Result A EvalFault) (go : A → Does) → ((x : A) → Leaves P (go x)) → Leaves P (got at r go)
  got_leaves at (Fine x) go h = h x
  got_leaves at (Err f) go h = tt

  either_leaves : (b : Bool) (x y : Does) → Leaves P x → Leaves P y → Leaves P (if b then x else y)
  either_leaves true x y h k = h
  either_leaves false x y h k = k

  fault_leaves : (o : Option ResultFault) (at : Place) (x : Does) → Leaves P x → Leaves P (unless_fault o at x)
  fault_leaves None at x h = h
  fault_leaves (Some f) at x h = tt

  refused_leaves : (o : Option BufferFault) (at : Place) (x : Does) → Leaves P x → Leaves P (unless_refused o at x)
  refused_leaves None at x h = h
  refused_leaves (Some f) at x h = tt

  put_leaves : (targets : List ℕ) (at : Place) (p : Part) (st : State) (go : State → Does) → ((t : State) → Leaves P (go t)) → Leaves P (put_to given targets at p st go)
  put_leaves [] at p st go h = fault_leaves (fault given.limits.elements st.result p) at _ (h (put_out p st))
  put_leaves (id ∷ targets) at p st go h = refused_leaves (refusal_at st.buffers id p) at (go (kept_in id p st)) (h (kept_in id p st))

  puts_leaves : (at : Place) (ps : List Part) (st : State) (go : State → Does) → ((t : State) → Leaves P (go t)) → Leaves P (puts given at ps st go)
  puts_leaves at [] st go h = h st
  puts_leaves at (p ∷ ps) st go h = put_leaves st.targets at p st (λ t. puts given at ps t go) (λ t. puts_leaves at ps t go h)

  makes_leaves : (test : Variable → Bool) (earlier vs : List Variable) (self : Self) (st : State) (go : State → Does) → ((t : State) → Leaves P (go t)) → Leaves P (makes given test earlier vs self st go)
  makes_leaves test earlier [] self st go h = h st
  makes_leaves test earlier (v ∷ vs) self st go h =
      either_leaves (test v) _ _
      (got_leaves v.at (new_value given (commanded given v) (kept given v st) v (declaration_setting given earlier v self st)) _
      (λ x. makes_leaves test (earlier ++ v ∷ []) vs self (with_variable given v x st) go h))
      (makes_leaves test (earlier ++ v ∷ []) vs self st go h)

  scope_leaves : (new : Bool) (group : ℕ) (self : Self) (st : State) (go : State → Does) → ((t : State) → Leaves P (go t)) → Leaves P (makes_scope given new group self st go)
  scope_leaves false group self st go h = h st
  scope_leaves true group self st go h = makes_leaves _ [] given.sheet.variables self (with_scope group st) go h

  binds_leaves : (vs : List Variable) (handed : List Bound) (self : Self) (a : Here) (go : Here → Does) → ((b : Here) → Leaves P (go b)) → Leaves P (binds given vs handed self a go)
  binds_leaves [] handed self a go h = h a
  binds_leaves (v ∷ vs) handed self a go h =
      got_leaves v.at (parameter_value given (value_of v.name handed) v (setting given self a)) _
      (λ x. binds_leaves vs handed self (record a { locals = a.locals ++ record { name = v.name; value = x } ∷ [] }) go h)

  instance_leaves : (at : Place) (level : Level) (go : Level → Does) → ((l : Level) → Leaves P (go l)) → Leaves P (instance given at level go)
  instance_leaves at level go h =
      either_leaves (nat_lt level.instances given.limits.instances) (go (record level { instances = level.instances + 1 })) (Halt (fault_at run_code.Instances at)) (h (record level { instances = level.instances + 1 })) tt

  enters_leaves : (handed : List Bound) (t : Template) (self : Self) (a : Here) (go : Here → Does) → ((b : Here) → Keeps a b → Leaves P (go b)) → (st : State) → Leaves P (enters given handed t self a go st)
  enters_leaves handed t self a go h st =
      binds_leaves t.params handed self (record a { locals = []; state = st }) (λ b. Ask (Body t.body self b) (returns given t a go))
      (λ b r. h (back a (ends_scope given t.new_scope t.group r.state) r) refl)

  runs_leaves : (at : Place) (handed : List Bound) (c : Rank) (t : Option Template) (active : List ℕ) (level : Level) (trail : Trail) (a : Here) (go : Here → Does) → ((b : Here) → Keeps a b → Leaves P (go b))
      → Leaves P (runs given at handed c t active level trail a go)
  runs_leaves at handed c None active level trail a go h = h a refl
  runs_leaves at handed c (Some t) active level trail a go h =
      instance_leaves at level (λ more. let self = run_as c t active more trail in makes_scope given t.new_scope t.group self a.state (enters given handed t self a go))
      (λ l. let self = run_as c t active l trail in scope_leaves t.new_scope t.group self a.state (enters given handed t self a go) (enters_leaves handed t self a go h))

  pub children_leaves : (twice : Place) (asked : Asked) (a : Here) (go : Here → Does) → ((b : Here) → Keeps a b → Leaves P (go b)) → Leaves P (children twice asked a go)
  children_leaves twice asked a go h = of_kids a.kids where
    of_kids : (o : Option Forest) → Leaves P (elim o [ None ↦ Halt (fault_at run_code.ChildrenTwice twice) | Some kids ↦ Ask (Nodes (all_of kids) asked a.state) (λ b. go (gone a b.state)) ])
    of_kids None = tt
    of_kids (Some kids) = λ r. h (gone a r.state) refl

module _ (given : Given) where
  leaf_leaves : (base : ℕ) (k : Kinds) (n : Node) (a : Here) → Leaves (Keeps a) (pass_leaf given base k n a)
  leaf_leaves base k n a = puts_leaves given (Keeps a) (group_at given base) (leaf_parts k n) a.state (λ st. Ret (with_state a st)) (λ t. refl)

  around_leaves : (twice : Place) (base : ℕ) (k : Kinds) (source : Source) (trail : Trail) (a : Here) → Leaves (Keeps a) (pass_around given twice base k source trail a)
  around_leaves twice base k source trail a =
      let behind : Here → Does = λ b. puts given (group_at given base) (parts_behind k (current trail)) b.state (λ st. Ret (with_state b st)) in
      puts_leaves given (Keeps a) (group_at given base) (parts_before k trail (current trail)) a.state (λ st. children twice (passed_on given base source trail) (with_state a st) behind)
      (λ t. children_leaves given (Keeps a) twice (passed_on given base source trail) (with_state a t) behind
      (λ b e. puts_leaves given (Keeps a) (group_at given base) (parts_behind k (current trail)) b.state (λ st. Ret (with_state b st)) (λ u. e)))

  node_leaves : (twice : Place) (base : ℕ) (source : Source) (trail : Trail) (n : Node) (a : Here) → Leaves (Keeps a) (pass_node given twice base source trail n a)
  node_leaves twice base source trail Document a = around_leaves twice base (kinds_in given base) source trail a
  node_leaves twice base source trail (Element name attrs decls first) a = around_leaves twice base (kinds_in given base) source trail a
  node_leaves twice base source trail (Chars text) a = leaf_leaves base (kinds_in given base) (Chars text) a
  node_leaves twice base source trail (CData text) a = leaf_leaves base (kinds_in given base) (CData text) a
  node_leaves twice base source trail (Comment text) a = leaf_leaves base (kinds_in given base) (Comment text) a
  node_leaves twice base source trail (Pi target text) a = leaf_leaves base (kinds_in given base) (Pi target text) a
  node_leaves twice base source trail (Attribute x) a = leaf_leaves base (kinds_in given base) (Attribute x) a

  pub again_leaves : (at : Place) (base : ℕ) (handed : List Bound) (self : Self) (a : Here) → Leaves (Keeps a) (again given at base handed self a)
  again_leaves at base handed self a = of_choice (choice given base self.active self.trail a.state) where
    of_choice : (o : Option Rank)
        → Leaves (Keeps a)
        (elim o [
          | None ↦ pass_node given at base self.level.source self.trail (current self.trail) a
          | Some c ↦ runs given at handed c (template_at given c) self.active self.level self.trail a (λ b. Ret b)
        ])
    of_choice None = node_leaves at base self.level.source self.trail (current self.trail) a
    of_choice (Some c) = runs_leaves given (Keeps a) at handed c (template_at given c) self.active self.level self.trail a (λ b. Ret b) (λ b e. e)

-- Attributes.

pub then_leaves : (P : Here → Type 0) (x : Does) (k : Here → Does) → ((b : Here) → Leaves P (k b)) → Leaves P (and_then x k)
then_leaves P (Ret a) k h = h a
then_leaves P (Halt e) k h = tt
then_leaves P (Say o x) k h = then_leaves P x k h
then_leaves P (Ask q g) k h = λ b. then_leaves P (g b) k h

pub attributes_leave : (given : Given) (P : Here → Type 0) (earlier coming : List Attr) (asked : Asked) (st : State) (go : State → Does) → ((t : State) → Leaves P (go t))
    → Leaves P (attributes given earlier coming asked st go)
attributes_leave given P earlier [] asked st go h = h st
attributes_leave given P earlier (x ∷ xs) asked st go h =
    then_leaves P (node given asked (stands (Attribute x) (passing_among earlier) asked.within) (single st)) (λ b. attributes given (earlier ++ x ∷ []) xs asked b.state go)
    (λ b. attributes_leave given P (earlier ++ x ∷ []) xs asked b.state go h)

-- one thing and then another
pub lifted_then : (x : Does) (k : Here → Does) (h : Here → Flat_does) → lifted (and_then x k) h ≡ lifted x (λ a. lifted (k a) h)
lifted_then (Ret a) k h = refl
lifted_then (Halt e) k h = refl
lifted_then (Say o x) k h = ap (Say o) (lifted_then x k h)
lifted_then (Ask q g) k h = ap (λ (r : Working → Flat_does). Ask (running.Given q) r) (funext (λ (w : Working). lifted_then (g w.here) k h))

-- attributes one after another, and then what follows from the state that they leave
pub attributes_then : (given : Given) (earlier coming : List Attr) (asked : Asked) (st : State) (go : State → Does) (h : Here → Flat_does)
    → lifted (attributes given earlier coming asked st go) h ≡ lifted (attributes given earlier coming asked st (λ t. Ret (single t))) (λ b. lifted (go b.state) h)
attributes_then given earlier [] asked st go h = refl
attributes_then given earlier (x ∷ xs) asked st go h =
    let first : Does = node given asked (stands (Attribute x) (passing_among earlier) asked.within) (single st) in
    lifted_then first (λ b. attributes given (earlier ++ x ∷ []) xs asked b.state go) h
    ∙ ap (lifted first) (funext (λ (b : Here). attributes_then given (earlier ++ x ∷ []) xs asked b.state go h))
    ∙ sym (lifted_then first (λ b. attributes given (earlier ++ x ∷ []) xs asked b.state (λ t. Ret (single t))) (λ b. lifted (go b.state) h))
