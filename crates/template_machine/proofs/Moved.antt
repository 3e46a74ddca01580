-- A run whose sheet has its templates in another order does the same, call by call.
use Rattle.sheet_model.specs.Parts.{place}
use Rattle.sheet_model.specs.Groups.{around}
use Rattle.std.proofs.Common.{◌≡◌, ℕ, zero, suc, ◌+◌, nat_lt, Bool, true, false, List, [], ◌∷◌, ◌++◌, map, slice_get, Option, Some, None, Result, Ok as Fine, Err, option_map, refl, sym, ap, subst, if◌then◌else◌}
use Rattle.stx_base.specs.Course.{Ret, Halt, Say, Ask, and_then}
use Rattle.stx_base.specs.declared.fault.Place.{Place}
use Rattle.stx_base.specs.declared.fault.RunCode.TheVariants as run_code
use Rattle.stx_base.specs.declared.name.Attr.{Attr}
use Rattle.stx_base.specs.declared.name.Binding.{Binding}
use Rattle.stx_base.specs.declared.name.Name.{Name}
use Rattle.stx_base.specs.declared.node.NodeTest.{NodeTest}
use Rattle.stx_base.specs.declared.part.Part.{Part}
use Rattle.stx_base.specs.declared.part.Part.TheVariants as part
use Rattle.node_stack.specs.Path.{Node, Document, Element, Chars, CData, Comment, Pi, Attribute}
use Rattle.result_writer.specs.Target.{fault}
use Rattle.result_writer.specs.declared.fault.ResultFault.{ResultFault}
use Rattle.sheet_model.specs.declared.instr.Instr.{Instr, out-Instr}
use Rattle.sheet_model.specs.declared.instr.Instr.TheOpen.{Instr-F}
use Rattle.sheet_model.specs.declared.instr.When.{When, out-When}
use Rattle.sheet_model.specs.declared.instr.WithParam.{WithParam}
use Rattle.sheet_model.specs.declared.pass.Kinds.{Kinds}
use Rattle.sheet_model.specs.declared.sheet.Group.{Group}
use Rattle.sheet_model.specs.declared.sheet.Procedure.{Procedure}
use Rattle.sheet_model.specs.declared.sheet.Template.{Template}
use Rattle.sheet_model.specs.declared.sheet.Variable.{Variable}
use Rattle.stxpath_eval.specs.Setting.{Setting}
use Rattle.stxpath_eval.specs.Value.{value}
use Rattle.stxpath_syntax.specs.declared.expr.Avt.{Avt}
use Rattle.stxpath_syntax.specs.declared.expr.Expr.{Expr}
use Rattle.stxpath_syntax.specs.declared.expr.Pattern.{Pattern}
use Rattle.stxpath_values.specs.Outcome as outcome
use Rattle.stxpath_values.specs.declared.fault.EvalFault.{EvalFault}
use Rattle.stxpath_values.specs.declared.value.Atom.{Atom}
use Rattle.var_store.specs.Variables.{value_of}
use Rattle.var_store.specs.declared.bound.Bound.{Bound}
use Rattle.xml_events.specs.Tree.{Mark, Begun, Stage, Waiting, Ready, Entered, Forest, End, Cut, Single, Nested}
use Rattle.event_buffers.specs.Buffers.{busy_at, read_at, refusal_at, unclosed_at}
use Rattle.event_buffers.specs.Forest.{forest}
use Rattle.event_buffers.specs.declared.fault.BufferFault.{BufferFault}
use Rattle.group_scope.specs.Laws.{ChoosesTheBest, IsOrdered}
use Rattle.group_scope.specs.declared.rank.Rank.{Rank}
use Rattle.template_machine.specs.Acting.{acts, asked_beside, asked_of, asked_within, assigned, attribute_of, attributes_of, begins_reading, begins_writing, buffer_nodes, calls, choose, condition, copied, copy_parts, cut_to, document_nodes, ends_reading, ends_writing, has_list, has_siblings, loop, named, opens, put_around, put_parts, siblings_of, turns, with_local, without_space, writes}
use Rattle.template_machine.specs.Declaring.{at_start, binds, commanded, declaration_setting, ends_scope, hands, kept, makes, makes_scope, new_value, parameter_value, with_scope, with_variable}
use Rattle.template_machine.specs.Ending.{Ending, Note, Open, Put, Said, Spent, fault_at}
use Rattle.template_machine.specs.Finding.{base_of, buffer_seen, passing, procedure_at, procedure_seen}
use Rattle.template_machine.specs.Fuel.{begin, begin_now, end_now, ended, is_begun, is_entered, skip, spend, when_ready}
use Rattle.template_machine.specs.Job.{Asked, Body, Does, Given, Here, Job, Level, Loop, Main, Nodes, Opened, Self, Siblings, Source, State, all_of, remains, single, sources_open, with_state}
use Rattle.template_machine.specs.Meaning.{asked_first, at_document, body, code, ends_some, exec, first_here, head, list, meaning, nodes, taken}
use Rattle.template_machine.specs.Order.{KeepsEquals, OrderMattersAmongEquals, Reorders, with_templates}
use Rattle.template_machine.specs.Passing.{again, attributes, back, children, choice, enters, finish, gone, group_at, instance, kinds_in, leaf_parts, node, parts_before, parts_behind, pass_around, pass_leaf, pass_node, pass_of, passed_on, returns, run_as, runs, start_parts, template_at}
use Rattle.template_machine.specs.Putting.{attribute_part, kept_in, put_out, put_to, puts, text_parts, unless_fault, unless_refused}
use Rattle.template_machine.specs.Trail.{Trail, current, document, element_node, first_by, leaf_node, passing_among, stands, without_place}
use Rattle.template_machine.specs.Values.{atoms_of, computed_name, content_text, got, items_text, namespace_text, selected, setting, space, template_text, template_text_or, truth_of}
use Rattle.template_machine.proofs.Ordered.{moved_choice, moved_rank}
use Rattle.template_machine.proofs.Twins.{Twin, Twins, flipped, twin_then, twins_end}

-- who runs, with the active templates where they stand now
abbrev moved_self : (ℕ → ℕ) → Self → Self
moved_self now self = record self { active = map now self.active }

abbrev moved : (ℕ → ℕ) → Job → Job
moved now (Nodes left asked st) = Nodes left asked st
moved now (Body is self a) = Body is (moved_self now self) a
moved now (Loop test is at self a) = Loop test is at (moved_self now self) a

module _ (given : Given) (templates : List Template) (order : Reorders given.sheet.templates templates) where
  abbrev other : Given
  other = with_templates given templates

  abbrev there : Self → Self
  there self = moved_self order.now self

  abbrev Like : Job → Job → Type 0
  Like q p = p ≡ moved order.now q

  abbrev Any : Said → Type 0
  Any o = Unit {0}

  abbrev Post : Here → Type 0
  Post r = Unit {0}

  abbrev T : Does → Does → Type 0
  T x y = Twins Like Any Post x y

  same_ret : (a : Here) → T (Ret a) (Ret a)
  same_ret a = record { is = (refl, tt) }

  halts : (e : Ending) → T (Halt e) (Halt e)
  halts e = record { is = refl }

  says_t : (o : Said) (x y : Does) → T x y → T (Say o x) (Say o y)
  says_t o x y h = record { is = (y, refl, tt, h.is) }

  then_t : (x y : Does) (k j : Here → Does) → T x y → ((r : Here) → T (k r) (j r)) → T (and_then x k) (and_then y j)
  then_t x y k j t h = record { is = twin_then Like Any Post x y k j t.is (λ r u. (h r).is) }

  asks : (q : Job) (k j : Here → Does) → ((r : Here) → T (k r) (j r)) → T (Ask q k) (Ask (moved order.now q) j)
  asks q k j h = record { is = (moved order.now q, j, refl, refl, λ r u. (h r).is) }

  got_t : {A : Type 0} (at : Place) (r : Result A EvalFault) (go on : A → Does) → ((x : A) → T (go x) (on x)) → T (got at r go) (got at r on)
  got_t at (Fine x) go on h = h x
  got_t at (Err f) go on h = halts _

  either_t : (b : Bool) (x y v w : Does) → T x v → T y w → T (if b then x else y) (if b then v else w)
  either_t true x y v w h k = h
  either_t false x y v w h k = k

  fault_t : (o : Option ResultFault) (at : Place) (x y : Does) → T x y → T (unless_fault o at x) (unless_fault o at y)
  fault_t None at x y h = h
  fault_t (Some f) at x y h = halts _

  refused_t : (o : Option BufferFault) (at : Place) (x y : Does) → T x y → T (unless_refused o at x) (unless_refused o at y)
  refused_t None at x y h = h
  refused_t (Some f) at x y h = halts _

  put_t : (targets : List ℕ) (at : Place) (p : Part) (st : State) (go on : State → Does) → ((t : State) → T (go t) (on t)) → T (put_to given targets at p st go) (put_to other targets at p st on)
  put_t [] at p st go on h =
      fault_t (fault given.limits.elements st.result p) at _ _ (says_t (Put p) _ _ (h (put_out p st)))
  put_t (id ∷ targets) at p st go on h = refused_t (refusal_at st.buffers id p) at (go (kept_in id p st)) (on (kept_in id p st)) (h (kept_in id p st))

  puts_t : (at : Place) (ps : List Part) (st : State) (go on : State → Does) → ((t : State) → T (go t) (on t)) → T (puts given at ps st go) (puts other at ps st on)
  puts_t at [] st go on h = h st
  puts_t at (p ∷ ps) st go on h = put_t st.targets at p st (λ t. puts given at ps t go) (λ t. puts other at ps t on) (λ t. puts_t at ps t go on h)

  same_new : (a b : Option (List Atom)) (v : Variable) (g : Setting) → new_value other a b v g ≡ new_value given a b v g
  same_new (Some x) b v g = refl
  same_new None (Some x) v g = refl
  same_new None None v g = refl

  makes_t : (test : Variable → Bool) (earlier vs : List Variable) (self : Self) (st : State) (go on : State → Does) → ((t : State) → T (go t) (on t))
      → T (makes given test earlier vs self st go) (makes other test earlier vs (there self) st on)
  makes_t test earlier [] self st go on h = h st
  makes_t test earlier (v ∷ vs) self st go on h =
      let made = λ (x : List Atom). makes given test (earlier ++ v ∷ []) vs self (with_variable given v x st) go in
      let made_there = λ (x : List Atom). makes other test (earlier ++ v ∷ []) vs (there self) (with_variable given v x st) on in
      let sees = declaration_setting given earlier v self st in
      either_t (test v) _ _ _ _
      (subst (λ r. T (got v.at (new_value given (commanded given v) (kept given v st) v sees) made) (got v.at r made_there))
      (sym (same_new (commanded given v) (kept given v st) v sees))
      (got_t v.at (new_value given (commanded given v) (kept given v st) v sees) made made_there
      (λ x. makes_t test (earlier ++ v ∷ []) vs self (with_variable given v x st) go on h)))
      (makes_t test (earlier ++ v ∷ []) vs self st go on h)

  makes_scope_t : (new : Bool) (group : ℕ) (self : Self) (st : State) (go on : State → Does) → ((t : State) → T (go t) (on t))
      → T (makes_scope given new group self st go) (makes_scope other new group (there self) st on)
  makes_scope_t false group self st go on h = h st
  makes_scope_t true group self st go on h = makes_t _ [] given.sheet.variables self (with_scope group st) go on h

  same_parameter : (o : Option (List Atom)) (v : Variable) (g : Setting) → parameter_value other o v g ≡ parameter_value given o v g
  same_parameter (Some x) v g = refl
  same_parameter None v g = refl

  binds_t : (vs : List Variable) (handed : List Bound) (self : Self) (a : Here) (go on : Here → Does) → ((b : Here) → T (go b) (on b))
      → T (binds given vs handed self a go) (binds other vs handed (there self) a on)
  binds_t [] handed self a go on h = h a
  binds_t (v ∷ vs) handed self a go on h =
      let bound = λ (x : List Atom). record a { locals = a.locals ++ record { name = v.name; value = x } ∷ [] } in
      let sees = setting given self a in
      subst (λ r. T (got v.at (parameter_value given (value_of v.name handed) v sees) (λ x. binds given vs handed self (bound x) go)) (got v.at r (λ x. binds other vs handed (there self) (bound x) on)))
      (sym (same_parameter (value_of v.name handed) v sees))
      (got_t v.at (parameter_value given (value_of v.name handed) v sees) (λ x. binds given vs handed self (bound x) go) (λ x. binds other vs handed (there self) (bound x) on)
      (λ x. binds_t vs handed self (bound x) go on h))

  hands_t : (at : Place) (ps : List WithParam) (self : Self) (a : Here) (go on : List Bound → Does) → ((bs : List Bound) → T (go bs) (on bs))
      → T (hands given at ps self a go) (hands other at ps (there self) a on)
  hands_t at [] self a go on h = h []
  hands_t at (p ∷ ps) self a go on h =
      got_t at (atoms_of p.select (setting given self a)) _ _ (λ x. hands_t at ps self a _ _ (λ bs. h (record { name = p.name; value = x } ∷ bs)))

  spend_t : (at : Place) (st : State) (go on : State → Does) → ((t : State) → T (go t) (on t)) → T (spend at st go) (spend at st on)
  spend_t at st go on h = of_fuel st.fuel where
    of_fuel : (n : ℕ) → T (elim n [ zero ↦ Halt (Spent at) | suc n ↦ go (record st { fuel = n }) ]) (elim n [ zero ↦ Halt (Spent at) | suc n ↦ on (record st { fuel = n }) ])
    of_fuel zero = halts _
    of_fuel (suc n) = h (record st { fuel = n })

  begin_t : (source : Source) (before : Bool) (st : State) (go on : State → Does) → ((t : State) → T (go t) (on t)) → T (begin given source before st go) (begin other source before st on)
  begin_t source before st go on h = either_t before _ _ _ _ (h st) (of_source source) where
    of_source : (source : Source) → T (begin_now given source st go) (begin_now other source st on)
    of_source Main = h (record st { fuel = given.limits.fuel })
    of_source (Opened name at number) = spend_t at st go on h

  same_end : (source : Source) (m : Mark) (st : State) → ended other source m st ≡ ended given source m st
  same_end source m st = ap (λ t. if is_begun m then st else t) (of_source source) where
    of_source : (source : Source) → end_now other source st ≡ end_now given source st
    of_source Main = refl
    of_source (Opened name at number) = refl

  ready_t : (source : Source) (stage : Stage) (kids : Forest) (x y : Does) → T x y → T (when_ready source stage kids x) (when_ready source stage kids y)
  ready_t source (Ready first) kids x y h = h
  ready_t source (Entered first) kids x y h = h
  ready_t source Waiting (Cut why) x y h = halts _
  ready_t source Waiting (End m offset) x y h = h
  ready_t source Waiting (Single m leaf next) x y h = h
  ready_t source Waiting (Nested stage e kids next) x y h = h

  skip_t : (source : Source) (l : Forest) (st : State) (go on : State → Does) → ((t : State) → T (go t) (on t)) → T (skip given source l st go) (skip other source l st on)
  skip_t source (End m offset) st go on h = subst (λ t. T (go (ended given source m st)) (on t)) (sym (same_end source m st)) (h (ended given source m st))
  skip_t source (Cut why) st go on h = halts _
  skip_t source (Single m leaf next) st go on h = begin_t source (is_begun m) st _ _ (λ t. skip_t source next t go on h)
  skip_t source (Nested stage e kids next) st go on h =
      ready_t source stage kids _ _ (begin_t source (is_entered stage) st _ _ (λ t. skip_t source kids t _ _ (λ t. skip_t source next t go on h)))

  instance_t : (at : Place) (level : Level) (go on : Level → Does) → ((l : Level) → T (go l) (on l)) → T (instance given at level go) (instance other at level on)
  instance_t at level go on h =
      either_t (nat_lt level.instances given.limits.instances) _ _ _ _ (h (record level { instances = level.instances + 1 })) (halts _)

  same_ends : (new : Bool) (group : ℕ) (st : State) → ends_scope other new group st ≡ ends_scope given new group st
  same_ends false group st = refl
  same_ends true group st = refl

  returns_t : (t : Template) (a : Here) (go on : Here → Does) → ((b : Here) → T (go b) (on b)) → (b : Here) → T (returns given t a go b) (returns other t a on b)
  returns_t t a go on h b =
      let st = ends_scope given t.new_scope t.group b.state in
      subst (λ s. T (go (back a st b)) (on (back a s b))) (sym (same_ends t.new_scope t.group b.state)) (h (back a st b))

  enters_t : (handed : List Bound) (t : Template) (self : Self) (a : Here) (go on : Here → Does) → ((b : Here) → T (go b) (on b)) → (st : State)
      → T (enters given handed t self a go st) (enters other handed t (there self) a on st)
  enters_t handed t self a go on h st =
      binds_t t.params handed self (record a { locals = []; state = st }) (λ b. Ask (Body t.body self b) (returns given t a go)) (λ b. Ask (Body t.body (there self) b) (returns other t a on))
      (λ b. asks (Body t.body self b) (returns given t a go) (returns other t a on) (returns_t t a go on h))

  runs_t : (at : Place) (handed : List Bound) (c : Rank) (o : Option Template) (active : List ℕ) (level : Level) (trail : Trail) (a : Here) (go on : Here → Does) → ((b : Here) → T (go b) (on b))
      → T (runs given at handed c o active level trail a go) (runs other at handed (moved_rank order.now c) o (map order.now active) level trail a on)
  runs_t at handed c None active level trail a go on h = h a
  runs_t at handed c (Some t) active level trail a go on h =
      instance_t at level _ _ (λ more.
      let self = run_as c t active more trail in
      makes_scope_t t.new_scope t.group self a.state (enters given handed t self a go) (enters other handed t (there self) a on) (enters_t handed t self a go on h))

  children_t : (twice : Place) (asked : Asked) (a : Here) (go on : Here → Does) → ((b : Here) → T (go b) (on b)) → T (children twice asked a go) (children twice asked a on)
  children_t twice asked a go on h = of_kids a.kids where
    of_kids : (o : Option Forest)
        → T (elim o [ None ↦ Halt (fault_at run_code.ChildrenTwice twice) | Some kids ↦ Ask (Nodes (all_of kids) asked a.state) (λ b. go (gone a b.state)) ])
        (elim o [ None ↦ Halt (fault_at run_code.ChildrenTwice twice) | Some kids ↦ Ask (Nodes (all_of kids) asked a.state) (λ b. on (gone a b.state)) ])
    of_kids None = halts _
    of_kids (Some kids) = asks (Nodes (all_of kids) asked a.state) (λ b. go (gone a b.state)) (λ b. on (gone a b.state)) (λ b. h (gone a b.state))

  same_kinds : (base : ℕ) → kinds_in other base ≡ kinds_in given base
  same_kinds base = of_group (slice_get given.sheet.groups base) where
    of_group : (o : Option Group) → pass_of other o ≡ pass_of given o
    of_group None = refl
    of_group (Some g) = refl

  put_back_t : (at : Place) (parts : List Part) (a : Here) → T (puts given at parts a.state (λ st. Ret (with_state a st))) (puts other at parts a.state (λ st. Ret (with_state a st)))
  put_back_t at parts a = puts_t at parts a.state _ _ (λ t. same_ret (with_state a t))

  pass_around_t : (twice : Place) (base : ℕ) (k : Kinds) (source : Source) (trail : Trail) (a : Here) → T (pass_around given twice base k source trail a) (pass_around other twice base k source trail a)
  pass_around_t twice base k source trail a =
      puts_t (group_at given base) (parts_before k trail (current trail)) a.state _ _
      (λ t. children_t twice (passed_on given base source trail) (with_state a t) _ _
      (λ b. put_back_t (group_at given base) (parts_behind k (current trail)) b))

  pass_leaf_t : (base : ℕ) (k : Kinds) (n : Node) (a : Here) → T (pass_leaf given base k n a) (pass_leaf other base k n a)
  pass_leaf_t base k n a = put_back_t (group_at given base) (leaf_parts k n) a

  around_kinds_t : (twice : Place) (base : ℕ) (source : Source) (trail : Trail) (a : Here) → T (pass_around given twice base (kinds_in given base) source trail a) (pass_around other twice base (kinds_in other base) source trail a)
  around_kinds_t twice base source trail a =
      subst (λ k. T (pass_around given twice base (kinds_in given base) source trail a) (pass_around other twice base k source trail a)) (sym (same_kinds base))
      (pass_around_t twice base (kinds_in given base) source trail a)

  leaf_kinds_t : (base : ℕ) (n : Node) (a : Here) → T (pass_leaf given base (kinds_in given base) n a) (pass_leaf other base (kinds_in other base) n a)
  leaf_kinds_t base n a =
      subst (λ k. T (pass_leaf given base (kinds_in given base) n a) (pass_leaf other base k n a)) (sym (same_kinds base)) (pass_leaf_t base (kinds_in given base) n a)

  pass_t : (twice : Place) (base : ℕ) (source : Source) (trail : Trail) (n : Node) (a : Here) → T (pass_node given twice base source trail n a) (pass_node other twice base source trail n a)
  pass_t twice base source trail Document a = around_kinds_t twice base source trail a
  pass_t twice base source trail (Element name attrs decls first) a = around_kinds_t twice base source trail a
  pass_t twice base source trail (Chars text) a = leaf_kinds_t base (Chars text) a
  pass_t twice base source trail (CData text) a = leaf_kinds_t base (CData text) a
  pass_t twice base source trail (Comment text) a = leaf_kinds_t base (Comment text) a
  pass_t twice base source trail (Pi target text) a = leaf_kinds_t base (Pi target text) a
  pass_t twice base source trail (Attribute x) a = leaf_kinds_t base (Attribute x) a

  finish_t : (source : Source) (a : Here) → T (finish given source a) (finish other source a)
  finish_t source a = of_kids a.kids where
    of_kids : (o : Option Forest)
        → T (elim o [ None ↦ Ret a | Some kids ↦ skip given source kids a.state (λ st. Ret (gone a st)) ])
        (elim o [ None ↦ Ret a | Some kids ↦ skip other source kids a.state (λ st. Ret (gone a st)) ])
    of_kids None = same_ret a
    of_kids (Some kids) = skip_t source kids a.state _ _ (λ t. same_ret (gone a t))

  module _ (chooses : ChoosesTheBest) (ordered : IsOrdered) (keeps : KeepsEquals given order.now) where
    -- what is done with a template that may be chosen, or without one
    chosen_t : (at : Place) (base : ℕ) (handed : List Bound) (active : List ℕ) (level : Level) (trail : Trail) (a : Here) (go on : Here → Does) → ((b : Here) → T (go b) (on b))
        → T (elim (choice given base active trail a.state) [
          | None ↦ pass_node given at base level.source trail (current trail) a
          | Some c ↦ runs given at handed c (template_at given c) active level trail a go
        ])
        (elim (choice other base (map order.now active) trail a.state) [
          | None ↦ pass_node other at base level.source trail (current trail) a
          | Some c ↦ runs other at handed c (template_at other c) (map order.now active) level trail a on
        ])
    chosen_t at base handed active level trail a go on h =
        subst (λ o. T (does (choice given base active trail a.state)) (does_there o)) (sym (moved_choice given templates order keeps base trail a.state chooses ordered active)) (of_choice (choice given base active trail a.state))
      where
        does : Option Rank → Does
        does o = elim o [
          | None ↦ pass_node given at base level.source trail (current trail) a
          | Some c ↦ runs given at handed c (template_at given c) active level trail a go
        ]

        does_there : Option Rank → Does
        does_there o = elim o [
          | None ↦ pass_node other at base level.source trail (current trail) a
          | Some c ↦ runs other at handed c (template_at other c) (map order.now active) level trail a on
        ]

        of_choice : (o : Option Rank) → T (does o) (does_there (option_map (moved_rank order.now) o))
        of_choice None = pass_t at base level.source trail (current trail) a
        of_choice (Some c) =
            subst (λ t. T (runs given at handed c (template_at given c) active level trail a go) (runs other at handed (moved_rank order.now c) t (map order.now active) level trail a on)) (sym (order.same c.template))
            (runs_t at handed c (template_at given c) active level trail a go on h)

    node_t : (asked : Asked) (trail : Trail) (a : Here) → T (node given asked trail a) (node other asked trail a)
    node_t asked trail a = chosen_t asked.at asked.base asked.params [] asked.level trail a _ _ (finish_t asked.level.source)

    again_t : (at : Place) (base : ℕ) (handed : List Bound) (self : Self) (a : Here) → T (again given at base handed self a) (again other at base handed (there self) a)
    again_t at base handed self a = chosen_t at base handed self.active self.level self.trail a _ _ same_ret

    attributes_t : (earlier coming : List Attr) (asked : Asked) (st : State) (go on : State → Does) → ((t : State) → T (go t) (on t))
        → T (attributes given earlier coming asked st go) (attributes other earlier coming asked st on)
    attributes_t earlier [] asked st go on h = h st
    attributes_t earlier (x ∷ xs) asked st go on h =
        let trail = stands (Attribute x) (passing_among earlier) asked.within in
        then_t (node given asked trail (single st)) (node other asked trail (single st)) _ _ (node_t asked trail (single st))
        (λ b. attributes_t (earlier ++ x ∷ []) xs asked b.state go on h)

    put_parts_t : (at : Place) (parts : List Part) (a : Here) → T (put_parts given at parts a) (put_parts other at parts a)
    put_parts_t at parts a = put_back_t at parts a

    put_around_t : (at : Place) (before : List Part) (is : List Instr) (behind : List Part) (self : Self) (a : Here) → T (put_around given at before is behind self a) (put_around other at before is behind (there self) a)
    put_around_t at before is behind self a =
        puts_t at before a.state _ _ (λ t. asks (Body is self (with_state a t)) _ _ (λ b. put_back_t at behind b))

    choose_t : (at : Place) (ws : List When) (is : List Instr) (self : Self) (a : Here) → T (choose given at ws is self a) (choose other at ws is (there self) a)
    choose_t at [] is self a = asks (Body is self a) _ _ same_ret
    choose_t at (x ∷ xs) is self a =
        got_t at (truth_of (out-When x).test (setting given self a)) _ _
        (λ b. either_t b _ _ _ _ (asks (Body (out-When x).body self a) _ _ same_ret) (choose_t at xs is self a))

    turns_t : (at : Place) (name : Name) (xs : List Atom) (is : List Instr) (self : Self) (a : Here) → T (turns given at name xs is self a) (turns other at name xs is (there self) a)
    turns_t at name [] is self a = same_ret a
    turns_t at name (x ∷ xs) is self a =
        spend_t at a.state _ _ (λ t. asks (Body is self (with_local name (x ∷ []) (with_state a t))) _ _ (λ b. turns_t at name xs is self (cut_to a.locals b)))

    calls_t : (at : Place) (handed : List Bound) (p : Option Procedure) (self : Self) (a : Here) → T (calls given at handed p self a) (calls other at handed p (there self) a)
    calls_t at handed None self a = same_ret a
    calls_t at handed (Some p) self a =
        instance_t at self.level _ _ (λ more.
        let callee = record self { group = p.group; level = more } in
        binds_t p.params handed callee (record a { locals = [] }) _ _ (λ b. asks (Body p.body callee b) _ _ (λ b. same_ret (back a b.state b))))

    attributes_of_t : (asked : Asked) (n : Node) (a : Here) → T (attributes_of given asked n a) (attributes_of other asked n a)
    attributes_of_t asked (Element name attrs decls first) a = attributes_t [] attrs asked a.state _ _ (λ t. same_ret (with_state a t))
    attributes_of_t asked Document a = same_ret a
    attributes_of_t asked (Chars text) a = same_ret a
    attributes_of_t asked (CData text) a = same_ret a
    attributes_of_t asked (Comment text) a = same_ret a
    attributes_of_t asked (Pi target text) a = same_ret a
    attributes_of_t asked (Attribute x) a = same_ret a

    siblings_of_t : (asked : Asked) (a : Here) → T (siblings_of given asked a) (siblings_of other asked a)
    siblings_of_t asked a =
        then_t (finish given asked.level.source a) (finish other asked.level.source a) _ _ (finish_t asked.level.source a)
        (λ b. asks (Nodes b.left asked b.state) _ _ (λ c. same_ret (record b { left = c.left; state = c.state })))

    opens_t : (at : Place) (source : Source) (x y : Does) → T x y → T (opens given at source x) (opens other at source y)
    opens_t at source x y h = either_t (nat_lt (sources_open source) given.limits.sources) _ _ _ _ h (halts _)

    buffer_t : (at : Place) (base : ℕ) (handed : List Bound) (o : Option ℕ) (self : Self) (a : Here) → T (buffer_nodes given at base handed o self a) (buffer_nodes other at base handed o (there self) a)
    buffer_t at base handed None self a = same_ret a
    buffer_t at base handed (Some id) self a =
        let st = begins_reading id a.state in
        let asked = asked_of given at base handed (Opened None at (sources_open self.level.source + 1)) in
        refused_t (busy_at a.state.buffers id) at _ _
        (opens_t at self.level.source _ _ (asks (Nodes (all_of (forest (read_at st.buffers id))) asked st) _ _ (λ b. same_ret (with_state a (ends_reading id b.state)))))

    document_t : (at : Place) (base : ℕ) (handed : List Bound) (name : List ℕ) (self : Self) (a : Here) (o : Option Forest)
        → T (document_nodes given at base handed name self a o) (document_nodes other at base handed name (there self) a o)
    document_t at base handed name self a None = halts _
    document_t at base handed name self a (Some tree) =
        asks (Nodes (all_of tree) (asked_of given at base handed (Opened (Some name) at (sources_open self.level.source + 1))) a.state) _ _ (λ b. same_ret (with_state a b.state))

    writes_t : (at : Place) (o : Option ℕ) (clear : Bool) (is : List Instr) (self : Self) (a : Here) → T (writes given at o clear is self a) (writes other at o clear is (there self) a)
    writes_t at None clear is self a = same_ret a
    writes_t at (Some id) clear is self a =
        refused_t (busy_at a.state.buffers id) at _ _ (asks (Body is self (with_state a (begins_writing id clear a.state))) _ _
        (λ b. refused_t (unclosed_at b.state.buffers id) at _ _ (same_ret (with_state b (ends_writing id b.state)))))

    copied_t : (at : Place) (attributes : Option Pattern) (is : List Instr) (self : Self) (a : Here) (n : Node) → T (copied given at attributes is self a n) (copied other at attributes is (there self) a n)
    copied_t at attributes is self a Document = asks (Body is self a) _ _ same_ret
    copied_t at attributes is self a (Element name attrs decls first) =
        put_around_t at (start_parts self.trail name (passing attributes attrs)) is (part.End name ∷ []) self a
    copied_t at attributes is self a (Chars text) = put_parts_t at (copy_parts (Chars text)) a
    copied_t at attributes is self a (CData text) = put_parts_t at (copy_parts (CData text)) a
    copied_t at attributes is self a (Comment text) = put_parts_t at (copy_parts (Comment text)) a
    copied_t at attributes is self a (Pi target text) = put_parts_t at (copy_parts (Pi target text)) a
    copied_t at attributes is self a (Attribute x) = put_parts_t at (copy_parts (Attribute x)) a

    name_t : (at : Place) (o : Option Name) (go on : Name → Does) → ((n : Name) → T (go n) (on n))
        → T (elim o [ None ↦ Halt (fault_at run_code.BadName at) | Some n ↦ go n ]) (elim o [ None ↦ Halt (fault_at run_code.BadName at) | Some n ↦ on n ])
    name_t at None go on h = halts _
    name_t at (Some n) go on h = h n

    named_t : (at : Place) (is_element : Bool) (name : Avt) (namespace : Option Avt) (scope : List Binding) (self : Self) (a : Here) (go on : Name → Does) → ((n : Name) → T (go n) (on n))
        → T (named given at is_element name namespace scope self a go) (named other at is_element name namespace scope (there self) a on)
    named_t at is_element name namespace scope self a go on h =
        got_t at (template_text name (setting given self a)) _ _ (λ text.
        got_t at (namespace_text namespace (setting given self a)) _ _ (λ uri. name_t at (computed_name is_element scope uri text) go on h))

    same_base : (group : Option Name) (n : ℕ) → base_of other.sheet group n ≡ base_of given.sheet group n
    same_base None n = refl
    same_base (Some name) n = refl

    -- by the base group of a process instruction
    based_t : (group : Option Name) (n : ℕ) (f g : ℕ → Does) → ((base : ℕ) → T (f base) (g base)) → T (f (base_of given.sheet group n)) (g (base_of other.sheet group n))
    based_t group n f g h = subst (λ base. T (f (base_of given.sheet group n)) (g base)) (sym (same_base group n)) (h (base_of given.sheet group n))

    acts_t : (x : Instr-F Instr When) (self : Self) (a : Here) → T (acts given x self a) (acts other x (there self) a)
    acts_t (Instr-F.ValueOf select separator at) self a =
        let g = setting given self a in
        got_t at (value select g) _ _ (λ items.
        got_t at (template_text_or space separator g) _ _ (λ between.
        got_t at (items_text g between items) _ _ (λ text. put_parts_t at (text_parts text) a)))
    acts_t (Instr-F.Chars text at) self a = put_parts_t at (text_parts text) a
    acts_t (Instr-F.Copy attributes body at) self a = copied_t at attributes body self a (current self.trail)
    acts_t (Instr-F.Element name namespace scope body at) self a =
        named_t at true name namespace scope self a _ _ (λ n. put_around_t at (part.Start n [] ∷ []) body (part.End n ∷ []) self a)
    acts_t (Instr-F.StartElement name namespace scope at) self a =
        named_t at true name namespace scope self a _ _ (λ n. put_parts_t at (part.Start n [] ∷ []) a)
    acts_t (Instr-F.EndElement name namespace scope at) self a =
        named_t at true name namespace scope self a _ _ (λ n. put_parts_t at (part.End n ∷ []) a)
    acts_t (Instr-F.Attribute name namespace scope content at) self a =
        let g = setting given self a in
        got_t at (template_text name g) _ _ (λ text.
        got_t at (namespace_text namespace g) _ _ (λ uri.
        got_t at (content_text content g) _ _ (λ content_is.
        name_t at (computed_name false scope uri text) _ _ (λ n. put_parts_t at (part.Attribute n content_is ∷ []) a))))
    acts_t (Instr-F.Comment content at) self a =
        got_t at (content_text content (setting given self a)) _ _ (λ text. put_parts_t at (part.Comment text ∷ []) a)
    acts_t (Instr-F.Pi name scope content at) self a =
        got_t at (template_text name (setting given self a)) _ _ (λ target.
        got_t at (content_text content (setting given self a)) _ _ (λ text. put_parts_t at (part.Pi target (without_space text) ∷ []) a))
    acts_t (Instr-F.Message content at) self a =
        got_t at (content_text content (setting given self a)) _ _ (λ text. says_t (Note text) _ _ (same_ret a))
    acts_t (Instr-F.If test body other at) self a =
        got_t at (truth_of test (setting given self a)) _ _ (λ holds. asks (Body (if holds then body else other) self a) _ _ same_ret)
    acts_t (Instr-F.Choose whens other at) self a = choose_t at whens other self a
    acts_t (Instr-F.ForEachItem name select body at) self a =
        got_t at (atoms_of select (setting given self a)) _ _ (λ items. turns_t at name items body self a)
    acts_t (Instr-F.While test body at) self a = asks (Loop test body at self a) _ _ same_ret
    acts_t (Instr-F.Assign name select at) self a =
        got_t at (atoms_of select (setting given self a)) _ _ (λ items. same_ret (assigned (around given.sheet.groups self.group) name items a))
    acts_t (Instr-F.CallProcedure name params at) self a =
        hands_t at params self a _ _ (λ handed. calls_t at handed (procedure_at given.sheet (procedure_seen given.sheet self.group name)) self a)
    acts_t (Instr-F.ProcessChildren group params at) self a =
        hands_t at params self a _ _ (λ handed.
        either_t (has_list (current self.trail)) _ _ _ _
        (based_t group self.group (λ base. children at (asked_within given at base handed self) a (λ b. Ret b)) (λ base. children at (asked_within other at base handed (there self)) a (λ b. Ret b))
        (λ base. children_t at (asked_within given at base handed self) a _ _ same_ret))
        (same_ret a))
    acts_t (Instr-F.ProcessAttributes group params at) self a =
        hands_t at params self a _ _ (λ handed.
        based_t group self.group (λ base. attributes_of given (asked_within given at base handed self) (current self.trail) a) (λ base. attributes_of other (asked_within other at base handed (there self)) (current self.trail) a)
        (λ base. attributes_of_t (asked_within given at base handed self) (current self.trail) a))
    acts_t (Instr-F.ProcessSelf group params at) self a =
        hands_t at params self a _ _ (λ handed.
        based_t group self.group (λ base. again given at base handed self a) (λ base. again other at base handed (there self) a) (λ base. again_t at base handed self a))
    acts_t (Instr-F.ProcessSiblings going until group params at) self a =
        hands_t at params self a _ _ (λ handed.
        either_t (has_siblings (current self.trail)) _ _ _ _
        (based_t group self.group (λ base. siblings_of given (asked_beside given at base handed (condition self.group going until) self) a) (λ base. siblings_of other (asked_beside other at base handed (condition self.group going until) (there self)) a)
        (λ base. siblings_of_t (asked_beside given at base handed (condition self.group going until) self) a))
        (same_ret a))
    acts_t (Instr-F.ProcessBuffer name group params at) self a =
        let id = buffer_seen given.sheet self.group name in
        hands_t at params self a _ _ (λ handed.
        based_t group self.group (λ base. buffer_nodes given at base handed id self a) (λ base. buffer_nodes other at base handed id (there self) a) (λ base. buffer_t at base handed id self a))
    acts_t (Instr-F.ProcessDocument href group params at) self a =
        got_t at (template_text href (setting given self a)) _ _ (λ name.
        hands_t at params self a _ _ (λ handed.
        opens_t at self.level.source _ _ (says_t (Open name) _ _
        (based_t group self.group (λ base. document_nodes given at base handed name self a (given.documents name)) (λ base. document_nodes other at base handed name (there self) a (given.documents name))
        (λ base. document_t at base handed name self a (given.documents name))))))
    acts_t (Instr-F.ResultBuffer name clear body at) self a = writes_t at (buffer_seen given.sheet self.group name) clear body self a
    acts_t (Instr-F.Literal name attrs body at) self a =
        got_t at (outcome.each (attribute_of (setting given self a)) attrs) _ _
        (λ as_. put_around_t at (part.Start name [] ∷ map attribute_part as_) body (part.End name ∷ []) self a)
    acts_t (Instr-F.LiteralChars text at) self a = put_parts_t at (text_parts text) a
    acts_t (Instr-F.Local name select at) self a =
        got_t at (selected select (setting given self a)) _ _ (λ items. same_ret (with_local name items a))

    exec_t : (i : Instr) (self : Self) (a : Here) → T (exec given i self a) (exec other i (there self) a)
    exec_t i self a = spend_t (place (out-Instr i)) a.state _ _ (λ t. acts_t (out-Instr i) self (with_state a t))

    body_t : (is : List Instr) (self : Self) (a : Here) → T (body given is self a) (body other is (there self) a)
    body_t [] self a = same_ret a
    body_t (i ∷ is) self a = then_t (exec given i self a) (exec other i (there self) a) _ _ (exec_t i self a) (λ b. body_t is self b)

    list_t : (is : List Instr) (self : Self) (a : Here) → T (list given is self a) (list other is (there self) a)
    list_t is self a = then_t (body given is self a) (body other is (there self) a) _ _ (body_t is self a) (λ b. same_ret (cut_to a.locals b))

    loop_t : (test : Expr) (is : List Instr) (at : Place) (self : Self) (a : Here) → T (loop given test is at self a) (loop other test is at (there self) a)
    loop_t test is at self a =
        got_t at (truth_of test (setting given self a)) _ _ (λ holds.
        either_t holds _ _ _ _
        (spend_t at a.state _ _ (λ t. asks (Body is self (with_state a t)) _ _ (λ b. asks (Loop test is at self b) _ _ same_ret)))
        (same_ret a))

    head_t : (n : Node) (kids : Option Forest) (l next : Forest) (earlier : NodeTest → ℕ) (asked : Asked) (st : State) → T (head given n kids l next earlier asked st) (head other n kids l next earlier asked st)
    head_t n kids l next earlier asked st =
        let trail = stands n earlier asked.within in
        let here = taken n kids next earlier st in
        either_t (ends_some given asked.level.conditions trail st) _ _ _ _
        (same_ret (remains (record { earlier = earlier; coming = l }) st))
        (then_t (node given asked trail here) (node other asked trail here) _ _ (node_t asked trail here)
        (λ b. asks (Nodes b.left asked b.state) _ _ same_ret))

    nodes_t : (earlier : NodeTest → ℕ) (l : Forest) (asked : Asked) (st : State) → T (nodes given earlier l asked st) (nodes other earlier l asked st)
    nodes_t earlier (End m offset) asked st =
        let left : Siblings = record { earlier = earlier; coming = End Begun 0 } in
        subst (λ t. T (Ret (remains left (ended given asked.level.source m st))) (Ret (remains left t))) (sym (same_end asked.level.source m st))
        (same_ret (remains left (ended given asked.level.source m st)))
    nodes_t earlier (Cut why) asked st = halts _
    nodes_t earlier (Single m leaf next) asked st =
        begin_t asked.level.source (is_begun m) st _ _ (λ t. head_t (leaf_node leaf) None (Single Begun (without_place leaf) next) next earlier asked t)
    nodes_t earlier (Nested stage e kids next) asked st =
        ready_t asked.level.source stage kids _ _ (begin_t asked.level.source (is_entered stage) st _ _ (λ t.
        head_t (element_node stage e kids) (Some kids) (Nested (Entered (first_by stage kids)) (record e { offset = 0 }) kids next) next earlier asked t))

    code_t : (q : Job) → T (code given q) (code other (moved order.now q))
    code_t (Nodes left asked st) = nodes_t left.earlier left.coming asked st
    code_t (Body is self a) = list_t is self a
    code_t (Loop test is at self a) = loop_t test is at self a

    each : (q p : Job) → Like q p → Twin Like Any Post (code given q) (code other p)
    each q p l = subst (λ p. Twin Like Any Post (code given q) (code other p)) (sym l) (code_t q).is

    each_back : (p q : Job) → Like q p → Twin (λ p q. Like q p) Any Post (code other p) (code given q)
    each_back p q l = flipped Like Any Post (code given q) (code other p) (each q p l)

    meaning_t : (f : Forest) → T (meaning given f) (meaning other f)
    meaning_t f =
        makes_t (λ v. true) [] given.sheet.variables (at_document given) (at_start given) _ _ (λ st.
        then_t (node given (asked_first given) (document ∷ []) (first_here given f st)) (node other (asked_first other) (document ∷ []) (first_here other f st)) _ _
        (node_t (asked_first given) (document ∷ []) (first_here given f st)) (λ a. halts _))

pub order_matters_among_equals : ChoosesTheBest → IsOrdered → OrderMattersAmongEquals
order_matters_among_equals chooses ordered given templates order keeps f os e =
    let other = with_templates given templates in
    let same = (meaning_t given templates order chooses ordered keeps f).is in (
      λ h. twins_end (Like given templates order) (Any given templates order) (Post given templates order) (code given) (code other) (each given templates order chooses ordered keeps) (meaning given f) (meaning other f) same os e h,
      λ h. twins_end (λ p q. Like given templates order q p) (Any given templates order) (Post given templates order) (code other) (code given) (each_back given templates order chooses ordered keeps) (meaning other f) (meaning given f) (flipped (Like given templates order) (Any given templates order) (Post given templates order) (meaning given f) (meaning other f) same) os e h,
    )
