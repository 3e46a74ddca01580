-- A run of a sheet of version 1.0 does what it does by the definitions before version 1.1, call by call.
use Rattle.sheet_model.specs.Parts.{place}
use Rattle.sheet_model.specs.Groups.{around}
use Rattle.sheet_model.specs.Passing.{kinds}
use Rattle.std.proofs.Common.{◌≡◌, ℕ, zero, suc, ◌+◌, nat_lt, Bool, true, false, List, [], ◌∷◌, ◌++◌, Contains, map, slice_get, Option, Some, None, is_some, Result, Ok as Fits, Err, refl, sym, subst, if◌then◌else◌, arith}
use Rattle.std.specs.Option.{option_map_or}
use Rattle.stx_base.specs.Course.{Ret, Halt, Say, Ask, and_then}
use Rattle.stx_base.specs.declared.fault.Place.{Place}
use Rattle.stx_base.specs.declared.fault.RunCode.TheVariants as run_code
use Rattle.stx_base.specs.declared.name.Attr.{Attr}
use Rattle.stx_base.specs.declared.name.Binding.{Binding}
use Rattle.stx_base.specs.declared.name.Name.{Name}
use Rattle.stx_base.specs.declared.node.NodeTest.{NodeTest}
use Rattle.stx_base.specs.declared.part.Part.{Part}
use Rattle.stx_base.specs.declared.part.Part.TheVariants as part
use Rattle.node_stack.specs.Path.{Node, Document, Element, Chars, CData, Comment, Pi, Attribute}
use Rattle.result_writer.specs.Target.{fault}
use Rattle.result_writer.specs.declared.fault.ResultFault.{ResultFault}
use Rattle.sheet_model.specs.declared.instr.Instr.{Instr, out-Instr}
use Rattle.sheet_model.specs.declared.instr.Instr.TheOpen.{Instr-F}
use Rattle.sheet_model.specs.declared.instr.When.{When, out-When}
use Rattle.sheet_model.specs.declared.instr.WithParam.{WithParam}
use Rattle.sheet_model.specs.declared.pass.Pass.{Pass}
use Rattle.sheet_model.specs.declared.pass.Pass.TheVariants as pass
use Rattle.sheet_model.specs.declared.sheet.Group.{Group}
use Rattle.sheet_model.specs.declared.sheet.Procedure.{Procedure}
use Rattle.sheet_model.specs.declared.sheet.Template.{Template}
use Rattle.sheet_model.specs.declared.sheet.Variable.{Variable}
use Rattle.stxpath_eval.specs.Value.{value}
use Rattle.stxpath_syntax.specs.declared.expr.Avt.{Avt}
use Rattle.stxpath_syntax.specs.declared.expr.Expr.{Expr}
use Rattle.stxpath_syntax.specs.declared.expr.Pattern.{Pattern}
use Rattle.stxpath_values.specs.Outcome as outcome
use Rattle.stxpath_values.specs.declared.fault.EvalFault.{EvalFault}
use Rattle.stxpath_values.specs.declared.value.Atom.{Atom}
use Rattle.var_store.specs.Variables.{value_of, with_value}
use Rattle.var_store.specs.declared.bound.Bound.{Bound}
use Rattle.xml_events.specs.Tree.{Begun, Stage, Waiting, Ready, Entered, Forest, End, Cut, Single, Nested}
use Rattle.xml_events.specs.Tree as tree
use Rattle.event_buffers.specs.Buffers.{busy_at, is_read, is_written, read_at, refusal_at, unclosed_at}
use Rattle.event_buffers.specs.Forest.{forest}
use Rattle.event_buffers.specs.declared.fault.BufferFault.{BufferFault}
use Rattle.group_scope.specs.declared.rank.Rank.{Rank}
use Rattle.template_machine.specs.Acting.{acts, asked_beside, asked_of, asked_within, assigned, attribute_of, begins_reading, begins_writing, buffer_nodes, calls, choose, condition, copied, copy_parts, cut_to, document_nodes, ends_reading, ends_writing, has_list, has_siblings, loop, named, opens, put_around, siblings_of, turns, with_local, without_space, writes, attributes_of}
use Rattle.template_machine.specs.Declaring.{at_start, binds, commanded, declaration_setting, ends_scope, hands, kept, makes, makes_scope, new_value, parameter_value, with_scope, with_variable}
use Rattle.template_machine.specs.Ending.{Ending, Note, Open, Put, Said, Spent, fault_at}
use Rattle.template_machine.specs.Finding.{base_of, buffer_seen, passing, procedure_at, procedure_seen}
use Rattle.template_machine.specs.Fuel.{begin, begin_now, end_now, ended, is_begun, is_entered, skip, spend, when_ready}
use Rattle.template_machine.specs.Job.{Asked, Body, Does, Given, Here, Job, Level, Loop, Main, Nodes, Opened, Self, Siblings, Source, State, all_of, remains, single, sources_open, with_state}
use Rattle.template_machine.specs.Meaning.{asked_first, at_document, body, code, ends_some, exec, first_here, head, list, meaning, nodes, siblings, taken}
use Rattle.template_machine.specs.Older.{old_acts, old_again, old_attributes, old_attributes_of, old_body, old_choice, old_code, old_exec, old_has_siblings, old_head, old_leaf_parts, old_list, old_meaning, old_node, old_nodes, old_parts_before, old_parts_behind, old_pass_around, old_pass_in, old_pass_leaf, old_pass_node}
use Rattle.template_machine.specs.Passing.{again, attributes, back, children, choice, enters, finish, gone, group_at, instance, kinds_in, leaf_parts, node, parts_before, parts_behind, pass_around, pass_leaf, pass_node, pass_of, passed_on, returns, run_as, runs, start_parts, template_at}
use Rattle.template_machine.specs.Putting.{attribute_part, kept_in, put_out, put_to, puts, text_parts, unless_fault, unless_refused}
use Rattle.template_machine.specs.Trail.{Trail, above, current, document, element_node, first_by, leaf_node, passing_among, stands, without_place}
use Rattle.template_machine.specs.Unchanged.{HasNoSections, IsOfOne, MeansAsBefore, PutsNoSections, is_old, is_old_node, is_old_part, is_old_said}
use Rattle.template_machine.specs.Values.{atoms_of, computed_name, content_text, got, items_text, namespace_text, selected, setting, space, template_text, template_text_or, truth_of}
use Rattle.template_machine.specs.Variables.{assigned_in}
use Rattle.template_machine.proofs.OlderTests.{OldTrail, old_current, passes_as_before, same_choice, same_ends_some, same_first_by}
use Rattle.template_machine.proofs.Sectionless.{Plain, plain_close, plain_declared, plain_kept_in, plain_laid, plain_nodes, plain_read, plain_taken, plain_write}
use Rattle.template_machine.proofs.Twins.{Twin, Twins, flipped, says_fine, twin_then, twins_end}

-- What no CDATA section is in.

abbrev OldKids : Option Forest → Type 0
OldKids None = Unit {0}
OldKids (Some kids) = HasNoSections kids

abbrev OldHere : Here → Type 0
OldHere a = OldKids a.kids × HasNoSections a.left.coming × Plain a.state

abbrev OldJob : Job → Type 0
OldJob (Nodes left asked st) = HasNoSections left.coming × OldTrail asked.within × Plain st
OldJob (Body is self a) = OldTrail self.trail × OldHere a
OldJob (Loop test is at self a) = OldTrail self.trail × OldHere a

abbrev OldParts : List Part → Type 0
OldParts [] = Unit {0}
OldParts (p ∷ ps) = (is_old_part p ≡ true) × OldParts ps

old_attrs : (attrs : List Attr) → OldParts (map attribute_part attrs)
old_attrs [] = tt
old_attrs (a ∷ attrs) = (refl, old_attrs attrs)

old_start : (trail : Trail) (name : Name) (attrs : List Attr) → OldParts (start_parts trail name attrs)
old_start trail name attrs = (refl, old_attrs attrs)

old_text : (text : List ℕ) → OldParts (text_parts text)
old_text [] = tt
old_text (c ∷ cs) = (refl, tt)

old_leaf : (p : Pass) (n : Node) → OldParts (old_leaf_parts p n)
old_leaf pass.None n = tt
old_leaf pass.Chars Document = tt
old_leaf pass.Chars (Element name attrs decls first) = tt
old_leaf pass.Chars (Chars text) = (refl, tt)
old_leaf pass.Chars (CData text) = tt
old_leaf pass.Chars (Comment text) = tt
old_leaf pass.Chars (Pi target text) = tt
old_leaf pass.Chars (Attribute a) = tt
old_leaf pass.All Document = tt
old_leaf pass.All (Element name attrs decls first) = tt
old_leaf pass.All (Chars text) = (refl, tt)
old_leaf pass.All (CData text) = tt
old_leaf pass.All (Comment text) = (refl, tt)
old_leaf pass.All (Pi target text) = (refl, tt)
old_leaf pass.All (Attribute a) = (refl, tt)
old_leaf (pass.Kinds k) n = tt

old_before : (p : Pass) (trail : Trail) (n : Node) → OldParts (old_parts_before p trail n)
old_before pass.None trail n = tt
old_before pass.Chars trail n = tt
old_before pass.All trail Document = tt
old_before pass.All trail (Element name attrs decls first) = old_start trail name attrs
old_before pass.All trail (Chars text) = tt
old_before pass.All trail (CData text) = tt
old_before pass.All trail (Comment text) = tt
old_before pass.All trail (Pi target text) = tt
old_before pass.All trail (Attribute a) = tt
old_before (pass.Kinds k) trail n = tt

old_behind : (p : Pass) (n : Node) → OldParts (old_parts_behind p n)
old_behind pass.None n = tt
old_behind pass.Chars n = tt
old_behind pass.All Document = tt
old_behind pass.All (Element name attrs decls first) = (refl, tt)
old_behind pass.All (Chars text) = tt
old_behind pass.All (CData text) = tt
old_behind pass.All (Comment text) = tt
old_behind pass.All (Pi target text) = tt
old_behind pass.All (Attribute a) = tt
old_behind (pass.Kinds k) n = tt

old_copy : (n : Node) → is_old_node n ≡ true → OldParts (copy_parts n)
old_copy Document h = tt
old_copy (Element name attrs decls first) h = tt
old_copy (Chars text) h = old_text text
old_copy (CData text) h = cc
old_copy (Comment text) h = (refl, tt)
old_copy (Pi target text) h = (refl, tt)
old_copy (Attribute a) h = (refl, tt)

old_above : (trail : Trail) → OldTrail trail → OldTrail (above trail)
old_above [] h = tt
old_above (s ∷ trail) h = h.1

same_siblings : (n : Node) → is_old_node n ≡ true → has_siblings n ≡ old_has_siblings n
same_siblings Document h = refl
same_siblings (Element name attrs decls first) h = refl
same_siblings (Chars text) h = refl
same_siblings (CData text) h = cc
same_siblings (Comment text) h = refl
same_siblings (Pi target text) h = refl
same_siblings (Attribute a) h = refl

group_in : (gs : List Group) (n : ℕ) (g : Group) → slice_get gs n ≡ Some g → Contains gs g
group_in [] n g is = cc
group_in (h ∷ gs) zero g is = (zero, omega arith, cc)
group_in (h ∷ gs) (suc n) g is = let (k, l, at) = group_in gs n g is in (suc k, omega (arith, l), at)

abbrev Like : Job → Job → Type 0
Like q p = (p ≡ q) × OldJob q

abbrev Fine : Said → Type 0
Fine o = is_old_said o ≡ true

abbrev T : Does → Does → Type 0
T x y = Twins Like Fine OldHere x y

same_ret : (a : Here) → OldHere a → T (Ret a) (Ret a)
same_ret a old = record { is = (refl, old) }

halts : (e : Ending) → T (Halt e) (Halt e)
halts e = record { is = refl }

says_t : (o : Said) (x y : Does) → Fine o → T x y → T (Say o x) (Say o y)
says_t o x y f h = record { is = (y, refl, f, h.is) }

then_t : (x y : Does) (k j : Here → Does) → T x y → ((r : Here) → OldHere r → T (k r) (j r)) → T (and_then x k) (and_then y j)
then_t x y k j t h = record { is = twin_then Like Fine OldHere x y k j t.is (λ r old. (h r old).is) }

asks : (q : Job) (k j : Here → Does) → OldJob q → ((r : Here) → OldHere r → T (k r) (j r)) → T (Ask q k) (Ask q j)
asks q k j old h = record { is = (q, j, refl, (refl, old), λ r old. (h r old).is) }

got_t : {A : Type 0} (at : Place) (r : Result A EvalFault) (go on : A → Does) → ((x : A) → T (go x) (on x)) → T (got at r go) (got at r on)
got_t at (Fits x) go on h = h x
got_t at (Err f) go on h = halts _

either_t : (b : Bool) (x y v w : Does) → T x v → T y w → T (if b then x else y) (if b then v else w)
either_t true x y v w h k = h
either_t false x y v w h k = k

fault_t : (o : Option ResultFault) (at : Place) (x y : Does) → T x y → T (unless_fault o at x) (unless_fault o at y)
fault_t None at x y h = h
fault_t (Some f) at x y h = halts _

refused_t : (o : Option BufferFault) (at : Place) (x y : Does) → T x y → T (unless_refused o at x) (unless_refused o at y)
refused_t None at x y h = h
refused_t (Some f) at x y h = halts _

spend_t : (at : Place) (st : State) (go on : State → Does) → Plain st → ((t : State) → Plain t → T (go t) (on t)) → T (spend at st go) (spend at st on)
spend_t at st go on k h = of_fuel st.fuel where
  of_fuel : (n : ℕ) → T (elim n [ zero ↦ Halt (Spent at) | suc n ↦ go (record st { fuel = n }) ]) (elim n [ zero ↦ Halt (Spent at) | suc n ↦ on (record st { fuel = n }) ])
  of_fuel zero = halts _
  of_fuel (suc n) = h (record st { fuel = n }) k

ready_t : (source : Source) (stage : Stage) (kids : Forest) (x y : Does) → T x y → T (when_ready source stage kids x) (when_ready source stage kids y)
ready_t source (Ready first) kids x y h = h
ready_t source (Entered first) kids x y h = h
ready_t source Waiting (Cut why) x y h = halts _
ready_t source Waiting (End m offset) x y h = h
ready_t source Waiting (Single m leaf next) x y h = h
ready_t source Waiting (Nested stage e kids next) x y h = h

children_t : (twice : Place) (asked : Asked) (a : Here) (go on : Here → Does) → OldTrail asked.within → OldHere a → ((b : Here) → OldHere b → T (go b) (on b)) → T (children twice asked a go) (children twice asked a on)
children_t twice asked a go on within old h = of_kids a.kids old.0 where
  of_kids : (o : Option Forest) → OldKids o
      → T (elim o [ None ↦ Halt (fault_at run_code.ChildrenTwice twice) | Some kids ↦ Ask (Nodes (all_of kids) asked a.state) (λ b. go (gone a b.state)) ])
      (elim o [ None ↦ Halt (fault_at run_code.ChildrenTwice twice) | Some kids ↦ Ask (Nodes (all_of kids) asked a.state) (λ b. on (gone a b.state)) ])
  of_kids None k = halts _
  of_kids (Some kids) k =
      asks (Nodes (all_of kids) asked a.state) (λ b. go (gone a b.state)) (λ b. on (gone a b.state)) (k, within, old.2)
      (λ b was. h (gone a b.state) (tt, old.1, was.2))

name_t : (at : Place) (o : Option Name) (go on : Name → Does) → ((n : Name) → T (go n) (on n))
    → T (elim o [ None ↦ Halt (fault_at run_code.BadName at) | Some n ↦ go n ]) (elim o [ None ↦ Halt (fault_at run_code.BadName at) | Some n ↦ on n ])
name_t at None go on h = halts _
name_t at (Some n) go on h = h n

module _ (given : Given) where
  put_t : (targets : List ℕ) (at : Place) (p : Part) (st : State) (go on : State → Does) → is_old_part p ≡ true → Plain st → ((t : State) → Plain t → T (go t) (on t))
      → T (put_to given targets at p st go) (put_to given targets at p st on)
  put_t [] at p st go on f k h = fault_t (fault given.limits.elements st.result p) at _ _ (says_t (Put p) _ _ f (h (put_out p st) k))
  put_t (id ∷ targets) at p st go on f k h =
      refused_t (refusal_at st.buffers id p) at (go (kept_in id p st)) (on (kept_in id p st)) (h (kept_in id p st) (plain_kept_in id p st f k))

  puts_t : (at : Place) (ps : List Part) (st : State) (go on : State → Does) → OldParts ps → Plain st → ((t : State) → Plain t → T (go t) (on t)) → T (puts given at ps st go) (puts given at ps st on)
  puts_t at [] st go on f k h = h st k
  puts_t at (p ∷ ps) st go on f k h = put_t st.targets at p st (λ t. puts given at ps t go) (λ t. puts given at ps t on) f.0 k (λ t k. puts_t at ps t go on f.1 k h)

  put_back_t : (at : Place) (parts : List Part) (a : Here) → OldParts parts → OldHere a → T (puts given at parts a.state (λ st. Ret (with_state a st))) (puts given at parts a.state (λ st. Ret (with_state a st)))
  put_back_t at parts a f old = puts_t at parts a.state _ _ f old.2 (λ t k. same_ret (with_state a t) (old.0, old.1, k))

  makes_t : (test : Variable → Bool) (earlier vs : List Variable) (self : Self) (st : State) (go on : State → Does) → Plain st → ((t : State) → Plain t → T (go t) (on t))
      → T (makes given test earlier vs self st go) (makes given test earlier vs self st on)
  makes_t test earlier [] self st go on k h = h st k
  makes_t test earlier (v ∷ vs) self st go on k h =
      either_t (test v) _ _ _ _
      (got_t v.at (new_value given (commanded given v) (kept given v st) v (declaration_setting given earlier v self st)) _ _
      (λ x. makes_t test (earlier ++ v ∷ []) vs self (with_variable given v x st) go on k h))
      (makes_t test (earlier ++ v ∷ []) vs self st go on k h)

  makes_scope_t : (new : Bool) (group : ℕ) (self : Self) (st : State) (go on : State → Does) → Plain st → ((t : State) → Plain t → T (go t) (on t))
      → T (makes_scope given new group self st go) (makes_scope given new group self st on)
  makes_scope_t false group self st go on k h = h st k
  makes_scope_t true group self st go on k h = makes_t _ [] given.sheet.variables self (with_scope group st) go on (plain_laid group st k) h

  binds_t : (vs : List Variable) (handed : List Bound) (self : Self) (a : Here) (go on : Here → Does) → OldHere a → ((b : Here) → OldHere b → T (go b) (on b))
      → T (binds given vs handed self a go) (binds given vs handed self a on)
  binds_t [] handed self a go on old h = h a old
  binds_t (v ∷ vs) handed self a go on old h =
      got_t v.at (parameter_value given (value_of v.name handed) v (setting given self a)) _ _
      (λ x. binds_t vs handed self (record a { locals = a.locals ++ record { name = v.name; value = x } ∷ [] }) go on old h)

  hands_t : (at : Place) (ps : List WithParam) (self : Self) (a : Here) (go on : List Bound → Does) → ((bs : List Bound) → T (go bs) (on bs))
      → T (hands given at ps self a go) (hands given at ps self a on)
  hands_t at [] self a go on h = h []
  hands_t at (p ∷ ps) self a go on h =
      got_t at (atoms_of p.select (setting given self a)) _ _ (λ x. hands_t at ps self a _ _ (λ bs. h (record { name = p.name; value = x } ∷ bs)))

  begin_t : (source : Source) (before : Bool) (st : State) (go on : State → Does) → Plain st → ((t : State) → Plain t → T (go t) (on t)) → T (begin given source before st go) (begin given source before st on)
  begin_t source before st go on k h = either_t before _ _ _ _ (h st k) (of_source source) where
    of_source : (source : Source) → T (begin_now given source st go) (begin_now given source st on)
    of_source Main = h (record st { fuel = given.limits.fuel }) k
    of_source (Opened name at number) = spend_t at st go on k h

  plain_end : (source : Source) (m : tree.Mark) (st : State) → Plain st → Plain (ended given source m st)
  plain_end source m st k = one (is_begun m) source where
    now : (source : Source) → Plain (end_now given source st)
    now Main = k
    now (Opened name at number) = k

    one : (b : Bool) (source : Source) → Plain (if b then st else end_now given source st)
    one true source = k
    one false source = now source

  skip_t : (source : Source) (l : Forest) (st : State) (go on : State → Does) → Plain st → ((t : State) → Plain t → T (go t) (on t)) → T (skip given source l st go) (skip given source l st on)
  skip_t source (End m offset) st go on k h = h (ended given source m st) (plain_end source m st k)
  skip_t source (Cut why) st go on k h = halts _
  skip_t source (Single m leaf next) st go on k h = begin_t source (is_begun m) st _ _ k (λ t k. skip_t source next t go on k h)
  skip_t source (Nested stage e kids next) st go on k h =
      ready_t source stage kids _ _ (begin_t source (is_entered stage) st _ _ k (λ t k. skip_t source kids t _ _ k (λ t k. skip_t source next t go on k h)))

  instance_t : (at : Place) (level : Level) (go on : Level → Does) → ((l : Level) → T (go l) (on l)) → T (instance given at level go) (instance given at level on)
  instance_t at level go on h =
      either_t (nat_lt level.instances given.limits.instances) _ _ _ _ (h (record level { instances = level.instances + 1 })) (halts _)

  plain_scope : (new : Bool) (group : ℕ) (st : State) → Plain st → Plain (ends_scope given new group st)
  plain_scope false group st k = k
  plain_scope true group st k = plain_taken group st k

  enters_t : (handed : List Bound) (t : Template) (self : Self) (a : Here) (go on : Here → Does) → OldTrail self.trail → OldHere a → ((b : Here) → OldHere b → T (go b) (on b)) → (st : State) → Plain st
      → T (enters given handed t self a go st) (enters given handed t self a on st)
  enters_t handed t self a go on trail old h st k =
      binds_t t.params handed self (record a { locals = []; state = st }) _ _ (old.0, old.1, k)
      (λ b was. asks (Body t.body self b) (returns given t a go) (returns given t a on) (trail, was)
      (λ c is. h (back a (ends_scope given t.new_scope t.group c.state) c) (is.0, is.1, plain_scope t.new_scope t.group c.state is.2)))

  runs_t : (at : Place) (handed : List Bound) (c : Rank) (o : Option Template) (active : List ℕ) (level : Level) (trail : Trail) (a : Here) (go on : Here → Does) → OldTrail trail → OldHere a → ((b : Here) → OldHere b → T (go b) (on b))
      → T (runs given at handed c o active level trail a go) (runs given at handed c o active level trail a on)
  runs_t at handed c None active level trail a go on ways old h = h a old
  runs_t at handed c (Some t) active level trail a go on ways old h =
      instance_t at level _ _ (λ more.
      let self = run_as c t active more trail in
      makes_scope_t t.new_scope t.group self a.state (enters given handed t self a go) (enters given handed t self a on) old.2 (enters_t handed t self a go on ways old h))

  finish_t : (source : Source) (a : Here) → OldHere a → T (finish given source a) (finish given source a)
  finish_t source a old = of_kids a.kids where
    of_kids : (o : Option Forest)
        → T (elim o [ None ↦ Ret a | Some kids ↦ skip given source kids a.state (λ st. Ret (gone a st)) ])
        (elim o [ None ↦ Ret a | Some kids ↦ skip given source kids a.state (λ st. Ret (gone a st)) ])
    of_kids None = same_ret a old
    of_kids (Some kids) = skip_t source kids a.state _ _ old.2 (λ t k. same_ret (gone a t) (tt, old.1, k))

  module _ (of_one : IsOfOne given) where
    -- What is passed through.

    old_in : (base : ℕ) → is_old (old_pass_in given base) ≡ true
    old_in base = of_group (slice_get given.sheet.groups base) refl where
      of_group : (o : Option Group) → slice_get given.sheet.groups base ≡ o → is_old (option_map_or (λ (g : Group). g.pass) o pass.None) ≡ true
      of_group None is = refl
      of_group (Some g) is = of_one.groups g (group_in given.sheet.groups base g is)

    same_kinds : (base : ℕ) → kinds_in given base ≡ kinds (old_pass_in given base)
    same_kinds base = of_group (slice_get given.sheet.groups base) where
      of_group : (o : Option Group) → pass_of given o ≡ kinds (option_map_or (λ (g : Group). g.pass) o pass.None)
      of_group None = refl
      of_group (Some g) = refl

    pass_leaf_t : (base : ℕ) (trail : Trail) (n : Node) (a : Here) → is_old_node n ≡ true → OldHere a → T (pass_leaf given base (kinds_in given base) n a) (old_pass_leaf given base (old_pass_in given base) n a)
    pass_leaf_t base trail n a is old =
        let p = old_pass_in given base in
        let at = group_at given base in
        subst (λ k. T (puts given at (leaf_parts k n) a.state (λ st. Ret (with_state a st))) (puts given at (old_leaf_parts p n) a.state (λ st. Ret (with_state a st)))) (sym (same_kinds base))
        (subst (λ l. T (puts given at l a.state (λ st. Ret (with_state a st))) (puts given at (old_leaf_parts p n) a.state (λ st. Ret (with_state a st)))) (sym (passes_as_before p trail n (old_in base) is).0)
        (put_back_t at (old_leaf_parts p n) a (old_leaf p n) old))

    pass_around_t : (twice : Place) (base : ℕ) (source : Source) (trail : Trail) (a : Here) → OldTrail trail → OldHere a
        → T (pass_around given twice base (kinds_in given base) source trail a) (old_pass_around given twice base (old_pass_in given base) source trail a)
    pass_around_t twice base source trail a ways old =
        let p = old_pass_in given base in
        let n = current trail in
        let at = group_at given base in
        let same = passes_as_before p trail n (old_in base) (old_current trail ways) in
        let does = λ (before behind : List Part). puts given at before a.state (λ st. children twice (passed_on given base source trail) (with_state a st) (λ b. puts given at behind b.state (λ st. Ret (with_state b st)))) in
        subst (λ k. T (does (parts_before k trail n) (parts_behind k n)) (does (old_parts_before p trail n) (old_parts_behind p n))) (sym (same_kinds base))
        (subst (λ l. T (does l (parts_behind (kinds p) n)) (does (old_parts_before p trail n) (old_parts_behind p n))) (sym same.1)
        (subst (λ l. T (does (old_parts_before p trail n) l) (does (old_parts_before p trail n) (old_parts_behind p n))) (sym same.2)
        (puts_t at (old_parts_before p trail n) a.state _ _ (old_before p trail n) old.2
        (λ t k. children_t twice (passed_on given base source trail) (with_state a t) _ _ ways (old.0, old.1, k)
        (λ b was. put_back_t at (old_parts_behind p n) b (old_behind p n) was)))))

    pass_t : (twice : Place) (base : ℕ) (source : Source) (trail : Trail) (n : Node) (a : Here) → OldTrail trail → is_old_node n ≡ true → OldHere a
        → T (pass_node given twice base source trail n a) (old_pass_node given twice base source trail n a)
    pass_t twice base source trail Document a ways is old = pass_around_t twice base source trail a ways old
    pass_t twice base source trail (Element name attrs decls first) a ways is old = pass_around_t twice base source trail a ways old
    pass_t twice base source trail (Chars text) a ways is old = pass_leaf_t base trail (Chars text) a is old
    pass_t twice base source trail (CData text) a ways is old = pass_leaf_t base trail (CData text) a is old
    pass_t twice base source trail (Comment text) a ways is old = pass_leaf_t base trail (Comment text) a is old
    pass_t twice base source trail (Pi target text) a ways is old = pass_leaf_t base trail (Pi target text) a is old
    pass_t twice base source trail (Attribute x) a ways is old = pass_leaf_t base trail (Attribute x) a is old

    -- Nodes with their templates.

    chosen_t : (at : Place) (base : ℕ) (handed : List Bound) (active : List ℕ) (level : Level) (trail : Trail) (a : Here) (go on : Here → Does) → OldTrail trail → OldHere a → ((b : Here) → OldHere b → T (go b) (on b))
        → T (elim (choice given base active trail a.state) [
          | None ↦ pass_node given at base level.source trail (current trail) a
          | Some c ↦ runs given at handed c (template_at given c) active level trail a go
        ])
        (elim (old_choice given base active trail a.state) [
          | None ↦ old_pass_node given at base level.source trail (current trail) a
          | Some c ↦ runs given at handed c (template_at given c) active level trail a on
        ])
    chosen_t at base handed active level trail a go on ways old h =
        subst (λ o. T (does (choice given base active trail a.state)) (did o)) (same_choice given trail ways a.state base active) (of_choice (choice given base active trail a.state))
      where
        does : Option Rank → Does
        does o = elim o [
          | None ↦ pass_node given at base level.source trail (current trail) a
          | Some c ↦ runs given at handed c (template_at given c) active level trail a go
        ]

        did : Option Rank → Does
        did o = elim o [
          | None ↦ old_pass_node given at base level.source trail (current trail) a
          | Some c ↦ runs given at handed c (template_at given c) active level trail a on
        ]

        of_choice : (o : Option Rank) → T (does o) (did o)
        of_choice None = pass_t at base level.source trail (current trail) a ways (old_current trail ways) old
        of_choice (Some c) = runs_t at handed c (template_at given c) active level trail a go on ways old h

    node_t : (asked : Asked) (trail : Trail) (a : Here) → OldTrail trail → OldHere a → T (node given asked trail a) (old_node given asked trail a)
    node_t asked trail a ways old = chosen_t asked.at asked.base asked.params [] asked.level trail a _ _ ways old (finish_t asked.level.source)

    again_t : (at : Place) (base : ℕ) (handed : List Bound) (self : Self) (a : Here) → OldTrail self.trail → OldHere a → T (again given at base handed self a) (old_again given at base handed self a)
    again_t at base handed self a ways old = chosen_t at base handed self.active self.level self.trail a _ _ ways old same_ret

    attributes_t : (earlier coming : List Attr) (asked : Asked) (st : State) (go on : State → Does) → OldTrail asked.within → Plain st → ((t : State) → Plain t → T (go t) (on t))
        → T (attributes given earlier coming asked st go) (old_attributes given earlier coming asked st on)
    attributes_t earlier [] asked st go on ways k h = h st k
    attributes_t earlier (x ∷ xs) asked st go on ways k h =
        let trail = stands (Attribute x) (passing_among earlier) asked.within in
        then_t (node given asked trail (single st)) (old_node given asked trail (single st)) _ _ (node_t asked trail (single st) (refl, ways) (tt, tt, k))
        (λ b was. attributes_t (earlier ++ x ∷ []) xs asked b.state go on ways was.2 h)

    -- Instructions.

    put_around_t : (at : Place) (before : List Part) (is : List Instr) (behind : List Part) (self : Self) (a : Here) → OldParts before → OldParts behind → OldTrail self.trail → OldHere a → T (put_around given at before is behind self a) (put_around given at before is behind self a)
    put_around_t at before is behind self a f g ways old =
        puts_t at before a.state _ _ f old.2
        (λ t k. asks (Body is self (with_state a t)) _ _ (ways, (old.0, old.1, k)) (λ b was. put_back_t at behind b g was))

    choose_t : (at : Place) (ws : List When) (is : List Instr) (self : Self) (a : Here) → OldTrail self.trail → OldHere a → T (choose given at ws is self a) (choose given at ws is self a)
    choose_t at [] is self a ways old = asks (Body is self a) _ _ (ways, old) same_ret
    choose_t at (x ∷ xs) is self a ways old =
        got_t at (truth_of (out-When x).test (setting given self a)) _ _
        (λ b. either_t b _ _ _ _ (asks (Body (out-When x).body self a) _ _ (ways, old) same_ret) (choose_t at xs is self a ways old))

    turns_t : (at : Place) (name : Name) (xs : List Atom) (is : List Instr) (self : Self) (a : Here) → OldTrail self.trail → OldHere a → T (turns given at name xs is self a) (turns given at name xs is self a)
    turns_t at name [] is self a ways old = same_ret a old
    turns_t at name (x ∷ xs) is self a ways old =
        spend_t at a.state _ _ old.2
        (λ t k. asks (Body is self (with_local name (x ∷ []) (with_state a t))) _ _ (ways, (old.0, old.1, k)) (λ b was. turns_t at name xs is self (cut_to a.locals b) ways was))

    calls_t : (at : Place) (handed : List Bound) (p : Option Procedure) (self : Self) (a : Here) → OldTrail self.trail → OldHere a → T (calls given at handed p self a) (calls given at handed p self a)
    calls_t at handed None self a ways old = same_ret a old
    calls_t at handed (Some p) self a ways old =
        instance_t at self.level _ _ (λ more.
        let callee = record self { group = p.group; level = more } in
        binds_t p.params handed callee (record a { locals = [] }) _ _ old (λ b was. asks (Body p.body callee b) _ _ (ways, was) (λ b is. same_ret (back a b.state b) is)))

    attributes_of_t : (asked : Asked) (n : Node) (a : Here) → OldTrail asked.within → OldHere a → T (attributes_of given asked n a) (old_attributes_of given asked n a)
    attributes_of_t asked (Element name attrs decls first) a ways old = attributes_t [] attrs asked a.state _ _ ways old.2 (λ t k. same_ret (with_state a t) (old.0, old.1, k))
    attributes_of_t asked Document a ways old = same_ret a old
    attributes_of_t asked (Chars text) a ways old = same_ret a old
    attributes_of_t asked (CData text) a ways old = same_ret a old
    attributes_of_t asked (Comment text) a ways old = same_ret a old
    attributes_of_t asked (Pi target text) a ways old = same_ret a old
    attributes_of_t asked (Attribute x) a ways old = same_ret a old

    siblings_of_t : (asked : Asked) (a : Here) → OldTrail asked.within → OldHere a → T (siblings_of given asked a) (siblings_of given asked a)
    siblings_of_t asked a ways old =
        then_t (finish given asked.level.source a) (finish given asked.level.source a) _ _ (finish_t asked.level.source a old)
        (λ b was. asks (Nodes b.left asked b.state) _ _ (was.1, ways, was.2) (λ c is. same_ret (record b { left = c.left; state = c.state }) (was.0, is.1, is.2)))

    opens_t : (at : Place) (source : Source) (x y : Does) → T x y → T (opens given at source x) (opens given at source y)
    opens_t at source x y h = either_t (nat_lt (sources_open source) given.limits.sources) _ _ _ _ h (halts _)

    buffer_t : (at : Place) (base : ℕ) (handed : List Bound) (o : Option ℕ) (self : Self) (a : Here) → OldHere a → T (buffer_nodes given at base handed o self a) (buffer_nodes given at base handed o self a)
    buffer_t at base handed None self a old = same_ret a old
    buffer_t at base handed (Some id) self a old =
        let st = begins_reading id a.state in
        let plain = plain_read id a.state old.2 in
        let asked = asked_of given at base handed (Opened None at (sources_open self.level.source + 1)) in
        refused_t (busy_at a.state.buffers id) at _ _
        (opens_t at self.level.source _ _
        (asks (Nodes (all_of (forest (read_at st.buffers id))) asked st) _ _ (plain_nodes st.buffers id plain, (refl, tt), plain)
        (λ b was. same_ret (with_state a (ends_reading id b.state)) (old.0, old.1, plain_close is_read id b.state was.2))))

    document_t : (at : Place) (base : ℕ) (handed : List Bound) (name : List ℕ) (self : Self) (a : Here) (o : Option Forest) → given.documents name ≡ o → OldHere a
        → T (document_nodes given at base handed name self a o) (document_nodes given at base handed name self a o)
    document_t at base handed name self a None is old = halts _
    document_t at base handed name self a (Some f) is old =
        asks (Nodes (all_of f) (asked_of given at base handed (Opened (Some name) at (sources_open self.level.source + 1))) a.state) _ _ (of_one.documents name f is, (refl, tt), old.2)
        (λ b was. same_ret (with_state a b.state) (old.0, old.1, was.2))

    writes_t : (at : Place) (o : Option ℕ) (clear : Bool) (is : List Instr) (self : Self) (a : Here) → OldTrail self.trail → OldHere a → T (writes given at o clear is self a) (writes given at o clear is self a)
    writes_t at None clear is self a ways old = same_ret a old
    writes_t at (Some id) clear is self a ways old =
        refused_t (busy_at a.state.buffers id) at _ _
        (asks (Body is self (with_state a (begins_writing id clear a.state))) _ _ (ways, (old.0, old.1, plain_write a.state.buffers.elements clear id a.state old.2))
        (λ b was. refused_t (unclosed_at b.state.buffers id) at _ _ (same_ret (with_state b (ends_writing id b.state)) (was.0, was.1, plain_close is_written id b.state was.2))))

    copied_t : (at : Place) (attributes : Option Pattern) (is : List Instr) (self : Self) (a : Here) (n : Node) → is_old_node n ≡ true → OldTrail self.trail → OldHere a
        → T (copied given at attributes is self a n) (copied given at attributes is self a n)
    copied_t at attributes is self a Document h ways old = asks (Body is self a) _ _ (ways, old) same_ret
    copied_t at attributes is self a (Element name attrs decls first) h ways old =
        put_around_t at (start_parts self.trail name (passing attributes attrs)) is (part.End name ∷ []) self a (old_start self.trail name (passing attributes attrs)) (refl, tt) ways old
    copied_t at attributes is self a (Chars text) h ways old = put_back_t at (copy_parts (Chars text)) a (old_copy (Chars text) h) old
    copied_t at attributes is self a (CData text) h ways old = put_back_t at (copy_parts (CData text)) a (old_copy (CData text) h) old
    copied_t at attributes is self a (Comment text) h ways old = put_back_t at (copy_parts (Comment text)) a (old_copy (Comment text) h) old
    copied_t at attributes is self a (Pi target text) h ways old = put_back_t at (copy_parts (Pi target text)) a (old_copy (Pi target text) h) old
    copied_t at attributes is self a (Attribute x) h ways old = put_back_t at (copy_parts (Attribute x)) a (old_copy (Attribute x) h) old

    named_t : (at : Place) (is_element : Bool) (name : Avt) (namespace : Option Avt) (scope : List Binding) (self : Self) (a : Here) (go on : Name → Does) → ((n : Name) → T (go n) (on n))
        → T (named given at is_element name namespace scope self a go) (named given at is_element name namespace scope self a on)
    named_t at is_element name namespace scope self a go on h =
        got_t at (template_text name (setting given self a)) _ _ (λ text.
        got_t at (namespace_text namespace (setting given self a)) _ _ (λ uri. name_t at (computed_name is_element scope uri text) go on h))

    old_assigned : (groups : List ℕ) (name : Name) (items : List Atom) (a : Here) → OldHere a → OldHere (assigned groups name items a)
    old_assigned groups name items a old = one (is_some (value_of name a.locals)) where
      one : (b : Bool) → OldHere (if b then record a { locals = with_value name items a.locals } else with_state a (record a.state { variables = assigned_in groups a.state.variables name items }))
      one true = old
      one false = old

    acts_t : (x : Instr-F Instr When) (self : Self) (a : Here) → OldTrail self.trail → OldHere a → T (acts given x self a) (old_acts given x self a)
    acts_t (Instr-F.ValueOf select separator at) self a ways old =
        let g = setting given self a in
        got_t at (value select g) _ _ (λ items.
        got_t at (template_text_or space separator g) _ _ (λ between.
        got_t at (items_text g between items) _ _ (λ text. put_back_t at (text_parts text) a (old_text text) old)))
    acts_t (Instr-F.Chars text at) self a ways old = put_back_t at (text_parts text) a (old_text text) old
    acts_t (Instr-F.Copy attributes body at) self a ways old = copied_t at attributes body self a (current self.trail) (old_current self.trail ways) ways old
    acts_t (Instr-F.Element name namespace scope body at) self a ways old =
        named_t at true name namespace scope self a _ _ (λ n. put_around_t at (part.Start n [] ∷ []) body (part.End n ∷ []) self a (refl, tt) (refl, tt) ways old)
    acts_t (Instr-F.StartElement name namespace scope at) self a ways old =
        named_t at true name namespace scope self a _ _ (λ n. put_back_t at (part.Start n [] ∷ []) a (refl, tt) old)
    acts_t (Instr-F.EndElement name namespace scope at) self a ways old =
        named_t at true name namespace scope self a _ _ (λ n. put_back_t at (part.End n ∷ []) a (refl, tt) old)
    acts_t (Instr-F.Attribute name namespace scope content at) self a ways old =
        let g = setting given self a in
        got_t at (template_text name g) _ _ (λ text.
        got_t at (namespace_text namespace g) _ _ (λ uri.
        got_t at (content_text content g) _ _ (λ content_is.
        name_t at (computed_name false scope uri text) _ _ (λ n. put_back_t at (part.Attribute n content_is ∷ []) a (refl, tt) old))))
    acts_t (Instr-F.Comment content at) self a ways old =
        got_t at (content_text content (setting given self a)) _ _ (λ text. put_back_t at (part.Comment text ∷ []) a (refl, tt) old)
    acts_t (Instr-F.Pi name scope content at) self a ways old =
        got_t at (template_text name (setting given self a)) _ _ (λ target.
        got_t at (content_text content (setting given self a)) _ _ (λ text. put_back_t at (part.Pi target (without_space text) ∷ []) a (refl, tt) old))
    acts_t (Instr-F.Message content at) self a ways old =
        got_t at (content_text content (setting given self a)) _ _ (λ text. says_t (Note text) _ _ refl (same_ret a old))
    acts_t (Instr-F.If test body other at) self a ways old =
        got_t at (truth_of test (setting given self a)) _ _ (λ holds. asks (Body (if holds then body else other) self a) _ _ (ways, old) same_ret)
    acts_t (Instr-F.Choose whens other at) self a ways old = choose_t at whens other self a ways old
    acts_t (Instr-F.ForEachItem name select body at) self a ways old =
        got_t at (atoms_of select (setting given self a)) _ _ (λ items. turns_t at name items body self a ways old)
    acts_t (Instr-F.While test body at) self a ways old = asks (Loop test body at self a) _ _ (ways, old) same_ret
    acts_t (Instr-F.Assign name select at) self a ways old =
        got_t at (atoms_of select (setting given self a)) _ _ (λ items. same_ret (assigned (around given.sheet.groups self.group) name items a) (old_assigned (around given.sheet.groups self.group) name items a old))
    acts_t (Instr-F.CallProcedure name params at) self a ways old =
        hands_t at params self a _ _ (λ handed. calls_t at handed (procedure_at given.sheet (procedure_seen given.sheet self.group name)) self a ways old)
    acts_t (Instr-F.ProcessChildren group params at) self a ways old =
        hands_t at params self a _ _ (λ handed.
        either_t (has_list (current self.trail)) _ _ _ _
        (children_t at (asked_within given at (base_of given.sheet group self.group) handed self) a _ _ ways old same_ret)
        (same_ret a old))
    acts_t (Instr-F.ProcessAttributes group params at) self a ways old =
        hands_t at params self a _ _ (λ handed. attributes_of_t (asked_within given at (base_of given.sheet group self.group) handed self) (current self.trail) a ways old)
    acts_t (Instr-F.ProcessSelf group params at) self a ways old =
        hands_t at params self a _ _ (λ handed. again_t at (base_of given.sheet group self.group) handed self a ways old)
    acts_t (Instr-F.ProcessSiblings going until group params at) self a ways old =
        hands_t at params self a _ _ (λ handed.
        let asked = asked_beside given at (base_of given.sheet group self.group) handed (condition self.group going until) self in
        subst (λ b. T (if has_siblings (current self.trail) then siblings_of given asked a else Ret a) (if b then siblings_of given asked a else Ret a)) (same_siblings (current self.trail) (old_current self.trail ways))
        (either_t (has_siblings (current self.trail)) _ _ _ _ (siblings_of_t asked a (old_above self.trail ways) old) (same_ret a old)))
    acts_t (Instr-F.ProcessBuffer name group params at) self a ways old =
        hands_t at params self a _ _ (λ handed. buffer_t at (base_of given.sheet group self.group) handed (buffer_seen given.sheet self.group name) self a old)
    acts_t (Instr-F.ProcessDocument href group params at) self a ways old =
        got_t at (template_text href (setting given self a)) _ _ (λ name.
        hands_t at params self a _ _ (λ handed.
        opens_t at self.level.source _ _ (says_t (Open name) _ _ refl (document_t at (base_of given.sheet group self.group) handed name self a (given.documents name) refl old))))
    acts_t (Instr-F.ResultBuffer name clear body at) self a ways old = writes_t at (buffer_seen given.sheet self.group name) clear body self a ways old
    acts_t (Instr-F.Literal name attrs body at) self a ways old =
        got_t at (outcome.each (attribute_of (setting given self a)) attrs) _ _
        (λ as_. put_around_t at (part.Start name [] ∷ map attribute_part as_) body (part.End name ∷ []) self a (refl, old_attrs as_) (refl, tt) ways old)
    acts_t (Instr-F.LiteralChars text at) self a ways old = put_back_t at (text_parts text) a (old_text text) old
    acts_t (Instr-F.Local name select at) self a ways old =
        got_t at (selected select (setting given self a)) _ _ (λ items. same_ret (with_local name items a) old)

    exec_t : (i : Instr) (self : Self) (a : Here) → OldTrail self.trail → OldHere a → T (exec given i self a) (old_exec given i self a)
    exec_t i self a ways old = spend_t (place (out-Instr i)) a.state _ _ old.2 (λ t k. acts_t (out-Instr i) self (with_state a t) ways (old.0, old.1, k))

    body_t : (is : List Instr) (self : Self) (a : Here) → OldTrail self.trail → OldHere a → T (body given is self a) (old_body given is self a)
    body_t [] self a ways old = same_ret a old
    body_t (i ∷ is) self a ways old = then_t (exec given i self a) (old_exec given i self a) _ _ (exec_t i self a ways old) (λ b was. body_t is self b ways was)

    list_t : (is : List Instr) (self : Self) (a : Here) → OldTrail self.trail → OldHere a → T (list given is self a) (old_list given is self a)
    list_t is self a ways old = then_t (body given is self a) (old_body given is self a) _ _ (body_t is self a ways old) (λ b was. same_ret (cut_to a.locals b) was)

    loop_t : (test : Expr) (is : List Instr) (at : Place) (self : Self) (a : Here) → OldTrail self.trail → OldHere a → T (loop given test is at self a) (loop given test is at self a)
    loop_t test is at self a ways old =
        got_t at (truth_of test (setting given self a)) _ _ (λ holds.
        either_t holds _ _ _ _
        (spend_t at a.state _ _ old.2 (λ t k. asks (Body is self (with_state a t)) _ _ (ways, (old.0, old.1, k)) (λ b was. asks (Loop test is at self b) _ _ (ways, was) same_ret)))
        (same_ret a old))

    -- Lists of nodes.

    head_t : (n : Node) (kids : Option Forest) (l next : Forest) (earlier : NodeTest → ℕ) (asked : Asked) (st : State) → is_old_node n ≡ true → OldKids kids → HasNoSections l → HasNoSections next → OldTrail asked.within → Plain st
        → T (head given n kids l next earlier asked st) (old_head given n kids l next earlier asked st)
    head_t n kids l next earlier asked st is in_kids in_list in_next ways k =
        let trail = stands n earlier asked.within in
        let here = taken n kids next earlier st in
        let left : Siblings = record { earlier = earlier; coming = l } in
        subst (λ b. T (head given n kids l next earlier asked st) (if b then Ret (remains left st) else and_then (old_node given asked trail here) (siblings asked))) (same_ends_some given trail (is, ways) st asked.level.conditions)
        (either_t (ends_some given asked.level.conditions trail st) _ _ _ _
        (same_ret (remains left st) (tt, in_list, k))
        (then_t (node given asked trail here) (old_node given asked trail here) _ _ (node_t asked trail here (is, ways) (in_kids, in_next, k))
        (λ b was. asks (Nodes b.left asked b.state) _ _ (was.1, ways, was.2) same_ret)))

    leaf_t : (m : tree.Mark) (leaf : tree.Leaf) (next : Forest) (earlier : NodeTest → ℕ) (asked : Asked) (st : State) → is_old_node (leaf_node leaf) ≡ true → HasNoSections (Single Begun (without_place leaf) next) → HasNoSections next → OldTrail asked.within → Plain st
        → T (nodes given earlier (Single m leaf next) asked st) (old_nodes given earlier (Single m leaf next) asked st)
    leaf_t m leaf next earlier asked st is in_list in_next ways k =
        begin_t asked.level.source (is_begun m) st _ _ k (λ t k. head_t (leaf_node leaf) None (Single Begun (without_place leaf) next) next earlier asked t is tt in_list in_next ways k)

    nodes_t : (earlier : NodeTest → ℕ) (l : Forest) (asked : Asked) (st : State) → HasNoSections l → OldTrail asked.within → Plain st → T (nodes given earlier l asked st) (old_nodes given earlier l asked st)
    nodes_t earlier (End m offset) asked st old ways k =
        same_ret (remains (record { earlier = earlier; coming = End Begun 0 }) (ended given asked.level.source m st)) (tt, tt, plain_end asked.level.source m st k)
    nodes_t earlier (Cut why) asked st old ways k = halts _
    nodes_t earlier (Single m (tree.Chars offset text) next) asked st old ways k = leaf_t m (tree.Chars offset text) next earlier asked st refl old old ways k
    nodes_t earlier (Single m (tree.CData offset text) next) asked st old ways k = absurd old
    nodes_t earlier (Single m (tree.Comment offset text) next) asked st old ways k = leaf_t m (tree.Comment offset text) next earlier asked st refl old old ways k
    nodes_t earlier (Single m (tree.Pi offset target text) next) asked st old ways k = leaf_t m (tree.Pi offset target text) next earlier asked st refl old old ways k
    nodes_t earlier (Nested stage e kids next) asked st old ways k =
        ready_t asked.level.source stage kids _ _ (begin_t asked.level.source (is_entered stage) st _ _ k (λ t k.
        subst (λ f. T (head given (element_node stage e kids) (Some kids) (Nested (Entered (first_by stage kids)) (record e { offset = 0 }) kids next) next earlier asked t)
        (old_head given (Element e.name e.attrs e.decls f) (Some kids) (Nested (Entered f) (record e { offset = 0 }) kids next) next earlier asked t)) (same_first_by stage kids old.0)
        (head_t (element_node stage e kids) (Some kids) (Nested (Entered (first_by stage kids)) (record e { offset = 0 }) kids next) next earlier asked t refl old.0 old old.1 ways k)))

    -- The run.

    code_t : (q : Job) → OldJob q → T (code given q) (old_code given q)
    code_t (Nodes left asked st) old = nodes_t left.earlier left.coming asked st old.0 old.1 old.2
    code_t (Body is self a) old = list_t is self a old.0 old.1
    code_t (Loop test is at self a) old = loop_t test is at self a old.0 old.1

    each : (q p : Job) → Like q p → Twin Like Fine OldHere (code given q) (old_code given p)
    each q p l = subst (λ p. Twin Like Fine OldHere (code given q) (old_code given p)) (sym l.0) (code_t q l.1).is

    each_back : (p q : Job) → Like q p → Twin (λ p q. Like q p) Fine OldHere (old_code given p) (code given q)
    each_back p q l = flipped Like Fine OldHere (code given q) (old_code given p) (each q p l)

    meaning_t : (f : Forest) → HasNoSections f → T (meaning given f) (old_meaning given f)
    meaning_t f old =
        makes_t (λ v. true) [] given.sheet.variables (at_document given) (at_start given) _ _ (plain_declared given.sheet.buffers of_one.buffers) (λ st k.
        then_t (node given (asked_first given) (document ∷ []) (first_here given f st)) (old_node given (asked_first given) (document ∷ []) (first_here given f st)) _ _
        (node_t (asked_first given) (document ∷ []) (first_here given f st) (refl, tt) (old, tt, k)) (λ a was. halts _))

pub means_as_before : MeansAsBefore
means_as_before given of_one f old os e =
    let same = (meaning_t given of_one f old).is in (
      λ h. twins_end Like Fine OldHere (code given) (old_code given) (each given of_one) (meaning given f) (old_meaning given f) same os e h,
      λ h. twins_end (λ p q. Like q p) Fine OldHere (old_code given) (code given) (each_back given of_one) (old_meaning given f) (meaning given f) (flipped Like Fine OldHere (meaning given f) (old_meaning given f) same) os e h,
    )

pub puts_no_sections : PutsNoSections
puts_no_sections given of_one f old os e h =
    says_fine Like Fine OldHere (code given) (old_code given) (each given of_one) (meaning given f) (old_meaning given f) (meaning_t given of_one f old).is os e h
