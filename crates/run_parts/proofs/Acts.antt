-- What instructions and lists of nodes put is accepted, and where the sheet is ordinary and the document sound it is sound.
use Rattle.sheet_model.specs.Parts.{place}
use Rattle.sheet_model.specs.Groups.{around}
use Rattle.std.proofs.Common.{◌≡◌, ℕ, ◌+◌, nat_lt, Bool, true, false, List, [], ◌∷◌, ◌++◌, map, slice_get, Option, Some, None, is_some, refl, subst, append_assoc, if◌then◌else◌}
use Rattle.std.specs.List.{flat_map}
use Rattle.stx_base.specs.Course.{Ret, Ask, Ends}
use Rattle.stx_base.specs.declared.fault.Place.{Place}
use Rattle.stx_base.specs.declared.fault.RunCode.TheVariants as run_code
use Rattle.stx_base.specs.declared.name.Attr.{Attr}
use Rattle.stx_base.specs.declared.name.Binding.{Binding}
use Rattle.stx_base.specs.declared.name.Name.{Name}
use Rattle.stx_base.specs.declared.node.NodeTest.{NodeTest}
use Rattle.stx_base.specs.declared.part.Part.{Part}
use Rattle.stx_base.specs.declared.part.Part.TheVariants as part
use Rattle.node_stack.specs.Path.{Node, Document, Element, Chars, CData, Comment, Pi, Attribute}
use Rattle.result_writer.specs.Target.{Left, is_closed, next, nothing}
use Rattle.sheet_model.specs.Body.{bodies, children as within, inner}
use Rattle.sheet_model.specs.Laws.{KeepsOrder}
use Rattle.sheet_model.specs.declared.instr.Instr.{Instr, out-Instr}
use Rattle.sheet_model.specs.declared.instr.Instr.TheOpen.{Instr-F}
use Rattle.sheet_model.specs.declared.instr.When.{When, out-When}
use Rattle.sheet_model.specs.declared.sheet.Procedure.{Procedure}
use Rattle.sheet_model.specs.declared.sheet.Template.{Template}
use Rattle.stxpath_eval.specs.Value.{value}
use Rattle.stxpath_syntax.specs.declared.expr.Avt.{Avt}
use Rattle.stxpath_syntax.specs.declared.expr.Expr.{Expr}
use Rattle.stxpath_syntax.specs.declared.expr.Pattern.{Pattern}
use Rattle.stxpath_values.specs.Outcome as outcome
use Rattle.stxpath_values.specs.declared.value.Atom.{Atom}
use Rattle.var_store.specs.Variables.{value_of, with_value}
use Rattle.var_store.specs.declared.bound.Bound.{Bound}
use Rattle.xml_events.specs.Tree.{Begun, Entered, Forest, End, Cut, Single, Nested}
use Rattle.event_buffers.specs.Buffers.{busy_at, read_at, unclosed_at}
use Rattle.event_buffers.specs.Forest.{forest}
use Rattle.group_scope.specs.declared.rank.Rank.{Rank}
use Rattle.template_machine.specs.Acting.{acts, asked_beside, asked_of, asked_within, assigned, attribute_of, attributes_of, begins_reading, begins_writing, buffer_nodes, calls, choose, condition, copied, copy_parts, cut_to, document_nodes, ends_reading, ends_writing, has_list, has_siblings, loop, named, opens, put_around, siblings_of, turns, with_local, without_space, writes}
use Rattle.template_machine.specs.Declaring.{at_start}
use Rattle.template_machine.specs.Ending.{Done, Ending, Note, Open, Said, fault_at}
use Rattle.template_machine.specs.Finding.{base_of, buffer_seen, passing, procedure_at, procedure_seen}
use Rattle.template_machine.specs.Fuel.{ended, is_begun, is_entered}
use Rattle.template_machine.specs.Job.{Asked, Body, Does, Given, Here, Job, Level, Loop, Nodes, Opened, Self, Siblings, Source, State, all_of, remains, single, sources_open, with_state}
use Rattle.template_machine.specs.Meaning.{asked_first, at_document, body, code, ending_of, ends_some, exec, first_here, head, meaning, nodes, taken}
use Rattle.template_machine.specs.Ordinary.{StaysInOrder}
use Rattle.template_machine.specs.Passing.{again, attributes, back, choice, finish, group_at, node, pass_node, runs, start_parts, template_at}
use Rattle.template_machine.specs.Putting.{attribute_part, text_parts}
use Rattle.template_machine.specs.Trail.{Trail, current, document, element_node, first_by, leaf_node, passing_among, stands, without_place}
use Rattle.template_machine.specs.Values.{atoms_of, computed_name, content_text, items_text, namespace_text, selected, setting, space, template_text, template_text_or, truth_of}
use Rattle.template_machine.specs.Variables.{assigned_in}
use Rattle.run_parts.proofs.Following.{AllFine, Follows, behind, says_fine}
use Rattle.run_parts.proofs.Ordered.{AreOrdered, ordered_first, ordered_parts, procedure_ordered, template_ordered}
use Rattle.run_parts.proofs.Sound.{SoundList, SoundParts, SoundTrail, is_sound_node, sound_above, sound_attrs, sound_copy, sound_current, sound_leaf_node, sound_start, sound_text, sound_without_place}
use Rattle.run_parts.proofs.Walk.{Asks, BodyOrdered, CalledOrdered, Fine, FineEnd, KidsSound, Plain, Post, Pre, Stood, T, asks, at_left, begin_t, binds_t, children_t, either_t, end_as, finish_t, got_t, halts, hands_t, instance_t, makes_t, name_t, pass_t, put_back_t, puts_t, ready_t, refused_t, ret_t, runs_t, same_ret, says_t, spend_t, then_t, left_of, next_left, unready_fine}

done_fine : (given : Given) (l : Left) → FineEnd l (ending_of given l)
done_fine given l = by_test (is_closed l.elements l.held) refl where
  by_test : (t : Bool) → is_closed l.elements l.held ≡ t → FineEnd l (if t then Done else fault_at run_code.UnclosedResult (group_at given 0))
  by_test true e = e
  by_test false e = tt

module _ (given : Given) (S : Type 0) (good : Binding → Bool) (order : KeepsOrder) (bodies_ordered : S → AreOrdered (bodies given.sheet)) where
  abbrev Go : Left → Does → Type 0
  Go = T given S good

  abbrev Stands : Here → Type 0
  Stands = Stood given S good

  abbrev Way : Trail → Type 0
  Way trail = S → SoundTrail good trail

  abbrev Ordered : List Instr → Type 0
  Ordered is = S → AreOrdered is

  -- Nodes with their templates

  template_in : (c : Rank) → S → BodyOrdered (template_at given c)
  template_in c x = of_template (slice_get given.sheet.templates c.template) refl where
    of_template : (o : Option Template) → slice_get given.sheet.templates c.template ≡ o → BodyOrdered o
    of_template None is = tt
    of_template (Some t) is = template_ordered order given.sheet c.template t is (bodies_ordered x)

  chosen_t : (at : Place) (base : ℕ) (handed : List Bound) (active : List ℕ) (level : Level) (trail : Trail) (a : Here) (go : Here → Does) → Way trail → Stands a → ((b : Here) → Stands b → Go b.state.result (go b)) → (o : Option Rank)
      → Go a.state.result (elim o [
        | None ↦ pass_node given at base level.source trail (current trail) a
        | Some c ↦ runs given at handed c (template_at given c) active level trail a go
      ])
  chosen_t at base handed active level trail a go ways s h None = pass_t given S good at base level.source trail (current trail) a ways (λ x. sound_current good trail (ways x)) s
  chosen_t at base handed active level trail a go ways s h (Some c) = runs_t given S good at handed c (template_at given c) active level trail a go (template_in c) ways s h

  node_t : (asked : Asked) (trail : Trail) (a : Here) → Way trail → Stands a → Go a.state.result (node given asked trail a)
  node_t asked trail a ways s = chosen_t asked.at asked.base asked.params [] asked.level trail a _ ways s (finish_t given S good asked.level.source) (choice given asked.base [] trail a.state)

  again_t : (at : Place) (base : ℕ) (handed : List Bound) (self : Self) (a : Here) → Way self.trail → Stands a → Go a.state.result (again given at base handed self a)
  again_t at base handed self a ways s = chosen_t at base handed self.active self.level self.trail a _ ways s (same_ret given S good) (choice given base self.active self.trail a.state)

  attributes_t : (earlier coming : List Attr) (asked : Asked) (st : State) (go : State → Does) → Way asked.within → Plain given S good st → ((t : State) → Plain given S good t → Go t.result (go t))
      → Go st.result (attributes given earlier coming asked st go)
  attributes_t earlier [] asked st go ways k h = h st k
  attributes_t earlier (x ∷ xs) asked st go ways k h =
      let trail = stands (Attribute x) (passing_among earlier) asked.within in
      then_t given S good st.result (node given asked trail (single st)) _ (node_t asked trail (single st) (λ y. (refl, ways y)) ((λ y. tt), (λ y. tt), k))
      (λ b was. attributes_t (earlier ++ x ∷ []) xs asked b.state go ways was.2 h)

  -- Instructions

  put_around_t : (at : Place) (before : List Part) (is : List Instr) (behind : List Part) (self : Self) (a : Here) → (S → SoundParts good before) → (S → SoundParts good behind) → Ordered is → Way self.trail → Stands a
      → Go a.state.result (put_around given at before is behind self a)
  put_around_t at before is behind self a f g orders ways s =
      puts_t given S good at before a.state _ f s.2
      (λ t k. asks given S good (Body is self (with_state a t)) _ (orders, ways, (s.0, s.1, k)) (λ b was. put_back_t given S good at behind b g was))

  list_t : (is : List Instr) (self : Self) (a : Here) → Ordered is → Way self.trail → Stands a → Go a.state.result (Ask (Body is self a) Ret)
  list_t is self a orders ways s = asks given S good (Body is self a) Ret (orders, ways, s) (same_ret given S good)

  choose_t : (at : Place) (ws : List When) (is : List Instr) (self : Self) (a : Here) → Ordered (flat_map (λ (w : When). w.body) ws ++ is) → Way self.trail → Stands a → Go a.state.result (choose given at ws is self a)
  choose_t at [] is self a orders ways s = list_t is self a orders ways s
  choose_t at (w ∷ ws) is self a orders ways s =
      let others = flat_map (λ (w : When). w.body) ws in
      let first : S → AreOrdered w.body × AreOrdered (others ++ is) = λ x. ordered_parts order w.body (others ++ is) (subst AreOrdered (append_assoc w.body others is) (orders x)) in
      got_t given S good a.state.result at (truth_of (out-When w).test (setting given self a)) _
      (λ b. either_t given S good a.state.result b _ _ (list_t (out-When w).body self a (λ x. (first x).0) ways s) (choose_t at ws is self a (λ x. (first x).1) ways s))

  turns_t : (at : Place) (name : Name) (xs : List Atom) (is : List Instr) (self : Self) (a : Here) → Ordered is → Way self.trail → Stands a → Go a.state.result (turns given at name xs is self a)
  turns_t at name [] is self a orders ways s = same_ret given S good a s
  turns_t at name (x ∷ xs) is self a orders ways s =
      spend_t given S good at a.state _ s.2
      (λ t k. asks given S good (Body is self (with_local name (x ∷ []) (with_state a t))) _ (orders, ways, (s.0, s.1, k)) (λ b was. turns_t at name xs is self (cut_to a.locals b) orders ways was))

  procedure_in_sheet : (n : Option ℕ) → S → CalledOrdered (procedure_at given.sheet n)
  procedure_in_sheet None x = tt
  procedure_in_sheet (Some n) x = of_procedure (slice_get given.sheet.procedures n) refl where
    of_procedure : (o : Option Procedure) → slice_get given.sheet.procedures n ≡ o → CalledOrdered o
    of_procedure None is = tt
    of_procedure (Some p) is = procedure_ordered order given.sheet n p is (bodies_ordered x)

  calls_t : (at : Place) (handed : List Bound) (p : Option Procedure) (self : Self) (a : Here) → (S → CalledOrdered p) → Way self.trail → Stands a → Go a.state.result (calls given at handed p self a)
  calls_t at handed None self a orders ways s = same_ret given S good a s
  calls_t at handed (Some p) self a orders ways s =
      instance_t given S good a.state.result at self.level _ (λ more.
      let callee = record self { group = p.group; level = more } in
      binds_t given S good p.params handed callee (record a { locals = [] }) _ s (λ b was. asks given S good (Body p.body callee b) _ (orders, ways, was) (λ b is. same_ret given S good (back a b.state b) is)))

  attributes_of_t : (asked : Asked) (n : Node) (a : Here) → Way asked.within → Stands a → Go a.state.result (attributes_of given asked n a)
  attributes_of_t asked (Element name attrs decls first) a ways s = attributes_t [] attrs asked a.state _ ways s.2 (λ t k. same_ret given S good (with_state a t) (s.0, s.1, k))
  attributes_of_t asked Document a ways s = same_ret given S good a s
  attributes_of_t asked (Chars text) a ways s = same_ret given S good a s
  attributes_of_t asked (CData text) a ways s = same_ret given S good a s
  attributes_of_t asked (Comment text) a ways s = same_ret given S good a s
  attributes_of_t asked (Pi target text) a ways s = same_ret given S good a s
  attributes_of_t asked (Attribute x) a ways s = same_ret given S good a s

  siblings_of_t : (asked : Asked) (a : Here) → Way asked.within → Stands a → Go a.state.result (siblings_of given asked a)
  siblings_of_t asked a ways s =
      then_t given S good a.state.result (finish given asked.level.source a) _ (finish_t given S good asked.level.source a s)
      (λ b was. asks given S good (Nodes b.left asked b.state) _ (was.1, ways, was.2) (λ c is. same_ret given S good (record b { left = c.left; state = c.state }) (was.0, is.1, is.2)))

  -- Other sources and buffers, which an ordinary sheet has none of

  opens_t : (l : Left) (at : Place) (source : Source) (x : Does) → Go l x → Go l (opens given at source x)
  opens_t l at source x h = either_t given S good l (nat_lt (sources_open source) given.limits.sources) _ _ h (halts given S good l _ tt)

  buffer_t : (at : Place) (base : ℕ) (handed : List Bound) (o : Option ℕ) (self : Self) (a : Here) → (S → ⊥) → Stands a → Go a.state.result (buffer_nodes given at base handed o self a)
  buffer_t at base handed None self a never s = same_ret given S good a s
  buffer_t at base handed (Some id) self a never s =
      let st = begins_reading id a.state in
      let asked = asked_of given at base handed (Opened None at (sources_open self.level.source + 1)) in
      refused_t given S good a.state.result (busy_at a.state.buffers id) at _
      (opens_t a.state.result at self.level.source _
      (asks given S good (Nodes (all_of (forest (read_at st.buffers id))) asked st) _ ((λ x. absurd (never x)), (λ x. absurd (never x)), (λ x. absurd (never x)))
      (λ b was. same_ret given S good (with_state a (ends_reading id b.state)) (s.0, s.1, (λ x. absurd (never x))))))

  document_t : (at : Place) (base : ℕ) (handed : List Bound) (name : List ℕ) (self : Self) (a : Here) (o : Option Forest) → (S → ⊥) → Stands a → Go a.state.result (document_nodes given at base handed name self a o)
  document_t at base handed name self a None never s = halts given S good _ _ tt
  document_t at base handed name self a (Some f) never s =
      asks given S good (Nodes (all_of f) (asked_of given at base handed (Opened (Some name) at (sources_open self.level.source + 1))) a.state) _ ((λ x. absurd (never x)), (λ x. absurd (never x)), s.2)
      (λ b was. same_ret given S good (with_state a b.state) (s.0, s.1, was.2))

  writes_t : (at : Place) (o : Option ℕ) (clear : Bool) (is : List Instr) (self : Self) (a : Here) → (S → ⊥) → Stands a → Go a.state.result (writes given at o clear is self a)
  writes_t at None clear is self a never s = same_ret given S good a s
  writes_t at (Some id) clear is self a never s =
      refused_t given S good a.state.result (busy_at a.state.buffers id) at _
      (asks given S good (Body is self (with_state a (begins_writing id clear a.state))) _ ((λ x. absurd (never x)), (λ x. absurd (never x)), (s.0, s.1, (λ x. absurd (never x))))
      (λ b was. refused_t given S good b.state.result (unclosed_at b.state.buffers id) at _ (same_ret given S good (with_state b (ends_writing id b.state)) (was.0, was.1, (λ x. absurd (never x))))))

  -- All instructions

  copied_t : (at : Place) (attributes : Option Pattern) (is : List Instr) (self : Self) (a : Here) (n : Node) → (S → is_sound_node good n ≡ true) → Ordered is → Way self.trail → Stands a → Go a.state.result (copied given at attributes is self a n)
  copied_t at attributes is self a Document h orders ways s = list_t is self a orders ways s
  copied_t at attributes is self a (Element name attrs decls first) h orders ways s =
      put_around_t at (start_parts self.trail name (passing attributes attrs)) is (part.End name ∷ []) self a (λ x. sound_start good self.trail name (passing attributes attrs) (ways x)) (λ x. (refl, tt)) orders ways s
  copied_t at attributes is self a (Chars text) h orders ways s = put_back_t given S good at (copy_parts (Chars text)) a (λ x. sound_copy good (Chars text) (h x)) s
  copied_t at attributes is self a (CData text) h orders ways s = put_back_t given S good at (copy_parts (CData text)) a (λ x. sound_copy good (CData text) (h x)) s
  copied_t at attributes is self a (Comment text) h orders ways s = put_back_t given S good at (copy_parts (Comment text)) a (λ x. sound_copy good (Comment text) (h x)) s
  copied_t at attributes is self a (Pi target text) h orders ways s = put_back_t given S good at (copy_parts (Pi target text)) a (λ x. sound_copy good (Pi target text) (h x)) s
  copied_t at attributes is self a (Attribute y) h orders ways s = put_back_t given S good at (copy_parts (Attribute y)) a (λ x. sound_copy good (Attribute y) (h x)) s

  named_t : (at : Place) (is_element : Bool) (name : Avt) (namespace : Option Avt) (scope : List Binding) (self : Self) (a : Here) (go : Name → Does) → ((n : Name) → Go a.state.result (go n))
      → Go a.state.result (named given at is_element name namespace scope self a go)
  named_t at is_element name namespace scope self a go h =
      got_t given S good a.state.result at (template_text name (setting given self a)) _ (λ text.
      got_t given S good a.state.result at (namespace_text namespace (setting given self a)) _ (λ uri. name_t given S good a.state.result at (computed_name is_element scope uri text) go h))

  assigned_t : (groups : List ℕ) (name : Name) (items : List Atom) (a : Here) → Stands a → Go a.state.result (Ret (assigned groups name items a))
  assigned_t groups name items a s = one (is_some (value_of name a.locals)) where
    one : (b : Bool) → Go a.state.result (Ret (if b then record a { locals = with_value name items a.locals } else with_state a (record a.state { variables = assigned_in groups a.state.variables name items })))
    one true = same_ret given S good (record a { locals = with_value name items a.locals }) s
    one false = same_ret given S good (with_state a (record a.state { variables = assigned_in groups a.state.variables name items })) s

  acts_t : (x : Instr-F Instr When) (self : Self) (a : Here) → (S → StaysInOrder x) → Ordered (inner (λ w. w.body) x) → Way self.trail → Stands a → Go a.state.result (acts given x self a)
  acts_t (Instr-F.ValueOf select separator at) self a stays orders ways s =
      let g = setting given self a in
      got_t given S good a.state.result at (value select g) _ (λ items.
      got_t given S good a.state.result at (template_text_or space separator g) _ (λ between.
      got_t given S good a.state.result at (items_text g between items) _ (λ text. put_back_t given S good at (text_parts text) a (λ x. sound_text good text) s)))
  acts_t (Instr-F.Chars text at) self a stays orders ways s = put_back_t given S good at (text_parts text) a (λ x. sound_text good text) s
  acts_t (Instr-F.Copy attributes body at) self a stays orders ways s = copied_t at attributes body self a (current self.trail) (λ x. sound_current good self.trail (ways x)) orders ways s
  acts_t (Instr-F.Element name namespace scope body at) self a stays orders ways s =
      named_t at true name namespace scope self a _ (λ n. put_around_t at (part.Start n [] ∷ []) body (part.End n ∷ []) self a (λ x. (refl, tt)) (λ x. (refl, tt)) orders ways s)
  acts_t (Instr-F.StartElement name namespace scope at) self a stays orders ways s =
      named_t at true name namespace scope self a _ (λ n. put_back_t given S good at (part.Start n [] ∷ []) a (λ x. (refl, tt)) s)
  acts_t (Instr-F.EndElement name namespace scope at) self a stays orders ways s =
      named_t at true name namespace scope self a _ (λ n. put_back_t given S good at (part.End n ∷ []) a (λ x. (refl, tt)) s)
  acts_t (Instr-F.Attribute name namespace scope content at) self a stays orders ways s =
      let g = setting given self a in
      got_t given S good a.state.result at (template_text name g) _ (λ text.
      got_t given S good a.state.result at (namespace_text namespace g) _ (λ uri.
      got_t given S good a.state.result at (content_text content g) _ (λ content_is.
      name_t given S good a.state.result at (computed_name false scope uri text) _ (λ n. put_back_t given S good at (part.Attribute n content_is ∷ []) a (λ x. (refl, tt)) s))))
  acts_t (Instr-F.Comment content at) self a stays orders ways s =
      got_t given S good a.state.result at (content_text content (setting given self a)) _ (λ text. put_back_t given S good at (part.Comment text ∷ []) a (λ x. (refl, tt)) s)
  acts_t (Instr-F.Pi name scope content at) self a stays orders ways s =
      got_t given S good a.state.result at (template_text name (setting given self a)) _ (λ target.
      got_t given S good a.state.result at (content_text content (setting given self a)) _ (λ text. put_back_t given S good at (part.Pi target (without_space text) ∷ []) a (λ x. (refl, tt)) s))
  acts_t (Instr-F.Message content at) self a stays orders ways s =
      got_t given S good a.state.result at (content_text content (setting given self a)) _ (λ text. says_t given S good a.state.result (Note text) _ tt (same_ret given S good a s))
  acts_t (Instr-F.If test body other at) self a stays orders ways s =
      let both : S → AreOrdered body × AreOrdered other = λ x. ordered_parts order body other (orders x) in
      got_t given S good a.state.result at (truth_of test (setting given self a)) _ (λ holds. list_t (if holds then body else other) self a (λ x. elim holds as (λ b. AreOrdered (if b then body else other)) [ true ↦ (both x).0 | false ↦ (both x).1 ]) ways s)
  acts_t (Instr-F.Choose whens other at) self a stays orders ways s = choose_t at whens other self a orders ways s
  acts_t (Instr-F.ForEachItem name select body at) self a stays orders ways s =
      got_t given S good a.state.result at (atoms_of select (setting given self a)) _ (λ items. turns_t at name items body self a orders ways s)
  acts_t (Instr-F.While test body at) self a stays orders ways s = asks given S good (Loop test body at self a) Ret (orders, ways, s) (same_ret given S good)
  acts_t (Instr-F.Assign name select at) self a stays orders ways s =
      got_t given S good a.state.result at (atoms_of select (setting given self a)) _ (λ items. assigned_t (around given.sheet.groups self.group) name items a s)
  acts_t (Instr-F.CallProcedure name params at) self a stays orders ways s =
      let n = procedure_seen given.sheet self.group name in
      hands_t given S good at params self a _ (λ handed. calls_t at handed (procedure_at given.sheet n) self a (procedure_in_sheet n) ways s)
  acts_t (Instr-F.ProcessChildren group params at) self a stays orders ways s =
      hands_t given S good at params self a _ (λ handed.
      either_t given S good a.state.result (has_list (current self.trail)) _ _
      (children_t given S good at (asked_within given at (base_of given.sheet group self.group) handed self) a _ ways s (same_ret given S good))
      (same_ret given S good a s))
  acts_t (Instr-F.ProcessAttributes group params at) self a stays orders ways s =
      hands_t given S good at params self a _ (λ handed. attributes_of_t (asked_within given at (base_of given.sheet group self.group) handed self) (current self.trail) a ways s)
  acts_t (Instr-F.ProcessSelf group params at) self a stays orders ways s =
      hands_t given S good at params self a _ (λ handed. again_t at (base_of given.sheet group self.group) handed self a ways s)
  acts_t (Instr-F.ProcessSiblings going until group params at) self a stays orders ways s =
      hands_t given S good at params self a _ (λ handed.
      let asked = asked_beside given at (base_of given.sheet group self.group) handed (condition self.group going until) self in
      either_t given S good a.state.result (has_siblings (current self.trail)) _ _ (siblings_of_t asked a (λ x. sound_above good self.trail (ways x)) s) (same_ret given S good a s))
  acts_t (Instr-F.ProcessBuffer name group params at) self a stays orders ways s =
      hands_t given S good at params self a _ (λ handed. buffer_t at (base_of given.sheet group self.group) handed (buffer_seen given.sheet self.group name) self a stays s)
  acts_t (Instr-F.ProcessDocument href group params at) self a stays orders ways s =
      got_t given S good a.state.result at (template_text href (setting given self a)) _ (λ name.
      hands_t given S good at params self a _ (λ handed.
      opens_t a.state.result at self.level.source _ (says_t given S good a.state.result (Open name) _ tt (document_t at (base_of given.sheet group self.group) handed name self a (given.documents name) stays s))))
  acts_t (Instr-F.ResultBuffer name clear body at) self a stays orders ways s = writes_t at (buffer_seen given.sheet self.group name) clear body self a stays s
  acts_t (Instr-F.Literal name attrs body at) self a stays orders ways s =
      got_t given S good a.state.result at (outcome.each (attribute_of (setting given self a)) attrs) _
      (λ as_. put_around_t at (part.Start name [] ∷ map attribute_part as_) body (part.End name ∷ []) self a (λ x. (refl, sound_attrs good as_)) (λ x. (refl, tt)) orders ways s)
  acts_t (Instr-F.LiteralChars text at) self a stays orders ways s = put_back_t given S good at (text_parts text) a (λ x. sound_text good text) s
  acts_t (Instr-F.Local name select at) self a stays orders ways s =
      got_t given S good a.state.result at (selected select (setting given self a)) _ (λ items. same_ret given S good (with_local name items a) s)

  exec_t : (i : Instr) (self : Self) (a : Here) → (S → StaysInOrder (out-Instr i)) → Ordered (within i) → Way self.trail → Stands a → Go a.state.result (exec given i self a)
  exec_t i self a stays orders ways s = spend_t given S good (place (out-Instr i)) a.state _ s.2 (λ t k. acts_t (out-Instr i) self (with_state a t) stays orders ways (s.0, s.1, k))

  body_t : (is : List Instr) (self : Self) (a : Here) → Ordered is → Way self.trail → Stands a → Go a.state.result (body given is self a)
  body_t [] self a orders ways s = same_ret given S good a s
  body_t (i ∷ is) self a orders ways s =
      then_t given S good a.state.result (exec given i self a) _ (exec_t i self a (λ x. (ordered_first order i is (orders x)).0) (λ x. (ordered_first order i is (orders x)).1.0) ways s)
      (λ b was. body_t is self b (λ x. (ordered_first order i is (orders x)).1.1) ways was)

  loop_t : (test : Expr) (is : List Instr) (at : Place) (self : Self) (a : Here) → Ordered is → Way self.trail → Stands a → Go a.state.result (loop given test is at self a)
  loop_t test is at self a orders ways s =
      got_t given S good a.state.result at (truth_of test (setting given self a)) _ (λ holds.
      either_t given S good a.state.result holds _ _
      (spend_t given S good at a.state _ s.2 (λ t k. asks given S good (Body is self (with_state a t)) _ (orders, ways, (s.0, s.1, k)) (λ b was. asks given S good (Loop test is at self b) Ret (orders, ways, was) (same_ret given S good))))
      (same_ret given S good a s))

  -- Lists of nodes

  head_t : (n : Node) (kids : Option Forest) (l next : Forest) (earlier : NodeTest → ℕ) (asked : Asked) (st : State) → (S → is_sound_node good n ≡ true) → (S → KidsSound good kids) → (S → SoundList good l) → (S → SoundList good next) → Way asked.within → Plain given S good st
      → Go st.result (head given n kids l next earlier asked st)
  head_t n kids l next earlier asked st is in_kids in_list in_next ways k =
      let trail = stands n earlier asked.within in
      let here = taken n kids next earlier st in
      let left : Siblings = record { earlier = earlier; coming = l } in
      either_t given S good st.result (ends_some given asked.level.conditions trail st) _ _
      (same_ret given S good (remains left st) ((λ x. tt), in_list, k))
      (then_t given S good st.result (node given asked trail here) _ (node_t asked trail here (λ x. (is x, ways x)) (in_kids, in_next, k))
      (λ b was. asks given S good (Nodes b.left asked b.state) Ret (was.1, ways, was.2) (same_ret given S good)))

  nodes_t : (earlier : NodeTest → ℕ) (l : Forest) (asked : Asked) (st : State) → (S → SoundList good l) → Way asked.within → Plain given S good st → Go st.result (nodes given earlier l asked st)
  nodes_t earlier (End m offset) asked st sound ways k =
      let e = end_as given S good asked.level.source m st in
      ret_t given S good st.result (remains (record { earlier = earlier; coming = End Begun 0 }) (ended given asked.level.source m st)) e.result ((λ x. tt), (λ x. tt), e.plain k)
  nodes_t earlier (Cut why) asked st sound ways k = halts given S good _ _ (unready_fine st.result asked.level.source why)
  nodes_t earlier (Single m leaf next) asked st sound ways k =
      begin_t given S good asked.level.source (is_begun m) st _ k
      (λ t k. head_t (leaf_node leaf) None (Single Begun (without_place leaf) next) next earlier asked t
      (λ x. sound_leaf_node good leaf (sound x).0) (λ x. tt) (λ x. (sound_without_place good leaf (sound x).0, (sound x).1)) (λ x. (sound x).1) ways k)
  nodes_t earlier (Nested stage e kids next) asked st sound ways k =
      ready_t given S good st.result asked.level.source stage kids _ (begin_t given S good asked.level.source (is_entered stage) st _ k
      (λ t k. head_t (element_node stage e kids) (Some kids) (Nested (Entered (first_by stage kids)) (record e { offset = 0 }) kids next) next earlier asked t
      (λ x. (sound x).0) (λ x. (sound x).1.0) sound (λ x. (sound x).1.1) ways k))

  -- Runs

  code_t : (q : Job) → Asks given S good q → Go (left_of q) (code given q)
  code_t (Nodes left asked st) s = nodes_t left.earlier left.coming asked st s.0 s.1 s.2
  code_t (Body is self a) s = then_t given S good a.state.result (body given is self a) _ (body_t is self a s.0 s.1 s.2) (λ b was. same_ret given S good (cut_to a.locals b) was)
  code_t (Loop test is at self a) s = loop_t test is at self a s.0 s.1 s.2

  each : (l : Left) (q : Job) → Pre given S good l q → Follows next_left (Fine given S good) FineEnd (Pre given S good) (Post given S good) l (code given q)
  each l q p = (at_left given S good (left_of q) l (code given q) p.0 (code_t q p.1)).is

  meaning_t : (f : Forest) → (S → SoundList good f) → Go nothing (meaning given f)
  meaning_t f sound =
      makes_t given S good (λ v. true) [] given.sheet.variables (at_document given) (at_start given) _ (λ x. refl) (λ st k.
      then_t given S good st.result (node given (asked_first given) (document ∷ []) (first_here given f st)) _
      (node_t (asked_first given) (document ∷ []) (first_here given f st) (λ x. (refl, tt)) (sound, (λ x. tt), k)) (λ a was. halts given S good _ _ (done_fine given a.state.result)))

  -- all that a run says is as it may be, and so is its end
  pub run_fine : (f : Forest) → (S → SoundList good f) → (os : List Said) (e : Ending) → Ends (code given) (meaning given f) os e → AllFine next_left (Fine given S good) nothing os × FineEnd (behind next_left nothing os) e
  run_fine f sound os e h = says_fine next_left (Fine given S good) FineEnd (Pre given S good) (Post given S good) (code given) each nothing (meaning given f) (meaning_t f sound).is os e h
