-- What each instruction leaves of the locals.
use Rattle.sheet_model.specs.Parts.{place}
use Rattle.sheet_model.specs.Groups.{around}
use Rattle.sheet_model.specs.Names.{declared}
use Rattle.std.proofs.Common.{◌≡◌, ℕ, ◌+◌, nat_lt, Bool, true, false, List, [], ◌∷◌, ◌++◌, Option, Some, None, is_some, refl, sym, ◌∙◌, if◌then◌else◌, map}
use Rattle.stx_base.specs.Course.{Ret, Halt, Say, Ask}
use Rattle.stx_base.specs.declared.fault.Place.{Place}
use Rattle.stx_base.specs.declared.fault.RunCode.TheVariants as run_code
use Rattle.stx_base.specs.declared.name.Binding.{Binding}
use Rattle.stx_base.specs.declared.name.Name.{Name}
use Rattle.stx_base.specs.declared.part.Part.{Part}
use Rattle.stx_base.specs.declared.part.Part.TheVariants as part
use Rattle.node_stack.specs.Path.{Node, Document, Element, Chars, CData, Comment, Pi, Attribute}
use Rattle.sheet_model.specs.declared.instr.Instr.{Instr, out-Instr}
use Rattle.sheet_model.specs.declared.instr.Instr.TheOpen.{Instr-F}
use Rattle.sheet_model.specs.declared.instr.When.{When, out-When}
use Rattle.sheet_model.specs.declared.sheet.Procedure.{Procedure}
use Rattle.stxpath_eval.specs.Value.{value}
use Rattle.stxpath_syntax.specs.declared.expr.Avt.{Avt}
use Rattle.stxpath_syntax.specs.declared.expr.Expr.{Expr}
use Rattle.stxpath_syntax.specs.declared.expr.Pattern.{Pattern}
use Rattle.stxpath_values.specs.Outcome as outcome
use Rattle.stxpath_values.specs.declared.value.Atom.{Atom}
use Rattle.var_store.specs.Variables.{value_of, with_value}
use Rattle.var_store.specs.declared.bound.Bound.{Bound}
use Rattle.xml_events.specs.Tree.{Forest}
use Rattle.template_machine.specs.Acting.{acts, act, asked_beside, asked_of, asked_within, assigned, attribute_of, attributes_of, begins_reading, begins_writing, buffer_nodes, calls, choose, condition, copied, copy_parts, cut_to, document_nodes, ends_reading, ends_writing, has_list, has_siblings, loop, named, opens, put_around, put_parts, siblings_of, turns, with_local, without_space, writes}
use Rattle.event_buffers.specs.Buffers.{busy_at, read_at, unclosed_at}
use Rattle.event_buffers.specs.Forest.{forest}
use Rattle.template_machine.specs.Declaring.{binds, hands}
use Rattle.template_machine.specs.Ending.{Note, Open, fault_at}
use Rattle.template_machine.specs.Finding.{base_of, buffer_seen, passing, procedure_at, procedure_seen}
use Rattle.template_machine.specs.Job.{Given, State, Source, Opened, Here, Self, Job, Nodes, Body, Loop, Does, Level, Asked, all_of, sources_open, with_state}
use Rattle.template_machine.specs.Laws.{KeepsLocals, names}
use Rattle.template_machine.specs.Meaning.{body, code, exec, list, nodes}
use Rattle.template_machine.specs.Passing.{again, attributes, back, children, finish, start_parts}
use Rattle.template_machine.specs.Putting.{attribute_part, puts, text_parts, unless_refused}
use Rattle.template_machine.specs.Trail.{current}
use Rattle.template_machine.specs.Values.{atoms_of, computed_name, content_text, got, items_text, namespace_text, selected, setting, space, template_text, template_text_or, truth_of}
use Rattle.template_machine.specs.Variables.{assigned_in}
use Rattle.template_machine.proofs.Holding.{holds_more, holds_then, result_meets}
use Rattle.template_machine.proofs.Locals.{Grows, changed_names, cut_names, grows_on, names_behind, none_behind, one_grows, same_grows}
use Rattle.template_machine.proofs.Keeping.{Post, Ok, Alike, got_ok, either_ok, puts_ok, hands_ok, binds_ok, spend_ok, instance_ok, children_ok, again_ok, finish_ok, attributes_ok, refused_ok}

-- locals of these names more
abbrev pub Adds : List Name → Here → Here → Type 0
Adds more a b = names a.locals ++ more ≡ names b.locals

-- the same locals are none more
alike_adds : (a b : Here) → Alike a b → Adds [] a b
alike_adds a b e = none_behind (names a.locals) ∙ sym e

module _ (given : Given) where
  put_parts_ok : (at : Place) (parts : List Part) (a : Here) → Ok (Adds [] a) (put_parts given at parts a)
  put_parts_ok at parts a = puts_ok given (Adds [] a) at parts a.state (λ st. Ret (with_state a st)) (λ t. alike_adds a a refl)

  put_around_ok : (at : Place) (before : List Part) (is : List Instr) (behind : List Part) (self : Self) (a : Here) → Ok (Adds [] a) (put_around given at before is behind self a)
  put_around_ok at before is behind self a =
      puts_ok given (Adds [] a) at before a.state (λ st. Ask (Body is self (with_state a st)) (λ b. puts given at behind b.state (λ st. Ret (with_state b st))))
      (λ t b e. puts_ok given (Adds [] a) at behind b.state (λ st. Ret (with_state b st)) (λ u. alike_adds a b e))

  choose_ok : (at : Place) (ws : List When) (other : List Instr) (self : Self) (a : Here) → Ok (Adds [] a) (choose given at ws other self a)
  choose_ok at [] other self a = λ b e. alike_adds a b e
  choose_ok at (x ∷ xs) other self a =
      let go : Bool → Does = λ holds. if holds then Ask (Body (out-When x).body self a) Ret else choose given at xs other self a in
      got_ok given (Adds [] a) at (truth_of (out-When x).test (setting given self a)) go
      (λ b. either_ok given (Adds [] a) b (Ask (Body (out-When x).body self a) Ret) (choose given at xs other self a) (λ c e. alike_adds a c e) (choose_ok at xs other self a))

  -- the turns of a loop, behind which the locals before it are left
  turns_ok : (ls : List Bound) (at : Place) (name : Name) (xs : List Atom) (is : List Instr) (self : Self) (a : Here) → names a.locals ≡ names ls → Ok (λ b. names b.locals ≡ names ls) (turns given at name xs is self a)
  turns_ok ls at name [] is self a e = e
  turns_ok ls at name (x ∷ xs) is self a e =
      let P : Here → Type 0 = λ b. names b.locals ≡ names ls in
      let behind : Here → Does = λ b. turns given at name xs is self (cut_to a.locals b) in
      spend_ok given P at a.state (λ st. Ask (Body is self (with_local name (x ∷ []) (with_state a st))) behind)
      (λ t b q. turns_ok ls at name xs is self (cut_to a.locals b) (cut_names a.locals b.locals (grows_on a.locals (a.locals ++ record { name = name; value = x ∷ [] } ∷ []) b.locals (one_grows a.locals (record { name = name; value = x ∷ [] })) (same_grows (a.locals ++ record { name = name; value = x ∷ [] } ∷ []) b.locals q)) ∙ e))

  calls_ok : (at : Place) (handed : List Bound) (p : Option Procedure) (self : Self) (a : Here) → Ok (Adds [] a) (calls given at handed p self a)
  calls_ok at handed None self a = alike_adds a a refl
  calls_ok at handed (Some p) self a =
      let callee : Level → Self = λ more. record self { group = p.group; level = more } in
      let enter : Level → Does = λ more. binds given p.params handed (callee more) (record a { locals = [] }) (λ b. Ask (Body p.body (callee more) b) (λ b. Ret (back a b.state b))) in
      instance_ok given (Adds [] a) at self.level enter
      (λ more. binds_ok given (Adds [] a) p.params handed (callee more) (record a { locals = [] }) (λ b. Ask (Body p.body (callee more) b) (λ b. Ret (back a b.state b)))
      (λ b c q. alike_adds a a refl))

  attributes_of_ok : (asked : Asked) (n : Node) (a : Here) → Ok (Adds [] a) (attributes_of given asked n a)
  attributes_of_ok asked (Element name attrs decls first) a =
      attributes_ok given (Adds [] a) [] attrs asked a.state (λ st. Ret (with_state a st)) (λ t. alike_adds a a refl)
  attributes_of_ok asked Document a = alike_adds a a refl
  attributes_of_ok asked (Chars text) a = alike_adds a a refl
  attributes_of_ok asked (CData text) a = alike_adds a a refl
  attributes_of_ok asked (Comment text) a = alike_adds a a refl
  attributes_of_ok asked (Pi target text) a = alike_adds a a refl
  attributes_of_ok asked (Attribute x) a = alike_adds a a refl

  siblings_of_ok : (asked : Asked) (a : Here) → Ok (Adds [] a) (siblings_of given asked a)
  siblings_of_ok asked a =
      let on : Here → Does = λ b. Ask (Nodes b.left asked b.state) (λ c. Ret (record b { left = c.left; state = c.state })) in
      holds_then Post (Adds [] a) (finish given asked.level.source a) on
      (holds_more Post (Alike a) (λ b. Ok (Adds [] a) (on b)) (finish given asked.level.source a) (λ b e c q. alike_adds a b e) (finish_ok given asked.level.source a))

  opens_ok : (P : Here → Type 0) (at : Place) (source : Source) (go : Does) → Ok P go → Ok P (opens given at source go)
  opens_ok P at source go h =
      either_ok given P (nat_lt (sources_open source) given.limits.sources) go (Halt (fault_at run_code.TooManySources at)) h tt

  buffer_ok : (at : Place) (base : ℕ) (handed : List Bound) (o : Option ℕ) (self : Self) (a : Here) → Ok (Adds [] a) (buffer_nodes given at base handed o self a)
  buffer_ok at base handed None self a = alike_adds a a refl
  buffer_ok at base handed (Some id) self a =
      let st = begins_reading id a.state in
      let number = sources_open self.level.source + 1 in
      let ask = Ask (Nodes (all_of (forest (read_at st.buffers id))) (asked_of given at base handed (Opened None at number)) st) (λ b. Ret (with_state a (ends_reading id b.state))) in
      refused_ok given (Adds [] a) (busy_at a.state.buffers id) at (opens given at self.level.source ask)
      (opens_ok (Adds [] a) at self.level.source ask (λ b q. alike_adds a a refl))

  document_ok : (at : Place) (base : ℕ) (handed : List Bound) (name : List ℕ) (self : Self) (a : Here) (o : Option Forest) → Ok (Adds [] a) (document_nodes given at base handed name self a o)
  document_ok at base handed name self a None = tt
  document_ok at base handed name self a (Some tree) = λ b q. alike_adds a a refl

  writes_ok : (at : Place) (o : Option ℕ) (clear : Bool) (is : List Instr) (self : Self) (a : Here) → Ok (Adds [] a) (writes given at o clear is self a)
  writes_ok at None clear is self a = alike_adds a a refl
  writes_ok at (Some id) clear is self a =
      let on : Here → Does = λ b. unless_refused (unclosed_at b.state.buffers id) at (Ret (with_state b (ends_writing id b.state))) in
      refused_ok given (Adds [] a) (busy_at a.state.buffers id) at (Ask (Body is self (with_state a (begins_writing id clear a.state))) on)
      (λ b e. refused_ok given (Adds [] a) (unclosed_at b.state.buffers id) at (Ret (with_state b (ends_writing id b.state))) (alike_adds a b e))

  copied_ok : (at : Place) (attributes : Option Pattern) (is : List Instr) (self : Self) (a : Here) (n : Node) → Ok (Adds [] a) (copied given at attributes is self a n)
  copied_ok at attributes is self a Document = λ b e. alike_adds a b e
  copied_ok at attributes is self a (Element name attrs decls first) =
      put_around_ok at (start_parts self.trail name (passing attributes attrs)) is (part.End name ∷ []) self a
  copied_ok at attributes is self a (Chars text) = put_parts_ok at (copy_parts (Chars text)) a
  copied_ok at attributes is self a (CData text) = put_parts_ok at (copy_parts (CData text)) a
  copied_ok at attributes is self a (Comment text) = put_parts_ok at (copy_parts (Comment text)) a
  copied_ok at attributes is self a (Pi target text) = put_parts_ok at (copy_parts (Pi target text)) a
  copied_ok at attributes is self a (Attribute x) = put_parts_ok at (copy_parts (Attribute x)) a

  name_ok : (P : Here → Type 0) (at : Place) (o : Option Name) (go : Name → Does) → ((n : Name) → Ok P (go n)) → Ok P (elim o [ None ↦ Halt (fault_at run_code.BadName at) | Some n ↦ go n ])
  name_ok P at None go h = tt
  name_ok P at (Some n) go h = h n

  named_ok : (P : Here → Type 0) (at : Place) (is_element : Bool) (name : Avt) (namespace : Option Avt) (scope : List Binding) (self : Self) (a : Here) (go : Name → Does) → ((n : Name) → Ok P (go n)) → Ok P (named given at is_element name namespace scope self a go)
  named_ok P at is_element name namespace scope self a go h =
      let on : List ℕ → Option (List ℕ) → Does = λ text uri. elim (computed_name is_element scope uri text) [ None ↦ Halt (fault_at run_code.BadName at) | Some n ↦ go n ] in
      got_ok given P at (template_text name (setting given self a)) (λ text. got at (namespace_text namespace (setting given self a)) (on text))
      (λ text. got_ok given P at (namespace_text namespace (setting given self a)) (on text) (λ uri. name_ok P at (computed_name is_element scope uri text) go h))

  assigned_alike : (groups : List ℕ) (name : Name) (items : List Atom) (a : Here) → Alike a (assigned groups name items a)
  assigned_alike groups name items a = of_local (is_some (value_of name a.locals)) where
    of_local : (b : Bool) → Alike a (if b then record a { locals = with_value name items a.locals } else with_state a (record a.state { variables = assigned_in groups a.state.variables name items }))
    of_local true = changed_names name items a.locals
    of_local false = refl

  acts_ok : (x : Instr-F Instr When) (self : Self) (a : Here) → Ok (Adds (declared x) a) (acts given x self a)
  acts_ok (Instr-F.ValueOf select separator at) self a =
      let P = Adds [] a in
      let g = setting given self a in
      got_ok given P at (value select g) (λ items. got at (template_text_or space separator g) (λ between. got at (items_text g between items) (λ text. put_parts given at (text_parts text) a)))
      (λ items. got_ok given P at (template_text_or space separator g) (λ between. got at (items_text g between items) (λ text. put_parts given at (text_parts text) a))
      (λ between. got_ok given P at (items_text g between items) (λ text. put_parts given at (text_parts text) a)
      (λ text. put_parts_ok at (text_parts text) a)))
  acts_ok (Instr-F.Chars text at) self a = put_parts_ok at (text_parts text) a
  acts_ok (Instr-F.Copy attributes body at) self a = copied_ok at attributes body self a (current self.trail)
  acts_ok (Instr-F.Element name namespace scope body at) self a =
      let P = Adds [] a in
      named_ok P at true name namespace scope self a (λ n. put_around given at (part.Start n [] ∷ []) body (part.End n ∷ []) self a)
      (λ n. put_around_ok at (part.Start n [] ∷ []) body (part.End n ∷ []) self a)
  acts_ok (Instr-F.StartElement name namespace scope at) self a =
      let P = Adds [] a in
      named_ok P at true name namespace scope self a (λ n. put_parts given at (part.Start n [] ∷ []) a)
      (λ n. put_parts_ok at (part.Start n [] ∷ []) a)
  acts_ok (Instr-F.EndElement name namespace scope at) self a =
      let P = Adds [] a in
      named_ok P at true name namespace scope self a (λ n. put_parts given at (part.End n ∷ []) a)
      (λ n. put_parts_ok at (part.End n ∷ []) a)
  acts_ok (Instr-F.Attribute name namespace scope content at) self a =
      let P = Adds [] a in
      let g = setting given self a in
      let put : List ℕ → Name → Does = λ text n. put_parts given at (part.Attribute n text ∷ []) a in
      let on : List ℕ → Option (List ℕ) → List ℕ → Does = λ text uri content_is. elim (computed_name false scope uri text) [ None ↦ Halt (fault_at run_code.BadName at) | Some n ↦ put content_is n ] in
      got_ok given P at (template_text name g) (λ text. got at (namespace_text namespace g) (λ uri. got at (content_text content g) (on text uri)))
      (λ text. got_ok given P at (namespace_text namespace g) (λ uri. got at (content_text content g) (on text uri))
      (λ uri. got_ok given P at (content_text content g) (on text uri)
      (λ content_is. name_ok P at (computed_name false scope uri text) (put content_is) (λ n. put_parts_ok at (part.Attribute n content_is ∷ []) a))))
  acts_ok (Instr-F.Comment content at) self a =
      let P = Adds [] a in
      got_ok given P at (content_text content (setting given self a)) (λ text. put_parts given at (part.Comment text ∷ []) a)
      (λ text. put_parts_ok at (part.Comment text ∷ []) a)
  acts_ok (Instr-F.Pi name scope content at) self a =
      let P = Adds [] a in
      got_ok given P at (template_text name (setting given self a)) (λ target. got at (content_text content (setting given self a)) (λ text. put_parts given at (part.Pi target (without_space text) ∷ []) a))
      (λ target. got_ok given P at (content_text content (setting given self a)) (λ text. put_parts given at (part.Pi target (without_space text) ∷ []) a)
      (λ text. put_parts_ok at (part.Pi target (without_space text) ∷ []) a))
  acts_ok (Instr-F.Message content at) self a =
      let P = Adds [] a in
      got_ok given P at (content_text content (setting given self a)) (λ text. Say (Note text) (Ret a)) (λ text. alike_adds a a refl)
  acts_ok (Instr-F.If test body other at) self a =
      let P = Adds [] a in
      got_ok given P at (truth_of test (setting given self a)) (λ holds. Ask (Body (if holds then body else other) self a) Ret) (λ holds b e. alike_adds a b e)
  acts_ok (Instr-F.Choose whens other at) self a = choose_ok at whens other self a
  acts_ok (Instr-F.ForEachItem name select body at) self a =
      let P = Adds [] a in
      got_ok given P at (atoms_of select (setting given self a)) (λ items. turns given at name items body self a)
      (λ items. holds_more Post (λ b. names b.locals ≡ names a.locals) P (turns given at name items body self a) (λ b e. alike_adds a b e) (turns_ok a.locals at name items body self a refl))
  acts_ok (Instr-F.While test body at) self a = λ b e. alike_adds a b e
  acts_ok (Instr-F.Assign name select at) self a =
      let P = Adds [] a in
      got_ok given P at (atoms_of select (setting given self a)) (λ items. Ret (assigned (around given.sheet.groups self.group) name items a))
      (λ items. alike_adds a (assigned (around given.sheet.groups self.group) name items a) (assigned_alike (around given.sheet.groups self.group) name items a))
  acts_ok (Instr-F.CallProcedure name params at) self a =
      let P = Adds [] a in
      hands_ok given P at params self a (λ handed. calls given at handed (procedure_at given.sheet (procedure_seen given.sheet self.group name)) self a)
      (λ handed. calls_ok at handed (procedure_at given.sheet (procedure_seen given.sheet self.group name)) self a)
  acts_ok (Instr-F.ProcessChildren group params at) self a =
      let P = Adds [] a in
      let asked : List Bound → Asked = λ handed. asked_within given at (base_of given.sheet group self.group) handed self in
      let go : List Bound → Does = λ handed. if has_list (current self.trail) then children at (asked handed) a (λ b. Ret b) else Ret a in
      hands_ok given P at params self a go
      (λ handed. either_ok given P (has_list (current self.trail)) (children at (asked handed) a (λ b. Ret b)) (Ret a)
      (children_ok given P at (asked handed) a (λ b. Ret b) (λ b e. alike_adds a b e)) (alike_adds a a refl))
  acts_ok (Instr-F.ProcessAttributes group params at) self a =
      let P = Adds [] a in
      let asked : List Bound → Asked = λ handed. asked_within given at (base_of given.sheet group self.group) handed self in
      hands_ok given P at params self a (λ handed. attributes_of given (asked handed) (current self.trail) a)
      (λ handed. attributes_of_ok (asked handed) (current self.trail) a)
  acts_ok (Instr-F.ProcessSelf group params at) self a =
      let P = Adds [] a in
      hands_ok given P at params self a (λ handed. again given at (base_of given.sheet group self.group) handed self a)
      (λ handed. holds_more Post (Alike a) P (again given at (base_of given.sheet group self.group) handed self a) (λ b e. alike_adds a b e) (again_ok given at (base_of given.sheet group self.group) handed self a))
  acts_ok (Instr-F.ProcessSiblings going until group params at) self a =
      let P = Adds [] a in
      let asked : List Bound → Asked = λ handed. asked_beside given at (base_of given.sheet group self.group) handed (condition self.group going until) self in
      let go : List Bound → Does = λ handed. if has_siblings (current self.trail) then siblings_of given (asked handed) a else Ret a in
      hands_ok given P at params self a go
      (λ handed. either_ok given P (has_siblings (current self.trail)) (siblings_of given (asked handed) a) (Ret a) (siblings_of_ok (asked handed) a) (alike_adds a a refl))
  acts_ok (Instr-F.ProcessBuffer name group params at) self a =
      let P = Adds [] a in
      hands_ok given P at params self a (λ handed. buffer_nodes given at (base_of given.sheet group self.group) handed (buffer_seen given.sheet self.group name) self a)
      (λ handed. buffer_ok at (base_of given.sheet group self.group) handed (buffer_seen given.sheet self.group name) self a)
  acts_ok (Instr-F.ProcessDocument href group params at) self a =
      let P = Adds [] a in
      let base = base_of given.sheet group self.group in
      let go : List ℕ → List Bound → Does = λ name handed. opens given at self.level.source (Say (Open name) (document_nodes given at base handed name self a (given.documents name))) in
      got_ok given P at (template_text href (setting given self a)) (λ name. hands given at params self a (go name))
      (λ name. hands_ok given P at params self a (go name)
      (λ handed. opens_ok P at self.level.source (Say (Open name) (document_nodes given at base handed name self a (given.documents name))) (document_ok at base handed name self a (given.documents name))))
  acts_ok (Instr-F.ResultBuffer name clear body at) self a = writes_ok at (buffer_seen given.sheet self.group name) clear body self a
  acts_ok (Instr-F.Literal name attrs body at) self a =
      let P = Adds [] a in
      got_ok given P at (outcome.each (attribute_of (setting given self a)) attrs) (λ as_. put_around given at (part.Start name [] ∷ map attribute_part as_) body (part.End name ∷ []) self a)
      (λ as_. put_around_ok at (part.Start name [] ∷ map attribute_part as_) body (part.End name ∷ []) self a)
  acts_ok (Instr-F.LiteralChars text at) self a = put_parts_ok at (text_parts text) a
  acts_ok (Instr-F.Local name select at) self a =
      let P = Adds (name ∷ []) a in
      got_ok given P at (selected select (setting given self a)) (λ items. Ret (with_local name items a)) (λ items. sym (names_behind a.locals (record { name = name; value = items } ∷ [])))

  act_ok : (i : Instr) (self : Self) (a : Here) → Ok (Adds (declared (out-Instr i)) a) (act given i self a)
  act_ok i self a = acts_ok (out-Instr i) self a

  pub exec_ok : (i : Instr) (self : Self) (a : Here) → Ok (Adds (declared (out-Instr i)) a) (exec given i self a)
  exec_ok i self a = spend_ok given (Adds (declared (out-Instr i)) a) (place (out-Instr i)) a.state (λ st. act given i self (with_state a st)) (λ t. act_ok i self (with_state a t))

  body_ok : (ls : List Bound) (is : List Instr) (self : Self) (a : Here) → Grows ls a.locals → Ok (λ b. Grows ls b.locals) (body given is self a)
  body_ok ls [] self a g = g
  body_ok ls (i ∷ is) self a g =
      holds_then Post (λ b. Grows ls b.locals) (exec given i self a) (body given is self)
      (holds_more Post (Adds (declared (out-Instr i)) a) (λ b. Ok (λ c. Grows ls c.locals) (body given is self b)) (exec given i self a)
      (λ b m. body_ok ls is self b (grows_on ls a.locals b.locals g (declared (out-Instr i), m))) (exec_ok i self a))

  pub list_ok : (is : List Instr) (self : Self) (a : Here) → Ok (Alike a) (list given is self a)
  list_ok is self a =
      holds_then Post (Alike a) (body given is self a) (λ b. Ret (cut_to a.locals b))
      (holds_more Post (λ b. Grows a.locals b.locals) (λ b. Alike a (cut_to a.locals b)) (body given is self a)
      (λ b g. cut_names a.locals b.locals g) (body_ok a.locals is self a (same_grows a.locals a.locals refl)))

  loop_ok : (test : Expr) (is : List Instr) (at : Place) (self : Self) (a : Here) → Ok (Alike a) (loop given test is at self a)
  loop_ok test is at self a =
      let turn : State → Does = λ st. Ask (Body is self (with_state a st)) (λ b. Ask (Loop test is at self b) Ret) in
      got_ok given (Alike a) at (truth_of test (setting given self a)) _
      (λ holds. either_ok given (Alike a) holds _ (Ret a) (spend_ok given (Alike a) at a.state turn (λ t b e c q. q ∙ e)) refl)

  -- nothing is said of what a list of nodes leaves
  any : (x : Does) → Ok (λ b. Unit {0}) x
  any (Ret r) = tt
  any (Halt e) = tt
  any (Say o x) = any x
  any (Ask q k) = λ r p. any (k r)

  pub code_ok : (q : Job) → Ok (Post q) (code given q)
  code_ok (Nodes left asked st) = any (nodes given left.earlier left.coming asked st)
  code_ok (Body is self a) = list_ok is self a
  code_ok (Loop test is at self a) = loop_ok test is at self a

pub keeps_locals : KeepsLocals
keeps_locals given is self a b os g = result_meets Post (code given) (code_ok given) (Alike a) (list given is self a) os b (list_ok given is self a) g
