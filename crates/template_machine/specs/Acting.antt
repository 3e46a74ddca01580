-- What each instruction does.
use Rattle.sheet_model.specs.Groups.{around}
use Rattle.std.specs.Prelude.{ℕ, ◌+◌, nat_lt, Bool, true, false, if◌then◌else◌, List, [], ◌∷◌, ◌++◌, length, map, take, Option, Some, None, Result, Ok, is_some}
use Rattle.stx_base.specs.Character.{is_space}
use Rattle.stx_base.specs.Course.{Ret, Halt, Say, Ask, and_then}
use Rattle.stx_base.specs.declared.fault.Place.{Place}
use Rattle.stx_base.specs.declared.fault.RunCode.TheVariants as code
use Rattle.stx_base.specs.declared.name.Attr.{Attr}
use Rattle.stx_base.specs.declared.name.Binding.{Binding}
use Rattle.stx_base.specs.declared.name.Name.{Name}
use Rattle.stx_base.specs.declared.part.Part.{Part}
use Rattle.stx_base.specs.declared.part.Part.TheVariants as part
use Rattle.node_stack.specs.Path.{Node, Document, Element, Chars, CData, Comment, Pi, Attribute}
use Rattle.sheet_model.specs.declared.instr.Instr.{Instr, out-Instr}
use Rattle.sheet_model.specs.declared.instr.Instr.TheOpen.{Instr-F}
use Rattle.sheet_model.specs.declared.instr.LiteralAttr.{LiteralAttr}
use Rattle.sheet_model.specs.declared.instr.When.{When, out-When}
use Rattle.sheet_model.specs.declared.sheet.Procedure.{Procedure}
use Rattle.stxpath_eval.specs.Setting.{Setting}
use Rattle.stxpath_eval.specs.Value.{value}
use Rattle.stxpath_syntax.specs.declared.expr.Avt.{Avt}
use Rattle.stxpath_syntax.specs.declared.expr.Expr.{Expr}
use Rattle.stxpath_syntax.specs.declared.expr.Pattern.{Pattern}
use Rattle.stxpath_values.specs.Outcome as outcome
use Rattle.stxpath_values.specs.declared.fault.EvalFault.{EvalFault}
use Rattle.stxpath_values.specs.declared.value.Atom.{Atom}
use Rattle.xml_events.specs.Tree.{Forest}
use Rattle.event_buffers.specs.Buffers.{busy_at, is_read, is_written, on_buffer, on_first, on_newest, read_at, unclosed_at}
use Rattle.event_buffers.specs.Forest.{forest}
use Rattle.event_buffers.specs.Layer.{closed, opened_read, opened_write}
use Rattle.template_machine.specs.Declaring.{binds, hands}
use Rattle.template_machine.specs.Ending.{Note, Open, fault_at}
use Rattle.template_machine.specs.Finding.{base_of, buffer_seen, passing, procedure_at, procedure_seen}
use Rattle.template_machine.specs.Fuel.{spend}
use Rattle.template_machine.specs.Job.{Asked, Body, Condition, Does, Given, Here, Loop, Nodes, Self, Source, Opened, State, all_of, fresh, sources_open, with_state}
use Rattle.template_machine.specs.Passing.{again, attributes, back, children, finish, instance, start_parts}
use Rattle.template_machine.specs.Putting.{attribute_part, puts, text_parts, unless_refused}
use Rattle.template_machine.specs.Trail.{above, current, document}
use Rattle.template_machine.specs.Values.{atoms_of, computed_name, content_text, got, items_text, namespace_text, selected, setting, space, template_text, template_text_or, truth_of}
use Rattle.template_machine.specs.Variables.{assigned_in}
use Rattle.var_store.specs.Variables.{value_of, with_value}
use Rattle.var_store.specs.declared.bound.Bound.{Bound}
use Rattle.template_machine.specs.Lists.{rest_of}

-- Locals: of a list of instructions they last to its end.

abbrev pub with_local : Name → List Atom → Here → Here
with_local name value a = record a { locals = a.locals ++ record { name = name; value = value } ∷ [] }

-- only the first so many are left
abbrev pub cut_to : List Bound → Here → Here
cut_to before a = record a { locals = take (length before) a.locals }

-- an attribute's name with its value
abbrev pub attribute_of : Setting → LiteralAttr → Result Attr EvalFault
attribute_of g x = outcome.and_then (template_text x.value g) (λ text. Ok (record { name = x.name; value = text }))

-- white space at the beginning of a text is left out (XML 1.0, 2.6)
abbrev pub without_space : List ℕ → List ℕ
without_space [] = []
without_space (c ∷ cs) = if is_space c then without_space cs else c ∷ cs

-- what a copy of a node that has no children puts
abbrev pub copy_parts : Node → List Part
copy_parts (Chars text) = text_parts text
copy_parts (CData text) = part.CData text ∷ []
copy_parts (Comment text) = part.Comment text ∷ []
copy_parts (Pi target text) = part.Pi target text ∷ []
copy_parts (Attribute a) = attribute_part a ∷ []
copy_parts Document = []
copy_parts (Element name attrs decls first) = []

abbrev pub is_element : Node → Bool
is_element (Element name attrs decls first) = true
is_element n = false

-- a node that has a list of children
abbrev pub has_list : Node → Bool
has_list Document = true
has_list n = is_element n

-- a node that has siblings
abbrev pub has_siblings : Node → Bool
has_siblings Document = false
has_siblings (Attribute a) = false
has_siblings n = true

-- when the siblings of a region end that a body of a group opens
abbrev pub condition : (group : ℕ) → (going until : Option Pattern) → Condition
condition group going until = record { group = group; going = going; until = until }

-- another value of a local of this name, or else of the nearest group's variable
abbrev pub assigned : List ℕ → Name → List Atom → Here → Here
assigned around name value a =
    if is_some (value_of name a.locals)
    then record a { locals = with_value name value a.locals }
    else with_state a (record a.state { variables = assigned_in around a.state.variables name value })

-- a buffer is opened for writing, and parts go to it; and then they go where they went before
abbrev pub begins_writing : (id : ℕ) → (clear : Bool) → State → State
begins_writing id clear st =
    record st { buffers = on_buffer (on_newest (opened_write st.buffers.elements clear)) id st.buffers; targets = id ∷ st.targets }

abbrev pub ends_writing : (id : ℕ) → State → State
ends_writing id st = record st { buffers = on_buffer (on_first is_written closed) id st.buffers; targets = rest_of st.targets }

abbrev pub begins_reading : (id : ℕ) → State → State
begins_reading id st = record st { buffers = on_buffer (on_newest opened_read) id st.buffers }

abbrev pub ends_reading : (id : ℕ) → State → State
ends_reading id st = record st { buffers = on_buffer (on_first is_read closed) id st.buffers }

module _ (given : Given) where
  -- the current node's children, without conditions
  abbrev pub asked_within : Place → (base : ℕ) → List Bound → Self → Asked
  asked_within at base handed self =
      record { at = at; base = base; params = handed; level = fresh self.level.source; within = self.trail }

  -- the siblings that remain, with one more condition
  abbrev pub asked_beside : Place → (base : ℕ) → List Bound → Condition → Self → Asked
  asked_beside at base handed c self = record {
    at = at;
    base = base;
    params = handed;
    level = record self.level { conditions = c ∷ self.level.conditions };
    within = above self.trail;
  }

  -- the nodes of a source of their own, as children of a document node
  abbrev pub asked_of : Place → (base : ℕ) → List Bound → Source → Asked
  asked_of at base handed source =
      record { at = at; base = base; params = handed; level = fresh source; within = document ∷ [] }

  -- parts are put, and then the instruction is over
  abbrev pub put_parts : Place → List Part → Here → Does
  put_parts at parts a = puts given at parts a.state (λ st. Ret (with_state a st))

  -- parts, then what a list of instructions does, and then a part
  abbrev pub put_around : Place → List Part → List Instr → List Part → Self → Here → Does
  put_around at before body behind self a =
      puts given at before a.state (λ st.
      Ask (Body body self (with_state a st)) (λ b.
      puts given at behind b.state (λ st. Ret (with_state b st))))

  -- the name that an instruction computes; it has to be one
  abbrev pub named : Place → (is_element : Bool) → Avt → Option Avt → List Binding → Self → Here → (Name → Does) → Does
  named at is_element name namespace scope self a go =
      got at (template_text name (setting given self a)) (λ text.
      got at (namespace_text namespace (setting given self a)) (λ uri.
      elim (computed_name is_element scope uri text) [ None ↦ Halt (fault_at code.BadName at) | Some n ↦ go n ]))

  -- the first list whose test holds, or else the other one
  abbrev pub choose : Place → List When → (other : List Instr) → Self → Here → Does
  choose at [] other self a = Ask (Body other self a) Ret
  choose at (w ∷ ws) other self a =
      got at (truth_of (out-When w).test (setting given self a))
      (λ holds. if holds then Ask (Body (out-When w).body self a) Ret else choose at ws other self a)

  -- the turns of a loop over items, each for a unit
  abbrev pub turns : Place → Name → List Atom → List Instr → Self → Here → Does
  turns at name [] body self a = Ret a
  turns at name (x ∷ xs) body self a =
      spend at a.state (λ st.
      Ask (Body body self (with_local name (x ∷ []) (with_state a st)))
      (λ b. turns at name xs body self (cut_to a.locals b)))

  -- the turns of a loop with a test, each for a unit once the test held
  abbrev pub loop : Expr → List Instr → Place → Self → Here → Does
  loop test body at self a =
      got at (truth_of test (setting given self a)) (λ holds.
      if holds
      then spend at a.state (λ st. Ask (Body body self (with_state a st)) (λ b. Ask (Loop test body at self b) Ret))
      else Ret a)

  -- A copy of the current node: an element with some of its attributes and the list's parts, a document node's are the list's alone.
  abbrev pub copied : Place → Option Pattern → List Instr → Self → Here → Node → Does
  copied at attributes body self a Document = Ask (Body body self a) Ret
  copied at attributes body self a (Element name attrs decls first) =
      put_around at (start_parts self.trail name (passing attributes attrs)) body (part.End name ∷ []) self a
  copied at attributes body self a n = put_parts at (copy_parts n) a

  -- a procedure's body on the current node, with its parameters
  abbrev pub calls : Place → List Bound → Option Procedure → Self → Here → Does
  calls at handed None self a = Ret a
  calls at handed (Some p) self a =
      instance given at self.level (λ more.
      let callee = record self { group = p.group; level = more } in
      binds given p.params handed callee (record a { locals = [] }) (λ b.
      Ask (Body p.body callee b) (λ b. Ret (back a b.state b))))

  -- the attributes of an element, one after another
  abbrev pub attributes_of : Asked → Node → Here → Does
  attributes_of asked (Element name attrs decls first) a = attributes given [] attrs asked a.state (λ st. Ret (with_state a st))
  attributes_of asked n a = Ret a

  -- the siblings that remain, once the children are gone
  abbrev pub siblings_of : Asked → Here → Does
  siblings_of asked a =
      and_then (finish given asked.level.source a) (λ b.
      Ask (Nodes b.left asked b.state) (λ c. Ret (record b { left = c.left; state = c.state })))

  -- one more source, unless there are as many as may be
  abbrev pub opens : Place → Source → Does → Does
  opens at source go =
      if nat_lt (sources_open source) given.limits.sources then go else Halt (fault_at code.TooManySources at)

  -- the nodes of a buffer
  abbrev pub buffer_nodes : Place → (base : ℕ) → List Bound → Option ℕ → Self → Here → Does
  buffer_nodes at base handed None self a = Ret a
  buffer_nodes at base handed (Some id) self a =
      let st = begins_reading id a.state in
      unless_refused (busy_at a.state.buffers id) at
      (opens at self.level.source
      (Ask (Nodes (all_of (forest (read_at st.buffers id))) (asked_of at base handed (Opened None at (sources_open self.level.source + 1))) st)
      (λ b. Ret (with_state a (ends_reading id b.state)))))

  -- the nodes of another document
  abbrev pub document_nodes : Place → (base : ℕ) → List Bound → (name : List ℕ) → Self → Here → Option Forest → Does
  document_nodes at base handed name self a None = Halt (fault_at code.NoDocument at)
  document_nodes at base handed name self a (Some tree) =
      Ask (Nodes (all_of tree) (asked_of at base handed (Opened (Some name) at (sources_open self.level.source + 1))) a.state)
      (λ b. Ret (with_state a b.state))

  -- a list's parts go to a buffer
  abbrev pub writes : Place → Option ℕ → (clear : Bool) → List Instr → Self → Here → Does
  writes at None clear body self a = Ret a
  writes at (Some id) clear body self a =
      unless_refused (busy_at a.state.buffers id) at
      (Ask (Body body self (with_state a (begins_writing id clear a.state)))
      (λ b. unless_refused (unclosed_at b.state.buffers id) at (Ret (with_state b (ends_writing id b.state)))))

  -- An instruction, once its unit of fuel was spent: its expressions in the order of its attributes, those that hand values to
  -- parameters, and then what it does.
  abbrev pub acts : Instr-F Instr When → Self → Here → Does
  acts (Instr-F.ValueOf select separator at) self a =
      let g = setting given self a in
      got at (value select g) (λ items.
      got at (template_text_or space separator g) (λ between.
      got at (items_text g between items) (λ text. put_parts at (text_parts text) a)))
  acts (Instr-F.Chars text at) self a = put_parts at (text_parts text) a
  acts (Instr-F.Copy attributes body at) self a = copied at attributes body self a (current self.trail)
  acts (Instr-F.Element name namespace scope body at) self a =
      named at true name namespace scope self a (λ n. put_around at (part.Start n [] ∷ []) body (part.End n ∷ []) self a)
  acts (Instr-F.StartElement name namespace scope at) self a =
      named at true name namespace scope self a (λ n. put_parts at (part.Start n [] ∷ []) a)
  acts (Instr-F.EndElement name namespace scope at) self a =
      named at true name namespace scope self a (λ n. put_parts at (part.End n ∷ []) a)
  acts (Instr-F.Attribute name namespace scope content at) self a =
      let g = setting given self a in
      got at (template_text name g) (λ text.
      got at (namespace_text namespace g) (λ uri.
      got at (content_text content g) (λ content_is.
      elim (computed_name false scope uri text) [
        | None ↦ Halt (fault_at code.BadName at)
        | Some n ↦ put_parts at (part.Attribute n content_is ∷ []) a
      ])))
  acts (Instr-F.Comment content at) self a =
      got at (content_text content (setting given self a)) (λ text. put_parts at (part.Comment text ∷ []) a)
  acts (Instr-F.Pi name scope content at) self a =
      got at (template_text name (setting given self a)) (λ target.
      got at (content_text content (setting given self a)) (λ text. put_parts at (part.Pi target (without_space text) ∷ []) a))
  acts (Instr-F.Message content at) self a =
      got at (content_text content (setting given self a)) (λ text. Say (Note text) (Ret a))
  acts (Instr-F.If test body other at) self a =
      got at (truth_of test (setting given self a)) (λ holds. Ask (Body (if holds then body else other) self a) Ret)
  acts (Instr-F.Choose whens other at) self a = choose at whens other self a
  acts (Instr-F.ForEachItem name select body at) self a =
      got at (atoms_of select (setting given self a)) (λ items. turns at name items body self a)
  acts (Instr-F.While test body at) self a = Ask (Loop test body at self a) Ret
  acts (Instr-F.Assign name select at) self a =
      got at (atoms_of select (setting given self a)) (λ items. Ret (assigned (around given.sheet.groups self.group) name items a))
  acts (Instr-F.CallProcedure name params at) self a =
      hands given at params self a (λ handed. calls at handed (procedure_at given.sheet (procedure_seen given.sheet self.group name)) self a)
  acts (Instr-F.ProcessChildren group params at) self a =
      hands given at params self a (λ handed.
      if has_list (current self.trail)
      then children at (asked_within at (base_of given.sheet group self.group) handed self) a (λ b. Ret b)
      else Ret a)
  acts (Instr-F.ProcessAttributes group params at) self a =
      hands given at params self a (λ handed.
      attributes_of (asked_within at (base_of given.sheet group self.group) handed self) (current self.trail) a)
  acts (Instr-F.ProcessSelf group params at) self a =
      hands given at params self a (λ handed. again given at (base_of given.sheet group self.group) handed self a)
  acts (Instr-F.ProcessSiblings going until group params at) self a =
      hands given at params self a (λ handed.
      if has_siblings (current self.trail)
      then siblings_of (asked_beside at (base_of given.sheet group self.group) handed (condition self.group going until) self) a
      else Ret a)
  acts (Instr-F.ProcessBuffer name group params at) self a =
      hands given at params self a (λ handed.
      buffer_nodes at (base_of given.sheet group self.group) handed (buffer_seen given.sheet self.group name) self a)
  acts (Instr-F.ProcessDocument href group params at) self a =
      got at (template_text href (setting given self a)) (λ name.
      hands given at params self a (λ handed.
      opens at self.level.source (Say (Open name)
      (document_nodes at (base_of given.sheet group self.group) handed name self a (given.documents name)))))
  acts (Instr-F.ResultBuffer name clear body at) self a =
      writes at (buffer_seen given.sheet self.group name) clear body self a
  acts (Instr-F.Literal name attrs body at) self a =
      got at (outcome.each (attribute_of (setting given self a)) attrs) (λ as_.
      put_around at (part.Start name [] ∷ map attribute_part as_) body (part.End name ∷ []) self a)
  acts (Instr-F.LiteralChars text at) self a = put_parts at (text_parts text) a
  acts (Instr-F.Local name select at) self a =
      got at (selected select (setting given self a)) (λ items. Ret (with_local name items a))

  abbrev pub act : Instr → Self → Here → Does
  act i = acts (out-Instr i)
