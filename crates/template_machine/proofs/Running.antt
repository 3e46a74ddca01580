-- What instructions leave: no call has more than the instruction that makes it.
use Rattle.sheet_model.specs.Groups.{around}
use Rattle.std.proofs.Common.{◌≡◌, ℕ, ◌+◌, ◌<◌, ◌≤◌, nat_lt, Bool, true, false, List, [], ◌∷◌, Option, Some, None, is_some, refl, arith, if◌then◌else◌, map}
use Rattle.stx_base.specs.Course.{Ret, Halt, Say, Ask}
use Rattle.stx_base.proofs.Termination.{safe_then, safe_more}
use Rattle.stx_base.specs.declared.fault.Place.{Place}
use Rattle.stx_base.specs.declared.fault.RunCode.TheVariants as run_code
use Rattle.stx_base.specs.declared.name.Binding.{Binding}
use Rattle.stx_base.specs.declared.name.Name.{Name}
use Rattle.stx_base.specs.declared.part.Part.{Part}
use Rattle.stx_base.specs.declared.part.Part.TheVariants as part
use Rattle.node_stack.specs.Path.{Node, Document, Element, Chars, CData, Comment, Pi, Attribute}
use Rattle.sheet_model.specs.declared.instr.Instr.{Instr, out-Instr}
use Rattle.sheet_model.specs.declared.instr.Instr.TheOpen.{Instr-F}
use Rattle.sheet_model.specs.declared.instr.When.{When, out-When}
use Rattle.sheet_model.specs.declared.sheet.Procedure.{Procedure}
use Rattle.stxpath_eval.specs.Value.{value}
use Rattle.stxpath_syntax.specs.declared.expr.Avt.{Avt}
use Rattle.stxpath_syntax.specs.declared.expr.Pattern.{Pattern}
use Rattle.stxpath_values.specs.Outcome as outcome
use Rattle.stxpath_values.specs.declared.value.Atom.{Atom}
use Rattle.xml_events.specs.Tree.{Forest}
use Rattle.template_machine.specs.Acting.{acts, act, asked_beside, asked_of, asked_within, assigned, attribute_of, attributes_of, begins_reading, begins_writing, buffer_nodes, calls, choose, condition, copied, copy_parts, cut_to, document_nodes, ends_reading, ends_writing, has_list, has_siblings, named, opens, put_around, put_parts, siblings_of, turns, with_local, without_space, writes}
use Rattle.event_buffers.specs.Buffers.{busy_at, read_at, unclosed_at}
use Rattle.event_buffers.specs.Forest.{forest}
use Rattle.template_machine.specs.Declaring.{binds, hands}
use Rattle.template_machine.specs.Ending.{Note, Open, fault_at}
use Rattle.template_machine.specs.Finding.{base_of, buffer_seen, passing, procedure_at, procedure_seen}
use Rattle.template_machine.specs.Job.{Given, Source, Opened, Here, Self, Nodes, Body, Does, Level, Asked, all_of, with_state, sources_open}
use Rattle.template_machine.specs.Outcome.{AreNew}
use Rattle.template_machine.specs.Passing.{again, attributes, back, children, finish, start_parts}
use Rattle.template_machine.specs.Putting.{attribute_part, puts, text_parts, unless_refused}
use Rattle.template_machine.specs.Trail.{current}
use Rattle.template_machine.specs.Values.{atoms_of, computed_name, content_text, got, items_text, namespace_text, selected, setting, space, template_text, template_text_or, truth_of}
use Rattle.template_machine.specs.Variables.{assigned_in}
use Rattle.var_store.specs.Variables.{value_of, with_value}
use Rattle.var_store.specs.declared.bound.Bound.{Bound}
use Rattle.template_machine.proofs.Fresh.{forest_new, new_size}
use Rattle.template_machine.proofs.Total.{again_ok, attributes_ok, children_ok, finish_ok, instance_ok}
use Rattle.template_machine.proofs.Weighing.{amount, weight, Pre, Post, Left, Ok, full, got_ok, puts_ok, hands_ok, binds_ok, either_ok, spend_ok, refused_ok}

module _ (given : Given) where
  -- where a body stands, what it may use, and what it may leave
  module _ (w : ℕ) where
    put_parts_ok : (source : Source) (at : Place) (parts : List Part) (a : Here) → a.state.fuel ≤ full given → Ok given w (Left given source (amount given source a)) (put_parts given at parts a)
    put_parts_ok source at parts a f =
        puts_ok given w (Left given source (amount given source a)) at parts a.state (λ st. Ret (with_state a st)) (λ st e. (omega arith, omega arith))

    put_around_ok : (at : Place) (before : List Part) (body : List Instr) (behind : List Part) (self : Self) (a : Here) → a.state.fuel ≤ full given → amount given self.level.source a < w → Ok given w (Left given self.level.source (amount given self.level.source a)) (put_around given at before body behind self a)
    put_around_ok at before body behind self a f l =
        let P = Left given self.level.source (amount given self.level.source a) in
        puts_ok given w P at before a.state (λ st. Ask (Body body self (with_state a st)) (λ b. puts given at behind b.state (λ st. Ret (with_state b st))))
        (λ st e. (omega arith, omega arith, λ b r. puts_ok given w P at behind b.state (λ st. Ret (with_state b st)) (λ u g. (omega (arith, r.0, r.1), omega (arith, r.0, r.1)))))

    choose_ok : (at : Place) (ws : List When) (other : List Instr) (self : Self) (a : Here) → a.state.fuel ≤ full given → amount given self.level.source a < w → Ok given w (Left given self.level.source (amount given self.level.source a)) (choose given at ws other self a)
    choose_ok at [] other self a f l = (f, l, λ b r. r)
    choose_ok at (x ∷ xs) other self a f l =
        let P = Left given self.level.source (amount given self.level.source a) in
        let go : Bool → Does = λ holds. if holds then Ask (Body (out-When x).body self a) Ret else choose given at xs other self a in
        got_ok given w P at (truth_of (out-When x).test (setting given self a)) go
        (λ b. either_ok given w P b (Ask (Body (out-When x).body self a) Ret) (choose given at xs other self a) (f, l, λ c r. r) (choose_ok at xs other self a f l))

    turns_ok : (n : ℕ) (at : Place) (name : Name) (xs : List Atom) (body : List Instr) (self : Self) (a : Here) → a.state.fuel ≤ full given → amount given self.level.source a ≤ n → n < w → Ok given w (Left given self.level.source n) (turns given at name xs body self a)
    turns_ok n at name [] body self a f l m = (l, f)
    turns_ok n at name (x ∷ xs) body self a f l m =
        let P = Left given self.level.source n in
        let behind : Here → Does = λ b. turns given at name xs body self (cut_to a.locals b) in
        spend_ok given w P at a.state (λ st. Ask (Body body self (with_local name (x ∷ []) (with_state a st))) behind)
        (λ st e. (omega arith, omega arith, λ b r. turns_ok n at name xs body self (cut_to a.locals b) r.1 (omega (arith, r.0)) m))

    calls_ok : (at : Place) (handed : List Bound) (p : Option Procedure) (self : Self) (a : Here) → a.state.fuel ≤ full given → amount given self.level.source a < w → Ok given w (Left given self.level.source (amount given self.level.source a)) (calls given at handed p self a)
    calls_ok at handed None self a f l = (omega arith, f)
    calls_ok at handed (Some p) self a f l =
        let P = Left given self.level.source (amount given self.level.source a) in
        let callee : Level → Self = λ more. record self { group = p.group; level = more } in
        let enter : Level → Does = λ more. binds given p.params handed (callee more) (record a { locals = [] }) (λ b. Ask (Body p.body (callee more) b) (λ b. Ret (back a b.state b))) in
        instance_ok given w P at self.level enter
        (λ n. let more = record self.level { instances = n } in
        binds_ok given w P p.params handed (callee more) (record a { locals = [] }) (λ b. Ask (Body p.body (callee more) b) (λ b. Ret (back a b.state b)))
        (λ ls. (f, l, λ b r. r)))

    attributes_of_ok : (source : Source) (asked : Asked) (n : Node) (a : Here) → a.state.fuel ≤ full given → amount given source a < w → Ok given w (Left given source (amount given source a)) (attributes_of given asked n a)
    attributes_of_ok source asked (Element name attrs decls first) a f l =
        attributes_ok given w (Left given source (amount given source a)) [] attrs asked a.state (λ st. Ret (with_state a st)) f (omega arith) (λ t m. (omega arith, omega arith))
    attributes_of_ok source asked Document a f l = (omega arith, f)
    attributes_of_ok source asked (Chars text) a f l = (omega arith, f)
    attributes_of_ok source asked (CData text) a f l = (omega arith, f)
    attributes_of_ok source asked (Comment text) a f l = (omega arith, f)
    attributes_of_ok source asked (Pi target text) a f l = (omega arith, f)
    attributes_of_ok source asked (Attribute x) a f l = (omega arith, f)

    siblings_of_ok : (asked : Asked) (a : Here) → a.state.fuel ≤ full given → amount given asked.level.source a < w → Ok given w (Left given asked.level.source (amount given asked.level.source a)) (siblings_of given asked a)
    siblings_of_ok asked a f l =
        let source = asked.level.source in
        let P = Left given source (amount given source a) in
        let on : Here → Does = λ b. Ask (Nodes b.left asked b.state) (λ c. Ret (record b { left = c.left; state = c.state })) in
        safe_then (weight given) (Pre given) (Post given) w P (finish given source a) on
        (safe_more (weight given) (Pre given) (Post given) w w (Left given source (amount given source a)) (λ b. Ok given w P (on b)) (finish given source a) (omega arith)
        (λ b r. (r.1, omega (arith, r.0), λ c q. (omega (arith, q.0, r.0), q.1))) (finish_ok given w source a f))

    opens_ok : (P : Here → Type 0) (at : Place) (source : Source) (go : Does) → Ok given w P go → Ok given w P (opens given at source go)
    opens_ok P at source go h =
        either_ok given w P (nat_lt (sources_open source) given.limits.sources) go (Halt (fault_at run_code.TooManySources at)) h tt

    buffer_ok : (at : Place) (base : ℕ) (handed : List Bound) (o : Option ℕ) (self : Self) (a : Here) → a.state.fuel ≤ full given → amount given self.level.source a < w → Ok given w (Left given self.level.source (amount given self.level.source a)) (buffer_nodes given at base handed o self a)
    buffer_ok at base handed None self a f l = (omega arith, f)
    buffer_ok at base handed (Some id) self a f l =
        let P = Left given self.level.source (amount given self.level.source a) in
        let st = begins_reading id a.state in
        let kept = read_at st.buffers id in
        let number = sources_open self.level.source + 1 in
        let none = new_size (full given) None at number (forest kept) (forest_new kept) in
        let ask = Ask (Nodes (all_of (forest kept)) (asked_of given at base handed (Opened None at number)) st) (λ b. Ret (with_state a (ends_reading id b.state))) in
        refused_ok given w P (busy_at a.state.buffers id) at (opens given at self.level.source ask)
        (opens_ok P at self.level.source ask (f, omega (arith, none), λ b r. (omega (arith, r.0, none), r.1)))

    writes_ok : (at : Place) (o : Option ℕ) (clear : Bool) (body : List Instr) (self : Self) (a : Here) → a.state.fuel ≤ full given → amount given self.level.source a < w → Ok given w (Left given self.level.source (amount given self.level.source a)) (writes given at o clear body self a)
    writes_ok at None clear body self a f l = (omega arith, f)
    writes_ok at (Some id) clear body self a f l =
        let P = Left given self.level.source (amount given self.level.source a) in
        let on : Here → Does = λ b. unless_refused (unclosed_at b.state.buffers id) at (Ret (with_state b (ends_writing id b.state))) in
        refused_ok given w P (busy_at a.state.buffers id) at (Ask (Body body self (with_state a (begins_writing id clear a.state))) on)
        (f, l, λ b r. refused_ok given w P (unclosed_at b.state.buffers id) at (Ret (with_state b (ends_writing id b.state))) r)

    copied_ok : (at : Place) (attributes : Option Pattern) (body : List Instr) (self : Self) (a : Here) (n : Node) → a.state.fuel ≤ full given → amount given self.level.source a < w → Ok given w (Left given self.level.source (amount given self.level.source a)) (copied given at attributes body self a n)
    copied_ok at attributes body self a Document f l = (f, l, λ b r. r)
    copied_ok at attributes body self a (Element name attrs decls first) f l =
        put_around_ok at (start_parts self.trail name (passing attributes attrs)) body (part.End name ∷ []) self a f l
    copied_ok at attributes body self a (Chars text) f l = put_parts_ok self.level.source at (copy_parts (Chars text)) a f
    copied_ok at attributes body self a (CData text) f l = put_parts_ok self.level.source at (copy_parts (CData text)) a f
    copied_ok at attributes body self a (Comment text) f l = put_parts_ok self.level.source at (copy_parts (Comment text)) a f
    copied_ok at attributes body self a (Pi target text) f l = put_parts_ok self.level.source at (copy_parts (Pi target text)) a f
    copied_ok at attributes body self a (Attribute x) f l = put_parts_ok self.level.source at (copy_parts (Attribute x)) a f

    name_ok : (P : Here → Type 0) (at : Place) (o : Option Name) (go : Name → Does) → ((n : Name) → Ok given w P (go n)) → Ok given w P (elim o [ None ↦ Halt (fault_at run_code.BadName at) | Some n ↦ go n ])
    name_ok P at None go h = tt
    name_ok P at (Some n) go h = h n

    named_ok : (P : Here → Type 0) (at : Place) (is_element : Bool) (name : Avt) (namespace : Option Avt) (scope : List Binding) (self : Self) (a : Here) (go : Name → Does) → ((n : Name) → Ok given w P (go n)) → Ok given w P (named given at is_element name namespace scope self a go)
    named_ok P at is_element name namespace scope self a go h =
        let on : List ℕ → Option (List ℕ) → Does = λ text uri. elim (computed_name is_element scope uri text) [ None ↦ Halt (fault_at run_code.BadName at) | Some n ↦ go n ] in
        got_ok given w P at (template_text name (setting given self a)) (λ text. got at (namespace_text namespace (setting given self a)) (on text))
        (λ text. got_ok given w P at (namespace_text namespace (setting given self a)) (on text) (λ uri. name_ok P at (computed_name is_element scope uri text) go h))

    assigned_fits : (groups : List ℕ) (name : Name) (items : List Atom) (source : Source) (a : Here) → a.state.fuel ≤ full given → Left given source (amount given source a) (assigned groups name items a)
    assigned_fits groups name items source a f = of_local (is_some (value_of name a.locals)) where
      of_local : (b : Bool) → Left given source (amount given source a) (if b then record a { locals = with_value name items a.locals } else with_state a (record a.state { variables = assigned_in groups a.state.variables name items }))
      of_local true = (omega arith, f)
      of_local false = (omega arith, f)

    module _ (new : AreNew given) where
      document_ok : (at : Place) (base : ℕ) (handed : List Bound) (name : List ℕ) (self : Self) (a : Here) (o : Option Forest) → given.documents name ≡ o → a.state.fuel ≤ full given → amount given self.level.source a < w → Ok given w (Left given self.level.source (amount given self.level.source a)) (document_nodes given at base handed name self a o)
      document_ok at base handed name self a None e f l = tt
      document_ok at base handed name self a (Some tree) e f l =
          let none = new_size (full given) (Some name) at (sources_open self.level.source + 1) tree (new name tree e) in
          (f, omega (arith, none), λ b r. (omega (arith, r.0, none), r.1))

      -- each instruction, once its unit was spent
      acts_ok : (i : Instr-F Instr When) (self : Self) (a : Here) → a.state.fuel ≤ full given → amount given self.level.source a < w → Ok given w (Left given self.level.source (amount given self.level.source a)) (acts given i self a)
      acts_ok (Instr-F.ValueOf select separator at) self a f l =
          let P = Left given self.level.source (amount given self.level.source a) in
          let g = setting given self a in
          got_ok given w P at (value select g) (λ items. got at (template_text_or space separator g) (λ between. got at (items_text g between items) (λ text. put_parts given at (text_parts text) a)))
          (λ items. got_ok given w P at (template_text_or space separator g) (λ between. got at (items_text g between items) (λ text. put_parts given at (text_parts text) a))
          (λ between. got_ok given w P at (items_text g between items) (λ text. put_parts given at (text_parts text) a)
          (λ text. put_parts_ok self.level.source at (text_parts text) a f)))
      acts_ok (Instr-F.Chars text at) self a f l = put_parts_ok self.level.source at (text_parts text) a f
      acts_ok (Instr-F.Copy attributes body at) self a f l = copied_ok at attributes body self a (current self.trail) f l
      acts_ok (Instr-F.Element name namespace scope body at) self a f l =
          let P = Left given self.level.source (amount given self.level.source a) in
          named_ok P at true name namespace scope self a (λ n. put_around given at (part.Start n [] ∷ []) body (part.End n ∷ []) self a)
          (λ n. put_around_ok at (part.Start n [] ∷ []) body (part.End n ∷ []) self a f l)
      acts_ok (Instr-F.StartElement name namespace scope at) self a f l =
          let P = Left given self.level.source (amount given self.level.source a) in
          named_ok P at true name namespace scope self a (λ n. put_parts given at (part.Start n [] ∷ []) a)
          (λ n. put_parts_ok self.level.source at (part.Start n [] ∷ []) a f)
      acts_ok (Instr-F.EndElement name namespace scope at) self a f l =
          let P = Left given self.level.source (amount given self.level.source a) in
          named_ok P at true name namespace scope self a (λ n. put_parts given at (part.End n ∷ []) a)
          (λ n. put_parts_ok self.level.source at (part.End n ∷ []) a f)
      acts_ok (Instr-F.Attribute name namespace scope content at) self a f l =
          let P = Left given self.level.source (amount given self.level.source a) in
          let g = setting given self a in
          let put : List ℕ → Name → Does = λ text n. put_parts given at (part.Attribute n text ∷ []) a in
          let on : List ℕ → Option (List ℕ) → List ℕ → Does = λ text uri content_is. elim (computed_name false scope uri text) [ None ↦ Halt (fault_at run_code.BadName at) | Some n ↦ put content_is n ] in
          got_ok given w P at (template_text name g) (λ text. got at (namespace_text namespace g) (λ uri. got at (content_text content g) (on text uri)))
          (λ text. got_ok given w P at (namespace_text namespace g) (λ uri. got at (content_text content g) (on text uri))
          (λ uri. got_ok given w P at (content_text content g) (on text uri)
          (λ content_is. name_ok P at (computed_name false scope uri text) (put content_is) (λ n. put_parts_ok self.level.source at (part.Attribute n content_is ∷ []) a f))))
      acts_ok (Instr-F.Comment content at) self a f l =
          let P = Left given self.level.source (amount given self.level.source a) in
          got_ok given w P at (content_text content (setting given self a)) (λ text. put_parts given at (part.Comment text ∷ []) a)
          (λ text. put_parts_ok self.level.source at (part.Comment text ∷ []) a f)
      acts_ok (Instr-F.Pi name scope content at) self a f l =
          let P = Left given self.level.source (amount given self.level.source a) in
          got_ok given w P at (template_text name (setting given self a)) (λ target. got at (content_text content (setting given self a)) (λ text. put_parts given at (part.Pi target (without_space text) ∷ []) a))
          (λ target. got_ok given w P at (content_text content (setting given self a)) (λ text. put_parts given at (part.Pi target (without_space text) ∷ []) a)
          (λ text. put_parts_ok self.level.source at (part.Pi target (without_space text) ∷ []) a f))
      acts_ok (Instr-F.Message content at) self a f l =
          let P = Left given self.level.source (amount given self.level.source a) in
          got_ok given w P at (content_text content (setting given self a)) (λ text. Say (Note text) (Ret a)) (λ text. (omega arith, f))
      acts_ok (Instr-F.If test body other at) self a f l =
          let P = Left given self.level.source (amount given self.level.source a) in
          got_ok given w P at (truth_of test (setting given self a)) (λ holds. Ask (Body (if holds then body else other) self a) Ret) (λ holds. (f, l, λ b r. r))
      acts_ok (Instr-F.Choose whens other at) self a f l = choose_ok at whens other self a f l
      acts_ok (Instr-F.ForEachItem name select body at) self a f l =
          let P = Left given self.level.source (amount given self.level.source a) in
          got_ok given w P at (atoms_of select (setting given self a)) (λ items. turns given at name items body self a)
          (λ items. turns_ok (amount given self.level.source a) at name items body self a f (omega arith) l)
      acts_ok (Instr-F.While test body at) self a f l = (f, l, λ b r. r)
      acts_ok (Instr-F.Assign name select at) self a f l =
          let P = Left given self.level.source (amount given self.level.source a) in
          got_ok given w P at (atoms_of select (setting given self a)) (λ items. Ret (assigned (around given.sheet.groups self.group) name items a))
          (λ items. assigned_fits (around given.sheet.groups self.group) name items self.level.source a f)
      acts_ok (Instr-F.CallProcedure name params at) self a f l =
          let P = Left given self.level.source (amount given self.level.source a) in
          hands_ok given w P at params self a (λ handed. calls given at handed (procedure_at given.sheet (procedure_seen given.sheet self.group name)) self a)
          (λ handed. calls_ok at handed (procedure_at given.sheet (procedure_seen given.sheet self.group name)) self a f l)
      acts_ok (Instr-F.ProcessChildren group params at) self a f l =
          let P = Left given self.level.source (amount given self.level.source a) in
          let asked : List Bound → Asked = λ handed. asked_within given at (base_of given.sheet group self.group) handed self in
          let go : List Bound → Does = λ handed. if has_list (current self.trail) then children at (asked handed) a (λ b. Ret b) else Ret a in
          hands_ok given w P at params self a go
          (λ handed. either_ok given w P (has_list (current self.trail)) (children at (asked handed) a (λ b. Ret b)) (Ret a)
          (children_ok given w P at (asked handed) a (λ b. Ret b) f l (λ b r. r)) (omega arith, f))
      acts_ok (Instr-F.ProcessAttributes group params at) self a f l =
          let P = Left given self.level.source (amount given self.level.source a) in
          let asked : List Bound → Asked = λ handed. asked_within given at (base_of given.sheet group self.group) handed self in
          hands_ok given w P at params self a (λ handed. attributes_of given (asked handed) (current self.trail) a)
          (λ handed. attributes_of_ok self.level.source (asked handed) (current self.trail) a f l)
      acts_ok (Instr-F.ProcessSelf group params at) self a f l =
          let P = Left given self.level.source (amount given self.level.source a) in
          hands_ok given w P at params self a (λ handed. again given at (base_of given.sheet group self.group) handed self a)
          (λ handed. again_ok given w at (base_of given.sheet group self.group) handed self a f l)
      acts_ok (Instr-F.ProcessSiblings going until group params at) self a f l =
          let P = Left given self.level.source (amount given self.level.source a) in
          let asked : List Bound → Asked = λ handed. asked_beside given at (base_of given.sheet group self.group) handed (condition self.group going until) self in
          let go : List Bound → Does = λ handed. if has_siblings (current self.trail) then siblings_of given (asked handed) a else Ret a in
          hands_ok given w P at params self a go
          (λ handed. either_ok given w P (has_siblings (current self.trail)) (siblings_of given (asked handed) a) (Ret a) (siblings_of_ok (asked handed) a f l) (omega arith, f))
      acts_ok (Instr-F.ProcessBuffer name group params at) self a f l =
          let P = Left given self.level.source (amount given self.level.source a) in
          hands_ok given w P at params self a (λ handed. buffer_nodes given at (base_of given.sheet group self.group) handed (buffer_seen given.sheet self.group name) self a)
          (λ handed. buffer_ok at (base_of given.sheet group self.group) handed (buffer_seen given.sheet self.group name) self a f l)
      acts_ok (Instr-F.ProcessDocument href group params at) self a f l =
          let P = Left given self.level.source (amount given self.level.source a) in
          let base = base_of given.sheet group self.group in
          let go : List ℕ → List Bound → Does = λ name handed. opens given at self.level.source (Say (Open name) (document_nodes given at base handed name self a (given.documents name))) in
          got_ok given w P at (template_text href (setting given self a)) (λ name. hands given at params self a (go name))
          (λ name. hands_ok given w P at params self a (go name)
          (λ handed. opens_ok P at self.level.source (Say (Open name) (document_nodes given at base handed name self a (given.documents name))) (document_ok at base handed name self a (given.documents name) refl f l)))
      acts_ok (Instr-F.ResultBuffer name clear body at) self a f l = writes_ok at (buffer_seen given.sheet self.group name) clear body self a f l
      acts_ok (Instr-F.Literal name attrs body at) self a f l =
          let P = Left given self.level.source (amount given self.level.source a) in
          got_ok given w P at (outcome.each (attribute_of (setting given self a)) attrs) (λ as_. put_around given at (part.Start name [] ∷ map attribute_part as_) body (part.End name ∷ []) self a)
          (λ as_. put_around_ok at (part.Start name [] ∷ map attribute_part as_) body (part.End name ∷ []) self a f l)
      acts_ok (Instr-F.LiteralChars text at) self a f l = put_parts_ok self.level.source at (text_parts text) a f
      acts_ok (Instr-F.Local name select at) self a f l =
          let P = Left given self.level.source (amount given self.level.source a) in
          got_ok given w P at (selected select (setting given self a)) (λ items. Ret (with_local name items a)) (λ items. (omega arith, f))

      pub act_ok : (i : Instr) (self : Self) (a : Here) → a.state.fuel ≤ full given → amount given self.level.source a < w → Ok given w (Left given self.level.source (amount given self.level.source a)) (act given i self a)
      act_ok i self a f l = acts_ok (out-Instr i) self a f l
