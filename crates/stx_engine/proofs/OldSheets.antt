-- What a sheet is whose files are of version 1.0: it passes through nothing, texts or all, its buffers hold no CDATA sections, and it
-- recognises none in documents.
use Rattle.std.proofs.Common.{◌≡◌, ℕ, zero, suc, ◌+◌, ◌-◌, ◌==◌, Bool, true, false, not, ◌&&◌, if◌then◌else◌, List, [], ◌∷◌, ◌++◌, length, map, slice_get, Option, Some, None, Ok as Fits, Err, codes, bytes_eq, refl, sym, ap, subst, ◌∙◌}
use Rattle.std.specs.List.{list_all}
use Rattle.std.specs.Option.{option_map, option_map_or}
use Rattle.stx_base.specs.Character.{is_space}
use Rattle.stx_base.specs.Course.{Ret, Halt, Say, Ask, and_then, Answer, Given, Over, Unknown}
use Rattle.stx_base.specs.declared.fault.Place.{Place}
use Rattle.stx_base.specs.declared.fault.SheetCode.{SheetCode}
use Rattle.stx_base.specs.declared.fault.SheetCode.TheVariants as code
use Rattle.stx_base.specs.declared.limits.Limits.{Limits}
use Rattle.stx_base.specs.declared.name.Attr.{Attr}
use Rattle.stx_base.specs.declared.name.Binding.{Binding}
use Rattle.stx_base.specs.declared.part.Part.{Part}
use Rattle.stx_base.specs.declared.part.Part.TheVariants as part
use Rattle.sheet_model.specs.declared.pass.Pass.{Pass}
use Rattle.sheet_model.specs.declared.pass.Pass.TheVariants as pass
use Rattle.sheet_model.specs.declared.sheet.Buffer.{Buffer}
use Rattle.sheet_model.specs.declared.sheet.Group.{Group}
use Rattle.sheet_model.specs.declared.sheet.Sheet.{Sheet}
use Rattle.xml_events.specs.Tree.{Why, Need, Bad, Stage, Waiting, Ready, Entered, Element, Forest, End, Cut, Single, Nested, Chars, CData, Comment, Pi}
use Rattle.sheet_loader.specs.Attributes.{Form, Word, Version, Passing, Priority, Named, Expression, Patterned, Tests, Template_of_value, Any, Row, rows}
use Rattle.sheet_loader.specs.Elements as element
use Rattle.sheet_loader.specs.Elements.{Kind, Inside, Document, Declarations, Start_of_body, Body, Branches, With_params, Characters, Parts, Nothing, allows_literals, allows_text, is_buffer, is_include, is_own, keeps_space, kind_named, lookup, makes_group}
use Rattle.sheet_loader.specs.Files.{Documents, Opened, by_answer, by_ending, file_of, first_bytes, load_from, nodes_within, old_load, share, with_file}
use Rattle.sheet_loader.specs.Judging.{fault_of, is_declared_here, is_stx, is_transform_named, scope_at, value_found, values, values_found}
use Rattle.sheet_loader.specs.Load.{outcome, sheet_of, sizes, whole}
use Rattle.sheet_loader.specs.Making.{Values, as_word, branches, is_yes, item, parts, parts_of_item, pass_or, value_at}
use Rattle.sheet_loader.specs.Read.{attribute_part, begun, buffer_at, buffers_made, closed, code_of_job, copied, element_of, element_parts, ended, file_given, good, in_file, included, inner_group, is_choose, judged, known, listed, literal, literal_judged, made, nodes, templates, text_item, text_of, when_known, with_group, with_root, within}
use Rattle.sheet_loader.specs.Reading.{Context, Does, Ending, File, Instruction, Item, Job, Listed, Loading, Nodes, Refused, Wants, Unfinished, Text, An_if, An_else, A_local, A_branch, An_otherwise, A_param, A_value, A_part, cut, ends_at, place, refused}
use Rattle.sheet_loader.specs.References.{Reference, first_lost}
use Rattle.sheet_loader.specs.Referring.{references}
use Rattle.sheet_loader.specs.Tags.{Found, found_at, found_by, path_fault, text_at}
use Rattle.sheet_loader.specs.Values.{Reads, Value, A_word, A_pass, A_priority, A_name, An_expression, A_pattern, A_template, are_tests, is_one_of, name_in, pass_by, pass_in, plain_pass, priority_of, read, read_tests, some_value, value_of}
use Rattle.sheet_loader.specs.Versions.{old_language, root_attrs, version_by, version_by_root, version_named, version_of}
use Rattle.template_machine.specs.Unchanged.{is_old, is_old_part}
use Rattle.template_machine.proofs.Holding.{Holds, holds_then, holds_more, result_meets}

-- Values.

abbrev OldValue : Value → Type 0
OldValue (A_pass p) = is_old p ≡ true
OldValue v = Unit {0}

abbrev OldValues : Values → Type 0
OldValues [] = Unit {0}
OldValues (v ∷ vs) = OldValue v.1 × OldValues vs

abbrev OldSome : Option Value → Type 0
OldSome None = Unit {0}
OldSome (Some v) = OldValue v

abbrev OldFound : Found → Type 0
OldFound None = Unit {0}
OldFound (Some (Fits v)) = OldValue v
OldFound (Some (Err why)) = Unit {0}

abbrev OldPass : Option Pass → Type 0
OldPass None = Unit {0}
OldPass (Some p) = is_old p ≡ true

old_plain : (text : List ℕ) → OldPass (plain_pass text)
old_plain text = first (bytes_eq text (codes "none")) (bytes_eq text (codes "text")) (bytes_eq text (codes "all")) where
  first : (a b c : Bool) → OldPass (if a then Some pass.None else if b then Some pass.Chars else if c then Some pass.All else None)
  first true b c = refl
  first false true c = refl
  first false false true = refl
  first false false false = tt

old_pass_text : (text : List ℕ) → OldFound (Some (some_value A_pass (pass_in old_language.newest text)))
old_pass_text text = of_plain (plain_pass text) (old_plain text) where
  of_plain : (o : Option Pass) → OldPass o → OldFound (Some (some_value A_pass (pass_by old_language.newest o text)))
  of_plain None h = tt
  of_plain (Some p) h = h

old_some : {A : Type 0} (made : A → Value) → ((x : A) → OldValue (made x)) → (o : Option A) → OldFound (Some (some_value made o))
old_some made h None = tt
old_some made h (Some x) = h x

old_tests : (b : Bool) (v : Value) → OldValue v → OldFound (Some (if b then Fits v else Err code.BadValue))
old_tests true v h = h
old_tests false v h = tt

old_word : (b : Bool) (text : List ℕ) → OldFound (Some (if b then Fits (A_word text) else Err code.BadValue))
old_word true text = tt
old_word false text = tt

old_of_form : (reads : Reads) (scope : List Binding) (form : Form) (text : List ℕ) → OldFound (Some (value_of reads old_language.newest scope form text))
old_of_form reads scope (Word words) text = old_word (is_one_of words text) text
old_of_form reads scope Version text = tt
old_of_form reads scope Passing text = old_pass_text text
old_of_form reads scope Priority text = old_some A_priority (λ x. tt) (priority_of text)
old_of_form reads scope Named text = old_some A_name (λ x. tt) (name_in scope text)
old_of_form reads scope Expression text =
    elim (reads.expression old_language.newest scope text) as (λ r. OldFound (Some (read An_expression r))) [ Fits x ↦ tt | Err fault ↦ tt ]
old_of_form reads scope Patterned text =
    elim (reads.pattern old_language.newest scope text) as (λ r. OldFound (Some (read A_pattern r))) [ Fits x ↦ tt | Err fault ↦ tt ]
old_of_form reads scope Tests text =
    elim (reads.pattern old_language.newest scope text) as (λ r. OldFound (Some (read_tests r))) [ Fits x ↦ old_tests (list_all are_tests x) (A_pattern x) tt | Err fault ↦ tt ]
old_of_form reads scope Template_of_value text =
    elim (reads.template old_language.newest scope text) as (λ r. OldFound (Some (read A_template r))) [ Fits x ↦ tt | Err fault ↦ tt ]
old_of_form reads scope Any text = tt

old_by : (reads : Reads) (scope : List Binding) (form : Form) (o : Option (List ℕ)) → OldFound (found_by reads old_language.newest scope form o)
old_by reads scope form None = tt
old_by reads scope form (Some text) = old_of_form reads scope form text

old_join : (vs ws : Values) → OldValues vs → OldValues ws → OldValues (vs ++ ws)
old_join [] ws h k = k
old_join (v ∷ vs) ws h k = (h.0, old_join vs ws h.1 k)

old_one : (row : Row) (f : Found) → OldFound f → OldValues (value_found row f)
old_one row None h = tt
old_one row (Some (Fits v)) h = (h, tt)
old_one row (Some (Err why)) h = tt

old_values : (reads : Reads) (scope : List Binding) (attrs : List Attr) (rs : List Row) → OldValues (values_found rs (found_at reads old_language.newest scope rs attrs))
old_values reads scope attrs [] = tt
old_values reads scope attrs (row ∷ rs) =
    old_join (value_found row (found_by reads old_language.newest scope row.form (text_at attrs row.name))) (values_found rs (found_at reads old_language.newest scope rs attrs))
    (old_one row (found_by reads old_language.newest scope row.form (text_at attrs row.name)) (old_by reads scope row.form (text_at attrs row.name)))
    (old_values reads scope attrs rs)

old_at : (name : List ℕ) (vs : Values) → OldValues vs → OldSome (value_at name vs)
old_at name [] h = tt
old_at name (v ∷ vs) h = one (bytes_eq v.0 name) (old_at name vs h.1) where
  one : (b : Bool) → OldSome (value_at name vs) → OldSome (if b then Some v.1 else value_at name vs)
  one true k = h.0
  one false k = k

old_or : (around : Pass) (o : Option Value) → is_old around ≡ true → OldSome o → is_old (pass_or around o) ≡ true
old_or around None h k = h
old_or around (Some (A_word text)) h k = h
old_or around (Some (A_pass p)) h k = k
old_or around (Some (A_priority p)) h k = h
old_or around (Some (A_name n)) h k = h
old_or around (Some (An_expression x)) h k = h
old_or around (Some (A_pattern x)) h k = h
old_or around (Some (A_template x)) h k = h

-- No row of version 1.0 has the name by which sections are recognised.

abbrev lacks : List ℕ → List Row → Bool
lacks name rs = list_all (λ (row : Row). not (bytes_eq row.name name)) rs

none_there : (name : List ℕ) (rs : List Row) (fs : List Found) → lacks name rs ≡ true → value_at name (values_found rs fs) ≡ None
none_there name [] fs h = refl
none_there name (row ∷ rs) [] h = refl
none_there name (row ∷ rs) (f ∷ fs) h =
    elim (bytes_eq row.name name) as (λ b. bytes_eq row.name name ≡ b → (not b && lacks name rs) ≡ true → value_at name (value_found row f ++ values_found rs fs) ≡ None) [
      | true ↦ λ e k. cc
      | false ↦ λ e k. other f e (none_there name rs fs k)
    ] refl h
  where
    other : (f : Found) → bytes_eq row.name name ≡ false → value_at name (values_found rs fs) ≡ None → value_at name (value_found row f ++ values_found rs fs) ≡ None
    other None e k = k
    other (Some (Fits v)) e k = ap (λ b. if b then Some v else value_at name (values_found rs fs)) e ∙ k
    other (Some (Err why)) e k = k

abbrev recognise : List ℕ
recognise = codes "recognize-cdata"

lack_all : (in_body : Bool) (kind : Kind) → lacks recognise (rows old_language.newest in_body kind) ≡ true
lack_all in_body element.Transform = refl
lack_all in_body element.Group = refl
lack_all in_body element.Template = refl
lack_all in_body element.Procedure = refl
lack_all in_body element.Include = refl
lack_all in_body element.Param = refl
lack_all true element.Variable = refl
lack_all false element.Variable = refl
lack_all in_body element.Buffer = refl
lack_all in_body element.ValueOf = refl
lack_all in_body element.Chars = refl
lack_all in_body element.Copy = refl
lack_all in_body element.Element = refl
lack_all in_body element.StartElement = refl
lack_all in_body element.EndElement = refl
lack_all in_body element.Attribute = refl
lack_all in_body element.Comment = refl
lack_all in_body element.Instruction = refl
lack_all in_body element.Message = refl
lack_all in_body element.If = refl
lack_all in_body element.Else = refl
lack_all in_body element.Choose = refl
lack_all in_body element.When = refl
lack_all in_body element.Otherwise = refl
lack_all in_body element.ForEachItem = refl
lack_all in_body element.While = refl
lack_all in_body element.Assign = refl
lack_all in_body element.CallProcedure = refl
lack_all in_body element.ProcessChildren = refl
lack_all in_body element.ProcessAttributes = refl
lack_all in_body element.ProcessSelf = refl
lack_all in_body element.ProcessSiblings = refl
lack_all in_body element.ProcessBuffer = refl
lack_all in_body element.ProcessDocument = refl
lack_all in_body element.ResultBuffer = refl
lack_all in_body element.WithParam = refl

-- Items and parts.

abbrev OldItem : Item → Type 0
OldItem (A_part p) = is_old_part p ≡ true
OldItem i = Unit {0}

abbrev OldItems : List Item → Type 0
OldItems [] = Unit {0}
OldItems (i ∷ is) = OldItem i × OldItems is

abbrev pub OldParts : List Part → Type 0
OldParts [] = Unit {0}
OldParts (p ∷ ps) = (is_old_part p ≡ true) × OldParts ps

more_items : (is js : List Item) → OldItems is → OldItems js → OldItems (is ++ js)
more_items [] js h k = k
more_items (i ∷ is) js h k = (h.0, more_items is js h.1 k)

more_parts : (ps qs : List Part) → OldParts ps → OldParts qs → OldParts (ps ++ qs)
more_parts [] qs h k = k
more_parts (p ∷ ps) qs h k = (h.0, more_parts ps qs h.1 k)

old_parts : (is : List Item) → OldItems is → OldParts (parts is)
old_parts [] h = tt
old_parts (i ∷ is) h = more_parts (parts_of_item i) (parts is) (one i h.0) (old_parts is h.1) where
  one : (i : Item) → OldItem i → OldParts (parts_of_item i)
  one (Instruction x) k = tt
  one (An_if test body at) k = tt
  one (An_else body) k = tt
  one (A_local n x) k = tt
  one (A_branch w) k = tt
  one (An_otherwise body) k = tt
  one (A_param v) k = tt
  one (A_value v) k = tt
  one (Text text) k = tt
  one (A_part p) k = (k, tt)

old_attributes : (attrs : List Attr) → OldParts (map (λ (a : Attr). part.Attribute a.name a.value) attrs)
old_attributes [] = tt
old_attributes (a ∷ attrs) = (refl, old_attributes attrs)

part_items : (ps : List Part) → OldParts ps → OldItems (map A_part ps)
part_items [] h = tt
part_items (p ∷ ps) h = (h.0, part_items ps h.1)

old_item : (kind : Kind) (group : ℕ) (at : Place) (scope : List Binding) (v : Values) (inner : List Item) → OldItems (item kind group at scope v inner)
old_item element.Transform group at scope v inner = tt
old_item element.Group group at scope v inner = tt
old_item element.Template group at scope v inner = tt
old_item element.Procedure group at scope v inner = tt
old_item element.Include group at scope v inner = tt
old_item element.Param group at scope v inner = (tt, tt)
old_item element.Variable group at scope v inner = (tt, tt)
old_item element.Buffer group at scope v inner = tt
old_item element.ValueOf group at scope v inner = (tt, tt)
old_item element.Chars group at scope v inner = (tt, tt)
old_item element.Copy group at scope v inner = (tt, tt)
old_item element.Element group at scope v inner = (tt, tt)
old_item element.StartElement group at scope v inner = (tt, tt)
old_item element.EndElement group at scope v inner = (tt, tt)
old_item element.Attribute group at scope v inner = (tt, tt)
old_item element.Comment group at scope v inner = (tt, tt)
old_item element.Instruction group at scope v inner = (tt, tt)
old_item element.Message group at scope v inner = (tt, tt)
old_item element.If group at scope v inner = (tt, tt)
old_item element.Else group at scope v inner = (tt, tt)
old_item element.Choose group at scope v inner = (tt, tt)
old_item element.When group at scope v inner = (tt, tt)
old_item element.Otherwise group at scope v inner = (tt, tt)
old_item element.ForEachItem group at scope v inner = (tt, tt)
old_item element.While group at scope v inner = (tt, tt)
old_item element.Assign group at scope v inner = (tt, tt)
old_item element.CallProcedure group at scope v inner = (tt, tt)
old_item element.ProcessChildren group at scope v inner = (tt, tt)
old_item element.ProcessAttributes group at scope v inner = (tt, tt)
old_item element.ProcessSelf group at scope v inner = (tt, tt)
old_item element.ProcessSiblings group at scope v inner = (tt, tt)
old_item element.ProcessBuffer group at scope v inner = (tt, tt)
old_item element.ProcessDocument group at scope v inner = (tt, tt)
old_item element.ResultBuffer group at scope v inner = (tt, tt)
old_item element.WithParam group at scope v inner = (tt, tt)

-- Sheets.

abbrev pub OldGroups : List Group → Type 0
OldGroups [] = Unit {0}
OldGroups (g ∷ gs) = (is_old g.pass ≡ true) × OldGroups gs

abbrev pub OldBuffers : List Buffer → Type 0
OldBuffers [] = Unit {0}
OldBuffers (b ∷ bs) = OldParts b.content × OldBuffers bs

pub record OldSheet (s : Sheet) : Type 0 where
  pub groups : OldGroups s.groups
  pub buffers : OldBuffers s.buffers
  pub cdata : s.cdata ≡ false

more_groups : (gs hs : List Group) → OldGroups gs → OldGroups hs → OldGroups (gs ++ hs)
more_groups [] hs h k = k
more_groups (g ∷ gs) hs h k = (h.0, more_groups gs hs h.1 k)

more_buffers : (bs cs : List Buffer) → OldBuffers bs → OldBuffers cs → OldBuffers (bs ++ cs)
more_buffers [] cs h k = k
more_buffers (b ∷ bs) cs h k = (h.0, more_buffers bs cs h.1 k)

pub record OldContext (here : Context) : Type 0 where
  pub dialect : here.version.dialect ≡ old_language.newest
  pub pass : is_old here.pass ≡ true

pub record OldListed (r : Listed) : Type 0 where
  pub items : OldItems r.items
  pub sheet : OldSheet r.loading.sheet

pub record Old (here : Context) (before : List Item) (l : Loading) : Type 0 where
  pub context : OldContext here
  pub items : OldItems before
  pub sheet : OldSheet l.sheet

abbrev OldJob : Job → Type 0
OldJob (Nodes here before list l) = Old here before l

abbrev Post : Job → Listed → Type 0
Post q r = OldJob q → OldListed r

abbrev Ok : Does Listed → Type 0
Ok x = Holds Post OldListed x

-- what is so where a premise holds
under : {A : Type 0} (P : Listed → Type 0) (x : Does Listed) → (A → Holds Post P x) → Holds Post (λ r. A → P r) x
under P (Ret r) h = h
under P (Halt e) h = tt
under P (Say o x) h = under P x h
under P (Ask q k) h = λ r p. under P (k r) (λ a. h a r p)

cut_ok : (P : Listed → Type 0) (here : Context) (why : Why) → Holds Post P (cut here why)
cut_ok P here (Bad fault) = tt
cut_ok P here Need = one here.limit where
  one : (o : Option ℕ) → Holds Post P (ends_at here o)
  one None = tt
  one (Some most) = tt

either_ok : (P : Listed → Type 0) (b : Bool) (x y : Does Listed) → Holds Post P x → Holds Post P y → Holds Post P (if b then x else y)
either_ok P true x y h k = h
either_ok P false x y h k = k

module _ (reads : Reads) where
  -- the values of a tag in a file of version 1.0
  values_old : (here : Context) (kind : Kind) (e : Element) → OldContext here → OldValues (values reads here kind e)
  values_old here kind e old =
      let in_body = not (is_declared_here here.inside) in
      subst (λ d. OldValues (values_found (rows d in_body kind) (found_at reads d (scope_at here e) (rows d in_body kind) e.attrs))) (sym old.dialect)
      (old_values reads (scope_at here e) e.attrs (rows old_language.newest in_body kind))

  -- which has none by which sections are recognised
  recognises_none : (here : Context) (kind : Kind) (e : Element) → OldContext here → is_yes (value_at recognise (values reads here kind e)) ≡ false
  recognises_none here kind e old =
      let in_body = not (is_declared_here here.inside) in
      ap is_yes (subst (λ d. value_at recognise (values_found (rows d in_body kind) (found_at reads d (scope_at here e) (rows d in_body kind) e.attrs)) ≡ None) (sym old.dialect)
      (none_there recognise (rows old_language.newest in_body kind) (found_at reads old_language.newest (scope_at here e) (rows old_language.newest in_body kind) e.attrs) (lack_all in_body kind)))

pass_through : (around : Pass) (v : Values) → is_old around ≡ true → OldValues v → is_old (pass_or around (value_at (codes "pass-through") v)) ≡ true
pass_through around v h k = old_or around (value_at (codes "pass-through") v) h (old_at (codes "pass-through") v k)

begun_old : (here : Context) (at : ℕ) (kind : Kind) (v : Values) (l : Loading) → OldContext here → OldValues v → is_yes (value_at recognise v) ≡ false → OldSheet l.sheet → OldSheet (begun here at kind v l).sheet
begun_old here at kind v l old k none h = one (is_own here.inside) (makes_group kind) where
  one : (a b : Bool) → OldSheet (if a then with_root here at v l else if b then with_group here at v l else l).sheet
  one true b = record { groups = (pass_through pass.None v refl k, tt); buffers = h.buffers; cdata = none }
  one false true = record { groups = more_groups l.sheet.groups (inner_group here at v ∷ []) h.groups (pass_through here.pass v old.pass k, tt); buffers = h.buffers; cdata = h.cdata }
  one false false = h

buffers_old : (here : Context) (at : ℕ) (kind : Kind) (v : Values) (inner : List Item) → OldItems inner → OldBuffers (buffers_made here at kind v inner)
buffers_old here at kind v inner h = one (is_buffer kind) where
  one : (b : Bool) → OldBuffers (if b then buffer_at here at v inner ∷ [] else [])
  one true = (old_parts inner h, tt)
  one false = tt

made_old : (here : Context) (at : ℕ) (kind : Kind) (scope : List Binding) (v : Values) (inner : Listed) → OldListed inner → OldListed (made here at kind scope v inner)
made_old here at kind scope v inner h = one (is_declared_here here.inside) where
  sheet : OldSheet (ended here at kind v inner).sheet
  sheet = record {
    groups = h.sheet.groups;
    buffers = more_buffers inner.loading.sheet.buffers (buffers_made here at kind v inner.items) h.sheet.buffers (buffers_old here at kind v inner.items h.items);
    cdata = h.sheet.cdata;
  }

  one : (b : Bool) → OldListed (if b then listed [] (ended here at kind v inner) else listed (item kind here.group (place here at) scope v inner.items) inner.loading)
  one true = record { items = tt; sheet = sheet }
  one false = record { items = old_item kind here.group (place here at) scope v inner.items; sheet = h.sheet }

within_old : (here : Context) (before : List Item) (kind : Kind) (e : Element) (v : Values) (last : ℕ) → OldContext here → OldValues v → OldContext (within here before kind e v last)
within_old here before kind e v last old k = record { dialect = old.dialect; pass = one (makes_group kind) } where
  one : (b : Bool) → is_old (if b then pass_or here.pass (value_at (codes "pass-through") v) else here.pass) ≡ true
  one true = pass_through here.pass v old.pass k
  one false = old.pass

-- The reading.

-- each file is of version 1.0
abbrev pub OldFiles : List (Option File) → Type 0
OldFiles files = (n : ℕ) (f : File) → slice_get files n ≡ Some (Some f) → f.version.dialect ≡ old_language.newest

module _ (reads : Reads) (files : List (Option File)) (of_one : OldFiles files) where
  -- the nodes of a list, which are read by a call
  asked : (here : Context) (before : List Item) (kids : Forest) (l : Loading) → OldContext here → OldItems before → OldSheet l.sheet → Ok (Ask (Nodes here before kids l) Ret)
  asked here before kids l old k h = λ r p. p (record { context = old; items = k; sheet = h })

  text_old : (here : Context) (offset : ℕ) (text : List ℕ) (l : Loading) → OldSheet l.sheet → Ok (text_of reads files here offset text l)
  text_old here offset text l h =
      either_ok OldListed (list_all is_space text && not (keeps_space here.inside)) _ _ (record { items = tt; sheet = h })
      (either_ok OldListed (allows_text here.inside) _ _ (record { items = one here.inside; sheet = h }) tt)
    where
      one : (inside : Inside) → OldItems (text_item reads files here offset text inside)
      one (Document other) = (tt, tt)
      one (Declarations params) = (tt, tt)
      one Start_of_body = (tt, tt)
      one Body = (tt, tt)
      one Branches = (tt, tt)
      one With_params = (tt, tt)
      one (Characters kept) = (tt, tt)
      one Parts = (refl, tt)
      one Nothing = (tt, tt)

  given_old : (here : Context) (at number : ℕ) (o : Option (Option File)) → slice_get files number ≡ o → (href : List ℕ) (l : Loading) → OldContext here → OldSheet l.sheet → Ok (file_given reads files here at number o href l)
  given_old here at number None is href l old h = tt
  given_old here at number (Some None) is href l old h = tt
  given_old here at number (Some (Some file)) is href l old h =
      asked (in_file here number href file) [] file.nodes (record l { sheet = record l.sheet { files = l.sheet.files ++ href ∷ [] } })
      (record { dialect = of_one number file is; pass = old.pass }) tt (record { groups = h.groups; buffers = h.buffers; cdata = h.cdata })

  included_old : (here : Context) (at : ℕ) (kind : Kind) (v : Values) (l : Loading) → OldContext here → OldSheet l.sheet → Ok (included reads files here at kind v l)
  included_old here at kind v l old h =
      let number = length l.sheet.files in
      either_ok OldListed (is_include kind) _ _ (given_old here at number (slice_get files number) refl (as_word (value_at (codes "href") v)) l old h)
      (record { items = tt; sheet = h })

  closed_old : (here : Context) (at : ℕ) (kind : Kind) (scope : List Binding) (v : Values) (inner : Listed) → OldListed inner → Ok (closed reads files here at kind scope v inner)
  closed_old here at kind scope v inner h =
      either_ok OldListed (is_choose kind && length (branches inner.items) == 0) _ _ tt (made_old here at kind scope v inner h)

  good_old : (here : Context) (before : List Item) (e : Element) (kids : Forest) (kind : Kind) (l : Loading) → OldContext here → OldSheet l.sheet → Ok (good reads files here before e kids kind (values reads here kind e) l)
  good_old here before e kids kind l old h =
      let v = values reads here kind e in
      let k = values_old reads here kind e old in
      let referring : Loading = record l { references = l.references ++ references (place here e.offset) here before l.sheet kind v } in
      let start = begun here e.offset kind v referring in
      let goes_on : Listed → Does Listed = λ r.
      Ask (Nodes (within here before kind e v (length r.loading.sheet.groups - 1)) [] kids r.loading) (closed reads files here e.offset kind (scope_at here e) v) in
      holds_then Post OldListed (included reads files here e.offset kind v start) goes_on
      (holds_more Post OldListed (λ r. Ok (goes_on r)) (included reads files here e.offset kind v start)
      (λ r p inner q. closed_old here e.offset kind (scope_at here e) v inner
      (q (record { context = within_old here before kind e v (length r.loading.sheet.groups - 1) old k; items = tt; sheet = p.sheet })))
      (included_old here e.offset kind v start old (begun_old here e.offset kind v referring old k (recognises_none reads here kind e old) h)))

  judged_old : (here : Context) (before : List Item) (e : Element) (kids : Forest) (kind : Kind) (o : Option SheetCode) (l : Loading) → OldContext here → OldSheet l.sheet → Ok (judged reads files here before e kids kind o l)
  judged_old here before e kids kind (Some why) l old h = tt
  judged_old here before e kids kind None l old h = good_old here before e kids kind l old h

  known_old : (here : Context) (before : List Item) (e : Element) (kids : Forest) (o : Option Kind) (l : Loading) → OldContext here → OldSheet l.sheet → Ok (known reads files here before e kids o l)
  known_old here before e kids None l old h = tt
  known_old here before e kids (Some kind) l old h = judged_old here before e kids kind (fault_of reads here before l.sheet e kind) l old h

  literal_old : (here : Context) (before : List Item) (e : Element) (kids : Forest) (l : Loading) → OldContext here → OldSheet l.sheet → Ok (literal reads files here before e kids l)
  literal_old here before e kids l old h =
      λ r p.
      let q = p (record { context = record { dialect = old.dialect; pass = old.pass }; items = tt; sheet = record { groups = h.groups; buffers = h.buffers; cdata = h.cdata } }) in
      record { items = (tt, tt); sheet = q.sheet }

  copied_old : (here : Context) (e : Element) (kids : Forest) (l : Loading) → OldContext here → OldSheet l.sheet → Ok (copied reads files here e kids l)
  copied_old here e kids l old h =
      λ r p.
      let q = p (record { context = record { dialect = old.dialect; pass = old.pass }; items = tt; sheet = h }) in
      let inner = parts r.items in
      let all : OldParts (element_parts reads files e inner) = (refl, more_parts (map (attribute_part reads files) e.attrs ++ inner) (part.End e.name ∷ []) (more_parts (map (attribute_part reads files) e.attrs) inner (old_attributes e.attrs) (old_parts r.items q.items)) (refl, tt)) in
      record { items = part_items (element_parts reads files e inner) all; sheet = q.sheet }

  other_old : (here : Context) (before : List Item) (e : Element) (kids : Forest) (inside : Inside) (l : Loading) → OldContext here → OldSheet l.sheet
      → Ok (if not (allows_literals inside) then refused here e.offset code.Misplaced
      else option_map_or (λ why. refused here e.offset why) (path_fault (templates reads files here e)) (literal reads files here before e kids l))
  other_old here before e kids inside l old h = either_ok OldListed (not (allows_literals inside)) _ _ tt (one (path_fault (templates reads files here e))) where
    one : (o : Option SheetCode) → Ok (option_map_or (λ why. refused here e.offset why) o (literal reads files here before e kids l))
    one None = literal_old here before e kids l old h
    one (Some why) = tt

  literals_old : (here : Context) (before : List Item) (e : Element) (kids : Forest) (inside : Inside) (l : Loading) → OldContext here → OldSheet l.sheet → Ok (literal_judged reads files here before e kids inside l)
  literals_old here before e kids Parts l old h = copied_old here e kids l old h
  literals_old here before e kids (Document included) l old h = other_old here before e kids (Document included) l old h
  literals_old here before e kids (Declarations params) l old h = other_old here before e kids (Declarations params) l old h
  literals_old here before e kids Start_of_body l old h = other_old here before e kids Start_of_body l old h
  literals_old here before e kids Body l old h = other_old here before e kids Body l old h
  literals_old here before e kids Branches l old h = other_old here before e kids Branches l old h
  literals_old here before e kids With_params l old h = other_old here before e kids With_params l old h
  literals_old here before e kids (Characters kept) l old h = other_old here before e kids (Characters kept) l old h
  literals_old here before e kids Nothing l old h = other_old here before e kids Nothing l old h

  either_old : (here : Context) (before : List Item) (e : Element) (kids : Forest) (inside : Inside) (l : Loading) → OldContext here → OldSheet l.sheet
      → Ok (if is_stx e.name then known reads files here before e kids (kind_named e.name.local) l else literal_judged reads files here before e kids inside l)
  either_old here before e kids inside l old h =
      either_ok OldListed (is_stx e.name) _ _ (known_old here before e kids (kind_named e.name.local) l old h) (literals_old here before e kids inside l old h)

  element_old : (here : Context) (before : List Item) (e : Element) (kids : Forest) (inside : Inside) (l : Loading) → OldContext here → OldSheet l.sheet → Ok (element_of reads files here before e kids inside l)
  element_old here before e kids (Document included) l old h =
      either_ok OldListed (is_transform_named e.name) _ _ (known_old here before e kids (kind_named e.name.local) l old h) tt
  element_old here before e kids (Declarations params) l old h = either_old here before e kids (Declarations params) l old h
  element_old here before e kids Start_of_body l old h = either_old here before e kids Start_of_body l old h
  element_old here before e kids Body l old h = either_old here before e kids Body l old h
  element_old here before e kids Branches l old h = either_old here before e kids Branches l old h
  element_old here before e kids With_params l old h = either_old here before e kids With_params l old h
  element_old here before e kids (Characters kept) l old h = either_old here before e kids (Characters kept) l old h
  element_old here before e kids Parts l old h = either_old here before e kids Parts l old h
  element_old here before e kids Nothing l old h = either_old here before e kids Nothing l old h

  when_old : (here : Context) (before : List Item) (stage : Stage) (e : Element) (kids : Forest) (l : Loading) → OldContext here → OldSheet l.sheet → Ok (when_known reads files here before stage e kids l)
  when_old here before Waiting e (Cut why) l old h = cut_ok OldListed here why
  when_old here before Waiting e (End m offset) l old h = element_old here before e (End m offset) here.inside l old h
  when_old here before Waiting e (Single m leaf next) l old h = element_old here before e (Single m leaf next) here.inside l old h
  when_old here before Waiting e (Nested s x kids next) l old h = element_old here before e (Nested s x kids next) here.inside l old h
  when_old here before (Ready first) e kids l old h = element_old here before e kids here.inside l old h
  when_old here before (Entered first) e kids l old h = element_old here before e kids here.inside l old h

  -- what a node comes to, and then the list
  then_old : (here : Context) (before : List Item) (next : Forest) (x : Does Listed) → OldContext here → OldItems before → Ok x → Ok (and_then x (λ r. Ask (Nodes here (before ++ r.items) next r.loading) Ret))
  then_old here before next x old k h =
      let goes_on : Listed → Does Listed = λ r. Ask (Nodes here (before ++ r.items) next r.loading) Ret in
      holds_then Post OldListed x goes_on
      (holds_more Post OldListed (λ r. Ok (goes_on r)) x (λ r p. asked here (before ++ r.items) next r.loading old (more_items before r.items k p.items) p.sheet) h)

  nodes_old : (here : Context) (before : List Item) (list : Forest) (l : Loading) → Old here before l → Ok (nodes reads files here before list l)
  nodes_old here before (End m offset) l old = record { items = old.items; sheet = old.sheet }
  nodes_old here before (Cut why) l old = cut_ok OldListed here why
  nodes_old here before (Single m (Chars offset text) next) l old = then_old here before next (text_of reads files here offset text l) old.context old.items (text_old here offset text l old.sheet)
  nodes_old here before (Single m (CData offset text) next) l old = then_old here before next (text_of reads files here offset text l) old.context old.items (text_old here offset text l old.sheet)
  nodes_old here before (Single m (Comment offset text) next) l old = asked here before next l old.context old.items old.sheet
  nodes_old here before (Single m (Pi offset target text) next) l old = asked here before next l old.context old.items old.sheet
  nodes_old here before (Nested stage e kids next) l old =
      then_old here before next (when_known reads files here before stage e kids l) old.context old.items (when_old here before stage e kids l old.context old.sheet)

  job_old : (q : Job) → Holds Post (Post q) (code_of_job reads files q)
  job_old (Nodes here before list l) = under OldListed (nodes reads files here before list l) (nodes_old here before list l)

sheet_old : (reads : Reads) (name : List ℕ) (files : List (Option File)) → OldFiles files → Ok (sheet_of reads name files)
sheet_old reads name [] of_one = tt
sheet_old reads name (None ∷ files) of_one = tt
sheet_old reads name (Some file ∷ files) of_one =
    λ r p.
    let q = p (record {
      context = record { dialect = of_one 0 file refl; pass = refl };
      items = tt;
      sheet = record { groups = tt; buffers = tt; cdata = refl };
    }) in
    one r q (first_lost r.loading.sheet r.loading.references)
  where
    one : (r : Listed) → OldListed r → (o : Option Reference) → Ok (whole r o)
    one r q None = q
    one r q (Some lost) = tt

-- what files of version 1.0 come to, if they come to a sheet
outcome_old : (reads : Reads) (name : List ℕ) (files : List (Option File)) → OldFiles files → (names : List (List ℕ)) (r : Listed) → outcome reads name files ≡ Given names r → OldListed r
outcome_old reads name files of_one names r is =
    result_meets Post (code_of_job reads files) (job_old reads files of_one) OldListed (sheet_of reads name files) names r (sheet_old reads name files of_one)
    (record { depth = sizes files + 1; comes = is })

-- In the older language each file is of it.

old_version : (list : Forest) → (version_of old_language list).dialect ≡ old_language.newest
old_version list = of_root (root_attrs list) where
  of_text : (o : Option (List ℕ)) → (version_named old_language o).dialect ≡ old_language.newest
  of_text None = refl
  of_text (Some text) = elim (bytes_eq (codes "1.0") text) as (λ b. (version_by old_language (if b then Some old_language.newest else None)).dialect ≡ old_language.newest) [ true ↦ refl | false ↦ refl ]

  of_root : (o : Option (List Attr)) → (version_by_root old_language o).dialect ≡ old_language.newest
  of_root None = refl
  of_root (Some attrs) = of_text (text_at attrs (codes "version"))

module _ (reads : Reads) (limits : Limits) (docs : Documents) (name : List ℕ) where
  abbrev file_there : Opened → Option File
  file_there = file_of old_language reads limits docs name

  files_old : (opened : List Opened) → OldFiles (map file_there opened)
  files_old [] n f is = cc
  files_old (o ∷ opened) zero f is = of_bytes o.bytes is where
    of_bytes : (b : Option (List ℕ)) → Some (option_map (λ bytes. first_bytes old_language reads limits docs name bytes (share limits o)) b) ≡ Some (Some f) → f.version.dialect ≡ old_language.newest
    of_bytes None e = cc
    of_bytes (Some bytes) e =
        let same : first_bytes old_language reads limits docs name bytes (share limits o) ≡ f = cc in
        subst (λ (f : File). f.version.dialect ≡ old_language.newest) same (old_version (nodes_within limits bytes (share limits o)))
  files_old (o ∷ opened) (suc n) f is = files_old opened n f is

  abbrev Others : (most : ℕ) → Sheet → Type 0
  Others most sheet = (others : List Opened) → (load_from old_language reads limits docs name most others).result ≡ Fits sheet → OldSheet sheet

  loads_old : (most : ℕ) (opened : List Opened) (sheet : Sheet) → (load_from old_language reads limits docs name most opened).result ≡ Fits sheet → OldSheet sheet
  loads_old zero opened sheet is = absurd (cc)
  loads_old (suc most) opened sheet is = of_answer (λ others k. loads_old most others sheet k) (outcome reads name (map file_there opened)) refl is where
    of_ending : Others most sheet → (names : List (List ℕ)) (e : Ending) → (by_ending old_language reads limits docs name (load_from old_language reads limits docs name most) opened names e).result ≡ Fits sheet → OldSheet sheet
    of_ending others names (Refused at why) k = absurd (cc)
    of_ending others names (Wants numbers wanted) k = others (with_file old_language reads limits docs name opened numbers wanted) k
    of_ending others names Unfinished k = absurd (cc)

    of_answer : Others most sheet → (a : Answer Listed (List ℕ) Ending) → outcome reads name (map file_there opened) ≡ a
        → (by_answer old_language reads limits docs name (load_from old_language reads limits docs name most) opened a).result ≡ Fits sheet → OldSheet sheet
    of_answer others (Given names r) e k =
        let same : r.loading.sheet ≡ sheet = cc in
        subst OldSheet same (outcome_old reads name (map file_there opened) (files_old opened) names r e).sheet
    of_answer others (Over names e) is k = of_ending others names e k
    of_answer others (Unknown names) e k = absurd (cc)

-- so is each sheet that came of its files before there was version 1.1
pub old_sheets : (reads : Reads) (limits : Limits) (docs : Documents) (name : List ℕ) (sheet : Sheet) → (old_load reads limits docs name).result ≡ Fits sheet → OldSheet sheet
old_sheets reads limits docs name sheet is = loads_old reads limits docs name (limits.sheet + 3) [] sheet is
