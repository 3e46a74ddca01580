-- The reading of a sheet's files: their nodes in document order, up to the first fault.
use Rattle.std.specs.Prelude.{ℕ, ◌-◌, Ok, Bool, true, false, ◌&&◌, ◌||◌, not, ◌==◌, List, [], ◌∷◌, ◌++◌, map, length, slice_get, Option, Some, None, is_some, codes, if◌then◌else◌}
use Rattle.std.specs.List.{list_all, flat_map}
use Rattle.std.specs.Option.{option_map_or}
use Rattle.stx_base.specs.Character.{is_space}
use Rattle.stx_base.specs.Course.{Ret, Halt, Say, Ask, and_then}
use Rattle.stx_base.specs.declared.fault.SheetCode.{SheetCode}
use Rattle.stx_base.specs.declared.fault.SheetCode.TheVariants as code
use Rattle.stx_base.specs.declared.name.Attr.{Attr}
use Rattle.stx_base.specs.declared.name.Binding.{Binding}
use Rattle.stx_base.specs.declared.name.Name.{Name}
use Rattle.stx_base.specs.declared.part.Part.{Part}
use Rattle.stx_base.specs.declared.part.Part.TheVariants as part
use Rattle.stxpath_syntax.specs.declared.expr.AvtPart.{AvtPart}
use Rattle.sheet_model.specs.Names.{template_variables}
use Rattle.sheet_model.specs.declared.instr.Instr.TheVariants as instr
use Rattle.sheet_model.specs.declared.instr.LiteralAttr.{LiteralAttr}
use Rattle.sheet_model.specs.declared.pass.Pass.{Pass}
use Rattle.sheet_model.specs.declared.pass.Pass.TheVariants as pass
use Rattle.sheet_model.specs.declared.sheet.Buffer.{Buffer}
use Rattle.sheet_model.specs.declared.sheet.Group.{Group}
use Rattle.sheet_model.specs.declared.sheet.Procedure.{Procedure}
use Rattle.sheet_model.specs.declared.sheet.Template.{Template}
use Rattle.sheet_model.specs.declared.sheet.Variable.{Variable}
use Rattle.xml_events.specs.Tree.{Forest, Chars, CData, Comment, Pi, Element, End, Cut, Single, Nested, Stage, Waiting}
use Rattle.sheet_loader.specs.Elements as element
use Rattle.sheet_loader.specs.Elements.{Kind, Inside, Document, Body, Characters, Parts, kind_named, inside_of, is_own, is_buffer, is_include, is_param, is_procedure, is_template, is_variable, makes_group, allows_literals, allows_text, keeps_space}
use Rattle.sheet_loader.specs.Judging.{is_declared_here, is_stx, is_transform_named, locals_at, scope_at, values, fault_of}
use Rattle.sheet_loader.specs.Making.{Values, value_at, as_name, as_expression, as_priority, as_word, is_yes, pass_or, visibility_of, name, pattern, body, params, parts, branches, item, variable}
use Rattle.sheet_loader.specs.Reading.{File, Wants, Loading, Context, Item, Instruction, Text, A_part, Listed, Job, Nodes, Does, place, refused, cut}
use Rattle.sheet_loader.specs.Referring.{references, to_variables}
use Rattle.sheet_loader.specs.Tags.{Found, path_fault}
use Rattle.sheet_loader.specs.Values.{Reads, read, A_template}

abbrev pub listed : List Item → Loading → Listed
listed items loading = record { items = items; loading = loading }

abbrev pub is_choose : Kind → Bool
is_choose element.Choose = true
is_choose other = false

-- whether a list of an element comes from its attribute
abbrev pub has_select : Values → Bool
has_select v = is_some (as_expression (value_at (codes "select") v))

-- the root group, which has no name and no parent
abbrev pub root_group : Context → (at : ℕ) → Values → Group
root_group here at v = record { parent = None; name = None; pass = pass_or pass.None (value_at (codes "pass-through") v); at = place here at }

-- a group within another one; a transform that is included is one without name
abbrev pub inner_group : Context → (at : ℕ) → Values → Group
inner_group here at v = record {
  parent = Some here.group;
  name = as_name (value_at (codes "name") v);
  pass = pass_or here.pass (value_at (codes "pass-through") v);
  at = place here at;
}

-- the transform of the sheet itself: its group, and what it says of white space and of CDATA sections
abbrev pub with_root : Context → (at : ℕ) → Values → Loading → Loading
with_root here at v l = record l {
  sheet = record l.sheet {
    groups = root_group here at v ∷ [];
    strip = is_yes (value_at (codes "strip-space") v);
    cdata = is_yes (value_at (codes "recognize-cdata") v);
  };
}

abbrev pub with_group : Context → (at : ℕ) → Values → Loading → Loading
with_group here at v l = record l { sheet = record l.sheet { groups = l.sheet.groups ++ inner_group here at v ∷ [] } }

-- what a start tag declares before what stands in its element
abbrev pub begun : Context → (at : ℕ) → Kind → Values → Loading → Loading
begun here at kind v l =
    if is_own here.inside then with_root here at v l
    else if makes_group kind then with_group here at v l
    else l

-- what a declaration adds to the lists of the sheet once its element is read

abbrev pub template_at : Context → (at : ℕ) → Values → List Item → Template
template_at here at v inner = record {
  group = here.group;
  pattern = pattern (codes "match") v;
  priority = as_priority (value_at (codes "priority") v);
  visibility = visibility_of (as_word (value_at (codes "visibility") v));
  public = is_yes (value_at (codes "public") v);
  new_scope = is_yes (value_at (codes "new-scope") v);
  params = params inner;
  body = body inner;
  at = place here at;
}

abbrev pub procedure_at : Context → (at : ℕ) → Values → List Item → Procedure
procedure_at here at v inner = record { group = here.group; name = name v; params = params inner; body = body inner; at = place here at }

abbrev pub buffer_at : Context → (at : ℕ) → Values → List Item → Buffer
buffer_at here at v inner = record { group = here.group; name = name v; content = parts inner; at = place here at }

abbrev pub templates_made : Context → (at : ℕ) → Kind → Values → List Item → List Template
templates_made here at kind v inner = if is_template kind then template_at here at v inner ∷ [] else []

abbrev pub procedures_made : Context → (at : ℕ) → Kind → Values → List Item → List Procedure
procedures_made here at kind v inner = if is_procedure kind then procedure_at here at v inner ∷ [] else []

abbrev pub buffers_made : Context → (at : ℕ) → Kind → Values → List Item → List Buffer
buffers_made here at kind v inner = if is_buffer kind then buffer_at here at v inner ∷ [] else []

-- a parameter of the sheet stands among its variables
abbrev pub variables_made : Context → (at : ℕ) → Kind → Values → List Variable
variables_made here at kind v =
    if is_param kind || is_variable kind then variable here.group (is_param kind) (place here at) v ∷ [] else []

abbrev pub ended : Context → (at : ℕ) → Kind → Values → Listed → Loading
ended here at kind v inner = record inner.loading {
  sheet = record inner.loading.sheet {
    templates = inner.loading.sheet.templates ++ templates_made here at kind v inner.items;
    procedures = inner.loading.sheet.procedures ++ procedures_made here at kind v inner.items;
    buffers = inner.loading.sheet.buffers ++ buffers_made here at kind v inner.items;
    variables = inner.loading.sheet.variables ++ variables_made here at kind v;
  };
}

-- an element among declarations adds to the sheet, and another one to its list
abbrev pub made : Context → (at : ℕ) → Kind → (scope : List Binding) → Values → Listed → Listed
made here at kind scope v inner =
    if is_declared_here here.inside then listed [] (ended here at kind v inner)
    else listed (item kind here.group (place here at) scope v inner.items) inner.loading

-- the group of what stands in an element: the last group is that which has just come to be
abbrev pub group_within : (around last : ℕ) → Kind → ℕ
group_within around last kind = if makes_group kind then last else around

abbrev pub pass_within : Context → Kind → Values → Pass
pass_within here kind v = if makes_group kind then pass_or here.pass (value_at (codes "pass-through") v) else here.pass

-- the item of a loop is a local of its body
abbrev pub own_locals : Kind → Values → List Name
own_locals element.ForEachItem v = name v ∷ []
own_locals other v = []

-- what is in force within an element, where this is the last group by then
abbrev pub within : Context → (before : List Item) → Kind → Element → Values → (last : ℕ) → Context
within here before kind e v last = record here {
  scope = scope_at here e;
  inside = inside_of here.inside kind (has_select v);
  at = e.offset;
  group = group_within here.group last kind;
  pass = pass_within here kind v;
  locals = locals_at here before ++ own_locals kind v;
}

-- what is in force in a file that is included, of which nothing is read yet
abbrev pub in_file : Context → (number : ℕ) → (name : List ℕ) → File → Context
in_file here number name file = record here {
  file = number;
  limit = file.limit;
  reading = (number, name) ∷ here.reading;
  version = file.version;
  scope = [];
  inside = Document true;
  at = 0;
  locals = [];
}

module _ (reads : Reads) (files : List (Option File)) where
  -- a file that is included is read where it stands, if it is there
  abbrev pub file_given : Context → (at number : ℕ) → Option (Option File) → (href : List ℕ) → Loading → Does Listed
  file_given here at number None href l = Halt (Wants (map (λ f. f.0) here.reading) href)
  file_given here at number (Some None) href l = refused here at code.NoDocument
  file_given here at number (Some (Some file)) href l =
      Ask (Nodes (in_file here number href file) [] file.nodes (record l { sheet = record l.sheet { files = l.sheet.files ++ href ∷ [] } })) Ret

  abbrev pub file_of : Context → (at : ℕ) → (href : List ℕ) → Loading → Does Listed
  file_of here at href l =
      let number = length l.sheet.files in
      Say href (file_given here at number (slice_get files number) href l)

  -- what an element includes
  abbrev pub included : Context → (at : ℕ) → Kind → Values → Loading → Does Listed
  included here at kind v l = if is_include kind then file_of here at (as_word (value_at (codes "href") v)) l else Ret (listed [] l)

  -- a choose has a when
  abbrev pub closed : Context → (at : ℕ) → Kind → List Binding → Values → Listed → Does Listed
  closed here at kind scope v inner =
      if is_choose kind && length (branches inner.items) == 0 then refused here at code.Misplaced
      else Ret (made here at kind scope v inner)

  -- an element of the language without faults: its file, if it includes one, what stands in it, and what it comes to
  abbrev pub good : Context → (before : List Item) → Element → (kids : Forest) → Kind → Values → Loading → Does Listed
  good here before e kids kind v l =
      let referring = record l { references = l.references ++ references (place here e.offset) here before l.sheet kind v } in
      and_then (included here e.offset kind v (begun here e.offset kind v referring)) (λ r.
      Ask (Nodes (within here before kind e v (length r.loading.sheet.groups - 1)) [] kids r.loading) (λ inner.
      closed here e.offset kind (scope_at here e) v inner))

  abbrev pub judged : Context → (before : List Item) → Element → (kids : Forest) → Kind → Option SheetCode → Loading → Does Listed
  judged here before e kids kind (Some why) l = refused here e.offset why
  judged here before e kids kind None l = good here before e kids kind (values reads here kind e) l

  -- an element of the namespace of sheets
  abbrev pub known : Context → (before : List Item) → Element → (kids : Forest) → Option Kind → Loading → Does Listed
  known here before e kids None l = refused here e.offset code.UnknownElement
  known here before e kids (Some kind) l = judged here before e kids kind (fault_of reads here before l.sheet e kind) l

  -- the templates of a literal element's attributes
  abbrev pub templates : Context → Element → List Found
  templates here e = map (λ a. Some (read A_template (reads.template here.version.dialect (scope_at here e) a.value))) e.attrs

  abbrev pub parts_of_template : Found → List AvtPart
  parts_of_template (Some (Ok (A_template found))) = found
  parts_of_template other = []

  -- the attributes of a literal element with what their values are read as
  abbrev pub literal_attrs : List Attr → List Found → List LiteralAttr
  literal_attrs [] found = []
  literal_attrs attrs [] = []
  literal_attrs (a ∷ attrs) (f ∷ found) = record { name = a.name; value = record { parts = parts_of_template f } } ∷ literal_attrs attrs found

  -- a literal element of a body
  abbrev pub literal : Context → (before : List Item) → Element → (kids : Forest) → Loading → Does Listed
  literal here before e kids l =
      let attrs = literal_attrs e.attrs (templates here e) in
      let names = flat_map (λ (a : LiteralAttr). template_variables a.value) attrs in
      let locals = locals_at here before in
      let inner = record here { scope = scope_at here e; inside = Body; at = e.offset; locals = locals } in
      Ask (Nodes inner [] kids (record l { references = l.references ++ to_variables (place here e.offset) locals here.group names }))
      (λ r. Ret (listed (Instruction (instr.Literal e.name attrs (body r.items) (place here e.offset)) ∷ []) r.loading))

  abbrev pub attribute_part : Attr → Part
  attribute_part a = part.Attribute a.name a.value

  -- an element of a buffer's content as parts: it carries no bindings along
  abbrev pub element_parts : Element → List Part → List Part
  element_parts e inner =
      part.Start e.name [] ∷ (map attribute_part e.attrs ++ inner ++ part.End e.name ∷ [])

  -- an element of a buffer's content: its start, its attributes as they are written, its nodes and its end
  abbrev pub copied : Context → Element → (kids : Forest) → Loading → Does Listed
  copied here e kids l =
      Ask (Nodes (record here { scope = scope_at here e; at = e.offset }) [] kids l) (λ r.
      Ret (listed (map A_part (element_parts e (parts r.items))) r.loading))

  abbrev pub literal_judged : Context → (before : List Item) → Element → (kids : Forest) → Inside → Loading → Does Listed
  literal_judged here before e kids Parts l = copied here e kids l
  literal_judged here before e kids inside l =
      if not (allows_literals inside) then refused here e.offset code.Misplaced
      else option_map_or (λ why. refused here e.offset why) (path_fault (templates here e)) (literal here before e kids l)

  -- an element: the root of a file, one of the language, or a literal one
  abbrev pub element_of : Context → (before : List Item) → Element → (kids : Forest) → Inside → Loading → Does Listed
  element_of here before e kids (Document inner) l =
      if is_transform_named e.name then known here before e kids (kind_named e.name.local) l
      else refused here e.offset code.NotStx
  element_of here before e kids inside l =
      if is_stx e.name then known here before e kids (kind_named e.name.local) l
      else literal_judged here before e kids inside l

  -- an element of which neither a node nor its end is known is not judged
  abbrev pub when_known : Context → (before : List Item) → Stage → Element → (kids : Forest) → Loading → Does Listed
  when_known here before Waiting e (Cut why) l = cut here why
  when_known here before stage e kids l = element_of here before e kids here.inside l

  -- what a text comes to, by what the list may hold
  abbrev pub text_item : Context → (offset : ℕ) → List ℕ → Inside → List Item
  text_item here offset text (Characters kept) = Text text ∷ []
  text_item here offset text Parts = A_part (part.Chars text) ∷ []
  text_item here offset text other = Instruction (instr.LiteralChars text (place here offset)) ∷ []

  abbrev pub text_of : Context → (offset : ℕ) → List ℕ → Loading → Does Listed
  text_of here offset text l =
      if list_all is_space text && not (keeps_space here.inside) then Ret (listed [] l)
      else if allows_text here.inside then Ret (listed (text_item here offset text here.inside) l)
      else refused here here.at code.Misplaced

  -- the nodes of a list, with what those before them came to
  abbrev pub nodes : Context → (before : List Item) → Forest → Loading → Does Listed
  nodes here before (End mark offset) l = Ret (listed before l)
  nodes here before (Cut why) l = cut here why
  nodes here before (Single mark (Chars offset text) next) l =
      and_then (text_of here offset text l) (λ r. Ask (Nodes here (before ++ r.items) next r.loading) Ret)
  nodes here before (Single mark (CData offset text) next) l =
      and_then (text_of here offset text l) (λ r. Ask (Nodes here (before ++ r.items) next r.loading) Ret)
  nodes here before (Single mark (Comment offset text) next) l = Ask (Nodes here before next l) Ret
  nodes here before (Single mark (Pi offset target text) next) l = Ask (Nodes here before next l) Ret
  nodes here before (Nested stage e kids next) l =
      and_then (when_known here before stage e kids l) (λ r. Ask (Nodes here (before ++ r.items) next r.loading) Ret)

  abbrev pub code_of_job : Job → Does Listed
  code_of_job (Nodes here before list l) = nodes here before list l
