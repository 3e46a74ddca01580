-- What a reading still does while elements are open: it goes on with the nodes to come, list by list from the innermost outwards.
use Rattle.std.specs.Prelude.{◌≡◌, ℕ, ◌-◌, true, false, List, [], ◌∷◌, ◌++◌, length, map, slice_get, Option, Some, None, codes}
use Rattle.std.specs.List.{flat_map}
use Rattle.stx_base.specs.Course.{Halt, Say, Ask, and_then, Gives, Same}
use Rattle.stx_base.specs.declared.fault.SheetCode.TheVariants as code
use Rattle.xml_events.specs.Document.{inner, outer}
use Rattle.xml_events.specs.Tree.{Forest, Future, Mark, Stage, Why, Chars, CData, Comment, Pi, Element, End, Cut, Single, Nested}
use Rattle.sheet_model.specs.Names.{template_variables}
use Rattle.sheet_model.specs.declared.instr.Instr.TheVariants as instr
use Rattle.sheet_model.specs.declared.instr.LiteralAttr.{LiteralAttr}
use Rattle.sheet_loader.specs.Elements.{Kind, Body, is_include}
use Rattle.sheet_loader.specs.Judging.{locals_at, scope_at}
use Rattle.sheet_loader.specs.Load.{at_start, nothing, sheet_of, whole}
use Rattle.sheet_loader.specs.Making.{Values, as_word, body, parts, value_at}
use Rattle.sheet_loader.specs.Read.{begun, closed, code_of_job, copied, element_parts, good, in_file, literal, literal_attrs, templates, text_of, when_known, within}
use Rattle.sheet_loader.specs.Reading.{File, Wants, Loading, Context, Item, Instruction, A_part, Listed, Nodes, Does, cut, place, refused}
use Rattle.sheet_loader.specs.References.{first_lost}
use Rattle.sheet_loader.specs.Referring.{references, to_variables}
use Rattle.sheet_loader.specs.Values.{Reads}

-- an open element, with where it stands and what stands before it in its list
pub data Open : Type 0 where
  Of_element : Context → (before : List Item) → Element → Kind → Values → Open
  -- an include while its file is read
  Of_file : Context → (before : List Item) → Element → Kind → Values → Open
  -- a literal element of a body
  Of_literal : Context → (before : List Item) → Element → List LiteralAttr → Open
  -- an element of a buffer's content
  Of_part : Context → (before : List Item) → Element → Open

-- what a list comes to, and what is done then with the lists around it
abbrev pub Going : Type 0
Going = Listed → Future → Does Listed

-- the list goes on behind these items
abbrev pub behind_items : Context → List Item → Loading → Going → Future → Does Listed
behind_items here before l go f = Ask (Nodes here before (inner f) l) (λ r. go r (outer f))

-- what a tag without faults refers to and declares
abbrev pub opened : Context → (before : List Item) → Element → Kind → Values → Loading → Loading
opened here before e kind v l =
    begun here e.offset kind v (record l { references = l.references ++ references (place here e.offset) here before l.sheet kind v })

abbrev pub literal_item : Context → Element → List LiteralAttr → Listed → List Item
literal_item here e attrs r = Instruction (instr.Literal e.name attrs (body r.items) (place here e.offset)) ∷ []

-- what is in force in a literal element
abbrev pub in_literal : Context → (before : List Item) → Element → Context
in_literal here before e = record here { scope = scope_at here e; inside = Body; at = e.offset; locals = locals_at here before }

-- what is in force in an element of a buffer's content
abbrev pub in_part : Context → Element → Context
in_part here e = record here { scope = scope_at here e; at = e.offset }

-- what is said of the variables that the attributes of a literal element name
abbrev pub attributes_read : Context → (before : List Item) → Element → List LiteralAttr → Loading → Loading
attributes_read here before e attrs l = record l {
  references = l.references
      ++ to_variables (place here e.offset) (locals_at here before) here.group (flat_map (λ (a : LiteralAttr). template_variables a.value) attrs);
}

module _ (reads : Reads) (files : List (Option File)) where
  -- one comes to what the other comes to
  pub record SameAnswer (x y : Does Listed) : Type 0 where
    pub ends : Same (code_of_job reads files) x y
    pub to : (names : List (List ℕ)) (r : Listed) → Gives (code_of_job reads files) x names r → Gives (code_of_job reads files) y names r
    pub from : (names : List (List ℕ)) (r : Listed) → Gives (code_of_job reads files) y names r → Gives (code_of_job reads files) x names r

  abbrev pub part_item : Element → Listed → List Item
  part_item e r = map A_part (element_parts reads files e (parts r.items))

  -- the list of an element is at its end
  abbrev pub closes : Context → (before : List Item) → Element → Kind → Values → Going → Going
  closes here before e kind v go r f =
      and_then (closed reads files here e.offset kind (scope_at here e) v r) (λ s. behind_items here (before ++ s.items) s.loading go f)

  -- what is done when the innermost list has come to this
  abbrev pub continue : List Open → Going
  continue [] r f = whole r (first_lost r.loading.sheet r.loading.references)
  continue (Of_element here before e kind v ∷ opens) r f = closes here before e kind v (continue opens) r f
  continue (Of_file here before e kind v ∷ opens) r f =
      behind_items (within here before kind e v (length r.loading.sheet.groups - 1)) [] r.loading (closes here before e kind v (continue opens)) f
  continue (Of_literal here before e attrs ∷ opens) r f = behind_items here (before ++ literal_item here e attrs r) r.loading (continue opens) f
  continue (Of_part here before e ∷ opens) r f = behind_items here (before ++ part_item e r) r.loading (continue opens) f

  -- what is still done where these items stand in the innermost list
  abbrev pub resume : Context → (before : List Item) → Loading → List Open → Future → Does Listed
  resume here before l opens f = behind_items here before l (continue opens) f

  -- A list ends, and its element with it.
  abbrev pub EndsList : Type 0
  EndsList =
      (here : Context) (before : List Item) (l : Loading) (opens : List Open) (f : Future) (mark : Mark) (offset : ℕ)
      → SameAnswer (resume here before l opens (End mark offset ∷ f)) (continue opens (record { items = before; loading = l }) f)

  -- A list that goes no further stops all.
  abbrev pub CutsList : Type 0
  CutsList =
      (here : Context) (before : List Item) (l : Loading) (opens : List Open) (f : Future) (why : Why)
      → SameAnswer (resume here before l opens (Cut why ∷ f)) (cut here why)

  -- Comments and processing instructions count for nothing.
  abbrev pub PassesOver : Type 0
  PassesOver =
      (here : Context) (before : List Item) (l : Loading) (opens : List Open) (f : Future) (mark : Mark) (next : Forest) (offset : ℕ)
      → ((text : List ℕ) → SameAnswer (resume here before l opens (Single mark (Comment offset text) next ∷ f)) (resume here before l opens (next ∷ f)))
      × ((target text : List ℕ) → SameAnswer (resume here before l opens (Single mark (Pi offset target text) next ∷ f)) (resume here before l opens (next ∷ f)))

  -- A text, or a CDATA section, comes to its items.
  abbrev pub TakesText : Type 0
  TakesText =
      (here : Context) (before : List Item) (l : Loading) (opens : List Open) (f : Future) (mark : Mark) (next : Forest) (offset : ℕ) (text : List ℕ)
      → let on : Listed → Does Listed = λ r. resume here (before ++ r.items) r.loading opens (next ∷ f) in
      SameAnswer (resume here before l opens (Single mark (Chars offset text) next ∷ f)) (and_then (text_of reads files here offset text l) on)
      × SameAnswer (resume here before l opens (Single mark (CData offset text) next ∷ f)) (and_then (text_of reads files here offset text l) on)

  -- An element is judged, read, and comes to its items.
  abbrev pub TakesElement : Type 0
  TakesElement =
      (here : Context) (before : List Item) (l : Loading) (opens : List Open) (f : Future) (stage : Stage) (e : Element) (kids next : Forest)
      → SameAnswer (resume here before l opens (Nested stage e kids next ∷ f))
      (and_then (when_known reads files here before stage e kids l) (λ r. resume here (before ++ r.items) r.loading opens (next ∷ f)))

  -- An element without faults that includes nothing is open from then on.
  abbrev pub OpensElement : Type 0
  OpensElement =
      (here : Context) (before : List Item) (l : Loading) (opens : List Open) (f : Future) (e : Element) (kids next : Forest) (kind : Kind) (v : Values)
      → is_include kind ≡ false
      → let start = opened here before e kind v l in
      and_then (good reads files here before e kids kind v l) (λ r. resume here (before ++ r.items) r.loading opens (next ∷ f))
      ≡ resume (within here before kind e v (length start.sheet.groups - 1)) [] start (Of_element here before e kind v ∷ opens) (kids ∷ next ∷ f)

  -- what an include opens, and what comes of it
  abbrev pub Included : (here : Context) (before : List Item) (l : Loading) (opens : List Open) (f : Future) (e : Element) (kids next : Forest) (kind : Kind) (v : Values) → (rest : List ℕ → Loading → Does Listed) → Type 0
  Included here before l opens f e kids next kind v rest =
      and_then (good reads files here before e kids kind v l) (λ r. resume here (before ++ r.items) r.loading opens (next ∷ f))
      ≡ Say (as_word (value_at (codes "href") v)) (rest (as_word (value_at (codes "href") v)) (opened here before e kind v l))

  -- An include without faults opens its file: it is read if it is there, it is wanted if nothing is known of it, and else it is absent.
  abbrev pub OpensFile : Type 0
  OpensFile =
      (here : Context) (before : List Item) (l : Loading) (opens : List Open) (f : Future) (e : Element) (kids next : Forest) (kind : Kind) (v : Values)
      → is_include kind ≡ true
      → let number = length (opened here before e kind v l).sheet.files in
      ((file : File) → slice_get files number ≡ Some (Some file)
      → Included here before l opens f e kids next kind v (λ href start. resume (in_file here number href file) [] (record start { sheet = record start.sheet { files = start.sheet.files ++ href ∷ [] } })
      (Of_file here before e kind v ∷ opens) (file.nodes ∷ kids ∷ next ∷ f)))
      × (slice_get files number ≡ Some None → Included here before l opens f e kids next kind v (λ href start. refused here e.offset code.NoDocument))
      × (slice_get files number ≡ None → Included here before l opens f e kids next kind v (λ href start. Halt (Wants (map (λ x. x.0) here.reading) href)))

  -- A literal element of a body is open from then on.
  abbrev pub OpensLiteral : Type 0
  OpensLiteral =
      (here : Context) (before : List Item) (l : Loading) (opens : List Open) (f : Future) (e : Element) (kids next : Forest)
      → let attrs = literal_attrs reads files e.attrs (templates reads files here e) in
      and_then (literal reads files here before e kids l) (λ r. resume here (before ++ r.items) r.loading opens (next ∷ f))
      ≡ resume (in_literal here before e) [] (attributes_read here before e attrs l) (Of_literal here before e attrs ∷ opens) (kids ∷ next ∷ f)

  -- So is an element of a buffer's content.
  abbrev pub OpensPart : Type 0
  OpensPart =
      (here : Context) (before : List Item) (l : Loading) (opens : List Open) (f : Future) (e : Element) (kids next : Forest)
      → and_then (copied reads files here e kids l) (λ r. resume here (before ++ r.items) r.loading opens (next ∷ f))
      ≡ resume (in_part here e) [] l (Of_part here before e ∷ opens) (kids ∷ next ∷ f)

-- A sheet is read from the start of its file.
abbrev pub Begins : Type 0
Begins =
    (reads : Reads) (name : List ℕ) (file : File) (others : List (Option File))
    → sheet_of reads name (Some file ∷ others)
    ≡ Say name (resume reads (Some file ∷ others) (at_start name file) [] (nothing name) [] (file.nodes ∷ []))
