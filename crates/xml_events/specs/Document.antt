-- The tree of a document, from its lexemes: the first fault, and nodes by start and end tags (XML 1.0, 2.1, 2.4 to 2.8 and 3.1).
use Rattle.std.specs.Prelude.{ℕ, Bool, true, false, if◌then◌else◌, List, [], ◌∷◌, ◌++◌, length, map, Option, Some, None}
use Rattle.std.specs.List.{list_all}
use Rattle.stx_base.specs.Character.{is_space}
use Rattle.stx_base.specs.declared.fault.XmlKind.{XmlKind}
use Rattle.stx_base.specs.declared.fault.XmlKind.TheVariants.{Truncated}
use Rattle.stx_base.specs.declared.limits.Limits.{Limits}
use Rattle.xml_tokens.specs.Reader.{Reader, fed}
use Rattle.xml_tokens.specs.declared.lexeme.Body.{Body}
use Rattle.xml_tokens.specs.declared.lexeme.Body.TheVariants as body
use Rattle.xml_tokens.specs.declared.lexeme.Lexeme.{Lexeme}
use Rattle.xml_tokens.specs.declared.lexeme.Step.{Step}
use Rattle.xml_tokens.specs.declared.lexeme.Step.TheVariants as step
use Rattle.xml_names.specs.Tag.{resolved}
use Rattle.xml_names.specs.declared.resolved.Resolved.{Resolved}
use Rattle.xml_events.specs.Before.{Before, starting, is_inside, is_complete, fault_of, before_next}
use Rattle.xml_events.specs.Lexed.{lexed_from, unread}
use Rattle.xml_events.specs.Tree.{Why, Need, Bad, Fresh, Told, Stage, Waiting, Ready, Leaf, Chars, CData, Comment, Pi, Element, Forest, End, Cut, Single, Nested, Future, first_of}

-- what a lexeme is in the tree: the start of an element, the end of a list, a text that others may go on, or another leaf
pub data Item : Type 0 where
  Opens : Element → Item
  Closes : (offset : ℕ) → Item
  Says : (offset : ℕ) → List ℕ → Item
  Stands : Leaf → Item

-- an element by its start tag
abbrev pub element_at : (offset : ℕ) → Resolved → Element
element_at offset tag = record { offset = offset; name = tag.name; attrs = tag.attrs; decls = tag.decls }

-- a text; outside the root there is none
abbrev pub text_items : Before → (offset : ℕ) → List ℕ → List Item
text_items b offset text = if is_inside b.names then Says offset text ∷ [] else []

-- a CDATA section: a leaf where it is recognised, and else text
abbrev pub cdata_items : Before → (offset : ℕ) → List ℕ → List Item
cdata_items b offset text = if b.cdata then Stands (CData offset text) ∷ [] else text_items b offset text

-- What a lexeme is in the tree: an empty-element tag is a start and an end at one place, and the XML declaration and a document
-- type declaration are nothing.
abbrev pub items_of : Before → (offset : ℕ) → Body → List Item
items_of b offset (body.Chars text blank) = text_items b offset text
items_of b offset (body.CData text) = cdata_items b offset text
items_of b offset (body.Start name attrs true) = Opens (element_at offset (resolved b.path name attrs)) ∷ Closes offset ∷ []
items_of b offset (body.Start name attrs false) = Opens (element_at offset (resolved b.path name attrs)) ∷ []
items_of b offset (body.End name) = Closes offset ∷ []
items_of b offset (body.Comment text) = Stands (Comment offset text) ∷ []
items_of b offset (body.Pi target text) = Stands (Pi offset target text) ∷ []
items_of b offset body.Doctype = []
items_of b offset body.Declaration = []

-- What is read of a document: the items up to its first fault, and in which the lists end that are open behind them.
pub record Reading : Type 0 where
  pub items : List Item
  pub rest : Future

-- all open lists, and the document's own, go no further
abbrev pub cuts : Why → (names : List (List ℕ)) → Future
cuts why names = Cut why ∷ map (λ name. Cut why) names

-- nothing more is read
abbrev pub stops : Before → Why → Reading
stops b why = record { items = []; rest = cuts why b.names }

-- the document ends at a place
abbrev pub completes : (offset : ℕ) → Reading
completes offset = record { items = Closes offset ∷ []; rest = [] }

-- where no lexeme comes any more, of a document with so many bytes
abbrev pub at_end : Before → (length : ℕ) → Step → Reading
at_end b length (step.Lexeme l) = stops b Need
at_end b length step.Need = stops b Need
at_end b length step.End = if is_complete b then completes length else stops b (Bad (record { kind = Truncated; offset = length }))
at_end b length (step.Bad fault) = stops b (Bad fault)
at_end b length step.Memory = stops b Need

-- a lexeme is the last one where it has a fault
abbrev pub judged : Option XmlKind → Before → Lexeme → Reading → Reading
judged (Some kind) b l r = stops b (Bad (record { kind = kind; offset = l.offset }))
judged None b l r = record r { items = items_of b l.offset l.body ++ r.items }

module _ (limits : Limits) (length : ℕ) (last : Step) where
  -- what is read of lexemes, after which `last` comes
  abbrev pub reading : Before → List Lexeme → Reading
  reading b [] = at_end b length last
  reading b (l ∷ ls) = judged (fault_of limits b l.body) b l (reading (before_next b l.body) ls)

-- what is read of what a lexer has before it
abbrev pub reading_from : Limits → Before → Reader → Reading
reading_from limits b r = reading limits (fed r) (lexed_from r).last b (lexed_from r).lexemes

abbrev pub inner : Future → Forest
inner [] = Cut Need
inner (list ∷ lists) = list

abbrev pub outer : Future → Future
outer [] = []
outer (list ∷ lists) = lists

-- A text before a list: it joins a text that follows it, and is placed at the first of the two; one before a cut is no node, nor is
-- an empty one.
abbrev pub text_before : (offset : ℕ) → List ℕ → Forest → Forest
text_before offset text (Single mark (Chars later more) next) = Single mark (Chars offset (text ++ more)) next
text_before offset [] list = list
text_before offset (c ∷ cs) (Cut why) = Cut why
text_before offset (c ∷ cs) list = Single Fresh (Chars offset (c ∷ cs)) list

-- an item, and then a future
abbrev pub with_item : Item → Future → Future
with_item (Opens element) f = Nested Waiting element (inner f) (inner (outer f)) ∷ outer (outer f)
with_item (Closes offset) f = End Fresh offset ∷ f
with_item (Says offset text) f = text_before offset text (inner f) ∷ outer f
with_item (Stands leaf) f = Single Fresh leaf (inner f) ∷ outer f

-- items, and then a future
abbrev pub with_items : List Item → Future → Future
with_items [] f = f
with_items (i ∷ is) f = with_item i (with_items is f)

-- the lists that a reading gives
abbrev pub lists_of : Reading → Future
lists_of r = with_items r.items r.rest

-- a list without its texts of white space alone
abbrev pub stripped : Forest → Forest
stripped (End mark offset) = End mark offset
stripped (Cut why) = Cut why
stripped (Single mark (Chars offset text) next) = if list_all is_space text then stripped next else Single mark (Chars offset text) (stripped next)
stripped (Single mark (CData offset text) next) = Single mark (CData offset text) (stripped next)
stripped (Single mark (Comment offset text) next) = Single mark (Comment offset text) (stripped next)
stripped (Single mark (Pi offset target text) next) = Single mark (Pi offset target text) (stripped next)
stripped (Nested stage element kids next) = Nested stage element (stripped kids) (stripped next)

-- an element is ready, and its first child known, unless its list is cut before anything in it is known
abbrev pub stage_by : (kids : Forest) → Stage
stage_by (Cut why) = Waiting
stage_by (End mark offset) = Ready (first_of (End mark offset))
stage_by (Single mark leaf next) = Ready (first_of (Single mark leaf next))
stage_by (Nested stage element kids next) = Ready (first_of (Nested stage element kids next))

-- a list whose nodes and ends are marked as told, where they are ready
abbrev pub readied : Forest → Forest
readied (End mark offset) = End Told offset
readied (Cut why) = Cut why
readied (Single mark leaf next) = Single Told leaf (readied next)
readied (Nested stage element kids next) = Nested (stage_by (readied kids)) element (readied kids) (readied next)

-- both, the first only if asked for
abbrev pub finished : (strip : Bool) → Forest → Forest
finished strip list = readied (if strip then stripped list else list)

-- The tree of a document, of which these bytes are all, or where it isn't ended the first ones: what its document node's list holds.
-- With `strip` a text of white space alone is no node, and with `cdata` each CDATA section is a node of its own.
abbrev pub doc_for : Limits → (strip cdata : Bool) → (bytes : List ℕ) → (ended : Bool) → Forest
doc_for limits strip cdata bytes ended = finished strip (inner (lists_of (reading_from limits (starting cdata) (unread limits bytes ended))))

-- the same where CDATA sections aren't recognised
abbrev pub doc : Limits → (strip : Bool) → (bytes : List ℕ) → (ended : Bool) → Forest
doc limits strip bytes ended = doc_for limits strip false bytes ended
