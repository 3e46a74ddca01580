-- A document whose CDATA sections aren't recognised has no nodes of them.
use Rattle.std.proofs.Common.{◌≡◌, ℕ, ◌+◌, Bool, true, false, if◌then◌else◌, List, [], ◌∷◌, ◌++◌, length, map, Option, Some, None, refl, sym, subst}
use Rattle.std.specs.List.{list_all}
use Rattle.stx_base.specs.Character.{is_space}
use Rattle.stx_base.specs.declared.fault.XmlKind.{XmlKind}
use Rattle.stx_base.specs.declared.fault.XmlKind.TheVariants.{Truncated}
use Rattle.stx_base.specs.declared.limits.Limits.{Limits}
use Rattle.xml_tokens.specs.Reader.{fed}
use Rattle.xml_tokens.specs.declared.lexeme.Body.{Body}
use Rattle.xml_tokens.specs.declared.lexeme.Body.TheVariants as body
use Rattle.xml_tokens.specs.declared.lexeme.Lexeme.{Lexeme}
use Rattle.xml_tokens.specs.declared.lexeme.Step.{Step}
use Rattle.xml_tokens.specs.declared.lexeme.Step.TheVariants as step
use Rattle.xml_events.specs.Before.{Before, at_start, before_next, behind_text, fault_of, is_complete, is_inside, without_text}
use Rattle.xml_events.specs.Document.{doc, Item, Opens, Closes, Says, Stands, Reading, at_end, cdata_items, completes, finished, inner, items_of, judged, lists_of, outer, reading, reading_from, readied, stops, stripped, text_before, text_items, with_item, with_items}
use Rattle.xml_events.specs.Lexed.{lexed_from, unread}
use Rattle.xml_events.specs.Tree.{Why, Bad, Forest, Future, End, Cut, Single, Nested, Chars, CData, Comment, Pi}
use Rattle.template_machine.specs.Unchanged.{HasNoSections}
use Rattle.template_machine.proofs.Sectionless.{ListsPlain}

-- an item that isn't a CDATA section
abbrev IsPlain : Item → Type 0
IsPlain (Stands (CData offset text)) = ⊥
IsPlain i = Unit {0}

abbrev ArePlain : List Item → Type 0
ArePlain [] = Unit {0}
ArePlain (i ∷ is) = IsPlain i × ArePlain is

plain_append : (is js : List Item) → ArePlain is → ArePlain js → ArePlain (is ++ js)
plain_append [] js h k = k
plain_append (i ∷ is) js h k = (h.0, plain_append is js h.1 k)

-- Lexemes, where sections aren't recognised.

text_plain : (b : Before) (offset : ℕ) (text : List ℕ) → ArePlain (text_items b offset text)
text_plain b offset text = one (is_inside b.names) where
  one : (t : Bool) → ArePlain (if t then Says offset text ∷ [] else [])
  one true = (tt, tt)
  one false = tt

cdata_plain : (b : Before) (offset : ℕ) (text : List ℕ) → b.cdata ≡ false → ArePlain (cdata_items b offset text)
cdata_plain b offset text h =
    subst (λ t. ArePlain (if t then Stands (CData offset text) ∷ [] else text_items b offset text)) (sym h) (text_plain b offset text)

items_plain : (b : Before) (offset : ℕ) (x : Body) → b.cdata ≡ false → ArePlain (items_of b offset x)
items_plain b offset (body.Chars text blank) h = text_plain b offset text
items_plain b offset (body.CData text) h = cdata_plain b offset text h
items_plain b offset (body.Start name attrs true) h = (tt, (tt, tt))
items_plain b offset (body.Start name attrs false) h = (tt, tt)
items_plain b offset (body.End name) h = (tt, tt)
items_plain b offset (body.Comment text) h = (tt, tt)
items_plain b offset (body.Pi target text) h = (tt, tt)
items_plain b offset body.Doctype h = tt
items_plain b offset body.Declaration h = tt

behind_same : (b : Before) (text : List ℕ) → b.cdata ≡ false → (behind_text b text).cdata ≡ false
behind_same b text h = elim (is_inside b.names) as (λ t. (if t then record b { chars = b.chars + length text } else b).cdata ≡ false) [ true ↦ h | false ↦ h ]

next_same : (b : Before) (x : Body) → b.cdata ≡ false → (before_next b x).cdata ≡ false
next_same b (body.Chars text blank) h = behind_same b text h
next_same b (body.CData text) h = elim b.cdata as (λ t. (if t then without_text b else behind_text b text).cdata ≡ false) [ true ↦ h | false ↦ behind_same b text h ]
next_same b (body.Start name attrs true) h = h
next_same b (body.Start name attrs false) h = h
next_same b (body.End name) h = h
next_same b (body.Comment text) h = h
next_same b (body.Pi target text) h = h
next_same b body.Doctype h = h
next_same b body.Declaration h = h

-- What is read.

abbrev ReadsPlain : Reading → Type 0
ReadsPlain r = ArePlain r.items × ListsPlain r.rest

cuts_plain : (why : Why) (names : List (List ℕ)) → ListsPlain (map (λ name. Cut why) names)
cuts_plain why [] = tt
cuts_plain why (name ∷ names) = (tt, cuts_plain why names)

stops_plain : (b : Before) (why : Why) → ReadsPlain (stops b why)
stops_plain b why = (tt, (tt, cuts_plain why b.names))

end_plain : (b : Before) (size : ℕ) (s : Step) → ReadsPlain (at_end b size s)
end_plain b size (step.Lexeme l) = stops_plain b _
end_plain b size step.Need = stops_plain b _
end_plain b size step.End = one (is_complete b) where
  one : (t : Bool) → ReadsPlain (if t then completes size else stops b (Bad (record { kind = Truncated; offset = size })))
  one true = ((tt, tt), tt)
  one false = stops_plain b (Bad (record { kind = Truncated; offset = size }))
end_plain b size (step.Bad fault) = stops_plain b _
end_plain b size step.Memory = stops_plain b _

judged_plain : (o : Option XmlKind) (b : Before) (l : Lexeme) (r : Reading) → ArePlain (items_of b l.offset l.body) → ReadsPlain r → ReadsPlain (judged o b l r)
judged_plain (Some kind) b l r h k = stops_plain b _
judged_plain None b l r h k = (plain_append (items_of b l.offset l.body) r.items h k.0, k.1)

reading_plain : (limits : Limits) (size : ℕ) (last : Step) (b : Before) (ls : List Lexeme) → b.cdata ≡ false → ReadsPlain (reading limits size last b ls)
reading_plain limits size last b [] h = end_plain b size last
reading_plain limits size last b (l ∷ ls) h =
    judged_plain (fault_of limits b l.body) b l (reading limits size last (before_next b l.body) ls) (items_plain b l.offset l.body h)
    (reading_plain limits size last (before_next b l.body) ls (next_same b l.body h))

-- Its lists.

inner_plain : (f : Future) → ListsPlain f → HasNoSections (inner f)
inner_plain [] h = tt
inner_plain (l ∷ ls) h = h.0

outer_plain : (f : Future) → ListsPlain f → ListsPlain (outer f)
outer_plain [] h = tt
outer_plain (l ∷ ls) h = h.1

before_plain : (offset : ℕ) (text : List ℕ) (l : Forest) → HasNoSections l → HasNoSections (text_before offset text l)
before_plain offset text (Single m (Chars later more) next) h = h
before_plain offset text (Single m (CData later more) next) h = absurd h
before_plain offset [] (End m later) h = tt
before_plain offset [] (Cut why) h = tt
before_plain offset [] (Single m (Comment later more) next) h = h
before_plain offset [] (Single m (Pi later target more) next) h = h
before_plain offset [] (Nested stage e kids next) h = h
before_plain offset (c ∷ cs) (End m later) h = tt
before_plain offset (c ∷ cs) (Cut why) h = tt
before_plain offset (c ∷ cs) (Single m (Comment later more) next) h = h
before_plain offset (c ∷ cs) (Single m (Pi later target more) next) h = h
before_plain offset (c ∷ cs) (Nested stage e kids next) h = h

item_plain : (i : Item) (f : Future) → IsPlain i → ListsPlain f → ListsPlain (with_item i f)
item_plain (Opens element) f p h = ((inner_plain f h, inner_plain (outer f) (outer_plain f h)), outer_plain (outer f) (outer_plain f h))
item_plain (Closes offset) f p h = (tt, h)
item_plain (Says offset text) f p h = (before_plain offset text (inner f) (inner_plain f h), outer_plain f h)
item_plain (Stands (Chars offset text)) f p h = (inner_plain f h, outer_plain f h)
item_plain (Stands (CData offset text)) f p h = absurd p
item_plain (Stands (Comment offset text)) f p h = (inner_plain f h, outer_plain f h)
item_plain (Stands (Pi offset target text)) f p h = (inner_plain f h, outer_plain f h)

all_plain : (is : List Item) (f : Future) → ArePlain is → ListsPlain f → ListsPlain (with_items is f)
all_plain [] f p h = h
all_plain (i ∷ is) f p h = item_plain i (with_items is f) p.0 (all_plain is f p.1 h)

-- Its nodes, as they are told.

stripped_plain : (l : Forest) → HasNoSections l → HasNoSections (stripped l)
stripped_plain (End m offset) h = tt
stripped_plain (Cut why) h = tt
stripped_plain (Single m (Chars offset text) next) h = elim (list_all is_space text) as (λ t. HasNoSections (if t then stripped next else Single m (Chars offset text) (stripped next))) [
  | true ↦ stripped_plain next h
  | false ↦ stripped_plain next h
]
stripped_plain (Single m (CData offset text) next) h = absurd h
stripped_plain (Single m (Comment offset text) next) h = stripped_plain next h
stripped_plain (Single m (Pi offset target text) next) h = stripped_plain next h
stripped_plain (Nested stage e kids next) h = (stripped_plain kids h.0, stripped_plain next h.1)

readied_plain : (l : Forest) → HasNoSections l → HasNoSections (readied l)
readied_plain (End m offset) h = tt
readied_plain (Cut why) h = tt
readied_plain (Single m (Chars offset text) next) h = readied_plain next h
readied_plain (Single m (CData offset text) next) h = absurd h
readied_plain (Single m (Comment offset text) next) h = readied_plain next h
readied_plain (Single m (Pi offset target text) next) h = readied_plain next h
readied_plain (Nested stage e kids next) h = (readied_plain kids h.0, readied_plain next h.1)

finished_plain : (strip : Bool) (l : Forest) → HasNoSections l → HasNoSections (finished strip l)
finished_plain true l h = readied_plain (stripped l) (stripped_plain l h)
finished_plain false l h = readied_plain l h

pub documents_have_no_sections : (limits : Limits) (strip : Bool) (bytes : List ℕ) (ended : Bool) → HasNoSections (doc limits strip bytes ended)
documents_have_no_sections limits strip bytes ended =
    let reader = unread limits bytes ended in
    let read = lexed_from reader in
    let r = reading_from limits at_start reader in
    let plain = reading_plain limits (fed reader) read.last at_start read.lexemes refl in
    finished_plain strip (inner (lists_of r)) (inner_plain (lists_of r) (all_plain r.items r.rest plain.0 plain.1))
