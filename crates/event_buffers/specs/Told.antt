-- What is kept, as events (XML 1.0, 2.1 and 3.1; Namespaces in XML 1.0, 2.1).
use Rattle.std.specs.Prelude.{◌≡◌, ℕ, List, [], ◌∷◌, ◌++◌, Option, Some, None, drop, slice_get}
use Rattle.stx_base.specs.declared.name.Attr.{Attr}
use Rattle.stx_base.specs.declared.node.First.{First}
use Rattle.stx_base.specs.declared.node.First.TheVariants as first
use Rattle.result_writer.specs.Table.{prefixes, with_element}
use Rattle.result_writer.specs.declared.opened.SettledTag.{SettledTag}
use Rattle.xml_events.specs.declared.event.Event.{Event}
use Rattle.xml_events.specs.declared.event.Event.TheVariants as event
use Rattle.event_buffers.specs.declared.kept.Kept.{Kept}
use Rattle.event_buffers.specs.declared.kept.Kept.TheVariants.{Start, End, Chars, CData, Comment, Pi}
use Rattle.event_buffers.specs.declared.told.Told.{Told}

-- attributes with other prefixes
abbrev pub prefixed : (prefixes : List (List ℕ)) → List Attr → List Attr
prefixed [] attrs = []
prefixed (p ∷ ps) [] = []
prefixed (p ∷ ps) (a ∷ attrs) = record a { name = record a.name { prefix = p } } ∷ prefixed ps attrs

-- the attributes of a tag as they are written
abbrev pub written_attrs : SettledTag → List Attr
written_attrs tag = prefixed (prefixes (with_element tag.name) tag.attrs) tag.attrs

-- the first child of an element behind whose start these events come
abbrev pub first_in : List Event → First
first_in [] = first.Nothing
first_in (event.Start offset name attrs decls child ∷ events) = first.Other
first_in (event.End offset ∷ events) = first.Nothing
first_in (event.Chars offset text ∷ events) = first.Chars text
first_in (event.CData offset text ∷ events) = first.Chars text
first_in (event.Comment offset text ∷ events) = first.Other
first_in (event.Pi offset target text ∷ events) = first.Other
first_in (event.DocumentEnd offset ∷ events) = first.Nothing

-- a text before events: an empty one is none, and it joins a text that follows it
abbrev pub text_before : List ℕ → List Event → List Event
text_before [] events = events
text_before (c ∷ cs) (event.Chars offset more ∷ events) = event.Chars 0 (c ∷ cs ++ more) ∷ events
text_before (c ∷ cs) events = event.Chars 0 (c ∷ cs) ∷ events

-- the event of a start tag
abbrev pub start : SettledTag → First → Event
start tag child = event.Start 0 tag.name (written_attrs tag) tag.declared child

-- the event of what is kept, where this is the first child of an element that starts there
abbrev pub event_of : First → Kept → Event
event_of child (Start tag) = start tag child
event_of child End = event.End 0
event_of child (Chars text) = event.Chars 0 text
event_of child (CData text) = event.CData 0 text
event_of child (Comment text) = event.Comment 0 text
event_of child (Pi target text) = event.Pi 0 target text

-- one more before events
abbrev pub event_before : Kept → List Event → List Event
event_before (Chars text) events = text_before text events
event_before k events = event_of (first_in events) k ∷ events

-- the events of what is kept, each at offset 0; texts that touch are one
abbrev pub told : List Kept → List Event
told [] = []
told (k ∷ ks) = event_before k (told ks)

-- at a place there is an event, behind which come those from another place on, or none
abbrev pub IsToldAt : List Kept → (place : ℕ) → Option Told → Type 0
IsToldAt ks place None = told (drop place ks) ≡ []
IsToldAt ks place (Some t) = told (drop place ks) ≡ t.event ∷ told (drop t.next ks)

-- the first child of an element, in which this stands first and no text stands before it
abbrev pub first_of : Option Kept → First
first_of None = first.Nothing
first_of (Some (Start tag)) = first.Other
first_of (Some End) = first.Nothing
first_of (Some (Chars text)) = first.Chars text
first_of (Some (CData text)) = first.Chars text
first_of (Some (Comment text)) = first.Other
first_of (Some (Pi target text)) = first.Other

-- the text at a place, if one stands there
abbrev pub text_of : Option Kept → Option (List ℕ)
text_of None = None
text_of (Some (Chars text)) = Some text
text_of (Some k) = None

abbrev pub text_at : List Kept → (place : ℕ) → Option (List ℕ)
text_at ks place = text_of (slice_get ks place)
