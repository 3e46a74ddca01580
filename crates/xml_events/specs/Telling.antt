-- Events, as what they tell of a tree.
use Rattle.std.specs.Prelude.{◌≡◌, ℕ, List, [], ◌∷◌, ◌++◌, Option, Some, None}
use Rattle.std.specs.Option.{option_or}
use Rattle.stx_base.specs.declared.node.First.{First}
use Rattle.stx_base.specs.declared.node.First.TheVariants as child
use Rattle.xml_events.specs.declared.event.Event.{Event}
use Rattle.xml_events.specs.declared.event.Event.TheVariants as event
use Rattle.xml_events.specs.declared.event.Pull.{Pull}
use Rattle.xml_events.specs.declared.event.Pull.TheVariants as pull
use Rattle.xml_events.specs.Document.{inner, outer}
use Rattle.xml_events.specs.Tree.{Why, Need, Bad, Told, Ready, Leaf, Chars, CData, Comment, Pi, Element, Forest, End, Cut, Single, Nested, Future}
pub use Rattle.xml_events.specs.Tree.{first_of}

-- the event of a leaf
abbrev pub event_of : Leaf → Event
event_of (Chars offset text) = event.Chars offset text
event_of (CData offset text) = event.CData offset text
event_of (Comment offset text) = event.Comment offset text
event_of (Pi offset target text) = event.Pi offset target text

-- the event of an element's start
abbrev pub start_of : Element → First → Event
start_of e first = event.Start e.offset e.name e.attrs e.decls first

-- An event, and then a future: what the event tells stands first in the innermost list, or is its end. An element keeps what its
-- start tells of its first child.
abbrev pub followed : Event → Future → Future
followed (event.Start offset name attrs decls first) f =
    Nested (Ready first) (record { offset = offset; name = name; attrs = attrs; decls = decls }) (inner f) (inner (outer f)) ∷ outer (outer f)
followed (event.End offset) f = End Told offset ∷ f
followed (event.Chars offset text) f = Single Told (Chars offset text) (inner f) ∷ outer f
followed (event.CData offset text) f = Single Told (CData offset text) (inner f) ∷ outer f
followed (event.Comment offset text) f = Single Told (Comment offset text) (inner f) ∷ outer f
followed (event.Pi offset target text) f = Single Told (Pi offset target text) (inner f) ∷ outer f
followed (event.DocumentEnd offset) f = End Told offset ∷ f

-- events, and then a future
abbrev pub told : List Event → Future → Future
told [] f = f
told (e ∷ es) f = followed e (told es f)

-- why there is no event
abbrev pub no_event : Why → Pull
no_event Need = pull.Need
no_event (Bad fault) = pull.Bad fault

-- a list has no other first node than this tells
abbrev pub HasFirst : First → Forest → Type 0
HasFirst first (Cut why) = Unit {0}
HasFirst first (End mark offset) = first ≡ first_of (End mark offset)
HasFirst first (Single mark leaf next) = first ≡ first_of (Single mark leaf next)
HasFirst first (Nested stage element kids next) = first ≡ first_of (Nested stage element kids next)

-- A future agrees with an element's start where the first node that it has for the element's list, if it has one, is the one that the
-- start tells. It agrees with every other event.
abbrev pub Agrees : Event → Future → Type 0
Agrees (event.Start offset name attrs decls first) f = HasFirst first (inner f)
Agrees other f = Unit {0}

-- an element is told with its first child, or can't be told yet
abbrev pub start_pulled : Element → (kids : Forest) → Pull
start_pulled e (Cut why) = no_event why
start_pulled e (End mark offset) = pull.Event (start_of e child.Nothing)
start_pulled e (Single mark leaf next) = pull.Event (start_of e (first_of (Single mark leaf next)))
start_pulled e (Nested mark element kids next) = pull.Event (start_of e child.Other)

-- the end of a list that stands in others is that of an element, and else that of the document
abbrev pub end_at : (offset : ℕ) → (outer : Future) → Event
end_at offset [] = event.DocumentEnd offset
end_at offset (list ∷ lists) = event.End offset

-- The answer that a future calls for: the event of what stands first in the innermost list, if that is ready; and else why it isn't.
-- Where no list is open any more, that is the end.
abbrev pub pulled : Future → Pull
pulled [] = pull.End
pulled (End mark offset ∷ lists) = pull.Event (end_at offset lists)
pulled (Cut why ∷ lists) = no_event why
pulled (Single mark leaf next ∷ lists) = pull.Event (event_of leaf)
pulled (Nested mark element kids next ∷ lists) = start_pulled element kids

-- The events of a list in document order, behind which the list's own end is told so. An element that isn't ready has none, and
-- nothing is told behind a cut.
abbrev pub events_in : (end : ℕ → Event) → Forest → List Event
events_in end (End mark offset) = end offset ∷ []
events_in end (Cut why) = []
events_in end (Single mark leaf next) = event_of leaf ∷ events_in end next
events_in end (Nested mark element (Cut why) next) = []
events_in end (Nested mark element kids next) =
    start_of element (first_of kids) ∷ (events_in event.End kids ++ events_in end next)

-- the events of a document
abbrev pub events_of : Forest → List Event
events_of tree = events_in event.DocumentEnd tree

-- why a list, or one in it, goes no further, if so
abbrev pub stop_in : Forest → Option Why
stop_in (End mark offset) = None
stop_in (Cut why) = Some why
stop_in (Single mark leaf next) = stop_in next
stop_in (Nested mark element kids next) = option_or (stop_in kids) (stop_in next)
