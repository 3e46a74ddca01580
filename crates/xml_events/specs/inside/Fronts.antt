-- What was read and wasn't given yet.
use Rattle.std.specs.Prelude.{◌≡◌, ◌≤◌, ℕ, ◌+◌, ◌-◌, length, List, [], ◌∷◌, ◌++◌, map, Option, Some, None, Bool, true, false, ◌&&◌, if◌then◌else◌}
use Rattle.std.specs.List.{list_all}
use Rattle.stx_base.specs.Character.{is_space}
use Rattle.stx_base.specs.declared.node.First.{First}
use Rattle.stx_base.specs.declared.node.First.TheVariants as child
use Rattle.xml_events.specs.declared.event.Event.{Event}
use Rattle.xml_events.specs.declared.event.Event.TheVariants as event
use Rattle.xml_events.specs.declared.front.After.{After}
use Rattle.xml_events.specs.declared.front.After.TheVariants as after
use Rattle.xml_events.specs.declared.front.Front.{Front}
use Rattle.xml_events.specs.declared.front.Run.{Run}
use Rattle.xml_events.specs.declared.front.Tag.{Tag}
use Rattle.xml_events.specs.Document.{Item, Opens, Closes, Says, Stands, element_at, finished, with_items}
use Rattle.xml_events.specs.Telling.{told}
use Rattle.xml_events.specs.Tree.{Chars, CData, Comment, Pi, Forest, End, Cut, Single, Nested, Future}

-- What a front's fields mean.

-- the start of an element whose first child is known
abbrev pub started : Tag → First → List Event
started tag first = event.Start tag.offset tag.resolved.name tag.resolved.attrs tag.resolved.decls first ∷ []

-- that of the held one, if one is
abbrev pub begun : Option Tag → First → List Event
begun None first = []
begun (Some tag) first = started tag first

-- a text that is known
abbrev pub run_events : Option Run → List Event
run_events None = []
run_events (Some run) = event.Chars run.offset run.text ∷ []

-- what follows both, with its tag, where it has one
abbrev pub after_events : After → Option Tag → List Event
after_events after.Open next = []
after_events (after.Empty offset) next = begun next child.Nothing ++ event.End offset ∷ []
after_events (after.End offset) next = event.End offset ∷ []
after_events (after.CData offset text) next = event.CData offset text ∷ []
after_events (after.Comment offset text) next = event.Comment offset text ∷ []
after_events (after.Pi offset target text) next = event.Pi offset target text ∷ []

-- the element that is held behind that
abbrev pub held_after : After → Option Tag → Option Tag
held_after after.Open next = next
held_after other next = None

-- the events that are known
abbrev pub known_of : Front → List Event
known_of x = if x.settled then (begun x.held x.first ++ run_events x.run) ++ after_events x.after x.next else []

-- the innermost open element, where its first child isn't known
abbrev pub held_of : Front → Option Tag
held_of x = if x.settled then held_after x.after x.next else x.held

-- the text that nothing else followed yet
abbrev pub run_of : Front → Option Run
run_of x = if x.settled then None else x.run

abbrev pub tag_items : Option Tag → List Item
tag_items None = []
tag_items (Some tag) = Opens (element_at tag.offset tag.resolved) ∷ []

abbrev pub run_items : Option Run → List Item
run_items None = []
run_items (Some run) = Says run.offset run.text ∷ []

-- the items that were read and of which no event is known
abbrev pub items_of : Front → List Item
items_of x = tag_items (held_of x) ++ run_items (run_of x)

-- what a front makes of a document's lists that are still to be read
abbrev pub shown : Front → Future → Future
shown x f = told (known_of x) (map (finished x.strip) (with_items (items_of x) f))

-- what a list tells as the first child of an element, where no text stands first in it and it isn't cut
abbrev pub first_in : Forest → Option First
first_in (End mark offset) = Some child.Nothing
first_in (Cut why) = None
first_in (Single mark (Chars offset text) next) = None
first_in (Single mark (CData offset text) next) = Some (child.Chars text)
first_in (Single mark (Comment offset text) next) = Some child.Other
first_in (Single mark (Pi offset target text) next) = Some child.Other
first_in (Nested mark element kids next) = Some child.Other

-- what an event tells as the first child of an element that begins directly before
abbrev pub first_by : Event → First
first_by (event.Start offset name attrs decls first) = child.Other
first_by (event.End offset) = child.Nothing
first_by (event.Chars offset text) = child.Chars text
first_by (event.CData offset text) = child.Chars text
first_by (event.Comment offset text) = child.Other
first_by (event.Pi offset target text) = child.Other
first_by (event.DocumentEnd offset) = child.Nothing

-- what events tell so, or else what follows them
abbrev pub first_by_all : List Event → Option First → Option First
first_by_all [] behind = behind
first_by_all (e ∷ es) behind = Some (first_by e)

-- a start tells what follows it, and no event ends the document
abbrev pub TellsFirst : Event → Option First → Type 0
TellsFirst (event.Start offset name attrs decls first) next = next ≡ Some first
TellsFirst (event.End offset) next = Unit {0}
TellsFirst (event.Chars offset text) next = Unit {0}
TellsFirst (event.CData offset text) next = Unit {0}
TellsFirst (event.Comment offset text) next = Unit {0}
TellsFirst (event.Pi offset target text) next = Unit {0}
TellsFirst (event.DocumentEnd offset) next = ⊥

-- each start among events tells its element's first child, where this follows them
abbrev pub TellFirst : List Event → Option First → Type 0
TellFirst [] behind = Unit {0}
TellFirst (e ∷ es) behind = TellsFirst e (first_by_all es behind) × TellFirst es behind

-- what an open element tells that wasn't begun
abbrev pub first_held : Option Tag → Option First
first_held None = None
first_held (Some tag) = Some child.Other

-- the events that are known tell the first children
abbrev pub IsTelling : Front → Type 0
IsTelling x = TellFirst (known_of x) (first_held (held_of x))

-- a front of which nothing was read
pub record IsEmpty (strip : Bool) (x : Front) : Type 0 where
  pub strip_is : x.strip ≡ strip
  pub known : (known_of x) ≡ []
  pub held : (held_of x) ≡ None
  pub run : (run_of x) ≡ None

-- the event that was known first was given
pub record Gives (old new : Front) (e : Event) : Type 0 where
  pub strip : new.strip ≡ old.strip
  pub known : (known_of old) ≡ e ∷ (known_of new)
  pub held : (held_of new) ≡ (held_of old)
  pub run : (run_of new) ≡ (run_of old)

-- no event is known, and nothing has changed
pub record IsDry (old new : Front) : Type 0 where
  pub strip : new.strip ≡ old.strip
  pub none : (known_of old) ≡ []
  pub dry : new.settled ≡ false
  pub known : (known_of new) ≡ []
  pub held : (held_of new) ≡ (held_of old)
  pub run : (run_of new) ≡ (run_of old)

-- an event was appended
pub record Pushes (events : List Event) (old new : Front) : Type 0 where
  pub strip : new.strip ≡ old.strip
  pub known : (known_of new) ≡ (known_of old) ++ events
  pub held : (held_of new) ≡ (held_of old)
  pub run : (run_of new) ≡ (run_of old)

-- a text that is no node: an empty one, or where texts of white space alone are stripped, such a one (XML 1.0, 2.10)
abbrev pub is_no_node : (strip : Bool) → List ℕ → Bool
is_no_node strip [] = true
is_no_node strip (c ∷ cs) = strip && list_all is_space (c ∷ cs)

-- the text that is a node, if one is
abbrev pub node_in : (strip : Bool) → Option Run → Option Run
node_in strip None = None
node_in strip (Some run) = if is_no_node strip run.text then None else Some run

-- The events that are known of an element and a text that are read, where something follows them that tells this as a first child.
abbrev pub settled : Option Tag → Option Run → (next : First) → List Event
settled held None next = begun held next
settled held (Some run) next = begun held (child.Chars run.text) ++ event.Chars run.offset run.text ∷ []

-- they are known, where this follows them
pub record IsSettled (next : First) (old new : Front) : Type 0 where
  pub strip : new.strip ≡ old.strip
  pub known : new.settled ≡ true
  pub shows : begun new.held new.first ++ run_events new.run ≡ settled old.held (node_in old.strip old.run) next

-- the text was dropped unless it is a node
pub record Strips (old new : Front) : Type 0 where
  pub strip : new.strip ≡ old.strip
  pub held : new.held ≡ old.held
  pub run : new.run ≡ node_in old.strip old.run

-- they were told
pub record Settles (next : First) (old new : Front) : Type 0 where
  pub strip : new.strip ≡ old.strip
  pub known : (known_of new) ≡ settled (held_of old) (node_in old.strip (run_of old)) next
  pub held : (held_of new) ≡ None
  pub run : (run_of new) ≡ None

-- an event of a leaf that stands by itself, or of an end; it tells this as a first child
abbrev pub IsPlain : Event → First → Type 0
IsPlain (event.End offset) next = next ≡ child.Nothing
IsPlain (event.CData offset text) next = next ≡ child.Chars text
IsPlain (event.Comment offset text) next = next ≡ child.Other
IsPlain (event.Pi offset target text) next = next ≡ child.Other
IsPlain other next = ⊥

-- what it is in the tree
abbrev pub plain_items : Event → List Item
plain_items (event.End offset) = Closes offset ∷ []
plain_items (event.CData offset text) = Stands (CData offset text) ∷ []
plain_items (event.Comment offset text) = Stands (Comment offset text) ∷ []
plain_items (event.Pi offset target text) = Stands (Pi offset target text) ∷ []
plain_items other = []

-- what follows is such a leaf or an end, and tells this as a first child
abbrev pub Follows : After → First → Type 0
Follows (after.End offset) next = next ≡ child.Nothing
Follows (after.CData offset text) next = next ≡ child.Chars text
Follows (after.Comment offset text) next = next ≡ child.Other
Follows (after.Pi offset target text) next = next ≡ child.Other
Follows other next = ⊥

-- what it is in the tree
abbrev pub after_items : After → List Item
after_items (after.End offset) = Closes offset ∷ []
after_items (after.CData offset text) = Stands (CData offset text) ∷ []
after_items (after.Comment offset text) = Stands (Comment offset text) ∷ []
after_items (after.Pi offset target text) = Stands (Pi offset target text) ∷ []
after_items other = []

-- how many lists are open before events, where so many are behind them
abbrev pub width : List Event → ℕ → ℕ
width [] n = n
width (event.Start offset name attrs decls first ∷ es) n = width es n - 1
width (event.End offset ∷ es) n = width es n + 1
width (event.Chars offset text ∷ es) n = width es n
width (event.CData offset text ∷ es) n = width es n
width (event.Comment offset text ∷ es) n = width es n
width (event.Pi offset target text ∷ es) n = width es n
width (event.DocumentEnd offset ∷ es) n = width es n + 1

-- behind each start among events two lists are open at least
abbrev pub AreWide : List Event → ℕ → Type 0
AreWide [] n = Unit {0}
AreWide (event.Start offset name attrs decls first ∷ es) n = (2 ≤ width es n) × AreWide es n
AreWide (event.End offset ∷ es) n = AreWide es n
AreWide (event.Chars offset text ∷ es) n = AreWide es n
AreWide (event.CData offset text ∷ es) n = AreWide es n
AreWide (event.Comment offset text ∷ es) n = AreWide es n
AreWide (event.Pi offset target text ∷ es) n = AreWide es n
AreWide (event.DocumentEnd offset ∷ es) n = AreWide es n

-- how many lists are open before items
abbrev pub lists_before : List Item → ℕ → ℕ
lists_before [] n = n
lists_before (Opens element ∷ is) n = lists_before is n - 1
lists_before (Closes offset ∷ is) n = lists_before is n + 1
lists_before (Says offset text ∷ is) n = lists_before is n
lists_before (Stands leaf ∷ is) n = lists_before is n

-- a start tag that waits has opened a list
abbrev pub held_lists : Option Tag → ℕ
held_lists None = 0
held_lists (Some tag) = 1

-- where a start tag waits, two lists are open at least
abbrev pub IsNested : Option Tag → ℕ → Type 0
IsNested None n = Unit {0}
IsNested (Some tag) n = 2 ≤ n

-- Behind an element's start and behind a text something may wait; behind other items nothing does.
abbrev pub Waits : (items : List Item) → (old new : Front) → Type 0
Waits [] old new = items_of new ≡ items_of old
Waits (Opens element ∷ []) old new = Unit {0}
Waits (Says offset text ∷ others) old new = Unit {0}
Waits other old new = items_of new ≡ []

-- how many characters wait
abbrev pub waiting : Option Run → ℕ
waiting None = 0
waiting (Some run) = length run.text

-- how many do behind items
abbrev pub waiting_behind : List Item → ℕ → ℕ
waiting_behind [] n = n
waiting_behind (Says offset text ∷ others) n = n + length text
waiting_behind (Opens element ∷ others) n = 0
waiting_behind (Closes offset ∷ others) n = 0
waiting_behind (Stands leaf ∷ others) n = 0

-- Items were taken: what is made of the lists that follow is what was made of the items and these lists.
pub record TakesItems (items : List Item) (old new : Front) : Type 0 where
  pub strip : new.strip ≡ old.strip
  pub telling : IsTelling new
  pub waits : Waits items old new
  pub few : length (known_of new) ≤ 4
  pub text : waiting (run_of new) ≡ waiting_behind items (waiting (run_of old))
  pub wide : (n : ℕ) → 1 ≤ n → IsNested (held_of old) (lists_before items n) → AreWide (known_of new) (n - held_lists (held_of new))
  pub law : (f : Future) → shown old (with_items items f) ≡ shown new f
