-- What a frame finds once all that is above it is over.
use Rattle.std.specs.Prelude.{ℕ, ◌-◌, ◌==◌, Bool, true, false, if◌then◌else◌, List, [], ◌∷◌, Option, Some, None, length, map, reverse, slice_get, slice_set, unwrap_or}
use Rattle.std.specs.Option.{option_map}
use Rattle.event_buffers.specs.Buffers.{Buffer}
use Rattle.event_buffers.specs.Layer as layer
use Rattle.event_buffers.specs.Layer.{Layer, State, contents}
use Rattle.event_buffers.specs.declared.kept.Kept.{Kept}
use Rattle.node_stack.specs.Path.{Node}
use Rattle.node_stack.specs.Stack.{path, path_node}
use Rattle.node_stack.specs.declared.parked.Parked.{Parked}
use Rattle.template_machine.specs.Lists.{rest_of}
use Rattle.template_machine.specs.Ways.{Way, entered, first_in, left, way_of}
use Rattle.template_machine.specs.declared.run.Run.{Run}
use Rattle.template_machine.specs.declared.source.Ahead.{Ahead}
use Rattle.template_machine.specs.declared.source.Ahead.TheVariants as ahead
use Rattle.template_machine.specs.declared.source.Origin.{Origin}
use Rattle.template_machine.specs.declared.source.Source.{Source}

-- Sources.

-- the front of a list behind what was taken of it: nothing is known of it, it is over, or a head waits
pub data Front : Type 0 where
  Unknown : Front
  Over : Front
  Waits : Node → Front

abbrev pub held_front : Option Parked → Front
held_front None = Unknown
held_front (Some node) = Waits (path_node node).node

abbrev pub front_of : Ahead → Option Parked → Front
front_of ahead.Nothing held = Unknown
front_of ahead.Here held = Unknown
front_of ahead.Held held = held_front held
front_of ahead.Ended held = Over

-- what is known of the list that goes on: its front, and how many lists have begun in its source that haven't ended
pub record Known : Type 0 where
  pub front : Front
  pub begun : ℕ

abbrev pub known_of : Source → Known
known_of s = record { front = front_of s.ahead s.held; begun = s.begun }

-- a source: where its nodes come from, and its path
pub record Stream : Type 0 where
  pub origin : Origin
  pub way : Way

abbrev pub stream_of : Source → Stream
stream_of s = record { origin = s.origin; way = way_of (path s.stack) }

-- a source around the innermost one, and what is known of its innermost list
pub record Outer : Type 0 where
  pub source : Stream
  pub known : Known

abbrev pub outer_of : Source → Outer
outer_of s = record { source = stream_of s; known = known_of s }

abbrev pub known_now : Run → Known
known_now r = known_of r.source

-- how many elements may be open in a source, how many have begun and not ended while its own list goes on, and where a buffer's next event stands
pub record Room : Type 0 where
  pub limit : ℕ
  pub begun : ℕ
  pub next : ℕ

abbrev pub room_of : Source → Room
room_of s = record { limit = (path s.stack).limit; begun = s.begun - 1; next = s.next }

-- of the innermost source and of those around it
abbrev pub rooms_of : Run → List Room
rooms_of r = room_of r.source ∷ map room_of (reverse r.outer.items)

-- Buffers, without what is put into them.

-- a copy of a buffer: open for nothing, written, or read, with what it holds
pub data Usage : Type 0 where
  Free : Usage
  Written : Usage
  Read : List Kept → Usage

abbrev pub usage_by : (held : List Kept) → State → Usage
usage_by held layer.Shut = Free
usage_by held (layer.Writing target) = Written
usage_by held layer.Reading = Read held

abbrev pub usage_of : (declared : List Kept) → Layer → Usage
usage_of declared c = usage_by (contents declared c) c.state

-- a buffer of a group, with its copies, the newest first
pub record Shelf : Type 0 where
  pub group : ℕ
  pub copies : List Usage

abbrev pub shelf_of : Buffer → Shelf
shelf_of b = record { group = b.group; copies = map (usage_of b.declared) b.copies }

abbrev pub shelf_at : List Shelf → (id : ℕ) → Shelf
shelf_at shelves id = unwrap_or (slice_get shelves id) (record { group = 0; copies = [] })

-- the newest copy that is written, and the newest that is read, is open no more
abbrev pub written_closed : List Usage → List Usage
written_closed [] = []
written_closed (Written ∷ us) = Free ∷ us
written_closed (u ∷ us) = u ∷ written_closed us

abbrev pub read_closed : List Usage → List Usage
read_closed [] = []
read_closed (Read held ∷ us) = Free ∷ us
read_closed (u ∷ us) = u ∷ read_closed us

abbrev pub on_shelf : (List Usage → List Usage) → (id : ℕ) → List Shelf → List Shelf
on_shelf f id shelves = slice_set shelves id (record (shelf_at shelves id) { copies = f (shelf_at shelves id).copies })

abbrev pub in_group : (List Usage → List Usage) → (group : ℕ) → Shelf → Shelf
in_group f group s = if s.group == group then record s { copies = f s.copies } else s

-- All of it.

-- the innermost source and those around it, the innermost first; the nodes of bodies that wait for siblings, None for one that is still
-- on the path; the buffers to which parts go, the innermost first; how many copies of its variables each group has; and the buffers
pub record Standing : Type 0 where
  pub source : Stream
  pub around : List Outer
  pub aside : List (Option Node)
  pub targets : List ℕ
  pub copies : List ℕ
  pub shelves : List Shelf

abbrev pub standing_of : Run → Standing
standing_of r = record {
  source = stream_of r.source;
  around = map outer_of (reverse r.outer.items);
  aside = map (option_map (λ p. (path_node p).node)) (reverse r.aside.items);
  targets = reverse r.putting.targets;
  copies = map length r.store;
  shelves = map shelf_of r.putting.buffers.buffers;
}

abbrev pub with_way : Way → Standing → Standing
with_way w s = record s { source = record s.source { way = w } }

-- the current node is over
abbrev pub node_over : Standing → Standing
node_over s = with_way (left s.source.way) s

-- the buffers of these are written no more
abbrev pub writing_over : List ℕ → Standing → Standing
writing_over [] s = s
writing_over (id ∷ ids) s =
    writing_over ids (record s { targets = rest_of s.targets; shelves = on_shelf written_closed id s.shelves })

-- a template's copies are taken off
abbrev pub scope_over : (new_scope : Bool) → (group : ℕ) → Standing → Standing
scope_over false group s = s
scope_over true group s = record s {
  copies = slice_set s.copies group (unwrap_or (slice_get s.copies group) 0 - 1);
  shelves = map (in_group rest_of group) s.shelves;
}

-- the innermost region is over, and the node of its body is the current one again
abbrev pub region_over : Node → List (Option Node) → Standing → Standing
region_over x others s = record (with_way (entered x s.source.way) s) { aside = others }

-- a buffer is read no more
abbrev pub reading_over : (buffer : Option ℕ) → Standing → Standing
reading_over None s = s
reading_over (Some id) s = record s { shelves = on_shelf read_closed id s.shelves }

-- the innermost source is over
abbrev pub source_over : (buffer : Option ℕ) → Stream → List Outer → Standing → Standing
source_over buffer outer around s = record (reading_over buffer s) { source = outer; around = around }

-- the current node waits from here on, whose body asked for siblings
abbrev pub waits_from_here : List Node → List (Option Node) → Standing → Standing
waits_from_here nodes others s = record (node_over s) { aside = first_in nodes ∷ others }

-- children that were skipped are over: their node waits, where its body asked for siblings and it is on the path, or else it is over
abbrev pub skipped_by : List (Option Node) → Standing → Standing
skipped_by [] s = node_over s
skipped_by (None ∷ others) s = waits_from_here s.source.way.nodes others s
skipped_by (Some x ∷ others) s = node_over s

abbrev pub skip_over : Standing → Standing
skip_over s = skipped_by s.aside s
