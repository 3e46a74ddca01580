-- Buffers, each with its copies, the newest first.
use Rattle.std.specs.Prelude.{◌≡◌, ℕ, ◌<◌, Bool, ◌==◌, if◌then◌else◌, List, [], ◌∷◌, Option, Some, None, length, map, slice_get, slice_set, unwrap_or}
use Rattle.std.specs.List.{Contains, find}
use Rattle.std.specs.Option.{option_and_then}
use Rattle.stx_base.specs.declared.part.Part.{Part}
use Rattle.event_buffers.specs.Layer.{Layer, busy, contents, is_reading, is_writing, refusal, unclosed}
use Rattle.event_buffers.specs.declared.fault.BufferFault.{BufferFault}
use Rattle.event_buffers.specs.declared.kept.Kept.{Kept}

-- a buffer of a group, with its declared content
pub record Buffer : Type 0 where
  pub group : ℕ
  pub declared : List Kept
  pub copies : List Layer

-- the buffers of a sheet, by their numbers, with the greatest weight of one and the number of elements that may be open in one
pub record Buffers : Type 0 where
  pub limit : ℕ
  pub elements : ℕ
  pub buffers : List Buffer

-- Copies of one buffer.

abbrev pub newest : List Layer → Option Layer
newest [] = None
newest (c ∷ copies) = Some c

abbrev pub on_newest : (Layer → Layer) → List Layer → List Layer
on_newest f [] = []
on_newest f (c ∷ copies) = f c ∷ copies

abbrev pub taken_off : List Layer → List Layer
taken_off [] = []
taken_off (c ∷ copies) = copies

-- a change of the first copy of which the test holds
abbrev pub on_first : (Layer → Bool) → (Layer → Layer) → List Layer → List Layer
on_first test f [] = []
on_first test f (c ∷ copies) = if test c then f c ∷ copies else c ∷ on_first test f copies

abbrev pub is_written : Layer → Bool
is_written c = is_writing c.state

abbrev pub is_read : Layer → Bool
is_read c = is_reading c.state

-- the newest copy that is open to be written, and to be read
abbrev pub written : List Layer → Option Layer
written = find is_written

abbrev pub read : List Layer → Option Layer
read = find is_read

-- All buffers.

abbrev pub none : Buffer
none = record { group = 0; declared = []; copies = [] }

abbrev pub buffer_at : Buffers → (id : ℕ) → Buffer
buffer_at b id = unwrap_or (slice_get b.buffers id) none

abbrev pub copies_of : Buffers → (id : ℕ) → List Layer
copies_of b id = (buffer_at b id).copies

abbrev pub with_copies : (List Layer → List Layer) → Buffer → Buffer
with_copies f b = record b { copies = f b.copies }

-- the buffers with other copies of one
abbrev pub on_buffer : (List Layer → List Layer) → (id : ℕ) → Buffers → Buffers
on_buffer f id b = record b { buffers = slice_set b.buffers id (with_copies f (buffer_at b id)) }

-- why the newest copy can't be opened, the one that is written can't take a part, and can't be closed
abbrev pub busy_at : Buffers → (id : ℕ) → Option BufferFault
busy_at b id = option_and_then busy (newest (copies_of b id))

abbrev pub refusal_at : Buffers → (id : ℕ) → Part → Option BufferFault
refusal_at b id p = option_and_then (refusal b.limit (buffer_at b id).declared p) (written (copies_of b id))

abbrev pub unclosed_at : Buffers → (id : ℕ) → Option BufferFault
unclosed_at b id = option_and_then unclosed (written (copies_of b id))

-- what the copy holds that is read
abbrev pub held_by : (declared : List Kept) → Option Layer → List Kept
held_by declared None = []
held_by declared (Some c) = contents declared c

abbrev pub read_at : Buffers → (id : ℕ) → List Kept
read_at b id = held_by (buffer_at b id).declared (read (copies_of b id))

-- Groups.

-- the copies of a buffer are changed where it is of the group
abbrev pub in_group : (List Layer → List Layer) → (group : ℕ) → Buffer → Buffer
in_group f group b = if b.group == group then with_copies f b else b

abbrev pub on_group : (List Layer → List Layer) → (group : ℕ) → Buffers → Buffers
on_group f group b = record b { buffers = map (in_group f group) b.buffers }

-- the newest copy of each buffer of the group is laid over another, and open for nothing
abbrev pub CanTakeOff : (group : ℕ) → Buffers → Type 0
CanTakeOff group b =
    (x : Buffer) → Contains b.buffers x → x.group ≡ group → (1 < length x.copies) × (option_and_then busy (newest x.copies) ≡ None)
