-- Laws of the buffers.
use Rattle.std.specs.Prelude.{◌≡◌, ◌≢◌, ◌≤◌, ℕ, Bool, true, false, List, [], ◌∷◌, ◌++◌, None}
use Rattle.stx_base.specs.declared.part.Part.{Part}
use Rattle.result_writer.specs.Nodes as nodes
use Rattle.result_writer.specs.Target.{Left, holds_cdata_text, whole_fault}
use Rattle.xml_events.specs.Telling.{events_in}
use Rattle.xml_events.specs.declared.event.Event.{Event}
use Rattle.event_buffers.specs.Buffers.{Buffers, busy_at, copies_of, is_read, is_written, on_buffer, on_first, on_group, on_newest, read_at, refusal_at, taken_off, unclosed_at}
use Rattle.event_buffers.specs.Forest.{forest, is_balanced, plain}
use Rattle.event_buffers.specs.Kept.{added, kept_of}
use Rattle.event_buffers.specs.Layer.{Layer, all_put, closed, laid, opened_read, opened_write, with_part}
use Rattle.event_buffers.specs.Nesting.{AreShallow, IsShallowContent, TellWithin, deepest}
use Rattle.event_buffers.specs.Sections.{hold_texts, tell_texts}
use Rattle.event_buffers.specs.Told.{told}
use Rattle.event_buffers.specs.declared.kept.Kept.{Kept}
use Rattle.event_buffers.specs.declared.kept.Kept.TheVariants.{Chars}

-- Copies laid over those of a group, changed in any way and taken off leave what was.
abbrev pub LaidOverAndTakenOff : Type 0
LaidOverAndTakenOff =
    (b : Buffers) (group : ℕ) (f : Layer → Layer) → on_group taken_off group (on_group (on_newest f) group (on_group (λ copies. laid ∷ copies) group b)) ≡ b

-- What is done to one buffer leaves the others as they were.
abbrev pub OtherBuffersStay : Type 0
OtherBuffersStay =
    (b : Buffers) (f : List Layer → List Layer) (id other : ℕ) → other ≢ id → copies_of (on_buffer f id b) other ≡ copies_of b other

-- Parts go past a newer copy that isn't open to be written.
abbrev pub OlderTakesParts : Type 0
OlderTakesParts = (f : Layer → Layer) (c : Layer) (copies : List Layer) → is_written c ≡ false → on_first is_written f (c ∷ copies) ≡ c ∷ on_first is_written f copies

-- What is kept of parts that have no fault and leave nothing open is their nodes, each element with its end.
abbrev pub KeptIsWhatWasPut : Type 0
KeptIsWhatWasPut =
    (limit : ℕ) (ps : List Part) → whole_fault limit ps ≡ None → (plain (forest (kept_of ps)) ≡ nodes.forest ps) × (is_balanced (kept_of ps) 0 ≡ true)

-- A copy that is emptied, and into which parts are put, holds what is kept of them.
abbrev pub PutIsKept : Type 0
PutIsKept =
    (elements : ℕ) (ps : List Part) (c : Layer)
    → (all_put ps (opened_write elements true c)).kept ≡ kept_of ps

-- Where each element ends, the events are those of the nodes.
abbrev pub EventsTellTheForest : Type 0
EventsTellTheForest = (ks : List Kept) (end : ℕ → Event) → is_balanced ks 0 ≡ true → events_in end (forest ks) ≡ told ks ++ end 0 ∷ []

-- Texts that touch are one node.
abbrev pub TextsJoin : Type 0
TextsJoin = (before behind : List Kept) (a b : List ℕ) → told (before ++ Chars a ∷ Chars b ∷ behind) ≡ told (before ++ Chars (a ++ b) ∷ behind)

-- The texts of CDATA sections that are put may be ones, and so may those that are told.
abbrev pub SectionsStay : Type 0
SectionsStay = (l : Left) (p : Part) (ks : List Kept) → holds_cdata_text p ≡ true → hold_texts ks ≡ true → hold_texts (ks ++ added l p) ≡ true

abbrev pub SectionsAreTold : Type 0
SectionsAreTold = (ks : List Kept) → hold_texts ks ≡ true → tell_texts (told ks) ≡ true

-- No copy ever nests deeper than the limit that writing allows, or than the declared contents do, whichever is greater.

-- what is declared nests as deep as its parts, which have no fault
abbrev pub DeclaredIsShallow : Type 0
DeclaredIsShallow = (most limit : ℕ) (ps : List Part) → whole_fault most ps ≡ None → deepest ps ≤ limit → IsShallowContent limit (kept_of ps)

-- each call that changes buffers keeps it so
abbrev pub LayingIsShallow : Type 0
LayingIsShallow = (limit group : ℕ) (b : Buffers) → AreShallow limit b
    → AreShallow limit (on_group (λ copies. laid ∷ copies) group b) × AreShallow limit (on_group taken_off group b)

abbrev pub OpeningIsShallow : Type 0
OpeningIsShallow = (limit id : ℕ) (clear : Bool) (b : Buffers) → AreShallow limit b → busy_at b id ≡ None
    → AreShallow limit (on_buffer (on_newest (opened_write b.elements clear)) id b) × AreShallow limit (on_buffer (on_newest opened_read) id b)

abbrev pub PuttingIsShallow : Type 0
PuttingIsShallow = (limit id : ℕ) (p : Part) (b : Buffers) → AreShallow limit b → refusal_at b id p ≡ None
    → AreShallow limit (on_buffer (on_first is_written (with_part p)) id b)

abbrev pub ClosingIsShallow : Type 0
ClosingIsShallow = (limit id : ℕ) (b : Buffers) → AreShallow limit b
    → (unclosed_at b id ≡ None → AreShallow limit (on_buffer (on_first is_written closed) id b)) × AreShallow limit (on_buffer (on_first is_read closed) id b)

-- what is told of it nests no deeper
abbrev pub ToldIsShallow : Type 0
ToldIsShallow = (limit id : ℕ) (b : Buffers) → AreShallow limit b → TellWithin limit 0 (told (read_at b id))
