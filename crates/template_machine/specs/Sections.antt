-- The texts of CDATA sections (XML 1.0, 2.7), in nodes and in buffers.
use Rattle.std.specs.Prelude.{◌≡◌, ℕ, true, Option, Some, None, All}
use Rattle.event_buffers.specs.Buffers.{Buffer, Buffers}
use Rattle.event_buffers.specs.Layer.{Layer}
use Rattle.event_buffers.specs.Sections.{hold_texts}
use Rattle.node_stack.specs.Path.{Node, CData}
use Rattle.node_stack.specs.Stack.{path_node}
use Rattle.node_stack.specs.declared.parked.Parked.{Parked}
use Rattle.stx_base.specs.Character.{is_cdata_text}
use Rattle.template_machine.specs.Deep.{AreAllDeep}

-- the text of a CDATA section may be one
abbrev pub HoldsSection : Node → Type 0
HoldsSection (CData text) = is_cdata_text text ≡ true
HoldsSection n = Unit {0}

-- so of a node that waits, where one does
abbrev pub WaitsWell : Option Node → Type 0
WaitsWell None = Unit {0}
WaitsWell (Some x) = HoldsSection x

-- a node is held, and so of it
abbrev pub IsHeldWell : Option Parked → Type 0
IsHeldWell None = ⊥
IsHeldWell (Some x) = HoldsSection (path_node x).node

-- so of all sections that a buffer holds
pub record HoldSections (b : Buffer) : Type 0 where
  pub declared : hold_texts b.declared ≡ true
  pub copies : All (λ (c : Layer). hold_texts c.kept ≡ true) b.copies

abbrev pub AllHoldSections : Buffers → Type 0
AllHoldSections b = All HoldSections b.buffers

-- Where buffers held what they may, they still do: elements that nest no deeper than a limit, and sections.
pub record HoldStill (old new : Buffers) : Type 0 where
  pub deep : (limit : ℕ) → AreAllDeep limit old → AreAllDeep limit new
  pub sections : AllHoldSections old → AllHoldSections new
