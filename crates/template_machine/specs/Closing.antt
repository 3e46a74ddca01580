-- What is there where a list is over: a body's node that is still on the path, and the stream of a buffer.
use Rattle.std.specs.Prelude.{◌≡◌, ◌<◌, Bool, true, false, List, Option, Some, None, IsSome, length, map}
use Rattle.node_stack.specs.Path.{Node}
use Rattle.template_machine.specs.Sections.{HoldStill}
use Rattle.template_machine.specs.Standing.{Shelf, on_shelf, read_closed, shelf_at, shelf_of}
use Rattle.template_machine.specs.Well.{read_from}
use Rattle.template_machine.specs.declared.putting.Putting.{Putting}
use Rattle.template_machine.specs.declared.source.Origin.{Origin}
use Rattle.template_machine.specs.declared.source.Origin.TheVariants as origin

-- the body of the innermost region asked for siblings of a node that is still on the path
abbrev pub is_slot : Option (Option Node) → Bool
is_slot None = false
is_slot (Some None) = true
is_slot (Some (Some x)) = false

-- a copy of the buffer is read from which a source's events come
abbrev pub IsOpenStream : Origin → List Shelf → Type 0
IsOpenStream (origin.Buffer id at) shelves = (id < length shelves) × IsSome (read_from (shelf_at shelves id).copies)
IsOpenStream o shelves = Unit {0}

-- it is read no more
abbrev pub closed_by : Origin → List Shelf → List Shelf
closed_by (origin.Buffer id at) shelves = on_shelf read_closed id shelves
closed_by o shelves = shelves

pub record ClosesStream (o : Origin) (old new : Putting) : Type 0 where
  pub targets : new.targets ≡ old.targets
  pub shelves : map shelf_of new.buffers.buffers ≡ closed_by o (map shelf_of old.buffers.buffers)
  pub holds : HoldStill old.buffers new.buffers
