-- One copy of a buffer: what it holds, and what it is open for.
use Rattle.std.specs.Prelude.{◌≡◌, ℕ, ◌+◌, Bool, true, false, not, ◌&&◌, nat_le, if◌then◌else◌, List, [], ◌∷◌, ◌++◌, Option, Some, None}
use Rattle.stx_base.specs.declared.part.Part.{Part}
use Rattle.result_writer.specs.Target.{Target, behind, fault, fresh, is_closed}
use Rattle.result_writer.specs.declared.fault.ResultFault.{ResultFault}
use Rattle.result_writer.specs.declared.fault.ResultFault.TheVariants.{UnclosedResult}
use Rattle.event_buffers.specs.Kept.{added}
use Rattle.event_buffers.specs.Weight.{held_weight, kept_weight}
use Rattle.event_buffers.specs.declared.fault.BufferFault.{BufferFault}
use Rattle.event_buffers.specs.declared.fault.BufferFault.TheVariants.{Busy, Full, Result, Memory}
use Rattle.event_buffers.specs.declared.kept.Kept.{Kept}

-- open for nothing; to be written, with what the parts put since then leave; or to be read
pub data State : Type 0 where
  Shut : State
  Writing : Target → State
  Reading : State

-- whether a copy begins with the declared content, what was put into it, and what it is open for
pub record Layer : Type 0 where
  pub declared : Bool
  pub kept : List Kept
  pub state : State

-- a new copy
abbrev pub laid : Layer
laid = record { declared = true; kept = []; state = Shut }

-- all that a copy holds
abbrev pub contents : (declared : List Kept) → Layer → List Kept
contents declared c = if c.declared then declared ++ c.kept else c.kept

abbrev pub is_shut : State → Bool
is_shut Shut = true
is_shut (Writing target) = false
is_shut Reading = false

abbrev pub is_writing : State → Bool
is_writing Shut = false
is_writing (Writing target) = true
is_writing Reading = false

abbrev pub is_reading : State → Bool
is_reading Shut = false
is_reading (Writing target) = false
is_reading Reading = true

-- Weight.

-- a start tag that isn't settled yet
abbrev pub waiting : State → ℕ
waiting Shut = 0
waiting (Writing target) = held_weight target.left.held
waiting Reading = 0

-- what was put into it weighs so much
abbrev pub own_weight : Layer → ℕ
own_weight c = kept_weight c.kept + waiting c.state

-- all of it weighs so much
abbrev pub weighs : (declared : List Kept) → Layer → ℕ
weighs declared c = (if c.declared then kept_weight declared else 0) + own_weight c

-- Parts.

abbrev pub put_into : State → Part → Layer → Layer
put_into Shut p c = c
put_into (Writing target) p c = record c { kept = c.kept ++ added target.left p; state = Writing (behind target p) }
put_into Reading p c = c

-- the copy behind a part that is put into it
abbrev pub with_part : Part → Layer → Layer
with_part p c = put_into c.state p c

-- the copy behind parts that are put into it one after another
abbrev pub all_put : List Part → Layer → Layer
all_put [] c = c
all_put (p ∷ ps) c = all_put ps (with_part p c)

abbrev pub fault_in : State → Part → Option ResultFault
fault_in Shut p = None
fault_in (Writing target) p = fault target.limit target.left p
fault_in Reading p = None

-- a fault of the part, or else one of the weight that there would be
abbrev pub or_full : Option ResultFault → (limit weight : ℕ) → Option BufferFault
or_full None limit weight = if nat_le weight limit then None else Some Full
or_full (Some f) limit weight = Some (Result f)

-- why a part is refused
abbrev pub refusal : (limit : ℕ) → (declared : List Kept) → Part → Layer → Option BufferFault
refusal limit declared p c = or_full (fault_in c.state p) limit (weighs declared (with_part p c))

-- Opening and closing.

-- why a copy can't be opened
abbrev pub busy : Layer → Option BufferFault
busy c = if is_shut c.state then None else Some Busy

-- open to be written, emptied first if asked for
abbrev pub opened_write : (elements : ℕ) (clear : Bool) → Layer → Layer
opened_write elements clear c = record {
  declared = not clear && c.declared;
  kept = if clear then [] else c.kept;
  state = Writing (fresh elements);
}

abbrev pub opened_read : Layer → Layer
opened_read c = record c { state = Reading }

abbrev pub closed : Layer → Layer
closed c = record c { state = Shut }

-- no element is open in it
abbrev pub is_whole : State → Bool
is_whole Shut = true
is_whole (Writing target) = is_closed target.left.elements target.left.held
is_whole Reading = true

-- why a copy that is written can't be closed
abbrev pub unclosed : Layer → Option BufferFault
unclosed c = if is_whole c.state then None else Some (Result UnclosedResult)

-- a refusal is for the cause that there is, or for want of memory, which nothing tells
abbrev pub IsCause : Option BufferFault → BufferFault → Type 0
IsCause o Busy = o ≡ Some Busy
IsCause o Full = o ≡ Some Full
IsCause o (Result f) = o ≡ Some (Result f)
IsCause o Memory = Unit {0}
