-- How parts are put: into the output, or into the innermost open buffer.
use Rattle.std.specs.Prelude.{ℕ, List, [], ◌∷◌, Option, Some, None}
use Rattle.stx_base.specs.Course.{Halt, Say}
use Rattle.stx_base.specs.declared.fault.Place.{Place}
use Rattle.stx_base.specs.declared.name.Attr.{Attr}
use Rattle.stx_base.specs.declared.part.Part.{Part}
use Rattle.stx_base.specs.declared.part.Part.TheVariants as part
use Rattle.result_writer.specs.Target.{fault, next}
use Rattle.result_writer.specs.declared.fault.ResultFault.{ResultFault}
use Rattle.event_buffers.specs.Buffers.{is_written, on_buffer, on_first, refusal_at}
use Rattle.event_buffers.specs.Layer.{with_part}
use Rattle.event_buffers.specs.declared.fault.BufferFault.{BufferFault}
use Rattle.template_machine.specs.Ending.{Put, buffer_code, fault_at, result_code}
use Rattle.template_machine.specs.Job.{Does, Given, State}

abbrev pub attribute_part : Attr → Part
attribute_part a = part.Attribute a.name a.value

-- an empty text is no part
abbrev pub text_parts : List ℕ → List Part
text_parts [] = []
text_parts (c ∷ cs) = part.Chars (c ∷ cs) ∷ []

-- the copy of a buffer to which parts go, with one part more
abbrev pub kept_in : (id : ℕ) → Part → State → State
kept_in id p st = record st { buffers = on_buffer (on_first is_written (with_part p)) id st.buffers }

-- the output as it is behind a part
abbrev pub put_out : Part → State → State
put_out p st = record st { result = next st.result p }

-- goes on unless there is a fault
abbrev pub unless_fault : Option ResultFault → Place → Does → Does
unless_fault None at go = go
unless_fault (Some fault) at go = Halt (fault_at (result_code fault) at)

-- goes on unless a buffer refuses
abbrev pub unless_refused : Option BufferFault → Place → Does → Does
unless_refused None at go = go
unless_refused (Some fault) at go = Halt (fault_at (buffer_code fault) at)

-- a buffer takes a part unless it has a fault there, or the buffer would hold too much
abbrev pub put_in : (id : ℕ) → Place → Part → State → (State → Does) → Does
put_in id at p st go = unless_refused (refusal_at st.buffers id p) at (go (kept_in id p st))

module _ (given : Given) where
  -- a part goes into the innermost open buffer, or else into the output, unless it has a fault there
  abbrev pub put_to : (targets : List ℕ) → Place → Part → State → (State → Does) → Does
  put_to [] at p st go = unless_fault (fault given.limits.elements st.result p) at (Say (Put p) (go (put_out p st)))
  put_to (id ∷ targets) at p st go = put_in id at p st go

  -- parts are put one after another, up to the first that is refused
  abbrev pub puts : Place → List Part → State → (State → Does) → Does
  puts at [] st go = go st
  puts at (p ∷ ps) st go = put_to st.targets at p st (λ st. puts at ps st go)
