-- What the fields of a copy mean.
use Rattle.std.specs.Prelude.{◌≡◌}
use Rattle.result_writer.specs.Target.{Target}
use Rattle.event_buffers.specs.Layer.{Layer, Reading, Shut, State, Writing, own_weight}
use Rattle.event_buffers.specs.declared.layer.Layer.TheInside.{Inside}
use Rattle.event_buffers.specs.declared.layer.Use.{Use}
use Rattle.event_buffers.specs.declared.layer.Use.TheVariants as used

abbrev pub state_of : Use → Target → State
state_of used.Shut target = Shut
state_of used.Writing target = Writing target
state_of used.Reading target = Reading

abbrev pub layer_of : Inside → Layer
layer_of s = record { declared = s.declared; kept = s.kept.items; state = state_of s.usage s.target }

-- its weight is known
pub record IsWeighed (s : Inside) : Type 0 where
  pub weight : s.weight ≡ own_weight (layer_of s)
