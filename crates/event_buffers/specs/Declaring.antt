-- The buffers that a sheet declares.
use Rattle.std.specs.Prelude.{[], ◌∷◌}
use Rattle.sheet_model.specs.declared.sheet.Buffer as sheet
use Rattle.event_buffers.specs.Buffers.{Buffer}
use Rattle.event_buffers.specs.Kept.{kept_of}
use Rattle.event_buffers.specs.Layer.{laid}

-- a buffer of a sheet, with one copy
abbrev pub declared_by : sheet.Buffer → Buffer
declared_by b = record { group = b.group; declared = kept_of b.content; copies = laid ∷ [] }
