-- A run at its start.
use Rattle.std.specs.Prelude.{◌≡◌, ◌+◌, ◌<◌, ◌^◌, [], ◌∷◌, None, length, map, replicate}
use Rattle.stx_base.specs.declared.limits.Limits.{Limits}
use Rattle.event_buffers.specs.Declaring.{declared_by}
use Rattle.node_stack.specs.Path.{document_alone}
use Rattle.sheet_model.specs.Sound.{IsSound}
use Rattle.sheet_model.specs.declared.sheet.Sheet.{Sheet}
use Rattle.template_machine.specs.Programs.{IsProgramOf}
use Rattle.template_machine.specs.Sources.{Stands}
use Rattle.template_machine.specs.declared.program.Program.{Program}
use Rattle.template_machine.specs.declared.run.Run.{Run}
use Rattle.template_machine.specs.declared.source.Ahead.TheVariants as ahead
use Rattle.template_machine.specs.declared.source.Origin.TheVariants as origin

-- A program that can be run: it is of an accepted sheet, and places on its paths fit 32 bits.
pub record IsReady (p : Program) : Type 0 where
  pub sheet : Sheet
  pub limits : Limits
  pub sound : IsSound sheet
  pub program : IsProgramOf sheet limits p
  pub shallow : (p.limits.depth + 1 < 2 ^ 32) × (p.buffer_depth + 1 < 2 ^ 32)

-- A run at the document node of the main document, in which nothing is done yet.
pub record IsFresh (p : Program) (r : Run) : Type 0 where
  pub frames : r.frames.frames ≡ []
  pub store : r.store ≡ replicate (length p.sheet.groups) ([] ∷ [])
  pub targets : r.putting.targets ≡ []
  pub buffers : r.putting.buffers ≡ record { limit = p.limits.buffer; elements = p.limits.elements; buffers = map declared_by p.sheet.buffers }
  pub source : Stands r.source (document_alone p.limits.depth) ([] ∷ []) ahead.Nothing None origin.Main
  pub begun : r.source.begun ≡ 1
  pub outer : r.outer.items ≡ []
  pub aside : r.aside.items ≡ []
  pub fuel : r.fuel ≡ p.limits.fuel
