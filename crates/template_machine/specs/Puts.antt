-- What instructions that put parts leave of a run.
use Rattle.std.specs.Prelude.{◌≡◌, ℕ, List, [], ◌∷◌, ◌++◌, Option, Some, None, map, reverse}
use Rattle.template_machine.specs.Sections.{HoldStill}
use Rattle.template_machine.specs.Standing.{Free, Shelf, Usage, Written, on_shelf, shelf_at, shelf_of, written_closed}
use Rattle.template_machine.specs.Moments.{StandsAsBefore}
use Rattle.template_machine.specs.declared.putting.Putting.{Putting}
use Rattle.template_machine.specs.declared.run.Run.{Run}

abbrev pub shelves_of : Putting → List Shelf
shelves_of p = map shelf_of p.buffers.buffers

-- the innermost buffer that is written
abbrev pub first_target : List ℕ → Option ℕ
first_target [] = None
first_target (id ∷ ids) = Some id

abbrev pub target_of : Putting → Option ℕ
target_of p = first_target (reverse p.targets)

-- a copy that is open for nothing is written
abbrev pub newest_written : List Usage → List Usage
newest_written [] = []
newest_written (u ∷ us) = Written ∷ us

abbrev pub NewestIsFree : List Usage → Type 0
NewestIsFree (Free ∷ us) = Unit {0}
NewestIsFree us = ⊥

-- Parts go into a buffer, whose newest copy was open for nothing.
pub record BeginsWriting (id : ℕ) (old new : Putting) : Type 0 where
  pub targets : new.targets ≡ old.targets ++ id ∷ []
  pub shelves : shelves_of new ≡ on_shelf newest_written id (shelves_of old)
  pub free : NewestIsFree (shelf_at (shelves_of old) id).copies
  pub holds : HoldStill old.buffers new.buffers

-- Parts go where they went before the innermost buffer was written.
pub record EndsWriting (id : ℕ) (old new : Putting) : Type 0 where
  pub targets : old.targets ≡ new.targets ++ id ∷ []
  pub shelves : shelves_of new ≡ on_shelf written_closed id (shelves_of old)
  pub holds : HoldStill old.buffers new.buffers

-- All else of a run is as it was, and parts go where they went.
pub record OnlyPuts (old new : Run) : Type 0 where
  pub rest : new ≡ record old { putting = new.putting }
  pub stands : StandsAsBefore old.putting new.putting
