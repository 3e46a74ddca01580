-- How a run of the main document goes on with an event, whatever is to come behind it.
use Rattle.std.specs.Prelude.{◌≡◌, ◌⊎◌, ℕ, [], ◌∷◌, Some, OnOk, Result, Ok, reverse}
use Rattle.result_writer.specs.Target.{Left}
use Rattle.xml_events.specs.Document.{inner, outer}
use Rattle.xml_events.specs.Tree.{Element, End, Future, Leaf, Nested, Ready, Single, Told}
use Rattle.stx_base.specs.declared.node.First.{First}
use Rattle.template_machine.specs.Bodies.{skipped_in}
use Rattle.template_machine.specs.Job.{Given}
use Rattle.template_machine.specs.Listed.{AreInOrder, TakesList}
use Rattle.template_machine.specs.Ordinary.{IsAlone}
use Rattle.template_machine.specs.Programs.{IsProgramOf}
use Rattle.template_machine.specs.Saying.{Proceeds}
use Rattle.template_machine.specs.Still.{still}
use Rattle.template_machine.specs.Well.{AreGone}
use Rattle.template_machine.specs.declared.program.Program.{Program}
use Rattle.template_machine.specs.declared.run.Doing.TheVariants as doing
use Rattle.template_machine.specs.declared.run.Run.{Run}
use Rattle.template_machine.specs.declared.source.Ahead.TheVariants as ahead
use Rattle.template_machine.specs.declared.stop.Stop.{Stop}

-- A run whose innermost list takes the next node of the main document.
pub record Listens (p : Program) (r : Run) : Type 0 where
  pub alone : IsAlone p r
  pub doing : r.doing ≡ doing.List
  pub ahead : r.source.ahead ≡ ahead.Nothing
  pub takes : TakesList (reverse r.frames.frames)
  pub order : AreInOrder (reverse r.frames.frames)
  pub gone : AreGone (reverse r.frames.frames)

-- A run hears this: what it did on that, and then on what is to come, it does on what is to come.
pub record Hears {A : Type 0} (p : Program) (heard : Future → Future) (result : Result A Stop) (old new : Run) : Type 0 where
  pub alone : OnOk result (IsAlone p new)
  pub does :
      (given : Given) → IsProgramOf given.sheet given.limits p → (left : Left) (f : Future)
      → Proceeds given p result (still given p old left (heard f)) [] (still given p new left f)

-- What an event tells: a leaf, an element's start, or an end.

abbrev pub leaf_first : Leaf → Future → Future
leaf_first leaf f = Single Told leaf (inner f) ∷ outer f

abbrev pub start_first : Element → First → Future → Future
start_first e first f = Nested (Ready first) e (inner f) (inner (outer f)) ∷ outer (outer f)

abbrev pub end_first : (offset : ℕ) → Future → Future
end_first offset f = End Told offset ∷ f

-- The same of what has no answer.
abbrev pub HearsAll : Program → (heard : Future → Future) → (old new : Run) → Type 0
HearsAll p heard old new = Hears {A = Unit {0}} p heard (Ok tt) old new

-- A run whose innermost list is passed over, so many elements deep.
pub record Skips (p : Program) (depth : ℕ) (r : Run) : Type 0 where
  pub alone : IsAlone p r
  pub doing : r.doing ≡ doing.List
  pub ahead : r.source.ahead ≡ ahead.Nothing
  pub skipped : skipped_in (reverse r.frames.frames) ≡ Some depth

-- a run whose innermost list may end
abbrev pub MayEnd : Program → Run → Type 0
MayEnd p r = Listens p r ⊎ Skips p 0 r
