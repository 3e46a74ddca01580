-- How much a run still does by itself: a number that falls with each step that it takes before it waits.
use Rattle.std.specs.Prelude.{◌≡◌, ℕ, zero, suc, ◌+◌, ◌-◌, ◌*◌, ◌<◌, ◌≤◌, ◌^◌, Bool, true, false, if◌then◌else◌, max, List, [], ◌∷◌, Option, Some, length, reverse, slice_get}
use Rattle.std.specs.Option.{option_map, option_map_or}
use Rattle.frame_stack.specs.declared.frame.Frame.{Frame}
use Rattle.frame_stack.specs.declared.frame.Frame.TheVariants.{Body, Call, Attributes, Loop, Region, Source, Skip, Pass}
use Rattle.instr_code.specs.declared.code.Code.{Code}
use Rattle.instr_code.specs.declared.code.Op.{Op}
use Rattle.instr_code.specs.declared.code.Op.TheVariants as op
use Rattle.template_machine.specs.Bodies.{pc_in}
use Rattle.template_machine.specs.Contexts.{Choices, Form, form_of}
use Rattle.template_machine.specs.Documents.{Open, documents}
use Rattle.template_machine.specs.declared.program.Program.{Program}
use Rattle.template_machine.specs.declared.run.Doing.{Doing}
use Rattle.template_machine.specs.declared.run.Doing.TheVariants as doing
use Rattle.template_machine.specs.declared.run.Run.{Run}
use Rattle.template_machine.specs.declared.run.Step.{Step}
use Rattle.template_machine.specs.declared.run.Step.TheVariants as step
use Rattle.template_machine.specs.declared.source.Ahead.{Ahead}
use Rattle.template_machine.specs.declared.source.Ahead.TheVariants as ahead
use Rattle.template_machine.specs.declared.source.Source as sources

-- Places of code.

-- the test of one of several branches
abbrev pub is_choices : Option Form → Bool
is_choices (Some (Choices branches)) = true
is_choices f = false

module _ (code : Code) where
  -- how many operations are run from a place on before one that spends fuel or ends a loop or a body, where `after` says it of others
  abbrev pub free_at : (after : ℕ → ℕ) → (place : ℕ) → Option Op → ℕ
  free_at after place (Some (op.Close n)) = suc (after (place + 1))
  free_at after place (Some (op.Jump to)) = suc (after to)
  free_at after place (Some (op.Drop count)) = suc (after (place + 1))
  free_at after place (Some (op.Test n arm to)) =
      if is_choices (option_map form_of (slice_get code.instrs n)) then suc (max (after (place + 1)) (after to)) else 0
  free_at after place o = 0

  -- at most so many
  abbrev pub free : (most place : ℕ) → ℕ
  free zero place = 0
  free (suc n) place = free_at (free n) place (slice_get code.ops place)

-- Frames, and what is known of lists.

-- what the list or the body of a frame still does
abbrev pub frame_work : Frame → ℕ
frame_work (Body template alternative pc locals level spent) = 5
frame_work (Call procedure pc locals level) = 1
frame_work (Loop turn) = 1
frame_work (Region asked level) = 2
frame_work (Pass base level spent) = 2
frame_work (Source buffer next asked) = 1
frame_work (Skip depth) = 2 + depth
frame_work (Attributes next asked) = 8 * (2 ^ 64 - next)

abbrev pub frames_work : List Frame → ℕ
frames_work [] = 0
frames_work (f ∷ fs) = frame_work f + frames_work fs

-- what is known of a list: a head is still taken, or held and then taken, and an end is found
abbrev pub ahead_work : Ahead → ℕ
ahead_work ahead.Nothing = 0
ahead_work ahead.Ended = 1
ahead_work ahead.Here = 6
ahead_work ahead.Held = 7

-- a buffer tells more where nothing is known of a list that goes on
abbrev pub waits_work : Doing → Ahead → ℕ
waits_work doing.List ahead.Nothing = 2
waits_work d a = 0

abbrev pub outer_work : List sources.Source → ℕ
outer_work [] = 0
outer_work (s ∷ ss) = ahead_work s.ahead + outer_work ss

-- all that waits in a run, and with it what is told next
abbrev pub load : Run → ℕ
load r = frames_work (reverse r.frames.frames) + ahead_work r.source.ahead + outer_work r.outer.items

abbrev pub burden : Run → ℕ
burden r = load r + waits_work r.doing r.source.ahead

-- Runs.

-- what is left of a run's fuel, and the documents that are open in it
pub record Means : Type 0 where
  pub fuel : ℕ
  pub documents : List Open

abbrev pub means_of : Run → Means
means_of r = record { fuel = r.fuel; documents = documents r }

-- the same documents are open, and no fuel comes
pub record Stays (old new : Run) : Type 0 where
  pub still : documents new ≡ documents old
  pub spared : new.fuel ≤ old.fuel

-- and some is spent
pub record Costs (old new : Run) : Type 0 where
  pub still : documents new ≡ documents old
  pub spent : new.fuel < old.fuel

-- what comes of a step wants no document
abbrev pub AsksNone : Step → Type 0
AsksNone step.Want = ⊥
AsksNone s = Unit {0}

module _ (p : Program) where
  -- the operations of the innermost body that cost nothing
  abbrev pub place_work : Doing → List Frame → ℕ
  place_work doing.Body fs = option_map_or (free p.code (length p.code.ops)) (pc_in fs) 0
  place_work doing.List fs = 0

  -- A place weighs less than a unit of what waits, and all that a step begins less than a unit of fuel.
  abbrev pub work : Run → ℕ
  work r = 2 ^ 110 * r.fuel + 2 ^ 33 * burden r + place_work r.doing (reverse r.frames.frames)

  -- less is to be done, with the same documents, and no fuel comes
  pub record Lessens (old new : Run) : Type 0 where
    pub still : documents new ≡ documents old
    pub spared : new.fuel ≤ old.fuel
    pub falls : work new < work old

  -- so it is where there is more to do; elsewhere too no document begins or ends and no fuel comes, and a document that is wanted costs some
  abbrev pub Falls : (old : Run) → Step → (new : Run) → Type 0
  Falls old step.More new = Lessens old new
  Falls old step.Want new = Costs old new
  Falls old s new = Stays old new

-- What calls within a step do to them.

-- no fuel is spent, no document begins or ends, and so much more waits at most
pub record Begins (most : ℕ) (old new : Run) : Type 0 where
  pub means : means_of new ≡ means_of old
  pub load : burden new ≤ load old + most

-- no fuel is spent, no document begins or ends, and so much less waits at least
pub record Sheds (least : ℕ) (old new : Run) : Type 0 where
  pub means : means_of new ≡ means_of old
  pub load : burden new + least ≤ load old

-- a unit is spent, and no more begins than that pays for
pub record Spends (old new : Run) : Type 0 where
  pub fuel : new.fuel < old.fuel
  pub load : load new ≤ load old + 2 ^ 68
