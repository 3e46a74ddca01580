-- What holds of a machine between its calls.
use Rattle.std.specs.Prelude.{◌≡◌, ℕ, ◌+◌, ◌<◌, ◌≤◌, Bool, true, List, [], ◌∷◌, All, map}
use Rattle.sheet_model.specs.declared.sheet.Sheet.{Sheet}
use Rattle.stx_base.specs.Character.{is_cdata_text}
use Rattle.stx_base.specs.Spare.{Kept}
use Rattle.stx_base.specs.declared.fault.Place.{Place}
use Rattle.stx_base.specs.declared.fault.RunCode.TheVariants.{NoDocument}
use Rattle.stx_base.specs.declared.limits.Limits.{Limits}
use Rattle.template_machine.specs.Documents.{Open, documents}
use Rattle.template_machine.specs.Moments.{WantsEvent}
use Rattle.template_machine.specs.Programs.{IsProgramOf}
use Rattle.template_machine.specs.Starting.{IsFresh, IsReady}
use Rattle.template_machine.specs.Well.{IsWaiting}
use Rattle.template_machine.specs.declared.machine.Machine.{Machine}
use Rattle.template_machine.specs.declared.turn.Turn.{Turn}
use Rattle.template_machine.specs.declared.turn.Turn.TheVariants as turn
use Rattle.xml_events.specs.Answering.{lists_behind}
use Rattle.xml_events.specs.declared.event.Event.{Event}
use Rattle.xml_events.specs.declared.event.Event.TheVariants as event

-- it runs this sheet, within these limits
abbrev pub IsOf : Sheet → Limits → Machine → Type 0
IsOf sheet limits m = IsProgramOf sheet limits m.program

-- how many elements may be open in a document at once
abbrev pub depth_of : Machine → ℕ
depth_of m = m.program.limits.depth

abbrev pub lists_in : Open → ℕ
lists_in d = d.lists

-- how many lists are open in each open document, the newest first; one that has ended is none of them
abbrev pub documents_of : Machine → List ℕ
documents_of m = map lists_in (documents m.run)

abbrev pub main_in : Open → Bool
main_in d = d.main

-- which of these is the main document
abbrev pub mains_of : Machine → List Bool
mains_of m = map main_in (documents m.run)

-- what fuel is left for what comes next, and how much there is of it behind an event of the main document
abbrev pub fuel_of : Machine → ℕ
fuel_of m = m.run.fuel

abbrev pub fuel_limit_of : Machine → ℕ
fuel_limit_of m = m.program.limits.fuel

-- the room that it keeps for texts to come
abbrev pub spare_of : Machine → Kept
spare_of m = m.run.putting.spare

-- nothing is done yet
pub record IsNew (m : Machine) : Type 0 where
  pub ready : IsReady m.program
  pub fresh : IsFresh m.program m.run

abbrev pub HasDepth : (depth : ℕ) → Open → Type 0
HasDepth depth d = d.limit ≡ depth

-- it waits for the next event of the newest open document
pub record IsAsking (m : Machine) : Type 0 where
  pub wants : WantsEvent m.program m.run
  pub depths : All (HasDepth (depth_of m)) (documents m.run)

-- it waits for a document, or word that there is none
pub record IsAskingForDocument (m : Machine) : Type 0 where
  pub waits : IsWaiting m.program m.run
  pub depths : All (HasDepth (depth_of m)) (documents m.run)

-- Events.

-- how many lists are open in each document behind an event of the newest
abbrev pub behind : Event → List ℕ → List ℕ
behind e [] = []
behind (event.DocumentEnd offset) (n ∷ ns) = ns
behind e (n ∷ ns) = lists_behind e n ∷ ns

-- which of the documents behind an event of the newest is the main one
abbrev pub mains_behind : Event → List Bool → List Bool
mains_behind e [] = []
mains_behind (event.DocumentEnd offset) (m ∷ ms) = ms
mains_behind e (m ∷ ms) = m ∷ ms

-- an event of the main document renews the fuel
abbrev pub fuel_at : (newest : List Bool) → (limit fuel : ℕ) → ℕ
fuel_at (true ∷ ms) limit fuel = limit
fuel_at ms limit fuel = fuel

abbrev pub HasRoom : (depth : ℕ) → List ℕ → Type 0
HasRoom depth [] = Unit {0}
HasRoom depth (n ∷ ns) = n ≤ depth + 1

abbrev pub TellsText : Event → Type 0
TellsText (event.CData offset text) = is_cdata_text text ≡ true
TellsText e = Unit {0}

-- an element ends where a list is open around its own, and a document where its own alone is
abbrev pub EndsInnermost : Event → List ℕ → Type 0
EndsInnermost e [] = Unit {0}
EndsInnermost (event.End offset) (n ∷ ns) = 1 < n
EndsInnermost (event.DocumentEnd offset) (n ∷ ns) = n ≡ 1
EndsInnermost e (n ∷ ns) = Unit {0}

-- An event goes on with the newest document: no more elements are open behind it than may be, what ends is the innermost, and the text of a
-- CDATA section may be one.
pub record Continues (m : Machine) (e : Event) : Type 0 where
  pub room : HasRoom (depth_of m) (behind e (documents_of m))
  pub ends : EndsInnermost e (documents_of m)
  pub text : TellsText e

-- Answers.

-- a run goes on behind it, or has come to its end
abbrev pub GoesOn : Turn → Type 0
GoesOn turn.More = Unit {0}
GoesOn turn.Ended = Unit {0}
GoesOn (turn.WantDocument name) = Unit {0}
GoesOn other = ⊥

-- where a run goes on no more fuel is left than this, and less where a document is wanted, which has cost some
abbrev pub Burns : Turn → (most fuel : ℕ) → Type 0
Burns turn.More most fuel = fuel ≤ most
Burns (turn.WantDocument name) most fuel = fuel < most
Burns other most fuel = Unit {0}

-- a run stops for want of a document
abbrev pub IsAbsent : Turn → Type 0
IsAbsent t = (at : Place) × (t ≡ turn.Stopped (record { code = NoDocument; at = at }))
