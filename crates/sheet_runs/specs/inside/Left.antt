-- What is left to a run over a host until it ends.
use Rattle.std.specs.Prelude.{◌≡◌, ℕ, ◌+◌, ◌-◌, ◌*◌, ◌<◌, ◌≤◌, List, [], ◌∷◌, Option, Some, None, length}
use Rattle.run_engine.specs.Asks.{AsksFewer, asks_handed, asks_left}
use Rattle.run_engine.specs.Run.{Document, IsSameRun, Main as AsksMain, MainIsHungry, Over, Run, Stage, Wants}
use Rattle.run_engine.specs.Taking.{Takes, handed}
use Rattle.run_engine.specs.declared.piece.Piece.{Piece}
use Rattle.sheet_runs.specs.declared.main_document.Main.{Main}
use Rattle.sheet_runs.specs.declared.main_document.Main.TheVariants.{Host as OfHost, Sample}
use Rattle.sheet_runs.specs.declared.other.Other.{Other}
use Rattle.sheet_runs.specs.declared.running.Running.{Running}
use Rattle.sheet_runs.specs.inside.Running.{AreLimited, Going, going_in}

-- how much of a document may be read until it has more bytes than it may have, its end counted
abbrev pub to_read : (input : ℕ) → (read : ℕ) → ℕ
to_read input read = input + 2 - read

abbrev pub if_main : Option (List ℕ) → ℕ → ℕ
if_main None n = n
if_main (Some name) n = 0

-- how much of the main document
abbrev pub main_to_read : (input : ℕ) → List Going → ℕ
main_to_read input [] = 0
main_to_read input (d ∷ ds) = if_main d.name (to_read input d.read) + main_to_read input ds

-- and how much of the others
abbrev pub others_to_read : (input : ℕ) → List Other → ℕ
others_to_read input [] = 0
others_to_read input (o ∷ os) = to_read input o.read + others_to_read input os

-- how many pieces of a sample are left
abbrev pub pieces_left : Main → ℕ
pieces_left OfHost = 0
pieces_left (Sample pieces) = length pieces

-- nothing is left of a run that is over
abbrev pub unless_over : Stage → ℕ → ℕ
unless_over (Over o) n = 0
unless_over stage n = n

-- Each piece of the main document leaves less of it.
abbrev pub main_left : Running → ℕ
main_left r = unless_over r.engine.stage (main_to_read r.engine.limits.input (going_in r.engine.documents) + pieces_left r.main)

-- a document that was asked for is still to be opened
abbrev pub wanted : Stage → ℕ
wanted (Wants name) = 1
wanted stage = 0

-- nothing is left to do between two pieces of the main document where another document isn't asked for, nor more of one
abbrev pub while_beside : Stage → ℕ → ℕ
while_beside Document n = n
while_beside (Wants name) n = n
while_beside stage n = 0

-- Each step between two pieces of the main document leaves less to do: a document that is opened adds no more than what may be read of one.
abbrev pub beside_left : Running → ℕ
beside_left r =
    while_beside r.engine.stage ((2 * asks_left r.engine + wanted r.engine.stage) * (r.engine.limits.input + 3) + others_to_read r.engine.limits.input r.others.items)

-- a step between two pieces of the main document leaves less to do, and no more of the main document
pub record LeavesLess (old new : Running) : Type 0 where
  pub beside : beside_left new < beside_left old
  pub main : main_left new ≤ main_left old

-- The engine took a piece, and nothing else changed but what is to be written.
pub record Pumps (old : Running) (p : Piece) (new : Running) : Type 0 where
  pub same : new ≡ record old { engine = new.engine; out = new.out; notes = new.notes }
  pub run : IsSameRun old.engine new.engine
  pub took : Takes new.engine.stage (handed old.engine p) new.engine.documents
  pub asks : AsksFewer new.engine.stage (asks_handed old.engine p) (asks_left new.engine)

-- the main document is asked for, and may have more bytes
pub record WantsMain (run : Run) : Type 0 where
  pub stage : run.stage ≡ AsksMain
  pub hungry : MainIsHungry run.documents
  pub limited : AreLimited run.limits run.documents
