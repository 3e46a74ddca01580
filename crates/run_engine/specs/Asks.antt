-- How many documents a run may still ask for.
use Rattle.std.specs.Prelude.{ℕ, ◌+◌, ◌*◌, ◌<◌, ◌≤◌, List, [], ◌∷◌, Option, Some, None}
use Rattle.xml_events.specs.Source.{events_left}
use Rattle.run_engine.specs.declared.piece.Piece.{Piece}
use Rattle.run_engine.specs.Taking.{handed}
use Rattle.run_engine.specs.Run.{Document, Open, Run, Stage, Wants}

-- what is the main document's alone
abbrev pub of_main : (name : Option (List ℕ)) → ℕ → ℕ
of_main None n = n
of_main (Some name) n = 0

-- how many events of the main document come at most of what it was fed, while it is open
abbrev pub main_events : List Open → ℕ
main_events [] = 0
main_events (d ∷ ds) = of_main d.name (events_left d.source) + main_events ds

-- Each event of the main document renews the fuel, and each document that is asked for costs some: so many may be asked for before more
-- of the main document comes.
abbrev pub asks_left : Run → ℕ
asks_left r = main_events r.documents * (r.limits.fuel + 1) + r.fuel

-- so many before a piece does anything
abbrev pub asks_handed : Run → Piece → ℕ
asks_handed r p = asks_left (record r { documents = handed r p })

-- there are fewer where a document is asked for, and no more where one of those goes on
abbrev pub AsksFewer : Stage → (before after : ℕ) → Type 0
AsksFewer (Wants name) before after = after < before
AsksFewer Document before after = after ≤ before
AsksFewer other before after = Unit {0}
