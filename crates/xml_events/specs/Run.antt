-- The events of a whole document.
use Rattle.std.specs.Prelude.{◌≡◌, ℕ, Bool, false, List, [], ◌∷◌, ◌++◌, Option, Some, None}
use Rattle.xml_tokens.specs.declared.lexeme.Ending.{Ending}
use Rattle.xml_tokens.specs.declared.lexeme.Ending.TheVariants as ending
use Rattle.xml_events.specs.declared.event.Event.{Event}
use Rattle.xml_events.specs.declared.event.Pull.TheVariants as pull
use Rattle.xml_events.specs.Answering.{answer_of}
use Rattle.xml_events.specs.Source.{Source, future}
use Rattle.xml_events.specs.Telling.{told, followed, pulled}
use Rattle.xml_events.specs.Tree.{Why, Bad, Future}

-- each event is what the lists from there on call for
abbrev pub AreCalled : List Event → (rest : Future) → Type 0
AreCalled [] rest = Unit {0}
AreCalled (e ∷ es) rest = (pulled (followed e (told es rest)) ≡ pull.Event e) × AreCalled es rest

-- These events, and then what remains, are the lists; each of them, and then the ending, is what there calls for.
pub record Tells (lists : Future) (events : List Event) (over : Ending) : Type 0 where
  pub rest : Future
  pub tell : lists ≡ told events rest
  pub called : AreCalled events rest
  pub ends : pulled rest ≡ answer_of over

-- why a document goes no further that ends so
abbrev pub stop_of : Ending → Option Why
stop_of ending.End = None
stop_of (ending.Bad fault) = Some (Bad fault)
stop_of ending.Memory = None

-- from `old` on these events were given, and what is to come then follows them
pub record IsGiven (old : Source) (events : List Event) (new : Source) : Type 0 where
  pub ended : new.lexer.ended ≡ old.lexer.ended
  pub law : (more : List ℕ) (ended : Bool) → future old more ended ≡ told events (future new more ended)
  pub called : (more : List ℕ) (ended : Bool) → AreCalled events (future new more ended)

-- the events that are known were appended, and then more bytes must come, or there is an ending
abbrev pub IsDrained : Source → List Event → Source → List Event → Option Ending → Type 0
IsDrained old events new all None =
    (given : List Event) × (all ≡ events ++ given) × IsGiven old given new × (old.lexer.ended ≡ false)
IsDrained old events new all (Some over) =
    (given : List Event) × (all ≡ events ++ given) × ((more : List ℕ) (ended : Bool) → Tells (future old more ended) given over)
