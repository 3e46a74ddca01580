-- Which answers are repeated, and when more bytes are wanted.
use Rattle.std.specs.Prelude.{◌≡◌, ℕ, suc, ◌-◌, Bool, true, List, [], length, Option, Some, None}
use Rattle.xml_tokens.specs.declared.lexeme.Ending.{Ending}
use Rattle.xml_tokens.specs.declared.lexeme.Ending.TheVariants as ending
use Rattle.xml_events.specs.declared.event.Event.{Event}
use Rattle.xml_events.specs.declared.event.Event.TheVariants as event
use Rattle.xml_events.specs.declared.event.Pull.{Pull}
use Rattle.xml_events.specs.declared.event.Pull.TheVariants as pull
use Rattle.xml_events.specs.Source.{Source, future}

-- the answer that is repeated
abbrev pub answer_of : Ending → Pull
answer_of ending.End = pull.End
answer_of (ending.Bad fault) = pull.Bad fault
answer_of ending.Memory = pull.Memory

-- behind the document's end no event comes any more, and behind another event others may
abbrev pub OverBehind : Event → Option Ending → Type 0
OverBehind (event.DocumentEnd offset) over = over ≡ Some ending.End
OverBehind other over = over ≡ None

-- Nothing is repeated behind an event other than the document's end, or where more bytes are wanted; the end is repeated behind the
-- document's end alone. Where more bytes are wanted, or the document has a fault, all events that are known were given.
abbrev pub Goes : (old : Source) → Pull → (new : Source) → Type 0
Goes old (pull.Event e) new = old.over ≡ None → OverBehind e new.over
Goes old pull.Need new = (new.over ≡ None) × (new.known ≡ [])
Goes old pull.End new = old.over ≡ Some ending.End
Goes old (pull.Bad fault) new = new.known ≡ []
Goes old pull.Memory new = Unit {0}

-- how many lists are open behind an event, where so many were before it
abbrev pub lists_behind : Event → ℕ → ℕ
lists_behind (event.Start offset name attrs decls first) n = suc n
lists_behind (event.End offset) n = n - 1
lists_behind (event.DocumentEnd offset) n = 0
lists_behind other n = n

-- a start opens a list, and an end closes one, whatever bytes follow
abbrev pub Counts : (old : Source) → Pull → (new : Source) → Type 0
Counts old (pull.Event e) new = (more : List ℕ) (ended : Bool) → length (future new more ended) ≡ lists_behind e (length (future old more ended))
Counts old answer new = Unit {0}

-- the document's end is told only where it has ended
abbrev pub EndsWhole : Source → Pull → Type 0
EndsWhole s (pull.Event (event.DocumentEnd offset)) = s.lexer.ended ≡ true
EndsWhole s answer = Unit {0}
