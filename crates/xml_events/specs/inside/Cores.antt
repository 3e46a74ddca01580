-- What a reader's fields mean, and what they keep.
use Rattle.std.specs.Prelude.{◌≡◌, ◌<◌, ◌≤◌, ◌^◌, ℕ, ◌+◌, ◌-◌, Bool, true, false, List, [], length, Option, Some, None}
use Rattle.xml_tokens.specs.Reader.{Reader, after, due, fed}
use Rattle.xml_tokens.specs.declared.lexeme.Ending.{Ending}
use Rattle.xml_tokens.specs.declared.lexeme.Ending.TheVariants as ending
use Rattle.xml_events.specs.declared.event.Pull.{Pull}
use Rattle.xml_events.specs.declared.event.Pull.TheVariants as pull
use Rattle.xml_events.specs.declared.reader.Core.{Core}
use Rattle.xml_events.specs.declared.reader.Turn.{Turn}
use Rattle.xml_events.specs.declared.reader.Turn.TheVariants as turn
use Rattle.xml_events.specs.declared.reader.EventReader.TheInside.{Inside}
use Rattle.xml_events.specs.declared.event.Event.TheVariants as event
use Rattle.xml_events.specs.declared.place.Word.{Word}
use Rattle.stx_base.specs.declared.fault.XmlFault.{XmlFault}
use Rattle.stx_base.specs.declared.fault.XmlKind.{XmlKind}
use Rattle.stx_base.specs.declared.fault.XmlKind.TheVariants.{Truncated}
use Rattle.xml_tokens.specs.declared.lexeme.Body.TheVariants as body
use Rattle.xml_tokens.specs.declared.lexeme.Lexeme.{Lexeme}
use Rattle.xml_tokens.specs.declared.lexeme.Step.TheVariants as step
use Rattle.xml_events.specs.Before.{is_innermost, is_inside, fault_of}
use Rattle.xml_events.specs.Answering.{Goes, Counts, EndsWhole}
use Rattle.xml_events.specs.inside.Fronts.{known_of, held_of, run_of, items_of, held_lists, IsTelling, AreWide, TakesItems, waiting}
use Rattle.xml_events.specs.Source.{Source, IsAnswer, Leaves, Keeps, Shrinks, events_left, future}
use Rattle.xml_events.specs.inside.Taking as Taking
use Rattle.xml_events.specs.inside.Taking.{before_of, names_of, items_at, IsFit}

abbrev pub source_of : Core → Source
source_of c = record {
  limits = c.place.limits;
  strip = c.front.strip;
  known = (known_of c.front);
  front = items_of c.front;
  before = before_of c.place;
  lexer = c.lexer;
  over = c.over;
}

-- how many lists are open behind the events that are known
abbrev pub lists_open : Core → ℕ
lists_open c = length (names_of c.place) + 1 - held_lists (held_of c.front)

-- what holds while lexemes are read: the lexer repeats no answer, the events that are known tell the first children, and outside the
-- root nothing waits
pub record IsReading (c : Core) : Type 0 where
  pub fresh : c.lexer.over ≡ None
  pub limit : c.lexer.limits.input < 2 ^ 64
  pub fit : IsFit c.place
  pub telling : IsTelling c.front
  pub outside : is_inside (names_of c.place) ≡ false → items_of c.front ≡ []
  pub wide : AreWide (known_of c.front) (lists_open c)
  pub counted : waiting (run_of c.front) ≤ c.place.chars

-- what holds by the answer that is repeated, if one is
abbrev pub holds : Option Ending → Core → Type 0
holds None c = IsReading c
holds (Some ending.End) c = ((known_of c.front) ≡ []) × (items_of c.front ≡ [])
holds (Some (ending.Bad fault)) c = (known_of c.front) ≡ []
holds (Some ending.Memory) c = Unit {0}

abbrev pub IsSound : Core → Type 0
IsSound c = holds c.over c

-- the document has as many bytes as before, and has come to its end or not as before
pub record IsSame (old new : Reader) : Type 0 where
  pub ended : new.ended ≡ old.ended
  pub fed_is : fed new ≡ fed old
  pub limits : new.limits ≡ old.limits

-- what is to come is as it was
pub record Reaches (old new : Core) : Type 0 where
  pub reads : IsReading new
  pub going : new.over ≡ None
  pub same : IsSame old.lexer new.lexer
  pub limits : new.place.limits ≡ old.place.limits
  pub fewer : events_left (source_of new) ≤ events_left (source_of old)
  pub law : (more : List ℕ) (ended : Bool) → future (source_of new) more ended ≡ future (source_of old) more ended

-- a lexeme was taken, and what is to come is as it was
pub record Reads (old new : Core) : Type 0 where
  pub reads : IsReading new
  pub going : new.over ≡ None
  pub same : IsSame old.lexer new.lexer
  pub limits : new.place.limits ≡ old.place.limits
  pub shorter : length new.lexer.unread < length old.lexer.unread
  pub fewer : events_left (source_of new) < events_left (source_of old)
  pub law : (more : List ℕ) (ended : Bool) → future (source_of new) more ended ≡ future (source_of old) more ended

-- an answer was given
pub record Answers (old : Core) (answer : Pull) (new : Core) : Type 0 where
  pub sound : IsSound new
  pub same : IsSame old.lexer new.lexer
  pub limits : new.place.limits ≡ old.place.limits
  pub is_answer : IsAnswer (source_of old) answer
  pub leaves : Leaves (source_of old) answer (source_of new)
  pub shrinks : Shrinks (source_of old) answer (source_of new)
  pub goes : Goes (source_of old) answer (source_of new)
  pub counts : Counts (source_of old) answer (source_of new)
  pub whole : EndsWhole (source_of old) answer
  pub wants : answer ≡ pull.Need → fed old.lexer ≤ old.lexer.limits.input
  pub keeps : answer ≡ pull.Need → Keeps (source_of new)

-- A lexeme was taken, or an answer is given. Want of memory is free.
abbrev pub Turns : (old : Core) → Turn → (new : Core) → Type 0
Turns old turn.Taken new = Reads old new
Turns old turn.Need new = Answers old pull.Need new
Turns old (turn.End offset) new = Answers old (pull.Event (event.DocumentEnd offset)) new
Turns old (turn.Bad fault) new = Answers old (pull.Bad fault) new
Turns old turn.Memory new = Unit {0}

-- a lexeme without a fault was taken
pub record Takes (old : Core) (l : Lexeme) (new : Core) : Type 0 where
  pub word : Word
  pub place : Taking.Takes old.place l.body new.place word
  pub front : TakesItems (items_at l.offset word) old.front new.front
  pub limits : new.place.limits ≡ old.place.limits
  pub lexer : new.lexer ≡ old.lexer
  pub over : new.over ≡ old.over

-- a document goes no further for a fault
pub record Fails (fault : XmlFault) (old new : Core) : Type 0 where
  pub names : names_of new.place ≡ names_of old.place
  pub limits : new.place.limits ≡ old.place.limits
  pub front : new.front ≡ old.front
  pub lexer : new.lexer ≡ old.lexer
  pub over : new.over ≡ Some (ending.Bad fault)

-- a lexeme has a fault
pub record Refuses (old : Core) (l : Lexeme) (fault : XmlFault) (new : Core) : Type 0 where
  pub kind : XmlKind
  pub faulty : fault_of old.place.limits (before_of old.place) l.body ≡ Some kind
  pub fault_is : fault ≡ record { kind = kind; offset = l.offset }
  pub fails : Fails (record { kind = kind; offset = l.offset }) old new

-- either of both; want of memory is free
abbrev pub Receives : (old : Core) → Lexeme → Turn → (new : Core) → Type 0
Receives old l turn.Taken new = Takes old l new
Receives old l (turn.Bad fault) new = Refuses old l fault new
Receives old l turn.Memory new = Unit {0}
Receives old l other new = ⊥

-- the end tag of a name at a place
abbrev pub end_lexeme : (offset : ℕ) → (name : List ℕ) → Lexeme
end_lexeme offset name = record { offset = offset; body = body.End name }

-- the end tag of the innermost open element was taken off the bytes
pub record TakesEnd (old : Core) (offset : ℕ) (new : Core) : Type 0 where
  pub name : List ℕ
  pub innermost : is_innermost name (names_of old.place) ≡ true
  pub answer : step.Lexeme (end_lexeme offset name) ≡ due old.lexer
  pub lexer : new.lexer ≡ after old.lexer (step.Lexeme (end_lexeme offset name))
  pub same : IsSame old.lexer new.lexer
  pub shorter : length new.lexer.unread < length old.lexer.unread
  pub place : new.place ≡ old.place
  pub front : new.front ≡ old.front
  pub over : new.over ≡ old.over

-- what a document's end comes to, where it has so many bytes
abbrev pub Ends : (length : ℕ) → (complete : Bool) → (old : Core) → Turn → (new : Core) → Type 0
Ends length true old t new = (t ≡ turn.End length) × (new ≡ record old { over = Some ending.End })
Ends length false old t new =
    (t ≡ turn.Bad (record { kind = Truncated; offset = length })) × Fails (record { kind = Truncated; offset = length }) old new

abbrev pub source_in : Inside → Source
source_in x = source_of x.core

abbrev pub IsSoundIn : Inside → Type 0
IsSoundIn x = IsSound x.core
