-- What an event reader has before it, and what it answers.
use Rattle.std.specs.Prelude.{◌≡◌, ◌<◌, ◌≤◌, ℕ, ◌+◌, ◌*◌, Bool, true, false, if◌then◌else◌, List, [], ◌∷◌, ◌++◌, length, map, Option, Some, None}
use Rattle.stx_base.specs.declared.limits.Limits.{Limits}
use Rattle.xml_tokens.specs.Reader.{Reader, begun}
use Rattle.xml_tokens.specs.declared.lexeme.Ending.{Ending}
use Rattle.xml_tokens.specs.declared.lexeme.Ending.TheVariants as ending
use Rattle.xml_events.specs.declared.event.Event.{Event}
use Rattle.xml_events.specs.declared.event.Pull.{Pull}
use Rattle.xml_events.specs.declared.event.Pull.TheVariants as pull
use Rattle.xml_events.specs.Before.{Before, starting}
use Rattle.xml_events.specs.Document.{Item, Opens, Says, Reading, stops, reading_from, lists_of, with_items, finished}
use Rattle.xml_events.specs.Telling.{told, followed, pulled}
use Rattle.xml_events.specs.Tree.{Need, Bad, Future}

-- what a reader has before it: events that are known and weren't given yet; the items that were read and of which no event is known,
-- which are an element whose first child isn't known, and a text; what stands before the bytes that aren't read yet, and these; and the
-- answer that is repeated, if one is
pub record Source : Type 0 where
  pub limits : Limits
  pub strip : Bool
  pub known : List Event
  pub front : List Item
  pub before : Before
  pub lexer : Reader
  pub over : Option Ending

-- a document that begins
abbrev pub source_for : Limits → (strip cdata : Bool) → Source
source_for limits strip cdata = record {
  limits = limits;
  strip = strip;
  known = [];
  front = [];
  before = starting cdata;
  lexer = begun limits;
  over = None;
}

-- the same where CDATA sections aren't recognised
abbrev pub source : Limits → (strip : Bool) → Source
source limits strip = source_for limits strip false

-- the document goes on with a piece
abbrev pub fed_with : Source → (piece : List ℕ) → Source
fed_with s piece = record s { lexer = record s.lexer { unread = s.lexer.unread ++ piece } }

-- the document ends
abbrev pub ended_there : Source → Source
ended_there s = record s { lexer = record s.lexer { ended = true } }

-- a lexer with these bytes more, and maybe its document's end, if its document goes on
abbrev pub later : Reader → (more : List ℕ) → (ended : Bool) → Reader
later r more ended = if r.ended then r else record r { unread = r.unread ++ more; ended = ended }

-- what is read from now on, unless an answer is repeated
abbrev pub unless_over : Option Ending → Before → Reading → Reading
unless_over None b r = r
unless_over (Some ending.End) b r = record { items = []; rest = [] }
unless_over (Some (ending.Bad fault)) b r = stops b (Bad fault)
unless_over (Some ending.Memory) b r = stops b Need

-- what is still to be read, where these bytes are still to come
abbrev pub left : Source → (more : List ℕ) → (ended : Bool) → Reading
left s more ended = unless_over s.over s.before (reading_from s.limits s.before (later s.lexer more ended))

-- The future of a reader, where these bytes are still to come: for each open list, from the innermost outwards, the nodes of the
-- document's tree that no event told yet.
abbrev pub future : Source → (more : List ℕ) → (ended : Bool) → Future
future s more ended = told s.known (map (finished s.strip) (with_items s.front (lists_of (left s more ended))))

-- An answer is what the document's tree calls for, whatever bytes follow, and where more bytes must come it is what the tree of the
-- bytes so far calls for. Want of memory is free.
abbrev pub IsAnswer : Source → Pull → Type 0
IsAnswer s pull.Memory = Unit {0}
IsAnswer s pull.Need = (pulled (future s [] false) ≡ pull.Need) × (s.lexer.ended ≡ false)
IsAnswer s answer = (more : List ℕ) (ended : Bool) → pulled (future s more ended) ≡ answer

-- Behind an event comes what followed it, and behind another answer what was to come.
abbrev pub Leaves : Source → Pull → Source → Type 0
Leaves old (pull.Event e) new = (more : List ℕ) (ended : Bool) → future old more ended ≡ followed e (future new more ended)
Leaves old pull.Memory new = new.over ≡ Some ending.Memory
Leaves old answer new = (more : List ℕ) (ended : Bool) → future new more ended ≡ future old more ended

-- where an answer is repeated, the document's end doesn't come any more
abbrev pub ends_left : Option Ending → ℕ
ends_left None = 1
ends_left (Some over) = 0

-- No more events than this come of what was fed: a lexeme takes a byte at least, and makes four events known at most.
abbrev pub events_left : Source → ℕ
events_left s = 5 * length s.lexer.unread + length s.known + ends_left s.over

-- an event is one of these
abbrev pub Shrinks : Source → Pull → Source → Type 0
Shrinks old (pull.Event e) new = events_left new < events_left old
Shrinks old answer new = Unit {0}

-- no more waits than one element and one text
abbrev pub IsShort : List Item → Type 0
IsShort [] = Unit {0}
IsShort (Opens element ∷ []) = Unit {0}
IsShort (Opens element ∷ Says offset text ∷ []) = Unit {0}
IsShort (Says offset text ∷ []) = Unit {0}
IsShort other = ⊥

-- how many characters texts have
abbrev pub text_in : List Item → ℕ
text_in [] = 0
text_in (Says offset text ∷ items) = length text + text_in items
text_in (other ∷ items) = text_in items

-- Where more bytes are wanted, what is kept is a start tag and a text that were read, the names and declarations of the open elements,
-- and of the bytes no whole lexeme.
pub record Keeps (s : Source) : Type 0 where
  pub known : s.known ≡ []
  pub front : IsShort s.front
  pub text : text_in s.front ≤ s.limits.text
  pub depth : length s.before.names ≤ s.limits.depth
  pub scopes : length s.before.path ≡ length s.before.names
  pub unread : length s.lexer.unread ≤ s.lexer.limits.lexeme + 11
