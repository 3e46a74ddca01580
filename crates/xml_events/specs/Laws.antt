-- What laws of the definitions say.
use Rattle.std.specs.Prelude.{◌≡◌, ℕ, Bool, true, List, [], ◌∷◌, ◌++◌, Option, Some, None}
use Rattle.std.specs.List.{flat_map}
use Rattle.stx_base.specs.declared.limits.Limits.{Limits}
use Rattle.stx_base.specs.declared.fault.XmlKind.{XmlKind}
use Rattle.xml_tokens.specs.declared.lexeme.Lexeme.{Lexeme}
use Rattle.xml_tokens.specs.declared.lexeme.Step.{Step}
use Rattle.xml_events.specs.Before.{Before, starting, before_next, fault_of}
use Rattle.xml_events.specs.Document.{Item, items_of, at_end, cuts, reading, lists_of, inner, doc_for}
use Rattle.xml_events.specs.Flatten.{flatten, joined, cut_by, IsCutTree}
use Rattle.xml_events.specs.Source.{Source, source_for, fed_with, ended_there, future}
use Rattle.xml_events.specs.Telling.{Agrees, followed, pulled}
use Rattle.xml_events.specs.Tree.{Why, Bad, Forest, Future}
use Rattle.xml_events.specs.declared.event.Event.{Event}
use Rattle.xml_events.specs.declared.event.Pull.TheVariants as pull

-- pieces are fed one after another
abbrev pub fed_all : Source → (pieces : List (List ℕ)) → Source
fed_all s [] = s
fed_all s (piece ∷ pieces) = fed_all (fed_with s piece) pieces

-- In whatever pieces a document comes, its reader has the document's tree before it, and the tree of what came where it ends there.
abbrev pub HasDocument : Type 0
HasDocument =
    (limits : Limits) (strip cdata : Bool) (pieces : List (List ℕ)) (more : List ℕ) (ended : Bool)
    → let bytes = flat_map (λ piece. piece) pieces in
    let s = fed_all (source_for limits strip cdata) pieces in
    (future s more ended ≡ doc_for limits strip cdata (bytes ++ more) ended ∷ [])
    × (future (ended_there s) more ended ≡ doc_for limits strip cdata bytes true ∷ [])

-- what stands behind lexemes
abbrev pub behind : Before → List Lexeme → Before
behind b [] = b
behind b (l ∷ ls) = behind (before_next b l.body) ls

-- what lexemes are in the tree
abbrev pub all_items : Before → List Lexeme → List Item
all_items b [] = []
all_items b (l ∷ ls) = items_of b l.offset l.body ++ all_items (before_next b l.body) ls

-- none of the lexemes has a fault for what stands before it
abbrev pub AreSound : Limits → Before → List Lexeme → Type 0
AreSound limits b [] = Unit {0}
AreSound limits b (l ∷ ls) = (fault_of limits b l.body ≡ None) × AreSound limits (before_next b l.body) ls

-- A document is read up to its first faulty lexeme, and the fault stands at that lexeme's first byte in all lists that are open there.
abbrev pub FirstFault : Type 0
FirstFault =
    (limits : Limits) (cdata : Bool) (length : ℕ) (last : Step) (ls ms : List Lexeme) (l : Lexeme) (kind : XmlKind)
    → AreSound limits (starting cdata) ls
    → fault_of limits (behind (starting cdata) ls) l.body ≡ Some kind
    → reading limits length last (starting cdata) (ls ++ l ∷ ms)
    ≡ record { items = all_items (starting cdata) ls; rest = cuts (Bad (record { kind = kind; offset = l.offset })) (behind (starting cdata) ls).names }

-- Where no lexeme has a fault, all are read, and what comes after them says why there are no more.
abbrev pub NoFault : Type 0
NoFault =
    (limits : Limits) (cdata : Bool) (length : ℕ) (last : Step) (ls : List Lexeme)
    → AreSound limits (starting cdata) ls
    → let end = at_end (behind (starting cdata) ls) length last in
    reading limits length last (starting cdata) ls ≡ record { items = all_items (starting cdata) ls ++ end.items; rest = end.rest }

-- Flattening the tree of what is read of lexemes gives these items back: each start and end, each leaf, and the texts between them.
abbrev pub Flattened : Type 0
Flattened =
    (limits : Limits) (cdata : Bool) (length : ℕ) (last : Step) (ls : List Lexeme)
    → let read = reading limits length last (starting cdata) ls in flatten (inner (lists_of read)) ≡ joined read.items

-- The tree of what is read of lexemes is a cut tree.
abbrev pub IsTree : Type 0
IsTree =
    (limits : Limits) (cdata : Bool) (length : ℕ) (last : Step) (ls : List Lexeme)
    → let read = reading limits length last (starting cdata) ls in IsCutTree (cut_by read.rest) (inner (lists_of read))

-- A tree is the only one with its flattening.
abbrev pub OnlyTree : Type 0
OnlyTree = (why : Option Why) (x y : Forest) → IsCutTree why x → IsCutTree why y → flatten x ≡ flatten y → x ≡ y

-- What follows an event that a future calls for agrees with it.
abbrev pub ToldAgrees : Type 0
ToldAgrees = (e : Event) (f : Future) → pulled (followed e f) ≡ pull.Event e → Agrees e f
