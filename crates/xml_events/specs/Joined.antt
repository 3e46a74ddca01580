-- The tree of a document in which a CDATA section is text like other, without a word on sections that are nodes (XML 1.0, 2.4 and 2.7).
use Rattle.std.specs.Prelude.{◌≡◌, ℕ, Bool, if◌then◌else◌, List, [], ◌∷◌, ◌++◌, Option, Some, None}
use Rattle.stx_base.specs.declared.fault.XmlKind.{XmlKind}
use Rattle.stx_base.specs.declared.fault.XmlKind.TheVariants.{Misplaced, TextTooLong}
use Rattle.stx_base.specs.declared.limits.Limits.{Limits}
use Rattle.xml_tokens.specs.Reader.{fed}
use Rattle.xml_tokens.specs.declared.lexeme.Body.{Body}
use Rattle.xml_tokens.specs.declared.lexeme.Body.TheVariants as body
use Rattle.xml_tokens.specs.declared.lexeme.Lexeme.{Lexeme}
use Rattle.xml_tokens.specs.declared.lexeme.Step.{Step}
use Rattle.xml_events.specs.Before.{Before, at_start, is_misplaced, is_too_long, unfit, behind_text, before_next}
use Rattle.xml_events.specs.Document.{Item, Reading, text_items, items_of, at_end, stops, lists_of, inner, finished, doc}
use Rattle.xml_events.specs.Lexed.{lexed, unread}
use Rattle.xml_events.specs.Tree.{Bad, Forest}

-- the fault of a lexeme, if it has one
abbrev pub joined_unfit : Limits → Before → Body → Option XmlKind
joined_unfit limits b (body.CData text) = if is_too_long limits b text then Some TextTooLong else None
joined_unfit limits b other = unfit limits b other

abbrev pub joined_fault_of : Limits → Before → Body → Option XmlKind
joined_fault_of limits b x = if is_misplaced b x then Some Misplaced else joined_unfit limits b x

-- what stands before the next lexeme
abbrev pub joined_next : Before → Body → Before
joined_next b (body.CData text) = behind_text b text
joined_next b other = before_next b other

-- what a lexeme is in the tree
abbrev pub joined_items : Before → (offset : ℕ) → Body → List Item
joined_items b offset (body.CData text) = text_items b offset text
joined_items b offset other = items_of b offset other

-- a lexeme is the last one where it has a fault
abbrev pub joined_judged : Option XmlKind → Before → Lexeme → Reading → Reading
joined_judged (Some kind) b l r = stops b (Bad (record { kind = kind; offset = l.offset }))
joined_judged None b l r = record r { items = joined_items b l.offset l.body ++ r.items }

-- what is read of lexemes, after which `last` comes
abbrev pub joined_reading : Limits → (length : ℕ) → (last : Step) → Before → List Lexeme → Reading
joined_reading limits length last b [] = at_end b length last
joined_reading limits length last b (l ∷ ls) =
    joined_judged (joined_fault_of limits b l.body) b l (joined_reading limits length last (joined_next b l.body) ls)

-- the tree of a document
abbrev pub joined_doc : Limits → (strip : Bool) → (bytes : List ℕ) → (ended : Bool) → Forest
joined_doc limits strip bytes ended =
    let read = lexed limits bytes ended in
    finished strip (inner (lists_of (joined_reading limits (fed (unread limits bytes ended)) read.last at_start read.lexemes)))

-- It is the tree of the document where CDATA sections aren't recognised.
abbrev pub CDataIsText : Type 0
CDataIsText = (limits : Limits) (strip : Bool) (bytes : List ℕ) (ended : Bool) → doc limits strip bytes ended ≡ joined_doc limits strip bytes ended
