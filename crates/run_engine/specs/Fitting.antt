-- Documents that a run can take.
use Rattle.std.specs.Prelude.{◌≡◌, ◌≤◌, ◌<◌, ℕ, suc, Bool, true, List, [], ◌∷◌, length}
use Rattle.stx_base.specs.Character.{is_cdata_text}
use Rattle.stx_base.specs.declared.limits.Limits.{Limits}
use Rattle.xml_tokens.specs.declared.lexeme.Body.{Body}
use Rattle.xml_tokens.specs.declared.lexeme.Body.TheVariants as body
use Rattle.xml_tokens.specs.declared.lexeme.Lexeme.{Lexeme}
use Rattle.xml_events.specs.Document.{doc_for}
use Rattle.xml_events.specs.Lexed.{lexed}
use Rattle.xml_events.specs.Tree.{Leaf, CData, Forest, End, Cut, Single, Nested, Future}

-- the text of a CDATA section may be one
abbrev pub IsSection : Leaf → Type 0
IsSection (CData offset text) = is_cdata_text text ≡ true
IsSection leaf = Unit {0}

-- the text of a lexeme that is a CDATA section may be one
abbrev pub HasSection : Body → Type 0
HasSection (body.CData text) = is_cdata_text text ≡ true
HasSection other = Unit {0}

abbrev pub HaveSections : List Lexeme → Type 0
HaveSections [] = Unit {0}
HaveSections (l ∷ ls) = HasSection l.body × HaveSections ls

-- so it is in each document
abbrev pub SectionsHold : Type 0
SectionsHold = (limits : Limits) (bytes : List ℕ) (ended : Bool) → HaveSections (lexed limits bytes ended).lexemes

-- in a list within so many open elements no more than `depth` are open at once, and the texts of CDATA sections may be ones
abbrev pub FitsWithin : (depth begun : ℕ) → Forest → Type 0
FitsWithin depth n (End mark offset) = Unit {0}
FitsWithin depth n (Cut why) = Unit {0}
FitsWithin depth n (Single mark leaf next) = IsSection leaf × FitsWithin depth n next
FitsWithin depth n (Nested stage element kids next) = (n < depth) × FitsWithin depth (suc n) kids × FitsWithin depth n next

-- so it is in the open lists of a document
abbrev pub Fits : (depth : ℕ) → Future → Type 0
Fits depth [] = Unit {0}
Fits depth (list ∷ lists) = (length lists ≤ depth) × FitsWithin depth (length lists) list × Fits depth lists

-- and in each document that is read under the limit
abbrev pub DocumentsFit : Type 0
DocumentsFit =
    (limits : Limits) (strip cdata : Bool) (bytes : List ℕ) (ended : Bool)
    → Fits limits.depth (doc_for limits strip cdata bytes ended ∷ [])
