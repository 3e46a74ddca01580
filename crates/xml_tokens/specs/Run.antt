-- The lexemes of a whole document.
use Rattle.std.specs.Prelude.{◌≡◌, ◌≢◌, ◌≤◌, ℕ, ◌+◌, Bool, true, false, List, [], ◌∷◌, ◌++◌, Option, Some, None, Ok, length, drop}
use Rattle.stx_base.specs.declared.limits.Limits.{Limits}
use Rattle.xml_tokens.specs.Reader.{Reader, mark_len_of, due, after, step_of}
use Rattle.xml_tokens.specs.Judged.{judged}
use Rattle.xml_tokens.specs.Cuts.{Cuts}
use Rattle.xml_tokens.specs.declared.lexeme.Ending.{Ending}
use Rattle.xml_tokens.specs.declared.lexeme.Ending.TheVariants as ending
use Rattle.xml_tokens.specs.declared.lexeme.Lexeme.{Lexeme}
use Rattle.xml_tokens.specs.declared.lexeme.Step.TheVariants as step

-- a document that has come to its end and of which nothing is read yet
abbrev pub document : Limits → List ℕ → Reader
document limits bytes = record { limits = limits; unread = bytes; offset = 0; ended = true; over = None }

-- these lexemes come one after another, and what is left then
abbrev pub Taken : Reader → List Lexeme → Reader → Type 0
Taken r [] rest = r ≡ rest
Taken r (lexeme ∷ lexemes) rest = (due r ≡ step.Lexeme lexeme) × Taken (after r (step.Lexeme lexeme)) lexemes rest

-- these lexemes come one after another, and then this ending
abbrev pub Lexes : Reader → List Lexeme → Ending → Type 0
Lexes r lexemes over = (rest : Reader) × Taken r lexemes rest × (due rest ≡ step_of over)

-- from `old` on the lexemes that are whole were taken, and then more bytes must come, or there is an ending
abbrev pub IsDrained : Reader → List Lexeme → Reader → List Lexeme → Option Ending → Type 0
IsDrained old lexemes new all None =
    (taken : List Lexeme) × (all ≡ lexemes ++ taken) × Taken old taken new × (due new ≡ step.Need)
IsDrained old lexemes new all (Some over) =
    (taken : List Lexeme) × (rest : Reader) × (all ≡ lexemes ++ taken) × Taken old taken rest × (due rest ≡ step_of over)

-- the shapes say these lexemes, one behind another from a place on; `first` says that this is the document's very start
abbrev pub Says : (first : Bool) → ℕ → List (List ℕ) → List Lexeme → Type 0
Says first at [] [] = Unit {0}
Says first at [] (lexeme ∷ lexemes) = ⊥
Says first at (shape ∷ shapes) [] = ⊥
Says first at (shape ∷ shapes) (lexeme ∷ lexemes) =
    (lexeme.offset ≡ at) × (judged first shape ≡ Ok lexeme.body) × Says false (at + length shape) shapes lexemes

-- a document that is read to its end is, behind a byte order mark, the shapes that say its lexemes
abbrev pub ShapesSayLexemes : Type 0
ShapesSayLexemes = (limits : Limits) (bytes : List ℕ) (lexemes : List Lexeme) → length bytes ≤ limits.input → Lexes (document limits bytes) lexemes ending.End →
    (shapes : List (List ℕ)) × Cuts true (drop (mark_len_of 0 bytes) bytes) shapes [] × Says true (mark_len_of 0 bytes) shapes lexemes

-- the document goes on with these bytes, and ends behind them or not
abbrev pub going_on : Reader → List ℕ → Bool → Reader
going_on r rest ended = record r { unread = r.unread ++ rest; ended = ended }

-- an answer other than `Need` stays, whatever bytes follow
abbrev pub AnswersStay : Type 0
AnswersStay = (r : Reader) (rest : List ℕ) (ended : Bool) → r.over ≡ None → r.ended ≡ false → due r ≢ step.Need → due (going_on r rest ended) ≡ due r

-- so does what stands behind a lexeme
abbrev pub LexemesStay : Type 0
LexemesStay = (r : Reader) (rest : List ℕ) (ended : Bool) (lexeme : Lexeme) → r.over ≡ None → r.ended ≡ false → due r ≡ step.Lexeme lexeme →
    after (going_on r rest ended) (step.Lexeme lexeme) ≡ going_on (after r (step.Lexeme lexeme)) rest ended

-- one document has one run
abbrev pub OneRun : Type 0
OneRun = (r : Reader) (lexemes others : List Lexeme) (over other : Ending) → Lexes r lexemes over → Lexes r others other → (lexemes ≡ others) × (over ≡ other)

-- where more bytes are wanted, those that wait are no more than a lexeme may have, and a mark and the longest front that
-- doesn't say yet what it begins
abbrev pub FewUnread : Type 0
FewUnread = (r : Reader) → r.over ≡ None → due r ≡ step.Need → length r.unread ≤ r.limits.lexeme + 11

-- none of the shapes is longer than this
abbrev pub AreWithin : ℕ → List (List ℕ) → Type 0
AreWithin limit [] = Unit {0}
AreWithin limit (shape ∷ shapes) = (length shape ≤ limit) × AreWithin limit shapes

-- where a document's shapes, none of them too long, say lexemes, it is read to its end as these
abbrev pub SayingShapesAreRead : Type 0
SayingShapesAreRead = (limits : Limits) (bytes : List ℕ) (shapes : List (List ℕ)) (lexemes : List Lexeme) → length bytes ≤ limits.input →
    Cuts true (drop (mark_len_of 0 bytes) bytes) shapes [] → Says true (mark_len_of 0 bytes) shapes lexemes → AreWithin limits.lexeme shapes →
    Lexes (document limits bytes) lexemes ending.End
