-- What stands before a lexeme, said of the lexemes before it (XML 1.0, 2.1 and 2.4).
use Rattle.std.specs.Prelude.{◌≡◌, ℕ, zero, suc, ◌+◌, Bool, true, false, if◌then◌else◌, List, [], ◌∷◌, ◌++◌, length, reverse}
use Rattle.xml_tokens.specs.declared.lexeme.Body.{Body}
use Rattle.xml_tokens.specs.declared.lexeme.Body.TheVariants as body
use Rattle.xml_tokens.specs.declared.lexeme.Lexeme.{Lexeme}
use Rattle.xml_events.specs.Before.{starting, is_inside}
use Rattle.xml_events.specs.Laws.{behind}

-- lexemes have the end tag of an element, of which so many others are open inside it
abbrev pub have_end : (inside : ℕ) → List Body → Bool
have_end n [] = false
have_end zero (body.End name ∷ xs) = true
have_end (suc n) (body.End name ∷ xs) = have_end n xs
have_end n (body.Start name attrs false ∷ xs) = have_end (suc n) xs
have_end n (x ∷ xs) = have_end n xs

-- the names of the start tags without an end tag, the outermost first
abbrev pub unended : List Body → List (List ℕ)
unended [] = []
unended (body.Start name attrs false ∷ xs) = if have_end 0 xs then unended xs else name ∷ unended xs
unended (x ∷ xs) = unended xs

abbrev pub bodies : List Lexeme → List Body
bodies [] = []
bodies (l ∷ ls) = l.body ∷ bodies ls

-- The open elements are those whose start tags have no end tag.
abbrev pub OpenAreUnended : Type 0
OpenAreUnended = (cdata : Bool) (ls : List Lexeme) → (behind (starting cdata) ls).names ≡ reverse (unended (bodies ls))

-- a text, as which a CDATA section counts where it isn't recognised
abbrev pub IsText : (cdata : Bool) → Body → Type 0
IsText cdata (body.Chars text blank) = Unit {0}
IsText cdata (body.CData text) = cdata ≡ false
IsText cdata other = ⊥

abbrev pub AreTexts : (cdata : Bool) → List Lexeme → Type 0
AreTexts cdata [] = Unit {0}
AreTexts cdata (l ∷ ls) = IsText cdata l.body × AreTexts cdata ls

-- what no text goes on behind: a tag, a comment, an instruction, or a CDATA section that is recognised
abbrev pub EndsText : (cdata : Bool) → Body → Type 0
EndsText cdata (body.Start name attrs empty) = Unit {0}
EndsText cdata (body.End name) = Unit {0}
EndsText cdata (body.Comment text) = Unit {0}
EndsText cdata (body.Pi target text) = Unit {0}
EndsText cdata (body.CData text) = cdata ≡ true
EndsText cdata other = ⊥

-- how many characters lexemes say
abbrev pub said_in : List Body → ℕ
said_in [] = 0
said_in (body.Chars text blank ∷ xs) = length text + said_in xs
said_in (body.CData text ∷ xs) = length text + said_in xs
said_in (x ∷ xs) = said_in xs

-- Those that count are those of the texts since what no text goes on behind, inside the root.
abbrev pub TextsAreCounted : Type 0
TextsAreCounted =
    (cdata : Bool) (ls texts : List Lexeme) (l : Lexeme)
    → EndsText cdata l.body → AreTexts cdata texts
    → is_inside (behind (starting cdata) (ls ++ l ∷ [])).names ≡ true
    → (behind (starting cdata) (ls ++ l ∷ texts)).chars ≡ said_in (bodies texts)
