-- Laws of the words.
use Rattle.std.specs.Prelude.{◌≡◌, List, ◌∷◌, ◌++◌, map, Some, None, codes}
use Rattle.command_words.specs.Said.{Numbered, Said, free, check, number, Word, kind, name_of, plain, said_from}
use Rattle.command_words.specs.Words.{command_in}

-- how a thing is said in one word: an option with its value is `--NAME=VALUE`
abbrev pub spelled : Said → Word
spelled (free word) = word
spelled check = codes "--check"
spelled (number o value) = codes "--" ++ name_of o ++ codes "=" ++ value

-- it is said by a word that is no option
abbrev pub IsPlain : Said → Type 0
IsPlain (free word) = kind word ≡ plain
IsPlain thing = Unit {0}

-- what is spelled is read
abbrev pub ReadsSpelled : Type 0
ReadsSpelled = (thing : Said) (words : List Word) (said : List Said) → IsPlain thing → said_from None words ≡ Some said
    → said_from None (spelled thing ∷ words) ≡ Some (thing ∷ said)

-- an option's value may be the next word, where that is no option
abbrev pub ReadsApart : Type 0
ReadsApart = (o : Numbered) (value : Word) (words : List Word) → kind value ≡ plain
    → said_from None ((codes "--" ++ name_of o) ∷ value ∷ words) ≡ said_from None (spelled (number o value) ∷ words)

-- behind `--` no word is an option
abbrev pub ReadsRest : Type 0
ReadsRest = (words : List Word) → said_from None (codes "--" ∷ words) ≡ Some (map free words)

-- it is no option
abbrev pub IsFree : Said → Type 0
IsFree (free word) = Unit {0}
IsFree thing = ⊥

-- an option may stand before or behind a word that is none
abbrev pub MovesOptions : Type 0
MovesOptions = (front back : List Said) (word : Word) (option : Said) → (IsFree option → ⊥)
    → command_in (front ++ free word ∷ option ∷ back) ≡ command_in (front ++ option ∷ free word ∷ back)
