-- What the definitions mean, as statements.
use Rattle.std.specs.Prelude.{◌≡◌, ◌≢◌, ℕ, ◌<◌, ℤ, pos, ◌+ℤ◌, ◌*ℤ◌, ◌≤ℤ◌, unsigned_abs, int_div, int_rem, true, List, ◌++◌, length, Some, Ok}
use Rattle.std.specs.Fmt.{signed_decimal}
use Rattle.stxpath_values.specs.Numeral.{fits, text_number}
use Rattle.stxpath_values.specs.Places.{first_occurrence, before_word, after_word}

-- a quotient times the divisor, and the remainder, are what was divided
abbrev pub QuotientAndRemainder : Type 0
QuotientAndRemainder = (x y : ℤ) → int_div x y *ℤ y +ℤ int_rem x y ≡ x

-- a remainder is smaller than the divisor, apart from their signs
abbrev pub RemainderIsSmaller : Type 0
RemainderIsSmaller = (x y : ℤ) → y ≢ pos 0 → unsigned_abs (int_rem x y) < unsigned_abs y

-- and isn't on the other side of 0 than what was divided: so the quotient is cut towards 0
abbrev pub RemainderOfPositive : Type 0
RemainderOfPositive = (x y : ℤ) → pos 0 ≤ℤ x → pos 0 ≤ℤ int_rem x y

abbrev pub RemainderOfNegative : Type 0
RemainderOfNegative = (x y : ℤ) → x ≤ℤ pos 0 → int_rem x y ≤ℤ pos 0

-- what stands before a word's first occurrence, the word and what stands after it are the text
abbrev pub CutAtWord : Type 0
CutAtWord = (word cs : List ℕ) (i : ℕ) → first_occurrence word cs ≡ Some i → before_word word cs ++ word ++ after_word word cs ≡ cs

-- and no more characters stand before it than are asked for
abbrev pub PlaceOfWord : Type 0
PlaceOfWord = (word cs : List ℕ) (i : ℕ) → first_occurrence word cs ≡ Some i → length (before_word word cs) ≡ i

-- the text of a whole number within 64 bits is read as that number
abbrev pub NumberIsRead : Type 0
NumberIsRead = (z : ℤ) → fits z ≡ true → text_number (signed_decimal z) ≡ Ok (Some z)
