-- The sample: a document of numbered records.
use Rattle.std.specs.Prelude.{ℕ, zero, suc, ◌*◌, ◌%◌, List, [], ◌∷◌, ◌++◌, codes}
use Rattle.std.specs.Fmt.{decimal}

-- the root's start tag and end tag, each with a line feed
abbrev pub head : List ℕ
head = codes "<list>\n"

abbrev pub foot : List ℕ
foot = codes "</list>\n"

-- `<rec id="i"><name>item i</name><qty>q</qty></rec>` and a line feed, where q is the last digit of 7i
unfoldable pub record_text : (i : ℕ) → List ℕ
record_text i =
    codes "<rec id=\"" ++ decimal i ++ codes "\"><name>item " ++ decimal i ++ codes "</name><qty>" ++ decimal (7 * i % 10)
    ++ codes "</qty></rec>\n"

-- the records up to a number
abbrev pub records : (last : ℕ) → List ℕ
records zero = []
records (suc i) = records i ++ record_text (suc i)

-- the whole document
abbrev pub document : (n : ℕ) → List ℕ
document n = head ++ records n ++ foot

-- so many records from a number on, each by itself
abbrev pub records_from : (i count : ℕ) → List (List ℕ)
records_from i zero = []
records_from i (suc count) = record_text i ∷ records_from (suc i) count

-- the document in pieces: each tag of the root and each record
abbrev pub pieces : (n : ℕ) → List (List ℕ)
pieces n = head ∷ records_from 1 n ++ foot ∷ []
