-- Laws of the sample.
use Rattle.std.specs.Prelude.{◌≡◌, ℕ, ◌<◌, ◌≤◌, Some, slice_get}
use Rattle.std.specs.List.{concat}
use Rattle.sample_maker.specs.Document.{document, pieces, record_text}

-- the pieces joined are the document
abbrev pub JoinsToDocument : Type 0
JoinsToDocument = (n : ℕ) → concat (pieces n) ≡ document n

-- the piece at each number from 1 to n, counted from 0, is the record of that number
abbrev pub HoldsEachRecord : Type 0
HoldsEachRecord = (n i : ℕ) → 0 < i → i ≤ n → slice_get (pieces n) i ≡ Some (record_text i)
