-- Which texts are marked.
use Rattle.std.specs.Prelude.{ℕ, ◌+◌, ◌%◌, Bool, false, List, length, slice_get, unwrap_or}
use Rattle.std.specs.List.{slice_index_or}

-- where a text is marked: by its first byte and its length
abbrev pub mark_of : (bytes : List ℕ) → ℕ
mark_of bytes = (unwrap_or (slice_get bytes 0) 0 + length bytes % 256) % 256

-- it is marked there
abbrev pub is_marked : List Bool → (bytes : List ℕ) → Bool
is_marked marks bytes = slice_index_or marks (mark_of bytes) false
