-- What is kept so that later texts and lists of attributes need no memory of their own.
use Rattle.std.specs.Prelude.{◌≡◌, ℕ, ◌≤◌, ◌-◌, List, ◌++◌, length, take}
use Rattle.std.specs.List.{All}

-- the room of each text that is kept, in bytes, and of each list, in attributes; the next to be used stands last
pub record Kept : Type 0 where
  pub texts : List ℕ
  pub lists : List ℕ

-- at most 1024 texts of 64 to 256 bytes each, and at most 64 lists of 16 attributes each at most
abbrev pub IsBounded : Kept → Type 0
IsBounded kept =
    (length kept.texts ≤ 1024) × All (λ room. (64 ≤ room) × (room ≤ 256)) kept.texts
    × (length kept.lists ≤ 64) × All (λ room. room ≤ 16) kept.lists

-- all but the last
abbrev pub without_last : List ℕ → List ℕ
without_last rooms = take (length rooms - 1) rooms

-- what was kept stays, and no more than so many texts and so many lists came to it
abbrev pub Gains : ℕ → ℕ → Kept → Kept → Type 0
Gains texts lists old new =
    (rooms : List ℕ) × (of_lists : List ℕ)
    × (new.texts ≡ old.texts ++ rooms) × (length rooms ≤ texts)
    × (new.lists ≡ old.lists ++ of_lists) × (length of_lists ≤ lists)
