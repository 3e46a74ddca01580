-- Three buffers, and how many copies each of them has.
use Rattle.std.specs.Prelude.{◌≡◌, ℕ, ◌+◌, ◌<◌, ◌^◌, List, [], ◌∷◌, length, map}
use Rattle.std.specs.List.{All}
use Rattle.event_buffers.specs.Buffers.{Buffer, Buffers}
use Rattle.sheet_model.specs.Sound.{IsContent}
use Rattle.sheet_model.specs.declared.sheet.Buffer as sheet

-- the group of a buffer, and the number of its copies
pub record Pile : Type 0 where
  pub group : ℕ
  pub copies : ℕ

abbrev pub pile : Buffer → Pile
pile b = record { group = b.group; copies = length b.copies }

-- two of the group 0 and one of the group 1, and so many copies are laid over the first one of each
abbrev pub AreLaid : (first second : ℕ) → Buffers → Type 0
AreLaid first second b =
    map pile b.buffers
    ≡ record { group = 0; copies = first + 1 } ∷ record { group = 0; copies = first + 1 } ∷ record { group = 1; copies = second + 1 } ∷ []

-- the groups of buffers of a sheet
abbrev pub groups : List sheet.Buffer → List ℕ
groups bs = map (λ (b : sheet.Buffer). b.group) bs

-- what it begins with may be content, and is short
pub record IsShort (b : sheet.Buffer) : Type 0 where
  pub content : IsContent b.content
  pub few : length b.content < 2 ^ 20

abbrev pub AreShort : List sheet.Buffer → Type 0
AreShort bs = All IsShort bs
