-- The values of a tag, from which one is taken.
use Rattle.std.specs.Prelude.{◌≡◌, ℕ, ◌<◌, List, [], ◌∷◌, Option, Some, None, bytes_eq, length, remove, slice_get, if◌then◌else◌}
use Rattle.std.specs.Option.{option_map}
use Rattle.sheet_loader.specs.Making.{Values, value_at}
use Rattle.sheet_loader.specs.Values.{Value, A_word}

-- the others
abbrev pub without : (name : List ℕ) → Values → Values
without name [] = []
without name (v ∷ others) = if bytes_eq v.0 name then others else v ∷ without name others

-- where the value of the attribute stands, or that there is none
abbrev pub IsPlace : (name : List ℕ) → Values → Option ℕ → Type 0
IsPlace name v None = (value_at name v ≡ None) × (without name v ≡ v)
IsPlace name v (Some i) = (i < length v) × (value_at name v ≡ option_map (λ x. x.1) (slice_get v i)) × (without name v ≡ remove v i)

abbrev pub maybe_word : Option Value → Option (List ℕ)
maybe_word (Some (A_word word)) = Some word
maybe_word other = None
