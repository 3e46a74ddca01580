-- How a search for a numbered instruction goes on behind a list of instructions.
use Rattle.std.specs.Prelude.{◌≡◌, ℕ, ◌+◌, List, Some, length, slice_get}
use Rattle.sheet_model.specs.declared.find.Outcome.{Outcome}
use Rattle.sheet_model.specs.declared.find.Outcome.TheVariants as outcome
use Rattle.sheet_model.specs.declared.instr.Instr.{Instr}

-- the instruction with the number is found, or so many are still to be passed behind the list
abbrev pub Searches : List Instr → (number : ℕ) → Outcome → Type 0
Searches all number (outcome.Found i) = slice_get all number ≡ Some i.now
Searches all number (outcome.Behind left) = length all + left ≡ number
