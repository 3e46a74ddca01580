-- The words of the command as the definitions see them.
use Rattle.std.specs.Prelude.{List, map, string_bytes}
use Rattle.std.specs.declared.string.String.{String}
use Rattle.command_words.specs.Said.{Word}

-- words as their bytes
abbrev pub spelled : {A : Type 0} → List (String A) → List Word
spelled words = map (λ w. string_bytes w) words
