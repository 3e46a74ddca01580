-- The functions by name.
use Rattle.std.specs.Prelude.{ℕ, List, Option, bytes_eq, find}
use Rattle.stx_base.specs.declared.expression.Fun.{Fun}
use Rattle.stx_base.specs.Functions.{word, every}

-- the function that has this name, compared by its UTF-8
unfoldable pub function_named : List ℕ → Option Fun
function_named name = find (λ f. bytes_eq (word f) name) every
