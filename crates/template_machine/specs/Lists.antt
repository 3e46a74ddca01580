-- Small words on lists.
use Rattle.std.specs.Prelude.{List, [], ◌∷◌}

-- all of a list but the first
abbrev pub rest_of : {A : Type 0} → List A → List A
rest_of [] = []
rest_of (x ∷ xs) = xs
