-- Stacks: lists with the top first.
use Rattle.std.specs.Prelude.{List, [], ◌∷◌, Option, Some, None}

abbrev pub top : {A : Type 0} → List A → Option A
top [] = None
top (item ∷ items) = Some item
