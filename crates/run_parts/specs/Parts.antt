-- The parts that a run puts into its output.
use Rattle.std.specs.Prelude.{List, [], ◌∷◌}
use Rattle.stx_base.specs.declared.part.Part.{Part}
use Rattle.template_machine.specs.Ending.{Note, Open, Put, Said}

-- the parts among what is said, in their order
abbrev pub parts_of : List Said → List Part
parts_of [] = []
parts_of (Put p ∷ said) = p ∷ parts_of said
parts_of (Note text ∷ said) = parts_of said
parts_of (Open name ∷ said) = parts_of said
