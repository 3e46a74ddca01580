-- The name that was kept last is taken off.
use Rattle.std.proofs.Common.{◌≡◌, List, [], ◌∷◌, ◌++◌, Option, Some, None, IsSome, true, false}
use Rattle.std.specs.Option.{option_to_list}
use Rattle.std.specs.declared.alloc.Global.{Global}
use Rattle.std.specs.declared.string.String.{String}
use Rattle.sheet_loader.proofs.draft.Draft.end_file.Goals as goal

unlike : false ≡ true → ⊥
unlike e = cc

popped : (last : Option (String Global)) (old new : List (String Global)) → IsSome last → old ≡ new ++ option_to_list last → (name : String Global) × (old ≡ new ++ name ∷ [])
popped None old new some e = absurd (unlike some)
popped (Some name) old new some e = (name, e)

pub returns-clause-name : goal.returns-clause-name
returns-clause-name c = λ some. popped c.pop.result _ _ (c.pop.ensures.found.1 some) c.pop.ensures.keys
