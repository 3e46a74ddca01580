use Rattle.std.proofs.Common.{ap, ◌∙◌, false, Option}
use Rattle.std.specs.Option.{option_map_or}
use Rattle.sheet_loader.specs.Elements.{Kind, is_transform}
use Rattle.sheet_loader.proofs.draft.starting.names_transform.Goals as goal

pub returns-in-None : goal.returns-in-None
returns-in-None c = ap (λ (o : Option Kind). option_map_or is_transform o false) c.in-None.ensures

pub returns-in-Some : goal.returns-in-Some
returns-in-Some c = c.is_transform.ensures ∙ ap (λ (o : Option Kind). option_map_or is_transform o false) c.in-Some.ensures
