-- What an element comes to goes to its list.
use Rattle.std.proofs.Common.{List, refl, ap, sym, ◌∙◌}
use Rattle.std.proofs.Math.Path.{subst}
use Rattle.std.proofs.lemmas.Result.{on_ok_weaker}
use Rattle.std.specs.Option.{option_map, option_to_list}
use Rattle.sheet_loader.specs.Meant.{item_of}
use Rattle.sheet_loader.specs.Reading as reading
use Rattle.sheet_loader.specs.Steps.{AddsItems}
use Rattle.sheet_loader.proofs.draft.Draft.add_item.Goals as goal

pub returns-in-None : goal.returns-in-None
returns-in-None c = λ items holds.
    subst (λ (l : List reading.Item). AddsItems l c.args.self.now c.args.self.now)
    (ap (λ m. option_to_list (option_map item_of m)) (sym c.in-None.is) ∙ c.in_ok-item.ensures items holds) refl

pub returns-in-Some : goal.returns-in-Some
returns-in-Some c =
    on_ok_weaker c.take_item.result (λ adds items holds.
    subst (λ (l : List reading.Item). AddsItems l c.args.self.now c.take_item.new.self)
    (ap (λ m. option_to_list (option_map item_of m)) (sym c.in-Some.is) ∙ c.in_ok-item.ensures items holds) adds) c.take_item.ensures
