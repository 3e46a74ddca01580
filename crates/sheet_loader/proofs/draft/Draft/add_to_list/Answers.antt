-- The item, and then its name.
use Rattle.std.proofs.lemmas.Result.{on_ok_weaker}
use Rattle.sheet_loader.proofs.draft.Draft.add_to_list.Goals as goal

pub returns-in-Ok : goal.returns-in-Ok
returns-in-Ok c =
    on_ok_weaker c.bring.result (λ h items holds. record { made = c.add_item.new.self; adds = c.in-Ok.ensures items holds; brings = h }) c.bring.ensures
