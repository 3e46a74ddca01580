-- The declaration, and then its name.
use Rattle.std.proofs.Common.{refl}
use Rattle.std.proofs.lemmas.Result.{on_ok_weaker}
use Rattle.sheet_loader.proofs.draft.Draft.add_to_sheet.Goals as goal

pub returns-in-Ok : goal.returns-in-Ok
returns-in-Ok c =
    on_ok_weaker c.declare-in-Ok.result (λ h items holds. record { made = c.declare.new.self; adds = c.in-Ok.ensures items holds; names = h; others = refl }) c.declare-in-Ok.ensures
