use Rattle.std.proofs.Common.{◌-◌, sym, ap, ◌∙◌, length}
use Rattle.std.specs.Prelude.{slice_get}
use Rattle.result_writer.specs.Allowed.{is_good_name}
use Rattle.result_writer.specs.declared.opened.OpenElement.{OpenElement}
use Rattle.result_writer.proofs.Opening.{item_passes}
use Rattle.result_writer.proofs.opened.Opened.innermost.Goals as goal

pub returns-in-Some-clause-good : goal.returns-in-Some-clause-good
returns-in-Some-clause-good c =
    let items = c.self.inside.around.elements.items in
    item_passes (λ (e : OpenElement). is_good_name e.name) items (length items - 1) c.in-Some.element.now c.self.invariant.opened
    (ap (λ l. slice_get l (length l - 1)) (sym c.deref.ensures.value) ∙ sym c.in-Some.ensures.value)
