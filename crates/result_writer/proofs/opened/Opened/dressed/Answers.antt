use Rattle.std.proofs.Common.{◌≡◌, true, ap, sym, ◌∙◌, reverse, Some}
use Rattle.result_writer.specs.Opened.{dressing, elements, held_if}
use Rattle.result_writer.specs.Tag.{dressed}
use Rattle.result_writer.specs.Target.{Target, dressed_in}
use Rattle.result_writer.proofs.Opening.{in_force-elements}
use Rattle.result_writer.proofs.opened.Opened.dressed.Goals as goal

pub returns : goal.returns
returns c =
    let t = c.self.inside in
    let tag = t.around.tag in
    let made = c.in_ok-dressed.dressed in
    let es = elements (reverse t.around.elements.items) t.around.bindings in
    let holds : t.around.holds ≡ true = c.if-not-around.false in
    sym (ap (λ (t : Target). dressing t.left.held made) c.self.view_is)
    ∙ ap (λ h. dressing (held_if h tag) made) holds
    ∙ ap Some (c.in_ok-dressed.ensures ∙ ap (λ l. dressed l tag) (sym (in_force-elements (reverse t.around.elements.items) t.around.bindings c.self.invariant.counted)))
    ∙ ap (λ h. dressed_in es (held_if h tag)) (sym holds)
    ∙ ap (λ (t : Target). dressed_in t.left.elements t.left.held) c.self.view_is
