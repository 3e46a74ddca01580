use Rattle.std.proofs.Common.{◌≡◌, true, ap, sym, ◌∙◌, reverse, None, Some}
use Rattle.result_writer.specs.Opened.{dressing, elements, held_if}
use Rattle.result_writer.specs.Steady.{keeps_names}
use Rattle.result_writer.specs.Tag.{dressed}
use Rattle.result_writer.specs.Target.{Target, dressed_in}
use Rattle.result_writer.proofs.Opening.{in_force-elements}
use Rattle.result_writer.proofs.Steadying.{dressed-steady}
use Rattle.result_writer.proofs.opened.Opened.is_undressed.Goals as goal

pub returns-then-around : goal.returns-then-around
returns-then-around c h =
    let t = c.self.inside in
    let tag = t.around.tag in
    let bindings = t.around.bindings in
    let es = elements (reverse t.around.elements.items) bindings in
    let holds : t.around.holds ≡ true = c.if-not-around.false in
    let names : keeps_names bindings tag ≡ true =
    sym c.keeps_names.ensures ∙ h in
    sym (ap (λ (t : Target). dressing t.left.held None) c.self.view_is)
    ∙ ap (λ k. dressing (held_if k tag) None) holds
    ∙ ap Some
    (sym (dressed-steady bindings tag names (c.self.invariant.kept c.if-around.true))
    ∙ ap (λ l. dressed l tag) (sym (in_force-elements (reverse t.around.elements.items) bindings c.self.invariant.counted)))
    ∙ ap (λ k. dressed_in es (held_if k tag)) (sym holds)
    ∙ ap (λ (t : Target). dressed_in t.left.elements t.left.held) c.self.view_is
