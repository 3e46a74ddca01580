use Rattle.std.proofs.Common.{◌≡◌, ◌==◌, false, ap, sym, ◌∙◌, reverse}
use Rattle.result_writer.specs.Opened.{elements, held_if}
use Rattle.result_writer.specs.Target.{Target, is_closed}
use Rattle.result_writer.proofs.Opening.{is_closed-length, length_open}
use Rattle.result_writer.proofs.opened.Opened.closed.Goals as goal

pub returns-then-not-self : goal.returns-then-not-self
returns-then-not-self c =
    let t = c.self.inside in
    let es = elements (reverse t.around.elements.items) t.around.bindings in
    let none : t.around.holds ≡ false = c.if-not-self.true in
    c.is_empty.ensures
    ∙ ap (λ n. n == 0) (t.around.elements.ok.0 ∙ sym (length_open t.around.elements.items t.around.bindings))
    ∙ sym (is_closed-length es)
    ∙ ap (λ h. is_closed es (held_if h t.around.tag)) (sym none)
    ∙ ap (λ (t : Target). is_closed t.left.elements t.left.held) c.self.view_is
