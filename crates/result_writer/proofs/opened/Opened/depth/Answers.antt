use Rattle.std.proofs.Common.{◌+◌, ap, sym, ◌∙◌, reverse}
use Rattle.result_writer.specs.Opened.{elements, held_if}
use Rattle.result_writer.specs.Target.{Target, depth}
use Rattle.result_writer.proofs.Opening.{length_open}
use Rattle.result_writer.proofs.opened.Opened.depth.Goals as goal

pub returns-then-self : goal.returns-then-self
returns-then-self c =
    let t = c.self.inside in
    let es = elements (reverse t.around.elements.items) t.around.bindings in
    ap (λ n. n + 1) (c.len.ensures ∙ t.around.elements.ok.0 ∙ sym (length_open t.around.elements.items t.around.bindings))
    ∙ ap (λ h. depth es (held_if h t.around.tag)) (sym c.if-self.true)
    ∙ ap (λ (t : Target). depth t.left.elements t.left.held) c.self.view_is

pub returns-else-self : goal.returns-else-self
returns-else-self c =
    let t = c.self.inside in
    let es = elements (reverse t.around.elements.items) t.around.bindings in
    c.len-else-self.ensures ∙ t.around.elements.ok.0 ∙ sym (length_open t.around.elements.items t.around.bindings)
    ∙ ap (λ h. depth es (held_if h t.around.tag)) (sym c.if-self.false)
    ∙ ap (λ (t : Target). depth t.left.elements t.left.held) c.self.view_is
