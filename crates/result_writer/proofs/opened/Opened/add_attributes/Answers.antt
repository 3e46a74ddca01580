use Rattle.std.proofs.Common.{◌≡◌, ap, sym, ◌∙◌, map, reverse, Some, []}
use Rattle.result_writer.specs.Nodes.{attribute_part}
use Rattle.result_writer.specs.Opened.{elements, held_if}
use Rattle.result_writer.specs.Target.{Left, Target, left_by}
use Rattle.result_writer.specs.declared.tag.HeldTag.{HeldTag}
use Rattle.result_writer.proofs.Together.{held_back, left-together}
use Rattle.result_writer.proofs.opened.Opened.add_attributes.Goals as goal

pub returns : goal.returns
returns c =
    let t = c.self.inside in
    let tag = t.around.tag in
    let es = elements (reverse t.around.elements.items) t.around.bindings in
    let parts = map attribute_part c.args.attrs in
    let bare = c.requires.bare in
    let back = held_back t.around.holds tag bare.0 (ap (λ (t : Target). t.left.held) c.self.view_is ∙ bare.1) in
    let none : tag.attrs ≡ [] = ap (λ (g : HeldTag). g.attrs) back.1 ∙ bare.2 in
    ap (λ h. record { limit = t.limit; left = record { elements = es; held = held_if h (record tag { attrs = c.fill.new.self }) }; last = tag.scope }) back.0
    ∙ ap (λ l. record { limit = t.limit; left = record { elements = es; held = Some (record tag { attrs = l }) }; last = tag.scope }) c.fill.ensures
    ∙ ap (λ (l : Left). record { limit = t.limit; left = l; last = tag.scope }) (sym (left-together es tag c.args.attrs none c.requires.distinct))
    ∙ ap (λ h. record { limit = t.limit; left = left_by (record { elements = es; held = held_if h tag }) parts; last = tag.scope }) (sym back.0)
    ∙ ap (λ (t : Target). record { limit = t.limit; left = left_by t.left parts; last = t.last }) c.self.view_is
