use Rattle.template_machine.specs.Heard.{Hears}
use Rattle.xml_events.specs.Tree as tree
use Rattle.xml_events.specs.Telling.{followed}
use Rattle.std.proofs.Common.{inl, subst, Ok}
use Rattle.std.proofs.Common.{◌∙◌, refl, ap, sym, arith}
use Rattle.xml_events.specs.declared.event.Event.{Event}
use Rattle.template_machine.specs.Well.{begun_behind}
use Rattle.node_stack.specs.Path.{CData, Chars, Comment, Element, Pi}
use Rattle.template_machine.proofs.Arriving.{takes_head, told_over}
use Rattle.template_machine.proofs.run.Run.take_event.Goals as goal
use Rattle.event_buffers.specs.Sections.{tells_text}

pub open_node-requires : goal.open_node-requires
open_node-requires c =
    let h = c.requires.told in
    let e = ap (λ (x : Event). begun_behind x h.before) c.in-Start.is in
    takes_head c.args.program.now c.args.self.now c.args.event (Element c.in-Start.name c.in-Start.attrs c.in-Start.decls c.in-Start.first) h c.requires.taken refl
    (omega (arith, h.counted, e)) tt

pub leaf-requires : goal.leaf-requires
leaf-requires c =
    let h = c.requires.told in
    let e = ap (λ (x : Event). begun_behind x h.before) c.in-Chars.is in
    takes_head c.args.program.now c.args.self.now c.args.event (Chars c.in-Chars.text) h c.requires.taken refl (omega (arith, h.counted, e)) tt

pub leaf-requires-in-CData : goal.leaf-requires-in-CData
leaf-requires-in-CData c =
    let h = c.requires.told in
    let e = ap (λ (x : Event). begun_behind x h.before) c.in-CData.is in
    takes_head c.args.program.now c.args.self.now c.args.event (CData c.in-CData.text) h c.requires.taken refl (omega (arith, h.counted, e))
    (sym (ap tells_text c.in-CData.is) ∙ h.text)

pub leaf-requires-in-Comment : goal.leaf-requires-in-Comment
leaf-requires-in-Comment c =
    let h = c.requires.told in
    let e = ap (λ (x : Event). begun_behind x h.before) c.in-Comment.is in
    takes_head c.args.program.now c.args.self.now c.args.event (Comment c.in-Comment.text) h c.requires.taken refl (omega (arith, h.counted, e)) tt

pub leaf-requires-in-Pi : goal.leaf-requires-in-Pi
leaf-requires-in-Pi c =
    let h = c.requires.told in
    let e = ap (λ (x : Event). begun_behind x h.before) c.in-Pi.is in
    takes_head c.args.program.now c.args.self.now c.args.event (Pi c.in-Pi.target c.in-Pi.text) h c.requires.taken refl (omega (arith, h.counted, e)) tt

pub find_end-requires-clause-over : goal.find_end-requires-clause-over
find_end-requires-clause-over c =
    let h = c.requires.told in
    let e = ap (λ (x : Event). begun_behind x h.before) c.in-End.is in
    told_over c.args.program.now c.args.self.now c.args.event h c.requires.taken (omega (arith, h.counted, e))

pub returns-in-Chars-clause-hears : goal.returns-in-Chars-clause-hears
returns-in-Chars-clause-hears c = λ listens.
    let h = c.leaf.ensures.hears listens (tree.Chars c.in-Chars._offset c.in-Chars.text) refl in
    subst (λ e. Hears c.args.program.now (followed e) c.leaf.result c.args.self.now c.leaf.new.self) (sym c.in-Chars.is) (record { alone = h.alone; does = h.does })

pub returns-in-CData-clause-hears : goal.returns-in-CData-clause-hears
returns-in-CData-clause-hears c = λ listens.
    let h = c.leaf-in-CData.ensures.hears listens (tree.CData c.in-CData._offset c.in-CData.text) refl in
    subst (λ e. Hears c.args.program.now (followed e) c.leaf-in-CData.result c.args.self.now c.leaf-in-CData.new.self) (sym c.in-CData.is) (record { alone = h.alone; does = h.does })

pub returns-in-Comment-clause-hears : goal.returns-in-Comment-clause-hears
returns-in-Comment-clause-hears c = λ listens.
    let h = c.leaf-in-Comment.ensures.hears listens (tree.Comment c.in-Comment._offset c.in-Comment.text) refl in
    subst (λ e. Hears c.args.program.now (followed e) c.leaf-in-Comment.result c.args.self.now c.leaf-in-Comment.new.self) (sym c.in-Comment.is) (record { alone = h.alone; does = h.does })

pub returns-in-Pi-clause-hears : goal.returns-in-Pi-clause-hears
returns-in-Pi-clause-hears c = λ listens.
    let h = c.leaf-in-Pi.ensures.hears listens (tree.Pi c.in-Pi._offset c.in-Pi.target c.in-Pi.text) refl in
    subst (λ e. Hears c.args.program.now (followed e) c.leaf-in-Pi.result c.args.self.now c.leaf-in-Pi.new.self) (sym c.in-Pi.is) (record { alone = h.alone; does = h.does })

pub returns-in-Start-clause-hears : goal.returns-in-Start-clause-hears
returns-in-Start-clause-hears c = λ listens.
    let h = c.open_node.ensures.hears listens c.in-Start._offset in
    subst (λ e. Hears c.args.program.now (followed e) c.open_node.result c.args.self.now c.open_node.new.self) (sym c.in-Start.is) (record { alone = h.alone; does = h.does })

pub returns-in-End-clause-hears : goal.returns-in-End-clause-hears
returns-in-End-clause-hears c = λ listens.
    let h = c.find_end.ensures.hears (inl listens) c.in-End._offset in
    subst (λ e. Hears c.args.program.now (followed e) (Ok tt) c.args.self.now c.find_end.new.self) (sym c.in-End.is) (record { alone = h.alone; does = h.does })

pub returns-in-DocumentEnd-clause-hears : goal.returns-in-DocumentEnd-clause-hears
returns-in-DocumentEnd-clause-hears c = λ listens.
    let h = c.find_end-in-DocumentEnd.ensures.hears (inl listens) c.in-DocumentEnd._offset in
    subst (λ e. Hears c.args.program.now (followed e) (Ok tt) c.args.self.now c.find_end-in-DocumentEnd.new.self) (sym c.in-DocumentEnd.is) (record { alone = h.alone; does = h.does })
