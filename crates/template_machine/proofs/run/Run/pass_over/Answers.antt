use Rattle.template_machine.proofs.Hearing.{skips_told}
use Rattle.template_machine.specs.Heard.{Hears}
use Rattle.xml_events.specs.Tree as tree
use Rattle.xml_events.specs.Telling.{followed}
use Rattle.std.proofs.Common.{subst, sym, Ok}
use Rattle.std.proofs.Common.{ap, arith}
use Rattle.xml_events.specs.declared.event.Event.{Event}
use Rattle.template_machine.specs.Well.{begun_behind}
use Rattle.template_machine.proofs.Arriving.{told_skip_ends}
use Rattle.template_machine.proofs.run.Run.pass_over.Goals as goal

pub skip_end-requires : goal.skip_end-requires
skip_end-requires c =
    let h = c.requires.told in
    let e = ap (λ (x : Event). begun_behind x h.before) c.in-End.is in
    told_skip_ends c.args.program.now c.args.self.now c.args.event.now c.args.depth h c.requires.skipped (omega (arith, h.counted, e))

pub returns-in-Chars-clause-hears : goal.returns-in-Chars-clause-hears
returns-in-Chars-clause-hears c = λ alone.
    let h = c.skip_leaf.ensures.hears (skips_told c.args.program.now c.args.event.now c.args.self.now c.args.depth c.requires.told alone c.requires.skipped) (tree.Chars c.in-Chars.offset c.in-Chars.text) in
    subst (λ e. Hears c.args.program.now (followed e) c.skip_leaf.result c.args.self.now c.skip_leaf.new.self) (sym c.in-Chars.is) (record { alone = h.alone; does = h.does })

pub returns-in-CData-clause-hears : goal.returns-in-CData-clause-hears
returns-in-CData-clause-hears c = λ alone.
    let h = c.skip_leaf-in-CData.ensures.hears (skips_told c.args.program.now c.args.event.now c.args.self.now c.args.depth c.requires.told alone c.requires.skipped) (tree.CData c.in-CData.offset c.in-CData.text) in
    subst (λ e. Hears c.args.program.now (followed e) c.skip_leaf-in-CData.result c.args.self.now c.skip_leaf-in-CData.new.self) (sym c.in-CData.is) (record { alone = h.alone; does = h.does })

pub returns-in-Comment-clause-hears : goal.returns-in-Comment-clause-hears
returns-in-Comment-clause-hears c = λ alone.
    let h = c.skip_leaf-in-Comment.ensures.hears (skips_told c.args.program.now c.args.event.now c.args.self.now c.args.depth c.requires.told alone c.requires.skipped) (tree.Comment c.in-Comment.offset c.in-Comment.text) in
    subst (λ e. Hears c.args.program.now (followed e) c.skip_leaf-in-Comment.result c.args.self.now c.skip_leaf-in-Comment.new.self) (sym c.in-Comment.is) (record { alone = h.alone; does = h.does })

pub returns-in-Pi-clause-hears : goal.returns-in-Pi-clause-hears
returns-in-Pi-clause-hears c = λ alone.
    let h = c.skip_leaf-in-Pi.ensures.hears (skips_told c.args.program.now c.args.event.now c.args.self.now c.args.depth c.requires.told alone c.requires.skipped) (tree.Pi c.in-Pi.offset c.in-Pi.target c.in-Pi.text) in
    subst (λ e. Hears c.args.program.now (followed e) c.skip_leaf-in-Pi.result c.args.self.now c.skip_leaf-in-Pi.new.self) (sym c.in-Pi.is) (record { alone = h.alone; does = h.does })

pub returns-in-Start-clause-hears : goal.returns-in-Start-clause-hears
returns-in-Start-clause-hears c = λ alone.
    let h = c.skip_start.ensures.hears (skips_told c.args.program.now c.args.event.now c.args.self.now c.args.depth c.requires.told alone c.requires.skipped)
    (record { offset = c.in-Start.offset; name = c.in-Start.name; attrs = c.in-Start.attrs; decls = c.in-Start.decls }) c.in-Start.first in
    subst (λ e. Hears c.args.program.now (followed e) c.skip_start.result c.args.self.now c.skip_start.new.self) (sym c.in-Start.is) (record { alone = h.alone; does = h.does })

pub returns-in-End-clause-hears : goal.returns-in-End-clause-hears
returns-in-End-clause-hears c = λ alone.
    let h = c.skip_end.ensures.hears (skips_told c.args.program.now c.args.event.now c.args.self.now c.args.depth c.requires.told alone c.requires.skipped) c.in-End.offset in
    subst (λ e. Hears c.args.program.now (followed e) (Ok tt) c.args.self.now c.skip_end.new.self) (sym c.in-End.is) (record { alone = h.alone; does = h.does })

pub returns-in-DocumentEnd-clause-hears : goal.returns-in-DocumentEnd-clause-hears
returns-in-DocumentEnd-clause-hears c = λ alone.
    let h = c.skip_end-in-DocumentEnd.ensures.hears (skips_told c.args.program.now c.args.event.now c.args.self.now c.args.depth c.requires.told alone c.requires.skipped) c.in-DocumentEnd.offset in
    subst (λ e. Hears c.args.program.now (followed e) (Ok tt) c.args.self.now c.skip_end-in-DocumentEnd.new.self) (sym c.in-DocumentEnd.is) (record { alone = h.alone; does = h.does })
