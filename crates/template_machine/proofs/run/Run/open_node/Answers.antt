use Rattle.std.proofs.Common.{sym, subst}
use Rattle.template_machine.specs.Heard.{Hears, start_first}
use Rattle.template_machine.proofs.Hearing.{memory_heard}
use Rattle.template_machine.proofs.Saying.{stops_with}
use Rattle.xml_events.specs.Tree.{Element as Told}
use Rattle.template_machine.proofs.Hearing.{start_heard, took_node}
use Rattle.std.proofs.Common.{refl, ◌∙◌, ap}
use Rattle.node_stack.specs.Path.{Element}
use Rattle.template_machine.proofs.Arriving.{arrives, takes_at, takes_list, takes_room}
use Rattle.template_machine.proofs.Lightened.{node_begun, node_here}
use Rattle.template_machine.specs.Documents.{documents}
use Rattle.template_machine.proofs.Documents.{limit_in, sources_same}
use Rattle.template_machine.proofs.Spared.{begun_fuel}
use Rattle.template_machine.proofs.run.Run.open_node.Goals as goal

pub open-requires-clause-children : goal.open-requires-clause-children
open-requires-clause-children c =
    let x = Element c.args.name c.args.attrs c.args.decls c.args.first in
    let m = c.begin.new.self in
    takes_list c.args.program.now m x (takes_at c.args.program.now c.args.self.now m x m.fuel c.begin.ensures.same c.requires)

pub open-requires-clause-room : goal.open-requires-clause-room
open-requires-clause-room c =
    let x = Element c.args.name c.args.attrs c.args.decls c.args.first in
    let m = c.begin.new.self in
    takes_room c.args.program.now m x (takes_at c.args.program.now c.args.self.now m x m.fuel c.begin.ensures.same c.requires) refl

pub returns-clause-stands : goal.returns-clause-stands
returns-clause-stands c =
    let p = c.args.program.now in
    let m = c.begin.new.self in
    let x = Element c.args.name c.args.attrs c.args.decls c.args.first in
    let h = takes_at p c.args.self.now m x m.fuel c.begin.ensures.same c.requires in
    let st = c.in_ok-change.ensures.ok in
    arrives p m (record m { source = c.open.new.self; putting = c.see.new.self }) x h (record { outer = refl; aside = refl; store = refl; putting = c.see.ensures.stands }) refl
    st.path_is st.scopes_are st.ahead_is st.origin_is c.open.ensures.counts refl

pub returns-clause-works : goal.returns-clause-works
returns-clause-works c = λ id buffer.
    let p = c.args.program.now in
    let r = c.args.self.now in
    let m = c.begin.new.self in
    let n = record m { source = c.open.new.self; putting = c.see.new.self } in
    node_begun p r m n p.limits.fuel id c.requires.steady.places c.begin.ensures.same c.in_ok-begin.ensures.ok buffer refl
    (node_here m n refl c.in_ok-change.ensures.ok.ahead_is refl)

pub returns-clause-documents : goal.returns-clause-documents
returns-clause-documents c =
    let m = c.begin.new.self in
    let st = c.in_ok-change.ensures.ok in
    sources_same m (record m { source = c.open.new.self; putting = c.see.new.self }) st.origin_is (ap limit_in st.path_is) c.open.ensures.counts.0 refl
    ∙ ap documents c.begin.ensures.same

pub returns-clause-fuel : goal.returns-clause-fuel
returns-clause-fuel c =
    let r = c.args.self.now in begun_fuel c.args.program.now.limits.fuel r.fuel c.begin.new.self.fuel r.source.origin c.in_ok-begin.ensures.ok

pub returns-clause-hears : goal.returns-clause-hears
returns-clause-hears c = λ listens offset.
    let p = c.args.program.now in
    let r = c.args.self.now in
    let m = c.begin.new.self in
    let x = Element c.args.name c.args.attrs c.args.decls c.args.first in
    let st = c.in_ok-change.ensures.ok in
    let e : Told = record { offset = offset; name = c.args.name; attrs = c.args.attrs; decls = c.args.decls } in
    let h = start_heard p r (record m { source = c.open.new.self; putting = c.see.new.self }) e c.args.first listens
    (took_node p x r m c.open.new.self c.begin.ensures.same listens.alone.origin c.in_ok-begin.ensures.ok st.path_is st.ahead_is st.held_is st.origin_is c.see.new.self c.see.ensures.rest)
    (takes_list p r x c.requires) in
    record { alone = h.alone; does = h.does }

pub returns-in_err-change-clause-hears : goal.returns-in_err-change-clause-hears
returns-in_err-change-clause-hears c = λ listens offset.
    let p = c.args.program.now in
    let r = c.args.self.now in
    let s = record c.begin.new.self { source = c.open.new.self } in
    let e = c.in_err-change.field-0.0 in
    let told : Told = record { offset = offset; name = c.args.name; attrs = c.args.attrs; decls = c.args.decls } in
    subst (λ x. Hears p (start_first told c.args.first) x r s) (sym (stops_with c.from_residual-in_err-change.result e c.from_residual-in_err-change.ensures.1))
    (memory_heard _ p (start_first told c.args.first) e r s c.in_err-change.ensures.err)
