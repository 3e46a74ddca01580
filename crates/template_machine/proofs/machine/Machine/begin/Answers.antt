use Rattle.template_machine.specs.Onward.{StartsWith}
use Rattle.template_machine.proofs.FromStart.{begins_made, begins_not, document_root, fresh_alone, fresh_passes, stores_alone, stores_uncounted}
use Rattle.template_machine.proofs.Saying.{stops_with}
use Rattle.std.proofs.Common.{◌≡◌, ◌∷◌, [], All, length, reverse, ap, sym, subst, ◌∙◌}
use Rattle.node_stack.specs.Stack.{path}
use Rattle.template_machine.specs.declared.run.Run.{Run}
use Rattle.template_machine.proofs.Assigned.{stores_steady}
use Rattle.template_machine.proofs.Starting.{all_bare, first_asker, first_head, first_steady, first_told, stores_head}
use Rattle.template_machine.proofs.Operating.{on_ok}
use Rattle.template_machine.specs.Work.{means_of}
use Rattle.template_machine.proofs.machine.Machine.begin.Goals as goal

pub make_all-requires-clause-steady : goal.make_all-requires-clause-steady
make_all-requires-clause-steady g c = first_steady c.args.self.now.program c.args.self.now.run c.requires.ready c.requires.fresh

pub make_all-requires-clause-told : goal.make_all-requires-clause-told
make_all-requires-clause-told g c =
    first_told c.args.self.now.program.limits.depth (path c.args.self.now.run.source.stack) c.args.self.now.program.test_of_root c.requires.fresh.source.path_is

pub make_all-requires-clause-none : goal.make_all-requires-clause-none
make_all-requires-clause-none g c = subst (All (λ cs. cs ≡ [] ∷ [])) (sym c.requires.fresh.store) (all_bare (length c.args.self.now.program.sheet.groups))

pub take-requires-clause-head : goal.take-requires-clause-head
take-requires-clause-head g c =
    let p = c.args.self.now.program in
    let r = c.args.self.now.run in
    stores_head p r c.make_all.new.self c.in_ok-make_all.ensures.stores (first_head p r c.requires.ready c.requires.fresh)

pub take-requires-clause-asker : goal.take-requires-clause-asker
take-requires-clause-asker g c =
    let p = c.args.self.now.program in
    let r = c.args.self.now.run in
    let t = c.make_all.new.self in
    first_asker p t (stores_steady p r t c.in_ok-make_all.ensures.stores (first_steady p r c.requires.ready c.requires.fresh)) (reverse t.frames.frames)
    (ap (λ (x : Run). reverse x.frames.frames) c.in_ok-make_all.ensures.stores.rest ∙ ap reverse c.requires.fresh.frames)

pub returns-clause-means : goal.returns-clause-means
returns-clause-means g c =
    on_ok c.take.result _ _ c.take.ensures.works (λ b. b.means ∙ ap means_of c.in_ok-make_all.ensures.stores.rest)

pub returns-clause-starts : goal.returns-clause-starts
returns-clause-starts g c =
    let w = c.args.self.now in
    let p = w.program in
    let r = w.run in
    let m = c.make_all.new.self in
    let only = c.in_ok-make_all.ensures.stores in
    let root = document_root p c.requires.ready in
    begins_made g.S.Sink.output g.S.Sink.told w c.requires.fresh root m c.take.result c.take.new.self c.args.out.now c.take.new.out (c.in_ok-make_all.ensures.makes (fresh_passes p r p.test_of_root c.requires.fresh root)) only
    (c.take.ensures.takes (stores_alone p r m only (fresh_alone p r c.requires.fresh)) (stores_uncounted p r m c.requires.fresh only))

pub returns-in_err-make_all-clause-starts : goal.returns-in_err-make_all-clause-starts
returns-in_err-make_all-clause-starts g c =
    let w = c.args.self.now in
    let p = w.program in
    let r = w.run in
    let m = c.make_all.new.self in
    let root = document_root p c.requires.ready in
    let e = c.in_err-make_all.field-0.0 in
    subst (λ x. StartsWith g.S.Sink.output g.S.Sink.told w x m c.args.out.now c.args.out.now) (sym (stops_with c.from_residual.result e c.from_residual.ensures.1))
    (begins_not g.S.Sink.output g.S.Sink.told w c.requires.fresh root m g.met.S.Sink.nothing e c.args.out.now (c.in_err-make_all.ensures.makes (fresh_passes p r p.test_of_root c.requires.fresh root)))
