use Rattle.template_machine.specs.Heard.{leaf_first}
use Rattle.template_machine.specs.Trail.{leaf_node}
use Rattle.node_stack.specs.Stack.{path}
use Rattle.node_stack.specs.Path.{entered}
use Rattle.std.proofs.Common.{sym, ◌∙◌, ap}
use Rattle.template_machine.proofs.Hearing.{hears_if, leaf_heard, took_leaf, never_spent}
use Rattle.std.proofs.Common.{◌∙◌, refl, sym, ap}
use Rattle.node_stack.specs.Open.{leaf_of}
use Rattle.template_machine.proofs.Arriving.{arrives, leaf_scopes, takes_at, takes_list}
use Rattle.template_machine.proofs.Going.{if_ok}
use Rattle.template_machine.proofs.Lightened.{node_begun, node_here}
use Rattle.template_machine.specs.Documents.{documents}
use Rattle.template_machine.proofs.Documents.{limit_in, sources_same}
use Rattle.template_machine.proofs.Spared.{begun_fuel}
use Rattle.template_machine.proofs.run.Run.leaf.Goals as goal
use Rattle.template_machine.proofs.Shelved.{stands_still}

pub leaf-requires : goal.leaf-requires
leaf-requires c =
    let m = c.begin.new.self in
    takes_list c.args.program.now m (leaf_of c.args.leaf) (takes_at c.args.program.now c.args.self.now m (leaf_of c.args.leaf) m.fuel c.begin.ensures.same c.requires)

pub returns-clause-stands : goal.returns-clause-stands
returns-clause-stands c =
    let p = c.args.program.now in
    let m = c.begin.new.self in
    let x = leaf_of c.args.leaf in
    let h = takes_at p c.args.self.now m x m.fuel c.begin.ensures.same c.requires in
    if_ok c.leaf.result _ _ c.leaf.ensures.ok
    (λ u st. arrives p m (record m { source = c.leaf.new.self }) x h (record { outer = refl; aside = refl; store = refl; putting = stands_still _ }) refl
    st.path_is (st.scopes_are ∙ sym (leaf_scopes c.args.leaf m.source.bindings)) st.ahead_is st.origin_is c.leaf.ensures.counts refl)

pub returns-clause-works : goal.returns-clause-works
returns-clause-works c = λ id buffer.
    let p = c.args.program.now in
    let r = c.args.self.now in
    let m = c.begin.new.self in
    let n = record m { source = c.leaf.new.self } in
    if_ok c.leaf.result _ _ c.leaf.ensures.ok
    (λ u st. node_begun p r m n p.limits.fuel id c.requires.steady.places c.begin.ensures.same c.in_ok-begin.ensures.ok buffer refl (node_here m n refl st.ahead_is refl))

pub returns-clause-documents : goal.returns-clause-documents
returns-clause-documents c =
    let m = c.begin.new.self in
    if_ok c.leaf.result _ _ c.leaf.ensures.ok
    (λ u st. sources_same m (record m { source = c.leaf.new.self }) st.origin_is (ap limit_in st.path_is) c.leaf.ensures.counts.0 refl ∙ ap documents c.begin.ensures.same)

pub returns-clause-fuel : goal.returns-clause-fuel
returns-clause-fuel c =
    let r = c.args.self.now in
    if_ok c.leaf.result _ _ c.leaf.ensures.ok
    (λ u st. begun_fuel c.args.program.now.limits.fuel r.fuel c.begin.new.self.fuel r.source.origin c.in_ok-begin.ensures.ok)

pub returns-clause-hears : goal.returns-clause-hears
returns-clause-hears c = λ listens l same.
    let p = c.args.program.now in
    let r = c.args.self.now in
    let m = c.begin.new.self in
    let n = record m { source = c.leaf.new.self } in
    hears_if p (leaf_first l) c.leaf.result r n _
    (if_ok c.leaf.result _ _ c.leaf.ensures.ok
    (λ u st. took_leaf p (leaf_node l) r m c.leaf.new.self c.begin.ensures.same listens.alone.origin c.in_ok-begin.ensures.ok
    (st.path_is ∙ ap (λ k. entered k (path m.source.stack)) (sym same)) st.ahead_is st.held_is st.origin_is))
    c.leaf.ensures.err
    (λ took. leaf_heard p r n l listens took (takes_list p r (leaf_of c.args.leaf) c.requires))
