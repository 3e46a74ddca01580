use Rattle.std.proofs.Common.{◌≡◌, suc, ◌-◌, ◌∙◌, true, length, Some, IsSome, refl, ap, sym, subst, add-one}
use Rattle.std.specs.List.{slice_get}
use Rattle.std.specs.Option.{option_or}
use Rattle.std.proofs.lemmas.Option.{slice_get_within}
use Rattle.node_stack.specs.Path.{is_told}
use Rattle.node_stack.specs.Stack.{path}
use Rattle.stx_base.specs.declared.node.NodeTest.{NodeTest}
use Rattle.template_machine.specs.Bodies.{below, level_of}
use Rattle.sheet_model.specs.Groups.{around}
use Rattle.template_machine.specs.Saying.{sight}
use Rattle.template_machine.specs.Seen.{local_of}
use Rattle.template_machine.specs.Steps.{test_in}
use Rattle.template_machine.specs.Variables.{seen_in}
use Rattle.template_machine.proofs.Sighting.{sight_is}
use Rattle.template_machine.proofs.Seeing.{and_then_from}
use Rattle.template_machine.proofs.run.Run.setting.Goals as goal

pub locals_at-requires : goal.locals_at-requires
locals_at-requires c = subst (λ o. IsSome o) (sym c.requires.level_is) refl

pub group_of-requires : goal.group_of-requires
group_of-requires c = subst (λ o. IsSome o) (sym c.requires.group_is) refl

pub test_of-requires-clause-there : goal.test_of-requires-clause-there
test_of-requires-clause-there c =
    let x = and_then_from level_of (slice_get c.args.self.now.frames.frames c.args.body) c.requires.level c.requires.level_is in
    slice_get_within c.args.self.now.frames.frames c.args.body x.0 x.1

pub test_of-requires-clause-test : goal.test_of-requires-clause-test
test_of-requires-clause-test c =
    subst (λ n. IsSome (test_in c.args.program.now.sheet (below n c.args.self.now.frames.frames))) (sym (add-one c.args.body))
    (subst (λ o. IsSome o) (sym c.requires.test_is) refl)

pub returns : goal.returns
returns c = λ at.
    let p = c.args.program.now in
    let r = c.args.self.now in
    let found : test_in p.sheet (below (suc c.args.body) r.frames.frames) ≡ Some c.test_of.result.now = ap (λ n. test_in p.sheet (below n r.frames.frames)) (sym (add-one c.args.body)) ∙ c.test_of.ensures in
    ap (λ gs. record (sight p r) { vars = λ name. option_or (local_of name c.locals_at.result.now) (seen_in (around gs c.group_of.result) c.seen.result.store.now name); test = c.test_of.result.now }) c.seen.ensures.groups
    ∙ ap (λ st. record (sight p r) { vars = λ name. option_or (local_of name c.locals_at.result.now) (seen_in (around p.sheet.groups c.group_of.result) st name); test = c.test_of.result.now }) c.seen.ensures.store
    ∙ sight_is p r c.args.body c.locals_at.result.now c.group_of.result c.test_of.result.now at c.locals_at.ensures c.group_of.ensures found

pub invariant_of-result : goal.invariant_of-result
invariant_of-result c =
    let found : test_in c.args.program.now.sheet (below (suc c.args.body) c.args.self.now.frames.frames) ≡ Some c.test_of.result.now =
    ap (λ n. test_in c.args.program.now.sheet (below n c.args.self.now.frames.frames)) (sym (add-one c.args.body)) ∙ c.test_of.ensures in
    let same : c.requires.test ≡ c.test_of.result.now = same_test (sym c.requires.test_is ∙ found) in
    let nodes = path c.args.self.now.source.stack in
    record { told = subst (λ (t : NodeTest). is_told nodes (length nodes.nodes - 1) t ≡ true) same c.requires.told }
  where
    same_test : {a b : NodeTest} → Some a ≡ Some b → a ≡ b
    same_test e = cc
