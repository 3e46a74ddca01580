use Rattle.std.proofs.Common.{ap, sym, ◌∙◌}
use Rattle.match_patterns.specs.Fits.{test_of}
use Rattle.node_stack.specs.Test as kind
use Rattle.node_stack.specs.Test.{passes}
use Rattle.stx_base.specs.declared.node.NodeTest.{NodeTest}
use Rattle.stxpath_syntax.specs.declared.expr.Alternative.{Alternative}
use Rattle.template_machine.proofs.Lasting.{last_is, last_none}
use Rattle.template_machine.proofs.putting.passes_attr.Goals as goal

pub returns-in-Root : goal.returns-in-Root
returns-in-Root c = sym (ap (λ (a : Alternative). passes (test_of a) (kind.Attribute c.args.attr.now.name)) c.in-Root.is)

pub returns-in-Some : goal.returns-in-Some
returns-in-Some c =
    let k = kind.Attribute c.args.attr.now.name in
    c.passes.ensures
    ∙ sym
    (ap (λ (a : Alternative). passes (test_of a) k) c.in-Steps.is
    ∙ ap (λ (t : NodeTest). passes t k) (last_is c.in-Steps.steps c.in-Some.step.now (sym c.in-Some.ensures)))

pub returns-in-None : goal.returns-in-None
returns-in-None c =
    let k = kind.Attribute c.args.attr.now.name in
    sym
    (ap (λ (a : Alternative). passes (test_of a) k) c.in-Steps.is
    ∙ ap (λ (t : NodeTest). passes t k) (last_none c.in-Steps.steps (sym c.in-None.ensures)))
