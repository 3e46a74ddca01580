use Rattle.std.proofs.Common.{Some, ap, sym, ◌∙◌}
use Rattle.std.specs.Prelude.{option_map}
use Rattle.match_patterns.specs.Fits.{test_of}
use Rattle.stxpath_syntax.specs.declared.expr.Alternative.{Alternative}
use Rattle.template_machine.proofs.Lasting.{alternative_is, last_is, last_none}
use Rattle.template_machine.proofs.program.Program.test.Goals as goal

pub returns-in-Some : goal.returns-in-Some
returns-in-Some c =
    ap (option_map test_of)
    (alternative_is c.args.self.now.sheet c.args.template c.args.alternative c.as_slice.result.now c.index-as_slice-template.result c.as_slice-2.result.now c.index-as_slice-alternative.result
    c.as_slice.ensures c.requires.template c.index-as_slice-template.is c.as_slice-2.ensures c.requires.alternative c.index-as_slice-alternative.is)
    ∙ ap (λ (a : Alternative). Some (test_of a)) c.in-Steps.is ∙ ap (λ t. Some t) (last_is c.in-Steps.steps c.in-Some.step.now (sym c.in-Some.ensures))

pub returns-in-None : goal.returns-in-None
returns-in-None c =
    ap (option_map test_of)
    (alternative_is c.args.self.now.sheet c.args.template c.args.alternative c.as_slice.result.now c.index-as_slice-template.result c.as_slice-2.result.now c.index-as_slice-alternative.result
    c.as_slice.ensures c.requires.template c.index-as_slice-template.is c.as_slice-2.ensures c.requires.alternative c.index-as_slice-alternative.is)
    ∙ ap (λ (a : Alternative). Some (test_of a)) c.in-Steps.is ∙ ap (λ t. Some t) (last_none c.in-Steps.steps (sym c.in-None.ensures) ∙ sym c.requires.root)
