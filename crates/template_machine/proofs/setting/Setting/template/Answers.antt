use Rattle.std.proofs.Common.{[], arith, subst}
use Rattle.stxpath_values.specs.Outcome.{and_then, each, IsAnswer}
use Rattle.template_machine.specs.Evaluating.{seen}
use Rattle.template_machine.specs.Values.{as_one, part_text}
use Rattle.template_machine.proofs.Joining.{many_texts}
use Rattle.template_machine.proofs.setting.Setting.template.Goals as goal

pub returns-in_default : goal.returns-in_default
returns-in_default g c =
    let s = seen g.V.Vars.value_of c.args.self.now in
    let f = part_text s in
    subst (λ ps. IsAnswer c.parts.result (and_then (each f ps) (as_one s.limits []))) c.as_slice.ensures
    (subst (IsAnswer c.parts.result) (many_texts s.limits f c.as_slice.result.now (omega (arith, c.in_default.len_at_least))) c.parts.ensures)
