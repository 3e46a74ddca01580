use Rattle.std.proofs.Common.{◌-◌, Some, ap, subst, sym, ◌∙◌}
use Rattle.stxpath_values.specs.Outcome.{IsAnswer}
use Rattle.template_machine.specs.Saying.{Gave, sight}
use Rattle.template_machine.specs.Values.{selected}
use Rattle.template_machine.proofs.Saying.{gave_by}
use Rattle.template_machine.proofs.run.Run.default_value.Goals as goal

pub returns : goal.returns
returns c = λ at.
    let g = sight c.args.program.now c.args.self.now in
    let select = c.args.param.now.select in
    let place = c.args.param.now.at in
    let body = at ∙ ap (λ n. Some (n - 1)) (sym c.count.ensures) in
    subst (λ r. Gave place r (selected select g)) (sym c.evaluated.ensures)
    (gave_by place c.value_or_empty.result (selected select g)
    (subst (λ s. IsAnswer c.value_or_empty.result (selected select s)) (c.setting-setting.ensures body) c.value_or_empty.ensures))
