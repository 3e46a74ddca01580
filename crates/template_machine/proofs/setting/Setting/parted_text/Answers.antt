use Rattle.stxpath_eval.specs.Value.{value}
use Rattle.stxpath_values.specs.Outcome.{and_then}
use Rattle.template_machine.specs.Evaluating.{seen}
use Rattle.template_machine.specs.Values.{items_text, template_text}
use Rattle.template_machine.proofs.Answering.{goes_on}
use Rattle.template_machine.proofs.setting.Setting.parted_text.Goals as goal

pub returns : goal.returns
returns g c =
    let s = seen g.V.Vars.value_of c.args.self.now in
    goes_on (value c.args.expr.now s) c.in_ok-items.items (λ items. and_then (template_text c.args.separator.now s) (λ between. items_text s between items)) c.only.result c.in_ok-items.ensures
    (goes_on (template_text c.args.separator.now s) c.in_ok-between.between (λ between. items_text s between c.in_ok-items.items) c.only.result c.in_ok-between.ensures
    (c.only.ensures c.in_ok-between.between))
