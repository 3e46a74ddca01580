use Rattle.std.proofs.Common.{subst}
use Rattle.std.specs.Str.{chars}
use Rattle.stxpath_eval.specs.Nodes.{atoms}
use Rattle.stxpath_eval.specs.Value.{value}
use Rattle.stxpath_values.specs.Functions.{whole_text}
use Rattle.stxpath_values.specs.Outcome.{IsAnswer, and_then}
use Rattle.template_machine.specs.Evaluating.{seen}
use Rattle.template_machine.specs.Values.{items_text, space}
use Rattle.template_machine.proofs.Answering.{alike, as_whole}
use Rattle.template_machine.proofs.setting.Setting.text.Goals as goal

pub returns : goal.returns
unfolding chars
returns g c =
    let s = seen g.V.Vars.value_of c.args.self.now in
    let e = c.args.expr.now in
    subst (IsAnswer c.eval_text.result) (alike (value e s) (λ items. whole_text s.limits space (atoms s.path items)) (items_text s space) (λ items. as_whole s.limits space (atoms s.path items)))
    (subst (λ s. IsAnswer c.eval_text.result (and_then (value e s) (λ items. whole_text s.limits space (atoms s.path items)))) c.env-env.ensures.seen c.eval_text.ensures)
