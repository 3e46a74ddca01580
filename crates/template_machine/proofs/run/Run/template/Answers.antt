use Rattle.std.proofs.Common.{subst, sym}
use Rattle.stxpath_values.specs.Outcome.{IsAnswer}
use Rattle.template_machine.specs.Saying.{Gave, sight}
use Rattle.template_machine.specs.Values.{template_text}
use Rattle.template_machine.proofs.Saying.{gave_by}
use Rattle.template_machine.proofs.run.Run.template.Goals as goal

pub returns : goal.returns
returns c = λ at.
    let g = sight c.args.program.now c.args.self.now in
    subst (λ r. Gave c.args.spot.at r (template_text c.args.template.now g)) (sym c.evaluated.ensures)
    (gave_by c.args.spot.at c.template.result (template_text c.args.template.now g)
    (subst (λ s. IsAnswer c.template.result (template_text c.args.template.now s)) (c.setting.ensures at) c.template.ensures))
