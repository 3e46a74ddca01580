use Rattle.std.proofs.Common.{subst, sym}
use Rattle.stxpath_values.specs.Outcome.{IsAnswer}
use Rattle.template_machine.specs.Saying.{Gave, sight}
use Rattle.template_machine.specs.Values.{content_text}
use Rattle.template_machine.proofs.Saying.{gave_by}
use Rattle.template_machine.proofs.run.Run.content.Goals as goal

pub returns : goal.returns
returns c = λ at.
    let g = sight c.args.program.now c.args.self.now in
    subst (λ r. Gave c.args.spot.at r (content_text c.args.content.now g)) (sym c.evaluated.ensures)
    (gave_by c.args.spot.at c.content.result (content_text c.args.content.now g)
    (subst (λ s. IsAnswer c.content.result (content_text c.args.content.now s)) (c.setting.ensures at) c.content.ensures))
