use Rattle.std.proofs.Common.{subst, sym}
use Rattle.stxpath_values.specs.Outcome.{IsAnswer}
use Rattle.template_machine.specs.Saying.{Gave, sight}
use Rattle.template_machine.specs.Values.{truth_of}
use Rattle.template_machine.proofs.Saying.{gave_by}
use Rattle.template_machine.proofs.run.Run.holds.Goals as goal

pub returns : goal.returns
returns c = λ at.
    let g = sight c.args.program.now c.args.self.now in
    subst (λ r. Gave c.args.spot.at r (truth_of c.args.test.now g)) (sym c.evaluated.ensures)
    (gave_by c.args.spot.at c.truth.result (truth_of c.args.test.now g)
    (subst (λ s. IsAnswer c.truth.result (truth_of c.args.test.now s)) (c.setting.ensures at) c.truth.ensures))
