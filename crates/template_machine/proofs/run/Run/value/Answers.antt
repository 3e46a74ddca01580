use Rattle.std.proofs.Common.{subst, sym}
use Rattle.stxpath_values.specs.Outcome.{IsAnswer}
use Rattle.template_machine.specs.Saying.{Gave, sight}
use Rattle.template_machine.specs.Values.{atoms_of}
use Rattle.template_machine.proofs.Saying.{gave_by}
use Rattle.template_machine.proofs.run.Run.value.Goals as goal

pub returns : goal.returns
returns c = λ at.
    let g = sight c.args.program.now c.args.self.now in
    subst (λ r. Gave c.args.spot.at r (atoms_of c.args.select.now g)) (sym c.evaluated.ensures)
    (gave_by c.args.spot.at c.value.result (atoms_of c.args.select.now g)
    (subst (λ s. IsAnswer c.value.result (atoms_of c.args.select.now s)) (c.setting.ensures at) c.value.ensures))
