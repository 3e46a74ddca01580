use Rattle.std.proofs.Common.{sym, ap, ◌∙◌}
use Rattle.sheet_model.specs.Groups.{around, around_parent}
use Rattle.template_machine.specs.Finding.{buffer_in}
use Rattle.template_machine.specs.Variables.{first_some}
use Rattle.template_machine.proofs.Around.{found_outwards}
use Rattle.template_machine.proofs.finding.buffer_seen.Goals as goal

pub loop-outwards-preserved : goal.loop-outwards-preserved
loop-outwards-preserved c =
    let groups = c.args.sheet.now.groups in
    let f = buffer_in c.args.sheet.now.buffers c.args.name.now in
    c.loop-outwards.invariant
    ∙ ap (λ o. first_some f (around_parent (around groups) o)) c.in-Some.is
    ∙ found_outwards f groups c.requires.parents c.in-Some.number (sym c.in-None.ensures)
    ∙ ap (λ o. first_some f (around_parent (around groups) o)) (sym c.parent_of-outwards.ensures)
