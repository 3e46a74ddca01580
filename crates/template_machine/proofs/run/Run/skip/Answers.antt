use Rattle.template_machine.proofs.Hearing.{spare_heard}
use Rattle.std.proofs.Common.{refl}
use Rattle.template_machine.proofs.Going.{if_ok, well_put}
use Rattle.template_machine.proofs.run.Run.skip.Goals as goal
use Rattle.template_machine.proofs.Shelved.{same_buffers}

pub returns-clause-stands : goal.returns-clause-stands
returns-clause-stands c =
    let p = c.args.program.now in
    let m = c.pass_over-skipped.new.self in
    if_ok c.pass_over-skipped.result _ _ c.pass_over-skipped.ensures.stands
    (λ u h. (well_put p m (record m.putting { spare = c.give_back.new.spare }) (same_buffers _ _ refl refl) h.0, h.1))

pub returns-clause-works : goal.returns-clause-works
returns-clause-works c = c.pass_over-skipped.ensures.works

pub returns-clause-documents : goal.returns-clause-documents
returns-clause-documents c = c.pass_over-skipped.ensures.documents

pub returns-clause-fuel : goal.returns-clause-fuel
returns-clause-fuel c = c.pass_over-skipped.ensures.fuel

pub returns-clause-hears : goal.returns-clause-hears
returns-clause-hears c = λ alone.
    spare_heard c.args.program.now _ c.pass_over-skipped.result c.args.self.now c.pass_over-skipped.new.self c.give_back.new.spare (c.pass_over-skipped.ensures.hears alone)
