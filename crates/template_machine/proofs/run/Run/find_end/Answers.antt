use Rattle.template_machine.specs.declared.source.Ahead.TheVariants.{Ended}
use Rattle.template_machine.proofs.Hearing.{main_there, end_heard, found_ended, found_frames}
use Rattle.template_machine.proofs.Lightened.{end_found}
use Rattle.std.proofs.Common.{ap, arith}
use Rattle.template_machine.specs.Documents.{documents}
use Rattle.template_machine.specs.declared.run.Run.{Run}
use Rattle.template_machine.proofs.run.Run.find_end.Goals as goal

pub returns-clause-works : goal.returns-clause-works
returns-clause-works c = λ id buffer.
    let p = c.args.program.now in
    let over = c.requires.over in
    end_found p c.args.self.now c.end_list.new.self p.limits.fuel id over.steady.places c.end_list.ensures buffer c.requires.list over.ahead

pub returns-clause-documents : goal.returns-clause-documents
returns-clause-documents c = ap documents c.end_list.ensures

pub returns-clause-fuel : goal.returns-clause-fuel
returns-clause-fuel c = omega (arith, ap (λ (x : Run). x.fuel) c.end_list.ensures)

pub returns-clause-hears : goal.returns-clause-hears
returns-clause-hears c = λ may offset.
    let p = c.args.program.now in
    let r = c.args.self.now in
    let m = c.end_list.new.self in
    end_heard p r (record m { source = record m.source { ahead = Ended } }) offset may
    (found_ended p r m (main_there p r may) c.end_list.ensures) (found_frames r m _ c.end_list.ensures)
