use Rattle.std.proofs.Common.{sym, subst}
use Rattle.sheet_model.specs.declared.sheet.Sheet.{Sheet}
use Rattle.template_machine.specs.Seen.{ParentsStandBefore}
use Rattle.template_machine.proofs.Around.{tree_parents}
use Rattle.template_machine.proofs.Choosing.{choice_is, program_sound}
use Rattle.template_machine.proofs.Selected.{chooses_by}
use Rattle.template_machine.proofs.run.Run.chosen.Goals as goal

pub seen-vars-requires-clause-parents : goal.seen-vars-requires-clause-parents
seen-vars-requires-clause-parents c =
    let s = c.requires in
    subst (λ (x : Sheet). ParentsStandBefore x.groups) (sym s.program.sheet_is) (tree_parents s.sheet.groups s.sound.groups)

pub select-requires-clause-sound : goal.select-requires-clause-sound
select-requires-clause-sound c = program_sound c.args.program.now c.args.self.now c.requires

pub returns-clause-fits : goal.returns-clause-fits
returns-clause-fits c = choice_is c.args.program.now c.args.self.now _ _ _ _ c.in_ok-chosen.chosen c.in_ok-chosen.ensures

pub returns-clause-chooses : goal.returns-clause-chooses
returns-clause-chooses c =
    let v = c.seen-vars.result in
    chooses_by c.args.program.now c.args.self.now c.args.base c.args.active.now c.in_ok-chosen.chosen v.store.now v.groups.now c.seen-vars.ensures.store c.seen-vars.ensures.groups c.in_ok-chosen.ensures
