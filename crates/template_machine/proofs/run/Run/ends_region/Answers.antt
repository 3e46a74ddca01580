use Rattle.std.proofs.Common.{sym, subst}
use Rattle.template_machine.proofs.Around.{tree_parents}
use Rattle.template_machine.proofs.Levels.{can_be_asked, levels_rise}
use Rattle.template_machine.specs.Seen.{ParentsStandBefore}
use Rattle.sheet_model.specs.declared.sheet.Sheet.{Sheet}
use Rattle.template_machine.proofs.run.Run.ends_region.Goals as goal

pub seen-vars-requires-clause-parents : goal.seen-vars-requires-clause-parents
seen-vars-requires-clause-parents c =
    let s = c.requires.steady in subst (λ (x : Sheet). ParentsStandBefore x.groups) (sym s.program.sheet_is) (tree_parents s.sheet.groups s.sound.groups)

pub seen-vars-requires-clause-sized : goal.seen-vars-requires-clause-sized
seen-vars-requires-clause-sized c = c.requires.steady.groups

pub ends-requires-clause-levels : goal.ends-requires-clause-levels
ends-requires-clause-levels c = levels_rise c.standing.ensures.levels c.args.program.now c.args.self.now c.requires

pub ends-requires-clause-conditions : goal.ends-requires-clause-conditions
ends-requires-clause-conditions c = can_be_asked c.standing.ensures.conditions c.args.program.now c.args.self.now c.requires.steady
