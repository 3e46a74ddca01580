use Rattle.std.proofs.Common.{sym, subst}
use Rattle.instr_code.specs.declared.code.Compiled.{Compiled}
use Rattle.sheet_model.specs.Sound.{IsSmall, IsSound}
use Rattle.template_machine.specs.Programs.{IsLaidOut}
use Rattle.template_machine.specs.Seen.{ParentsStandBefore}
use Rattle.template_machine.proofs.Around.{tree_parents}
use Rattle.template_machine.proofs.Bodiless.{sound_too}
use Rattle.template_machine.proofs.LaidOut.{laid_out}
use Rattle.template_machine.proofs.program.Program.new.Goals as goal

pub build-requires : goal.build-requires
build-requires c = subst (λ (x : Compiled). IsSound x.sheet) (sym c.in_ok-compiled.ensures) (sound_too c.args.sheet c.requires)

pub links-requires-clause-parents : goal.links-requires-clause-parents
links-requires-clause-parents c =
    subst (λ (x : Compiled). ParentsStandBefore x.sheet.groups) (sym c.in_ok-compiled.ensures) (tree_parents c.args.sheet.groups c.requires.groups)

pub links-requires-clause-small : goal.links-requires-clause-small
links-requires-clause-small c = subst (λ (x : Compiled). IsSmall x.sheet) (sym c.in_ok-compiled.ensures) (sound_too c.args.sheet c.requires).small

pub links-requires-clause-laid_out : goal.links-requires-clause-laid_out
links-requires-clause-laid_out c = subst (λ (x : Compiled). IsLaidOut x.sheet x.code) (sym c.in_ok-compiled.ensures) (laid_out c.args.sheet)

pub buffer_depth-buffer_depth-requires : goal.buffer_depth-buffer_depth-requires
buffer_depth-buffer_depth-requires c = subst (λ (x : Compiled). IsSmall x.sheet) (sym c.in_ok-compiled.ensures) (sound_too c.args.sheet c.requires).small
