use Rattle.std.proofs.Common.{map}
use Rattle.template_machine.specs.Commands.{given_by}
use Rattle.template_machine.proofs.Starting.{makes_ready}
use Rattle.std.proofs.Common.{ap, ◌∙◌}
use Rattle.stx_base.specs.declared.limits.Limits.{Limits}
use Rattle.template_machine.proofs.machine.Machine.new.Goals as goal

pub new-requires-2 : goal.new-requires-2
new-requires-2 c =
    makes_ready c.args.sheet c.args.limits c.in_ok-program.program c.requires.sound c.in_ok-program.ensures.program c.requires.depth c.requires.elements

pub returns-clause-new : goal.returns-clause-new
returns-clause-new c = record {
  ready = makes_ready c.args.sheet c.args.limits c.in_ok-program.program c.requires.sound c.in_ok-program.ensures.program c.requires.depth c.requires.elements;
  fresh = c.in_ok-run.ensures;
}

pub returns-clause-runs : goal.returns-clause-runs
returns-clause-runs c = c.in_ok-program.ensures.program

pub returns-clause-depth : goal.returns-clause-depth
returns-clause-depth c = ap (λ (l : Limits). l.depth) c.in_ok-program.ensures.program.limits_are

pub returns-clause-fuel : goal.returns-clause-fuel
returns-clause-fuel c = c.in_ok-run.ensures.fuel ∙ ap (λ (l : Limits). l.fuel) c.in_ok-program.ensures.program.limits_are

pub returns-clause-fuel_limit : goal.returns-clause-fuel_limit
returns-clause-fuel_limit c = ap (λ (l : Limits). l.fuel) c.in_ok-program.ensures.program.limits_are

pub returns-clause-params : goal.returns-clause-params
returns-clause-params c = ap (map given_by) c.in_ok-program.ensures.params
