use Rattle.template_machine.proofs.run.Run.step.Goals as goal

pub returns-in-Body-clause-steps : goal.returns-in-Body-clause-steps
returns-in-Body-clause-steps g c = c.operate.ensures.steps

pub returns-in-List-clause-steps : goal.returns-in-List-clause-steps
returns-in-List-clause-steps g c = λ alone ordinary. c.look.ensures.steps alone
