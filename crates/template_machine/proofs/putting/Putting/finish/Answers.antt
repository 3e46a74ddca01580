use Rattle.template_machine.proofs.putting.Putting.finish.Goals as goal

pub returns-in-Ok-clause-closed : goal.returns-in-Ok-clause-closed
returns-in-Ok-clause-closed g c = c.in-Ok.ensures.closed

pub returns-in-Ok-clause-unsaid : goal.returns-in-Ok-clause-unsaid
returns-in-Ok-clause-unsaid g c = c.finish.ensures.unsaid

pub returns-in-Err-clause-unclosed : goal.returns-in-Err-clause-unclosed
returns-in-Err-clause-unclosed g c = (c.fault.ensures, c.in-Err.ensures.unclosed)

pub returns-in-Err-clause-unsaid : goal.returns-in-Err-clause-unsaid
returns-in-Err-clause-unsaid g c = c.finish.ensures.unsaid
