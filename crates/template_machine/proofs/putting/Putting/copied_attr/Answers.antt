use Rattle.template_machine.proofs.Copied.{spare_further}
use Rattle.template_machine.proofs.Shelved.{stands_on}
use Rattle.template_machine.proofs.putting.Putting.copied_attr.Goals as goal

pub returns-in_err-value-clause-same : goal.returns-in_err-value-clause-same
returns-in_err-value-clause-same c = stands_on _ _ _ c.copied_name.ensures.same c.copied.ensures.same

pub returns-clause-same : goal.returns-clause-same
returns-clause-same c = stands_on _ _ _ c.copied_name.ensures.same c.copied.ensures.same

pub returns-in_err-value-clause-rest : goal.returns-in_err-value-clause-rest
returns-in_err-value-clause-rest c = spare_further c.args.self.now c.copied_name.new.self c.copied.new.self c.copied_name.ensures.rest c.copied.ensures.rest

pub returns-clause-rest : goal.returns-clause-rest
returns-clause-rest c = spare_further c.args.self.now c.copied_name.new.self c.copied.new.self c.copied_name.ensures.rest c.copied.ensures.rest
