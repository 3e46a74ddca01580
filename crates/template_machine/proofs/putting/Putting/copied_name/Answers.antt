use Rattle.template_machine.proofs.Copied.{spare_further}
use Rattle.template_machine.proofs.Shelved.{stands_on}
use Rattle.template_machine.proofs.putting.Putting.copied_name.Goals as goal

pub returns-in_err-local-clause-same : goal.returns-in_err-local-clause-same
returns-in_err-local-clause-same c = stands_on _ _ _ c.copied.ensures.same c.copied-2.ensures.same

pub returns-in_err-prefix-clause-same : goal.returns-in_err-prefix-clause-same
returns-in_err-prefix-clause-same c = stands_on _ _ _ c.copied.ensures.same (stands_on _ _ _ c.copied-2.ensures.same c.copied-3.ensures.same)

pub returns-clause-same : goal.returns-clause-same
returns-clause-same c = stands_on _ _ _ c.copied.ensures.same (stands_on _ _ _ c.copied-2.ensures.same c.copied-3.ensures.same)

pub returns-in_err-local-clause-rest : goal.returns-in_err-local-clause-rest
returns-in_err-local-clause-rest c =
    spare_further c.args.self.now c.copied.new.self c.copied-2.new.self c.copied.ensures.rest c.copied-2.ensures.rest

pub returns-in_err-prefix-clause-rest : goal.returns-in_err-prefix-clause-rest
returns-in_err-prefix-clause-rest c =
    spare_further c.args.self.now c.copied.new.self c.copied-3.new.self c.copied.ensures.rest
    (spare_further c.copied.new.self c.copied-2.new.self c.copied-3.new.self c.copied-2.ensures.rest c.copied-3.ensures.rest)

pub returns-clause-rest : goal.returns-clause-rest
returns-clause-rest c =
    spare_further c.args.self.now c.copied.new.self c.copied-3.new.self c.copied.ensures.rest
    (spare_further c.copied.new.self c.copied-2.new.self c.copied-3.new.self c.copied-2.ensures.rest c.copied-3.ensures.rest)
