use Rattle.template_machine.proofs.Copied.{spare_further}
use Rattle.template_machine.proofs.Shelved.{stands_on}
use Rattle.template_machine.proofs.putting.Putting.waiting_name.Goals as goal

pub returns-in_err-local-in-Chars-clause-same : goal.returns-in_err-local-in-Chars-clause-same
returns-in_err-local-in-Chars-clause-same c = stands_on _ _ _ c.copied.ensures.same c.copied-in-Chars.ensures.same

pub returns-in_err-prefix-in-Chars-clause-same : goal.returns-in_err-prefix-in-Chars-clause-same
returns-in_err-prefix-in-Chars-clause-same c = stands_on _ _ _ c.copied.ensures.same (stands_on _ _ _ c.copied-in-Chars.ensures.same c.copied-in-Chars-2.ensures.same)

pub returns-clause-same : goal.returns-clause-same
returns-clause-same c = stands_on _ _ _ c.copied.ensures.same (stands_on _ _ _ c.copied-in-Chars.ensures.same c.copied-in-Chars-2.ensures.same)

pub returns-in_err-local-in-Chars-clause-rest : goal.returns-in_err-local-in-Chars-clause-rest
returns-in_err-local-in-Chars-clause-rest c =
    spare_further c.args.self.now c.copied.new.self c.copied-in-Chars.new.self c.copied.ensures.rest c.copied-in-Chars.ensures.rest

pub returns-in_err-prefix-in-Chars-clause-rest : goal.returns-in_err-prefix-in-Chars-clause-rest
returns-in_err-prefix-in-Chars-clause-rest c =
    spare_further c.args.self.now c.copied.new.self c.copied-in-Chars-2.new.self c.copied.ensures.rest
    (spare_further c.copied.new.self c.copied-in-Chars.new.self c.copied-in-Chars-2.new.self c.copied-in-Chars.ensures.rest c.copied-in-Chars-2.ensures.rest)

pub returns-clause-rest : goal.returns-clause-rest
returns-clause-rest c =
    spare_further c.args.self.now c.copied.new.self c.copied-in-Chars-2.new.self c.copied.ensures.rest
    (spare_further c.copied.new.self c.copied-in-Chars.new.self c.copied-in-Chars-2.new.self c.copied-in-Chars.ensures.rest c.copied-in-Chars-2.ensures.rest)
