use Rattle.std.proofs.Common.{◌≡◌, suc, ◌-◌, ◌∙◌, Some, ap, arith, ◌∷◌, false}
use Rattle.template_machine.proofs.Operating.{asked_at, waiting_pc}
use Rattle.template_machine.proofs.Within.{document_on}
use Rattle.template_machine.specs.Documents.{documents}
use Rattle.template_machine.proofs.Documents.{document_before}
use Rattle.template_machine.specs.declared.run.Run.{Run}
use Rattle.template_machine.proofs.run.Run.begin_document.Goals as goal

pub running-asked-requires : goal.running-asked-requires
running-asked-requires c = waiting_pc c.args.program.now c.args.self.now c.requires

pub overflow_sub-asked : goal.overflow_sub-asked
overflow_sub-asked c = (asked_at c.args.program.now c.args.self.now c.running-asked.result.pc c.requires c.running-asked.ensures.pc).0

pub instr_asked-requires : goal.instr_asked-requires
instr_asked-requires c = (asked_at c.args.program.now c.args.self.now c.running-asked.result.pc c.requires c.running-asked.ensures.pc).2

pub returns-clause-stands : goal.returns-clause-stands
returns-clause-stands c =
    let pc = c.running-asked.result.pc in
    let asked = asked_at c.args.program.now c.args.self.now pc c.requires c.running-asked.ensures.pc in
    let long : pc ≡ suc (pc - 1) = omega (arith, asked.0) in
    document_on c.args.program.now c.args.self.now c.push.new.self c.enter_source.new.self (pc - 1) _ c.requires (c.running-asked.ensures.pc ∙ ap (λ n. Some n) long)
    c.in_ok-push.ensures.ok c.in_ok-enter_source.ensures

pub returns-clause-documents : goal.returns-clause-documents
returns-clause-documents c =
    document_before c.args.program.now.limits.depth _ c.push.new.self c.enter_source.new.self tt c.in_ok-enter_source.ensures
    ∙ ap (λ l. record { main = false; limit = c.args.program.now.limits.depth; lists = 1 } ∷ l) (ap documents c.in_ok-push.ensures.ok)

pub returns-clause-fuel : goal.returns-clause-fuel
returns-clause-fuel c = ap (λ (x : Run). x.fuel) c.in_ok-enter_source.ensures.rest ∙ ap (λ (x : Run). x.fuel) c.in_ok-push.ensures.ok
