use Rattle.std.proofs.Common.{Some, ap, sym, ◌∙◌}
use Rattle.template_machine.proofs.Binding.{none_found, waiting_found}
use Rattle.template_machine.proofs.Saying.{none_there}
use Rattle.template_machine.proofs.run.Run.waiting_at.Goals as goal

pub returns-in_default-clause-value : goal.returns-in_default-clause-value
returns-in_default-clause-value c = λ given.
    none_found given c.args.program.now c.args.self.now c.args.asked c.args.body c.args.param.now.name c.instr_asked.result.now c.handed-names.result.now c.requires c.instr_asked.ensures c.handed-names.ensures
    (sym c.place_of_param.ensures.place ∙ none_there c.place_of_param.result (λ x e. c.in_default.not-Some x e))

pub returns-clause-value : goal.returns-clause-value
returns-clause-value c = λ given.
    ap (λ v. Some v) c.in_ok-copy.ensures
    ∙ waiting_found given c.args.program.now c.args.self.now c.args.asked c.args.body c.args.param.now.name c.instr_asked.result.now c.handed-names.result.now c.requires c.instr_asked.ensures c.handed-names.ensures
    c.locals_at-locals.result.now c.len.result c.in-Some.place c.value-value.result.now c.locals_at-locals.ensures c.len.ensures (sym c.in-Some.ensures.place) c.value-value.ensures
