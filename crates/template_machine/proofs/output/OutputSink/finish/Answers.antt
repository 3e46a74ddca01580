use Rattle.std.proofs.Common.{subst, sym, [], ap}
use Rattle.template_machine.specs.Written.{Wrote}
use Rattle.template_machine.specs.WrittenOn.{match_err, match_ok, wrote_nothing}
use Rattle.template_machine.proofs.output.OutputSink.finish.Goals as goal

pub returns-clause-closed : goal.returns-clause-closed
returns-clause-closed c = match_ok _ _ _ _ c.finish.result c.finish.ensures.closed

pub returns-clause-unclosed : goal.returns-clause-unclosed
returns-clause-unclosed c = match_err _ _ _ _ _ c.finish.result c.finish.ensures.closed

pub returns-clause-unsaid : goal.returns-clause-unsaid
returns-clause-unsaid c =
    let old = c.args.self.now in subst (λ w. Wrote old (record old { writer = w }) []) (sym c.finish.ensures.unchanged) (wrote_nothing old)
