use Rattle.std.proofs.Common.{◌∷◌, [], sym, subst}
use Rattle.stx_base.specs.declared.part.Part.TheVariants as part
use Rattle.template_machine.specs.Saying.{Puts}
use Rattle.template_machine.specs.declared.stop.Stop.TheVariants as stop
use Rattle.template_machine.proofs.Copied.{puts_copied}
use Rattle.template_machine.proofs.Saying.{puts_not, stops_with}
use Rattle.template_machine.proofs.Shelved.{stands_on}
use Rattle.template_machine.proofs.putting.Putting.start.Goals as goal

pub returns-clause-stands : goal.returns-clause-stands
returns-clause-stands g c = stands_on _ _ _ c.copied_name.ensures.same c.start_named.ensures.stands

pub returns-in_err-name-clause-puts : goal.returns-in_err-name-clause-puts
returns-in_err-name-clause-puts g c =
    subst (λ r. Puts g.S.Sink.output g.S.Sink.told c.args.at (part.Start c.args.name.now [] ∷ []) r c.args.self.now c.copied_name.new.self c.args.out.now c.args.out.now)
    (sym (stops_with c.from_residual.result stop.Memory c.from_residual.ensures.1))
    (puts_not g.S.Sink.output g.S.Sink.told g.met.S.Sink.nothing c.args.at (part.Start c.args.name.now [] ∷ []) c.args.self.now c.copied_name.new.self c.args.out.now)

pub returns-clause-puts : goal.returns-clause-puts
returns-clause-puts g c =
    subst (λ n. Puts g.S.Sink.output g.S.Sink.told c.args.at (part.Start n [] ∷ []) c.start_named.result c.args.self.now c.start_named.new.self c.args.out.now c.start_named.new.out) c.in_ok-name.ensures.copy
    (puts_copied g.S.Sink.output g.S.Sink.told c.args.at (part.Start c.in_ok-name.name [] ∷ []) c.start_named.result c.args.self.now c.copied_name.new.self c.start_named.new.self c.args.out.now c.start_named.new.out
    c.copied_name.ensures.rest c.start_named.ensures.puts)
