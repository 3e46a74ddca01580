use Rattle.std.proofs.Common.{sym, ◌∙◌, ap, map, subst}
use Rattle.template_machine.proofs.Based.{has_root}
use Rattle.template_machine.proofs.Turning.{stop_more, stop_wants, stop_ended, stop_goes}
use Rattle.template_machine.specs.Between.{GoesOn, lists_in, Burns, main_in}
use Rattle.template_machine.proofs.Machines.{more_depths}
use Rattle.template_machine.proofs.Spared.{stop_burns}
use Rattle.template_machine.proofs.machine.Machine.document_opened.Goals as goal

pub go_on_behind-requires-clause-root : goal.go_on_behind-requires-clause-root
go_on_behind-requires-clause-root g c = has_root c.args.self.now.program c.begin_document.new.self c.in-Ok.ensures.stands.steady

pub returns-in-Err-clause-more : goal.returns-in-Err-clause-more
returns-in-Err-clause-more g c = λ e. absurd (stop_more c.in-Err.stop (sym c.turn.ensures ∙ e))

pub returns-in-Err-clause-want : goal.returns-in-Err-clause-want
returns-in-Err-clause-want g c = λ name e. absurd (stop_wants c.in-Err.stop name (sym c.turn.ensures ∙ e))

pub returns-in-Ok-clause-more : goal.returns-in-Ok-clause-more
returns-in-Ok-clause-more g c = λ e.
    record {
      wants = c.go_on_behind.ensures.more e;
      depths =
          more_depths c.args.self.now.program.limits.depth c.go_on_behind.new.self c.args.self.now.run
          (c.go_on_behind.ensures.documents (subst GoesOn (sym e) tt) ∙ c.in-Ok.ensures.documents) c.requires.depths;
    }

pub returns-in-Ok-clause-want : goal.returns-in-Ok-clause-want
returns-in-Ok-clause-want g c = λ name e.
    record {
      waits = c.go_on_behind.ensures.want name e;
      depths =
          more_depths c.args.self.now.program.limits.depth c.go_on_behind.new.self c.args.self.now.run
          (c.go_on_behind.ensures.documents (subst GoesOn (sym e) tt) ∙ c.in-Ok.ensures.documents) c.requires.depths;
    }

pub returns-in-Ok-clause-ended : goal.returns-in-Ok-clause-ended
returns-in-Ok-clause-ended g c = λ e. ap (map lists_in) (c.go_on_behind.ensures.ended e)

pub returns-in-Ok-clause-documents : goal.returns-in-Ok-clause-documents
returns-in-Ok-clause-documents g c = λ goes. ap (map lists_in) (c.go_on_behind.ensures.documents goes ∙ c.in-Ok.ensures.documents)

pub returns-in-Err-clause-ended : goal.returns-in-Err-clause-ended
returns-in-Err-clause-ended g c = λ e. absurd (stop_ended c.in-Err.stop (sym c.turn.ensures ∙ e))

pub returns-in-Err-clause-documents : goal.returns-in-Err-clause-documents
returns-in-Err-clause-documents g c = λ goes. absurd (stop_goes c.in-Err.stop (subst GoesOn c.turn.ensures goes))

pub returns-in-Ok-clause-mains : goal.returns-in-Ok-clause-mains
returns-in-Ok-clause-mains g c = λ goes. ap (map main_in) (c.go_on_behind.ensures.documents goes ∙ c.in-Ok.ensures.documents)

pub returns-in-Ok-clause-fuel : goal.returns-in-Ok-clause-fuel
returns-in-Ok-clause-fuel g c = subst (λ k. Burns c.go_on_behind.result k c.go_on_behind.new.self.fuel) c.in-Ok.ensures.fuel c.go_on_behind.ensures.fuel

pub returns-in-Err-clause-fuel : goal.returns-in-Err-clause-fuel
returns-in-Err-clause-fuel g c =
    subst (λ t. Burns t c.args.self.now.run.fuel c.begin_document.new.self.fuel) (sym c.turn.ensures) (stop_burns c.in-Err.stop c.args.self.now.run.fuel c.begin_document.new.self.fuel)

pub returns-in-Err-clause-mains : goal.returns-in-Err-clause-mains
returns-in-Err-clause-mains g c = λ goes. absurd (stop_goes c.in-Err.stop (subst GoesOn c.turn.ensures goes))
