use Rattle.std.proofs.Common.{Ok}
use Rattle.instr_code.specs.declared.code.Code.{Code}
use Rattle.template_machine.specs.Ordinary.{IsAlone, IsOrdinary}
use Rattle.template_machine.proofs.Answered.{starts_not, starts_on}
use Rattle.template_machine.specs.Programs.{IsProgramOf}
use Rattle.std.proofs.Common.{◌<◌, length, sym, subst, ◌∙◌, ap, map}
use Rattle.template_machine.specs.declared.program.Program.{Program}
use Rattle.template_machine.proofs.Starting.{ready_root}
use Rattle.template_machine.proofs.Turning.{asks_for_none, stop_more, stop_wants, stop_ended, stop_goes}
use Rattle.template_machine.specs.Between.{GoesOn, lists_in, Burns}
use Rattle.template_machine.proofs.Machines.{fresh_depths, fresh_lists, fresh_mains}
use Rattle.template_machine.proofs.Documents.{same_documents}
use Rattle.template_machine.proofs.Spared.{stop_burns}
use Rattle.template_machine.specs.Commands.{all_given}
use Rattle.template_machine.specs.Work.{Means}
use Rattle.template_machine.proofs.machine.Machine.start.Goals as goal

pub go_on_behind-requires-clause-root : goal.go_on_behind-requires-clause-root
go_on_behind-requires-clause-root g c = subst (λ (p : Program). 0 < length p.sheet.groups) (sym c.begin.ensures.program) (ready_root c.args.self.now.program c.requires.ready)

pub returns-in-Err-clause-more : goal.returns-in-Err-clause-more
returns-in-Err-clause-more g c = λ e. absurd (stop_more c.in-Err.stop (sym c.turn.ensures ∙ e))

pub returns-in-Err-clause-want : goal.returns-in-Err-clause-want
returns-in-Err-clause-want g c = λ name e. absurd (stop_wants c.in-Err.stop name (sym c.turn.ensures ∙ e))

pub returns-in-Ok-clause-more : goal.returns-in-Ok-clause-more
returns-in-Ok-clause-more g c = λ e.
    record {
      wants = c.go_on_behind.ensures.more e;
      depths =
          fresh_depths c.args.self.now.program c.begin.new.self.program c.args.self.now.run c.go_on_behind.new.self c.requires.fresh c.begin.ensures.program
          (c.go_on_behind.ensures.documents (subst GoesOn (sym e) tt) ∙ same_documents c.args.self.now.run c.begin.new.self.run c.in-Ok.ensures.means);
    }

pub returns-in-Ok-clause-want : goal.returns-in-Ok-clause-want
returns-in-Ok-clause-want g c = λ name e.
    record {
      waits = c.go_on_behind.ensures.want name e;
      depths =
          fresh_depths c.args.self.now.program c.begin.new.self.program c.args.self.now.run c.go_on_behind.new.self c.requires.fresh c.begin.ensures.program
          (c.go_on_behind.ensures.documents (subst GoesOn (sym e) tt) ∙ same_documents c.args.self.now.run c.begin.new.self.run c.in-Ok.ensures.means);
    }

pub returns-in-Ok-clause-ended : goal.returns-in-Ok-clause-ended
returns-in-Ok-clause-ended g c = λ e. ap (map lists_in) (c.go_on_behind.ensures.ended e)

pub returns-in-Ok-clause-documents : goal.returns-in-Ok-clause-documents
returns-in-Ok-clause-documents g c = λ goes.
    fresh_lists c.args.self.now.program c.args.self.now.run c.go_on_behind.new.self c.requires.fresh (c.go_on_behind.ensures.documents goes ∙ same_documents c.args.self.now.run c.begin.new.self.run c.in-Ok.ensures.means)

pub returns-in-Ok-clause-depth : goal.returns-in-Ok-clause-depth
returns-in-Ok-clause-depth g c = ap (λ (p : Program). p.limits.depth) c.begin.ensures.program

pub returns-in-Err-clause-depth : goal.returns-in-Err-clause-depth
returns-in-Err-clause-depth g c = ap (λ (p : Program). p.limits.depth) c.begin.ensures.program

pub returns-in-Err-clause-ended : goal.returns-in-Err-clause-ended
returns-in-Err-clause-ended g c = λ e. absurd (stop_ended c.in-Err.stop (sym c.turn.ensures ∙ e))

pub returns-in-Err-clause-documents : goal.returns-in-Err-clause-documents
returns-in-Err-clause-documents g c = λ goes. absurd (stop_goes c.in-Err.stop (subst GoesOn c.turn.ensures goes))

pub returns-in-Ok-clause-mains : goal.returns-in-Ok-clause-mains
returns-in-Ok-clause-mains g c = λ goes.
    fresh_mains c.args.self.now.program c.args.self.now.run c.go_on_behind.new.self c.requires.fresh
    (c.go_on_behind.ensures.documents goes ∙ same_documents c.args.self.now.run c.begin.new.self.run c.in-Ok.ensures.means)

pub returns-in-Ok-clause-fuel : goal.returns-in-Ok-clause-fuel
returns-in-Ok-clause-fuel g c =
    subst (λ k. Burns c.go_on_behind.result k c.go_on_behind.new.self.fuel) (ap (λ (m : Means). m.fuel) c.in-Ok.ensures.means) c.go_on_behind.ensures.fuel

pub returns-in-Ok-clause-fuel_limit : goal.returns-in-Ok-clause-fuel_limit
returns-in-Ok-clause-fuel_limit g c = ap (λ (p : Program). p.limits.fuel) c.begin.ensures.program

pub returns-in-Err-clause-fuel_limit : goal.returns-in-Err-clause-fuel_limit
returns-in-Err-clause-fuel_limit g c = ap (λ (p : Program). p.limits.fuel) c.begin.ensures.program

pub returns-in-Err-clause-fuel : goal.returns-in-Err-clause-fuel
returns-in-Err-clause-fuel g c =
    subst (λ t. Burns t c.args.self.now.run.fuel c.begin.new.self.run.fuel) (sym c.turn.ensures) (stop_burns c.in-Err.stop c.args.self.now.run.fuel c.begin.new.self.run.fuel)

pub returns-in-Err-clause-mains : goal.returns-in-Err-clause-mains
returns-in-Err-clause-mains g c = λ goes. absurd (stop_goes c.in-Err.stop (subst GoesOn c.turn.ensures goes))

pub returns-in-Ok-clause-of : goal.returns-in-Ok-clause-of
returns-in-Ok-clause-of g c = λ sheet limits of. subst (λ p. IsProgramOf sheet limits p) (sym c.begin.ensures.program) of

pub returns-in-Err-clause-of : goal.returns-in-Err-clause-of
returns-in-Err-clause-of g c = λ sheet limits of. subst (λ p. IsProgramOf sheet limits p) (sym c.begin.ensures.program) of

pub returns-in-Ok-clause-params : goal.returns-in-Ok-clause-params
returns-in-Ok-clause-params g c = ap all_given c.begin.ensures.program

pub returns-in-Err-clause-params : goal.returns-in-Err-clause-params
returns-in-Err-clause-params g c = ap all_given c.begin.ensures.program

pub returns-in-Ok-clause-alone : goal.returns-in-Ok-clause-alone
returns-in-Ok-clause-alone g c = λ ordinary. c.go_on_behind.ensures.alone (subst (λ (q : Program). IsOrdinary q.code) (sym c.begin.ensures.program) ordinary)

pub returns-in-Err-clause-alone : goal.returns-in-Err-clause-alone
returns-in-Err-clause-alone g c = λ ordinary. asks_for_none c.turn.result (λ name e. stop_wants c.in-Err.stop name (sym c.turn.ensures ∙ e))

-- What was done.

pub returns-in-Ok-clause-gives : goal.returns-in-Ok-clause-gives
returns-in-Ok-clause-gives g c = λ ordinary.
    let m = c.args.self.now in
    let p = c.begin.new.self.program in
    let r = c.begin.new.self.run in
    let same = c.begin.ensures.program in
    let starts = c.in-Ok.ensures.starts in
    starts_on g.S.Sink.output g.S.Sink.told g.met.S.Sink.further g.met.S.Sink.leaves m p c.in-Ok.step c.go_on_behind.result r c.go_on_behind.new.self c.args.out.now c.begin.new.out c.go_on_behind.new.out same ordinary starts
    (c.go_on_behind.ensures.goes (subst (λ (q : Program). IsAlone q r) (sym same) starts.alone) (subst (λ (q : Program). IsOrdinary q.code) (sym same) ordinary) (λ e. starts.over (ap (λ s. Ok s) e)))

pub returns-in-Err-clause-gives : goal.returns-in-Err-clause-gives
returns-in-Err-clause-gives g c = λ ordinary.
    starts_not g.S.Sink.output g.S.Sink.told g.met.S.Sink.further g.met.S.Sink.leaves c.args.self.now c.begin.new.self.program c.in-Err.stop c.turn.result c.begin.new.self.run c.args.out.now c.begin.new.out
    c.begin.ensures.program c.turn.ensures c.in-Err.ensures.starts
