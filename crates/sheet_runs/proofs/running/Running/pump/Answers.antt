use Rattle.std.proofs.Common.{[], refl, subst}
use Rattle.run_engine.specs.Does.{Does}
use Rattle.run_engine.specs.Run.{HasHead}
use Rattle.sheet_runs.specs.declared.running.Running.{Running}
use Rattle.sheet_runs.proofs.Stepping.{pumps}
use Rattle.sheet_runs.proofs.running.Running.pump.Goals as goal

pub returns-clause-driven : goal.returns-clause-driven
returns-clause-driven c = λ start main old now h.
    let e = c.pump.ensures in
    let new : Running = record c.args.self.now { engine = c.pump.new.self; out = c.pump.new.out; notes = c.pump.new.notes } in
    pumps start main old now c.args.self.now new c.args.piece c.pump.result h (record {
      may = h.may;
      says = e.says;
      stands = e.stands;
      same = e.same;
      took = e.took;
      absent = e.absent;
      head = subst (λ before. HasHead c.args.piece before c.pump.new.self.stage c.pump.new.out.items) h.nothing e.head;
      does = λ order.
          subst (λ before. Does c.args.piece c.args.self.now.engine c.pump.new.self before c.pump.new.out.items [] c.pump.new.notes.items) h.nothing
          (subst (λ before. Does c.args.piece c.args.self.now.engine c.pump.new.self c.args.self.now.out.items c.pump.new.out.items before c.pump.new.notes.items) h.no_notes (e.does order));
    }) refl

pub returns-clause-pumps : goal.returns-clause-pumps
returns-clause-pumps c =
    let e = c.pump.ensures in
    record { same = refl; run = e.same; took = e.took; asks = e.asks }
