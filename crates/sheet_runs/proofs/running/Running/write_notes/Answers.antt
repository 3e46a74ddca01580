use Rattle.std.proofs.Common.{refl}
use Rattle.sheet_runs.specs.declared.running.Running.{Running}
use Rattle.sheet_runs.proofs.Halting.{notes-fail}
use Rattle.sheet_runs.proofs.Stepping.{wrote-notes}
use Rattle.sheet_runs.proofs.running.Running.write_notes.Goals as goal

pub returns-in-Ok-clause-driven : goal.returns-in-Ok-clause-driven
returns-in-Ok-clause-driven g c = λ start main old asked d.
    let r = c.args.self.now in
    let now = g.H.Host.outside c.args.host.now in
    let new = g.H.Host.outside c.write.new.host in
    let wrote = c.in-Ok.ensures in
    let s : Running = record r { notes = c.clear.new.self } in (
      wrote-notes start main old now new r s asked c.as_slice.result.now wrote.0 d c.as_slice.ensures.value wrote.1 wrote.2 refl c.clear.ensures.items,
      (c.requires, c.clear.ensures.items),
    )

pub returns-in-Err-clause-driven : goal.returns-in-Err-clause-driven
returns-in-Err-clause-driven g c = λ start main old asked d.
    let r = c.args.self.now in
    let now = g.H.Host.outside c.args.host.now in
    let new = g.H.Host.outside c.write.new.host in
    let wrote = c.in-Err.ensures in
    notes-fail start main old now r asked d new c.as_slice.result.now wrote.0 c.in-Err.field-0.taken c.requires c.as_slice.ensures.value wrote.1 wrote.2 wrote.3 wrote.4
