use Rattle.std.proofs.Common.{◌+◌, ◌∙◌, length, refl, sym, ap}
use Rattle.sheet_runs.specs.Writing.{counted}
use Rattle.sheet_runs.specs.declared.running.Running.{Running}
use Rattle.sheet_runs.proofs.Halting.{write-fails}
use Rattle.sheet_runs.proofs.Stepping.{wrote-out}
use Rattle.sheet_runs.proofs.running.Running.write_out.Goals as goal

pub returns-in-Ok-clause-driven : goal.returns-in-Ok-clause-driven
returns-in-Ok-clause-driven g c = λ start main old asked d.
    let r = c.args.self.now in
    let now = g.H.Host.outside c.args.host.now in
    let new = g.H.Host.outside c.write.new.host in
    let wrote = c.in-Ok.ensures in
    let bytes = c.as_slice.result.now in
    let is = c.as_slice.ensures.value in
    let s : Running = record r { output = c.saturating_add-self.result; out = c.clear.new.self } in (
      wrote-out start main old now new r s asked bytes wrote.0 d is wrote.1 wrote.2 refl c.clear.ensures.items
          (c.saturating_add-self.ensures ∙ ap (λ n. counted (r.output + n)) (c.len.ensures ∙ r.out.ok.0 ∙ ap length (sym is))),
      c.clear.ensures.items,
    )

pub returns-in-Err-clause-driven : goal.returns-in-Err-clause-driven
returns-in-Err-clause-driven g c = λ start main old asked d.
    let r = c.args.self.now in
    let now = g.H.Host.outside c.args.host.now in
    let new = g.H.Host.outside c.write.new.host in
    let wrote = c.in-Err.ensures in
    let offset = c.saturating_add-self-in-Err.result in
    let s : Running = record r { output = offset } in
    write-fails start main old now r asked d new c.failure.result c.as_slice.result.now wrote.0 c.in-Err.refused.taken offset c.as_slice.ensures.value wrote.1 wrote.2 wrote.3 wrote.4
    c.saturating_add-self-in-Err.ensures c.failure.ensures s refl refl
