use Rattle.sheet_runs.specs.inside.Running.{IsWritten}
use Rattle.sheet_runs.proofs.Halting.{wrote-not}
use Rattle.sheet_runs.proofs.running.Running.write_settled.Goals as goal

pub returns-clause-driven : goal.returns-clause-driven
returns-clause-driven g c = λ start whole old asked d. c.write_notes.ensures.driven start whole old asked (c.in_ok-write_out.ensures.driven start whole old asked d).0

pub returns-in_err-write_out-clause-driven : goal.returns-in_err-write_out-clause-driven
returns-in_err-write_out-clause-driven g c = λ start whole old asked d.
    let s = c.write_out.new.self in
    wrote-not start whole old (g.H.Host.outside c.write_out.new.host) s asked (IsWritten s) c.in_err-write_out.field-0.0 c.from_residual.result c.from_residual.ensures.1
    (c.in_err-write_out.ensures.driven start whole old asked d)
