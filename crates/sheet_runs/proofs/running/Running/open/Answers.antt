use Rattle.sheet_runs.proofs.Halting.{open-fails, open-lacks}
use Rattle.sheet_runs.proofs.Leaving.{absent-leaves}
use Rattle.sheet_runs.proofs.Others.{other-absent}
use Rattle.sheet_runs.proofs.running.Running.open.Goals as goal

pub add-requires-clause-opened : goal.add-requires-clause-opened
add-requires-clause-opened g c =
    let d = c.requires.driven in
    (d.0, d.1, d.2, g.H.Host.outside c.args.host.now, d.3, c.in-Id.ensures.answer, c.in-Id.ensures.change)

pub returns-in-Id-clause-driven : goal.returns-in-Id-clause-driven
returns-in-Id-clause-driven g c = λ start main old d. c.add.ensures.driven start main old (g.H.Host.outside c.args.host.now) d c.in-Id.ensures.answer c.in-Id.ensures.change

pub returns-in-Absent-clause-driven : goal.returns-in-Absent-clause-driven
returns-in-Absent-clause-driven g c = λ start main old d.
    let now = g.H.Host.outside c.args.host.now in
    let new = g.H.Host.outside c.open.new.self in
    c.pump.ensures.driven start main old new (other-absent start main old now new c.args.self.now c.args.self.now c.args.name d c.requires.written c.in-Absent.ensures.answer c.in-Absent.ensures.change)

pub returns-in-Failed-clause-driven : goal.returns-in-Failed-clause-driven
returns-in-Failed-clause-driven g c = λ start main old d.
    let now = g.H.Host.outside c.args.host.now in
    let new = g.H.Host.outside c.open.new.self in
    open-fails start main old now new c.args.self.now c.args.name d c.requires.written c.in-Failed.ensures.answer c.in-Failed.ensures.change

pub returns-in-Memory-clause-driven : goal.returns-in-Memory-clause-driven
returns-in-Memory-clause-driven g c = λ start main old d.
    open-lacks start main old (g.H.Host.outside c.args.host.now) (g.H.Host.outside c.open.new.self) c.args.self.now c.args.name d c.requires.written c.in-Memory.ensures.change

pub returns-in-Id-clause-less : goal.returns-in-Id-clause-less
returns-in-Id-clause-less g c = c.add.ensures.less

pub returns-in-Absent-clause-less : goal.returns-in-Absent-clause-less
returns-in-Absent-clause-less g c = absent-leaves c.args.self.now c.args.self.now c.pump.new.self c.args.name c.requires.driven.3.says c.pump.ensures.pumps
