use Rattle.std.proofs.Common.{arith, length-take, refl}
use Rattle.sheet_runs.proofs.Feeding.{reads-bytes, reads-end}
use Rattle.sheet_runs.proofs.Halting.{read-fails}
use Rattle.sheet_runs.proofs.Leaving.{main-ended-less, wants-main}
use Rattle.sheet_runs.proofs.running.Running.read_on.Goals as goal

pub returns-in-Bytes-clause-driven : goal.returns-in-Bytes-clause-driven
returns-in-Bytes-clause-driven g c = λ start main old d.
    let now = g.H.Host.outside c.args.host.now in
    let new = g.H.Host.outside c.read.new.self in
    c.hand_main.ensures.driven start main old new
    (reads-bytes start main old now new c.args.self.now d c.requires.written c.requires.host c.read.new.room c.in-Bytes.got c.in-Bytes.ensures.answer c.in-Bytes.ensures.change)

pub returns-in-End-clause-driven : goal.returns-in-End-clause-driven
returns-in-End-clause-driven g c = λ start main old d.
    let now = g.H.Host.outside c.args.host.now in
    let new = g.H.Host.outside c.read.new.self in
    c.pump.ensures.driven start main old new (reads-end start main old now new c.args.self.now d c.requires.written c.requires.host c.in-End.ensures.answer c.in-End.ensures.change)

pub returns-in-Failed-clause-driven : goal.returns-in-Failed-clause-driven
returns-in-Failed-clause-driven g c = λ start main old d.
    let now = g.H.Host.outside c.args.host.now in
    let new = g.H.Host.outside c.read.new.self in
    read-fails start main old now new c.args.self.now d c.requires.written c.requires.host (c.in-Failed.ensures.change.main refl) c.in-Failed.ensures.answer c.failure.result c.failure.ensures

pub hand_main-requires : goal.hand_main-requires
hand_main-requires g c =
    let d = c.requires.driven in
    wants-main d.0 d.1 d.2 (g.H.Host.outside c.args.host.now) c.args.self.now d.3

pub returns-in-Bytes-clause-less : goal.returns-in-Bytes-clause-less
returns-in-Bytes-clause-less g c = c.hand_main.ensures.less (omega (arith, length-take c.in-Bytes.got c.read.new.room, c.in-Bytes.ensures.answer.fits, c.in-Bytes.ensures.answer.some))

pub returns-in-End-clause-less : goal.returns-in-End-clause-less
returns-in-End-clause-less g c =
    let d = c.requires.driven in
    main-ended-less c.args.self.now c.pump.new.self (wants-main d.0 d.1 d.2 (g.H.Host.outside c.args.host.now) c.args.self.now d.3) c.pump.ensures.pumps
