use Rattle.std.proofs.Common.{refl}
use Rattle.sheet_runs.specs.declared.main_document.Main.TheVariants as main
use Rattle.fault_report.specs.declared.outcome.Outcome.TheVariants.{Memory}
use Rattle.run_engine.specs.declared.piece.Pumped.TheVariants as asks
use Rattle.sheet_runs.specs.declared.running.Halt.TheVariants as halt
use Rattle.sheet_runs.specs.declared.running.Running.{Running}
use Rattle.sheet_runs.proofs.Feeding.{takes-chunk}
use Rattle.sheet_runs.proofs.Halting.{halts-with, lacks}
use Rattle.sheet_runs.proofs.Leaving.{chunk-less, wants-main}
use Rattle.sheet_runs.proofs.running.Running.read_main.Goals as goal

pub hand_chunk-requires : goal.hand_chunk-requires
hand_chunk-requires g c =
    let d = c.requires.driven in
    wants-main d.0 d.1 d.2 (g.H.Host.outside c.args.host.now) c.args.self.now d.3

pub returns-in-Ok-clause-driven : goal.returns-in-Ok-clause-driven
returns-in-Ok-clause-driven g c = λ start whole old d.
    let r = c.args.self.now in
    let now = g.H.Host.outside c.args.host.now in
    let s : Running = record r { main = main.Sample c.next_chunk.new.sample } in
    c.hand_chunk.ensures.driven start whole old now
    (takes-chunk start whole old now r s d c.requires.written c.in-Sample.sample c.next_chunk.new.sample c.in-Sample.is refl refl c.in-Ok.chunk c.in-Ok.ensures)

pub returns-in-Err-clause-driven : goal.returns-in-Err-clause-driven
returns-in-Err-clause-driven g c = λ start whole old d.
    let now = g.H.Host.outside c.args.host.now in
    halts-with start whole old now c.args.self.now (main.Sample c.next_chunk.new.sample) (halt.Failed Memory) (lacks start whole old now c.args.self.now asks.Main d)

pub returns-in-Ok-clause-less : goal.returns-in-Ok-clause-less
returns-in-Ok-clause-less g c =
    let d = c.requires.driven in
    let r = c.args.self.now in
    let s : Running = record r { main = main.Sample c.next_chunk.new.sample } in
    chunk-less r s c.hand_chunk.new.self c.in-Sample.sample c.next_chunk.new.sample c.in-Ok.chunk c.in-Sample.is refl (wants-main d.0 d.1 d.2 (g.H.Host.outside c.args.host.now) r d.3) c.in-Ok.ensures
    c.hand_chunk.ensures.more c.hand_chunk.ensures.less
