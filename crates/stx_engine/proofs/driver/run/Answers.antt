use Rattle.std.proofs.Common.{◌≡◌, Err, None, refl, subst}
use Rattle.command_words.specs.Words.{Reads, command_of}
use Rattle.stx_engine.specs.Doing.{Lacks, Obeys, Refuses}
use Rattle.stx_engine.specs.Words.{spelled}
use Rattle.stx_engine.proofs.Limited.{usual}
use Rattle.stx_engine.proofs.Ran.{ran-nothing, ran-usage}
use Rattle.stx_engine.proofs.RanAny.{ran-command}
use Rattle.stx_engine.proofs.driver.run.Goals as goal

pub run_command-requires : goal.run_command-requires
run_command-requires g c = usual (spelled c.args.words.now) c.in-Ok.command c.in-Ok.ensures

pub returns-in-Ok : goal.returns-in-Ok
returns-in-Ok g c = record {
  does = Obeys c.in-Ok.command c.in-Ok.ensures c.run_command.ensures;
  runs = ran-command (spelled c.args.words.now) c.in-Ok.command c.in-Ok.ensures (g.H.Host.outside c.args.host.now) c.runs.ensures (g.H.Host.outside c.run_command.new.host) c.run_command.result c.run_command.ensures;
}

pub returns-in-Err-Usage : goal.returns-in-Err-Usage
returns-in-Err-Usage g c =
    let none : command_of (spelled c.args.words.now) ≡ None = subst (λ refused. Reads (command_of (spelled c.args.words.now)) (Err refused)) c.in-Err-Usage.field-0-is c.in-Err-Usage.ensures in
    record { does = Refuses none refl refl; runs = ran-usage (spelled c.args.words.now) (g.H.Host.outside c.args.host.now) none }

pub returns-in-Err-Memory : goal.returns-in-Err-Memory
returns-in-Err-Memory g c = record { does = Lacks refl refl; runs = ran-nothing (spelled c.args.words.now) (g.H.Host.outside c.args.host.now) }
