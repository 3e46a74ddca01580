use Rattle.std.proofs.Common.{refl, arith}
use Rattle.run_engine.specs.declared.run.Core.{Core}
use Rattle.run_engine.specs.inside.Cores.{opens_of}
use Rattle.run_engine.proofs.Asking.{answers-then, stops-with}
use Rattle.run_engine.proofs.Taking.{took-same}
use Rattle.run_engine.proofs.run.Core.miss.Goals as goal

pub returns-clause-answers : goal.returns-clause-answers
returns-clause-answers c =
    let s = c.args.self.now in
    let t : Core = record s { machine = c.document_absent.new.self } in
    answers-then 0 0 s t c.stop.new.self c.stop.result (omega arith) (record { files = refl; limits = refl; strip = refl; cdata = refl }) (took-same (opens_of s)) c.stop.ensures.answers

pub returns-clause-code : goal.returns-clause-code
returns-clause-code c = stops-with c.document_absent.result c.in-Stopped.fault c.stop.new.self c.document_absent.ensures.stopped c.in-Stopped.is c.stop.ensures.code

pub unreachable-requires : goal.unreachable-requires
unreachable-requires c = c.in_default.not-Stopped _ c.document_absent.ensures.stopped.1
