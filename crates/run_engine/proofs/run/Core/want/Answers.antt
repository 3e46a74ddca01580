use Rattle.std.proofs.Common.{suc, arith}
use Rattle.run_engine.specs.inside.Cores.{asks_of, opens_of}
use Rattle.run_engine.proofs.Asking.{answers-then, lacks, same-same, wants}
use Rattle.run_engine.proofs.Gives.{stays-but}
use Rattle.run_engine.proofs.Taking.{took-same}
use Rattle.run_engine.proofs.run.Core.want.Goals as goal

pub returns-in-Ok-clause-answers : goal.returns-in-Ok-clause-answers
returns-in-Ok-clause-answers c = wants c.args.self.now c.args.name c.in-Ok.wanted c.requires c.in-Ok.ensures

pub returns-in-Err-clause-answers : goal.returns-in-Err-clause-answers
returns-in-Err-clause-answers c =
    let s = c.args.self.now in
    answers-then 0 (suc (asks_of s)) s s c.lack.new.self c.lack.result (omega arith) (same-same s) (took-same (opens_of s))
    (lacks s c.lack.new.self c.lack.result c.lack.ensures.answer c.lack.ensures.over)

pub returns-in-Err-clause-kept : goal.returns-in-Err-clause-kept
returns-in-Err-clause-kept c = stays-but c.args.self.now c.lack.new.self _ c.lack.ensures.over
