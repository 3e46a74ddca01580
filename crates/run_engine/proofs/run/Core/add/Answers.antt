use Rattle.std.proofs.Common.{ap, sym}
use Rattle.run_engine.specs.declared.run.Core.{Core}
use Rattle.run_engine.proofs.Standing.{adds-alone, adds-first}
use Rattle.run_engine.proofs.run.Core.add.Goals as goal

pub returns-in_ok-push-in-Some-clause-adds : goal.returns-in_ok-push-in-Some-clause-adds
returns-in_ok-push-in-Some-clause-adds c =
    let s = c.args.self.now in
    let t : Core = record s { newest = c.replace.new.self; outer = c.push.new.self } in
    adds-first s t c.args.document c.in-Some.outer (sym c.in-Some.ensures.value) (ap (λ n. record s { newest = n; outer = c.push.new.self }) c.in-Some.ensures.after)
    c.in_ok-push-in-Some.ensures.items

pub returns-in-None-clause-adds : goal.returns-in-None-clause-adds
returns-in-None-clause-adds c =
    let s = c.args.self.now in
    let t : Core = record s { newest = c.replace.new.self } in
    let none = sym c.in-None.ensures.value in
    adds-alone s t c.args.document none (c.requires none) (ap (λ n. record s { newest = n }) c.in-None.ensures.after)
