use Rattle.std.proofs.Common.{◌-◌, ap}
use Rattle.std.proofs.Math.Seq.{map-set_same}
use Rattle.sheet_runs.specs.declared.other.Other.{Other}
use Rattle.sheet_runs.proofs.running.Running.unread.Goals as goal

pub returns-clause-ids : goal.returns-clause-ids
returns-clause-ids c =
    let others = c.args.self.now.others in
    let e = c.in-Some.other.now in
    map-set_same (λ (o : Other). o.id) others.items (others.len - 1) (record e { name = c.replace.new.dest }) e (ap (λ (o : Other). o.id) c.in-Some.ensures.item.1)
