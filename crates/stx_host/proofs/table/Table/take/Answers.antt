use Rattle.std.proofs.Common.{true}
use Rattle.stx_host.proofs.Counted.{pushed_different}
use Rattle.stx_host.proofs.table.Table.take.Goals as goal

pub invariant_of-self : goal.invariant_of-self
invariant_of-self g c =
    let table = c.args.self.now in
    record { different = rw c.push_reserved.ensures.items (pushed_different true table.slots.items (record { id = c.in_ok-id.id; held = c.args.held }) table.different c.in_ok-id.ensures.least.not_open) }
