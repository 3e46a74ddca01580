use Rattle.stx_host.proofs.table.Table.reserve.Goals as goal

pub invariant_of-self : goal.invariant_of-self
invariant_of-self g c = record { different = rw c.reserve.ensures.items c.args.self.now.different }
