use Rattle.std.proofs.Common.{Some, None, ap, sym, ◌∙◌, inr}
use Rattle.stx_host.specs.RealHost.{outside_of}
use Rattle.stx_host.specs.Table.{ids_of}
use Rattle.stx_host.proofs.ToCome.{ids_of-filter, kept_bytes}
use Rattle.stx_host.proofs.real_host.RealHostHost.close.Goals as goal

pub returns : goal.returns
returns g c =
    let ids = ap ids_of c.remove.ensures.removed ∙ ids_of-filter c.args.id c.args.self.now.table.slots.items in
    let rest = sym (kept_bytes (λ id. None) c.args.id) in
    inr (λ i. record (outside_of c.args.self.now.table.slots.items c.args.self.now.faults) { to_come = rest i; open_ids = Some (ids i) })
