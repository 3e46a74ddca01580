use Rattle.std.proofs.Common.{◌^◌, ◌-◌, Some, min}
use Rattle.stx_host.specs.MemHost.{start_of, all_to_come, unless_listed}
use Rattle.stx_host.specs.Table.{ids_of}
use Rattle.stx_host.proofs.mem_host.MemHost.new.Goals as goal

pub returns-clause-starts : goal.returns-clause-starts
returns-clause-starts c =
    let empty = c.in_ok-with_room.ensures.empty in
    λ i. record (start_of c.args.main c.args.docs c.args.fails c.args.acts c.args.bytes) {
      to_come = all_to_come c.args.main 0 c.args.docs (empty i);
      open_ids = Some (ids_of (empty i));
      log = Some (c.in_ok-with_capacity.ensures.items i);
      out = Some (c.in_ok-with_capacity-2.ensures.items i);
      note = Some (c.in_ok-with_capacity-3.ensures.items i);
      room = unless_listed c.args.fails (record {
        acts = c.in_ok-with_capacity.ensures.exact i;
        ids = min (c.in_ok-with_room.ensures.room i) (2 ^ 32 - 1);
        out = c.in_ok-with_capacity-2.ensures.exact i;
        note = c.in_ok-with_capacity-3.ensures.exact i;
      });
    }
