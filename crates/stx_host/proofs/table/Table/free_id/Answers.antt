use Rattle.std.proofs.Common.{◌+◌, inl, inr, arith}
use Rattle.std.proofs.lemmas.Bool.{cases_lt, OnTrue_at, OnFalse_at}
use Rattle.stx_host.specs.Table.{ids_of}
use Rattle.stx_host.proofs.Counted.{upper_free, lower_free, middle_of, one_free}
use Rattle.stx_host.proofs.table.Table.free_id.Goals as goal
use Rattle.stx_host.proofs.table.Table.free_id.Goals.{then-are_open, else-are_open}

pub loop-low-preserved : goal.loop-low-preserved
loop-low-preserved g c =
    let ids = ids_of c.args.self.now.slots.items in
    let l = c.loop-low in
    let middle = l.invariant.middle c.loop-low-test.true in
    elim c.if-are_open.branch [
      | then-are_open w ↦
          let opened = OnTrue_at w.if-are_open.true c.are_open.ensures.all in
          record {
            above = omega (arith, w.low-is);
            lower = λ id from below. elim (cases_lt id l.low) [ inl less ↦ l.invariant.lower id from less | inr more ↦ opened id more (omega (arith, below, w.low-is)) ];
            range = omega (arith, w.low-is, w.high-is, middle.1);
            free = upper_free ids l.low l.middle l.high _ _ w.low-is w.high-is middle.0 middle.1 (OnTrue_at w.if-are_open.true c.are_open.ensures.counted) l.invariant.free;
            middle = λ less. middle_of _ _ less;
          }
      | else-are_open w ↦ record {
        above = omega (arith, w.low-is, l.invariant.above);
        lower = λ id from below. l.invariant.lower id from (omega (arith, below, w.low-is));
        range = omega (arith, w.low-is, w.high-is, middle.0);
        free = lower_free ids l.low l.middle _ _ w.low-is w.high-is (OnFalse_at w.if-are_open.false c.are_open.ensures.some);
        middle = λ less. middle_of _ _ less;
      }
    ]

pub returns-clause-least : goal.returns-clause-least
returns-clause-least g c =
    let l = c.loop-low in
    record {
      above_zero = l.invariant.above;
      not_open = one_free (ids_of c.args.self.now.slots.items) l.low (l.high + 1) (omega (arith, l.invariant.range, c.loop-low-test.false)) (omega (arith, l.invariant.range, l.invariant.free, c.loop-low-test.false));
      lower = λ k above less. l.invariant.lower k above less;
    }
