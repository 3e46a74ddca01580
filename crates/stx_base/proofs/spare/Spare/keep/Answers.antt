use Rattle.std.proofs.Common.{[], ◌++◌, ◌≤◌, sym, ap, ◌∙◌, append-nil, arith}
use Rattle.std.specs.Prelude.{is_ok, string_capacity}
use Rattle.stx_base.specs.Spare.{Kept}
use Rattle.stx_base.proofs.SpareLemmas.{pushed, pushed_within}
use Rattle.stx_base.proofs.spare.Spare.keep.Goals as goal

pub returns-then-len-lt-MOST-clause-gains : goal.returns-then-len-lt-MOST-clause-gains
returns-then-len-lt-MOST-clause-gains c =
    let p = pushed string_capacity (is_ok c.push.result) c.self.inside.strings.items c.push.new.self.items c.into_string-string.result c.push.ensures.items in
    (p.0, [], p.1 ∙ ap (λ (k : Kept). k.texts ++ p.0) c.self.view_is, p.2, ap (λ (k : Kept). k.lists) c.self.view_is ∙ sym (append-nil _), omega arith)

pub returns-then-len-lt-MOST-clause-bounded : goal.returns-then-len-lt-MOST-clause-bounded
returns-then-len-lt-MOST-clause-bounded c =
    let room = c.capacity-room.ensures in
    let p = pushed_within string_capacity (λ room. (64 ≤ room) × (room ≤ 256)) 1024 (is_ok c.push.result) c.self.inside.strings.items c.push.new.self.items c.into_string-string.result c.push.ensures.items
    (omega (arith, room, c.if-room-ge-ROOM.true), omega (arith, room, c.if-room-le-MOST_ROOM.true))
    (omega (arith, c.len.ensures, c.self.inside.strings.ok.0, c.if-len-lt-MOST.true)) c.self.invariant.1 in
    (p.0, p.1, c.self.invariant.2, c.self.invariant.3)
