use Rattle.std.proofs.Common.{◌<◌, ◌-◌, ◌∙◌, refl, ap, subst, sym, arith}
use Rattle.event_buffers.specs.Buffers.{Buffers, busy_at}
use Rattle.xml_rows.specs.Laid.{AreLaid}
use Rattle.xml_rows.proofs.Laid.{can_take_off_second, second_unshadowed}
use Rattle.xml_rows.proofs.buffers.held.Held.unshadow_second.Goals as goal

pub unshadow-requires : goal.unshadow-requires
unshadow-requires c =
    let inside = c.self.inside in
    let last = c.is_free.new.buffers in
    let more : 0 < inside.second = omega (arith, c.if-self-eq0.false) in
    let free = c.if-not-is_free.ensures in
    let laid : AreLaid inside.first inside.second last = free.piles ∙ c.self.invariant in
    can_take_off_second inside.first inside.second last laid more (ap (λ (b : Buffers). busy_at b 2) (free.same refl) ∙ free.free refl)

pub invariant_of-self-2 : goal.invariant_of-self-2
invariant_of-self-2 c =
    let inside = c.self.inside in
    let last = c.is_free.new.buffers in
    let more : 0 < inside.second = omega (arith, c.if-self-eq0.false) in
    let laid : AreLaid inside.first inside.second last = c.if-not-is_free.ensures.piles ∙ c.self.invariant in
    subst (AreLaid inside.first (inside.second - 1)) (sym c.unshadow.ensures) (second_unshadowed inside.first inside.second last laid more)
