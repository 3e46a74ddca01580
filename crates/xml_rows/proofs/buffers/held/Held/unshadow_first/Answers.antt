use Rattle.std.proofs.Common.{◌<◌, ◌-◌, ◌∙◌, refl, ap, subst, sym, arith}
use Rattle.event_buffers.specs.Buffers.{Buffers, busy_at}
use Rattle.xml_rows.specs.Laid.{AreLaid}
use Rattle.xml_rows.proofs.Laid.{can_take_off_first, first_unshadowed}
use Rattle.xml_rows.proofs.buffers.held.Held.unshadow_first.Goals as goal

pub unshadow-requires : goal.unshadow-requires
unshadow-requires c =
    let inside = c.self.inside in
    let last = c.is_free-else-not-is_free.new.buffers in
    let more : 0 < inside.first = omega (arith, c.if-self-eq0.false) in
    let again = c.if-not-is_free-2.ensures in
    let laid : AreLaid inside.first inside.second last = again.piles ∙ c.if-not-is_free.ensures.piles ∙ c.self.invariant in
    can_take_off_first inside.first inside.second last laid more
    (ap (λ (b : Buffers). busy_at b 0) (again.same refl ∙ c.if-not-is_free.ensures.same refl) ∙ c.if-not-is_free.ensures.free refl)
    (ap (λ (b : Buffers). busy_at b 1) (again.same refl) ∙ again.free refl)

pub invariant_of-self-2 : goal.invariant_of-self-2
invariant_of-self-2 c =
    let inside = c.self.inside in
    let last = c.is_free-else-not-is_free.new.buffers in
    let more : 0 < inside.first = omega (arith, c.if-self-eq0.false) in
    let laid : AreLaid inside.first inside.second last = c.if-not-is_free-2.ensures.piles ∙ c.if-not-is_free.ensures.piles ∙ c.self.invariant in
    subst (AreLaid (inside.first - 1) inside.second) (sym c.unshadow.ensures) (first_unshadowed inside.first inside.second last laid more)
