use Rattle.std.proofs.Common.{◌+◌, subst, sym}
use Rattle.xml_rows.specs.Laid.{AreLaid}
use Rattle.xml_rows.proofs.Laid.{second_shadowed}
use Rattle.xml_rows.proofs.buffers.held.Held.shadow_second.Goals as goal

pub invariant_of-self-2 : goal.invariant_of-self-2
invariant_of-self-2 c =
    let inside = c.self.inside in
    subst (AreLaid inside.first (inside.second + 1)) (sym c.in_ok-shadow.ensures.ok)
    (second_shadowed inside.first inside.second inside.buffers c.self.invariant)
