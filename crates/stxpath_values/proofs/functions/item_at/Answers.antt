use Rattle.std.proofs.Common.{◌≡◌, ◌+◌, ◌<◌, pos, Some, Ok, length, sym, ap, ◌∙◌, arith, rules}
use Rattle.std.specs.Int.{w64}
use Rattle.std.proofs.Math.Facts.{to_z-of_z}
use Rattle.stxpath_values.specs.Conversion.{as_whole}
use Rattle.stxpath_values.specs.Lent.{atoms_of, sequence_of}
use Rattle.stxpath_values.specs.Places.{is_within}
use Rattle.stxpath_values.proofs.PlacesLemmas.{at_place}
use Rattle.stxpath_values.proofs.functions.item_at.Goals as goal

pub returns : goal.returns
returns c =
    let n = c.in_ok-n.n in
    let b : Ok n ≡ as_whole (atoms_of c.args.n) = c.in_ok-n.ensures in
    let xs = sequence_of c.args.items.now in
    let size : c.len.result ≡ length xs = c.len.ensures.value ∙ ap length c.lent.ensures in
    let e = at_place n c.selected-bounds.result.from c.selected-bounds.result.to xs (λ i l.
    let short : i < c.len.result = omega (arith, size) in
    ap (λ z. is_within z (Some (pos 1)) (pos (i + 1))) (sym (to_z-of_z {w = w64} {z = n} (search rules))) ∙ c.selected-bounds.ensures.within i short) in
    rw (← b, e) (ap (λ l. Ok l) (sym c.in_ok-item.ensures))
