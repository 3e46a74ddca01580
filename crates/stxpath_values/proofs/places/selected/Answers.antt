use Rattle.std.proofs.Common.{◌≡◌, ◌+◌, pos, Bool, not, ◌&&◌, sym, ap, ◌∙◌}
use Rattle.std.specs.Prelude.{nat_le, nat_lt}
use Rattle.std.specs.Int.{w64}
use Rattle.std.proofs.Math.Facts.{to_z-of_z}
use Rattle.stxpath_values.specs.Places.{is_before, is_before_end}
use Rattle.stxpath_values.proofs.PlacesLemmas.{between, le_not_lt}
use Rattle.stxpath_values.proofs.places.selected.Goals as goal

pub returns-clause-within : goal.returns-clause-within
returns-clause-within c = λ i l.
    let from = c.index_of_start-from.result in
    let to = c.index_of_end-to.result in
    let same = to_z-of_z {w = w64} {z = c.args.start} c.ranges.start in
    let first : nat_lt i from ≡ is_before c.args.start i = c.index_of_start-from.ensures.below i l ∙ ap (λ z. is_before z i) same in
    let last : nat_lt i to ≡ is_before_end c.args.start c.args.len (pos (i + 1)) =
    c.index_of_end-to.ensures.below i l ∙ ap (λ z. is_before_end z c.args.len (pos (i + 1))) same in
    ap (λ (b : Bool). b && is_before_end c.args.start c.args.len (pos (i + 1))) (le_not_lt c.args.start (pos (i + 1)) ∙ ap not (sym first))
    ∙ ap (λ (b : Bool). not (nat_lt i from) && b) (sym last)
    ∙ sym (between from to i) ∙ ap (λ n. nat_le from i && nat_lt i n) (sym c.max.ensures)
