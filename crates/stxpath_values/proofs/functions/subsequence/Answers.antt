use Rattle.std.proofs.Common.{◌≡◌, ◌+◌, ◌-◌, pos, length, option_map, take, drop, Ok, sym, ap, ◌∙◌, arith, rules}
use Rattle.std.specs.Int.{w64}
use Rattle.std.proofs.Math.Facts.{to_z-of_z}
use Rattle.stxpath_values.specs.Conversion.{as_whole}
use Rattle.stxpath_values.specs.Functions.{limited_list}
use Rattle.stxpath_values.specs.Lent.{atoms_of, sequence_of}
use Rattle.stxpath_values.specs.Places.{at_places, is_within}
use Rattle.stxpath_values.proofs.OutcomeLemmas.{whole_or_none_is, list_within, list_beyond}
use Rattle.stxpath_values.proofs.PlacesLemmas.{at_places_between, length_between}
use Rattle.stxpath_values.proofs.functions.subsequence.Goals as goal

pub returns-then-bounds-limits : goal.returns-then-bounds-limits
returns-then-bounds-limits c =
    let start = c.in_ok-start.start in
    let len = c.in_ok-len.len in
    let from = c.selected-bounds.result.from in
    let to = c.selected-bounds.result.to in
    let xs = sequence_of c.args.items.now in
    let size : c.len.result ≡ length xs = c.len.ensures.value ∙ ap length c.lent.ensures in
    let b : Ok start ≡ as_whole (atoms_of c.args.start) = c.in_ok-start.ensures in
    let d = whole_or_none_is (option_map atoms_of c.args.len) len (λ n. limited_list c.args.limits.now (at_places (is_within start n) xs)) c.in_ok-len.ensures in
    let part : at_places (is_within start len) xs ≡ take (to - from) (drop from xs) = at_places_between (is_within start len) from to c.len.result xs (omega (arith, size))
    (λ i l. ap (λ z. is_within z len (pos (i + 1))) (sym (to_z-of_z {w = w64} {z = start} (search rules))) ∙ c.selected-bounds.ensures.within i l) in
    let part_size = length_between from to xs (omega (arith, size, c.selected-bounds.ensures.size)) in
    rw (← b, d, part) (list_beyond c.args.limits.now _ (omega (arith, part_size, c.if-bounds-limits.true)))

pub returns : goal.returns
returns c =
    let start = c.in_ok-start.start in
    let len = c.in_ok-len.len in
    let from = c.selected-bounds.result.from in
    let to = c.selected-bounds.result.to in
    let xs = sequence_of c.args.items.now in
    let size : c.len.result ≡ length xs = c.len.ensures.value ∙ ap length c.lent.ensures in
    let b : Ok start ≡ as_whole (atoms_of c.args.start) = c.in_ok-start.ensures in
    let d = whole_or_none_is (option_map atoms_of c.args.len) len (λ n. limited_list c.args.limits.now (at_places (is_within start n) xs)) c.in_ok-len.ensures in
    let part : at_places (is_within start len) xs ≡ take (to - from) (drop from xs) = at_places_between (is_within start len) from to c.len.result xs (omega (arith, size))
    (λ i l. ap (λ z. is_within z len (pos (i + 1))) (sym (to_z-of_z {w = w64} {z = start} (search rules))) ∙ c.selected-bounds.ensures.within i l) in
    let part_size = length_between from to xs (omega (arith, size, c.selected-bounds.ensures.size)) in
    rw (← b, d, part) (list_within c.args.limits.now _ (omega (arith, part_size, c.if-bounds-limits.false)) ∙ ap (λ l. Ok l) (sym c.in_ok-part.ensures))
