use Rattle.std.proofs.Common.{◌≡◌, ◌+◌, ◌-◌, ◌≤◌, pos, length, option_map, take, drop, Ok, refl, sym, ap, ◌∙◌, arith, rules}
use Rattle.std.specs.Int.{w64}
use Rattle.std.specs.Str.{chars, IsUtf8}
use Rattle.std.proofs.Math.Facts.{to_z-of_z}
use Rattle.std.proofs.lemmas.Str.{length-le-encodes, encodes-chars}
use Rattle.stxpath_values.specs.Conversion.{as_text, as_whole}
use Rattle.stxpath_values.specs.Functions.{text_value}
use Rattle.stxpath_values.specs.Lent.{atoms_of}
use Rattle.stxpath_values.specs.Places.{at_places, is_within}
use Rattle.stxpath_values.proofs.OutcomeLemmas.{whole_or_none_is}
use Rattle.stxpath_values.proofs.PlacesLemmas.{at_places_between}
use Rattle.stxpath_values.proofs.functions.substring.Goals as goal

pub returns : goal.returns
returns c =
    let text = c.in_ok-text.text.now in
    let start = c.in_ok-start.start in
    let len = c.in_ok-len.len in
    let from = c.selected-bounds.result.from in
    let to = c.selected-bounds.result.to in
    let a : Ok (chars text) ≡ as_text (atoms_of c.args.text) = c.in_ok-text.ensures in
    let b : Ok start ≡ as_whole (atoms_of c.args.start) = c.in_ok-start.ensures in
    let d = whole_or_none_is (option_map atoms_of c.args.len) len (λ n. text_value (at_places (is_within start n) (chars text))) c.in_ok-len.ensures in
    let utf8 : IsUtf8 text = search rules in
    let short : length (chars text) ≤ length text = omega (arith, length-le-encodes (chars text), ap length (encodes-chars text utf8)) in
    let part : at_places (is_within start len) (chars text) ≡ take (to - from) (drop from (chars text)) =
    at_places_between (is_within start len) from to (length text) (chars text) short
    (λ i l. ap (λ z. is_within z len (pos (i + 1))) (sym (to_z-of_z {w = w64} {z = start} (search rules))) ∙ c.selected-bounds.ensures.within i l) in
    let f = part ∙ sym c.in_ok-part.ensures in
    rw (← a, ← b, d, f) refl
