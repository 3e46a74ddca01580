use Rattle.std.proofs.Common.{rules, refl, subst, sym, ap, ◌∙◌, length, IsAscii}
use Rattle.std.proofs.lemmas.Str.{chars_from_encodes, chars-IsAscii}
use Rattle.xml_events.proofs.place.char_count.Goals as goal

pub returns-then-is_ascii-clause-count : goal.returns-then-is_ascii-clause-count
returns-then-is_ascii-clause-count c =
    ap length (sym (chars-IsAscii c.as_str-text.result.now (subst IsAscii c.as_bytes.ensures.value (c.if-is_ascii.ensures refl))) ∙ c.as_str-text.ensures.chars)

pub returns-else-is_ascii-clause-count : goal.returns-else-is_ascii-clause-count
returns-else-is_ascii-clause-count c = let counted = c.count.ensures in let e = ap length c.as_str-text.ensures.chars in search (rules, chars_from_encodes)
