use Rattle.std.proofs.Common.{◌≡◌, ℕ, List, length, suc, IsUtf8}
use Rattle.std.specs.Option.{option_map}
use Rattle.xml_tokens.specs.Tags.{attributes, attrs_said}
use Rattle.xml_tokens.specs.inside.Spans.{IsRead}
use Rattle.xml_tokens.proofs.AttributeLemmas.{before}
use Rattle.xml_tokens.proofs.tag.attributes.Given as goal

-- those so far as they are written, which are read so, and those that follow
abbrev pub invariant-more_attrs : goal.invariant-more_attrs
invariant-more_attrs l = record {
  utf8 : IsUtf8 l.rest;
  written : (written : List (List ℕ × List ℕ)) × (attributes (suc (length l.fn.bytes)) l.fn.bytes ≡ option_map (before written) (attributes (suc (length l.rest)) l.rest))
      × IsRead l.attrs l.fault (attrs_said written);
}

abbrev pub decreases-more_attrs : goal.decreases-more_attrs
decreases-more_attrs l = length l.rest
