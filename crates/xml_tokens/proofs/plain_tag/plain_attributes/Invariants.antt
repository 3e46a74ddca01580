use Rattle.std.proofs.Common.{length}
use Rattle.xml_tokens.specs.inside.PlainTags.{AreFirst}
use Rattle.xml_tokens.proofs.plain_tag.plain_attributes.Given as goal

-- those so far are read
abbrev pub invariant-more_attrs : goal.invariant-more_attrs
invariant-more_attrs l = AreFirst l.attrs l.rest l.fn.bytes

abbrev pub decreases-more_attrs : goal.decreases-more_attrs
decreases-more_attrs l = length l.rest
