use Rattle.std.proofs.Common.{◌≡◌, ◌++◌, ◌-◌, sym, ap, subst, length, length-append, arith, IfSome}
use Rattle.xml_tokens.specs.inside.PlainTags.{AreFirst, SpellsPlainTag}
use Rattle.xml_tokens.proofs.AttributeLemmas.{after_byte-same}
use Rattle.xml_tokens.proofs.SimpleLemmas.{name-utf8}
use Rattle.xml_tokens.proofs.PlainTagLemmas.{tag_bytes, tag-begins, tag-spelled}
use Rattle.xml_tokens.proofs.plain_tag.plain_tag.Goals as goal

pub text_from_spare-requires : goal.text_from_spare-requires
text_from_spare-requires c = name-utf8 c.in-Some-bare_named.name.now c.in-Some-bare_named.ensures.0

pub returns : goal.returns
returns c =
    let bytes = c.args.bytes.now in
    let inside = c.in-Some.inside.now in
    let name = c.in-Some-bare_named.name.now in
    let behind = c.in-Some-bare_named.behind.now in
    let attrs = c.in-Some-2.attrs in
    let rest = c.in-Some-2.rest.now in
    let empty = c.in-Some-plain_end.empty in
    let more = c.in-Some-plain_end.rest.now in
    let found = subst (λ o. IfSome o (λ given. AreFirst given.0 given.1.now behind)) c.in-Some-2.is c.in_ok-attrs.ensures in
    let front = found.0 in
    let whole : bytes ≡ tag_bytes name front empty ++ more =
    tag-begins name front empty inside behind rest more bytes (after_byte-same 60 bytes inside (sym c.in-Some.ensures)) c.in-Some-bare_named.ensures.1 found.2 c.in-Some-plain_end.ensures in
    let len : length bytes - length more ≡ length (tag_bytes name front empty) = omega (arith, ap length whole, length-append (tag_bytes name front empty) more) in (
      tag_bytes name front empty,
      more,
      subst (λ l. SpellsPlainTag (record { name = l; attrs = attrs; empty = empty; len = length bytes - length more }) (tag_bytes name front empty)) (sym c.in_ok-name.ensures)
          (tag-spelled name front attrs empty (length bytes - length more) c.in-Some-bare_named.ensures.0 found.1 len),
      whole,
    )
