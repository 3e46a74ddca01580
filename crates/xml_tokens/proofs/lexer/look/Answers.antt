use Rattle.std.proofs.Common.{◌≡◌, ap, ◌∙◌, ◌==◌, drop, length, refl, subst, IfSome}
use Rattle.xml_tokens.specs.Reader.{coming, is_last, seen, mark_len, mark_len_of}
use Rattle.xml_tokens.specs.inside.Look.{reader}
use Rattle.xml_tokens.specs.inside.PlainTags.{BeginsWithTag}
use Rattle.xml_tokens.proofs.WholeLemmas.{whole-within}
use Rattle.xml_tokens.proofs.ReaderLemmas.{look-whole, look-over, look-need}
use Rattle.xml_tokens.proofs.PlainTagLemmas.{tag-front, tag-shape}
use Rattle.xml_tokens.proofs.SimpleLemmas.{before-front, text-whole}
use Rattle.xml_tokens.proofs.lexer.look.Goals as goal

pub head-requires : goal.head-requires
head-requires c = (whole-within c.is_last-last.result c.tail-bytes.result.now c.in-Whole.len c.in-Whole.ensures).1

pub returns-in-Some : goal.returns-in-Some
returns-in-Some c =
    let r = reader c.args.limits.now c.args.unread.now c.args.offset c.args.ended in
    let e_mark : c.mark_len-mark.result ≡ mark_len r = c.mark_len-mark.ensures.value ∙ ap (mark_len_of c.args.offset) c.front-seen.ensures in
    let e_bytes : c.tail-bytes.result.now ≡ coming r = c.tail-bytes.ensures ∙ (ap (drop c.mark_len-mark.result) c.front-seen.ensures ∙ ap (λ n. drop n (seen r)) e_mark) in
    let bytes = c.tail-bytes.result.now in
    let text = c.in-Some.text.now in
    let front = before-front 60 text bytes c.in-Some.ensures.1 in
    look-whole c.args.limits.now c.args.unread.now c.args.offset c.args.ended (is_last r) c.mark_len-mark.result bytes refl e_mark e_bytes
    (length text) text c.at_text.result front.0 front.1 (text-whole text c.in-Some.ensures.0 bytes c.in-Some.ensures.1 (is_last r)) (c.at_text.ensures (c.args.offset == 0))

pub returns-in-Ok-Some : goal.returns-in-Ok-Some
returns-in-Ok-Some c =
    let r = reader c.args.limits.now c.args.unread.now c.args.offset c.args.ended in
    let e_mark : c.mark_len-mark.result ≡ mark_len r = c.mark_len-mark.ensures.value ∙ ap (mark_len_of c.args.offset) c.front-seen.ensures in
    let e_bytes : c.tail-bytes.result.now ≡ coming r = c.tail-bytes.ensures ∙ (ap (drop c.mark_len-mark.result) c.front-seen.ensures ∙ ap (λ n. drop n (seen r)) e_mark) in
    let bytes = c.tail-bytes.result.now in
    let tag = c.in-Ok-Some.tag in
    let found = subst (λ o. IfSome o (λ tag. BeginsWithTag tag bytes)) c.in-Ok-Some.field-0-is c.in-Ok-Some.ensures in
    let front = tag-front tag found.0 found.1 bytes found.2 found.3 in
    look-whole c.args.limits.now c.args.unread.now c.args.offset c.args.ended (is_last r) c.mark_len-mark.result bytes refl e_mark e_bytes
    (length found.0) found.0 c.at_tag.result front.0 front.1 (tag-shape tag found.0 found.1 bytes found.2 found.3 (is_last r)) (c.at_tag.ensures (c.args.offset == 0) found.0 found.2)

pub returns-in-Whole : goal.returns-in-Whole
returns-in-Whole c =
    let r = reader c.args.limits.now c.args.unread.now c.args.offset c.args.ended in
    let e_mark : c.mark_len-mark.result ≡ mark_len r = c.mark_len-mark.ensures.value ∙ ap (mark_len_of c.args.offset) c.front-seen.ensures in
    let e_bytes : c.tail-bytes.result.now ≡ coming r = c.tail-bytes.ensures ∙ (ap (drop c.mark_len-mark.result) c.front-seen.ensures ∙ ap (λ n. drop n (seen r)) e_mark) in
    look-whole c.args.limits.now c.args.unread.now c.args.offset c.args.ended c.is_last-last.result c.mark_len-mark.result c.tail-bytes.result.now c.is_last-last.ensures e_mark e_bytes
    c.in-Whole.len c.head.result.now c.at_shape.result (whole-within c.is_last-last.result c.tail-bytes.result.now c.in-Whole.len c.in-Whole.ensures).1 c.head.ensures c.in-Whole.ensures c.at_shape.ensures

pub returns-in-Some-at_rest : goal.returns-in-Some-at_rest
returns-in-Some-at_rest c =
    let r = reader c.args.limits.now c.args.unread.now c.args.offset c.args.ended in
    let e_mark : c.mark_len-mark.result ≡ mark_len r = c.mark_len-mark.ensures.value ∙ ap (mark_len_of c.args.offset) c.front-seen.ensures in
    let e_bytes : c.tail-bytes.result.now ≡ coming r = c.tail-bytes.ensures ∙ (ap (drop c.mark_len-mark.result) c.front-seen.ensures ∙ ap (λ n. drop n (seen r)) e_mark) in
    look-over c.args.limits.now c.args.unread.now c.args.offset c.args.ended c.is_last-last.result c.mark_len-mark.result c.tail-bytes.result.now c.is_last-last.ensures e_mark e_bytes
    c.is_open-undecided.result c.is_open-undecided.ensures c.in-Some-at_rest.ending c.in-Unended.ensures.0 c.in-Some-at_rest.ensures

pub returns-in-None : goal.returns-in-None
returns-in-None c =
    let r = reader c.args.limits.now c.args.unread.now c.args.offset c.args.ended in
    let e_mark : c.mark_len-mark.result ≡ mark_len r = c.mark_len-mark.ensures.value ∙ ap (mark_len_of c.args.offset) c.front-seen.ensures in
    let e_bytes : c.tail-bytes.result.now ≡ coming r = c.tail-bytes.ensures ∙ (ap (drop c.mark_len-mark.result) c.front-seen.ensures ∙ ap (λ n. drop n (seen r)) e_mark) in
    look-need c.args.limits.now c.args.unread.now c.args.offset c.args.ended c.is_last-last.result c.mark_len-mark.result c.tail-bytes.result.now c.is_last-last.ensures e_mark e_bytes
    c.is_open-undecided.result c.is_open-undecided.ensures c.in-Unended.scan c.next_scan.result c.in-Unended.ensures.0 c.in-Unended.ensures.1 c.in-None.ensures c.next_scan.ensures
