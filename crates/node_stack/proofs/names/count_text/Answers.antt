use Rattle.std.proofs.Common.{◌≡◌, ◌∙◌, ap, sym, subst, encode_utf8_all, string_bytes, refl, Some, None}
use Rattle.std.specs.BTreeMap.{get_by_text}
use Rattle.std.specs.Option.{option_copied_mut}
use Rattle.std.proofs.lemmas.Result.{IfOk-at_ok}
use Rattle.node_stack.specs.Times.{CountsText}
use Rattle.node_stack.proofs.Counting.{counts_again, counts_first}
use Rattle.node_stack.proofs.names.count_text.Goals as goal

pub returns-in-Some-clause-ok : goal.returns-in-Some-clause-ok
returns-in-Some-clause-ok c =
    let held = c.get_mut.follows.holds c.saturating_add.result in
    let found : get_by_text c.args.counts.now c.as_str.result.now ≡ Some c.in-Some.again.now = sym c.get_mut.ensures.value ∙ ap option_copied_mut c.in-Some.is in
    counts_again _ _ c.as_str.result.now _ c.in-Some.again.now _ c.as_str.ensures.bytes found c.saturating_add.ensures (held.3 (rw found refl)) held.2

pub returns-clause-ok : goal.returns-clause-ok
returns-clause-ok c =
    let key_is : string_bytes c.in_ok-text.text ≡ encode_utf8_all c.args.text.now = IfOk-at_ok (λ s. string_bytes s ≡ c.as_str-2.result.now) c.in_ok-text.was c.from_str.ensures.ok ∙ c.as_str-2.ensures.bytes in
    let none = c.get_mut.follows.holds-at-none in
    let absent : get_by_text c.args.counts.now (encode_utf8_all c.args.text.now) ≡ None =
    ap (get_by_text c.args.counts.now) (sym c.as_str.ensures.bytes) ∙ sym c.get_mut.ensures.value ∙ ap option_copied_mut c.in_default.is in
    subst (λ m. CountsText m c.insert.new.self (encode_utf8_all c.args.text.now)) none
    (counts_first c.get_mut.follows.lender-at-none _ c.in_ok-text.text _ key_is (ap (λ m. get_by_text m (encode_utf8_all c.args.text.now)) none ∙ absent)
    c.in_ok-insert.ensures.updates _ c.in_ok-insert.ensures.old c.in_ok-insert.ensures.len)
