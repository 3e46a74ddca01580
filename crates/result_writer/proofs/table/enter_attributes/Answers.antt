use Rattle.std.proofs.Common.{◌≡◌, ◌+◌, ◌<◌, ◌++◌, ◌∷◌, [], length, get_or, sym, ap, ◌∙◌, drop, append_assoc, subst}
use Rattle.std.specs.Prelude.{if◌then◌else◌}
use Rattle.result_writer.specs.Allowed.{is_empty}
use Rattle.result_writer.specs.Table.{HasPassed, attribute_prefix, entered, prefixes, with_attributes, with_name}
use Rattle.result_writer.proofs.Tabling.{passed-with_name, prefixes-step, with_attributes-step}
use Rattle.result_writer.proofs.table.enter_attributes.Goals as goal

pub loop-attr-preserved : goal.loop-attr-preserved
loop-attr-preserved c =
    let table = c.loop-attr.table in
    let attrs = c.args.attrs.now in
    let i = c.loop-attr.attr-index in
    let a = c.attr-item.result in
    let rest = drop (i + 1) attrs in
    let within : i < length attrs = c.loop-attr-test.true in
    let item : a ≡ get_or attrs i a = c.attr-item.is in
    let prefix = c.in_ok-prefix.ensures.prefix in
    let new : c.enter_bound.new.self ≡ with_name table a.name =
    c.in_ok-enter_bound.ensures ∙ ap (λ p. if is_empty a.name.uri then table else entered table p a.name.uri) prefix in
    let one : c.push.new.self ≡ c.loop-attr.prefixes ++ attribute_prefix table a.name ∷ [] =
    c.in_ok-push.ensures.ok ∙ ap (λ p. c.loop-attr.prefixes ++ p ∷ []) prefix in record {
      table = ap (λ t. with_attributes t rest) new ∙ sym (with_attributes-step table attrs i a within item) ∙ c.loop-attr.invariant.table;
      prefixes = ap (λ l. l ++ prefixes c.enter_bound.new.self rest) one
          ∙ append_assoc c.loop-attr.prefixes _ _
          ∙ ap (λ t. c.loop-attr.prefixes ++ attribute_prefix table a.name ∷ prefixes t rest) new
          ∙ ap (λ l. c.loop-attr.prefixes ++ l) (sym (prefixes-step table attrs i a within item))
          ∙ c.loop-attr.invariant.prefixes;
      passed = subst (λ t. HasPassed t c.attribute_prefix.new.passed) (sym new) (passed-with_name table a.name c.attribute_prefix.new.passed c.attribute_prefix.ensures.passed);
    }
