use Rattle.std.proofs.Common.{◌∙◌, sym, ap, refl, ◌++◌, true, false, not}
use Rattle.std.specs.Prelude.{is_some}
use Rattle.std.specs.Str.{chars}
use Rattle.std.specs.Vec.Iter.{into_iter_items}
use Rattle.xml_names.specs.Tag as spec
use Rattle.xml_names.specs.Tag.{attribute, declared_prefix}
use Rattle.xml_names.proofs.Lists.{filter_map-next_some, filter_map-next_none}
use Rattle.xml_names.proofs.Tags.{attribute-some, attribute-none, is-declared}
use Rattle.xml_names.proofs.scopes.Scopes.attributes.Goals as goal

pub loop-attr-preserved : goal.loop-attr-preserved
loop-attr-preserved c =
    let path = c.args.self.now in
    let made = c.loop-attr.made in
    let name = c.as_str.ensures.chars in
    let declares = is-declared c.declared_prefix.result (chars c.as_str.result.now) c.declared_prefix.ensures true (c.is_none.ensures ∙ ap not c.if-is_none.false) in
    filter_map-next_none (attribute path) made c.in-Some.attr (into_iter_items c.next.new.self)
    (attribute-none c.in-Some.attr (chars c.as_str.result.now) name path declares)
    ∙ ap (λ l. made ++ spec.attributes path l) (sym c.in-Some.ensures.steps.0)
    ∙ c.loop-attr.invariant

pub loop-attr-preserved-in-Continue-branch-2 : goal.loop-attr-preserved-in-Continue-branch-2
loop-attr-preserved-in-Continue-branch-2 c =
    let path = c.args.self.now in
    let made = c.loop-attr.made in
    let a = c.in-Some.attr in
    let rest = into_iter_items c.next.new.self in
    let name = c.as_str.ensures.chars in
    let plain = is-declared c.declared_prefix.result (chars c.as_str.result.now) c.declared_prefix.ensures false (c.is_none.ensures ∙ ap not c.if-is_none.true) in
    let p = attribute-some a a.name refl path c.in_ok-name.name a.value (ap (λ n. is_some (declared_prefix n)) (sym name) ∙ plain) c.in_ok-name.ensures refl in
    ap (λ l. l ++ spec.attributes path rest) c.in_ok-push.ensures.ok
    ∙ filter_map-next_some (attribute path) made a rest (record { name = c.in_ok-name.name; value = a.value }) p
    ∙ ap (λ l. made ++ spec.attributes path l) (sym c.in-Some.ensures.steps.0)
    ∙ c.loop-attr.invariant
