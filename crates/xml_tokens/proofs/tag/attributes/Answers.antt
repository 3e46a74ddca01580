use Rattle.std.proofs.Common.{◌≡◌, ◌++◌, sym, ap, ◌∙◌, subst, length, suc, [], ◌∷◌, Some, None, Ok, Err, arith, ◌<◌, length-drop, IsUtf8}
use Rattle.std.specs.Option.{option_map}
use Rattle.std.specs.List.{prefix_len}
use Rattle.std.proofs.lemmas.List.{append-nil}
use Rattle.stx_base.specs.Character.{is_space}
use Rattle.xml_tokens.specs.Tags.{attributes, attribute, after_space, tag_end, attrs_said, attr_said}
use Rattle.xml_tokens.specs.inside.Spans.{IsRead}
use Rattle.xml_tokens.proofs.AttributeLemmas.{before, attributes-end, attributes-joined, attributes-bad, attributes-next, attribute-shorter, attribute-utf8, after_space-utf8, before-first}
use Rattle.xml_tokens.proofs.SaidLemmas.{read-ok, read-err}
use Rattle.xml_tokens.proofs.tag.attributes.Goals as goal

pub returns-in-Some : goal.returns-in-Some
returns-in-Some c =
    let rest = c.more_attrs.rest.now in
    let so_far = c.more_attrs.invariant.written in
    let e : tag_end (after_space rest) ≡ Some c.in-Some.empty = ap tag_end (sym c.after_space-next.ensures) ∙ sym c.in-Some.ensures in
    (so_far.0, so_far.1 ∙ (ap (option_map (before so_far.0)) (attributes-end (length rest) rest c.in-Some.empty e) ∙ ap (λ l. Some (l, c.in-Some.empty)) (append-nil so_far.0)), so_far.2)

pub returns-then-next-rest : goal.returns-then-next-rest
returns-then-next-rest c =
    let rest = c.more_attrs.rest.now in
    let so_far = c.more_attrs.invariant.written in
    let n : tag_end (after_space rest) ≡ None = ap tag_end (sym c.after_space-next.ensures) ∙ sym c.in_default.ensures in
    let e : length (after_space rest) ≡ length rest = ap length (sym c.after_space-next.ensures) ∙ c.if-next-rest.true in
    so_far.1 ∙ ap (option_map (before so_far.0)) (attributes-joined (length rest) rest n e)

pub attribute-requires : goal.attribute-requires
attribute-requires c = subst IsUtf8 (sym c.after_space-next.ensures) (after_space-utf8 c.more_attrs.rest.now c.more_attrs.invariant.utf8)

pub returns-in_default-attribute : goal.returns-in_default-attribute
returns-in_default-attribute c =
    let rest = c.more_attrs.rest.now in
    let so_far = c.more_attrs.invariant.written in
    let n : tag_end (after_space rest) ≡ None = ap tag_end (sym c.after_space-next.ensures) ∙ sym c.in_default.ensures in
    let ne = λ (e : length (after_space rest) ≡ length rest). c.if-next-rest.false (ap length c.after_space-next.ensures ∙ e) in
    let a : attribute (after_space rest) ≡ None = ap attribute (sym c.after_space-next.ensures) ∙ sym c.in_default-attribute.ensures in
    so_far.1 ∙ ap (option_map (before so_far.0)) (attributes-bad rest n ne a)

pub attr_of-requires-clause-name : goal.attr_of-requires-clause-name
attr_of-requires-clause-name c =
    let a = ap attribute (sym c.after_space-next.ensures) ∙ sym c.in-Some-attribute.ensures in
    (attribute-utf8 (after_space c.more_attrs.rest.now) c.in-Some-attribute.name.now c.in-Some-attribute.value.now c.in-Some-attribute.more.now a
    (after_space-utf8 c.more_attrs.rest.now c.more_attrs.invariant.utf8)).0

pub attr_of-requires-clause-value : goal.attr_of-requires-clause-value
attr_of-requires-clause-value c =
    let a = ap attribute (sym c.after_space-next.ensures) ∙ sym c.in-Some-attribute.ensures in
    (attribute-utf8 (after_space c.more_attrs.rest.now) c.in-Some-attribute.name.now c.in-Some-attribute.value.now c.in-Some-attribute.more.now a
    (after_space-utf8 c.more_attrs.rest.now c.more_attrs.invariant.utf8)).1

pub more_attrs-smaller-in_ok-push-in-Ok : goal.more_attrs-smaller-in_ok-push-in-Ok
more_attrs-smaller-in_ok-push-in-Ok c =
    let rest = c.more_attrs.rest.now in
    let more = c.in-Some-attribute.more.now in
    let a = ap attribute (sym c.after_space-next.ensures) ∙ sym c.in-Some-attribute.ensures in
    let shorter = attribute-shorter (after_space rest) (c.in-Some-attribute.name.now, c.in-Some-attribute.value.now, more) a in
    let less : length more < length rest = omega (arith, shorter, length-drop (prefix_len is_space rest) rest) in
    less

pub more_attrs-preserved-in_ok-push-in-Ok : goal.more_attrs-preserved-in_ok-push-in-Ok
more_attrs-preserved-in_ok-push-in-Ok c =
    let rest = c.more_attrs.rest.now in
    let so_far = c.more_attrs.invariant.written in
    let name = c.in-Some-attribute.name.now in
    let value = c.in-Some-attribute.value.now in
    let more = c.in-Some-attribute.more.now in
    let a = ap attribute (sym c.after_space-next.ensures) ∙ sym c.in-Some-attribute.ensures in
    let n : tag_end (after_space rest) ≡ None = ap tag_end (sym c.after_space-next.ensures) ∙ sym c.in_default.ensures in
    let ne = λ (e : length (after_space rest) ≡ length rest). c.if-next-rest.false (ap length c.after_space-next.ensures ∙ e) in
    let attr : attr_said (name, value) ≡ Ok _ = sym c.in_ok-attr.ensures ∙ c.in-Ok.is in
    record {
      utf8 = (attribute-utf8 (after_space rest) name value more a (after_space-utf8 rest c.more_attrs.invariant.utf8)).2;
      written = (
        so_far.0 ++ (name, value) ∷ [],
        so_far.1 ∙ (ap (option_map (before so_far.0)) (attributes-next rest name value more n ne a) ∙ before-first so_far.0 (name, value) (attributes (suc (length more)) more)),
        read-ok c.more_attrs.attrs _ c.more_attrs.fault so_far.0 (name, value) _ so_far.2 attr c.in_ok-push-in-Ok.ensures.ok,
      );
    }

pub more_attrs-smaller : goal.more_attrs-smaller
more_attrs-smaller c =
    let rest = c.more_attrs.rest.now in
    let more = c.in-Some-attribute.more.now in
    let a = ap attribute (sym c.after_space-next.ensures) ∙ sym c.in-Some-attribute.ensures in
    let shorter = attribute-shorter (after_space rest) (c.in-Some-attribute.name.now, c.in-Some-attribute.value.now, more) a in
    let less : length more < length rest = omega (arith, shorter, length-drop (prefix_len is_space rest) rest) in
    less

pub more_attrs-preserved : goal.more_attrs-preserved
more_attrs-preserved c =
    let rest = c.more_attrs.rest.now in
    let so_far = c.more_attrs.invariant.written in
    let name = c.in-Some-attribute.name.now in
    let value = c.in-Some-attribute.value.now in
    let more = c.in-Some-attribute.more.now in
    let a = ap attribute (sym c.after_space-next.ensures) ∙ sym c.in-Some-attribute.ensures in
    let n : tag_end (after_space rest) ≡ None = ap tag_end (sym c.after_space-next.ensures) ∙ sym c.in_default.ensures in
    let ne = λ (e : length (after_space rest) ≡ length rest). c.if-next-rest.false (ap length c.after_space-next.ensures ∙ e) in
    let bad : attr_said (name, value) ≡ Err _ = sym c.in_ok-attr.ensures ∙ c.in-Err.is in
    record {
      utf8 = (attribute-utf8 (after_space rest) name value more a (after_space-utf8 rest c.more_attrs.invariant.utf8)).2;
      written = (
        so_far.0 ++ (name, value) ∷ [],
        so_far.1 ∙ (ap (option_map (before so_far.0)) (attributes-next rest name value more n ne a) ∙ before-first so_far.0 (name, value) (attributes (suc (length more)) more)),
        subst (λ f. IsRead c.more_attrs.attrs (Some f) (attrs_said (so_far.0 ++ (name, value) ∷ []))) (sym c.worse.ensures) (read-err c.more_attrs.attrs c.more_attrs.fault so_far.0 (name, value) _ so_far.2 bad),
      );
    }
