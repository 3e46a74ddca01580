use Rattle.std.proofs.Common.{◌≡◌, ◌∷◌, [], ◌++◌, None, length, map, refl, ap, sym, subst, ◌∙◌, append_assoc, append-nil, arith}
use Rattle.std.specs.Vec.Iter.{into_iter_items}
use Rattle.stx_base.specs.declared.name.Attr.{Attr}
use Rattle.result_writer.specs.Nodes.{attribute_part}
use Rattle.result_writer.specs.Target.{IsCause, PutsInTurn, Target, behind, fault, first_fault, left_by}
use Rattle.result_writer.proofs.InTurn.{allowed_more, left_more, none_left, parts_more, refused_with}
use Rattle.result_writer.proofs.writer.Writer.put_each_attribute.Goals as goal

pub loop-attr-preserved : goal.loop-attr-preserved
loop-attr-preserved c =
    let old = c.args.self.now in
    let ys = c.loop-attr.yielded in
    let a : Attr = c.in-Some.attr in
    let p = attribute_part a in
    let inv = c.loop-attr.invariant in
    let before = map attribute_part ys in
    let one_more = parts_more ys (a ∷ []) in (
      ap (first_fault old.limit old.left) one_more
          ∙ allowed_more old.limit old.left before p inv.0 (subst (λ (t : Target). fault t.limit t.left p ≡ None) inv.1 c.in_ok-put_attribute.ensures.taken),
      c.in_ok-put_attribute.ensures.ok ∙ ap (λ (t : Target). behind t p) inv.1
          ∙ ap (λ l. record old { left = l }) (sym (left_more old.left before p) ∙ ap (left_by old.left) (sym one_more)),
      append_assoc ys (a ∷ []) (into_iter_items c.next.new.self) ∙ ap (λ l. ys ++ l) (sym c.in-Some.ensures.steps.0) ∙ inv.2,
      let was = inv.3 in
          let gone = c.in-Some.ensures.steps.1 in
          let short = ap length c.in-Some.ensures.steps.0 in
          omega arith,
    )

pub returns-in_err-put_attribute : goal.returns-in_err-put_attribute
returns-in_err-put_attribute c =
    let old = c.args.self.now in
    let ys = c.loop-attr.yielded in
    let a : Attr = c.in-Some.attr in
    let more = into_iter_items c.next.new.self in
    let e = c.in_err-put_attribute.field-0.0 in
    let inv = c.loop-attr.invariant in
    subst (λ r. PutsInTurn (map attribute_part c.args.attrs) r old c.put_attribute.new.self) (sym (refused_with c.from_residual.result e c.from_residual.ensures.1))
    (record {
      taken = map attribute_part ys;
      rest = attribute_part a ∷ map attribute_part more;
      whole = ap (map attribute_part) (sym (ap (λ l. ys ++ l) (sym c.in-Some.ensures.steps.0) ∙ inv.2)) ∙ parts_more ys (a ∷ more);
      allowed = inv.0;
      left = c.in_err-put_attribute.ensures.err ∙ inv.1;
      all = tt;
      refused = (attribute_part a, (map attribute_part more, (refl, subst (λ (t : Target). IsCause (fault t.limit t.left (attribute_part a)) e) inv.1 c.in_err-put_attribute.ensures.fault)));
    })

pub returns : goal.returns
returns c =
    let ys = c.loop-attr.yielded in
    let inv = c.loop-attr.invariant in
    let whole : ys ≡ c.args.attrs = sym (append-nil ys) ∙ ap (λ l. ys ++ l) (sym (none_left (into_iter_items c.loop-attr.attr-iterator) (sym inv.3 ∙ c.in-None.ensures.steps.0))) ∙ inv.2 in
    record {
      taken = map attribute_part ys;
      rest = [];
      whole = ap (map attribute_part) (sym whole) ∙ sym (append-nil (map attribute_part ys));
      allowed = inv.0;
      left = inv.1;
      all = refl;
      refused = tt;
    }
