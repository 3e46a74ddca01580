use Rattle.std.proofs.Common.{◌≡◌, ◌∷◌, [], ◌++◌, Err, length, map, refl, ap, sym, subst, ◌∙◌, append_assoc, append-nil, arith}
use Rattle.std.specs.Vec.Iter.{into_iter_items}
use Rattle.stx_base.specs.declared.name.Attr.{Attr}
use Rattle.template_machine.specs.Putting.{attribute_part, puts}
use Rattle.template_machine.specs.Saying.{GoesAs, placed}
use Rattle.template_machine.proofs.InTurn.{KeepsAll, keeps_more, keeps_stopped, none_left, parts_more}
use Rattle.template_machine.proofs.Saying.{stops_with}
use Rattle.template_machine.proofs.Shelved.{stands_on, target_still}
use Rattle.template_machine.proofs.putting.Putting.keep_attributes.Goals as goal

pub loop-attr-preserved : goal.loop-attr-preserved
loop-attr-preserved c =
    let old = c.args.self.now in
    let mid = c.loop-attr.self in
    let ys = c.loop-attr.yielded in
    let a : Attr = c.in-Some.attr in
    let inv = c.loop-attr.invariant in (
      stands_on _ _ _ inv.0 c.keep.ensures.stands,
      subst (λ ps. KeepsAll c.args.at ps old c.keep.new.self) (sym (parts_more ys (a ∷ [])))
          (keeps_more c.args.buffer c.args.at (map attribute_part ys) (attribute_part a) old mid c.keep.new.self inv.1 (target_still old mid inv.0 ∙ c.requires.target) (tt {0}) c.in_ok-keep.ensures.keeps),
      append_assoc ys (a ∷ []) (into_iter_items c.next.new.self) ∙ ap (λ l. ys ++ l) (sym c.in-Some.ensures.steps.0) ∙ inv.2,
      let was = inv.3 in
          let gone = c.in-Some.ensures.steps.1 in
          let short = ap length c.in-Some.ensures.steps.0 in
          omega arith,
    )

pub returns-in_err-keep-clause-stands : goal.returns-in_err-keep-clause-stands
returns-in_err-keep-clause-stands c = stands_on _ _ _ c.loop-attr.invariant.0 c.keep.ensures.stands

pub returns-in_err-keep-clause-keeps : goal.returns-in_err-keep-clause-keeps
returns-in_err-keep-clause-keeps c = λ given left st go.
    let old = c.args.self.now in
    let mid = c.loop-attr.self in
    let new = c.keep.new.self in
    let ys = c.loop-attr.yielded in
    let a : Attr = c.in-Some.attr in
    let more = into_iter_items c.next.new.self in
    let inv = c.loop-attr.invariant in
    let e = c.in_err-keep.field-0.0 in
    let whole : map attribute_part ys ++ attribute_part a ∷ map attribute_part more ≡ map attribute_part c.args.attrs =
    sym (ap (map attribute_part) (sym (ap (λ l. ys ++ l) (sym c.in-Some.ensures.steps.0) ∙ inv.2)) ∙ parts_more ys (a ∷ more)) in
    subst (λ r. GoesAs {A = Unit {0}} r (puts given c.args.at (map attribute_part c.args.attrs) (placed old left st) go) [] (go (placed new left st))) (sym (stops_with c.from_residual.result e c.from_residual.ensures.1))
    (subst (λ ps. GoesAs {A = Unit {0}} (Err e) (puts given c.args.at ps (placed old left st) go) [] (go (placed new left st))) whole
    (keeps_stopped c.args.buffer c.args.at (map attribute_part ys) (attribute_part a) old mid new inv.1 (target_still old mid inv.0 ∙ c.requires.target) (Unit {0}) (Unit {0}) (map attribute_part more) e c.in_err-keep.ensures.keeps given left st go))

pub returns-clause-stands : goal.returns-clause-stands
returns-clause-stands c = c.loop-attr.invariant.0

pub returns-clause-keeps : goal.returns-clause-keeps
returns-clause-keeps c = λ given left st go.
    let ys = c.loop-attr.yielded in
    let inv = c.loop-attr.invariant in
    let whole : ys ≡ c.args.attrs = sym (append-nil ys) ∙ ap (λ l. ys ++ l) (sym (none_left (into_iter_items c.loop-attr.attr-iterator) (sym inv.3 ∙ c.in-None.ensures.steps.0))) ∙ inv.2 in
    subst (λ ps. puts given c.args.at ps (placed c.args.self.now left st) go ≡ go (placed c.loop-attr.self left st)) (ap (map attribute_part) whole) (inv.1 given left st go)
