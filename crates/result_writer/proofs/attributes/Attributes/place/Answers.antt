use Rattle.std.proofs.Common.{◌≡◌, ◌<◌, ap, sym, ◌∙◌, take, false, subst, get_or, length}
use Rattle.std.specs.List.{list_any}
use Rattle.result_writer.specs.Target.{same_name}
use Rattle.result_writer.proofs.Attributed.{first-at, settled-behind}
use Rattle.result_writer.proofs.attributes.Attributes.place.Goals as goal

pub returns-then-at-eq-FEW : goal.returns-then-at-eq-FEW
returns-then-at-eq-FEW c =
    let slice : c.as_slice-attr-items.result.now ≡ c.args.self.now = c.as_slice-attr-items.ensures ∙ c.self.view_is in
    let none : list_any (λ a. same_name a.name c.args.name.now) (take 16 c.args.self.now) ≡ false =
    ap (λ l. list_any (λ a. same_name a.name c.args.name.now) (take 16 l)) (sym slice)
    ∙ ap (λ n. list_any (λ a. same_name a.name c.args.name.now) (take n c.as_slice-attr-items.result.now)) (sym c.if-at-eq-FEW.true) ∙ c.loop-at.invariant in
    settled-behind c.args.name.now c.args.self.now c.place_behind.result none c.place_behind.ensures

pub returns-then-same_name : goal.returns-then-same_name
returns-then-same_name c =
    let slice : c.as_slice-attr-items.result.now ≡ c.args.self.now = c.as_slice-attr-items.ensures ∙ c.self.view_is in
    first-at c.args.name.now c.args.self.now c.loop-at.at c.attr-item.result
    (subst (λ l. c.loop-at.at < length l) slice c.loop-at-test.true) (c.attr-item.is ∙ ap (λ l. get_or l c.loop-at.at c.attr-item.result) slice)
    (ap (λ l. list_any (λ a. same_name a.name c.args.name.now) (take c.loop-at.at l)) (sym slice) ∙ c.loop-at.invariant) (sym c.same_name.ensures ∙ c.if-same_name.true)
