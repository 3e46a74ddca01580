use Rattle.std.proofs.Common.{◌≡◌, ◌+◌, ◌*◌, [], ◌∷◌, length, ap, subst, ◌∙◌, length-append, arith}
use Rattle.stx_base.specs.Spare.{Gains}
use Rattle.stx_base.proofs.SpareLemmas.{none, both}
use Rattle.stx_base.proofs.spare.Spare.keep_attrs.Goals as goal

pub loop-attr-init : goal.loop-attr-init
loop-attr-init c = (0, omega arith, none c.args.self.now)

pub loop-attr-preserved : goal.loop-attr-preserved
loop-attr-preserved c =
    let taken = c.loop-attr.invariant.0 in
    let one : length c.loop-attr.attrs ≡ length c.pop.new.self + 1 = ap length c.in-Some.ensures ∙ length-append c.pop.new.self (c.in-Some.attr ∷ []) in (
      taken + 1,
      omega (arith, one, c.loop-attr.invariant.1),
      subst (λ n. Gains n 0 c.args.self.now c.keep_attr.new.self) (omega arith) (both (4 * taken) 0 4 0 c.args.self.now c.loop-attr.self c.keep_attr.new.self c.loop-attr.invariant.2 c.keep_attr.ensures.gains),
    )

pub returns-clause-gains : goal.returns-clause-gains
returns-clause-gains c =
    let taken = c.loop-attr.invariant.0 in
    let none_left : length c.loop-attr.attrs ≡ 0 = ap length c.in_default.ensures.0 in
    subst (λ n. Gains n 1 c.args.self.now c.keep_list.new.self) (omega (arith, none_left, c.loop-attr.invariant.1)) (both (4 * taken) 0 0 1 c.args.self.now c.loop-attr.self c.keep_list.new.self c.loop-attr.invariant.2 c.keep_list.ensures.gains)
