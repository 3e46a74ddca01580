use Rattle.std.proofs.Common.{Some, refl, sym, ◌∙◌, arith}
use Rattle.template_machine.specs.Finding.{passing}
use Rattle.template_machine.proofs.Copied.{passing_next, passing_not, passing_over, spare_further, start_copied}
use Rattle.template_machine.proofs.Shelved.{same_buffers, stands_on}
use Rattle.template_machine.proofs.putting.Putting.copied_passing.Goals as goal

pub loop-attr-init : goal.loop-attr-init
loop-attr-init c = (same_buffers _ _ refl refl, refl, start_copied c.attrs-copies.result (passing (Some c.args.pattern.now) c.args.attrs.now) c.attrs-copies.ensures.made)

-- an attribute that doesn't pass
pub loop-attr-preserved-then-not-passes_some : goal.loop-attr-preserved-then-not-passes_some
loop-attr-preserved-then-not-passes_some c =
    let inv = c.loop-attr.invariant in (
      inv.0,
      inv.1,
      passing_not c.args.pattern.now c.args.attrs.now c.as_slice-attr-items.result.now c.as_slice-attr-items.ensures c.loop-attr.attr-index c.attr-item.result c.loop-attr-test.true c.attr-item.is
          c.loop-attr.copies inv.2 (sym c.passes_some.ensures ∙ c.if-not-passes_some.true),
    )

pub loop-attr-preserved : goal.loop-attr-preserved
loop-attr-preserved c =
    let inv = c.loop-attr.invariant in (
      stands_on _ _ _ inv.0 c.copied_attr.ensures.same,
      spare_further c.args.self.now c.loop-attr.self c.copied_attr.new.self inv.1 c.copied_attr.ensures.rest,
      passing_next c.args.pattern.now c.args.attrs.now c.as_slice-attr-items.result.now c.as_slice-attr-items.ensures c.loop-attr.attr-index c.attr-item.result c.loop-attr-test.true c.attr-item.is
          c.loop-attr.copies c.push.new.self c.in_ok-copy.copy inv.2 (sym c.passes_some.ensures ∙ c.if-not-passes_some.false) c.in_ok-copy.ensures.copy c.in_ok-push.ensures.ok,
    )

pub returns-in_err-copy-clause-same : goal.returns-in_err-copy-clause-same
returns-in_err-copy-clause-same c = stands_on _ _ _ (same_buffers _ _ refl refl) (stands_on _ _ _ c.loop-attr.invariant.0 c.copied_attr.ensures.same)

pub returns-in_err-push-clause-same : goal.returns-in_err-push-clause-same
returns-in_err-push-clause-same c = stands_on _ _ _ (same_buffers _ _ refl refl) (stands_on _ _ _ c.loop-attr.invariant.0 c.copied_attr.ensures.same)

pub returns-clause-same : goal.returns-clause-same
returns-clause-same c = stands_on _ _ _ (same_buffers _ _ refl refl) c.loop-attr.invariant.0

pub returns-in_err-copy-clause-rest : goal.returns-in_err-copy-clause-rest
returns-in_err-copy-clause-rest c = spare_further c.args.self.now c.loop-attr.self c.copied_attr.new.self c.loop-attr.invariant.1 c.copied_attr.ensures.rest

pub returns-in_err-push-clause-rest : goal.returns-in_err-push-clause-rest
returns-in_err-push-clause-rest c = spare_further c.args.self.now c.loop-attr.self c.copied_attr.new.self c.loop-attr.invariant.1 c.copied_attr.ensures.rest

pub returns-clause-rest : goal.returns-clause-rest
returns-clause-rest c = c.loop-attr.invariant.1

pub returns-clause-copies : goal.returns-clause-copies
returns-clause-copies c =
    passing_over c.args.pattern.now c.args.attrs.now c.as_slice-attr-items.result.now c.loop-attr.copies c.loop-attr.attr-index c.as_slice-attr-items.ensures (omega (arith, c.loop-attr-test.false))
    c.loop-attr.invariant.2
