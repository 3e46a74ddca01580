use Rattle.std.proofs.Common.{◌≡◌, refl, length, sym, ◌∙◌, arith}
use Rattle.xml_tokens.specs.inside.Resume.{ending_test}
use Rattle.xml_tokens.proofs.ScanLemmas.{outside-found, outside-none, outside-more}
use Rattle.xml_tokens.proofs.scan.search_outside.Goals as goal

pub returns-then-ends : goal.returns-then-ends
returns-then-ends c =
    outside-found (ending_test c.args.bracket) c.args.scan.quote c.loop-at.quote c.args.scan.searched c.loop-at.at c.args.bytes.now c.loop-at.invariant.same
    c.loop-at-test.true (sym c.is_outside.ensures ∙ c.if-is_outside.true) (sym c.ends.ensures ∙ c.if-ends.true)

pub returns : goal.returns
returns c =
    let e : c.loop-at.at ≡ length c.args.bytes.now = omega (arith, c.loop-at.invariant.high, c.loop-at-test.false) in (
      outside-none (ending_test c.args.bracket) c.args.scan.quote c.loop-at.quote c.args.scan.searched c.loop-at.at c.args.bytes.now c.loop-at.invariant.same (omega (arith, e)),
      refl,
      outside-more (ending_test c.args.bracket) c.args.scan.quote c.loop-at.quote c.args.scan.searched c.loop-at.at c.args.bytes.now c.loop-at.invariant.same e,
    )
