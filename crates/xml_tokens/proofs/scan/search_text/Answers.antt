use Rattle.std.proofs.Common.{ap, drop, refl, Some, None, subst, sym}
use Rattle.xml_tokens.specs.Shape.{text_end, is_less}
use Rattle.xml_tokens.specs.inside.Resume.{IsTextFound}
use Rattle.xml_tokens.proofs.ScanLemmas.{first_byte-of, text-none, text-none-here, tail-first}
use Rattle.xml_tokens.proofs.scan.search_text.Goals as goal

pub returns-in-Some : goal.returns-in-Some
returns-in-Some c =
    ap (text_end c.args.ended c.args.bytes.now)
    (first_byte-of is_less c.args.from (drop c.args.from c.args.bytes.now) c.in-Some.skipped (tail-first is_less c.args.from c.args.bytes.now (Some c.in-Some.skipped) c.in-Some.ensures))

pub returns-in-None : goal.returns-in-None
returns-in-None c =
    rw (text-none-here c.args.from c.args.bytes.now c.requires (tail-first is_less c.args.from c.args.bytes.now None c.in-None.ensures), c.if-ended.true) refl

pub returns-in-None-2 : goal.returns-in-None-2
returns-in-None-2 c =
    let none = tail-first is_less c.args.from c.args.bytes.now None c.in-None-2.ensures in
    subst (IsTextFound c.args.from c.args.ended c.args.bytes.now) (sym c.unended_at.ensures) (
      rw (text-none-here c.args.from c.args.bytes.now c.requires none, c.if-ended.false) refl,
      refl,
      text-none c.args.from c.args.bytes.now c.requires none,
    )
