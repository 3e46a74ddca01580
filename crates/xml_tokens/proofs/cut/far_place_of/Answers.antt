use Rattle.std.proofs.Common.{Some, None}
use Rattle.memchr.specs.Find.{is_byte}
use Rattle.xml_tokens.proofs.FindLemmas.{far-none, far-some}
use Rattle.xml_tokens.proofs.ScanLemmas.{tail-first}
use Rattle.xml_tokens.proofs.cut.far_place_of.Goals as goal

pub returns-in-Some : goal.returns-in-Some
returns-in-Some c =
    let test = is_byte c.args.byte in
    far-some test c.args.bytes.now c.args.near c.requires.within c.requires.none c.in-Some.skipped (tail-first test c.args.near c.args.bytes.now (Some c.in-Some.skipped) c.in-Some.ensures)

pub returns-in-None : goal.returns-in-None
returns-in-None c =
    let test = is_byte c.args.byte in
    far-none test c.args.bytes.now c.args.near c.requires.within c.requires.none (tail-first test c.args.near c.args.bytes.now None c.in-None.ensures)
