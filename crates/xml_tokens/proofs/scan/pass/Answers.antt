use Rattle.xml_tokens.proofs.OutsideLemmas.{pass-same}
use Rattle.xml_tokens.proofs.scan.pass.Goals as goal

pub returns-clause-same : goal.returns-clause-same
returns-clause-same c =
    pass-same c.args.bracket c.args.quote c.args.bytes.now c.args.at c.unmarked_len.result c.requires c.unmarked_len.ensures.bound c.unmarked_len.ensures.passed
