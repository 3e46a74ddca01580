use Rattle.stxpath_syntax.proofs.Naming.{named_in_bytes, word_is}
use Rattle.stxpath_syntax.proofs.law.named.Goals as goal

pub returns : goal.returns
returns c = (named_in_bytes, word_is)
