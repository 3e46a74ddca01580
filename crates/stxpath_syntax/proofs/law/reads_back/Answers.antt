use Rattle.stxpath_syntax.proofs.ReadingBack.{reads_back}
use Rattle.stxpath_syntax.proofs.law.reads_back.Goals as goal

pub returns : goal.returns
returns c = λ dialect scope other from place text x h a. reads_back dialect scope other from place text x h a
