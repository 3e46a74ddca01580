use Rattle.read_back.proofs.Tagging.{reads_end_tags, reads_start_tags}
use Rattle.read_back.proofs.law.tags.Goals as goal

pub returns : goal.returns
returns c = record { start = reads_start_tags c.spelling.ensures.read; end = reads_end_tags c.spelling.ensures.read }
