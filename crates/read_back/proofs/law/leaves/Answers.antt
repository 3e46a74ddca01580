use Rattle.read_back.proofs.Leaves.{reads_comments, reads_instructions, reads_sections, reads_texts, reads_values}
use Rattle.read_back.proofs.law.leaves.Goals as goal

pub returns : goal.returns
returns c = record {
  texts = reads_texts c.spelling.ensures.read;
  values = reads_values c.texts.ensures.read;
  sections = reads_sections c.spelling.ensures.read;
  comments = reads_comments c.spelling.ensures.read;
  instructions = reads_instructions c.spelling.ensures.read;
}
