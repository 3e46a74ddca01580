use Rattle.template_machine.proofs.Copying.{copies_all, copies_nothing, copies_texts}
use Rattle.template_machine.proofs.Written.{writes_documents, writes_nothing, writes_texts}
use Rattle.template_machine.proofs.law.copies.Goals as goal

pub returns : goal.returns
returns c = record {
  all = copies_all;
  texts = copies_texts;
  nothing = copies_nothing;
  documents = writes_documents c.nodes.ensures.text;
  written_texts = writes_texts;
  nothing_put = writes_nothing;
}
