use Rattle.xml_tokens.proofs.RunLemmas.{due-more, after_more, lexes-one}
use Rattle.xml_tokens.proofs.laws.answers.Goals as goal

pub returns : goal.returns
returns c = record {
  stay = λ r rest ended fresh going other. due-more r rest ended fresh going other;
  after = λ r rest ended l fresh going h. after_more r rest ended l fresh going h;
  one = lexes-one;
}
