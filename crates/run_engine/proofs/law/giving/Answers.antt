use Rattle.run_engine.proofs.Given.{begins-with-meaning, cuts-alike, ends-there, pieces-first, takes-no-more, waits-for-more}
use Rattle.run_engine.proofs.law.giving.Goals as goal

pub returns : goal.returns
returns c = record {
  begins = begins-with-meaning c.by_code.ensures.runs c.documents.ensures;
  pieces = pieces-first;
  cuts = cuts-alike;
  ended = ends-there;
  over = takes-no-more;
  waits = waits-for-more c.waiting.ensures;
}
