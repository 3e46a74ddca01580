use Rattle.run_future.proofs.Given.{absent_stops, cuts_do_not_matter, gives_as_alone, newest_first, opened_goes_on, opens_whole, takes_nothing, waits_for_newest}
use Rattle.run_future.proofs.law.giving.Goals as goal

pub returns : goal.returns
returns c = record {
  alone = gives_as_alone c.alone.ensures.asking;
  pieces = newest_first;
  cuts = cuts_do_not_matter;
  over = takes_nothing;
  waits = waits_for_newest c.waiting.ensures.events;
  whole = opens_whole c.documents.ensures;
  opened = opened_goes_on c.waiting.ensures.documents c.beginning.ensures.document c.documents.ensures;
  absent = absent_stops c.waiting.ensures.documents;
}
