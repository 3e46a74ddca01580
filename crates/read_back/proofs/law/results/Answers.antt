use Rattle.read_back.proofs.Results.{reads_contents, reads_results}
use Rattle.read_back.proofs.Same.{reads_the_same}
use Rattle.read_back.proofs.law.results.Goals as goal

pub returns : goal.returns
returns c = record {
  same = reads_the_same c.nodes_of_parts.ensures.proper;
  whole = reads_results c.spelling.ensures.shapes c.spelling.ensures.read c.declarations.ensures c.names.ensures c.shapes.ensures c.first_fault.ensures.none c.nodes.ensures.accepted c.nodes.ensures.forest;
  content = reads_contents c.spelling.ensures.shapes c.spelling.ensures.read c.declarations.ensures c.names.ensures c.shapes.ensures c.first_fault.ensures.none c.nodes.ensures.accepted c.nodes.ensures.forest;
}
