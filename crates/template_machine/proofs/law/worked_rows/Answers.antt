use Rattle.template_machine.proofs.Rows as rows
use Rattle.template_machine.proofs.law.worked_rows.Goals as goal

pub returns : goal.returns
returns c = record {
  last_of_two = rows.last_of_two;
  sections = rows.sections;
  nested = rows.nested;
  again = rows.again;
  twice = rows.twice;
  attributes = rows.attributes;
  buffered = rows.buffered;
  assigned = rows.assigned;
  each_item = rows.each_item;
}
