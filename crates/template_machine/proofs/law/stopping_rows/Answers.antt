use Rattle.template_machine.proofs.Stopping as rows
use Rattle.template_machine.proofs.law.stopping_rows.Goals as goal

pub returns : goal.returns
returns c = record {
  busy = rows.busy;
  open_copy = rows.open_copy;
  crowded = rows.crowded;
  parted = rows.parted;
  left_open = rows.left_open;
  unmatched = rows.unmatched;
  late = rows.late;
  other_document = rows.other_document;
  no_document = rows.no_document;
  short = rows.short;
  categories = rows.categories;
  going = rows.going;
  outermost = rows.outermost;
  by_kinds = rows.by_kinds;
  gone = rows.gone;
  renewed = rows.renewed;
  read_spent = rows.read_spent;
  full = rows.full;
  too_many_sources = rows.too_many_sources;
  enough_sources = rows.enough_sources;
  passed_over = rows.passed_over;
  waits = rows.waits;
  broken = rows.broken;
  broken_other = rows.broken_other;
}
