use Rattle.run_engine.proofs.Sections.{sections-hold}
use Rattle.run_engine.proofs.law.sections.Goals as goal

pub returns : goal.returns
returns c = sections-hold c.spelling.ensures.spelled c.cuts.ensures.some c.shapes.ensures
