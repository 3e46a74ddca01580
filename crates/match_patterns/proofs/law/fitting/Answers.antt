use Rattle.match_patterns.proofs.Lawful.{fits_by_ancestor, fits_by_parent, fits_by_step, fits_document}
use Rattle.match_patterns.proofs.law.fitting.Goals as goal

pub returns : goal.returns
returns c = record { document = fits_document; step = fits_by_step; parent = fits_by_parent; ancestor = fits_by_ancestor }
