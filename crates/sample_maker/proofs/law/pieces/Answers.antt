use Rattle.sample_maker.proofs.Pieces.{joined, holds}
use Rattle.sample_maker.proofs.law.pieces.Goals as goal

pub returns-clause-joined : goal.returns-clause-joined
returns-clause-joined c = joined

pub returns-clause-records : goal.returns-clause-records
returns-clause-records c = holds
