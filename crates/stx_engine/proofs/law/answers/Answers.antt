use Rattle.stx_engine.proofs.Back.{answers-are-read}
use Rattle.stx_engine.proofs.Nested.{answer-nests}
use Rattle.stx_engine.proofs.Untold.{answers-are-taken}
use Rattle.stx_engine.proofs.law.answers.Goals as goal

pub returns-clause-nested : goal.returns-clause-nested
returns-clause-nested c =
    answer-nests c.said.ensures c.prefixes_are_names.ensures c.documents.ensures c.accepted.ensures.settled c.accepted.ensures.accepted c.sound.ensures c.documents-2.ensures.nested c.meant.ensures c.one_meaning.ensures.function

pub returns-clause-taken : goal.returns-clause-taken
returns-clause-taken c = answers-are-taken c.documents-2.ensures.taken c.meant.ensures c.one_meaning.ensures.function

pub returns-clause-read : goal.returns-clause-read
returns-clause-read c = answers-are-read c.said.ensures c.documents.ensures c.read.ensures c.meant.ensures c.one_meaning.ensures.function
