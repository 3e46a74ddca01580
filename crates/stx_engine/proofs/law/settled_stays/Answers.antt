use Rattle.stx_engine.proofs.Stays.{answer-stays, beginning-is-open, settled-stays, whole-is-over}
use Rattle.stx_engine.proofs.law.settled_stays.Goals as goal

pub returns-clause-settled : goal.returns-clause-settled
returns-clause-settled c =
    settled-stays c.one_meaning.ensures.one c.meant.ensures c.settled_stays.ensures.output c.settled_stays.ensures.over

pub returns-clause-answer : goal.returns-clause-answer
returns-clause-answer c =
    answer-stays c.one_meaning.ensures.one c.one_meaning.ensures.function c.meant.ensures c.settled_stays.ensures.output

pub returns-clause-whole : goal.returns-clause-whole
returns-clause-whole c = whole-is-over c.one_meaning.ensures.one c.meant.ensures c.documents_end.ensures.whole

pub returns-clause-beginning : goal.returns-clause-beginning
returns-clause-beginning c = beginning-is-open c.one_meaning.ensures.one c.meant.ensures c.documents_end.ensures.beginning
