use Rattle.result_writer.proofs.Apart.{declares-once, holds-good-tags, writes-once}
use Rattle.result_writer.proofs.law.names_are_written_once.Goals as goal

pub returns-clause-held : goal.returns-clause-held
returns-clause-held c = holds-good-tags

pub returns-clause-attributes : goal.returns-clause-attributes
returns-clause-attributes c = writes-once

pub returns-clause-declarations : goal.returns-clause-declarations
returns-clause-declarations c = declares-once
