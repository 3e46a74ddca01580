use Rattle.std.proofs.Common.{Some, refl}
use Rattle.run_engine.specs.declared.run.Core.{Core}
use Rattle.run_engine.specs.declared.document.Document.{Document}
use Rattle.run_engine.proofs.Feeding.{ended-reads}
use Rattle.run_engine.proofs.Standing.{ended-given, has-one, unended-so}
use Rattle.run_engine.proofs.run.Core.finish.Goals as goal

pub unreachable-requires : goal.unreachable-requires
unreachable-requires c = has-one c.args.self.now c.requires.unended c.in-None.is

pub returns-clause-reads : goal.returns-clause-reads
returns-clause-reads c =
    let s = c.args.self.now in
    let d : Document = record c.in-Some.document { reader = c.finish.new.self } in
    let t : Core = record s { newest = Some d } in
    ended-reads s t c.in-Some.document d c.requires.reads c.in-Some.is refl refl c.finish.ensures.source
    (c.finish.ensures.future (unended-so s c.in-Some.document c.requires.unended c.in-Some.is)) refl refl refl

pub returns-clause-given : goal.returns-clause-given
returns-clause-given c =
    let s = c.args.self.now in
    let d : Document = record c.in-Some.document { reader = c.finish.new.self } in
    let t : Core = record s { newest = Some d } in
    ended-given s t c.in-Some.document d c.in-Some.is refl refl c.finish.ensures.source refl
