use Rattle.std.proofs.Common.{Some, refl}
use Rattle.run_engine.specs.declared.run.Core.{Core}
use Rattle.run_engine.specs.declared.document.Document.{Document}
use Rattle.run_engine.proofs.Feeding.{fed-reads}
use Rattle.run_engine.proofs.Standing.{fed-given, has-one, on-ok-both, unended-so}
use Rattle.run_engine.proofs.run.Core.feed.Goals as goal

pub feed-requires : goal.feed-requires
feed-requires c = unended-so c.args.self.now c.in-Some.document c.requires.unended c.in-Some.is

pub unreachable-requires : goal.unreachable-requires
unreachable-requires c = has-one c.args.self.now c.requires.unended c.in-None.is

pub returns-clause-reads : goal.returns-clause-reads
returns-clause-reads c =
    let s = c.args.self.now in
    let d : Document = record c.in-Some.document { reader = c.feed.new.self } in
    let t : Core = record s { newest = Some d } in
    on-ok-both c.feed.result _ _ _ (λ fed leads. fed-reads s t c.in-Some.document d c.args.piece.now c.requires.reads c.in-Some.is refl refl fed leads refl refl refl) c.feed.ensures.ok c.feed.ensures.future

pub returns-clause-given : goal.returns-clause-given
returns-clause-given c =
    let s = c.args.self.now in
    let d : Document = record c.in-Some.document { reader = c.feed.new.self } in
    let t : Core = record s { newest = Some d } in
    on-ok-both c.feed.result _ _ _ (λ fed leads. fed-given s t c.in-Some.document d c.args.piece.now c.in-Some.is refl refl fed refl) c.feed.ensures.ok c.feed.ensures.future
