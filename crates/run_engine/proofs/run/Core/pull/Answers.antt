use Rattle.std.proofs.Common.{refl}
use Rattle.run_engine.specs.declared.document.Document.{Document}
use Rattle.run_engine.proofs.Pulled.{has-newest}
use Rattle.run_engine.proofs.run.Core.pull.Goals as goal

pub unreachable-requires : goal.unreachable-requires
unreachable-requires c = has-newest c.args.self.now c.requires c.asking.ensures c.in-None.is

pub returns : goal.returns
returns c =
    let d : Document = record c.in-Some.document { reader = c.next.new.self } in
    record {
      before = c.in-Some.document;
      after = d;
      was = c.in-Some.is;
      is = refl;
      name = refl;
      answer = c.next.ensures.answer;
      leaves = c.next.ensures.leaves;
      shrinks = c.next.ensures.shrinks;
      goes = c.next.ensures.goes;
      counts = c.next.ensures.lists;
      whole = c.next.ensures.whole;
      wants = c.next.ensures.wants;
      ended = c.next.ensures.ended;
      fed_is = c.next.ensures.fed;
      limits = c.next.ensures.lexer_limits;
      asking = c.exchange_spare.ensures.asking c.requires.asking;
      documents = c.exchange_spare.ensures.documents;
      depth = c.exchange_spare.ensures.depth;
      mains = c.exchange_spare.ensures.mains;
      fuel = c.exchange_spare.ensures.fuel;
      fuel_limit = c.exchange_spare.ensures.fuel_limit;
      outer = refl;
      own = record { files = refl; limits = refl; strip = refl; cdata = refl };
      out = refl;
      of = c.exchange_spare.ensures.of;
      params = c.exchange_spare.ensures.params;
      order = c.exchange_spare.ensures.order.1;
      gives = c.exchange_spare.ensures.rest;
    }
