use Rattle.std.proofs.Common.{sym, subst, arith}
use Rattle.stx_host.specs.declared.act.Got.TheVariants.{Bytes}
use Rattle.stx_host.specs.declared.act.Lane.TheVariants.{Out}
use Rattle.stx_host.specs.Laws.{CountsLater}
use Rattle.std.proofs.Common.{take}
use Rattle.stx_host.proofs.CopiedSoFar.{copies_whole, copies_unread, copies_unwritten, copies_so_far, copy_step}
use Rattle.stx_host.proofs.Counts.{counts_join, counts_at_read, counts_at_wrote}
use Rattle.stx_host.proofs.copy.copy_main.Goals as goal

pub returns-then-not-write_all-clause-copy : goal.returns-then-not-write_all-clause-copy
returns-then-not-write_all-clause-copy g c main tells =
    let failed = c.if-not-write_all.ensures in
    copies_unwritten (g.H.Host.outside c.args.host.now) (g.H.Host.outside c.loop.host) (g.H.Host.outside c.read.new.self) (g.H.Host.outside c.write_all.new.host) main c.read.new.room failed.0
    c.in-Bytes.count c.loop.counter tells (c.loop.invariant.copied main tells) c.in-Bytes.ensures.answer c.in-Bytes.ensures.change failed.1 failed.2

pub returns-in-End-clause-copy : goal.returns-in-End-clause-copy
returns-in-End-clause-copy g c main tells =
    copies_whole (g.H.Host.outside c.args.host.now) (g.H.Host.outside c.loop.host) (g.H.Host.outside c.read.new.self) main c.loop.counter tells (c.loop.invariant.copied main tells)
    c.in-End.ensures.answer c.in-End.ensures.change

pub returns-in-Failed-clause-copy : goal.returns-in-Failed-clause-copy
returns-in-Failed-clause-copy g c main tells =
    copies_unread (g.H.Host.outside c.args.host.now) (g.H.Host.outside c.loop.host) (g.H.Host.outside c.read.new.self) main c.loop.counter tells (c.loop.invariant.copied main tells) c.in-Failed.ensures.change

pub returns-clause-copy : goal.returns-clause-copy
returns-clause-copy g c main tells = copies_so_far (g.H.Host.outside c.args.host.now) (g.H.Host.outside c.loop.host) main c.loop.counter tells (c.loop.invariant.copied main tells)

pub returns-clause-unended : goal.returns-clause-unended
returns-clause-unended g c main tells is = let so_far = c.loop.invariant.copied main tells in omega (arith, so_far.each, so_far.within)

pub loop-preserved : goal.loop-preserved
loop-preserved g c =
    let old = g.H.Host.outside c.args.host.now in
    let now = g.H.Host.outside c.loop.host in
    let mid = g.H.Host.outside c.read.new.self in
    let new = g.H.Host.outside c.write_all.new.host in
    let wrote = c.if-not-write_all.ensures in
    record {
      copied = λ main tells.
          copy_step old now mid new main c.read.new.room wrote.0 c.in-Bytes.count c.loop.counter tells (c.loop.invariant.copied main tells) c.in-Bytes.ensures.answer c.in-Bytes.ensures.change wrote.1 wrote.2;
      counts = counts_join old mid new (counts_join old now mid c.loop.invariant.counts (counts_at_read now mid 0 (Bytes c.in-Bytes.count) c.in-Bytes.ensures.change))
          (subst (CountsLater mid) (sym wrote.2) (counts_at_wrote mid Out wrote.0 (take c.in-Bytes.count c.read.new.room)));
    }
