use Rattle.std.proofs.Common.{refl, subst}
use Rattle.sheet_runs.specs.inside.Running.{AreHeld}
use Rattle.sheet_runs.proofs.Halting.{closes-one}
use Rattle.sheet_runs.proofs.Ids.{last-closed, last-open}
use Rattle.sheet_runs.proofs.running.Running.close_all.Goals as goal

pub loop-other-init : goal.loop-other-init
loop-other-init g c = (c.requires, λ start main old halt h. h)

pub close-requires : goal.close-requires
close-requires g c =
    let loop = c.loop-other in
    let now = (g.H.Host.outside loop.host).open_ids in
    let held = loop.invariant.0 in
    last-open held.0 c.pop.new.self.items c.in-Some.other now (subst (AreHeld held.0 now) c.in-Some.ensures.items held.1)

pub loop-other-preserved : goal.loop-other-preserved
loop-other-preserved g c =
    let loop = c.loop-other in
    let now = g.H.Host.outside loop.host in
    let new = g.H.Host.outside c.close.new.self in
    let front = c.pop.new.self.items in
    let o = c.in-Some.other in
    let is = c.in-Some.ensures.items in
    let held = loop.invariant.0 in (
      (held.0, last-closed held.0 front o now new (subst (AreHeld held.0 now.open_ids) is held.1) c.close.ensures),
      λ start main old halt h.
          closes-one start main old now new loop.self (record loop.self { others = c.pop.new.self }) halt (loop.invariant.1 start main old halt h) front o is refl refl c.close.ensures,
    )
