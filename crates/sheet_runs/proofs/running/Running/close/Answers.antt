use Rattle.std.proofs.Common.{subst}
use Rattle.sheet_runs.specs.inside.Running.{AreHeld}
use Rattle.sheet_runs.proofs.Ids.{last-open}
use Rattle.sheet_runs.proofs.running.Running.close.Goals as goal

pub close-requires : goal.close-requires
close-requires g c =
    let now = (g.H.Host.outside c.args.host.now).open_ids in
    let held = c.requires.open in
    last-open held.0 c.pop.new.self.items c.in-Some.other now (subst (AreHeld held.0 now) c.in-Some.ensures.items held.1)
