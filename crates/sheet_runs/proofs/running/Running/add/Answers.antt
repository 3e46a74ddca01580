use Rattle.std.proofs.Common.{refl, subst, sym}
use Rattle.run_engine.specs.Run.{MayCome}
use Rattle.run_engine.specs.declared.piece.Piece.TheVariants.{Opened}
use Rattle.stx_host.proofs.OpenIds.{given_is_open}
use Rattle.sheet_runs.specs.declared.running.Running.{Running}
use Rattle.sheet_runs.proofs.Halting.{opened-lacks}
use Rattle.sheet_runs.proofs.Leaving.{opened-leaves}
use Rattle.sheet_runs.proofs.Others.{other-opened}
use Rattle.sheet_runs.proofs.running.Running.add.Goals as goal

pub pump-requires : goal.pump-requires
pump-requires g c =
    subst (λ (r : Running). MayCome r.engine.stage Opened) (sym c.keep.ensures.others) (subst (λ s. MayCome s Opened) (sym c.requires.opened.4.says) tt)

pub close-requires : goal.close-requires
close-requires g c =
    let o = c.requires.opened in
    given_is_open o.3 (g.H.Host.outside c.args.host.now) c.args.name c.args.id o.5 o.6

pub returns-in-Ok-clause-driven : goal.returns-in-Ok-clause-driven
returns-in-Ok-clause-driven g c = λ start main old before d may change.
    let now = g.H.Host.outside c.args.host.now in
    c.pump.ensures.driven start main old now
    (other-opened start main old before now c.args.self.now c.keep.new.self c.args.name d c.requires.written c.args.id may change c.keep.ensures.others c.in-Ok.ensures.ok)

pub returns-in-Err-clause-driven : goal.returns-in-Err-clause-driven
returns-in-Err-clause-driven g c = λ start main old before d may change.
    let now = g.H.Host.outside c.args.host.now in
    let new = g.H.Host.outside c.close.new.self in
    opened-lacks start main old before new c.args.self.now c.args.name c.args.id now d c.requires.written may change c.close.ensures c.keep.new.self c.keep.ensures.others c.in-Err.ensures.err

pub returns-in-Ok-clause-less : goal.returns-in-Ok-clause-less
returns-in-Ok-clause-less g c =
    opened-leaves c.args.self.now c.keep.new.self c.pump.new.self c.args.name c.requires.opened.4.says _ c.keep.ensures.others c.pump.ensures.pumps c.in-Ok.ensures.ok refl
