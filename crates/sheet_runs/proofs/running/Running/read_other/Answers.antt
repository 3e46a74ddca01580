use Rattle.std.proofs.Common.{◌≡◌, [], IfSome, inr, refl, sym, subst}
use Rattle.stx_host.specs.Outside.{GivesBytes, IsOpen, ReadFault, Reads}
use Rattle.stx_host.specs.declared.act.Got.TheVariants.{Bytes as Got', End as GotEnd}
use Rattle.sheet_runs.specs.declared.running.Halt.TheVariants as halt
use Rattle.sheet_runs.specs.inside.Running.{AreHeld, Halted}
use Rattle.sheet_runs.proofs.Feeding.{at-other}
use Rattle.sheet_runs.proofs.Halting.{other-fails}
use Rattle.sheet_runs.proofs.Ids.{last-open, same-held}
use Rattle.sheet_runs.proofs.Leaving.{bytes-leave, end-leaves}
use Rattle.sheet_runs.proofs.Others.{other-bytes, other-end}
use Rattle.sheet_runs.proofs.running.Running.read_other.Goals as goal

pub read-requires-clause-open : goal.read-requires-clause-open
read-requires-clause-open g c =
    let d = c.requires.driven in
    let now = g.H.Host.outside c.args.host.now in
    let a = at-other d.0 d.1 d.2 now c.args.self.now d.3 in
    let held = subst (AreHeld d.2.open_ids now.open_ids) a.others_is d.3.held in
    inr (subst (IsOpen now.open_ids) (sym (c.newest_id.ensures a.front a.last a.others_is)) (last-open d.2.open_ids a.front a.last now.open_ids held))

pub returns-in-Bytes-clause-driven : goal.returns-in-Bytes-clause-driven
returns-in-Bytes-clause-driven g c = λ start main old d.
    let r = c.args.self.now in
    let now = g.H.Host.outside c.args.host.now in
    let new = g.H.Host.outside c.read.new.self in
    let n = c.in-Bytes.got in
    let a = at-other start main old now r d in
    let id = c.newest_id.ensures a.front a.last a.others_is in
    c.pump.ensures.driven start main old new
    (other-bytes start main old now new r c.count.new.self d c.requires.written c.count.ensures.others c.read.new.room n _
    (subst (λ i. GivesBytes (now.to_come i) n c.read.new.room) id c.in-Bytes.ensures.answer) refl (subst (λ i. Reads now i (Got' n) new) id c.in-Bytes.ensures.change) (c.count.ensures.more a.front a.last a.others_is))

pub returns-in-End-clause-driven : goal.returns-in-End-clause-driven
returns-in-End-clause-driven g c = λ start main old d.
    let r = c.args.self.now in
    let now = g.H.Host.outside c.args.host.now in
    let mid = g.H.Host.outside c.read.new.self in
    let new = g.H.Host.outside c.close.new.host in
    let a = at-other start main old now r d in
    let id = c.newest_id.ensures a.front a.last a.others_is in
    let gone = c.close.ensures.gone a.front a.last a.others_is in
    c.pump-in-End.ensures.driven start main old new
    (other-end start main old now new r c.close.new.self d c.requires.written c.close.ensures.others mid (subst (λ i. IfSome (now.to_come i) (λ bytes. bytes ≡ [])) id c.in-End.ensures.answer) (subst (λ i. Reads now i GotEnd mid) id c.in-End.ensures.change) gone.1 gone.0)

pub returns-in-Failed-clause-driven : goal.returns-in-Failed-clause-driven
returns-in-Failed-clause-driven g c = λ start main old d.
    let r = c.args.self.now in
    let now = g.H.Host.outside c.args.host.now in
    let new = g.H.Host.outside c.read.new.self in
    let a = at-other start main old now r d in
    let id = c.newest_id.ensures a.front a.last a.others_is in
    subst (λ o. Halted start main old new c.unread.new.self (halt.Failed o)) (sym (c.unread.ensures.outcome a.front a.last a.others_is))
    (other-fails start main old now new r d c.requires.written c.unread.new.self c.unread.ensures.others (subst (λ i. ReadFault i now new) id c.in-Failed.ensures.change) c.in-Failed.ensures.answer
    (same-held old.open_ids now.open_ids r.others.items c.unread.new.self.others.items c.unread.ensures.ids d.held))

pub returns-in-Bytes-clause-less : goal.returns-in-Bytes-clause-less
returns-in-Bytes-clause-less g c =
    let d = c.requires.driven in
    let a = at-other d.0 d.1 d.2 (g.H.Host.outside c.args.host.now) c.args.self.now d.3 in
    bytes-leave c.args.self.now c.count.new.self c.pump.new.self c.count.ensures.others _ _ d.3.says a _ _ c.in-Bytes.got c.pump.ensures.pumps refl c.in-Bytes.ensures.answer.some (c.count.ensures.more a.front a.last a.others_is)

pub returns-in-End-clause-less : goal.returns-in-End-clause-less
returns-in-End-clause-less g c =
    let d = c.requires.driven in
    let a = at-other d.0 d.1 d.2 (g.H.Host.outside c.args.host.now) c.args.self.now d.3 in
    end-leaves c.args.self.now c.close.new.self c.pump-in-End.new.self c.close.ensures.others _ _ d.3.says a c.pump-in-End.ensures.pumps (c.close.ensures.gone a.front a.last a.others_is).0
