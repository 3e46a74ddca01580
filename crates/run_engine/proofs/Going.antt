-- How a run goes on behind an event.
use Rattle.std.proofs.Common.{◌≡◌, ◌≤◌, Option, Some, None, map, sym, ap, subst, ◌∙◌, arith, ◌+◌, ◌*◌, ℕ}
use Rattle.xml_events.specs.declared.event.Event.{Event}
use Rattle.xml_events.specs.declared.event.Pull.TheVariants as pull
use Rattle.template_machine.specs.Between.{Continues, IsAsking, Burns, fuel_at, fuel_limit_of, fuel_of, mains_of}
use Rattle.run_engine.specs.Taking.{Took}
use Rattle.run_engine.specs.declared.run.Core.{Core}
use Rattle.run_engine.specs.declared.piece.Pumped.{Pumped}
use Rattle.run_engine.specs.inside.Cores.{Advances, Closes, Hands, HasTold, IsSame, Pulls, Reads, Settles, documents_behind, documents_in, open_of, opens_of, work_in, asks_of, asks_told, mains_in, most_at, opened}
use Rattle.run_engine.proofs.Asking.{answers-then, same-then}
use Rattle.run_engine.proofs.Pulled.{pull-took, pull-works}
use Rattle.run_engine.proofs.Taking.{took-then}
use Rattle.run_engine.proofs.Turning.{closed-took, closed-works}
use Rattle.run_engine.proofs.Counting.{burned, closed-events, pull-asks}
use Rattle.run_engine.specs.Asks.{main_events}
use Rattle.stx_base.specs.declared.limits.Limits.{Limits}
use Rattle.template_machine.specs.declared.turn.Turn.{Turn}

module _ (e : Event) (old closed : Core) (k : Closes e old closed) where
  pub closed-asks : HasTold e old → IsAsking closed.machine
  closed-asks h = subst IsAsking (sym (ap (λ (c : Core). c.machine) k.others)) h.asking

  pub closed-continues : HasTold e old → Continues closed.machine e
  closed-continues h = subst (λ m. Continues m e) (sym (ap (λ (c : Core). c.machine) k.others)) h.continues

  closed-same : IsSame old closed
  closed-same = record {
    files = ap (λ (c : Core). c.files) k.others;
    limits = ap (λ (c : Core). c.limits) k.others;
    strip = ap (λ (c : Core). c.strip) k.others;
    cdata = ap (λ (c : Core). c.cdata) k.others;
  }

  -- no more documents may be asked for than the event pays for
  paid :
      (next : Core) (t : Turn) → documents_in next ≡ documents_in closed → IsSame closed next → HasTold e old
      → Burns t (fuel_at (mains_of closed.machine) (fuel_limit_of closed.machine) (fuel_of closed.machine)) (fuel_of next.machine)
      → most_at t (asks_of next) ≤ asks_told old
  paid next t dn same h b =
      let most : ℕ = fuel_at (mains_in (opened old.newest)) old.limits.fuel (fuel_of old.machine) in
      let renewed : fuel_at (mains_of closed.machine) (fuel_limit_of closed.machine) (fuel_of closed.machine) ≡ most =
      ap (λ (c : Core). fuel_at (mains_of c.machine) (fuel_limit_of c.machine) (fuel_of c.machine)) k.others ∙ ap (λ l. fuel_at (mains_of old.machine) l (fuel_of old.machine)) h.fuel ∙ h.renews in
      let left : asks_of next ≡ main_events (map open_of (documents_behind e old)) * (old.limits.fuel + 1) + fuel_of next.machine =
      ap (λ ds. main_events (map open_of ds) * (next.limits.fuel + 1) + fuel_of next.machine) (dn ∙ k.documents)
      ∙ ap (λ (l : Limits). main_events (map open_of (documents_behind e old)) * (l.fuel + 1) + fuel_of next.machine) (same.limits ∙ ap (λ (c : Core). c.limits) k.others) in
      subst (λ n. most_at t n ≤ asks_told old) (sym left)
      (burned t (main_events (map open_of (documents_behind e old))) (main_events (opens_of old)) old.limits.fuel most (fuel_of next.machine) (closed-events e old)
      (subst (λ m. Burns t m (fuel_of next.machine)) renewed b))

  -- the event was handed on, and the machine's answer settled
  pub hands-so :
      (next new : Core) (t : Turn) (o : Option Pumped) → documents_in next ≡ documents_in closed → IsSame closed next → HasTold e old
      → Burns t (fuel_at (mains_of closed.machine) (fuel_limit_of closed.machine) (fuel_of closed.machine)) (fuel_of next.machine)
      → Settles t next o new
      → Hands old o new
  hands-so next new t None dn same h b s =
      let are : documents_in new ≡ documents_behind e old = ap documents_in s.0 ∙ dn ∙ k.documents in
      let asks : asks_of next ≤ asks_told old = subst (λ x. most_at x (asks_of next) ≤ asks_told old) s.2 (paid next t dn same h b) in (
        s.1,
        omega (arith, ap work_in are, closed-works e old),
        same-then old closed new closed-same (subst (IsSame closed) (sym s.0) same),
        subst (Took (opens_of old)) (sym (ap (map open_of) are)) (closed-took e old h.whole),
        subst (λ c. asks_of c ≤ asks_told old) (sym s.0) asks,
      )
  hands-so next new t (Some p) dn same h b s =
      answers-then (most_at t (asks_of next)) (asks_told old) old next new p (paid next t dn same h b) (same-then old closed next closed-same same)
      (subst (Took (opens_of old)) (sym (ap (map open_of) (dn ∙ k.documents))) (closed-took e old h.whole)) s

pub advances-so : (old mid new : Core) (e : Event) (o : Option Pumped) → Reads old → Pulls old (pull.Event e) mid → Hands mid o new → Advances old o new
advances-so old mid new e None r p h = (
  h.0,
  omega (arith, pull-works old mid e r p, h.1),
  same-then old mid new p.own h.2,
  took-then (opens_of old) (opens_of mid) (opens_of new) (pull-took old mid (pull.Event e) p) h.3,
  omega (arith, pull-asks old mid e p, h.4),
)
advances-so old mid new e (Some q) r p h = answers-then (asks_told mid) (asks_of old) old mid new q (pull-asks old mid e p) p.own (pull-took old mid (pull.Event e) p) h
