-- What an answer of the machine leaves.
use Rattle.std.proofs.Common.{◌≡◌, ◌≤◌, ℕ, List, [], ◌∷◌, ◌++◌, Option, Some, None, map, reverse, refl, sym, ap, subst, ◌∙◌, arith, Bool}
use Rattle.stx_base.specs.declared.limits.Limits.{Limits}
use Rattle.xml_events.specs.declared.event.Event.{Event}
use Rattle.xml_events.specs.declared.event.Event.TheVariants as event
use Rattle.template_machine.specs.Between.{GoesOn, IsAsking, IsAskingForDocument, behind, depth_of, documents_of, fuel_limit_of, mains_behind, mains_of}
use Rattle.template_machine.specs.declared.machine.Machine.{Machine}
use Rattle.template_machine.specs.declared.turn.Turn.{Turn}
use Rattle.template_machine.specs.declared.turn.Turn.TheVariants as turn
use Rattle.run_engine.specs.declared.run.Core.{Core}
use Rattle.run_engine.specs.declared.document.Document.{Document}
use Rattle.run_engine.specs.inside.Cores.{AreReadable, Closes, EndsBefore, HasTold, IsSteady, IsTurned, documents_behind, documents_in, lists_of, open_of, opened, opens_of, work, work_in, mains_in}
use Rattle.run_engine.specs.Taking.{AreEnded, Took}
use Rattle.run_engine.proofs.Taking.{all-same, took-same}

no-lists : (ds : List Document) → lists_of ds ≡ [] → ds ≡ []
no-lists [] h = refl
no-lists (d ∷ ds) h = absurd cc

-- the machine asks for what comes next, and knows of each open document how many lists are open in it
pub turned-by :
    (c : Core) (ds : List ℕ) (ms : List Bool) → IsSteady c → ds ≡ lists_of (documents_in c) → ms ≡ mains_in (documents_in c) → AreReadable c.limits.depth (documents_in c)
    → (t : Turn) → (t ≡ turn.More → IsAsking c.machine) → ((name : List ℕ) → t ≡ turn.WantDocument name → IsAskingForDocument c.machine)
    → (t ≡ turn.Ended → documents_of c.machine ≡ []) → (GoesOn t → documents_of c.machine ≡ ds) → (GoesOn t → mains_of c.machine ≡ ms)
    → IsTurned t c
turned-by c ds ms s is mis r turn.More a w n d g = record { steady = s; asking = a refl; tied = record { lists = d tt ∙ is; mains = g tt ∙ mis; readable = r } }
turned-by c ds ms s is mis r (turn.WantDocument name) a w n d g = record { steady = s; asking = w name refl; tied = record { lists = d tt ∙ is; mains = g tt ∙ mis; readable = r } }
turned-by c ds ms s is mis r turn.Ended a w n d g = no-lists (documents_in c) (sym is ∙ sym (d tt) ∙ n refl)
turned-by c ds ms s is mis r (turn.Stopped fault) a w n d g = tt
turned-by c ds ms s is mis r (turn.Spent at) a w n d g = tt
turned-by c ds ms s is mis r turn.Memory a w n d g = tt

module _ (e : Event) (old closed : Core) (h : HasTold e old) (k : Closes e old closed) where
  machine-is : closed.machine ≡ old.machine
  machine-is = ap (λ (c : Core). c.machine) k.others

  limits-are : closed.limits ≡ old.limits
  limits-are = ap (λ (c : Core). c.limits) k.others

  -- behind an event
  pub turned :
      (new : Core) → new.newest ≡ closed.newest → new.outer.items ≡ closed.outer.items → new.limits ≡ closed.limits → depth_of new.machine ≡ depth_of closed.machine
      → fuel_limit_of new.machine ≡ fuel_limit_of closed.machine → (t : Turn) → (t ≡ turn.More → IsAsking new.machine) → ((name : List ℕ) → t ≡ turn.WantDocument name → IsAskingForDocument new.machine)
      → (t ≡ turn.Ended → documents_of new.machine ≡ []) → (GoesOn t → documents_of new.machine ≡ behind e (documents_of closed.machine))
      → (GoesOn t → mains_of new.machine ≡ mains_behind e (mains_of closed.machine))
      → IsTurned t new
  turned new n o l deep fuel t a w none d g =
      let same : documents_in new ≡ documents_behind e old = ap (λ x. opened x ++ reverse new.outer.items) n ∙ ap (λ xs. opened closed.newest ++ reverse xs) o ∙ k.documents in
      let limit : new.limits ≡ old.limits = l ∙ limits-are in
      turned-by new (behind e (documents_of closed.machine)) (mains_behind e (mains_of closed.machine))
      (record {
        bare = λ x. o ∙ k.bare (sym n ∙ x);
        depth = deep ∙ ap depth_of machine-is ∙ h.depth ∙ sym (ap (λ (x : Limits). x.depth) limit);
        fuel = fuel ∙ ap fuel_limit_of machine-is ∙ h.fuel ∙ sym (ap (λ (x : Limits). x.fuel) limit);
      })
      (ap (λ (x : Machine). behind e (documents_of x)) machine-is ∙ h.lists ∙ sym (ap lists_of same))
      (ap (λ (x : Machine). mains_behind e (mains_of x)) machine-is ∙ h.mains ∙ sym (ap mains_in same))
      (subst (λ (x : Limits). AreReadable x.depth (documents_in new)) (sym limit) (subst (AreReadable old.limits.depth) (sym same) h.readable))
      t a w none d g

opened-works : (o : Option Document) (ds : List Document) → work_in ds ≤ work_in (opened o ++ ds)
opened-works None ds = omega arith
opened-works (Some d) ds = omega arith

-- what is still to come is no more behind an event
pub closed-works : (e : Event) (c : Core) → work_in (documents_behind e c) ≤ work c
closed-works (event.Start offset name attrs decls first) c = omega arith
closed-works (event.End offset) c = omega arith
closed-works (event.Chars offset text) c = omega arith
closed-works (event.CData offset text) c = omega arith
closed-works (event.Comment offset text) c = omega arith
closed-works (event.Pi offset target text) c = omega arith
closed-works (event.DocumentEnd offset) c = opened-works c.newest (reverse c.outer.items)

opened-took : (o : Option Document) (ds : List Document) → AreEnded (map open_of (opened o)) → Took (map open_of (opened o ++ ds)) (map open_of ds)
opened-took None ds h = took-same (map open_of ds)
opened-took (Some d) ds h = record { gone = open_of d ∷ []; kept = map open_of ds; parts = refl; ended = h; on = all-same (map open_of ds) }

-- at most the newest document has gone, which has ended
pub closed-took : (e : Event) (c : Core) → EndsBefore e c → Took (opens_of c) (map open_of (documents_behind e c))
closed-took (event.Start offset name attrs decls first) c h = took-same (opens_of c)
closed-took (event.End offset) c h = took-same (opens_of c)
closed-took (event.Chars offset text) c h = took-same (opens_of c)
closed-took (event.CData offset text) c h = took-same (opens_of c)
closed-took (event.Comment offset text) c h = took-same (opens_of c)
closed-took (event.Pi offset target text) c h = took-same (opens_of c)
closed-took (event.DocumentEnd offset) c h = opened-took c.newest (reverse c.outer.items) h
