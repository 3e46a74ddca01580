-- How many documents a run may still ask for.
use Rattle.std.proofs.Common.{◌≡◌, ◌≤◌, ◌<◌, ◌+◌, ◌*◌, ℕ, Bool, true, false, cond, List, [], ◌∷◌, ◌++◌, Option, Some, None, is_none, map, reverse, refl, sym, ap, subst, ◌∙◌, arith}
use Rattle.std.proofs.Math.Nat.{mul-le-mul_left}
use Rattle.stx_base.specs.declared.limits.Limits.{Limits}
use Rattle.xml_events.specs.Source.{events_left}
use Rattle.xml_events.specs.declared.event.Event.{Event}
use Rattle.xml_events.specs.declared.event.Event.TheVariants as event
use Rattle.xml_events.specs.declared.event.Pull.TheVariants as pull
use Rattle.template_machine.specs.Between.{Burns, fuel_at, fuel_of}
use Rattle.template_machine.specs.declared.turn.Turn.{Turn}
use Rattle.template_machine.specs.declared.turn.Turn.TheVariants as turn
use Rattle.run_engine.specs.Asks.{AsksFewer, asks_left, main_events, of_main}
use Rattle.run_engine.specs.Run as spec
use Rattle.run_engine.specs.Run.{Open, Stage}
use Rattle.run_engine.specs.declared.run.Core.{Core}
use Rattle.run_engine.specs.declared.document.Document.{Document}
use Rattle.run_engine.specs.inside.Cores.{Pulls, asks_asked, asks_of, asks_told, documents_behind, is_main, mains_in, most_at, open_of, opened, opens_of, run_of}

-- where fewer may be asked for than so many, fewer may be than more
pub fewer-then : (s : Stage) (m n k : ℕ) → m ≤ n → AsksFewer s m k → AsksFewer s n k
fewer-then spec.New m n k h a = tt
fewer-then spec.Main m n k h a = tt
fewer-then spec.Document m n k h a = omega (arith, h, a)
fewer-then (spec.Wants name) m n k h a = omega (arith, h, a)
fewer-then (spec.Over outcome) m n k h a = tt

-- behind an answer of the machine
pub burned : (t : Turn) (fewer more limit most fuel : ℕ) → fewer ≤ more → Burns t most fuel → most_at t (fewer * (limit + 1) + fuel) ≤ more * (limit + 1) + most
burned turn.More fewer more limit most fuel h b = omega (arith, mul-le-mul_left limit h, h, b)
burned (turn.WantDocument name) fewer more limit most fuel h b = omega (arith, mul-le-mul_left limit h, h, b)
burned turn.Ended fewer more limit most fuel h b = omega arith
burned (turn.Stopped fault) fewer more limit most fuel h b = omega arith
burned (turn.Spent at) fewer more limit most fuel h b = omega arith
burned turn.Memory fewer more limit most fuel h b = omega arith

opened-events : (o : Option Document) (ds : List Document) → main_events (map open_of ds) ≤ main_events (map open_of (opened o ++ ds))
opened-events None ds = omega arith
opened-events (Some d) ds = omega arith

-- no more events of the main document are left behind an event
pub closed-events : (e : Event) (c : Core) → main_events (map open_of (documents_behind e c)) ≤ main_events (opens_of c)
closed-events (event.Start offset name attrs decls first) c = omega arith
closed-events (event.End offset) c = omega arith
closed-events (event.Chars offset text) c = omega arith
closed-events (event.CData offset text) c = omega arith
closed-events (event.Comment offset text) c = omega arith
closed-events (event.Pi offset target text) c = omega arith
closed-events (event.DocumentEnd offset) c = opened-events c.newest (reverse c.outer.items)

-- so it is once a piece was handed on
pub asks-handed : (old new : Core) (documents : List Open) → opens_of new ≡ documents → new.limits ≡ old.limits → fuel_of new.machine ≡ fuel_of old.machine → asks_of new ≡ asks_left (record (run_of old) { documents = documents })
asks-handed old new documents o l f =
    ap (λ ds. main_events ds * (new.limits.fuel + 1) + fuel_of new.machine) o
    ∙ ap (λ (x : Limits). main_events documents * (x.fuel + 1) + fuel_of new.machine) l
    ∙ ap (λ n. main_events documents * (old.limits.fuel + 1) + n) f

-- the fuel behind an event of the newest document is told by that document alone
pub fuel-front : (b : Bool) (bs : List Bool) (limit fuel : ℕ) → fuel_at (b ∷ bs) limit fuel ≡ fuel_at (b ∷ []) limit fuel
fuel-front true bs limit fuel = refl
fuel-front false bs limit fuel = refl

-- an event of the main document pays for the fuel that it renews
told-fewer : (name : Option (List ℕ)) (fewer more rest limit fuel : ℕ) → fewer < more → (of_main name fewer + rest) * (limit + 1) + fuel_at (is_none name ∷ []) limit fuel ≤ (of_main name more + rest) * (limit + 1) + fuel
told-fewer None fewer more rest limit fuel h = let less : fewer + rest + 1 ≤ more + rest = omega (arith, h) in omega (arith, mul-le-mul_left limit less, less)
told-fewer (Some n) fewer more rest limit fuel h = omega arith

told-so :
    (name : Option (List ℕ)) (fewer more rest limit limit' fuel x y z : ℕ) → fewer < more → x ≡ of_main name fewer + rest → y ≡ of_main name more + rest → limit' ≡ limit
    → z ≡ fuel_at (is_none name ∷ []) limit fuel → x * (limit' + 1) + z ≤ y * (limit + 1) + fuel
told-so name fewer more rest limit limit' fuel x y z h hx hy hl hz =
    let left : x * (limit' + 1) + z ≡ (of_main name fewer + rest) * (limit + 1) + fuel_at (is_none name ∷ []) limit fuel =
    ap (λ v. v * (limit' + 1) + z) hx ∙ ap (λ v. (of_main name fewer + rest) * (v + 1) + z) hl ∙ ap (λ v. (of_main name fewer + rest) * (limit + 1) + v) hz in
    let right : y * (limit + 1) + fuel ≡ (of_main name more + rest) * (limit + 1) + fuel = ap (λ v. v * (limit + 1) + fuel) hy in
    subst (λ v. v ≤ y * (limit + 1) + fuel) (sym left)
    (subst (λ v. (of_main name fewer + rest) * (limit + 1) + fuel_at (is_none name ∷ []) limit fuel ≤ v) (sym right) (told-fewer name fewer more rest limit fuel h))

module _ (old new : Core) (b a : Document) (was : old.newest ≡ Some b) (is : new.newest ≡ Some a) (name : a.name ≡ b.name) (outer : new.outer.items ≡ old.outer.items) where
  events-before : main_events (opens_of old) ≡ of_main b.name (events_left b.reader) + main_events (map open_of (reverse old.outer.items))
  events-before = ap (λ o. main_events (map open_of (opened o ++ reverse old.outer.items))) was

  events-after : main_events (opens_of new) ≡ of_main b.name (events_left a.reader) + main_events (map open_of (reverse old.outer.items))
  events-after =
      ap (λ o. main_events (map open_of (opened o ++ reverse new.outer.items))) is ∙ ap (λ ds. of_main a.name (events_left a.reader) + main_events (map open_of (reverse ds))) outer
      ∙ ap (λ n. of_main n (events_left a.reader) + main_events (map open_of (reverse old.outer.items))) name

  -- another document's reading changes nothing
  pub named-same : (n : List ℕ) → b.name ≡ Some n → main_events (opens_of new) ≡ main_events (opens_of old)
  named-same n h =
      events-after ∙ ap (λ m. of_main m (events_left a.reader) + main_events (map open_of (reverse old.outer.items))) h
      ∙ sym (events-before ∙ ap (λ m. of_main m (events_left b.reader) + main_events (map open_of (reverse old.outer.items))) h)

-- where the newest document tells an event
pub pull-asks : (old new : Core) (e : Event) → Pulls old (pull.Event e) new → asks_told new ≤ asks_of old
pull-asks old new e p =
    told-so p.before.name (events_left p.after.reader) (events_left p.before.reader) (main_events (map open_of (reverse old.outer.items))) old.limits.fuel new.limits.fuel
    (fuel_of old.machine) (main_events (opens_of new)) (main_events (opens_of old)) (fuel_at (mains_in (opened new.newest)) new.limits.fuel (fuel_of new.machine)) p.shrinks
    (events-after old new p.before p.after p.was p.is p.name p.outer) (events-before old new p.before p.after p.was p.is p.name p.outer)
    (ap (λ (l : Limits). l.fuel) p.own.limits)
    (ap (λ o. fuel_at (mains_in (opened o)) new.limits.fuel (fuel_of new.machine)) p.is ∙ ap (λ n. fuel_at (is_none n ∷ []) new.limits.fuel (fuel_of new.machine)) p.name
    ∙ ap (λ (l : Limits). fuel_at (is_none p.before.name ∷ []) l.fuel (fuel_of new.machine)) p.own.limits ∙ ap (λ f. fuel_at (is_none p.before.name ∷ []) old.limits.fuel f) p.fuel)

asked-so : (name : Option (List ℕ)) (b : Bool) (x y : ℕ) → b ≡ is_none name → ((n : List ℕ) → name ≡ Some n → x ≡ y) → cond b 0 x ≤ y
asked-so None b x y h k = subst (λ v. cond v 0 x ≤ y) (sym h) (omega arith)
asked-so (Some n) b x y h k = subst (λ v. cond v 0 x ≤ y) (sym h) (omega (arith, k n refl))

-- where another document needs more, as many are left
pub need-asks : (old new : Core) → Pulls old pull.Need new → asks_asked new ≤ asks_of old
need-asks old new p =
    asked-so p.before.name (is_main new.newest) (asks_of new) (asks_of old) (ap is_main p.is ∙ ap is_none p.name)
    (λ n h. ap (λ m. m * (new.limits.fuel + 1) + fuel_of new.machine) (named-same old new p.before p.after p.was p.is p.name p.outer n h)
    ∙ ap (λ (l : Limits). main_events (opens_of old) * (l.fuel + 1) + fuel_of new.machine) p.own.limits
    ∙ ap (λ f. main_events (opens_of old) * (old.limits.fuel + 1) + f) p.fuel)
