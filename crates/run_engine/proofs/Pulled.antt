-- What an answer of the newest document leaves.
use Rattle.std.proofs.Common.{◌≡◌, ◌≢◌, ◌<◌, ℕ, Bool, false, List, [], ◌∷◌, ◌++◌, Option, Some, None, length, map, reverse, refl, sym, ap, subst, ◌∙◌, arith, is_none}
use Rattle.stx_base.specs.declared.limits.Limits.{Limits}
use Rattle.stx_base.specs.declared.fault.XmlFault.{XmlFault}
use Rattle.xml_tokens.specs.declared.lexeme.Ending.{Ending}
use Rattle.xml_events.specs.Answering.{Counts, Goes, OverBehind, lists_behind}
use Rattle.xml_events.specs.Source.{IsAnswer, Leaves, Source, future}
use Rattle.xml_events.specs.Telling.{followed, pulled}
use Rattle.xml_events.specs.declared.event.Event.{Event}
use Rattle.xml_events.specs.declared.event.Event.TheVariants as event
use Rattle.xml_events.specs.declared.event.Pull.TheVariants as pull
use Rattle.template_machine.specs.Between.{Continues, EndsInnermost, IsAsking, HasRoom, behind, depth_of, documents_of, fuel_at, fuel_limit_of, fuel_of, mains_behind, mains_of}
use Rattle.template_machine.specs.declared.machine.Machine.{Machine}
use Rattle.run_engine.specs.Fitting.{Fits}
use Rattle.run_engine.specs.declared.run.Core.{Core}
use Rattle.run_engine.specs.declared.document.Document.{Document}
use Rattle.run_engine.specs.inside.Cores.{AreReadable, EndsBefore, HasFault, HasTold, IsFed, IsReadable, Pulls, Reads, documents_behind, documents_in, lists_of, lists_open, open_of, opened, opens_of, work, work_in, mains_in}
use Rattle.xml_events.specs.declared.event.Pull.{Pull}
use Rattle.run_engine.specs.Run.{IsHungry, Open}
use Rattle.run_engine.specs.Taking.{AreEnded, AreReadOn, IsReadOn, Took}
use Rattle.run_engine.proofs.Taking.{all-same}
use Rattle.run_engine.proofs.Telling.{fits-few, told-ends, told-fits, told-room, told-text}
use Rattle.run_engine.proofs.Counting.{fuel-front}

pub none-some : {A : Type 0} (x : Option A) (a : A) → x ≡ Some a → x ≡ None → ⊥
none-some x a h k = absurd cc

pub documents-read : (c : Core) (d : Document) → c.newest ≡ Some d → documents_in c ≡ d ∷ reverse c.outer.items
documents-read c d h = ap (λ o. opened o ++ reverse c.outer.items) h

-- a document goes on behind an event other than its end
readable-behind :
    (depth : ℕ) (e : Event) (b a : Source)
    → IsReadable depth b → Leaves b (pull.Event e) a → Goes b (pull.Event e) a → Counts b (pull.Event e) a
    → ((o : Option Ending) → OverBehind e o → o ≡ None)
    → IsReadable depth a
readable-behind depth e b a r leaves goes counts ov =
    let same : (more : List ℕ) (last : Bool) → length (future a more last) ≡ lists_behind e (lists_open b) =
    λ more last. counts more last ∙ ap (lists_behind e) (r.lists more last) in
    record {
      going = ov a.over (goes r.going);
      lists = λ more last. same more last ∙ sym (same [] false);
      fits = λ more last.
          told-fits depth e (future a more last) (counts more last ∙ ap (λ f. lists_behind e (length f)) (leaves more last))
          (subst (Fits depth) (leaves more last) (r.fits more last));
    }

rest-room : (depth : ℕ) (ds : List Document) → AreReadable depth ds → HasRoom depth (lists_of ds)
rest-room depth [] r = tt
rest-room depth (d ∷ ds) r = fits-few depth (future d.reader [] false) (r.0.fits [] false)

continues :
    (m : Machine) (depth : ℕ) (e : Event) (b a : Source) (ns : List ℕ)
    → depth_of m ≡ depth → documents_of m ≡ lists_open b ∷ ns → IsReadable depth b → IsAnswer b (pull.Event e) → Leaves b (pull.Event e) a → HasRoom depth ns
    → Continues m e
continues m depth e b a ns deep are r answer leaves o =
    let fits : Fits depth (followed e (future a [] false)) = subst (Fits depth) (leaves [] false) (r.fits [] false) in
    let room : HasRoom depth (behind e (lists_open b ∷ ns)) = told-room depth e (future a [] false) (lists_open b) ns (ap length (leaves [] false)) fits o in
    record {
      room = subst (λ x. HasRoom x (behind e (documents_of m))) (sym deep) (subst (λ l. HasRoom depth (behind e l)) (sym are) room);
      ends = subst (EndsInnermost e) (sym are) (told-ends e (future b [] false) ns (answer [] false));
      text = told-text depth e (future a [] false) fits;
    }

module _ (old new : Core) (e : Event) (r : Reads old) (p : Pulls old (pull.Event e) new) where
  before-list : documents_in old ≡ p.before ∷ reverse old.outer.items
  before-list = documents-read old p.before p.was

  after-list : documents_in new ≡ p.after ∷ reverse old.outer.items
  after-list = documents-read new p.after p.is ∙ ap (λ os. p.after ∷ reverse os) p.outer

  were : AreReadable old.limits.depth (p.before ∷ reverse old.outer.items)
  were = subst (AreReadable old.limits.depth) before-list r.tied.readable

  machine-lists : documents_of new.machine ≡ lists_open p.before.reader ∷ lists_of (reverse old.outer.items)
  machine-lists = p.documents ∙ r.tied.lists ∙ ap lists_of before-list

  may-continue : Continues new.machine e
  may-continue =
      continues new.machine old.limits.depth e p.before.reader p.after.reader (lists_of (reverse old.outer.items)) (p.depth ∙ r.steady.depth) machine-lists were.0 p.answer p.leaves
      (rest-room old.limits.depth (reverse old.outer.items) were.1)

  machine-mains : mains_of new.machine ≡ is_none p.before.name ∷ mains_in (reverse old.outer.items)
  machine-mains = p.mains ∙ r.tied.mains ∙ ap mains_in before-list

  fuel-is : fuel_limit_of new.machine ≡ new.limits.fuel
  fuel-is = p.fuel_limit ∙ r.steady.fuel ∙ sym (ap (λ (l : Limits). l.fuel) p.own.limits)

  renewed : fuel_at (mains_of new.machine) new.limits.fuel (fuel_of new.machine) ≡ fuel_at (mains_in (opened new.newest)) new.limits.fuel (fuel_of new.machine)
  renewed =
      ap (λ ms. fuel_at ms new.limits.fuel (fuel_of new.machine)) machine-mains
      ∙ fuel-front (is_none p.before.name) (mains_in (reverse old.outer.items)) new.limits.fuel (fuel_of new.machine)
      ∙ ap (λ n. fuel_at (is_none n ∷ []) new.limits.fuel (fuel_of new.machine)) (sym p.name)
      ∙ sym (ap (λ o. fuel_at (mains_in (opened o)) new.limits.fuel (fuel_of new.machine)) p.is)

  depth-is : depth_of new.machine ≡ new.limits.depth
  depth-is = p.depth ∙ r.steady.depth ∙ sym (ap (λ (l : Limits). l.depth) p.own.limits)

  goes-on :
      documents_behind e new ≡ documents_in new
      → ((n : ℕ) (ns : List ℕ) → behind e (n ∷ ns) ≡ lists_behind e n ∷ ns)
      → ((m : Bool) (ms : List Bool) → mains_behind e (m ∷ ms) ≡ m ∷ ms)
      → ((o : Option Ending) → OverBehind e o → o ≡ None)
      → EndsBefore e new
      → HasTold e new
  goes-on db bh mh ov w = record {
    bare = λ h. absurd (none-some new.newest p.after p.is h);
    depth = depth-is;
    fuel = fuel-is;
    renews = renewed;
    mains =
        ap (mains_behind e) machine-mains ∙ mh (is_none p.before.name) (mains_in (reverse old.outer.items))
        ∙ ap (λ n. is_none n ∷ mains_in (reverse old.outer.items)) (sym p.name) ∙ sym (ap mains_in (db ∙ after-list));
    asking = p.asking;
    continues = may-continue;
    whole = w;
    lists =
        ap (behind e) machine-lists ∙ bh (lists_open p.before.reader) (lists_of (reverse old.outer.items))
        ∙ ap (λ n. n ∷ lists_of (reverse old.outer.items)) (sym (p.counts [] false)) ∙ sym (ap lists_of (db ∙ after-list));
    readable =
        subst (λ (l : Limits). AreReadable l.depth (documents_behind e new)) (sym p.own.limits)
        (subst (AreReadable old.limits.depth) (sym (db ∙ after-list)) (readable-behind old.limits.depth e p.before.reader p.after.reader were.0 p.leaves p.goes p.counts ov, were.1));
  }

  -- where the newest document has ended, those around it are left
  ends : documents_behind e new ≡ reverse new.outer.items → ((n : ℕ) (ns : List ℕ) → behind e (n ∷ ns) ≡ ns) → ((m : Bool) (ms : List Bool) → mains_behind e (m ∷ ms) ≡ ms) → EndsBefore e new → HasTold e new
  ends db bh mh w = record {
    bare = λ h. absurd (none-some new.newest p.after p.is h);
    depth = depth-is;
    fuel = fuel-is;
    renews = renewed;
    mains =
        ap (mains_behind e) machine-mains ∙ mh (is_none p.before.name) (mains_in (reverse old.outer.items))
        ∙ sym (ap mains_in (db ∙ ap reverse p.outer));
    asking = p.asking;
    continues = may-continue;
    whole = w;
    lists =
        ap (behind e) machine-lists ∙ bh (lists_open p.before.reader) (lists_of (reverse old.outer.items))
        ∙ sym (ap lists_of (db ∙ ap reverse p.outer));
    readable =
        subst (λ (l : Limits). AreReadable l.depth (documents_behind e new)) (sym p.own.limits)
        (subst (AreReadable old.limits.depth) (sym (db ∙ ap reverse p.outer)) were.1);
  }

  -- an event is one fewer
  pub pull-works : work new < work old
  pull-works = omega (arith, ap work_in after-list, ap work_in before-list, p.shrinks)

-- an event of the newest document may be handed on
pub told : (old new : Core) (e : Event) → Reads old → Pulls old (pull.Event e) new → HasTold e new
told old new (event.Start offset name attrs decls first) r p = goes-on old new (event.Start offset name attrs decls first) r p refl (λ n ns. refl) (λ m ms. refl) (λ o h. h) tt
told old new (event.End offset) r p = goes-on old new (event.End offset) r p refl (λ n ns. refl) (λ m ms. refl) (λ o h. h) tt
told old new (event.Chars offset text) r p = goes-on old new (event.Chars offset text) r p refl (λ n ns. refl) (λ m ms. refl) (λ o h. h) tt
told old new (event.CData offset text) r p = goes-on old new (event.CData offset text) r p refl (λ n ns. refl) (λ m ms. refl) (λ o h. h) tt
told old new (event.Comment offset text) r p = goes-on old new (event.Comment offset text) r p refl (λ n ns. refl) (λ m ms. refl) (λ o h. h) tt
told old new (event.Pi offset target text) r p = goes-on old new (event.Pi offset target text) r p refl (λ n ns. refl) (λ m ms. refl) (λ o h. h) tt
told old new (event.DocumentEnd offset) r p = ends old new (event.DocumentEnd offset) r p refl (λ n ns. refl) (λ m ms. refl) (subst (λ o. AreEnded (map open_of (opened o))) (sym p.is) (p.ended ∙ p.whole, tt))

-- where more bytes are wanted, the newest document has none that settle a node
pub hungry : (old new : Core) → Pulls old pull.Need new → IsFed new
hungry old new p =
    let fed : IsHungry p.after.reader = record {
      unended = p.ended ∙ p.answer.1;
      told = p.goes.1;
      needs = ap pulled (p.leaves [] false) ∙ p.answer.0;
      within = omega (arith, p.wants refl, p.fed_is, ap (λ (l : Limits). l.input) p.limits);
    } in
    (p.after, (p.is, fed))

-- and all is as it was
pub reads-still : (old new : Core) → Reads old → Pulls old pull.Need new → Reads new
reads-still old new r p =
    let before-list : documents_in old ≡ p.before ∷ reverse old.outer.items = documents-read old p.before p.was in
    let after-list : documents_in new ≡ p.after ∷ reverse old.outer.items = documents-read new p.after p.is ∙ ap (λ os. p.after ∷ reverse os) p.outer in
    let were : AreReadable old.limits.depth (p.before ∷ reverse old.outer.items) = subst (AreReadable old.limits.depth) before-list r.tied.readable in
    let now : IsReadable old.limits.depth p.after.reader = record {
      going = p.goes.0;
      lists = λ more last. ap length (p.leaves more last) ∙ were.0.lists more last ∙ sym (ap length (p.leaves [] false));
      fits = λ more last. subst (Fits old.limits.depth) (sym (p.leaves more last)) (were.0.fits more last);
    } in
    record {
      steady = record {
        bare = λ h. absurd (none-some new.newest p.after p.is h);
        depth = p.depth ∙ r.steady.depth ∙ sym (ap (λ (l : Limits). l.depth) p.own.limits);
        fuel = p.fuel_limit ∙ r.steady.fuel ∙ sym (ap (λ (l : Limits). l.fuel) p.own.limits);
      };
      asking = p.asking;
      tied = record {
        mains =
            p.mains ∙ r.tied.mains ∙ ap mains_in before-list ∙ ap (λ n. is_none n ∷ mains_in (reverse old.outer.items)) (sym p.name) ∙ sym (ap mains_in after-list);
        lists =
            p.documents ∙ r.tied.lists ∙ ap lists_of before-list
            ∙ ap (λ n. n ∷ lists_of (reverse old.outer.items)) (sym (ap length (p.leaves [] false))) ∙ sym (ap lists_of after-list);
        readable =
            subst (λ (l : Limits). AreReadable l.depth (documents_in new)) (sym p.own.limits)
            (subst (AreReadable old.limits.depth) (sym after-list) (now, were.1));
      };
    }

pub faulty : (old new : Core) (fault : XmlFault) → Pulls old (pull.Bad fault) new → HasFault fault new
faulty old new fault p = (p.after, (p.is, λ more last. ap pulled (p.leaves more last) ∙ p.answer more last))

-- the end of a document that has ended isn't told again
pub never-ends : (old new : Core) → Reads old → Pulls old pull.End new → ⊥
never-ends old new r p =
    let were : AreReadable old.limits.depth (p.before ∷ reverse old.outer.items) = subst (AreReadable old.limits.depth) (documents-read old p.before p.was) r.tied.readable in
    none-some p.before.reader.over _ p.goes were.0.going

-- a document is read
pub has-newest : (c : Core) → Reads c → ((m : Machine) → IsAsking m → documents_of m ≢ []) → c.newest ≡ None → ⊥
has-newest c r law h =
    let none : documents_in c ≡ [] = ap (λ o. opened o ++ reverse c.outer.items) h ∙ ap reverse (r.steady.bare h) in
    law c.machine r.asking (r.tied.lists ∙ ap lists_of none)

-- the newest document was read on
pub pull-took : (old new : Core) (x : Pull) → Pulls old x new → Took (opens_of old) (opens_of new)
pull-took old new x p =
    let rest : List Open = map open_of (reverse old.outer.items) in
    let was : opens_of old ≡ open_of p.before ∷ rest = ap (map open_of) (documents-read old p.before p.was) in
    let is : opens_of new ≡ open_of p.after ∷ rest = ap (map open_of) (documents-read new p.after p.is ∙ ap (λ os. p.after ∷ reverse os) p.outer) in
    let on : IsReadOn (open_of p.before) (open_of p.after) = record { name = p.name; fed_is = p.fed_is; ended = p.ended; limits = p.limits } in
    record {
      gone = [];
      kept = opens_of old;
      parts = refl;
      ended = tt;
      on = subst (AreReadOn (opens_of old)) (sym is) (subst (λ ds. AreReadOn ds (open_of p.after ∷ rest)) (sym was) (on, all-same rest));
    }
