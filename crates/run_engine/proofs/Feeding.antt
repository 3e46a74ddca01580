-- What pieces and new documents leave.
use Rattle.std.proofs.Common.{◌≡◌, ℕ, Bool, true, false, List, [], ◌∷◌, ◌++◌, Some, None, length, reverse, sym, ap, subst, ◌∙◌, is_none}
use Rattle.stx_base.specs.declared.limits.Limits.{Limits}
use Rattle.xml_events.specs.Document.{doc_for}
use Rattle.xml_events.specs.Source.{Source, ended_there, fed_with, future}
use Rattle.template_machine.specs.Between.{GoesOn, IsAsking, IsAskingForDocument, depth_of, documents_of, fuel_limit_of, mains_of}
use Rattle.template_machine.specs.declared.machine.Machine.{Machine}
use Rattle.template_machine.specs.declared.turn.Turn.{Turn}
use Rattle.template_machine.specs.declared.turn.Turn.TheVariants as turn
use Rattle.run_engine.specs.Fitting.{DocumentsFit, Fits}
use Rattle.run_engine.specs.declared.run.Core.{Core}
use Rattle.run_engine.specs.declared.document.Document.{Document}
use Rattle.run_engine.specs.inside.Cores.{AreReadable, IsFresh, IsReadable, IsTurned, Opens, Reads, Waits, documents_in, lists_of, lists_open, opened, mains_in}
use Rattle.run_engine.proofs.Pulled.{documents-read, none-some}
use Rattle.run_engine.proofs.Turning.{turned-by}

-- a document stays readable where what is to come is what was to come of other bytes
module _ (depth : ℕ) (b a : Source) (g : List ℕ → List ℕ) (k : Bool → Bool) (over : a.over ≡ b.over)
    (leads : (more : List ℕ) (last : Bool) → future a more last ≡ future b (g more) (k last)) (r : IsReadable depth b) where
  same-lists : (more : List ℕ) (last : Bool) → length (future a more last) ≡ lists_open b
  same-lists more last = ap length (leads more last) ∙ r.lists (g more) (k last)

  pub changed-lists : lists_open a ≡ lists_open b
  changed-lists = same-lists [] false

  pub changed-readable : IsReadable depth a
  changed-readable = record {
    going = over ∙ r.going;
    lists = λ more last. same-lists more last ∙ sym (same-lists [] false);
    fits = λ more last. subst (Fits depth) (sym (leads more last)) (r.fits (g more) (k last));
  }

-- a run reads on where its newest document stays readable
pub newest-changed :
    (old new : Core) (b a : Document) → Reads old → old.newest ≡ Some b → new.newest ≡ Some a → a.name ≡ b.name
    → (IsReadable old.limits.depth b.reader → IsReadable old.limits.depth a.reader) → (IsReadable old.limits.depth b.reader → lists_open a.reader ≡ lists_open b.reader)
    → new.outer.items ≡ old.outer.items → new.limits ≡ old.limits → new.machine ≡ old.machine
    → Reads new
newest-changed old new b a r was is name readable lists outer limits machine =
    let before-list : documents_in old ≡ b ∷ reverse old.outer.items = documents-read old b was in
    let after-list : documents_in new ≡ a ∷ reverse old.outer.items = documents-read new a is ∙ ap (λ os. a ∷ reverse os) outer in
    let were : AreReadable old.limits.depth (b ∷ reverse old.outer.items) = subst (AreReadable old.limits.depth) before-list r.tied.readable in
    record {
      steady = record {
        bare = λ h. absurd (none-some new.newest a is h);
        depth = ap depth_of machine ∙ r.steady.depth ∙ sym (ap (λ (l : Limits). l.depth) limits);
        fuel = ap fuel_limit_of machine ∙ r.steady.fuel ∙ sym (ap (λ (l : Limits). l.fuel) limits);
      };
      asking = subst IsAsking (sym machine) r.asking;
      tied = record {
        mains =
            ap mains_of machine ∙ r.tied.mains ∙ ap mains_in before-list
            ∙ ap (λ n. is_none n ∷ mains_in (reverse old.outer.items)) (sym name) ∙ sym (ap mains_in after-list);
        lists =
            ap documents_of machine ∙ r.tied.lists ∙ ap lists_of before-list
            ∙ ap (λ n. n ∷ lists_of (reverse old.outer.items)) (sym (lists were.0)) ∙ sym (ap lists_of after-list);
        readable =
            subst (λ (l : Limits). AreReadable l.depth (documents_in new)) (sym limits)
            (subst (AreReadable old.limits.depth) (sym after-list) (readable were.0, were.1));
      };
    }

pub fed-reads :
    (old new : Core) (b a : Document) (piece : List ℕ) → Reads old → old.newest ≡ Some b → new.newest ≡ Some a → a.name ≡ b.name → a.reader ≡ fed_with b.reader piece
    → ((more : List ℕ) (last : Bool) → future a.reader more last ≡ future b.reader (piece ++ more) last)
    → new.outer.items ≡ old.outer.items → new.limits ≡ old.limits → new.machine ≡ old.machine
    → Reads new
fed-reads old new b a piece r was is name fed leads outer limits machine =
    newest-changed old new b a r was is name
    (changed-readable old.limits.depth b.reader a.reader (λ more. piece ++ more) (λ last. last) (ap (λ (s : Source). s.over) fed) leads)
    (changed-lists old.limits.depth b.reader a.reader (λ more. piece ++ more) (λ last. last) (ap (λ (s : Source). s.over) fed) leads)
    outer limits machine

pub ended-reads :
    (old new : Core) (b a : Document) → Reads old → old.newest ≡ Some b → new.newest ≡ Some a → a.name ≡ b.name → a.reader ≡ ended_there b.reader
    → ((more : List ℕ) (last : Bool) → future a.reader more last ≡ future b.reader [] true)
    → new.outer.items ≡ old.outer.items → new.limits ≡ old.limits → new.machine ≡ old.machine
    → Reads new
ended-reads old new b a r was is name ended leads outer limits machine =
    newest-changed old new b a r was is name
    (changed-readable old.limits.depth b.reader a.reader (λ more. []) (λ last. true) (ap (λ (s : Source). s.over) ended) leads)
    (changed-lists old.limits.depth b.reader a.reader (λ more. []) (λ last. true) (ap (λ (s : Source). s.over) ended) leads)
    outer limits machine

-- a document that begins is readable
module _ (limits : Limits) (strip cdata : Bool) (s : Source) (over : s.over ≡ None)
    (is : (bytes : List ℕ) (ended : Bool) → future s bytes ended ≡ doc_for limits strip cdata bytes ended ∷ []) (fit : DocumentsFit) where
  pub begun-lists : lists_open s ≡ 1
  begun-lists = ap length (is [] false)

  pub begun-readable : IsReadable limits.depth s
  begun-readable = record {
    going = over;
    lists = λ more last. ap length (is more last) ∙ sym begun-lists;
    fits = λ more last. subst (Fits limits.depth) (sym (is more last)) (fit limits strip cdata more last);
  }

-- behind the start
pub started :
    (old new : Core) → IsFresh old → new.newest ≡ old.newest → new.outer.items ≡ old.outer.items → new.limits ≡ old.limits → depth_of new.machine ≡ depth_of old.machine
    → fuel_limit_of new.machine ≡ fuel_limit_of old.machine → (t : Turn) → (t ≡ turn.More → IsAsking new.machine) → ((name : List ℕ) → t ≡ turn.WantDocument name → IsAskingForDocument new.machine)
    → (t ≡ turn.Ended → documents_of new.machine ≡ []) → (GoesOn t → documents_of new.machine ≡ 1 ∷ []) → (GoesOn t → mains_of new.machine ≡ true ∷ [])
    → IsTurned t new
started old new f n o l deep fuel t a w none d g =
    let same : documents_in new ≡ documents_in old = ap (λ x. opened x ++ reverse new.outer.items) n ∙ ap (λ xs. opened old.newest ++ reverse xs) o in
    turned-by new (1 ∷ []) (true ∷ [])
    (record {
      bare = λ x. o ∙ f.steady.bare (sym n ∙ x);
      depth = deep ∙ f.steady.depth ∙ sym (ap (λ (x : Limits). x.depth) l);
      fuel = fuel ∙ f.steady.fuel ∙ sym (ap (λ (x : Limits). x.fuel) l);
    })
    (sym f.lists ∙ sym (ap lists_of same))
    (sym f.mains ∙ sym (ap mains_in same))
    (subst (λ (x : Limits). AreReadable x.depth (documents_in new)) (sym l) (subst (AreReadable old.limits.depth) (sym same) f.readable))
    t a w none d g

-- behind word that the wanted document is there
pub opened-turned :
    (old wider new : Core) → Waits old → Opens old wider → new.newest ≡ wider.newest → new.outer.items ≡ wider.outer.items → new.limits ≡ wider.limits
    → depth_of new.machine ≡ depth_of wider.machine → fuel_limit_of new.machine ≡ fuel_limit_of wider.machine
    → (t : Turn) → (t ≡ turn.More → IsAsking new.machine) → ((name : List ℕ) → t ≡ turn.WantDocument name → IsAskingForDocument new.machine)
    → (t ≡ turn.Ended → documents_of new.machine ≡ []) → (GoesOn t → documents_of new.machine ≡ 1 ∷ documents_of wider.machine)
    → (GoesOn t → mains_of new.machine ≡ false ∷ mains_of wider.machine)
    → IsTurned t new
opened-turned old wider new w h n o l deep fuel t a want none d g =
    let same : documents_in new ≡ h.document ∷ documents_in old = ap (λ x. opened x ++ reverse new.outer.items) n ∙ ap (λ xs. opened wider.newest ++ reverse xs) o ∙ h.documents in
    let machine : wider.machine ≡ old.machine = ap (λ (c : Core). c.machine) h.others in
    let limit : new.limits ≡ old.limits = l ∙ ap (λ (c : Core). c.limits) h.others in
    turned-by new (1 ∷ documents_of wider.machine) (false ∷ mains_of wider.machine)
    (record {
      bare = λ x. o ∙ h.bare (sym n ∙ x);
      depth = deep ∙ ap depth_of machine ∙ w.steady.depth ∙ sym (ap (λ (x : Limits). x.depth) limit);
      fuel = fuel ∙ ap fuel_limit_of machine ∙ w.steady.fuel ∙ sym (ap (λ (x : Limits). x.fuel) limit);
    })
    (ap (λ (x : Machine). 1 ∷ documents_of x) machine ∙ ap (λ ns. 1 ∷ ns) w.tied.lists ∙ ap (λ n. n ∷ lists_of (documents_in old)) (sym h.lists) ∙ sym (ap lists_of same))
    (ap (λ (x : Machine). false ∷ mains_of x) machine ∙ ap (λ ms. false ∷ ms) w.tied.mains ∙ ap (λ m. m ∷ mains_in (documents_in old)) (sym h.named) ∙ sym (ap mains_in same))
    (subst (λ (x : Limits). AreReadable x.depth (documents_in new)) (sym limit) (subst (AreReadable old.limits.depth) (sym same) (h.readable, w.tied.readable)))
    t a want none d g
