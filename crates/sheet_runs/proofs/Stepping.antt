-- How a run goes on: pieces are handed in, and what is settled is written.
use Rattle.std.proofs.Common.{◌≡◌, ℕ, ◌+◌, ◌≤◌, ◌^◌, Bool, false, List, [], ◌∷◌, ◌++◌, length, map, sum, Option, Some, None, refl, sym, ap, subst, ◌∙◌, arith, length-append}
use Rattle.std.specs.List.{list_any}
use Rattle.std.specs.Option.{option_map}
use Rattle.std.proofs.lemmas.Bool.{false≢true}
use Rattle.std.proofs.lemmas.List.{append-nil}
use Rattle.stx_base.specs.declared.limits.Limits.{Limits}
use Rattle.stx_host.specs.Before.{AtMainReads, Between, is_main_read, main_read}
use Rattle.stx_host.specs.Outside.{Outside, SameCounts, wrote, writes}
use Rattle.stx_host.specs.declared.act.Act.{Act}
use Rattle.stx_host.specs.declared.act.Lane.TheVariants.{Note, Out}
use Rattle.stx_host.proofs.Stretches.{between_joins, between_writes, main_read-append, main_read-writes, main_reads_writes, nothing_between}
use Rattle.run_engine.specs.Run.{MayCome, Run, Says, Stands, at_start}
use Rattle.run_engine.specs.Taking.{handed}
use Rattle.run_engine.specs.declared.piece.Piece.{Piece}
use Rattle.run_engine.specs.declared.piece.Piece.TheVariants as piece
use Rattle.run_engine.specs.declared.piece.Pumped.{Pumped}
use Rattle.sheet_runs.specs.Reading.{main_gots}
use Rattle.sheet_runs.specs.Runs.{HandsMain, IsAsked, IsBegun}
use Rattle.sheet_runs.specs.Talk.{Exchange, Gives, Leads, beside_in, beside_with, is_main_end, main_bytes, main_ends, main_in, name_asked, none_beside}
use Rattle.sheet_runs.specs.Writing.{counted}
use Rattle.sheet_runs.specs.declared.main_document.Main.{Main}
use Rattle.sheet_runs.specs.declared.main_document.Main.TheVariants.{Host as OfHost, Sample}
use Rattle.sheet_runs.specs.declared.running.Running.{Running}
use Rattle.sheet_runs.specs.inside.Running.{AreHeld, AreLimited, Driving, Handing, HandsOn, HandsOthersOn, IsFresh, IsTied, UnlessLacking, all_going, going_in, main_going, place_in}
use Rattle.sheet_runs.proofs.Acting.{alone-then, gots-writes, none-read, none-then, none-writes, once-same, opens-nothing, opens-writes}
use Rattle.sheet_runs.proofs.Besides.{handed-still, none-handed}
use Rattle.sheet_runs.proofs.Documents.{going-took, limited-took, unless-took}
use Rattle.sheet_runs.proofs.Talking.{beside-then, bytes-then, ends-then, leads-then, main-then, names-then, notes-then}

-- Counts

pub same-counts : (o : Outside) → SameCounts o o
same-counts o = record { doc = refl; main = refl; out = refl; note = refl }

pub counts-then : (a b c : Outside) → SameCounts a b → SameCounts b c → SameCounts a c
counts-then a b c h k = record { doc = k.doc ∙ h.doc; main = k.main ∙ h.main; out = k.out ∙ h.out; note = k.note ∙ h.note }

pub counted-more : (m n : ℕ) → counted (counted m + n) ≡ counted (m + n)
counted-more m n = omega arith

-- The main document

hands-begun : (main : Main) (o : Outside) → HandsOn main main o [] [] false
hands-begun OfHost o = (refl, refl, λ main is. ((main, refl), λ e. absurd (false≢true e)))
hands-begun (Sample pieces) o = (refl, refl, λ e. absurd (false≢true e))

-- acts that read nothing of it
pub hands-still : (was is : Main) (old : Outside) (acts more : List Act) (handed : List ℕ) (ended : Bool) → main_gots more ≡ [] → main_read more ≡ 0 → list_any is_main_read more ≡ false
    → HandsOn was is old acts handed ended → HandsOn was is old (acts ++ more) handed ended
hands-still OfHost OfHost old acts more handed ended gots none reads h =
    (once-same ended acts more gots h.0, h.1 ∙ omega (arith, main_read-append acts more, none), h.2)
hands-still (Sample pieces) (Sample left) old acts more handed ended gots none reads h = (none-then acts more h.0 reads, h.1, h.2)
hands-still OfHost (Sample left) old acts more handed ended gots none reads h = absurd h
hands-still (Sample pieces) OfHost old acts more handed ended gots none reads h = absurd h

pub hands-of : (was is : Main) (old : Outside) (acts : List Act) (handed : List ℕ) (ended : Bool) → HandsOn was is old acts handed ended → HandsMain was old acts handed ended
hands-of OfHost OfHost old acts handed ended h = h
hands-of (Sample pieces) (Sample left) old acts handed ended h = (h.0, (left, h.1, h.2))
hands-of OfHost (Sample left) old acts handed ended h = absurd h
hands-of (Sample pieces) OfHost old acts handed ended h = absurd h

-- A run that begins

module _ (engine : Run) (main : Main) (r : Running) (fresh : IsFresh engine main r) (begun : IsBegun r.engine) where
  by-start : (P : Run → Type 0) → P (at_start begun.0 r.engine.limits r.engine.machine) → P r.engine
  by-start P p = subst P (sym begun.1) p

  pub begins : (o : Outside) → r.engine.limits.input ≤ 2 ^ 50 → Handing r.engine r.main o o r piece.Start
  begins o most = record {
    acts = [];
    out = [];
    note = [];
    between = nothing_between o;
    talk = [];
    leads = refl;
    may = by-start (λ e. MayCome e.stage piece.Start) tt;
    nothing = fresh.out;
    no_notes = fresh.notes;
    written = refl;
    noted = refl;
    reads = λ k is_read. absurd (false≢true is_read);
    handed_in = [];
    handed_is = by-start (λ e. [] ≡ main_bytes e.stage piece.Start) refl;
    ended = false;
    ended_is = by-start (λ e. false ≡ is_main_end e.stage piece.Start) refl;
    hands = hands-begun r.main o;
    beside = subst (HandsOthersOn o o.to_come (beside_with r.engine.stage piece.Start none_beside)) (sym fresh.others)
        (by-start (λ e. HandsOthersOn o o.to_come (beside_with e.stage piece.Start none_beside) []) (none-handed o o.to_come));
    opened = by-start (λ e. [] ≡ map (place_in o) (name_asked e.stage)) refl;
    alone = λ none. refl;
    held = subst (λ os. AreHeld o.open_ids o.open_ids os) (sym fresh.others) (record { new = tt; ids = held-none o.open_ids });
    few = omega (arith, ap length fresh.others);
    counts = same-counts o;
    tied = record {
      going = subst (λ os. going_in r.engine.documents ≡ all_going os false 0) (sym fresh.others) (by-start (λ e. going_in e.documents ≡ main_going false 0) refl);
      limited = by-start (λ e. AreLimited r.engine.limits e.documents) (refl, tt);
    };
    most = most;
    input = fresh.input;
    output = fresh.output;
  } where
    held-none : (told : Option (List ℕ)) → told ≡ option_map (λ ids. ids ++ []) told
    held-none None = refl
    held-none (Some ids) = ap Some (sym (append-nil ids))

-- The engine answers

module _ (start : Run) (main : Main) (old now : Outside) (r new : Running) (p : Piece) (asked : Pumped) where
  pub pumps : Handing start main old now r p → Gives r.engine (record { piece = p; bytes = new.out.items; notes = new.notes.items; asked = asked; run = new.engine })
      → new ≡ record r { engine = new.engine; out = new.out; notes = new.notes } → Driving start main old now new asked
  pumps h gives same =
      let x : Exchange = record { piece = p; bytes = new.out.items; notes = new.notes.items; asked = asked; run = new.engine } in
      let talk = h.talk ++ x ∷ [] in
      let others : new.others.items ≡ r.others.items = ap (λ (s : Running). s.others.items) same in
      let in_all : h.handed_in ≡ main_in start talk = h.handed_is ∙ sym (main-then start r.engine h.talk x h.leads) in
      let at_end : h.ended ≡ main_ends start talk = h.ended_is ∙ sym (ends-then start r.engine h.talk x h.leads) in
      record {
        acts = h.acts;
        out = h.out;
        note = h.note;
        between = h.between;
        talk = talk;
        leads = leads-then start r.engine h.talk x h.leads gives;
        says = gives.says;
        stands = gives.stands;
        written = ap (λ l. l ++ new.out.items) h.written ∙ sym (bytes-then h.talk x);
        noted = ap (λ l. l ++ new.notes.items) h.noted ∙ sym (notes-then h.talk x);
        reads = h.reads;
        hands = subst (λ m. HandsOn main m old h.acts (main_in start talk) (main_ends start talk)) (sym (ap (λ (s : Running). s.main) same))
            (subst (λ b. HandsOn main r.main old h.acts (main_in start talk) b) at_end (subst (λ l. HandsOn main r.main old h.acts l h.ended) in_all h.hands));
        beside = subst (HandsOthersOn old now.to_come (beside_in none_beside start talk)) (sym others)
            (subst (λ b. HandsOthersOn old now.to_come b r.others.items) (sym (beside-then none_beside start r.engine h.talk x h.leads)) h.beside);
        opened = h.opened ∙ ap (map (place_in old)) (sym (names-then start r.engine h.talk x h.leads));
        alone = h.alone;
        held = subst (AreHeld old.open_ids now.open_ids) (sym others) h.held;
        few = omega (arith, ap length others, h.few);
        counts = h.counts;
        tied = unless-took new.engine.stage (handed r.engine p) new.engine.documents
            (IsTied new.engine new.engine.documents new.others.items (main_ends start talk) (length (main_in start talk)))
            gives.took (λ took. record {
              going = going-took (handed r.engine p) new.engine.documents took ∙ h.tied.going
                  ∙ ap (λ os. all_going os h.ended (length h.handed_in)) (sym others)
                  ∙ ap (λ b. all_going new.others.items b (length h.handed_in)) at_end
                  ∙ ap (λ l. all_going new.others.items (main_ends start talk) (length l)) in_all;
              limited = subst (λ limits. AreLimited limits new.engine.documents) (sym gives.same.limits)
                  (limited-took r.engine.limits (handed r.engine p) new.engine.documents took h.tied.limited);
            });
        most = subst (λ (l : Limits). l.input ≤ 2 ^ 50) (sym gives.same.limits) h.most;
        input = ap (λ (s : Running). s.input) same ∙ h.input ∙ ap (λ l. counted (length l)) in_all;
        output = ap (λ (s : Running). s.output) same ∙ h.output;
      }

-- What is settled is written

module _ (start : Run) (main : Main) (old now new : Outside) (r s : Running) (asked : Pumped) (bytes lens : List ℕ) where
  pub wrote-out : Driving start main old now r asked → bytes ≡ r.out.items → sum lens ≡ length bytes → new ≡ wrote now Out lens bytes
      → s ≡ record r { out = s.out; output = s.output } → s.out.items ≡ [] → s.output ≡ counted (r.output + length bytes) → Driving start main old new s asked
  wrote-out d is total wrote_all same gone count =
      let acts = d.acts ++ writes Out lens in
      let others : s.others.items ≡ r.others.items = ap (λ (s : Running). s.others.items) same in
      let engine : s.engine ≡ r.engine = ap (λ (s : Running). s.engine) same in
      let joined : Between old new acts (d.out ++ bytes) (d.note ++ []) =
      between_joins old now new d.acts (writes Out lens) d.out bytes d.note [] d.between (between_writes now new Out lens bytes total wrote_all) in
      record {
        acts = acts;
        out = d.out ++ bytes;
        note = d.note;
        between = subst (Between old new acts (d.out ++ bytes)) (append-nil d.note) joined;
        talk = d.talk;
        leads = subst (Leads start d.talk) (sym engine) d.leads;
        says = subst (λ (e : Run). Says asked e.stage) (sym engine) d.says;
        stands = subst Stands (sym engine) d.stands;
        written = ap (λ l. (d.out ++ bytes) ++ l) gone ∙ append-nil (d.out ++ bytes) ∙ ap (λ l. d.out ++ l) is ∙ d.written;
        noted = ap (λ (s : Running). d.note ++ s.notes.items) same ∙ d.noted;
        reads = subst (λ n. AtMainReads acts (d.out ++ bytes) n (IsAsked (old.to_come 0) start)) (append-nil d.note)
            (main_reads_writes d.acts Out lens d.out bytes d.note [] (IsAsked (old.to_come 0) start) d.between.out_written d.between.note_written d.reads);
        hands = subst (λ m. HandsOn main m old acts (main_in start d.talk) (main_ends start d.talk)) (sym (ap (λ (s : Running). s.main) same))
            (hands-still main r.main old d.acts (writes Out lens) (main_in start d.talk) (main_ends start d.talk) (gots-writes Out lens) (sym (main_read-writes Out lens)) (none-writes Out lens) d.hands);
        beside = subst (HandsOthersOn old new.to_come (beside_in none_beside start d.talk)) (sym others)
            (handed-still old now.to_come new.to_come (beside_in none_beside start d.talk) r.others.items (ap (λ o. o.to_come) wrote_all) d.beside);
        opened = opens-nothing d.acts (writes Out lens) (opens-writes Out lens) ∙ d.opened;
        alone = alone-then d.acts (writes Out lens) (opens-writes Out lens) (none-read Out lens) d.alone;
        held = subst (λ ids. AreHeld old.open_ids ids s.others.items) (sym (ap (λ o. o.open_ids) wrote_all)) (subst (AreHeld old.open_ids now.open_ids) (sym others) d.held);
        few = omega (arith, ap length others, d.few, ap length (opens-nothing d.acts (writes Out lens) (opens-writes Out lens)));
        counts = counts-then old now new d.counts
            (record { doc = ap (λ o. o.doc_faults) wrote_all; main = ap (λ o. o.main_faults) wrote_all; out = ap (λ o. o.out_faults) wrote_all; note = ap (λ o. o.note_faults) wrote_all });
        tied = subst (λ os. UnlessLacking s.engine.stage (IsTied s.engine s.engine.documents os (main_ends start d.talk) (length (main_in start d.talk)))) (sym others)
            (subst (λ (e : Run). UnlessLacking e.stage (IsTied e e.documents r.others.items (main_ends start d.talk) (length (main_in start d.talk)))) (sym engine) d.tied);
        most = subst (λ (e : Run). e.limits.input ≤ 2 ^ 50) (sym engine) d.most;
        input = ap (λ (s : Running). s.input) same ∙ d.input;
        output = count ∙ ap (λ n. counted (n + length bytes)) d.output ∙ counted-more (length d.out) (length bytes) ∙ ap counted (sym (length-append d.out bytes));
      }

  pub wrote-notes : Driving start main old now r asked → bytes ≡ r.notes.items → sum lens ≡ length bytes → new ≡ wrote now Note lens bytes
      → s ≡ record r { notes = s.notes } → s.notes.items ≡ [] → Driving start main old new s asked
  wrote-notes d is total wrote_all same gone =
      let acts = d.acts ++ writes Note lens in
      let others : s.others.items ≡ r.others.items = ap (λ (s : Running). s.others.items) same in
      let engine : s.engine ≡ r.engine = ap (λ (s : Running). s.engine) same in
      let joined : Between old new acts (d.out ++ []) (d.note ++ bytes) =
      between_joins old now new d.acts (writes Note lens) d.out [] d.note bytes d.between (between_writes now new Note lens bytes total wrote_all) in
      record {
        acts = acts;
        out = d.out;
        note = d.note ++ bytes;
        between = subst (λ o. Between old new acts o (d.note ++ bytes)) (append-nil d.out) joined;
        talk = d.talk;
        leads = subst (Leads start d.talk) (sym engine) d.leads;
        says = subst (λ (e : Run). Says asked e.stage) (sym engine) d.says;
        stands = subst Stands (sym engine) d.stands;
        written = ap (λ (s : Running). d.out ++ s.out.items) same ∙ d.written;
        noted = ap (λ l. (d.note ++ bytes) ++ l) gone ∙ append-nil (d.note ++ bytes) ∙ ap (λ l. d.note ++ l) is ∙ d.noted;
        reads = subst (λ o. AtMainReads acts o (d.note ++ bytes) (IsAsked (old.to_come 0) start)) (append-nil d.out)
            (main_reads_writes d.acts Note lens d.out [] d.note bytes (IsAsked (old.to_come 0) start) d.between.out_written d.between.note_written d.reads);
        hands = subst (λ m. HandsOn main m old acts (main_in start d.talk) (main_ends start d.talk)) (sym (ap (λ (s : Running). s.main) same))
            (hands-still main r.main old d.acts (writes Note lens) (main_in start d.talk) (main_ends start d.talk) (gots-writes Note lens) (sym (main_read-writes Note lens)) (none-writes Note lens) d.hands);
        beside = subst (HandsOthersOn old new.to_come (beside_in none_beside start d.talk)) (sym others)
            (handed-still old now.to_come new.to_come (beside_in none_beside start d.talk) r.others.items (ap (λ o. o.to_come) wrote_all) d.beside);
        opened = opens-nothing d.acts (writes Note lens) (opens-writes Note lens) ∙ d.opened;
        alone = alone-then d.acts (writes Note lens) (opens-writes Note lens) (none-read Note lens) d.alone;
        held = subst (λ ids. AreHeld old.open_ids ids s.others.items) (sym (ap (λ o. o.open_ids) wrote_all)) (subst (AreHeld old.open_ids now.open_ids) (sym others) d.held);
        few = omega (arith, ap length others, d.few, ap length (opens-nothing d.acts (writes Note lens) (opens-writes Note lens)));
        counts = counts-then old now new d.counts
            (record { doc = ap (λ o. o.doc_faults) wrote_all; main = ap (λ o. o.main_faults) wrote_all; out = ap (λ o. o.out_faults) wrote_all; note = ap (λ o. o.note_faults) wrote_all });
        tied = subst (λ os. UnlessLacking s.engine.stage (IsTied s.engine s.engine.documents os (main_ends start d.talk) (length (main_in start d.talk)))) (sym others)
            (subst (λ (e : Run). UnlessLacking e.stage (IsTied e e.documents r.others.items (main_ends start d.talk) (length (main_in start d.talk)))) (sym engine) d.tied);
        most = subst (λ (e : Run). e.limits.input ≤ 2 ^ 50) (sym engine) d.most;
        input = ap (λ (s : Running). s.input) same ∙ d.input;
        output = ap (λ (s : Running). s.output) same ∙ d.output;
      }
