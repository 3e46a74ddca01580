-- Other documents are opened and read.
use Rattle.std.proofs.Common.{◌≡◌, ℕ, ◌+◌, ◌<◌, ◌≤◌, ◌^◌, ◌==◌, ◌||◌, Bool, false, List, [], ◌∷◌, ◌++◌, length, length-append, length-take, map, take, Option, Some, None, IfSome, inl, inr, refl, sym, ap, subst, ◌∙◌, arith}
use Rattle.std.specs.Prelude.{if◌then◌else◌}
use Rattle.std.specs.Option.{option_and_then}
use Rattle.std.proofs.lemmas.Bool.{false≢true}
use Rattle.std.proofs.lemmas.Bool.Decides.{nat_tests}
use Rattle.std.proofs.lemmas.List.{append-nil, map-append}
use Rattle.stx_host.specs.Before.{AtMainReads, Between, is_main_read, main_read}
use Rattle.stx_host.specs.Outside.{Closes, GivesBytes, MayOpen, Opens, Outside, Reads, SameCounts, place}
use Rattle.stx_host.specs.declared.act.Act.{Act}
use Rattle.stx_host.specs.declared.act.Act.TheVariants.{Close, Open as OpenAct, Read}
use Rattle.stx_host.specs.declared.act.Got.TheVariants.{Bytes as Got', End as GotEnd}
use Rattle.stx_host.specs.declared.act.Opened.TheVariants.{Absent, Id}
use Rattle.stx_host.proofs.Stretches.{between_close, between_open, between_read, main_reads_one}
use Rattle.xml_tokens.specs.Reader.{fed}
use Rattle.run_engine.specs.Run as spec
use Rattle.run_engine.specs.Run.{MayCome, Run, Stage}
use Rattle.run_engine.specs.Taking.{ended_first, fed_first, handed, opened_first}
use Rattle.run_engine.specs.declared.piece.Piece.{Piece}
use Rattle.run_engine.specs.declared.piece.Piece.TheVariants as piece
use Rattle.run_engine.specs.declared.piece.Pumped.{Pumped}
use Rattle.run_engine.specs.declared.piece.Pumped.TheVariants as pumped
use Rattle.sheet_files.specs.Acts.{opens}
use Rattle.sheet_runs.specs.Reading.{main_gots}
use Rattle.sheet_runs.specs.Runs.{IsAsked}
use Rattle.sheet_runs.specs.Talk.{Besides, Leads, beside_in, beside_with, is_main_end, main_bytes, main_ends, main_in, more_in_first, name_asked, names_in, none_beside}
use Rattle.sheet_runs.specs.declared.main_document.Main.{Main}
use Rattle.sheet_runs.specs.declared.other.Other.{Other}
use Rattle.sheet_runs.specs.declared.running.Running.{Running}
use Rattle.sheet_runs.specs.inside.Running.{AreHeld, AreLimited, Driving, Handing, HandsOn, HandsOthersOn, IsBytes, IsTied, IsWritten, UnlessLacking, all_going, going_in, place_in}
use Rattle.sheet_runs.proofs.Acting.{between-acts, between-nothing, opens-then}
use Rattle.sheet_runs.proofs.Besides.{beside-absent, beside-opened, newest-beside-ended, newest-beside-fed}
use Rattle.sheet_runs.proofs.Documents.{AsksForOther, all-more, going-fed, limited-ended, limited-fed}
use Rattle.sheet_runs.proofs.Ids.{ids-same, last-closed, last-open, more-held, same-held}
use Rattle.sheet_runs.proofs.Feeding.{at-other, limited-other}
use Rattle.sheet_runs.proofs.Stepping.{counts-then, hands-still}
use Rattle.sheet_runs.proofs.Talking.{or-false}

is-other : (id : ℕ) → 0 < id → (id == 0) ≡ false
is-other id h = grind (arith, nat_tests)

-- Acts that write nothing and read nothing of the main document

pub record Quiet (start : Run) (was is : Main) (old : Outside) (given : List ℕ) (over : Bool) (out note : List ℕ) (now : Outside) (acts : List Act) (opened : List (Option ℕ)) : Type 0 where
  pub between : Between old now acts out note
  pub reads : AtMainReads acts out note (IsAsked (old.to_come 0) start)
  pub hands : HandsOn was is old acts given over
  pub opened_is : opens acts ≡ opened
  pub counts : SameCounts old now

module _ (start : Run) (was is : Main) (old : Outside) (given : List ℕ) (over : Bool) (out note : List ℕ) (now new : Outside) (acts : List Act) (opened : List (Option ℕ)) (q : Quiet start was is old given over out note now acts opened) where
  -- an act that is no read of the main document
  one-act : (act : Act) → Between now new (act ∷ []) [] [] → main_gots (act ∷ []) ≡ [] → main_read (act ∷ []) ≡ 0 → is_main_read act ≡ false → SameCounts now new
      → Quiet start was is old given over out note new (acts ++ act ∷ []) (opened ++ opens (act ∷ []))
  one-act act between gots none no_read counts = record {
    between = between-acts old now new acts (act ∷ []) out note q.between between;
    reads = main_reads_one acts act out note (IsAsked (old.to_come 0) start) q.between.out_written q.between.note_written q.reads (λ is_read. absurd (false≢true (sym no_read ∙ is_read)));
    hands = hands-still was is old acts (act ∷ []) given over gots none (ap (λ b. b || false) no_read) q.hands;
    opened_is = opens-then acts (act ∷ []) ∙ ap (λ l. l ++ opens (act ∷ [])) q.opened_is;
    counts = counts-then old now new q.counts counts;
  }

  no-opens : (acts : List Act) → Quiet start was is old given over out note new acts (opened ++ []) → Quiet start was is old given over out note new acts opened
  no-opens acts h = subst (Quiet start was is old given over out note new acts) (append-nil opened) h

  pub quiet-bytes : (id n : ℕ) → 0 < id → Reads now id (Got' n) new → Quiet start was is old given over out note new (acts ++ Read id n ∷ []) opened
  quiet-bytes id n above change = no-opens (acts ++ Read id n ∷ []) (one-act (Read id n) (between_read now new id (Got' n) change)
      (ap (λ b. (if b then n ∷ [] else []) ++ []) (is-other id above)) (ap (λ b. (if b then n else 0) + 0) (is-other id above)) (is-other id above)
      (record { doc = ap (λ o. o.doc_faults) change; main = ap (λ o. o.main_faults) change; out = ap (λ o. o.out_faults) change; note = ap (λ o. o.note_faults) change }))

  pub quiet-end : (id : ℕ) → 0 < id → Reads now id GotEnd new → Quiet start was is old given over out note new (acts ++ Read id 0 ∷ []) opened
  quiet-end id above change = no-opens (acts ++ Read id 0 ∷ []) (one-act (Read id 0) (between_read now new id GotEnd change)
      (ap (λ b. (if b then 0 ∷ [] else []) ++ []) (is-other id above)) (ap (λ b. (if b then 0 else 0) + 0) (is-other id above)) (is-other id above)
      (record { doc = ap (λ o. o.doc_faults) change; main = ap (λ o. o.main_faults) change; out = ap (λ o. o.out_faults) change; note = ap (λ o. o.note_faults) change }))

  closed-counts : (id : ℕ) → Closes now id new → SameCounts now new
  closed-counts id closes = elim closes [
    | inl is ↦ record { doc = ap (λ o. o.doc_faults) is; main = ap (λ o. o.main_faults) is; out = ap (λ o. o.out_faults) is; note = ap (λ o. o.note_faults) is }
    | inr is ↦ record { doc = ap (λ o. o.doc_faults) is; main = ap (λ o. o.main_faults) is; out = ap (λ o. o.out_faults) is; note = ap (λ o. o.note_faults) is }
  ]

  pub quiet-close : (id : ℕ) → 0 < id → Closes now id new → (acts : List Act) × Quiet start was is old given over out note new acts opened
  quiet-close id above closes = elim (between_close now new id above closes) [
    | inl between ↦ (acts ++ Close id ∷ [], no-opens (acts ++ Close id ∷ []) (one-act (Close id) between refl refl refl (closed-counts id closes)))
    | inr between ↦ (
      acts,
      record {
        between = between-nothing old now new acts out note q.between between;
        reads = q.reads;
        hands = q.hands;
        opened_is = q.opened_is;
        counts = counts-then old now new q.counts (closed-counts id closes);
      },
    )
  ]

  pub quiet-open : (name : List ℕ) (id : ℕ) → MayOpen now name (Id id) → Opens now name (Id id) new
      → Quiet start was is old given over out note new (acts ++ OpenAct (place_in now name) id ∷ []) (opened ++ place_in now name ∷ [])
  quiet-open name id may change = one-act (OpenAct (place_in now name) id) (between_open now new name (Id id) may change) refl refl refl
      (record { doc = ap (λ o. o.doc_faults) change; main = ap (λ o. o.main_faults) change; out = ap (λ o. o.out_faults) change; note = ap (λ o. o.note_faults) change })

  pub quiet-absent : (name : List ℕ) → MayOpen now name Absent → Opens now name Absent new
      → Quiet start was is old given over out note new (acts ++ OpenAct None 0 ∷ []) (opened ++ None ∷ [])
  quiet-absent name may change = one-act (OpenAct None 0) (between_open now new name Absent may change) refl refl refl
      (record { doc = ap (λ o. o.doc_faults) change; main = ap (λ o. o.main_faults) change; out = ap (λ o. o.out_faults) change; note = ap (λ o. o.note_faults) change })

-- What a run has done so far

module _ (start : Run) (main : Main) (old now : Outside) (r : Running) (asked : Pumped) (d : Driving start main old now r asked) where
  pub quiet-so-far : Quiet start main r.main old (main_in start d.talk) (main_ends start d.talk) d.out d.note now d.acts (map (place_in old) (names_in start d.talk))
  quiet-so-far = record { between = d.between; reads = d.reads; hands = d.hands; opened_is = d.opened; counts = d.counts }

  -- A piece that isn't of the main document is handed in.
  pub hands-other : (new : Outside) (s : Running) (acts : List Act) (p : Piece) → IsWritten r → s ≡ record r { others = s.others } → MayCome r.engine.stage p
      → main_bytes r.engine.stage p ≡ [] → is_main_end r.engine.stage p ≡ false
      → Quiet start main r.main old (main_in start d.talk) (main_ends start d.talk) d.out d.note new acts (map (place_in old) (names_in start d.talk ++ name_asked r.engine.stage))
      → AreHeld old.open_ids new.open_ids s.others.items
      → length s.others.items ≤ length (opens acts)
      → 0 < length (opens acts)
      → HandsOthersOn old new.to_come (beside_with r.engine.stage p (beside_in none_beside start d.talk)) s.others.items
      → IsTied r.engine (handed r.engine p) s.others.items (main_ends start d.talk) (length (main_in start d.talk))
      → Handing start main old new s p
  hands-other new s acts p written same may no_bytes no_end q held few some beside tied =
      let given = main_in start d.talk in
      let over = main_ends start d.talk in
      let engine : s.engine ≡ r.engine = ap (λ (x : Running). x.engine) same in
      record {
        acts = acts;
        out = d.out;
        note = d.note;
        between = q.between;
        talk = d.talk;
        leads = subst (Leads start d.talk) (sym engine) d.leads;
        may = subst (λ (e : Run). MayCome e.stage p) (sym engine) may;
        nothing = ap (λ (x : Running). x.out.items) same ∙ written.0;
        no_notes = ap (λ (x : Running). x.notes.items) same ∙ written.1;
        written = sym (append-nil d.out) ∙ ap (λ l. d.out ++ l) (sym written.0) ∙ d.written;
        noted = sym (append-nil d.note) ∙ ap (λ l. d.note ++ l) (sym written.1) ∙ d.noted;
        reads = q.reads;
        handed_in = given;
        handed_is = sym (append-nil given) ∙ ap (λ l. given ++ l) (sym no_bytes) ∙ ap (λ (e : Run). given ++ main_bytes e.stage p) (sym engine);
        ended = over;
        ended_is = sym (or-false over) ∙ ap (λ b. over || b) (sym no_end) ∙ ap (λ (e : Run). over || is_main_end e.stage p) (sym engine);
        hands = subst (λ m. HandsOn main m old acts given over) (sym (ap (λ (x : Running). x.main) same)) q.hands;
        beside = subst (λ (e : Run). HandsOthersOn old new.to_come (beside_with e.stage p (beside_in none_beside start d.talk)) s.others.items) (sym engine) beside;
        opened = q.opened_is ∙ ap (λ (e : Run). map (place_in old) (names_in start d.talk ++ name_asked e.stage)) (sym engine);
        alone = λ none. absurd (omega (arith, some, ap length none));
        held = held;
        few = few;
        counts = q.counts;
        tied = subst (λ (e : Run). IsTied e (handed e p) s.others.items over (length given)) (sym engine) tied;
        most = subst (λ (e : Run). e.limits.input ≤ 2 ^ 50) (sym engine) d.most;
        input = ap (λ (x : Running). x.input) same ∙ d.input;
        output = ap (λ (x : Running). x.output) same ∙ d.output;
      }

-- Another document is read

no-name : (o : Outside) (names : List (List ℕ)) (s : Stage) → s ≡ spec.Document → map (place_in o) (names ++ name_asked s) ≡ map (place_in o) names
no-name o names s is = ap (λ s. map (place_in o) (names ++ name_asked s)) is ∙ ap (map (place_in o)) (append-nil names)

module _ (start : Run) (main : Main) (old now new : Outside) (r s : Running) (d : Driving start main old now r pumped.Document) (written : IsWritten r) (same : s ≡ record r { others = s.others }) where
  abbrev given : List ℕ
  given = main_in start d.talk

  abbrev over : Bool
  over = main_ends start d.talk

  abbrev pub asks : AsksForOther r.others.items over (length given) r.engine.documents r.engine.limits
  asks = at-other start main old now r d

  held-so : AreHeld old.open_ids now.open_ids (asks.front ++ asks.last ∷ [])
  held-so = subst (AreHeld old.open_ids now.open_ids) asks.others_is d.held

  -- the document that is read is open
  pub above : 0 < asks.last.id
  above = (last-open old.open_ids asks.front asks.last now.open_ids held-so).above_zero

  abbrev so_far : Besides
  so_far = beside_in none_beside start d.talk

  beside-so : HandsOthersOn old now.to_come so_far (asks.front ++ asks.last ∷ [])
  beside-so = subst (HandsOthersOn old now.to_come so_far) asks.others_is d.beside

  pub other-bytes : (room : List ℕ) (n : ℕ) (p : Piece) → GivesBytes (now.to_come asks.last.id) n room → IsBytes p (take n room) → Reads now asks.last.id (Got' n) new
      → s.others.items ≡ asks.front ++ record asks.last { read = asks.last.read + n } ∷ [] → Handing start main old new s p
  other-bytes room n (piece.Bytes b) gives is change more =
      let count : length (take n room) ≡ n = omega (arith, length-take n room, gives.fits) in
      let last : Other = record asks.last { read = asks.last.read + n } in
      let quiet = quiet-bytes start main r.main old given over d.out d.note now new d.acts (map (place_in old) (names_in start d.talk)) (quiet-so-far start main old now r pumped.Document d) asks.last.id n above change in
      hands-other start main old now r pumped.Document d new s (d.acts ++ Read asks.last.id n ∷ []) (piece.Bytes b) written same
      (subst (λ s. MayCome s (piece.Bytes b)) (sym d.says) tt)
      (ap (λ s. main_bytes s (piece.Bytes b)) d.says)
      (ap (λ s. is_main_end s (piece.Bytes b)) d.says)
      (subst (Quiet start main r.main old given over d.out d.note new (d.acts ++ Read asks.last.id n ∷ [])) (sym (no-name old (names_in start d.talk) r.engine.stage d.says)) quiet)
      (subst (λ t. AreHeld old.open_ids t s.others.items) (sym (ap (λ o. o.open_ids) change))
      (subst (AreHeld old.open_ids now.open_ids) (sym more) (same-held old.open_ids now.open_ids (asks.front ++ asks.last ∷ []) (asks.front ++ last ∷ []) (ids-same asks.front asks.last (asks.last.read + n)) held-so)))
      (omega (arith, ap length more, length-append asks.front (last ∷ []), ap length asks.others_is, length-append asks.front (asks.last ∷ []), d.few, ap length d.opened, ap length quiet.opened_is))
      (omega (arith, ap length asks.others_is, length-append asks.front (asks.last ∷ []), d.few, ap length d.opened, ap length quiet.opened_is))
      (subst (HandsOthersOn old new.to_come (beside_with r.engine.stage (piece.Bytes b) so_far)) (sym more)
      (subst (λ x. HandsOthersOn old new.to_come (beside_with x (piece.Bytes b) so_far) (asks.front ++ last ∷ [])) (sym d.says)
      (subst (λ l. HandsOthersOn old new.to_come (record so_far { going = more_in_first l so_far.going }) (asks.front ++ last ∷ [])) (sym is)
      (newest-beside-fed old now so_far new asks.front asks.last room n held-so gives change beside-so))))
      (record {
        going = ap (λ ds. going_in (fed_first b.now ds)) asks.documents_is ∙ going-fed b.now asks.newest asks.older asks.unended
            ∙ ap (λ x. record { name = x; read = fed asks.newest.source.lexer + length b.now } ∷ going_in asks.older) asks.name_is
            ∙ ap (λ m. record { name = Some asks.last.name; read = m } ∷ going_in asks.older) (ap (λ m. m + length b.now) asks.read_is ∙ ap (λ l. asks.last.read + length l) is ∙ ap (λ m. asks.last.read + m) count)
            ∙ ap (λ l. record { name = Some asks.last.name; read = asks.last.read + n } ∷ l) asks.older_is
            ∙ sym (all-more asks.front last over (length given)) ∙ ap (λ os. all_going os over (length given)) (sym more);
        limited = limited-fed r.engine.limits b.now r.engine.documents (limited-other start main old now r d);
      })
  other-bytes room n piece.Start gives is change more = absurd is
  other-bytes room n piece.End gives is change more = absurd is
  other-bytes room n piece.Opened gives is change more = absurd is
  other-bytes room n piece.Absent gives is change more = absurd is

  pub other-end : (mid : Outside) → IfSome (now.to_come asks.last.id) (λ bytes. bytes ≡ []) → Reads now asks.last.id GotEnd mid → Closes mid asks.last.id new → s.others.items ≡ asks.front → Handing start main old new s piece.End
  other-end mid none change closes fewer =
      let opened = map (place_in old) (names_in start d.talk) in
      let ended = quiet-end start main r.main old given over d.out d.note now mid d.acts opened (quiet-so-far start main old now r pumped.Document d) asks.last.id above change in
      let closed = quiet-close start main r.main old given over d.out d.note mid new (d.acts ++ Read asks.last.id 0 ∷ []) opened ended asks.last.id above closes in
      hands-other start main old now r pumped.Document d new s closed.0 piece.End written same
      (subst (λ s. MayCome s piece.End) (sym d.says) tt)
      (ap (λ s. main_bytes s piece.End) d.says)
      (ap (λ s. is_main_end s piece.End) d.says)
      (subst (Quiet start main r.main old given over d.out d.note new closed.0) (sym (no-name old (names_in start d.talk) r.engine.stage d.says)) closed.1)
      (subst (AreHeld old.open_ids new.open_ids) (sym fewer)
      (last-closed old.open_ids asks.front asks.last mid new (subst (λ t. AreHeld old.open_ids t (asks.front ++ asks.last ∷ [])) (sym (ap (λ o. o.open_ids) change)) held-so) closes))
      (omega (arith, ap length fewer, ap length asks.others_is, length-append asks.front (asks.last ∷ []), d.few, ap length d.opened, ap length closed.1.opened_is))
      (omega (arith, ap length asks.others_is, length-append asks.front (asks.last ∷ []), d.few, ap length d.opened, ap length closed.1.opened_is))
      (subst (HandsOthersOn old new.to_come (beside_with r.engine.stage piece.End so_far)) (sym fewer)
      (subst (λ x. HandsOthersOn old new.to_come (beside_with x piece.End so_far) asks.front) (sym d.says)
      (newest-beside-ended old now so_far mid new asks.front asks.last held-so none change closes beside-so)))
      (record {
        going = ap (λ ds. going_in (ended_first ds)) asks.documents_is ∙ asks.older_is ∙ ap (λ os. all_going os over (length given)) (sym fewer);
        limited = limited-ended r.engine.limits r.engine.documents (limited-other start main old now r d);
      })

-- A document is opened, or it is absent

module _ (start : Run) (main : Main) (old now new : Outside) (r s : Running) (name : List ℕ) (d : Driving start main old now r (pumped.Open name)) (written : IsWritten r) where
  abbrev said : Besides
  said = beside_in none_beside start d.talk

  tied-so : IsTied r.engine r.engine.documents r.others.items (main_ends start d.talk) (length (main_in start d.talk))
  tied-so = subst (λ s. UnlessLacking s (IsTied r.engine r.engine.documents r.others.items (main_ends start d.talk) (length (main_in start d.talk)))) d.says d.tied

  -- the same documents are told
  same-place : place_in now name ≡ place_in old name
  same-place = ap (λ t. option_and_then (λ docs. place docs name) t) d.between.documents

  named : (o : Outside) (names : List (List ℕ)) → map (place_in o) names ++ place_in o name ∷ [] ≡ map (place_in o) (names ++ name_asked r.engine.stage)
  named o names = sym (map-append (place_in o) names (name ∷ [])) ∙ ap (λ s. map (place_in o) (names ++ name_asked s)) (sym d.says)

  pub other-opened : (id : ℕ) → MayOpen now name (Id id) → Opens now name (Id id) new → s ≡ record r { others = s.others }
      → s.others.items ≡ r.others.items ++ record { id = id; name = name; read = 0 } ∷ [] → Handing start main old new s piece.Opened
  other-opened id may change same more =
      let last : Other = record { id = id; name = name; read = 0 } in
      let given = main_in start d.talk in
      let over = main_ends start d.talk in
      let opened = map (place_in old) (names_in start d.talk) in
      let acts = d.acts ++ OpenAct (place_in now name) id ∷ [] in
      let quiet = quiet-open start main r.main old given over d.out d.note now new d.acts opened (quiet-so-far start main old now r (pumped.Open name) d) name id may change in
      hands-other start main old now r (pumped.Open name) d new s acts piece.Opened written same
      (subst (λ s. MayCome s piece.Opened) (sym d.says) tt)
      (ap (λ s. main_bytes s piece.Opened) d.says)
      (ap (λ s. is_main_end s piece.Opened) d.says)
      (subst (Quiet start main r.main old given over d.out d.note new acts) (ap (λ at. opened ++ at ∷ []) same-place ∙ named old (names_in start d.talk)) quiet)
      (subst (AreHeld old.open_ids new.open_ids) (sym more) (more-held old.open_ids r.others.items last now new d.held may change))
      (omega (arith, ap length more, length-append r.others.items (last ∷ []), d.few, ap length d.opened, ap length quiet.opened_is, length-append opened (place_in now name ∷ [])))
      (omega (arith, ap length quiet.opened_is, length-append opened (place_in now name ∷ [])))
      (subst (HandsOthersOn old new.to_come (beside_with r.engine.stage piece.Opened said)) (sym more)
      (subst (λ x. HandsOthersOn old new.to_come (beside_with x piece.Opened said) (r.others.items ++ last ∷ [])) (sym d.says)
      (beside-opened old now said new r.others.items id name d.between.documents d.held may change d.beside)))
      (record {
        going = ap (λ s. going_in (opened_first r.engine s)) d.says ∙ ap (λ l. record { name = Some name; read = 0 } ∷ l) tied-so.going
            ∙ sym (all-more r.others.items last over (length given)) ∙ ap (λ os. all_going os over (length given)) (sym more);
        limited = subst (λ s. AreLimited r.engine.limits (opened_first r.engine s)) (sym d.says) (refl, tied-so.limited);
      })

  absent-place : MayOpen now name Absent → place_in now name ≡ None
  absent-place may = by now.documents may where
    by : (told : Option (List _)) → IfSome told (λ docs. place docs name ≡ None) → option_and_then (λ docs. place docs name) told ≡ None
    by None h = refl
    by (Some docs) h = h

  pub other-absent : MayOpen now name Absent → Opens now name Absent new → Handing start main old new r piece.Absent
  other-absent may change =
      let given = main_in start d.talk in
      let over = main_ends start d.talk in
      let opened = map (place_in old) (names_in start d.talk) in
      let acts = d.acts ++ OpenAct None 0 ∷ [] in
      let quiet = quiet-absent start main r.main old given over d.out d.note now new d.acts opened (quiet-so-far start main old now r (pumped.Open name) d) name may change in
      hands-other start main old now r (pumped.Open name) d new r acts piece.Absent written refl
      (subst (λ s. MayCome s piece.Absent) (sym d.says) tt)
      (ap (λ s. main_bytes s piece.Absent) d.says)
      (ap (λ s. is_main_end s piece.Absent) d.says)
      (subst (Quiet start main r.main old given over d.out d.note new acts) (ap (λ at. opened ++ at ∷ []) (sym (absent-place may) ∙ same-place) ∙ named old (names_in start d.talk)) quiet)
      (subst (λ t. AreHeld old.open_ids t r.others.items) (sym (ap (λ o. o.open_ids) change)) d.held)
      (omega (arith, d.few, ap length d.opened, ap length quiet.opened_is, length-append opened (None ∷ [])))
      (omega (arith, ap length quiet.opened_is, length-append opened (None ∷ [])))
      (subst (λ x. HandsOthersOn old new.to_come (beside_with x piece.Absent said) r.others.items) (sym d.says)
      (beside-absent old now said new r.others.items name d.between.documents may change d.beside))
      tied-so
