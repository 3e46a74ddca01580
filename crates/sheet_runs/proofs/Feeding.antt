-- What is read is handed in.
use Rattle.std.proofs.Common.{◌≡◌, ℕ, ◌+◌, ◌≤◌, ◌^◌, ◌||◌, Bool, true, false, List, [], ◌∷◌, ◌++◌, length, map, take, drop, Option, Some, None, IfSome, refl, sym, ap, subst, ◌∙◌, arith, append_assoc, length-append, length-take}
use Rattle.std.specs.List.{concat}
use Rattle.std.specs.Option.{option_map}
use Rattle.std.specs.Prelude.{encode_utf8_all}
use Rattle.std.proofs.lemmas.Str.{encodes-append}
use Rattle.std.proofs.lemmas.Bool.{false≢true}
use Rattle.std.proofs.lemmas.List.{append-nil}
use Rattle.std.proofs.lemmas.List.Folds.{concat-append}
use Rattle.std.proofs.Math.Seq.{drop-append_seam}
use Rattle.stx_base.specs.Course.{Begins}
use Rattle.stx_host.specs.Before.{AtMainReads, Between, main_read}
use Rattle.stx_host.specs.Outside.{GivesBytes, Outside, Reads, SameCounts, with_bytes}
use Rattle.stx_host.specs.declared.act.Act.{Act}
use Rattle.stx_host.specs.declared.act.Act.TheVariants.{Read}
use Rattle.stx_host.specs.declared.act.Got.TheVariants.{Bytes as Got', End as GotEnd}
use Rattle.stx_host.proofs.Stretches.{between_read, main_read-append, main_reads_one}
use Rattle.xml_tokens.specs.Reader.{fed}
use Rattle.run_engine.specs.Run.{MayCome, Run, StandsAt}
use Rattle.run_engine.specs.Taking.{ended_first, fed_first, handed}
use Rattle.run_engine.specs.declared.piece.Piece.TheVariants as piece
use Rattle.run_engine.specs.declared.piece.Pumped.TheVariants as pumped
use Rattle.sheet_files.specs.Acts.{opens}
use Rattle.sheet_runs.specs.Reading.{EndOnce, ReadsOpened, TakesPieces, main_gots}
use Rattle.sheet_runs.specs.Runs.{IsAsked}
use Rattle.sheet_runs.specs.Talk.{Besides, Leads, beside_in, beside_with, bytes_in, is_main_end, main_bytes, main_ends, main_in, name_asked, names_in, none_beside, notes_in}
use Rattle.sheet_runs.specs.Writing.{counted}
use Rattle.sheet_runs.specs.declared.main_document.Main.{Main}
use Rattle.sheet_runs.specs.declared.main_document.Main.TheVariants.{Host as OfHost, Sample}
use Rattle.sheet_runs.specs.declared.running.Running.{Running}
use Rattle.sheet_runs.specs.inside.Running.{AreHeld, AreLimited, Driving, Handing, HandingBytes, HandingChunk, HandsOn, HandsOthersOn, IsTied, IsWritten, UnlessLacking, all_going, going_in, place_in}
use Rattle.sheet_runs.proofs.Acting.{alone-then, between-acts, once-bytes, once-end, opens-nothing}
use Rattle.sheet_runs.proofs.Besides.{handed-still, main-beside-read}
use Rattle.sheet_runs.proofs.Documents.{AsksForMain, AsksForOther, asks-main, asks-other, going-fed, limited-ended, limited-fed}
use Rattle.sheet_runs.proofs.Stepping.{counted-more, counts-then, same-counts}
use Rattle.sheet_runs.proofs.Talking.{or-false}

or-true : (a : Bool) → (a || true) ≡ true
or-true true = refl
or-true false = refl

-- What is so at a stage, where an answer says which it is

module _ (start : Run) (main : Main) (old now : Outside) (r : Running) where
  -- all that is known where the main document is asked for
  pub at-main : (d : Driving start main old now r pumped.Main) → AsksForMain r.others.items (main_ends start d.talk) (length (main_in start d.talk)) r.engine.documents r.engine.limits
  at-main d =
      let tied = subst (λ s. UnlessLacking s (IsTied r.engine r.engine.documents r.others.items (main_ends start d.talk) (length (main_in start d.talk)))) d.says d.tied in
      asks-main r.others.items (main_ends start d.talk) (length (main_in start d.talk)) r.engine.documents r.engine.limits tied.going tied.limited
      (subst (λ s. StandsAt s r.engine.files r.engine.documents) d.says d.stands)

  pub limited-main : (d : Driving start main old now r pumped.Main) → AreLimited r.engine.limits r.engine.documents
  limited-main d = (subst (λ s. UnlessLacking s (IsTied r.engine r.engine.documents r.others.items (main_ends start d.talk) (length (main_in start d.talk)))) d.says d.tied).limited

  -- and where another one is
  pub at-other : (d : Driving start main old now r pumped.Document) → AsksForOther r.others.items (main_ends start d.talk) (length (main_in start d.talk)) r.engine.documents r.engine.limits
  at-other d =
      let tied = subst (λ s. UnlessLacking s (IsTied r.engine r.engine.documents r.others.items (main_ends start d.talk) (length (main_in start d.talk)))) d.says d.tied in
      asks-other r.others.items (main_ends start d.talk) (length (main_in start d.talk)) r.engine.documents r.engine.limits tied.going tied.limited
      (subst (λ s. StandsAt s r.engine.files r.engine.documents) d.says d.stands)

  pub limited-other : (d : Driving start main old now r pumped.Document) → AreLimited r.engine.limits r.engine.documents
  limited-other d = (subst (λ s. UnlessLacking s (IsTied r.engine r.engine.documents r.others.items (main_ends start d.talk) (length (main_in start d.talk)))) d.says d.tied).limited

-- The main document of the host

-- what is left of it
main-left : (old now : Outside) (acts : List Act) (out note main : List ℕ) → Between old now acts out note → old.to_come 0 ≡ Some main → now.to_come 0 ≡ Some (drop (main_read acts) main)
main-left old now acts out note main between told = between.main ∙ ap (option_map (λ bytes. drop (main_read acts) bytes)) told

left-of : (told : Option (List ℕ)) (left : List ℕ) (P : List ℕ → Type 0) → told ≡ Some left → IfSome told P → P left
left-of told left P is h = subst (λ t. IfSome t P) is h

-- what was handed in, and then what is left, is the whole
rest-is : (handed main : List ℕ) (read : ℕ) → length handed ≡ read → (b : Begins handed main) → drop read main ≡ b.0
rest-is handed main read count b = ap (λ n. drop n main) (sym count) ∙ ap (drop (length handed)) (sym b.1) ∙ drop-append_seam handed b.0

module _ (was : Main) (old now : Outside) (acts : List Act) (out note given : List ℕ) (between : Between old now acts out note) where
  hands-bytes : (room : List ℕ) (n : ℕ) (ended : Bool) → ended ≡ false → GivesBytes (now.to_come 0) n room → length (take n room) ≡ n → HandsOn was OfHost old acts given ended
      → HandsOn was OfHost old (acts ++ Read 0 n ∷ []) (given ++ take n room) ended
  hands-bytes room n ended goes gives fits h = by was h where
    by : (was : Main) → HandsOn was OfHost old acts given ended → HandsOn was OfHost old (acts ++ Read 0 n ∷ []) (given ++ take n room) ended
    by (Sample pieces) h = absurd h
    by OfHost h = (
      subst (λ b. EndOnce b (main_gots (acts ++ Read 0 n ∷ []))) (sym goes) (once-bytes acts n gives.some (subst (λ b. EndOnce b (main_gots acts)) goes h.0)),
      length-append given (take n room) ∙ ap (λ m. length given + m) fits ∙ ap (λ m. m + n) h.1 ∙ omega (arith, main_read-append acts (Read 0 n ∷ [])),
      λ main is.
          let b = (h.2 main is).0 in
          let left = drop (main_read acts) main in
          let same : left ≡ b.0 = rest-is given main (main_read acts) h.1 b in
          let next : left ≡ take n room ++ drop n left = left-of (now.to_come 0) left (λ bytes. bytes ≡ take n room ++ drop n bytes) (main-left old now acts out note main between is) gives.next in (
            (drop n left, append_assoc given (take n room) (drop n left) ∙ ap (λ l. given ++ l) (sym next ∙ same) ∙ b.1),
            λ e. absurd (false≢true (sym goes ∙ e)),
          ),
    )

  hands-end : (ended : Bool) → ended ≡ false → IfSome (now.to_come 0) (λ bytes. bytes ≡ []) → HandsOn was OfHost old acts given ended → HandsOn was OfHost old (acts ++ Read 0 0 ∷ []) given true
  hands-end ended goes none h = by was h where
    by : (was : Main) → HandsOn was OfHost old acts given ended → HandsOn was OfHost old (acts ++ Read 0 0 ∷ []) given true
    by (Sample pieces) h = absurd h
    by OfHost h = (
      once-end acts (subst (λ b. EndOnce b (main_gots acts)) goes h.0),
      h.1 ∙ omega (arith, main_read-append acts (Read 0 0 ∷ [])),
      λ main is.
          let b = (h.2 main is).0 in
          let left = drop (main_read acts) main in
          let same : left ≡ b.0 = rest-is given main (main_read acts) h.1 b in
          let over : left ≡ [] = left-of (now.to_come 0) left (λ bytes. bytes ≡ []) (main-left old now acts out note main between is) none in
          (b, λ e. sym (append-nil given) ∙ ap (λ l. given ++ l) (sym over ∙ same) ∙ b.1),
    )

-- so many bytes as were read of the host's
pub read-count : (was : Main) (old : Outside) (acts : List Act) (given : List ℕ) (ended : Bool) → HandsOn was OfHost old acts given ended → length given ≡ main_read acts
read-count OfHost old acts given ended h = h.1
read-count (Sample pieces) old acts given ended h = absurd h

-- which are its first ones
pub read-front : (was : Main) (old : Outside) (acts : List Act) (given : List ℕ) (ended : Bool) → HandsOn was OfHost old acts given ended → (main : List ℕ) → old.to_come 0 ≡ Some main → Begins given main
read-front OfHost old acts given ended h main is = (h.2 main is).0
read-front (Sample pieces) old acts given ended h main is = absurd h

-- What is handed in of the main document, wherever it comes from

module _ (start : Run) (main : Main) (old now new : Outside) (r s : Running) (d : Driving start main old now r pumped.Main) (written : IsWritten r) (same : s ≡ record r { main = s.main }) (acts : List Act)
    (between : Between old new acts d.out d.note) (reads : AtMainReads acts d.out d.note (IsAsked (old.to_come 0) start)) (opened : opens acts ≡ opens d.acts) (alone : ReadsOpened acts) (ids : new.open_ids ≡ now.open_ids) (counts : SameCounts now new)
    (beside : HandsOthersOn old new.to_come (beside_in none_beside start d.talk) r.others.items) where
  abbrev given : List ℕ
  given = main_in start d.talk

  abbrev over : Bool
  over = main_ends start d.talk

  asks : AsksForMain r.others.items over (length given) r.engine.documents r.engine.limits
  asks = at-main start main old now r d

  out-is : d.out ≡ bytes_in d.talk
  out-is = sym (append-nil d.out) ∙ ap (λ l. d.out ++ l) (sym written.0) ∙ d.written

  note-is : d.note ≡ notes_in d.talk
  note-is = sym (append-nil d.note) ∙ ap (λ l. d.note ++ l) (sym written.1) ∙ d.noted

  opened-is : opens acts ≡ map (place_in old) (names_in start d.talk ++ name_asked r.engine.stage)
  opened-is = opened ∙ d.opened ∙ ap (map (place_in old)) (sym (append-nil (names_in start d.talk)) ∙ ap (λ s. names_in start d.talk ++ name_asked s) (sym d.says))

  pub hands-in : (bytes : List ℕ) → HandsOn main s.main old acts (given ++ bytes) over → HandingBytes start main old new s bytes
  hands-in bytes hands (piece.Bytes b) is = record {
    acts = acts;
    out = d.out;
    note = d.note;
    between = between;
    talk = d.talk;
    leads = subst (λ (x : Running). Leads start d.talk x.engine) (sym same) d.leads;
    may = subst (λ (x : Running). MayCome x.engine.stage (piece.Bytes b)) (sym same) (subst (λ s. MayCome s (piece.Bytes b)) (sym d.says) tt);
    nothing = ap (λ (x : Running). x.out.items) same ∙ written.0;
    no_notes = ap (λ (x : Running). x.notes.items) same ∙ written.1;
    written = out-is;
    noted = note-is;
    reads = reads;
    handed_in = given ++ bytes;
    handed_is = ap (λ l. given ++ l) (sym is ∙ ap (λ s. main_bytes s (piece.Bytes b)) (sym d.says) ∙ ap (λ (x : Running). main_bytes x.engine.stage (piece.Bytes b)) (sym same));
    ended = over;
    ended_is = sym (or-false over) ∙ ap (λ s. over || is_main_end s (piece.Bytes b)) (sym d.says) ∙ ap (λ (x : Running). over || is_main_end x.engine.stage (piece.Bytes b)) (sym same);
    hands = hands;
    beside = subst (λ (x : Running). HandsOthersOn old new.to_come (beside_with x.engine.stage (piece.Bytes b) (beside_in none_beside start d.talk)) x.others.items) (sym same)
        (subst (λ s. HandsOthersOn old new.to_come (beside_with s (piece.Bytes b) (beside_in none_beside start d.talk)) r.others.items) (sym d.says) beside);
    opened = opened-is ∙ ap (λ (x : Running). map (place_in old) (names_in start d.talk ++ name_asked x.engine.stage)) (sym same);
    alone = alone;
    held = subst (λ (x : Running). AreHeld old.open_ids new.open_ids x.others.items) (sym same) (subst (λ t. AreHeld old.open_ids t r.others.items) (sym ids) d.held);
    few = omega (arith, d.few, ap length opened, ap (λ (x : Running). length x.others.items) same);
    counts = counts-then old now new d.counts counts;
    tied = subst (λ (x : Running). IsTied x.engine (handed x.engine (piece.Bytes b)) x.others.items over (length (given ++ bytes))) (sym same) (record {
      going = ap (λ ds. going_in (fed_first b.now ds)) asks.documents_is ∙ going-fed b.now asks.newest asks.older asks.unended
          ∙ ap (λ n. record { name = n; read = fed asks.newest.source.lexer + length b.now } ∷ going_in asks.older) asks.main
          ∙ ap (λ m. record { name = None; read = m } ∷ going_in asks.older) (ap (λ m. m + length b.now) asks.read_is ∙ ap (λ l. length given + length l) is ∙ sym (length-append given bytes))
          ∙ ap (λ l. record { name = None; read = length (given ++ bytes) } ∷ l) asks.older_is
          ∙ ap (λ e. all_going [] e (length (given ++ bytes))) (sym asks.goes_on)
          ∙ ap (λ os. all_going os over (length (given ++ bytes))) (sym asks.alone);
      limited = limited-fed r.engine.limits b.now r.engine.documents (limited-main start main old now r d);
    });
    most = subst (λ (x : Running). x.engine.limits.input ≤ 2 ^ 50) (sym same) d.most;
    input = ap (λ n. counted (n + length bytes)) (ap (λ (x : Running). x.input) same ∙ d.input) ∙ counted-more (length given) (length bytes) ∙ ap counted (sym (length-append given bytes));
    output = ap (λ (x : Running). x.output) same ∙ d.output;
  }
  hands-in bytes hands piece.Start is = absurd is
  hands-in bytes hands piece.End is = absurd is
  hands-in bytes hands piece.Opened is = absurd is
  hands-in bytes hands piece.Absent is = absurd is

  pub hands-its-end : HandsOn main s.main old acts given true → Handing start main old new s piece.End
  hands-its-end hands = record {
    acts = acts;
    out = d.out;
    note = d.note;
    between = between;
    talk = d.talk;
    leads = subst (λ (x : Running). Leads start d.talk x.engine) (sym same) d.leads;
    may = subst (λ (x : Running). MayCome x.engine.stage piece.End) (sym same) (subst (λ s. MayCome s piece.End) (sym d.says) tt);
    nothing = ap (λ (x : Running). x.out.items) same ∙ written.0;
    no_notes = ap (λ (x : Running). x.notes.items) same ∙ written.1;
    written = out-is;
    noted = note-is;
    reads = reads;
    handed_in = given;
    handed_is = sym (append-nil given) ∙ ap (λ s. given ++ main_bytes s piece.End) (sym d.says) ∙ ap (λ (x : Running). given ++ main_bytes x.engine.stage piece.End) (sym same);
    ended = true;
    ended_is = sym (or-true over) ∙ ap (λ s. over || is_main_end s piece.End) (sym d.says) ∙ ap (λ (x : Running). over || is_main_end x.engine.stage piece.End) (sym same);
    hands = hands;
    beside = subst (λ (x : Running). HandsOthersOn old new.to_come (beside_with x.engine.stage piece.End (beside_in none_beside start d.talk)) x.others.items) (sym same)
        (subst (λ s. HandsOthersOn old new.to_come (beside_with s piece.End (beside_in none_beside start d.talk)) r.others.items) (sym d.says) beside);
    opened = opened-is ∙ ap (λ (x : Running). map (place_in old) (names_in start d.talk ++ name_asked x.engine.stage)) (sym same);
    alone = alone;
    held = subst (λ (x : Running). AreHeld old.open_ids new.open_ids x.others.items) (sym same) (subst (λ t. AreHeld old.open_ids t r.others.items) (sym ids) d.held);
    few = omega (arith, d.few, ap length opened, ap (λ (x : Running). length x.others.items) same);
    counts = counts-then old now new d.counts counts;
    tied = subst (λ (x : Running). IsTied x.engine (handed x.engine piece.End) x.others.items true (length given)) (sym same) (record {
      going = ap (λ ds. going_in (ended_first ds)) asks.documents_is ∙ asks.older_is ∙ ap (λ os. all_going os true (length given)) (sym asks.alone);
      limited = limited-ended r.engine.limits r.engine.documents (limited-main start main old now r d);
    });
    most = subst (λ (x : Running). x.engine.limits.input ≤ 2 ^ 50) (sym same) d.most;
    input = ap (λ (x : Running). x.input) same ∙ d.input;
    output = ap (λ (x : Running). x.output) same ∙ d.output;
  }

-- The host's main document

module _ (start : Run) (main : Main) (old now new : Outside) (r : Running) (d : Driving start main old now r pumped.Main) (written : IsWritten r) (host : r.main ≡ OfHost) where
  given-of-host : HandsOn main OfHost old d.acts (main_in start d.talk) (main_ends start d.talk)
  given-of-host = subst (λ m. HandsOn main m old d.acts (main_in start d.talk) (main_ends start d.talk)) host d.hands

  abbrev so_far : Besides
  so_far = beside_in none_beside start d.talk

  -- at a read of it
  asked-now : IsAsked (old.to_come 0) start (record { out = d.out; note = d.note; main_read = main_read d.acts })
  asked-now = record {
    talk = d.talk;
    run = r.engine;
    leads = d.leads;
    asks = d.says;
    read = read-count main old d.acts (main_in start d.talk) (main_ends start d.talk) given-of-host;
    front = read-front main old d.acts (main_in start d.talk) (main_ends start d.talk) given-of-host;
    out = sym (append-nil d.out) ∙ ap (λ l. d.out ++ l) (sym written.0) ∙ d.written;
    note = sym (append-nil d.note) ∙ ap (λ l. d.note ++ l) (sym written.1) ∙ d.noted;
  }

  pub reads-bytes : (room : List ℕ) (n : ℕ) → GivesBytes (now.to_come 0) n room → Reads now 0 (Got' n) new → HandingBytes start main old new r (take n room)
  reads-bytes room n gives change =
      let goes = (at-main start main old now r d).goes_on in
      hands-in start main old now new r r d written refl (d.acts ++ Read 0 n ∷ [])
      (between-acts old now new d.acts (Read 0 n ∷ []) d.out d.note d.between (between_read now new 0 (Got' n) change))
      (main_reads_one d.acts (Read 0 n) d.out d.note (IsAsked (old.to_come 0) start) d.between.out_written d.between.note_written d.reads (λ is_read. asked-now))
      (opens-nothing d.acts (Read 0 n ∷ []) refl)
      (alone-then d.acts (Read 0 n ∷ []) refl refl d.alone)
      (ap (λ o. o.open_ids) change)
      (record { doc = ap (λ o. o.doc_faults) change; main = ap (λ o. o.main_faults) change; out = ap (λ o. o.out_faults) change; note = ap (λ o. o.note_faults) change })
      (handed-still old (with_bytes now.to_come 0 (option_map (λ bytes. drop n bytes) (now.to_come 0))) new.to_come so_far r.others.items (ap (λ o. o.to_come) change)
      (main-beside-read old now so_far r.others.items (option_map (λ bytes. drop n bytes) (now.to_come 0)) d.held d.beside))
      (take n room)
      (subst (λ m. HandsOn main m old (d.acts ++ Read 0 n ∷ []) (main_in start d.talk ++ take n room) (main_ends start d.talk)) (sym host)
      (hands-bytes main old now d.acts d.out d.note (main_in start d.talk) d.between room n (main_ends start d.talk) goes gives (omega (arith, length-take n room, gives.fits)) given-of-host))

  pub reads-end : IfSome (now.to_come 0) (λ bytes. bytes ≡ []) → Reads now 0 GotEnd new → Handing start main old new r piece.End
  reads-end none change =
      let goes = (at-main start main old now r d).goes_on in
      hands-its-end start main old now new r r d written refl (d.acts ++ Read 0 0 ∷ [])
      (between-acts old now new d.acts (Read 0 0 ∷ []) d.out d.note d.between (between_read now new 0 GotEnd change))
      (main_reads_one d.acts (Read 0 0) d.out d.note (IsAsked (old.to_come 0) start) d.between.out_written d.between.note_written d.reads (λ is_read. asked-now))
      (opens-nothing d.acts (Read 0 0 ∷ []) refl)
      (alone-then d.acts (Read 0 0 ∷ []) refl refl d.alone)
      (ap (λ o. o.open_ids) change)
      (record { doc = ap (λ o. o.doc_faults) change; main = ap (λ o. o.main_faults) change; out = ap (λ o. o.out_faults) change; note = ap (λ o. o.note_faults) change })
      (handed-still old now.to_come new.to_come so_far r.others.items (ap (λ o. o.to_come) change) d.beside)
      (subst (λ m. HandsOn main m old (d.acts ++ Read 0 0 ∷ []) (main_in start d.talk) true) (sym host)
      (hands-end main old now d.acts d.out d.note (main_in start d.talk) d.between (main_ends start d.talk) goes none given-of-host))

-- The sample

module _ (start : Run) (main : Main) (old now : Outside) (r s : Running) (d : Driving start main old now r pumped.Main) (written : IsWritten r) (left more : List (List ℕ)) (was : r.main ≡ Sample left) (is : s.main ≡ Sample more)
    (same : s ≡ record r { main = s.main }) where
  given-of : HandsOn main (Sample left) old d.acts (main_in start d.talk) (main_ends start d.talk)
  given-of = subst (λ m. HandsOn main m old d.acts (main_in start d.talk) (main_ends start d.talk)) was d.hands

  pub takes-chunk : (chunk : Option (List ℕ)) → TakesPieces left more chunk → HandingChunk start main old now s chunk
  takes-chunk (Some chunk) takes =
      let goes = (at-main start main old now r d).goes_on in
      hands-in start main old now now r s d written same d.acts d.between d.reads refl d.alone refl (same-counts now) d.beside (encode_utf8_all chunk)
      (subst (λ m. HandsOn main m old d.acts (main_in start d.talk ++ encode_utf8_all chunk) (main_ends start d.talk)) (sym is) (by main given-of)) where
        by : (main : Main) → HandsOn main (Sample left) old d.acts (main_in start d.talk) (main_ends start d.talk) → HandsOn main (Sample more) old d.acts (main_in start d.talk ++ encode_utf8_all chunk) (main_ends start d.talk)
        by OfHost h = absurd h
        by (Sample pieces) h = (
          h.0,
          append_assoc (main_in start d.talk) (encode_utf8_all chunk) (encode_utf8_all (concat more))
              ∙ ap (λ l. main_in start d.talk ++ l) (sym (encodes-append chunk (concat more)) ∙ ap encode_utf8_all (ap (λ l. l ++ concat more) takes.3 ∙ sym (concat-append takes.0 more) ∙ ap concat (sym takes.2))) ∙ h.1,
          λ e. absurd (false≢true (sym (at-main start main old now r d).goes_on ∙ e)),
        )
  takes-chunk None takes =
      hands-its-end start main old now now r s d written same d.acts d.between d.reads refl d.alone refl (same-counts now) d.beside
      (subst (λ m. HandsOn main m old d.acts (main_in start d.talk) true) (sym is) (by main given-of)) where
        by : (main : Main) → HandsOn main (Sample left) old d.acts (main_in start d.talk) (main_ends start d.talk) → HandsOn main (Sample more) old d.acts (main_in start d.talk) true
        by OfHost h = absurd h
        by (Sample pieces) h = (h.0, ap (λ l. main_in start d.talk ++ encode_utf8_all (concat l)) (takes.1 ∙ sym takes.0) ∙ h.1, λ e. takes.1)
