-- What a run of any sheet did.
use Rattle.std.proofs.Common.{◌≡◌, ◌⊎◌, inl, inr, ℕ, ◌||◌, true, false, List, [], ◌∷◌, ◌++◌, length, map, Option, Some, None, IsSome, IfSome, Ok, arith, refl, sym, ap, ◌∙◌, subst}
use Rattle.std.specs.List.{list_any}
use Rattle.std.specs.Option.{option_and_then}
use Rattle.std.proofs.lemmas.Bool.{false≢true}
use Rattle.std.proofs.lemmas.List.Folds.{list_any-append}
use Rattle.std.proofs.lemmas.Option.{none-some, same_Some}
use Rattle.std.specs.Prelude.{is_some}
use Rattle.stx_base.specs.Course.{Begins}
use Rattle.command_words.specs.Said.{Word}
use Rattle.command_words.specs.Words.{command_of}
use Rattle.command_words.specs.declared.command.Command.{Command}
use Rattle.command_words.specs.declared.command.Mode.{Mode}
use Rattle.command_words.specs.declared.command.Mode.TheVariants.{Run as AsksRun, Sample}
use Rattle.stx_host.specs.Before.{AtMainReads, Taken, is_main_read}
use Rattle.stx_host.specs.Outside.{Outside, Rose}
use Rattle.stx_host.specs.declared.act.Doc.{Doc}
use Rattle.stx_host.proofs.Stretches.{main_read-append}
use Rattle.fault_report.specs.declared.outcome.HostFault.TheVariants as fault
use Rattle.fault_report.specs.declared.outcome.Outcome.{Outcome}
use Rattle.fault_report.specs.declared.outcome.Outcome.TheVariants as outcome
use Rattle.run_engine.specs.Run as spec
use Rattle.run_engine.specs.Run.{HasHead as Heads, IsAtStart, MayCome, Run, Stage, Stands, StandsAt, head}
use Rattle.run_engine.specs.declared.piece.Piece.{Piece}
use Rattle.run_engine.specs.declared.piece.Piece.TheVariants as piece
use Rattle.sheet_files.specs.Opened.{documents_told}
use Rattle.sheet_files.specs.declared.load.Loaded.{Loaded}
use Rattle.sheet_loader.specs.Values.{Reads}
use Rattle.sheet_runs.specs.Counts.{CountsAt}
use Rattle.sheet_runs.specs.Runs.{AreAsTold, EndsBy, IsAsked, RunsSheet, Writes}
use Rattle.sheet_runs.specs.Talk.{Besides, Exchange, Leads, beside_in, bytes_in, main_ends, none_beside}
use Rattle.sheet_runs.specs.declared.main_document.Main.{Main}
use Rattle.sheet_runs.specs.declared.main_document.Main.TheVariants as main
use Rattle.sheet_runs.specs.declared.run.End.{End}
use Rattle.sheet_runs.specs.declared.run.End.TheVariants as ends
use Rattle.sheet_runs.specs.declared.run.Ran.{Ran}
use Rattle.stx_engine.specs.Answer.{accepted, is_any_run, loaded, param_of, runs_none, sheet_named}
use Rattle.sample_maker.specs.Document.{pieces}
use Rattle.stx_engine.specs.Doing.{DoesCommand, GoesOn, Loads, Stops}
use Rattle.stx_engine.specs.Running.{CountsIn, FailedIn, FailedOn, HasHead, IfDocFailed, IsOwn, LoadsFirst, OpensNames, RefusesWords, Runs, UnlessFailed}
use Rattle.stx_engine.specs.Plain.{pass_of}
use Rattle.stx_engine.specs.RunEnd.{end_of_run, end_of_sample, outcome_in}
use Rattle.stx_engine.specs.declared.run_end.RunEnd.{RunEnd}
use Rattle.stx_engine.specs.declared.run_end.RunEnd.TheVariants.{Told}
use Rattle.stx_engine.specs.inside.Passing.{Checked, DoesAsMeant, Passed, RanIt, RanOnSample, RunsAsMeant}
use Rattle.stx_engine.proofs.AsMeant.{sample-counts, sample-outcome}
use Rattle.stx_engine.proofs.Idle.{no_main_reads, nothing_read}
use Rattle.stx_engine.proofs.Limited.{usual}
use Rattle.stx_engine.proofs.Prefixes.{begins_more}
use Rattle.stx_engine.proofs.Ran.{accepted-is, asks_some, between_after, counts_after, for_command, loads-alone, loads_sheet, main_after, named, none-run-is, none_once, once_after, opens-all, ran-checked, ran-stopped, ran-through, reads_after, unasked}

-- What an engine's talk says

-- the files are those of the start
leads-files : (start run : Run) (talk : List Exchange) → Leads start talk run → run.files ≡ start.files
leads-files start run [] is = ap (λ (r : Run). r.files) is
leads-files start run (x ∷ talk) leads = leads-files x.run run talk leads.1 ∙ leads.0.same.files

-- behind an exchange an engine stands
leads-stands : (start run : Run) (x : Exchange) (talk : List Exchange) → Leads start (x ∷ talk) run → Stands run
leads-stands start run x [] leads = subst Stands (sym leads.1) leads.0.stands
leads-stands start run x (y ∷ talk) leads = leads-stands x.run run y talk leads.1

not-new : (o : Outcome) → spec.New ≡ spec.Over o → ⊥
not-new o e = cc

not-main : spec.New ≡ spec.Main → ⊥
not-main e = cc

-- the first piece is the start
starts : (p : Piece) → MayCome spec.New p → p ≡ piece.Start
starts piece.Start m = refl
starts (piece.Bytes bytes) m = absurd m
starts piece.End m = absurd m
starts piece.Opened m = absurd m
starts piece.Absent m = absurd m

-- the head stands before all else where memory sufficed
heads : (s : Stage) (bytes : List ℕ) → (s ≡ spec.Over outcome.Memory → ⊥) → Heads piece.Start [] s bytes → Begins head bytes
heads spec.New bytes some h = h
heads spec.Main bytes some h = h
heads spec.Document bytes some h = h
heads (spec.Wants name) bytes some h = h
heads (spec.Over outcome.Memory) bytes some h = absurd (some refl)
heads (spec.Over outcome.Done) bytes some h = h
heads (spec.Over (outcome.Run file code offset)) bytes some h = h
heads (spec.Over outcome.Usage) bytes some h = h
heads (spec.Over (outcome.Sheet why)) bytes some h = h
heads (spec.Over (outcome.Xml file why)) bytes some h = h
heads (spec.Over (outcome.Host file f offset)) bytes some h = h
heads (spec.Over (outcome.Fuel file offset)) bytes some h = h

-- no piece comes behind the end
comes-before : (s : Stage) (p : Piece) → MayCome s p → (o : Outcome) → s ≡ spec.Over o → ⊥
comes-before s p may o is = subst (λ s. MayCome s p) is may

-- all that was settled begins with the head, once something was said
leads-head : (start run : Run) (talk : List Exchange) → start.stage ≡ spec.New → Leads start talk run → (run.stage ≡ spec.New → ⊥) → (run.stage ≡ spec.Over outcome.Memory → ⊥) → Begins head (bytes_in talk)
leads-head start run [] new leads old some = absurd (old (ap (λ (r : Run). r.stage) leads ∙ new))
leads-head start run (x ∷ talk) new leads old some =
    let first : x.piece ≡ piece.Start = starts x.piece (subst (λ s. MayCome s x.piece) new leads.0.may) in
    let h : Heads piece.Start [] x.run.stage x.bytes = subst (λ p. Heads p [] x.run.stage x.bytes) first leads.0.head in
    begins_more head x.bytes (bytes_in talk) (heads x.run.stage x.bytes (goes talk leads.1) h) where
      goes : (talk : List Exchange) → Leads x.run talk run → x.run.stage ≡ spec.Over outcome.Memory → ⊥
      goes [] leads is = some (ap (λ (r : Run). r.stage) leads ∙ is)
      goes (y ∷ talk) leads is = comes-before x.run.stage y.piece leads.0.may outcome.Memory is

main-no-new : (s : Stage) → s ≡ spec.Main → s ≡ spec.New → ⊥
main-no-new s m n = not-main (sym n ∙ m)

main-no-lack : (s : Stage) → s ≡ spec.Main → s ≡ spec.Over outcome.Memory → ⊥
main-no-lack s m n = not-over (sym m ∙ n) where
  not-over : spec.Main ≡ spec.Over outcome.Memory → ⊥
  not-over e = cc

over-no-new : (s : Stage) (o : Outcome) → s ≡ spec.Over o → s ≡ spec.New → ⊥
over-no-new s o m n = not-new o (sym n ∙ m)

over-once : (o p : Outcome) → spec.Over o ≡ spec.Over p → o ≡ p
over-once o p e = cc

-- where the main document is asked for the head was written
asked-head : (told : Option (List ℕ)) (start : Run) → start.stage ≡ spec.New → (taken : Taken) → IsAsked told start taken → HasHead taken
asked-head told start new taken a =
    subst (Begins head) (sym a.out) (leads-head start a.run a.talk new a.leads (main-no-new a.run.stage a.asks) (main-no-lack a.run.stage a.asks))

-- an instruction's fault stands in a file of the sheet
own-at : (start run : Run) (talk : List Exchange) (o : Outcome) → start.stage ≡ spec.New → Leads start talk run → run.stage ≡ spec.Over o → spec.EndsBy o start.files run.documents
own-at start run [] o new leads over = absurd (over-no-new run.stage o over (ap (λ (r : Run). r.stage) leads ∙ new))
own-at start run (x ∷ talk) o new leads over =
    subst (λ files. spec.EndsBy o files run.documents) (leads-files start run (x ∷ talk) leads)
    (subst (λ s. StandsAt s run.files run.documents) over (leads-stands start run x talk leads))

-- where documents are told with the ids that are open
told-both : (ids : Option (List ℕ)) (documents : Option (List Doc)) (docs : List Doc) → option_and_then (λ ids. documents) ids ≡ Some docs
    → (P : List Doc → Type 0) → IfSome documents (λ docs. IfSome ids (λ is. P docs)) → P docs
told-both None documents docs e P p = absurd (none-some docs e)
told-both (Some ids) None docs e P p = absurd (none-some docs e)
told-both (Some ids) (Some all) docs e P p = subst P (same_Some all docs e) p

module _ (words : List Word) (c : Command) (asked_for : command_of words ≡ Some c) (old mid new : Outside) (x : Loaded) (l : Loads c old mid (Ok x)) (main_of : Main) (ran : Ran)
    (start : Run) (b : IsAtStart x.sheet (map param_of c.params) c.limits start) (r : RunsSheet start main_of mid new ran) where
  new-stage : start.stage ≡ spec.New
  new-stage = ap (λ (r : Run). r.stage) b.is

  sheet-files : start.files ≡ x.sheet.files
  sheet-files = ap (λ (r : Run). r.files) b.is

  -- the end that is told
  counts-told : (e : End) → CountsAt e mid new → CountsIn (end_of_run e) old new
  counts-told (ends.Told o) by = counts_after words c asked_for old mid new x l o by
  counts-told ends.Unnoted by = (
    subst (λ n. Rose n new.note_faults) l.counts.note by.0,
    record { doc = by.1.doc ∙ l.counts.doc; main = by.1.main ∙ l.counts.main; out = by.1.out ∙ l.counts.out; note = refl },
  )

  failed-told : (e : End) → EndsBy r.run r.acts r.out e → FailedIn (outcome_in (end_of_run e)) (l.acts ++ r.acts) r.out
  failed-told ends.Unnoted h = tt
  failed-told (ends.Told outcome.Memory) h = tt
  failed-told (ends.Told (outcome.Host file fault.Doc offset)) h = tt
  failed-told (ends.Told (outcome.Host file fault.Read offset)) h = (h.1, h.2 ∙ omega (arith, nothing_read l.acts l.did.no_main_read, main_read-append l.acts r.acts))
  failed-told (ends.Told (outcome.Host file fault.Write offset)) h = h
  failed-told (ends.Told outcome.Done) h = tt
  failed-told (ends.Told outcome.Usage) h = absurd h
  failed-told (ends.Told (outcome.Sheet why)) h = absurd h
  failed-told (ends.Told (outcome.Run file code offset)) h = tt
  failed-told (ends.Told (outcome.Xml file why)) h = tt
  failed-told (ends.Told (outcome.Fuel file offset)) h = tt

  -- the documents beside the main one, as they were handed in
  abbrev beside : Besides
  beside = beside_in none_beside start r.talk

  handed-so : IfSome old.documents (λ docs. IfSome old.open_ids (λ ids. AreAsTold docs beside))
  handed-so =
      subst (λ ids. IfSome old.documents (λ docs. IfSome ids (λ is. AreAsTold docs beside))) l.ids
      (subst (λ told. IfSome told (λ docs. IfSome mid.open_ids (λ is. AreAsTold docs beside))) l.did.between.documents r.beside)

  -- on a document that the sheet asked for
  failed-on : pass_of x.sheet ≡ None → (docs : List Doc) → documents_told old ≡ Some docs → (reads : Reads) → (e : End) → EndsBy r.run r.acts r.out e
      → IfDocFailed (outcome_in (end_of_run e)) (FailedOn reads words docs (l.acts ++ r.acts))
  failed-on none docs documents reads (ends.Told (outcome.Host file fault.Doc offset)) h =
      inr (record {
        command = c;
        sheet = x.sheet;
        talk = r.talk;
        run = r.run;
        asked_for = asked_for;
        accepts = accepted-is words c asked_for old mid docs documents reads x l;
        does_more = none;
        start = start;
        begun = b;
        leads = r.leads;
        handed = told-both old.open_ids old.documents docs documents (λ docs. AreAsTold docs beside) handed-so;
        fails = h;
      })
  failed-on none docs documents reads (ends.Told (outcome.Host file fault.Read offset)) h = tt
  failed-on none docs documents reads (ends.Told (outcome.Host file fault.Write offset)) h = tt
  failed-on none docs documents reads ends.Unnoted h = tt
  failed-on none docs documents reads (ends.Told outcome.Memory) h = tt
  failed-on none docs documents reads (ends.Told outcome.Done) h = tt
  failed-on none docs documents reads (ends.Told outcome.Usage) h = tt
  failed-on none docs documents reads (ends.Told (outcome.Sheet why)) h = tt
  failed-on none docs documents reads (ends.Told (outcome.Run file code offset)) h = tt
  failed-on none docs documents reads (ends.Told (outcome.Xml file why)) h = tt
  failed-on none docs documents reads (ends.Told (outcome.Fuel file offset)) h = tt

  named-so : IsSome (sheet_named words)
  named-so = subst IsSome (sym (named words c asked_for)) refl

  refuses-told : (e : End) → EndsBy r.run r.acts r.out e → RefusesWords words (end_of_run e)
  refuses-told ends.Unnoted h = named-so
  refuses-told (ends.Told outcome.Memory) h = tt
  refuses-told (ends.Told (outcome.Host file f offset)) h = named-so
  refuses-told (ends.Told outcome.Done) h = named-so
  refuses-told (ends.Told outcome.Usage) h = absurd h
  refuses-told (ends.Told (outcome.Sheet why)) h = absurd h
  refuses-told (ends.Told (outcome.Run file code offset)) h = named-so
  refuses-told (ends.Told (outcome.Xml file why)) h = named-so
  refuses-told (ends.Told (outcome.Fuel file offset)) h = named-so

  own-told : (e : End) → EndsBy r.run r.acts r.out e → IsOwn (Some x.sheet) (end_of_run e)
  own-told ends.Unnoted h = tt
  own-told (ends.Told outcome.Memory) h = tt
  own-told (ends.Told (outcome.Host file f offset)) h = tt
  own-told (ends.Told outcome.Done) h = tt
  own-told (ends.Told outcome.Usage) h = tt
  own-told (ends.Told (outcome.Sheet why)) h = tt
  own-told (ends.Told (outcome.Run file code offset)) h = subst (λ files. spec.IsAt files file offset) sheet-files (own-at start r.run r.talk (outcome.Run file code offset) new-stage r.leads h)
  own-told (ends.Told (outcome.Xml file why)) h = tt
  own-told (ends.Told (outcome.Fuel file offset)) h = subst (λ files. spec.IsAt files file offset) sheet-files (own-at start r.run r.talk (outcome.Fuel file offset) new-stage r.leads h)

  head-at : (o : Outcome) → r.run.stage ≡ spec.Over o → (o ≡ outcome.Memory → ⊥) → Begins head (bytes_in r.talk)
  head-at o is some = leads-head start r.run r.talk new-stage r.leads (over-no-new r.run.stage o is) (λ e. some (over-once o outcome.Memory (sym is ∙ e)))

  begins-told : (e : End) → EndsBy r.run r.acts r.out e → Writes e r.talk r.out r.note → UnlessFailed (outcome_in (end_of_run e)) ((r.out ≡ []) ⊎ Begins head r.out)
  begins-told ends.Unnoted h w = tt
  begins-told (ends.Told outcome.Memory) h w = tt
  begins-told (ends.Told (outcome.Host file f offset)) h w = tt
  begins-told (ends.Told outcome.Done) h w = inr (subst (Begins head) (sym w.0) (head-at outcome.Done h (λ e. cc)))
  begins-told (ends.Told outcome.Usage) h w = absurd h
  begins-told (ends.Told (outcome.Sheet why)) h w = absurd h
  begins-told (ends.Told (outcome.Run file code offset)) h w = inr (subst (Begins head) (sym w.0) (head-at (outcome.Run file code offset) h (λ e. cc)))
  begins-told (ends.Told (outcome.Xml file why)) h w = inr (subst (Begins head) (sym w.0) (head-at (outcome.Xml file why) h (λ e. cc)))
  begins-told (ends.Told (outcome.Fuel file offset)) h w = inr (subst (Begins head) (sym w.0) (head-at (outcome.Fuel file offset) h (λ e. cc)))

  done-so : (e : End) → outcome_in (end_of_run e) ≡ outcome.Done → e ≡ ends.Told outcome.Done
  done-so (ends.Told o) is = ap ends.Told is
  done-so ends.Unnoted is = absurd (not-done is) where
    not-done : outcome.Memory ≡ outcome.Done → ⊥
    not-done e = cc

  asks-told : AtMainReads (l.acts ++ r.acts) r.out r.note HasHead
  asks-told = reads_after words c asked_for old mid new x l r.acts r.out r.note HasHead (λ k is_read. asked-head (mid.to_come 0) start new-stage _ (r.reads k is_read))

  -- it runs instructions
  runs-some : (mode : Mode) → c.mode ≡ mode → is_any_run mode ≡ true → pass_of x.sheet ≡ None → (reads : Reads) (docs : List Doc) → documents_told old ≡ Some docs → runs_none reads words docs ≡ true → ⊥
  runs-some mode is any none reads docs documents h =
      false≢true
      (sym (none-run-is words c asked_for reads docs x.sheet (accepted-is words c asked_for old mid docs documents reads x l) (ap is_any_run is ∙ any) ∙ ap is_some none) ∙ h)

  -- the sheet that is told
  own-in : (docs : List Doc) → documents_told old ≡ Some docs → (reads : Reads) (end : RunEnd) → IsOwn (Some x.sheet) end → IsOwn (accepted (loaded reads docs c).result) end
  own-in docs documents reads end h = subst (λ s. IsOwn (accepted s) end) (sym (accepted-is words c asked_for old mid docs documents reads x l)) h

-- The main document was read by the sheet

module _ (words : List Word) (c : Command) (asked_for : command_of words ≡ Some c) (old mid new : Outside) (x : Loaded) (l : Loads c old mid (Ok x)) (ran : Ran) where
  pub ran-any :
      c.mode ≡ AsksRun → pass_of x.sheet ≡ None → (start : Run) (b : IsAtStart x.sheet (map param_of c.params) c.limits start) → RunsSheet start main.Host mid new ran → Runs words old new (end_of_run ran.end)
  ran-any plain none start b r = record {
    acts = l.acts ++ r.acts;
    out = r.out;
    note = r.note;
    between = between_after words c asked_for old mid new x l r.acts r.out r.note r.between;
    ended = main_ends start r.talk;
    once = once_after words c asked_for old mid new x l (main_ends start r.talk) r.acts r.hands.0;
    ids = r.ids ∙ l.ids;
    counts = counts-told words c asked_for old mid new x l main.Host ran start b r ran.end r.counts;
    failed = failed-told words c asked_for old mid new x l main.Host ran start b r ran.end r.ends;
    refuses = refuses-told words c asked_for old mid new x l main.Host ran start b r ran.end r.ends;
    takes = λ no_run. absurd (asks_some words c asked_for AsksRun plain refl no_run);
    told = λ docs documents. record {
      sheet = λ reads. loads_sheet words c asked_for old mid new x l docs documents reads r.acts (outcome_in (end_of_run ran.end)) (runs_none reads words docs)
          (λ is. absurd (runs-some words c asked_for old mid new x l main.Host ran start b r AsksRun plain refl none reads docs documents is));
      takes = λ reads is. absurd (runs-some words c asked_for old mid new x l main.Host ran start b r AsksRun plain refl none reads docs documents is);
      failed = λ reads. failed-on words c asked_for old mid new x l main.Host ran start b r none docs documents reads ran.end r.ends;
      own = λ reads. for_command words c asked_for (λ c. IsOwn (accepted (loaded reads docs c).result) (end_of_run ran.end))
          (own-in words c asked_for old mid new x l main.Host ran start b r docs documents reads (end_of_run ran.end) (own-told words c asked_for old mid new x l main.Host ran start b r ran.end r.ends));
    };
    main_told = λ document told. record {
      all = λ asks done.
          let whole = r.whole (done-so words c asked_for old mid new x l main.Host ran start b r ran.end done) in
          let handed = r.hands.2 document (main_after words c asked_for old mid new x l document told) in (
            whole,
            omega (arith, nothing_read l.acts l.did.no_main_read, main_read-append l.acts r.acts, r.hands.1, ap length (handed.1 whole)),
          );
      begins = begins-told words c asked_for old mid new x l main.Host ran start b r ran.end r.ends r.writes;
      asks = asks-told words c asked_for old mid new x l main.Host ran start b r;
    };
  }

  -- the sample was
  module _ (records : ℕ) (pieces : List (List ℕ)) where
    abbrev of : Main
    of = main.Sample pieces

    abbrev end : RunEnd
    end = end_of_sample records ran ran.end

    refuses-on : (e : End) → RefusesWords words (end_of_run e) → RefusesWords words (end_of_sample records ran e)
    refuses-on ends.Unnoted h = h
    refuses-on (ends.Told outcome.Done) h = h
    refuses-on (ends.Told outcome.Memory) h = h
    refuses-on (ends.Told (outcome.Host file f offset)) h = h
    refuses-on (ends.Told outcome.Usage) h = h
    refuses-on (ends.Told (outcome.Sheet why)) h = h
    refuses-on (ends.Told (outcome.Run file code offset)) h = h
    refuses-on (ends.Told (outcome.Xml file why)) h = h
    refuses-on (ends.Told (outcome.Fuel file offset)) h = h

    own-on : (e : End) → IsOwn (Some x.sheet) (end_of_run e) → IsOwn (Some x.sheet) (end_of_sample records ran e)
    own-on ends.Unnoted h = h
    own-on (ends.Told outcome.Done) h = tt
    own-on (ends.Told outcome.Memory) h = h
    own-on (ends.Told (outcome.Host file f offset)) h = h
    own-on (ends.Told outcome.Usage) h = h
    own-on (ends.Told (outcome.Sheet why)) h = h
    own-on (ends.Told (outcome.Run file code offset)) h = h
    own-on (ends.Told (outcome.Xml file why)) h = h
    own-on (ends.Told (outcome.Fuel file offset)) h = h

    unread : (start : Run) (r : RunsSheet start of mid new ran) → list_any is_main_read (l.acts ++ r.acts) ≡ false
    unread start r = list_any-append is_main_read l.acts r.acts ∙ ap (λ b. b || list_any is_main_read r.acts) l.did.no_main_read ∙ r.hands.0

    pub ran-any-sampled :
        c.mode ≡ Sample records → pass_of x.sheet ≡ None → (start : Run) (b : IsAtStart x.sheet (map param_of c.params) c.limits start) → RunsSheet start of mid new ran → Runs words old new end
    ran-any-sampled sample none start b r = record {
      acts = l.acts ++ r.acts;
      out = r.out;
      note = r.note;
      between = between_after words c asked_for old mid new x l r.acts r.out r.note r.between;
      ended = false;
      once = none_once (l.acts ++ r.acts) (unread start r);
      ids = r.ids ∙ l.ids;
      counts = sample-counts records ran ran.end old new (counts-told words c asked_for old mid new x l of ran start b r ran.end r.counts);
      failed = subst (λ o. FailedIn o (l.acts ++ r.acts) r.out) (sym (sample-outcome records ran ran.end)) (failed-told words c asked_for old mid new x l of ran start b r ran.end r.ends);
      refuses = refuses-on ran.end (refuses-told words c asked_for old mid new x l of ran start b r ran.end r.ends);
      takes = λ no_run. absurd (asks_some words c asked_for (Sample records) sample refl no_run);
      told = λ docs documents. record {
        sheet = λ reads. loads_sheet words c asked_for old mid new x l docs documents reads r.acts (outcome_in end) (runs_none reads words docs)
            (λ is. absurd (runs-some words c asked_for old mid new x l of ran start b r (Sample records) sample refl none reads docs documents is));
        takes = λ reads is. absurd (runs-some words c asked_for old mid new x l of ran start b r (Sample records) sample refl none reads docs documents is);
        failed = λ reads. subst (λ o. IfDocFailed o (FailedOn reads words docs (l.acts ++ r.acts))) (sym (sample-outcome records ran ran.end)) (failed-on words c asked_for old mid new x l of ran start b r none docs documents reads ran.end r.ends);
        own = λ reads. for_command words c asked_for (λ c. IsOwn (accepted (loaded reads docs c).result) end)
            (own-in words c asked_for old mid new x l of ran start b r docs documents reads end (own-on ran.end (own-told words c asked_for old mid new x l of ran start b r ran.end r.ends)));
      };
      main_told = λ document told. record {
        all = λ asks is. absurd (unasked words c asked_for (Sample records) sample refl asks);
        begins = subst (λ o. UnlessFailed o ((r.out ≡ []) ⊎ Begins head r.out)) (sym (sample-outcome records ran ran.end)) (begins-told words c asked_for old mid new x l of ran start b r ran.end r.ends r.writes);
        asks = no_main_reads (l.acts ++ r.acts) r.out r.note HasHead (unread start r);
      };
    }

  -- there was no memory to begin it
  pub ran-lacking : new ≡ mid → Runs words old new (Told outcome.Memory)
  ran-lacking is = subst (λ o. Runs words old o (Told outcome.Memory)) (sym is) (record {
    acts = l.acts;
    out = [];
    note = [];
    between = l.did.between;
    ended = false;
    once = none_once l.acts l.did.no_main_read;
    ids = l.ids;
    counts = l.counts.note;
    failed = tt;
    refuses = tt;
    takes = λ no_run. tt;
    told = λ docs documents. record {
      sheet = λ reads. for_command words c asked_for (λ c. LoadsFirst reads docs c.sheet (OpensNames docs (loaded reads docs c).opened outcome.Memory) (runs_none reads words docs) l.acts)
          (loads-alone words c asked_for old mid docs documents reads (Ok x) l outcome.Memory (opens-all words c asked_for old mid docs documents reads x l outcome.Memory) (runs_none reads words docs));
      takes = λ reads is. tt;
      failed = λ reads. tt;
      own = λ reads. for_command words c asked_for (λ c. IsOwn (accepted (loaded reads docs c).result) (Told outcome.Memory)) tt;
    };
    main_told = λ document told. record { all = λ asks is. cc; begins = tt; asks = no_main_reads l.acts [] [] HasHead l.did.no_main_read };
  })

-- What a command did

module _ (words : List Word) (c : Command) (asked_for : command_of words ≡ Some c) (old : Outside) where
  ran-does : (mid new : Outside) (x : Loaded) (l : Loads c old mid (Ok x)) (end : RunEnd) → DoesAsMeant c x.sheet mid new end → Runs words old new end
  ran-does mid new x l e (Checked alone same is) =
      subst (λ o. Runs words old o e) (sym same) (subst (Runs words old mid) (sym is) (ran-checked words c asked_for old mid alone x l))
  ran-does mid new x l e (Passed any d) = ran-through words c asked_for old mid new x l e any d
  ran-does mid new x l e (RanIt plain none ran (inl r) is) = subst (Runs words old new) (sym is) (ran-any words c asked_for old mid new x l ran plain none r.0 r.1.0 r.1.1)
  ran-does mid new x l e (RanIt plain none ran (inr lacks) is) =
      subst (Runs words old new) (sym (is ∙ ap end_of_run lacks.1)) (ran-lacking words c asked_for old mid new x l ran lacks.0)
  ran-does mid new x l e (RanOnSample records sample none ran (inl r) is) = subst (Runs words old new) (sym is) (ran-any-sampled words c asked_for old mid new x l ran records (pieces records) sample none r.0 r.1.0 r.1.1)
  ran-does mid new x l e (RanOnSample records sample none ran (inr lacks) is) =
      subst (Runs words old new) (sym (is ∙ ap (end_of_sample records ran) lacks.1)) (ran-lacking words c asked_for old mid new x l ran lacks.0)

  pub ran-command : RunsAsMeant → (new : Outside) (end : RunEnd) → DoesCommand c old new end → Runs words old new end
  ran-command law new e (Stops o l is) = subst (Runs words old new) (sym is) (ran-stopped words c asked_for old new o l)
  ran-command law new e (GoesOn mid x l does) = ran-does mid new x l e (law c x.sheet mid new e (usual words c asked_for) does)
