-- What was done where the answer is said.
use Rattle.std.proofs.Common.{◌≡◌, ◌⊎◌, inl, inr, ℕ, ◌||◌, Bool, true, false, if◌then◌else◌, List, [], ◌++◌, map, take, Some, None, Ok, Err, refl, sym, ap, subst, ◌∙◌, append-nil}
use Rattle.std.specs.Prelude.{is_some}
use Rattle.std.specs.List.{concat}
use Rattle.std.proofs.lemmas.Bool.{false≢true}
use Rattle.std.proofs.lemmas.Option.{none-some, same_Some}
use Rattle.stx_base.specs.Course.{Begins}
use Rattle.stx_host.specs.declared.act.Act.{Act}
use Rattle.stx_host.specs.Before.{AtMainReads, Taken}
use Rattle.stx_host.specs.Outside.{LacksRoom, Outside, SameCounts}
use Rattle.stx_host.specs.Rooms.{needed}
use Rattle.stx_host.specs.declared.act.Doc.{Doc}
use Rattle.stx_host.proofs.Lacking.{needs_after}
use Rattle.stx_host.proofs.Stretches.{nothing_between}
use Rattle.instr_code.specs.Code.{code_of}
use Rattle.sheet_files.specs.Acts.{opens}
use Rattle.sheet_files.specs.Loading as loading
use Rattle.sheet_files.specs.Opened.{documents_told}
use Rattle.sheet_files.specs.declared.load.Loaded.{Loaded}
use Rattle.sheet_loader.specs.Values.{Reads}
use Rattle.sheet_model.specs.declared.sheet.Sheet as model
use Rattle.template_machine.specs.Ordinary.{IsOrdinary}
use Rattle.fault_report.specs.declared.outcome.HostFault.TheVariants as fault
use Rattle.fault_report.specs.declared.outcome.Outcome.{Outcome}
use Rattle.fault_report.specs.declared.outcome.Outcome.TheVariants as outcome
use Rattle.command_words.specs.Words.{command_of}
use Rattle.command_words.specs.declared.command.Command.{Command}
use Rattle.command_words.specs.declared.command.Mode.{Mode}
use Rattle.command_words.specs.declared.command.Mode.TheVariants.{Run as AsksRun, Check, Sample}
use Rattle.run_engine.specs.Run.{IsAtStart, Run}
use Rattle.sample_maker.specs.Document as sample
use Rattle.sheet_runs.specs.Counts as run_counts
use Rattle.sheet_runs.specs.Meant.{IsDocument, IsOnOther, IsSettledOn, KeepsMeaning, RunsKeepMeaning}
use Rattle.sheet_runs.specs.Runs.{RunsSheet}
use Rattle.sheet_runs.specs.declared.main_document.Main.{Main}
use Rattle.sheet_runs.specs.declared.main_document.Main.TheVariants as main_of
use Rattle.sheet_runs.specs.declared.run.End.{End}
use Rattle.sheet_runs.specs.declared.run.End.TheVariants as ends
use Rattle.sheet_runs.specs.declared.run.Ran.{Ran}
use Rattle.stx_engine.specs.Answer.{Answer, Asked_for, answer, answered, asked, document_of, end_in, given_of, is_any_run, is_run, loaded, mode_answer, param_of, ran, sheet_answer, words_answer}
use Rattle.stx_engine.specs.Doing.{DoesCommand, DoesWords, GoesOn, Lacks, Loads, Obeys, Refuses, Stops}
use Rattle.stx_engine.specs.Plain.{is_ordinary, pass_of, takes_in_order}
use Rattle.stx_engine.specs.RunEnd.{end_of_run, end_of_sample, outcome_in}
use Rattle.stx_engine.specs.Running.{Asks, CountsIn, FailedOnSheet, IfDocFailed, IfFailed, IsAnswered, OpensNames, RunsAnswered, UnlessFailed}
use Rattle.stx_engine.specs.declared.run_end.RunEnd.{RunEnd}
use Rattle.stx_engine.specs.declared.run_end.RunEnd.TheVariants.{Told, Sampled, Unnoted}
use Rattle.stx_engine.specs.inside.Passing.{Checked, DoesAsMeant, Passed, PassesOn, RanIt, RanOnSample, RunsAsMeant}
use Rattle.sheet_runs.proofs.Acting.{opens-then}
use Rattle.sheet_runs.proofs.Lacking.{needs_all}
use Rattle.sheet_runs.proofs.Stepping.{counts-then}
use Rattle.stx_engine.proofs.AsMeant.{answers-so, begins-so, kept, lacks-so, main-fails, sample-bytes, sample-fails, sample-is, sample-outcome}
use Rattle.stx_engine.proofs.Idle.{no_main_reads}
use Rattle.stx_engine.proofs.Limited.{usual}
use Rattle.stx_engine.proofs.Prefixes.{begins_all, begins_nothing}
use Rattle.stx_engine.proofs.Meant.{HaveMeaning, MeaningIsOutcome}
use Rattle.stx_engine.proofs.Ordered.{ordinary-so}
use Rattle.stx_engine.proofs.Ran.{accepted-is, answer-is, answer-opened, answered-by, answered-stopped, asked-so, between_after, failed-on-sheet, main_after, never-on-doc, opens-all, opens-stopped, ran-opens, reads_after}

no-check : is_any_run Check ≡ true → ⊥
no-check e = false≢true e

-- What is answered to a run

if-said : (t : Bool) (k : Asked_for) (opened : List (List ℕ)) (main : List ℕ) (a : Answer) → takes_in_order k.sheet ≡ t → (if t then Some (ran k opened main) else None) ≡ Some a
    → (takes_in_order k.sheet ≡ true) × (ran k opened main ≡ a)
if-said true k opened main a t e = (t, same_Some (ran k opened main) a e)
if-said false k opened main a t e = absurd (none-some a e)

mode-said : (m : Mode) (k : Asked_for) (opened : List (List ℕ)) (main : List ℕ) (a : Answer) → is_any_run m ≡ true → mode_answer m k opened main ≡ Some a → (takes_in_order k.sheet ≡ true) × (ran k opened main ≡ a)
mode-said Check k opened main a any e = absurd (no-check any)
mode-said AsksRun k opened main a any e = if-said (takes_in_order k.sheet) k opened main a refl e
mode-said (Sample records) k opened main a any e = if-said (takes_in_order k.sheet) k opened main a refl e

-- a sheet that doesn't only pass documents through is an ordinary one
more-ordinary : (sheet : model.Sheet) → pass_of sheet ≡ None → takes_in_order sheet ≡ true → IsOrdinary (code_of sheet)
more-ordinary sheet none order = ordinary-so (code_of sheet) (sym (ap (λ o. is_some o || is_ordinary (code_of sheet)) none) ∙ order)

-- what follows from a failure, where no count changed before
failed-before : (end : RunEnd) (old mid new : Outside) (P Q : Type 0) → SameCounts old mid → (P → Q) → IfFailed end mid new P → IfFailed end old new Q
failed-before (Told (outcome.Host file f offset)) old mid new P Q same g p = g p
failed-before (Told outcome.Memory) old mid new P Q same g p = elim p [
  | inl counts ↦ inl (counts-then old mid new same counts)
  | inr p ↦ inr (g p)
]
failed-before (Told outcome.Done) old mid new P Q same g p = tt
failed-before (Told outcome.Usage) old mid new P Q same g p = tt
failed-before (Told (outcome.Sheet why)) old mid new P Q same g p = tt
failed-before (Told (outcome.Run file code offset)) old mid new P Q same g p = tt
failed-before (Told (outcome.Xml file why)) old mid new P Q same g p = tt
failed-before (Told (outcome.Fuel file offset)) old mid new P Q same g p = tt
failed-before (Sampled s) old mid new P Q same g p = tt
failed-before Unnoted old mid new P Q same g p = g p

-- where nothing was written

module _ (reads : Reads) (words : List (List ℕ)) (docs : List Doc) (main : List ℕ) (a : Answer) where
  nothing-done : (o : Outside) (end : RunEnd) → UnlessFailed (outcome_in end) (IsAnswered [] [] end a) → UnlessFailed (outcome_in end) ([] ≡ a.opened) → IfDocFailed (outcome_in end) (FailedOnSheet reads words docs [])
      → IfFailed end o o (LacksRoom o (needed [] a.out a.messages)) → RunsAnswered reads words docs main o o end a
  nothing-done o end ends opened failed room = record {
    acts = [];
    out = [];
    note = [];
    between = nothing_between o;
    asks = λ n is_read. absurd (false≢true is_read);
    begins = (begins_nothing a.out, begins_nothing a.messages);
    ends = ends;
    opened = ([], begins_nothing a.opened, refl, opened);
    failed = failed;
    room = room;
  }

-- What a command did

module _ (law : RunsKeepMeaning) (have : HaveMeaning) (is-outcome : MeaningIsOutcome) (joins : (n : ℕ) → concat (sample.pieces n) ≡ sample.document n)
    (reads : Reads) (words : List (List ℕ)) (docs : List Doc) (main : List ℕ) (c : Command) (asked_for : command_of words ≡ Some c) (old mid new : Outside)
    (documents : documents_told old ≡ Some docs) (told : old.to_come 0 ≡ Some main) (x : Loaded) (l : Loads c old mid (Ok x)) (any : is_any_run c.mode ≡ true) where
  abbrev k : Asked_for
  k = record { command = c; sheet = x.sheet }

  abbrev names : List (List ℕ)
  names = (loaded reads docs c).opened

  abbrev a : Answer
  a = ran k names main

  abbrev Answers : Outside → RunEnd → Type 0
  Answers new end = RunsAnswered reads words docs main old new end a

  asked-here : asked reads words docs ≡ Some k
  asked-here = asked-so words c asked_for reads docs x.sheet (accepted-is words c asked_for old mid docs documents reads x l) any

  opens-names : a.opened ≡ names
  opens-names = ran-opens k names main

  -- before a read
  asks-so : is_run c.mode ≡ true → (t : Taken) → IsSettledOn (given_of k) (take t.main_read main) t → Asks reads words docs main t
  asks-so plain t s = record { run = k; is = asked-here; on_main = plain; settled = s }

  -- the files of the sheet alone are opened
  opened-so : (acts : List Act) (o : Outcome) → opens acts ≡ [] → OpensNames docs a.opened o (l.acts ++ acts)
  opened-so acts o none =
      let t = opens-all words c asked_for old mid docs documents reads x l o in
      subst (λ n. OpensNames docs n o (l.acts ++ acts)) (sym opens-names) (t.0, t.1, opens-then l.acts acts ∙ ap (λ n. opens l.acts ++ n) none ∙ append-nil (opens l.acts) ∙ t.2, t.3)

  -- nothing failed so far
  loaded-counts : SameCounts old mid
  loaded-counts = record { doc = l.counts.doc; main = l.counts.main; out = l.counts.out; note = l.counts.note }

  -- who lacked room behind loading lacked it for that too
  lacks-behind : (end : RunEnd) (new : Outside) (acts : List Act) (out note : List ℕ) → Begins out a.out → Begins note a.messages → IfFailed end mid new (LacksRoom mid (needed acts out note))
      → IfFailed end old new (LacksRoom old (needed (l.acts ++ acts) a.out a.messages))
  lacks-behind end new acts out note of_out of_note =
      failed-before end old mid new (LacksRoom mid (needed acts out note)) (LacksRoom old (needed (l.acts ++ acts) a.out a.messages)) loaded-counts
      (λ lacks. needs_all old (l.acts ++ acts) out a.out note a.messages of_out of_note (needs_after old mid l.acts acts [] out [] note l.did.between l.ids lacks))

  -- there was no memory to begin it
  lacking : new ≡ mid → Answers new (Told outcome.Memory)
  lacking is = subst (λ o. Answers o (Told outcome.Memory)) (sym is) (record {
    acts = l.acts;
    out = [];
    note = [];
    between = l.did.between;
    asks = no_main_reads l.acts [] [] (Asks reads words docs main) l.did.no_main_read;
    begins = (begins_nothing a.out, begins_nothing a.messages);
    ends = tt;
    opened = subst (λ n. OpensNames docs n outcome.Memory l.acts) (sym opens-names) (opens-all words c asked_for old mid docs documents reads x l outcome.Memory);
    failed = tt;
    room = inl loaded-counts;
  })

  -- the document was passed through
  through : (end : RunEnd) → PassesOn k mid new end → Answers new end
  through end d =
      let w = d.writes main (λ plain. main_after words c asked_for old mid new x l main told) names in
      record {
        acts = l.acts ++ d.acts;
        out = d.out;
        note = [];
        between = between_after words c asked_for old mid new x l d.acts d.out [] d.between;
        asks = reads_after words c asked_for old mid new x l d.acts d.out [] (Asks reads words docs main) (by_mode (is_run c.mode) refl);
        begins = (w.0, begins_nothing a.messages);
        ends = w.1;
        opened = opened-so d.acts (outcome_in end) d.opened;
        failed = never-on-doc (outcome_in end) d.acts d.out d.failed (FailedOnSheet reads words docs (l.acts ++ d.acts));
        room = lacks-behind end new d.acts d.due [] (d.settles main (λ plain. main_after words c asked_for old mid new x l main told) names) (begins_nothing a.messages) d.room;
      } where
        by_mode : (plain : Bool) → is_run c.mode ≡ plain → AtMainReads d.acts d.out [] (Asks reads words docs main)
        by_mode true is = λ n is_read. asks-so is _ (d.reads main (main_after words c asked_for old mid new x l main told) n is_read)
        by_mode false is = no_main_reads d.acts d.out [] (Asks reads words docs main) (d.no_main_read is)

  -- it was run by the sheet
  module _ (ordinary : IsOrdinary (code_of x.sheet)) (source : Main) (came : Ran) (start : Run) (b : IsAtStart x.sheet (map param_of c.params) c.limits start) (r : RunsSheet start source mid new came) (end : RunEnd)
      (is-document : IsDocument source mid (document_of c.mode main)) (same-outcome : outcome_in end ≡ outcome_in (end_of_run came.end))
      (fails-as : (P : Type 0) → run_counts.IfFailed came.end mid new P → IfFailed end mid new P) where
    h : KeepsMeaning (given_of k) source mid new r.acts r.out r.note came.end
    h = kept law have is-outcome k ordinary source mid new came start b r

    -- no other document is opened, so that none fails
    failed-by : (e : End) → (IsOnOther e → ⊥) → IfDocFailed (outcome_in (end_of_run e)) (FailedOnSheet reads words docs (l.acts ++ r.acts))
    failed-by ends.Unnoted alone = tt
    failed-by (ends.Told outcome.Memory) alone = tt
    failed-by (ends.Told (outcome.Host file fault.Doc offset)) alone = absurd (alone tt)
    failed-by (ends.Told (outcome.Host file fault.Read offset)) alone = tt
    failed-by (ends.Told (outcome.Host file fault.Write offset)) alone = tt
    failed-by (ends.Told outcome.Done) alone = tt
    failed-by (ends.Told outcome.Usage) alone = tt
    failed-by (ends.Told (outcome.Sheet why)) alone = tt
    failed-by (ends.Told (outcome.Run file code offset)) alone = tt
    failed-by (ends.Told (outcome.Xml file why)) alone = tt
    failed-by (ends.Told (outcome.Fuel file offset)) alone = tt

    run-so : AtMainReads r.acts r.out r.note (Asks reads words docs main) → ((o : Outcome) → came.end ≡ ends.Told o → end ≡ end_in c.mode r.out o) → Answers new end
    run-so asks is = record {
      acts = l.acts ++ r.acts;
      out = r.out;
      note = r.note;
      between = between_after words c asked_for old mid new x l r.acts r.out r.note r.between;
      asks = reads_after words c asked_for old mid new x l r.acts r.out r.note (Asks reads words docs main) asks;
      begins = begins-so law have is-outcome k ordinary source mid new came start b r names main is-document;
      ends = answers-so law have is-outcome k ordinary source mid new came start b r names main is-document end same-outcome is;
      opened = opened-so r.acts (outcome_in end) h.opened;
      failed = subst (λ o. IfDocFailed o (FailedOnSheet reads words docs (l.acts ++ r.acts))) (sym same-outcome) (failed-by came.end h.alone);
      room = lacks-behind end new r.acts a.out a.messages (begins_all a.out) (begins_all a.messages)
          (fails-as (LacksRoom mid (needed r.acts a.out a.messages)) (lacks-so law have is-outcome k ordinary source mid new came start b r names main is-document));
    }

  -- the main document was read
  run-main : IsOrdinary (code_of x.sheet) → (came : Ran) (start : Run) (b : IsAtStart x.sheet (map param_of c.params) c.limits start) → c.mode ≡ AsksRun → RunsSheet start main_of.Host mid new came → Answers new (end_of_run came.end)
  run-main ordinary came start b plain r =
      let there = main_after words c asked_for old mid new x l main told in
      run-so ordinary main_of.Host came start b r (end_of_run came.end) (there ∙ ap Some (ap (λ m. document_of m main) (sym plain))) refl (main-fails came.end mid new)
      (λ n is_read. asks-so (ap is_run plain) _ ((kept law have is-outcome k ordinary main_of.Host mid new came start b r).reads main there n is_read))
      (λ o is. ap end_of_run is ∙ sym (ap (λ m. end_in m r.out o) plain))

  -- the sample was
  run-sample : IsOrdinary (code_of x.sheet) → (records : ℕ) (came : Ran) (start : Run) (b : IsAtStart x.sheet (map param_of c.params) c.limits start) → c.mode ≡ Sample records → RunsSheet start (main_of.Sample (sample.pieces records)) mid new came
      → Answers new (end_of_sample records came came.end)
  run-sample ordinary records came start b plain r =
      run-so ordinary (main_of.Sample (sample.pieces records)) came start b r (end_of_sample records came came.end) (ap (λ m. document_of m main) plain ∙ sample-bytes joins records) (sample-outcome records came came.end)
      (sample-fails records came came.end mid new)
      (no_main_reads r.acts r.out r.note (Asks reads words docs main) r.hands.0)
      (λ o is. sample-is joins records mid new came start r o is ∙ sym (ap (λ m. end_in m r.out o) plain))

-- What was done with words

module _ (runs : RunsAsMeant) (law : RunsKeepMeaning) (have : HaveMeaning) (is-outcome : MeaningIsOutcome) (joins : (n : ℕ) → concat (sample.pieces n) ≡ sample.document n)
    (reads : Reads) (words : List (List ℕ)) (docs : List Doc) (main : List ℕ) (a : Answer) (said : answer reads words docs main ≡ Some a) (old : Outside) (documents : documents_told old ≡ Some docs) (told : old.to_come 0 ≡ Some main) where
  abbrev Ends_as_said : Outside → RunEnd → Type 0
  Ends_as_said new end = RunsAnswered reads words docs main old new end a

  -- they were refused
  refused : command_of words ≡ None → Ends_as_said old (Told outcome.Usage)
  refused none =
      let is : answered outcome.Usage [] ≡ a = same_Some (answered outcome.Usage []) a (sym (ap (λ c. words_answer reads c docs main) none) ∙ said) in
      nothing-done reads words docs main a old (Told outcome.Usage) (answered-by outcome.Usage [] a is) (ap (λ x. x.opened) is) tt tt

  module _ (c : Command) (asked_for : command_of words ≡ Some c) where
    abbrev files : List (List ℕ)
    files = (loaded reads docs c).opened

    names-is : files ≡ a.opened
    names-is = answer-opened words c asked_for reads docs main a said

    by-files : (o : Outcome) (acts : List Act) → OpensNames docs files o acts → OpensNames docs a.opened o acts
    by-files o acts = subst (λ n. OpensNames docs n o acts) names-is

    -- the sheet was refused, or it couldn't be read
    stopped : (new : Outside) (o : Outcome) (l : Loads c old new (Err o)) → Ends_as_said new (Told o)
    stopped new o l = record {
      acts = l.acts;
      out = [];
      note = [];
      between = l.did.between;
      asks = no_main_reads l.acts [] [] (Asks reads words docs main) l.did.no_main_read;
      begins = (begins_nothing a.out, begins_nothing a.messages);
      ends = answered-stopped words c asked_for old new o l docs documents reads main a said;
      opened = by-files o l.acts (opens-stopped words c asked_for old new o l docs documents reads);
      failed = failed-on-sheet words c asked_for old new o l docs documents reads;
      room = lacks-loading o l.counts.doc l.did.room;
    } where
      -- where a file couldn't be read
      lacks-loading : (o : Outcome) → loading.DocCount (Err o) old.doc_faults new.doc_faults → loading.IfFailed (Err o) (LacksRoom old (needed l.acts [] [])) → IfFailed (Told o) old new (LacksRoom old (needed l.acts a.out a.messages))
      lacks-loading (outcome.Host file f offset) h lacks = needs_all old l.acts [] a.out [] a.messages (begins_nothing a.out) (begins_nothing a.messages) lacks
      lacks-loading outcome.Memory h lacks = inl (record { doc = h; main = l.counts.main; out = l.counts.out; note = l.counts.note })
      lacks-loading outcome.Done h lacks = tt
      lacks-loading outcome.Usage h lacks = tt
      lacks-loading (outcome.Sheet why) h lacks = tt
      lacks-loading (outcome.Run file code offset) h lacks = tt
      lacks-loading (outcome.Xml file why) h lacks = tt
      lacks-loading (outcome.Fuel file offset) h lacks = tt

    module _ (mid new : Outside) (x : Loaded) (l : Loads c old mid (Ok x)) where
      abbrev task : Asked_for
      task = record { command = c; sheet = x.sheet }

      said-of : mode_answer c.mode task files main ≡ Some a
      said-of =
          sym (ap (λ r. sheet_answer c files r main) (accepted-is words c asked_for old mid docs documents reads x l)) ∙ sym (answer-is words c asked_for reads docs main) ∙ said

      -- the sheet alone was asked for
      checked : c.mode ≡ Check → Ends_as_said mid (Told outcome.Done)
      checked alone =
          let is : answered outcome.Done files ≡ a = same_Some (answered outcome.Done files) a (sym (ap (λ m. mode_answer m task files main) alone) ∙ said-of) in
          record {
            acts = l.acts;
            out = [];
            note = [];
            between = l.did.between;
            asks = no_main_reads l.acts [] [] (Asks reads words docs main) l.did.no_main_read;
            begins = (begins_nothing a.out, begins_nothing a.messages);
            ends = answered-by outcome.Done files a is;
            opened = by-files outcome.Done l.acts (opens-all words c asked_for old mid docs documents reads x l outcome.Done);
            failed = tt;
            room = tt;
          }

      -- a run was
      module _ (any : is_any_run c.mode ≡ true) where
        so : (takes_in_order x.sheet ≡ true) × (ran task files main ≡ a)
        so = mode-said c.mode task files main a any said-of

        as-said : (end : RunEnd) → RunsAnswered reads words docs main old new end (ran task files main) → Ends_as_said new end
        as-said end = subst (RunsAnswered reads words docs main old new end) so.1

      run-any : (mode : Mode) → c.mode ≡ mode → is_any_run mode ≡ true → is_any_run c.mode ≡ true
      run-any mode is any = ap is_any_run is ∙ any

      did : (end : RunEnd) → DoesAsMeant c x.sheet mid new end → Ends_as_said new end
      did end (Checked alone same is) = subst (λ o. Ends_as_said o end) (sym same) (subst (Ends_as_said mid) (sym is) (checked alone))
      did end (Passed any d) = as-said any end (through law have is-outcome joins reads words docs main c asked_for old mid new documents told x l any end d)
      did end (RanIt plain none came (inl r) is) =
          let any = run-any AsksRun plain refl in
          as-said any end (subst (λ e. RunsAnswered reads words docs main old new e (ran task files main)) (sym is)
          (run-main law have is-outcome joins reads words docs main c asked_for old mid new documents told x l any (more-ordinary x.sheet none (so any).0) came r.0 r.1.0 plain r.1.1))
      did end (RanIt plain none came (inr lacks) is) =
          let any = run-any AsksRun plain refl in
          as-said any end (subst (λ e. RunsAnswered reads words docs main old new e (ran task files main)) (sym (is ∙ ap end_of_run lacks.1))
          (lacking law have is-outcome joins reads words docs main c asked_for old mid new documents told x l any lacks.0))
      did end (RanOnSample records plain none came (inl r) is) =
          let any = run-any (Sample records) plain refl in
          as-said any end (subst (λ e. RunsAnswered reads words docs main old new e (ran task files main)) (sym is)
          (run-sample law have is-outcome joins reads words docs main c asked_for old mid new documents told x l any (more-ordinary x.sheet none (so any).0) records came r.0 r.1.0 plain r.1.1))
      did end (RanOnSample records plain none came (inr lacks) is) =
          let any = run-any (Sample records) plain refl in
          as-said any end (subst (λ e. RunsAnswered reads words docs main old new e (ran task files main)) (sym (is ∙ ap (end_of_sample records came) lacks.1))
          (lacking law have is-outcome joins reads words docs main c asked_for old mid new documents told x l any lacks.0))

    commanded : (new : Outside) (end : RunEnd) → DoesCommand c old new end → Ends_as_said new end
    commanded new end (Stops o l is) = subst (Ends_as_said new) (sym is) (stopped new o l)
    commanded new end (GoesOn mid x l does) = did mid new x l end (runs c x.sheet mid new end (usual words c asked_for) does)

  pub answered-words : (new : Outside) (end : RunEnd) → DoesWords words old new end → Ends_as_said new end
  answered-words new end (Refuses none same is) = subst (λ o. Ends_as_said o end) (sym same) (subst (Ends_as_said old) (sym is) (refused none))
  answered-words new end (Lacks same is) = subst (λ o. Ends_as_said o end) (sym same) (subst (Ends_as_said old) (sym is) (nothing-done reads words docs main a old (Told outcome.Memory) tt tt tt (inl (record { doc = refl; main = refl; out = refl; note = refl }))))
  answered-words new end (Obeys c is does) = commanded c is new end does

-- Want of memory may come at its end

wants-too : (end : RunEnd) (old new : Outside) (P : Type 0) → CountsIn end old new → IfFailed end old new P → SameCounts old new ⊎ P
wants-too (Told (outcome.Host file f offset)) old new P counts lacks = inr lacks
wants-too (Told outcome.Memory) old new P counts lacks = lacks
wants-too (Told outcome.Done) old new P counts lacks = inl counts
wants-too (Told outcome.Usage) old new P counts lacks = inl counts
wants-too (Told (outcome.Sheet why)) old new P counts lacks = inl counts
wants-too (Told (outcome.Run file code offset)) old new P counts lacks = inl counts
wants-too (Told (outcome.Xml file why)) old new P counts lacks = inl counts
wants-too (Told (outcome.Fuel file offset)) old new P counts lacks = inl counts
wants-too (Sampled s) old new P counts lacks = inl counts
wants-too Unnoted old new P counts lacks = inr lacks

pub answered-lacking : (reads : Reads) (words : List (List ℕ)) (docs : List Doc) (main : List ℕ) (a : Answer) (old new : Outside) (end : RunEnd) → CountsIn end old new → RunsAnswered reads words docs main old new end a
    → RunsAnswered reads words docs main old new (Told outcome.Memory) a
answered-lacking reads words docs main a old new end counts r = record {
  acts = r.acts;
  out = r.out;
  note = r.note;
  between = r.between;
  asks = r.asks;
  begins = r.begins;
  ends = tt;
  opened = (r.opened.0, r.opened.1, r.opened.2, tt);
  failed = tt;
  room = wants-too end old new (LacksRoom old (needed r.acts a.out a.messages)) counts r.room;
}
