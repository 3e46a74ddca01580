-- What a run of the program did, by what it did with the sheet.
use Rattle.std.proofs.Common.{◌≡◌, ◌⊎◌, inl, inr, ℕ, ◌==◌, Bool, true, false, List, [], ◌++◌, map, drop, Option, Some, None, IsSome, IfSome, Result, Ok, Err, arith, refl, sym, ap, ◌∙◌, subst}
use Rattle.std.specs.List.{list_any}
use Rattle.std.specs.Option.{option_map, option_map_or, option_and_then}
use Rattle.std.proofs.lemmas.Bool.{false≢true}
use Rattle.std.proofs.lemmas.List.{append-nil}
use Rattle.std.proofs.lemmas.Option.{none-some, same_Some}
use Rattle.std.specs.Prelude.{if◌then◌else◌, is_some}
use Rattle.stx_base.specs.Course.{Answer as Came, Begins, Given as Gave, Over, Unknown}
use Rattle.stx_base.specs.StandardLimits.{standard_limits}
use Rattle.stx_base.specs.declared.fault.SheetFault.{SheetFault}
use Rattle.command_words.specs.Said.{Word}
use Rattle.command_words.specs.Words.{command_of}
use Rattle.command_words.specs.declared.command.Command.{Command}
use Rattle.command_words.specs.declared.command.Mode.{Mode}
use Rattle.command_words.specs.declared.command.Mode.TheVariants.{Run, Check, Sample}
use Rattle.stx_host.specs.Before.{AtMainReads, Between, Taken, before, is_main_read, main_read}
use Rattle.stx_host.specs.Outside.{Outside, Rose, SameCounts, document, place}
use Rattle.stx_host.specs.declared.act.Act.{Act}
use Rattle.stx_host.specs.declared.act.Doc.{Doc}
use Rattle.stx_host.proofs.Stretches.{between_joins, main_reads_join, main_read-append, nothing_between}
use Rattle.fault_report.specs.declared.outcome.HostFault.TheVariants as fault
use Rattle.fault_report.specs.declared.outcome.Outcome.{Outcome}
use Rattle.fault_report.specs.declared.outcome.Outcome.TheVariants.{Done, Run as Stopped, Usage, Sheet, Xml, Host, Fuel, Memory}
use Rattle.sheet_files.specs.Acts.{NoneBehindEnd, opens}
use Rattle.sheet_files.specs.Loading.{DocCount, IsLoaded, LoadAnswers, OpensInOrder}
use Rattle.sheet_files.specs.Opened.{AreOf, Seen, documents_told, names_in as names_of, whole}
use Rattle.sheet_files.specs.Undecided.{ReadUndecided}
use Rattle.sheet_files.specs.declared.load.Loaded.{Loaded}
use Rattle.sheet_loader.specs.Files.{loads}
use Rattle.sheet_loader.specs.Values.{Reads}
use Rattle.sheet_model.specs.declared.sheet.Sheet as model
use Rattle.sheet_runs.specs.Counts.{CountsBy}
use Rattle.sheet_runs.specs.Reading.{EndOnce, is_doc_read, main_gots}
use Rattle.run_engine.specs.Run.{head}
use Rattle.template_machine.specs.Ending.{Ending, Said}
use Rattle.template_machine.specs.Job.{Given, Here}
use Rattle.template_machine.specs.Outcome.{outcome}
use Rattle.sheet_runs.specs.Meant.{tree_of}
use Rattle.sheet_runs.proofs.Acting.{gots-then, opens-then}
use Rattle.sheet_runs.proofs.Stepping.{counts-then}
use Rattle.stx_engine.specs.Answer.{Answer, Asked_for, accepted, answer, answered, asked, asks_any_run, asks_run, document_of, given_of, is_any_run, is_run, loaded, mode_answer, ran, ran_by, run_with, runs_none, sheet_answer, sheet_named, words_answer}
use Rattle.stx_engine.specs.Doing.{Loads}
use Rattle.stx_engine.specs.Running.{CountsIn, FailedAt, FailedIn, FailedOn, FailedOnSheet, HasHead, IfDocFailed, IsAnswered, IsOwn, LoadsFirst, OpensNames, RefusesWords, Runs, TakesParts, UnlessFailed}
use Rattle.stx_engine.specs.Plain.{pass_of, takes_in_order}
use Rattle.stx_engine.specs.RunEnd.{outcome_in}
use Rattle.stx_engine.specs.declared.run_end.RunEnd.{RunEnd}
use Rattle.stx_engine.specs.declared.run_end.RunEnd.TheVariants.{Told, Sampled, Unnoted}
use Rattle.stx_engine.specs.inside.Passing.{PassesOn}
use Rattle.stx_engine.proofs.Idle.{no_main_gots, no_main_reads, nothing_read, of_any}
use Rattle.stx_engine.proofs.Prefixes.{begins_all, begins_nothing}
use Rattle.stx_engine.proofs.Outcomes.{unless-map}

no_counts : (o : Outside) → SameCounts o o
no_counts o = record { doc = refl; main = refl; out = refl; note = refl }

-- acts without a main read
pub none_once : (acts : List Act) → list_any is_main_read acts ≡ false → EndOnce false (main_gots acts)
none_once acts none = ap (list_any (λ got. got == 0)) (no_main_gots acts none)

pub unless : (o : Outcome) (P : Type 0) → P → UnlessFailed o P
unless (Host file fault offset) P p = tt
unless Memory P p = tt
unless Done P p = p
unless Usage P p = p
unless (Sheet reason) P p = p
unless (Stopped file code offset) P p = p
unless (Xml file fault) P p = p
unless (Fuel file offset) P p = p

-- where documents are told it is told which ids are open
told-ids : (ids : Option (List ℕ)) (documents : Option (List Doc)) (docs : List Doc) → option_and_then (λ ids. documents) ids ≡ Some docs → (P : Type 0) → IfSome ids (λ ids. P) → P
told-ids None documents docs e P p = absurd (none-some docs e)
told-ids (Some ids) documents docs e P p = p

pub if-doc : (o : Outcome) (P Q : (file : List ℕ) → (offset : ℕ) → Type 0) → ((file : List ℕ) (offset : ℕ) → P file offset → Q file offset) → IfDocFailed o P → IfDocFailed o Q
if-doc (Host file fault.Doc offset) P Q so p = so file offset p
if-doc (Host file fault.Read offset) P Q so p = tt
if-doc (Host file fault.Write offset) P Q so p = tt
if-doc Memory P Q so p = tt
if-doc Done P Q so p = tt
if-doc Usage P Q so p = tt
if-doc (Sheet reason) P Q so p = tt
if-doc (Stopped file code offset) P Q so p = tt
if-doc (Xml file fault) P Q so p = tt
if-doc (Fuel file offset) P Q so p = tt

-- no other document is read where documents are passed through
pub never-on-doc : (o : Outcome) (acts : List Act) (out : List ℕ) → FailedAt o acts out → (P : (file : List ℕ) → (offset : ℕ) → Type 0) → IfDocFailed o P
never-on-doc (Host file fault.Doc offset) acts out failed P = absurd failed
never-on-doc (Host file fault.Read offset) acts out failed P = tt
never-on-doc (Host file fault.Write offset) acts out failed P = tt
never-on-doc Memory acts out failed P = tt
never-on-doc Done acts out failed P = tt
never-on-doc Usage acts out failed P = absurd failed
never-on-doc (Sheet reason) acts out failed P = absurd failed
never-on-doc (Stopped file code offset) acts out failed P = tt
never-on-doc (Xml file fault) acts out failed P = tt
never-on-doc (Fuel file offset) acts out failed P = tt

-- A run that did nothing

module _ (words : List Word) (o : Outside) where
  -- the words are refused
  pub ran-usage : command_of words ≡ None → Runs words o o (Told Usage)
  ran-usage none = record {
    acts = [];
    out = [];
    note = [];
    between = nothing_between o;
    ended = false;
    once = refl;
    ids = refl;
    counts = no_counts o;
    failed = tt;
    refuses = ap (option_map (λ c. c.sheet)) none;
    takes = λ no_run. tt;
    told = λ docs documents. record {
      sheet = λ reads. subst (λ x. IfSome x (λ c. LoadsFirst reads docs c.sheet (OpensNames docs (loaded reads docs c).opened Usage) (runs_none reads words docs) [])) (sym none) tt;
      takes = λ reads none_run. tt;
      failed = λ reads. tt;
      own = λ reads. subst (λ x. IfSome x (λ c. IsOwn (accepted (loaded reads docs c).result) (Told Usage))) (sym none) tt;
    };
    main_told = λ main told. record { all = λ asks is. cc; begins = inl refl; asks = λ k is_read. absurd (false≢true is_read) };
  }

  -- memory was wanting to read them
  pub ran-nothing : Runs words o o (Told Memory)
  ran-nothing = record {
    acts = [];
    out = [];
    note = [];
    between = nothing_between o;
    ended = false;
    once = refl;
    ids = refl;
    counts = refl;
    failed = tt;
    refuses = tt;
    takes = λ no_run. tt;
    told = λ docs documents. record {
      sheet = λ reads. any_command (λ c. LoadsFirst reads docs c.sheet (OpensNames docs (loaded reads docs c).opened Memory) (runs_none reads words docs) []) (λ c. record {
        loading = [];
        running = [];
        in_turn = refl;
        opened = ([], begins_nothing (loaded reads docs c).opened, refl, tt);
        undecided = tt;
        once = tt;
        no_main_read = refl;
        no_write = refl;
        alone = λ none_run. refl;
      });
      takes = λ reads none_run. tt;
      failed = λ reads. tt;
      own = λ reads. any_command (λ c. IsOwn (accepted (loaded reads docs c).result) (Told Memory)) (λ c. tt);
    };
    main_told = λ main told. record { all = λ asks is. cc; begins = tt; asks = λ k is_read. absurd (false≢true is_read) };
  } where
    any_command : (P : Command → Type 0) → ((c : Command) → P c) → IfSome (command_of words) P
    any_command P all = of_any (command_of words) P all

-- nothing was run
pub answered-by : (o : Outcome) (names : List (List ℕ)) (a : Answer) → answered o names ≡ a → IsAnswered [] [] (Told o) a
answered-by o names a is = record { output = ap (λ x. x.out) is; messages = ap (λ x. x.messages) is; is = ap (λ x. x.end) is }

-- what a run answers opens these names
ran-by-opens : (given : Given) (mode : Mode) (opened : List (List ℕ)) (came : Came Here Said Ending) → (ran_by given mode opened came).opened ≡ opened
ran-by-opens given mode opened (Over said e) = refl
ran-by-opens given mode opened (Gave said here) = refl
ran-by-opens given mode opened (Unknown said) = refl

pub ran-opens : (k : Asked_for) (opened : List (List ℕ)) (main : List ℕ) → (ran k opened main).opened ≡ opened
ran-opens k opened main =
    ran-by-opens (given_of k) k.command.mode opened (outcome (given_of k) (tree_of (given_of k) (record { bytes = document_of k.command.mode main; ended = true })))

-- A command

module _ (words : List Word) (c : Command) (asked_for : command_of words ≡ Some c) where
  pub named : sheet_named words ≡ Some c.sheet
  named = ap (option_map (λ c. c.sheet)) asked_for

  pub for_command : (P : Command → Type 0) → P c → IfSome (command_of words) P
  for_command P p = subst (λ x. IfSome x P) (sym asked_for) p

  pub answer-is : (reads : Reads) (docs : List Doc) (main : List ℕ) → answer reads words docs main ≡ sheet_answer c (loaded reads docs c).opened (loaded reads docs c).result main
  answer-is reads docs main = ap (λ x. words_answer reads x docs main) asked_for

  -- no run on the main document is asked for
  pub unasked : (mode : Mode) → c.mode ≡ mode → is_run mode ≡ false → asks_run words ≡ true → ⊥
  unasked mode is other asks = false≢true (sym other ∙ sym (ap is_run is) ∙ sym (ap (λ o. option_map_or (λ c. is_run c.mode) o false) asked_for) ∙ asks)

  -- some run is
  pub asks_some : (mode : Mode) → c.mode ≡ mode → is_any_run mode ≡ true → asks_any_run words ≡ false → ⊥
  asks_some mode is some none = false≢true (sym none ∙ ap (λ o. option_map_or (λ c. is_any_run c.mode) o false) asked_for ∙ ap is_any_run is ∙ some)

  -- An answer opens the names of the sheet's files

  if-opened : (said : Bool) (k : Asked_for) (opened : List (List ℕ)) (main : List ℕ) (a : Answer) → (if said then Some (ran k opened main) else None) ≡ Some a → opened ≡ a.opened
  if-opened true k opened main a e = sym (ran-opens k opened main) ∙ ap (λ x. x.opened) (same_Some (ran k opened main) a e)
  if-opened false k opened main a e = absurd (none-some a e)

  mode-opened : (mode : Mode) (k : Asked_for) (opened : List (List ℕ)) (main : List ℕ) (a : Answer) → mode_answer mode k opened main ≡ Some a → opened ≡ a.opened
  mode-opened Check k opened main a e = ap (λ x. x.opened) (same_Some (answered Done opened) a e)
  mode-opened Run k opened main a e = if-opened (takes_in_order k.sheet) k opened main a e
  mode-opened (Sample records) k opened main a e = if-opened (takes_in_order k.sheet) k opened main a e

  sheet-opened : (opened : List (List ℕ)) (r : Result model.Sheet SheetFault) (main : List ℕ) (a : Answer) → sheet_answer c opened r main ≡ Some a → opened ≡ a.opened
  sheet-opened opened (Err fault) main a e = ap (λ x. x.opened) (same_Some (answered (Sheet fault) opened) a e)
  sheet-opened opened (Ok sheet) main a e = mode-opened c.mode (record { command = c; sheet = sheet }) opened main a e

  pub answer-opened : (reads : Reads) (docs : List Doc) (main : List ℕ) (a : Answer) → answer reads words docs main ≡ Some a → (loaded reads docs c).opened ≡ a.opened
  answer-opened reads docs main a e = sheet-opened (loaded reads docs c).opened (loaded reads docs c).result main a (sym (answer-is reads docs main) ∙ e)

  -- The run that is asked for

  pub asked-is : (reads : Reads) (docs : List Doc) → asked reads words docs ≡ run_with c (loaded reads docs c).result
  asked-is reads docs = ap (option_and_then (λ c. run_with c (loaded reads docs c).result)) asked_for

  pub asked-so : (reads : Reads) (docs : List Doc) (sheet : model.Sheet) → (loaded reads docs c).result ≡ Ok sheet → is_any_run c.mode ≡ true → asked reads words docs ≡ Some (record { command = c; sheet = sheet })
  asked-so reads docs sheet accepts any =
      asked-is reads docs ∙ ap (run_with c) accepts ∙ ap (λ b. if b then Some (record { command = c; sheet = sheet }) else None) any

  pub none-run-is : (reads : Reads) (docs : List Doc) (sheet : model.Sheet) → (loaded reads docs c).result ≡ Ok sheet → is_any_run c.mode ≡ true → runs_none reads words docs ≡ is_some (pass_of sheet)
  none-run-is reads docs sheet accepts any =
      ap (λ (o : Option Asked_for). option_map_or (λ k. is_some (pass_of k.sheet)) o true) (asked-so reads docs sheet accepts any)

  -- What loading came to, where the documents are told

  module _ (old mid : Outside) (docs : List Doc) (documents : documents_told old ≡ Some docs) (reads : Reads) where
    in-order : (r : Result Loaded Outcome) (l : Loads c old mid r) → OpensInOrder (place docs) (loaded reads docs c).opened r l.acts
    in-order r l =
        let told = subst (λ t. IfSome t (λ docs. (reads : Reads) → OpensInOrder (place docs) (loaded reads docs c).opened r l.acts)) documents l.did.opens in told reads

    pub agrees : (answer : Result model.Sheet SheetFault) (files : List Seen) → (is : IsLoaded (documents_told old) standard_limits c.sheet answer files) → loaded reads docs c ≡ loads (names_of files) answer
    agrees answer files is = is.gives (document docs) (subst (λ t. IfSome t (λ docs. AreOf (document docs) files)) documents is.told_of) reads

    -- the files of a sheet that is accepted
    loaded-is : (x : Loaded) (l : Loads c old mid (Ok x)) → loaded reads docs c ≡ loads (names_of (map whole x.files)) (Ok x.sheet)
    loaded-is x l = agrees (Ok x.sheet) (map whole x.files) l.answers

    pub accepted-is : (x : Loaded) (l : Loads c old mid (Ok x)) → (loaded reads docs c).result ≡ Ok x.sheet
    accepted-is x l = ap (λ r. r.result) (loaded-is x l)

    -- all files of an accepted sheet are opened
    pub opens-all : (x : Loaded) (l : Loads c old mid (Ok x)) (o : Outcome) → OpensNames docs (loaded reads docs c).opened o l.acts
    opens-all x l o = let names = (loaded reads docs c).opened in (names, begins_all names, in-order (Ok x) l, unless o (names ≡ names) refl)

    -- the files of the sheet come first
    loads-first : (r : Result Loaded Outcome) (l : Loads c old mid r) (o : Outcome) → OpensNames docs (loaded reads docs c).opened o l.acts
        → (none_run : Bool) (acts more : List Act) → acts ≡ l.acts ++ more → (none_run ≡ true → list_any is_doc_read more ≡ false)
        → LoadsFirst reads docs c.sheet (OpensNames docs (loaded reads docs c).opened o) none_run acts
    loads-first r l o opened none_run acts more is alone = record {
      loading = l.acts;
      running = more;
      in_turn = is;
      opened = opened;
      undecided = (subst (λ t. IfSome t (λ docs. (reads : Reads) → ReadUndecided reads standard_limits (document docs) c.sheet [] l.acts)) documents l.did.undecided) reads;
      once = told-ids old.open_ids old.documents docs documents (NoneBehindEnd l.acts) l.did.once;
      no_main_read = l.did.no_main_read;
      no_write = l.did.no_write;
      alone = alone;
    }

    -- and nothing else does
    pub loads-alone : (r : Result Loaded Outcome) (l : Loads c old mid r) (o : Outcome) → OpensNames docs (loaded reads docs c).opened o l.acts
        → (none_run : Bool) → LoadsFirst reads docs c.sheet (OpensNames docs (loaded reads docs c).opened o) none_run l.acts
    loads-alone r l o opened none_run = loads-first r l o opened none_run l.acts [] (sym (append-nil l.acts)) (λ is. refl)

  -- Loading stopped

  module _ (old new : Outside) where
    pub opens-stopped : (o : Outcome) (l : Loads c old new (Err o)) (docs : List Doc) → documents_told old ≡ Some docs → (reads : Reads) → OpensNames docs (loaded reads docs c).opened o l.acts
    opens-stopped o l docs documents reads = by o l.answers (in-order old new docs documents reads (Err o) l) where
      by : (o : Outcome) → LoadAnswers (documents_told old) standard_limits c.sheet (Err o) → OpensInOrder (place docs) (loaded reads docs c).opened (Err o) l.acts → OpensNames docs (loaded reads docs c).opened o l.acts
      by (Sheet fault) h e = ((loaded reads docs c).opened, begins_all (loaded reads docs c).opened, e, refl)
      by (Host file f offset) h e = (e.0, (e.1, e.2), e.3, tt)
      by Memory h e = (e.0, (e.1, e.2), e.3, tt)
      by Done h e = absurd h
      by Usage h e = absurd h
      by (Stopped file code offset) h e = absurd h
      by (Xml file fault) h e = absurd h
      by (Fuel file offset) h e = absurd h

    counts-stopped : (o : Outcome) (l : Loads c old new (Err o)) → CountsBy o old new
    counts-stopped o l = by o l.answers l.counts.doc where
      by : (o : Outcome) → LoadAnswers (documents_told old) standard_limits c.sheet (Err o) → DocCount (Err o) old.doc_faults new.doc_faults → CountsBy o old new
      by (Sheet fault) h d = record { doc = d; main = l.counts.main; out = l.counts.out; note = l.counts.note }
      by (Host file fault.Doc offset) h d = (d, record { doc = refl; main = l.counts.main; out = l.counts.out; note = l.counts.note })
      by (Host file fault.Read offset) h d = absurd h
      by (Host file fault.Write offset) h d = absurd h
      by Memory h d = l.counts.note
      by Done h d = absurd h
      by Usage h d = absurd h
      by (Stopped file code offset) h d = absurd h
      by (Xml file fault) h d = absurd h
      by (Fuel file offset) h d = absurd h

    failed-stopped : (o : Outcome) (acts : List Act) → LoadAnswers (documents_told old) standard_limits c.sheet (Err o) → FailedIn o acts []
    failed-stopped (Sheet fault) acts h = tt
    failed-stopped (Host file fault.Doc offset) acts h = tt
    failed-stopped (Host file fault.Read offset) acts h = absurd h
    failed-stopped (Host file fault.Write offset) acts h = absurd h
    failed-stopped Memory acts h = tt
    failed-stopped Done acts h = absurd h
    failed-stopped Usage acts h = absurd h
    failed-stopped (Stopped file code offset) acts h = absurd h
    failed-stopped (Xml file fault) acts h = absurd h
    failed-stopped (Fuel file offset) acts h = absurd h

    pub failed-on-sheet : (o : Outcome) (l : Loads c old new (Err o)) (docs : List Doc) → documents_told old ≡ Some docs → (reads : Reads) → IfDocFailed o (FailedOnSheet reads words docs l.acts)
    failed-on-sheet o l docs documents reads = by o (in-order old new docs documents reads (Err o) l) where
      by : (o : Outcome) → OpensInOrder (place docs) (loaded reads docs c).opened (Err o) l.acts → IfDocFailed o (FailedOnSheet reads words docs l.acts)
      by (Host file fault.Doc offset) e = (c, asked_for, e)
      by (Host file fault.Read offset) e = tt
      by (Host file fault.Write offset) e = tt
      by (Sheet fault) e = tt
      by Memory e = tt
      by Done e = tt
      by Usage e = tt
      by (Stopped file code offset) e = tt
      by (Xml file fault) e = tt
      by (Fuel file offset) e = tt

    refuses-stopped : (o : Outcome) → LoadAnswers (documents_told old) standard_limits c.sheet (Err o) → RefusesWords words (Told o)
    refuses-stopped (Sheet fault) h = subst IsSome (sym named) refl
    refuses-stopped (Host file f offset) h = subst IsSome (sym named) refl
    refuses-stopped Memory h = tt
    refuses-stopped Done h = absurd h
    refuses-stopped Usage h = absurd h
    refuses-stopped (Stopped file code offset) h = absurd h
    refuses-stopped (Xml file fault) h = absurd h
    refuses-stopped (Fuel file offset) h = absurd h

    -- a refused sheet is answered
    pub answered-stopped : (o : Outcome) (l : Loads c old new (Err o)) (docs : List Doc) → documents_told old ≡ Some docs → (reads : Reads) (main : List ℕ) (a : Answer) → answer reads words docs main ≡ Some a → UnlessFailed o (IsAnswered [] [] (Told o) a)
    answered-stopped o l docs documents reads main a e = by o l.answers where
      by : (o : Outcome) → LoadAnswers (documents_told old) standard_limits c.sheet (Err o) → UnlessFailed o (IsAnswered [] [] (Told o) a)
      by (Sheet fault) h =
          let names = names_of h.0 in
          let loads_so = agrees old new docs documents reads (Err fault) h.0 h.1 in
          let is : answered (Sheet fault) names ≡ a =
          same_Some (answered (Sheet fault) names) a (sym (ap (λ r. sheet_answer c r.opened r.result main) loads_so) ∙ sym (answer-is reads docs main) ∙ e) in
          answered-by (Sheet fault) names a is
      by (Host file f offset) h = tt
      by Memory h = tt
      by Done h = absurd h
      by Usage h = absurd h
      by (Stopped file code offset) h = absurd h
      by (Xml file fault) h = absurd h
      by (Fuel file offset) h = absurd h

    -- what is so of each end of loading
    ends-stopped : (o : Outcome) → LoadAnswers (documents_told old) standard_limits c.sheet (Err o) → TakesParts o × ((sheet : Option model.Sheet) → IsOwn sheet (Told o)) × (o ≡ Done → ⊥) × UnlessFailed o ((◌≡◌ {A = List ℕ} [] []) ⊎ Begins head [])
    ends-stopped (Sheet fault) h = (tt, λ sheet. tt, λ e. cc, inl refl)
    ends-stopped (Host file f offset) h = (tt, λ sheet. tt, λ e. cc, tt)
    ends-stopped Memory h = (tt, λ sheet. tt, λ e. cc, tt)
    ends-stopped Done h = absurd h
    ends-stopped Usage h = absurd h
    ends-stopped (Stopped file code offset) h = absurd h
    ends-stopped (Xml file fault) h = absurd h
    ends-stopped (Fuel file offset) h = absurd h

    pub ran-stopped : (o : Outcome) → Loads c old new (Err o) → Runs words old new (Told o)
    ran-stopped o l =
        let ends = ends-stopped o l.answers in
        record {
          acts = l.acts;
          out = [];
          note = [];
          between = l.did.between;
          ended = false;
          once = none_once l.acts l.did.no_main_read;
          ids = l.ids;
          counts = counts-stopped o l;
          failed = failed-stopped o l.acts l.answers;
          refuses = refuses-stopped o l.answers;
          takes = λ no_run. ends.0;
          told = λ docs documents. record {
            sheet = λ reads. for_command (λ c. LoadsFirst reads docs c.sheet (OpensNames docs (loaded reads docs c).opened o) (runs_none reads words docs) l.acts)
                (loads-alone old new docs documents reads (Err o) l o (opens-stopped o l docs documents reads) (runs_none reads words docs));
            takes = λ reads none_run. ends.0;
            failed = λ reads. if-doc o (FailedOnSheet reads words docs l.acts) (FailedOn reads words docs l.acts) (λ file offset. inl) (failed-on-sheet o l docs documents reads);
            own = λ reads. for_command (λ c. IsOwn (accepted (loaded reads docs c).result) (Told o)) (ends.1 (accepted (loaded reads docs c).result));
          };
          main_told = λ main told. record { all = λ asks is. absurd (ends.2 is); begins = ends.3; asks = no_main_reads l.acts [] [] HasHead l.did.no_main_read };
        }

    -- The sheet alone was asked for

    pub ran-checked : c.mode ≡ Check → (x : Loaded) → Loads c old new (Ok x) → Runs words old new (Told Done)
    ran-checked alone x l = record {
      acts = l.acts;
      out = [];
      note = [];
      between = l.did.between;
      ended = false;
      once = none_once l.acts l.did.no_main_read;
      ids = l.ids;
      counts = record { doc = l.counts.doc; main = l.counts.main; out = l.counts.out; note = l.counts.note };
      failed = tt;
      refuses = subst IsSome (sym named) refl;
      takes = λ no_run. tt;
      told = λ docs documents. record {
        sheet = λ reads. for_command (λ c. LoadsFirst reads docs c.sheet (OpensNames docs (loaded reads docs c).opened Done) (runs_none reads words docs) l.acts)
            (loads-alone old new docs documents reads (Ok x) l Done (opens-all old new docs documents reads x l Done) (runs_none reads words docs));
        takes = λ reads none_run. tt;
        failed = λ reads. tt;
        own = λ reads. for_command (λ c. IsOwn (accepted (loaded reads docs c).result) (Told Done)) tt;
      };
      main_told = λ main told. record { all = λ asks is. absurd (unasked Check alone refl asks); begins = inl refl; asks = no_main_reads l.acts [] [] HasHead l.did.no_main_read };
    }

  -- What follows a sheet that is accepted

  module _ (old mid new : Outside) (x : Loaded) (l : Loads c old mid (Ok x)) where
    same : SameCounts old mid
    same = record { doc = l.counts.doc; main = l.counts.main; out = l.counts.out; note = l.counts.note }

    unread : main_read l.acts ≡ 0
    unread = nothing_read l.acts l.did.no_main_read

    pub counts_after : (o : Outcome) → CountsBy o mid new → CountsBy o old new
    counts_after (Host file fault.Doc offset) by =
        (subst (λ n. Rose n new.doc_faults) same.doc by.0, record { doc = refl; main = by.1.main ∙ same.main; out = by.1.out ∙ same.out; note = by.1.note ∙ same.note })
    counts_after (Host file fault.Read offset) by =
        (subst (λ n. Rose n new.main_faults) same.main by.0, record { doc = by.1.doc ∙ same.doc; main = refl; out = by.1.out ∙ same.out; note = by.1.note ∙ same.note })
    counts_after (Host file fault.Write offset) by =
        (subst (λ n. Rose n new.out_faults) same.out by.0, record { doc = by.1.doc ∙ same.doc; main = by.1.main ∙ same.main; out = refl; note = by.1.note ∙ same.note })
    counts_after Memory by = by ∙ same.note
    counts_after Done by = counts-then old mid new same by
    counts_after Usage by = counts-then old mid new same by
    counts_after (Sheet reason) by = counts-then old mid new same by
    counts_after (Stopped file code offset) by = counts-then old mid new same by
    counts_after (Xml file fault) by = counts-then old mid new same by
    counts_after (Fuel file offset) by = counts-then old mid new same by

    failed_after : (o : Outcome) (acts : List Act) (out : List ℕ) → FailedAt o acts out → FailedIn o (l.acts ++ acts) out
    failed_after (Host file fault.Doc offset) acts out failed = absurd failed
    failed_after (Host file fault.Read offset) acts out failed = (failed.0, failed.1 ∙ omega (arith, unread, main_read-append l.acts acts))
    failed_after (Host file fault.Write offset) acts out failed = failed
    failed_after Memory acts out failed = tt
    failed_after Done acts out failed = tt
    failed_after Usage acts out failed = absurd failed
    failed_after (Sheet reason) acts out failed = absurd failed
    failed_after (Stopped file code offset) acts out failed = tt
    failed_after (Xml file fault) acts out failed = tt
    failed_after (Fuel file offset) acts out failed = tt

    -- words that name a sheet aren't refused
    not_refused : (o : Outcome) (acts : List Act) (out : List ℕ) → FailedAt o acts out → RefusesWords words (Told o)
    not_refused Usage acts out failed = absurd failed
    not_refused (Sheet reason) acts out failed = absurd failed
    not_refused Memory acts out failed = tt
    not_refused Done acts out failed = subst IsSome (sym named) refl
    not_refused (Stopped file code offset) acts out failed = subst IsSome (sym named) refl
    not_refused (Xml file fault) acts out failed = subst IsSome (sym named) refl
    not_refused (Fuel file offset) acts out failed = subst IsSome (sym named) refl
    not_refused (Host file fault offset) acts out failed = subst IsSome (sym named) refl

    -- where no part was refused none is told at an instruction
    own_so : (sheet : Option model.Sheet) (o : Outcome) → TakesParts o → IsOwn sheet (Told o)
    own_so sheet (Stopped file code offset) t = absurd t
    own_so sheet (Fuel file offset) t = absurd t
    own_so sheet (Host file fault offset) t = tt
    own_so sheet Memory t = tt
    own_so sheet Done t = tt
    own_so sheet Usage t = tt
    own_so sheet (Sheet reason) t = tt
    own_so sheet (Xml file fault) t = tt

    pub once_after : (ended : Bool) (acts : List Act) → EndOnce ended (main_gots acts) → EndOnce ended (main_gots (l.acts ++ acts))
    once_after ended acts once = subst (EndOnce ended) (sym (gots-then l.acts acts ∙ ap (λ g. g ++ main_gots acts) (no_main_gots l.acts l.did.no_main_read))) once

    pub between_after : (acts : List Act) (out note : List ℕ) → Between mid new acts out note → Between old new (l.acts ++ acts) out note
    between_after acts out note b = between_joins old mid new l.acts acts [] out [] note l.did.between b

    -- the main document is as it was
    pub main_after : (main : List ℕ) → old.to_come 0 ≡ Some main → mid.to_come 0 ≡ Some main
    main_after main told = l.did.between.main ∙ ap (λ n. option_map (λ bytes. drop n bytes) (old.to_come 0)) unread ∙ ap (option_map (λ bytes. drop 0 bytes)) told

    pub reads_after : (acts : List Act) (out note : List ℕ) (P : Taken → Type 0) → AtMainReads acts out note P → AtMainReads (l.acts ++ acts) out note P
    reads_after acts out note P reads =
        main_reads_join l.acts acts [] out [] note P l.did.between.out_written l.did.between.note_written (no_main_reads l.acts [] [] P l.did.no_main_read)
        (λ k is_read. subst P (ap (λ n. record { out = (before acts out note k).out; note = (before acts out note k).note; main_read = n }) (omega (arith, unread))) (reads k is_read))

    opens_after : (docs : List Doc) (documents : documents_told old ≡ Some docs) (reads : Reads) (acts : List Act) (o : Outcome) → opens acts ≡ [] → OpensNames docs (loaded reads docs c).opened o (l.acts ++ acts)
    opens_after docs documents reads acts o none =
        let n = opens-all old mid docs documents reads x l o in
        (n.0, n.1, opens-then l.acts acts ∙ ap (λ g. opens l.acts ++ g) none ∙ append-nil (opens l.acts) ∙ n.2, n.3)

    pub loads_sheet : (docs : List Doc) (documents : documents_told old ≡ Some docs) (reads : Reads) (acts : List Act) (o : Outcome) (none_run : Bool) → (none_run ≡ true → list_any is_doc_read acts ≡ false)
        → IfSome (command_of words) (λ c. LoadsFirst reads docs c.sheet (OpensNames docs (loaded reads docs c).opened o) none_run (l.acts ++ acts))
    loads_sheet docs documents reads acts o none_run alone =
        for_command (λ c. LoadsFirst reads docs c.sheet (OpensNames docs (loaded reads docs c).opened o) none_run (l.acts ++ acts))
        (loads-first old mid docs documents reads (Ok x) l o (opens-all old mid docs documents reads x l o) none_run (l.acts ++ acts) acts refl alone)

    refuses_in : (end : RunEnd) → (end ≡ Unnoted → ⊥) → RefusesWords words (Told (outcome_in end)) → RefusesWords words end
    refuses_in (Told o) some r = r
    refuses_in (Sampled s) some r = r
    refuses_in Unnoted some r = absurd (some refl)

    own_in : (sheet : Option model.Sheet) (end : RunEnd) → IsOwn sheet (Told (outcome_in end)) → IsOwn sheet end
    own_in sheet (Told o) h = h
    own_in sheet (Sampled s) h = tt
    own_in sheet Unnoted h = tt

    counts_in : (end : RunEnd) → (end ≡ Unnoted → ⊥) → CountsIn end mid new → CountsIn end old new
    counts_in (Told o) some by = counts_after o by
    counts_in (Sampled s) some by = counts_after Done by
    counts_in Unnoted some by = absurd (some refl)

    -- what a run answers begins with the head
    head_by : (given : Given) (mode : Mode) (names : List (List ℕ)) (came : Came Here Said Ending) (out : List ℕ) → out ≡ (ran_by given mode names came).out → (out ≡ []) ⊎ Begins head out
    head_by given mode names (Over said e) out is = inr (_, sym is)
    head_by given mode names (Gave said here) out is = inl is
    head_by given mode names (Unknown said) out is = inl is

    -- The document was passed through

    abbrev k : Asked_for
    k = record { command = c; sheet = x.sheet }

    pub ran-through : (end : RunEnd) → is_any_run c.mode ≡ true → PassesOn k mid new end → Runs words old new end
    ran-through end any d =
        let o : Outcome = outcome_in end in
        record {
          acts = l.acts ++ d.acts;
          out = d.out;
          note = [];
          between = between_after d.acts d.out [] d.between;
          ended = d.ended;
          once = once_after d.ended d.acts d.once;
          ids = d.ids ∙ l.ids;
          counts = counts_in end d.noted d.counts;
          failed = failed_after o d.acts d.out d.failed;
          refuses = refuses_in end d.noted (not_refused o d.acts d.out d.failed);
          takes = λ no_run. d.takes;
          told = λ docs documents. record {
            sheet = λ reads. loads_sheet docs documents reads d.acts o (runs_none reads words docs) (λ is. d.no_doc_read);
            takes = λ reads is. d.takes;
            failed = λ reads. never-on-doc o d.acts d.out d.failed (FailedOn reads words docs (l.acts ++ d.acts));
            own = λ reads. for_command (λ c. IsOwn (accepted (loaded reads docs c).result) end) (own_in (accepted (loaded reads docs c).result) end (own_so (accepted (loaded reads docs c).result) o d.takes));
          };
          main_told = λ main told. record {
            all = λ asks done.
                let plain : is_run c.mode ≡ true = sym (ap (λ o. option_map_or (λ c. is_run c.mode) o false) asked_for) ∙ asks in
                let to_end = d.all plain main (main_after main told) done in
                (to_end.0, omega (arith, main_read-append l.acts d.acts, unread, to_end.1));
            begins = unless-map o (IsAnswered d.out [] end (ran k [] main)) ((d.out ≡ []) ⊎ Begins head d.out) (λ a. head_by (given_of k) c.mode [] (outcome (given_of k) (tree_of (given_of k) (record { bytes = document_of c.mode main; ended = true }))) d.out a.output) (d.writes main (λ plain. main_after main told) []).1;
            asks = reads_after d.acts d.out [] HasHead (λ n is_read. let s = d.reads main (main_after main told) n is_read in (_, sym s.out));
          };
        }
