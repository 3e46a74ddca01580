-- What stays so of a sheet, by what the program keeps of it, where a file is left, where another one comes, and where one is missing.
use Rattle.std.proofs.Common.{◌≡◌, ℕ, ◌+◌, ◌<◌, Bool, true, false, List, [], ◌∷◌, ◌++◌, map, length, Option, Some, None, refl, sym, ap, subst, ◌∙◌, arith, append_assoc, length-append}
use Rattle.std.proofs.lemmas.Bool.{false≢true}
use Rattle.stx_base.specs.Course.{Begins, Say}
use Rattle.stx_base.specs.declared.limits.Limits.{Limits}
use Rattle.stx_host.specs.declared.act.Doc.{Doc}
use Rattle.xml_events.specs.Answering.{Goes}
use Rattle.xml_events.specs.Document.{doc}
use Rattle.xml_events.specs.Source.{IsAnswer, Source, future}
use Rattle.xml_events.specs.declared.event.Pull.TheVariants as pull
use Rattle.sheet_model.specs.declared.sheet.Sheet.{Sheet}
use Rattle.sheet_loader.specs.Files.{Documents, changed, load}
use Rattle.sheet_loader.specs.Laws.{ComesToOne}
use Rattle.sheet_loader.specs.Lists.{IsInElement, IsReading, OpensList}
use Rattle.sheet_loader.specs.Load.{sheet_of}
use Rattle.sheet_loader.specs.Loaders.{GivesSheet, MissesIt, OpensIt, Standing, is_over, wanted_in}
use Rattle.sheet_loader.specs.Reading.{File}
use Rattle.sheet_loader.specs.Remaining.{Ended, Progress, Reads_on, Refused_at, Spent, Stage, Wants_file, beginning, remaining}
use Rattle.sheet_loader.specs.Values.{Reads}
use Rattle.sheet_loader.specs.Versions.{language, version_of}
use Rattle.sheet_files.specs.Following.{AreParts, Decides, Follows}
use Rattle.sheet_files.specs.Frames.{Frame, Part, grow, include_known, lists_onto, parts_of}
use Rattle.sheet_files.specs.Held.{names_of, seen_of}
use Rattle.sheet_files.specs.Opened.{Absent, AreOf, Seen, names_in}
use Rattle.sheet_files.specs.Reading.{AreRests, InElement, IsReadBy, Shows, ShowsFiles, Stands, doc_of}
use Rattle.sheet_files.specs.declared.going.Going.{Going}
use Rattle.sheet_files.proofs.Beginning.{own_follows}
use Rattle.sheet_files.proofs.Begins.{next_begins}
use Rattle.sheet_files.proofs.Entering.{enter_follows, fresh}
use Rattle.sheet_files.proofs.Including.{count_grown}
use Rattle.sheet_files.proofs.Leaving.{leave_follows, none_open}
use Rattle.sheet_files.proofs.Missing.{missing_decides, no_sheet}
use Rattle.sheet_files.proofs.Nothing.{nothing}
use Rattle.sheet_files.proofs.Opening.{append_none, changed_at, map_append}
use Rattle.sheet_files.proofs.Resting.{files_counted, names_shown, no_rests, parts_are, rest_here, rest_other, rests_front, rests_known, rests_like, rests_snoc, shown_numbers, shows_like, with_rest}
use Rattle.sheet_files.proofs.Seeing.{are_back, are_front, known_of}
use Rattle.sheet_files.proofs.Turning.{AllStand, Last, last_of, last_with, no_documents, read_by, shown_by, some_last, some_list}

-- the last file's name
abbrev pub left_files : Going → List Doc → List Doc
left_files g files = changed (λ (d : Doc). record d { bytes = g.bytes.items }) g.number files

module _ (limits : Limits) (name : List ℕ) (one : ComesToOne) (front : List Going) (was : Going) (files : List Doc) (x : Standing) (left : ℕ)
    (read : IsReadBy limits name (front ++ was ∷ []) files x left []) (on : is_over x.progress ≡ false) (none : wanted_in x.progress ≡ None) where
  -- The reader tells that its document is over.
  module _ (is : Source) (answer : IsAnswer was.reader pull.End) (goes : Goes was.reader pull.End is) where
    -- the file around it goes on
    left_by : (docs : Documents) (rest : ℕ → List ℕ) (part : Part) (lists : ℕ) (done : List Part) (outer : List Frame) → was.number ≡ length (parts_of outer) → part.bytes ≡ was.bytes.items
        → Shows rest front outer → ShowsFiles files (shown_by was part lists done ∷ outer) → Follows limits docs name (shown_by was part lists done ∷ outer) x left → Stands limits docs name front (left_files was files) x left rest
    left_by docs rest part lists done [] number has around in_files follows =
        let closed : lists ≡ 0 = sym ((follows.going on).0.lists [] false) ∙ ap length (none_open (future was.reader [] false) (answer [] false)) in
        absurd (some_list x.names x.progress follows.files on (follows.lists on ∙ ap (λ (n : ℕ). lists_onto n [] []) closed))
    left_by docs rest part lists done (o ∷ outer) number has around in_files follows =
        let before = in_files.0 in
        let own = in_files.1 in
        let inner = in_files.4 in
        let h : Doc → Doc = λ d. record d { bytes = was.bytes.items } in
        let counted = files_counted before (o ∷ outer) inner in
        let is_doc : h own ≡ doc_of part = ap (λ (n : List ℕ). record { name = n; bytes = was.bytes.items }) in_files.3 ∙ ap (λ (b : List ℕ). record { name = part.name; bytes = b }) (sym has) in
        let files_now : left_files was files ≡ inner.0 ++ inner.1 ∷ map doc_of (o.done ++ part ∷ done) =
        ap (left_files was) in_files.2
        ∙ ap (λ (n : ℕ). changed h n (before ++ own ∷ map doc_of done)) (number ∙ sym counted)
        ∙ changed_at h before own (map doc_of done)
        ∙ ap (λ (d : Doc). before ++ d ∷ map doc_of done) is_doc
        ∙ ap (λ (l : List Doc). l ++ doc_of part ∷ map doc_of done) inner.2
        ∙ append_assoc inner.0 (inner.1 ∷ map doc_of o.done) (doc_of part ∷ map doc_of done)
        ∙ ap (λ (l : List Doc). inner.0 ++ inner.1 ∷ l) (sym (map_append doc_of o.done (part ∷ done))) in
        let s = around.3 in
        record {
          frames = record o { done = o.done ++ part ∷ done } ∷ outer;
          shows = (around.0, around.1, around.2, record { number = s.number; source = s.source; taken = s.taken; bytes = s.bytes }, around.4);
          in_files = (inner.0, inner.1, files_now, inner.3, inner.4);
          follows = leave_follows limits docs name (shown_by was part lists done) o outer x left follows on is answer goes;
        }

    leave_all : AllStand limits name front (left_files was files) x left
    leave_all docs rest rests =
        let old = with_rest was.number [] rest in
        let some = some_last limits name one front was files x left read on none in
        let n = some.number in
        let counted = files_counted some.in_files.0 some.outer some.in_files.4 in
        let numbers = shown_numbers (λ k. []) front some.in_files.0 some.outer some.around some.in_files.4 in
        let here : old was.number ≡ [] = rest_here was.number was.number [] rest refl in
        let other : (k : ℕ) → k < length some.in_files.0 → old k ≡ rest k = λ k lt. rest_other was.number k [] rest (λ e. absurd (omega (arith, e, lt, n, counted))) in
        let l = last_with limits name one front was files x left read on none docs old (rests_snoc old front was (rests_like rest old 0 front (length some.in_files.0) numbers other rests) (λ e. here)) in
        let m = l.number in
        left_by docs rest l.part l.lists l.done l.outer l.number (l.bytes ∙ ap (λ (b : List ℕ). was.bytes.items ++ b) here ∙ append_none was.bytes.items)
        (shows_like old rest front l.outer was.number (omega (arith, m)) (λ k lt. rest_other was.number k [] rest (λ e. absurd (omega (arith, e, lt)))) l.around) l.in_files l.follows

    pub leave_read : IsReadBy limits name front (left_files was files) x left []
    leave_read = read_by limits name one front (left_files was files) x left leave_all (λ over. absurd (false≢true (sym on ∙ over)))

-- what shows files shows them where an include counts in them
shows_grown : (rest : ℕ → List ℕ) (size : ℕ) (going : List Going) (frames : List Frame) → Shows rest going frames → Shows rest going (grow size frames)
shows_grown rest size going [] shows = shows
shows_grown rest size going (f ∷ outer) shows =
    let s = shows.3 in
    (shows.0, shows.1, shows.2, record { number = s.number ∙ sym (count_grown size outer); source = s.source; taken = s.taken; bytes = s.bytes }, shows_grown rest size shows.0 outer shows.4)

files_grown : (size : ℕ) (files : List Doc) (frames : List Frame) → ShowsFiles files frames → ShowsFiles files (grow size frames)
files_grown size files [] shows = shows
files_grown size files (f ∷ outer) shows = (shows.0, shows.1, shows.2, shows.3, files_grown size shows.0 outer shows.4)

-- a loader that wants a file
wanting_of : (p : Progress) (href : List ℕ) → wanted_in p ≡ Some href → InElement p → (s : Stage) × (p ≡ Wants_file href s) × IsInElement s.levels
wanting_of (Wants_file name s) href wanted here = let same : name ≡ href = cc in (s, ap (λ (n : List ℕ). Wants_file n s) same, here)
wanting_of (Reads_on s) href wanted here = cc
wanting_of (Ended items l) href wanted here = cc
wanting_of (Refused_at at why) href wanted here = cc
wanting_of Spent href wanted here = cc

wanting_on : (p : Progress) (href : List ℕ) → wanted_in p ≡ Some href → is_over p ≡ false
wanting_on (Wants_file name s) href wanted = refl
wanting_on (Reads_on s) href wanted = cc
wanting_on (Ended items l) href wanted = cc
wanting_on (Refused_at at why) href wanted = cc
wanting_on Spent href wanted = cc

module _ (limits : Limits) (name : List ℕ) (one : ComesToOne) (front : List Going) (g : Going) (files : List Doc) (y : Standing) (left : ℕ)
    (read : IsReadBy limits name (front ++ g ∷ []) files y left []) (href : List ℕ) (wanted : wanted_in y.progress ≡ Some href) (here : InElement y.progress)
    (taken : 0 < g.taken) (some : 0 < length (future g.reader [] false)) where
  on : is_over y.progress ≡ false
  on = wanting_on y.progress href wanted

  stage : (s : Stage) × (y.progress ≡ Wants_file href s) × IsInElement s.levels
  stage = wanting_of y.progress href wanted here

  last_for : (docs : Documents) (rest : ℕ → List ℕ) → AreRests rest (front ++ g ∷ []) → Last limits docs name front g files y left rest
  last_for docs rest rests = last_of limits docs name files y left rest front g (read.follows on docs rest rests)

  lists_some : (docs : Documents) (rest : ℕ → List ℕ) (l : Last limits docs name front g files y left rest) → 0 < l.lists
  lists_some docs rest l = let e = (l.follows.going on).0.lists [] false in omega (arith, e, some)

  -- where documents have the files
  last_known : (docs : Documents) → AreOf docs (seen_of (front ++ g ∷ []) files)
      → (rest : ℕ → List ℕ) × (l : Last limits docs name front g files y left rest) × AreParts docs (parts_of (shown_by g l.part l.lists l.done ∷ l.outer)) × (y.names ≡ names_of files)
  last_known docs seen =
      let s = read.follows on docs (λ n. []) (no_rests (front ++ g ∷ [])) in
      let numbers = shown_numbers (λ n. []) (front ++ g ∷ []) files s.frames s.shows s.in_files in
      let rests = rests_known docs (names_of files) 0 (front ++ g ∷ []) (length files) numbers (known_of docs (front ++ g ∷ []) files numbers seen) in
      let l = last_for docs rests.0 rests.1 in
      let f = shown_by g l.part l.lists l.done in
      let shown : Shows rests.0 (front ++ g ∷ []) (f ∷ l.outer) = (front, g, refl, record { number = l.number; source = refl; taken = refl; bytes = l.bytes }, l.around) in
      (rests.0, l, parts_are docs rests.0 (front ++ g ∷ []) files (f ∷ l.outer) shown l.in_files seen rests.2, sym l.follows.names ∙ sym (names_shown files (f ∷ l.outer) l.in_files))

  -- the file that is wanted is opened next
  pub wanted_begins : (docs : Documents) → AreOf docs (seen_of (front ++ g ∷ []) files) → (reads : Reads) → Begins (names_of files ++ href ∷ []) (load reads limits docs name).opened
  wanted_begins docs seen reads =
      let k = last_known docs seen in
      let l = k.1 in
      subst (λ (ns : List (List ℕ)). Begins (ns ++ href ∷ []) (load reads limits docs name).opened) k.3
      (next_begins limits docs name one (shown_by g l.part l.lists l.done) l.outer y left l.follows href stage.0 stage.1 stage.2 (lists_some docs k.0 l) taken k.2 reads)

  -- The file was opened.
  module _ (h : Going) (z : Standing) (number : h.number ≡ length files) (empty : h.bytes.items ≡ []) (none_taken : h.taken ≡ 0)
      (begins : (bytes : List ℕ) (ended : Bool) → future h.reader bytes ended ≡ doc limits false bytes ended ∷ []) (not_over : h.reader.over ≡ None) (not_ended : h.reader.lexer.ended ≡ false)
      (opens : OpensIt y z) (names : z.names ≡ y.names ++ href ∷ []) (list : OpensList y z) where
    abbrev own : Doc
    own = record { name = href; bytes = [] }

    enter_all : AllStand limits name ((front ++ g ∷ []) ++ h ∷ []) (files ++ own ∷ []) z left
    enter_all docs rest rests =
        let r = rests_front rest (front ++ g ∷ []) h rests in
        let l = last_for docs rest r.0 in
        let f = shown_by g l.part l.lists l.done in
        let bytes = rest h.number in
        let size = length bytes in
        let around = grow size (include_known f ∷ l.outer) in
        let shown : Shows rest (front ++ g ∷ []) (include_known f ∷ l.outer) = (front, g, refl, record { number = l.number; source = refl; taken = refl; bytes = l.bytes }, l.around) in
        let counted = files_counted files (f ∷ l.outer) l.in_files in
        let known = length-append (parts_of l.outer) (l.part ∷ l.done) in
        let known_too = length-append (parts_of l.outer) (record l.part { known = g.taken } ∷ l.done) in
        let grown = count_grown size (include_known f ∷ l.outer) in
        record {
          frames = fresh href bytes (l.part.before + l.part.inside + g.taken) h.reader ∷ around;
          shows = (
            front ++ g ∷ [],
            h,
            refl,
            record { number = omega (arith, number, counted, known, known_too, grown); source = refl; taken = sym none_taken; bytes = ap (λ (b : List ℕ). b ++ rest h.number) (sym empty) },
            shows_grown rest size (front ++ g ∷ []) (include_known f ∷ l.outer) shown,
          );
          in_files = (files, own, refl, refl, files_grown size files (include_known f ∷ l.outer) l.in_files);
          follows = enter_follows limits docs name one f l.outer y left l.follows href stage.0 stage.1 stage.2 (lists_some docs rest l) taken bytes h.reader begins not_over not_ended (nothing limits) z opens names list;
        }

    opens_list : is_over z.progress ≡ false
    opens_list = reading_on z.progress (list href wanted).0 where
      reading_on : (p : Progress) → IsReading p → is_over p ≡ false
      reading_on (Reads_on s) r = refl
      reading_on (Wants_file name s) r = absurd r
      reading_on (Ended items l) r = absurd r
      reading_on (Refused_at at why) r = absurd r
      reading_on Spent r = absurd r

    pub enter_read : IsReadBy limits name ((front ++ g ∷ []) ++ h ∷ []) (files ++ own ∷ []) z left []
    enter_read = read_by limits name one ((front ++ g ∷ []) ++ h ∷ []) (files ++ own ∷ []) z left enter_all (λ over. absurd (false≢true (sym opens_list ∙ over)))

  -- The file is absent.
  module _ (z : Standing) (misses : MissesIt y z) (names : z.names ≡ y.names) (over : is_over z.progress ≡ true) where
    abbrev pub missed : List Seen
    missed = record { name = href; came = Absent } ∷ []

    absent_by : (docs : Documents) → AreOf docs (seen_of (front ++ g ∷ []) files ++ missed) → Decides limits docs name (names_of files ++ names_in missed) z
    absent_by docs are =
        let seen = are_front docs (seen_of (front ++ g ∷ []) files) missed are in
        let gone : docs href ≡ None = (are_back docs (seen_of (front ++ g ∷ []) files) missed are).0 in
        let k = last_known docs seen in
        let l = k.1 in
        subst (λ (ns : List (List ℕ)). Decides limits docs name ns z) (ap (λ (ns : List (List ℕ)). ns ++ href ∷ []) k.3)
        (missing_decides limits docs name one (shown_by g l.part l.lists l.done) l.outer y left l.follows href stage.0 stage.1 stage.2 (lists_some docs k.0 l) taken z misses names k.2 gone)

    no_sheet_so : Reads → (sheet : Sheet) → GivesSheet z sheet → ⊥
    no_sheet_so reads sheet gives =
        let l = last_for no_documents (λ n. []) (no_rests (front ++ g ∷ [])) in
        no_sheet limits no_documents name one (shown_by g l.part l.lists l.done) l.outer y left l.follows href stage.0 stage.1 stage.2 (lists_some no_documents (λ n. []) l) taken z misses names sheet gives reads

    pub absent_read : IsReadBy limits name (front ++ g ∷ []) files z left missed
    absent_read = record {
      follows = λ on_z. absurd (false≢true (sym on_z ∙ over));
      decides = λ is_so. absent_by;
      whole = λ is_so reads sheet gives. absurd (no_sheet_so reads sheet gives);
      sound = λ is_so reads sheet gives. absurd (no_sheet_so reads sheet gives);
      none = λ on_z. absurd (false≢true (sym on_z ∙ over));
      begins = λ docs are reads. wanted_begins docs (are_front docs (seen_of (front ++ g ∷ []) files) missed are) reads;
    }

-- The sheet's own file was opened.
module _ (limits : Limits) (name : List ℕ) (one : ComesToOne) (h : Going) (x : Standing) (number : h.number ≡ 0) (empty : h.bytes.items ≡ []) (none_taken : h.taken ≡ 0)
    (begins : (bytes : List ℕ) (ended : Bool) → future h.reader bytes ended ≡ doc limits false bytes ended ∷ []) (not_over : h.reader.over ≡ None) (not_ended : h.reader.lexer.ended ≡ false)
    (names : x.names ≡ name ∷ []) (progress : x.progress ≡ beginning name)
    (sheet : (reads : Reads) (own : File) (others : List (Option File)) → own.version ≡ version_of language own.nodes → sheet_of reads name (Some own ∷ others) ≡ Say name (remaining reads (Some own ∷ others) x.progress (own.nodes ∷ []))) where
  own_all : AllStand limits name (h ∷ []) (record { name = name; bytes = [] } ∷ []) x limits.sheet
  own_all docs rest rests =
      let bytes = rest h.number in
      record {
        frames = fresh name bytes 0 h.reader ∷ [];
        shows = ([], h, refl, record { number = number; source = refl; taken = sym none_taken; bytes = ap (λ (b : List ℕ). b ++ rest h.number) (sym empty) }, refl);
        in_files = ([], record { name = name; bytes = [] }, refl, refl, refl);
        follows = own_follows limits docs name one bytes h.reader begins not_over not_ended (nothing limits) x names progress sheet;
      }

  pub own_read : IsReadBy limits name (h ∷ []) (record { name = name; bytes = [] } ∷ []) x limits.sheet []
  own_read = read_by limits name one (h ∷ []) (record { name = name; bytes = [] } ∷ []) x limits.sheet own_all (λ over. absurd (false≢true (ap is_over (sym progress) ∙ over)))
