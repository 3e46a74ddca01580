-- What stays so of a sheet, by what the program keeps of it, at an event and where its innermost file is given more.
use Rattle.std.proofs.Common.{◌≡◌, ℕ, zero, suc, ◌<◌, true, false, List, [], ◌∷◌, ◌++◌, length, Option, Some, None, refl, sym, ap, subst, ◌∙◌, arith}
use Rattle.std.proofs.lemmas.Bool.{false≢true}
use Rattle.stx_base.specs.Course.{Begins, Gives}
use Rattle.stx_base.specs.declared.fault.XmlFault.{XmlFault}
use Rattle.stx_base.specs.declared.limits.Limits.{Limits}
use Rattle.stx_host.specs.declared.act.Doc.{Doc}
use Rattle.xml_events.specs.Answering.{Counts, EndsWhole, Goes, answer_of, lists_behind as count_behind}
use Rattle.xml_events.specs.Source.{IsAnswer, Leaves, Source, future}
use Rattle.xml_events.specs.declared.event.Event.{Event}
use Rattle.xml_events.specs.declared.event.Event.TheVariants as event
use Rattle.xml_events.specs.declared.event.Pull.TheVariants as pull
use Rattle.xml_tokens.specs.declared.lexeme.Ending.{Ending}
use Rattle.sheet_model.specs.declared.sheet.Sheet.{Sheet}
use Rattle.sheet_loader.specs.Files.{Documents, load}
use Rattle.sheet_loader.specs.Laws.{ComesToOne}
use Rattle.sheet_loader.specs.Lists.{FilesAre, KeepsLists, Of, lists_behind, lists_in, lists_of}
use Rattle.sheet_loader.specs.Levels.{Level}
use Rattle.sheet_loader.specs.Loaders.{EndsBad, GivesSheet, Standing, TakesEvent, is_over, wanted_in}
use Rattle.sheet_loader.specs.Read.{code_of_job}
use Rattle.sheet_loader.specs.Reading.{File, Listed}
use Rattle.sheet_loader.specs.Remaining.{Ended, Progress, Reads_on, Refused_at, Spent, Wants_file, remaining}
use Rattle.sheet_loader.specs.Resuming.{CutsList, TakesElement}
use Rattle.sheet_loader.specs.Values.{Reads}
use Rattle.sheet_files.specs.Following.{AreParts, Decides, Follows, Include}
use Rattle.sheet_files.specs.Frames.{Frame, Part, lists_onto, lists_open, parts_of}
use Rattle.sheet_files.specs.Held.{names_of, seen_of}
use Rattle.sheet_files.specs.Opened.{AreOf}
use Rattle.sheet_files.specs.Reading.{AllEnded, AreRests, IsReadBy, IsShown, IsSoundWithin, Shows, ShowsFiles, Stands}
use Rattle.sheet_files.specs.declared.going.Going.{Going}
use Rattle.sheet_files.proofs.Counting.{end_two, lists_then}
use Rattle.sheet_files.proofs.Ending.{decides, over_sound}
use Rattle.sheet_files.proofs.Following.{event_follows, told_one, told_some, told_taken}
use Rattle.sheet_files.proofs.Handing.{bad_follows, need_follows, none_if_bad}
use Rattle.sheet_files.proofs.Opening.{append_none}
use Rattle.sheet_files.proofs.Resting.{names_shown, no_rests, parts_are, rests_front, rests_known, rests_snoc, shown_numbers}
use Rattle.sheet_files.proofs.Seeing.{known_of, no_snoc, snoc_same}

-- the innermost file, as a frame has it
abbrev pub shown_by : Going → Part → (lists : ℕ) → (done : List Part) → Frame
shown_by g part lists done = record { part = part; taken = g.taken; source = g.reader; lists = lists; done = done }

-- what was read, with its innermost file apart
pub record Last (limits : Limits) (docs : Documents) (name : List ℕ) (front : List Going) (g : Going) (files : List Doc) (x : Standing) (left : ℕ) (rest : ℕ → List ℕ) : Type 0 where
  pub part : Part
  pub lists : ℕ
  pub done : List Part
  pub outer : List Frame
  pub number : g.number ≡ length (parts_of outer)
  pub bytes : part.bytes ≡ g.bytes.items ++ rest g.number
  pub around : Shows rest front outer
  pub in_files : ShowsFiles files (shown_by g part lists done ∷ outer)
  pub follows : Follows limits docs name (shown_by g part lists done ∷ outer) x left

module _ (limits : Limits) (docs : Documents) (name : List ℕ) (files : List Doc) (x : Standing) (left : ℕ) (rest : ℕ → List ℕ) where
  last_by : (front : List Going) (g : Going) (frames : List Frame) → Shows rest (front ++ g ∷ []) frames → ShowsFiles files frames → Follows limits docs name frames x left → Last limits docs name front g files x left rest
  last_by front g [] shows in_files follows = absurd (no_snoc front g shows)
  last_by front g (f ∷ outer) shows in_files follows =
      let same = snoc_same shows.0 front shows.1 g (sym shows.2) in
      let shown : IsShown rest g f outer = subst (λ (k : Going). IsShown rest k f outer) same.1 shows.3 in
      let is : f ≡ shown_by g f.part f.lists f.done =
      ap (λ (n : ℕ). record f { taken = n }) shown.taken ∙ ap (λ (s : Source). record f { taken = g.taken; source = s }) shown.source in
      record {
        part = f.part;
        lists = f.lists;
        done = f.done;
        outer = outer;
        number = shown.number;
        bytes = shown.bytes;
        around = subst (λ (l : List Going). Shows rest l outer) same.0 shows.4;
        in_files = in_files;
        follows = subst (λ (h : Frame). Follows limits docs name (h ∷ outer) x left) is follows;
      }

  pub last_of : (front : List Going) (g : Going) → Stands limits docs name (front ++ g ∷ []) files x left rest → Last limits docs name front g files x left rest
  last_of front g s = last_by front g s.frames s.shows s.in_files s.follows

  pub stands_with : (front : List Going) (h : Going) (f : Frame) (outer : List Frame) → h.number ≡ length (parts_of outer) → f.source ≡ h.reader → f.taken ≡ h.taken → f.part.bytes ≡ h.bytes.items ++ rest h.number
      → Shows rest front outer → ShowsFiles files (f ∷ outer) → Follows limits docs name (f ∷ outer) x left → Stands limits docs name (front ++ h ∷ []) files x left rest
  stands_with front h f outer number source taken bytes around in_files follows =
      record { frames = f ∷ outer; shows = (front, h, refl, record { number = number; source = source; taken = taken; bytes = bytes }, around); in_files = in_files; follows = follows }

-- whatever comes of the files
abbrev pub AllStand : Limits → (name : List ℕ) → List Going → List Doc → Standing → (left : ℕ) → Type 0
AllStand limits name going files x left = (docs : Documents) (rest : ℕ → List ℕ) → AreRests rest going → Stands limits docs name going files x left rest

-- what is so of all sheets of which nothing is known
abbrev pub no_documents : Documents
no_documents n = None

module _ (limits : Limits) (name : List ℕ) (one : ComesToOne) (going : List Going) (files : List Doc) (x : Standing) (left : ℕ) (all : AllStand limits name going files x left) where
  -- what follows where documents have the files
  stands_of : (docs : Documents) → AreOf docs (seen_of going files ++ []) → (rest : ℕ → List ℕ) × (s : Stands limits docs name going files x left rest) × AreParts docs (parts_of s.frames)
  stands_of docs are =
      let seen : AreOf docs (seen_of going files) = subst (AreOf docs) (append_none (seen_of going files)) are in
      let some = all docs (λ n. []) (no_rests going) in
      let numbers = shown_numbers (λ n. []) going files some.frames some.shows some.in_files in
      let rests = rests_known docs (names_of files) 0 going (length files) numbers (known_of docs going files numbers seen) in
      let s = all docs rests.0 rests.1 in
      (rests.0, s, parts_are docs rests.0 going files s.frames s.shows s.in_files seen rests.2)

  decides_by : is_over x.progress ≡ true → (docs : Documents) → AreOf docs (seen_of going files ++ []) → Decides limits docs name (names_of files ++ []) x
  decides_by over docs are =
      let there = stands_of docs are in
      let s = there.1 in
      let names : x.names ≡ names_of files ++ [] = sym s.follows.names ∙ sym (names_shown files s.frames s.in_files) ∙ sym (append_none (names_of files)) in
      subst (λ (ns : List (List ℕ)). Decides limits docs name ns x) names (decides limits docs name one s.frames x left s.follows over there.2)

  begins_by : (docs : Documents) → AreOf docs (seen_of going files ++ []) → (reads : Reads) → Begins (names_of files ++ []) (load reads limits docs name).opened
  begins_by docs are reads =
      let there = stands_of docs are in
      let s = there.1 in
      subst (λ (ns : List (List ℕ)). Begins ns (load reads limits docs name).opened) (sym (names_shown files s.frames s.in_files) ∙ sym (append_none (names_of files))) (s.follows.begins there.2 reads)

  pub read_by : (is_over x.progress ≡ true → Reads → (sheet : Sheet) → GivesSheet x sheet → AllEnded going × IsSoundWithin limits sheet) → IsReadBy limits name going files x left []
  read_by whole = record { follows = λ on. all; decides = decides_by; whole = λ over reads sheet gives. ((whole over reads sheet gives).0, refl); sound = λ over reads sheet gives. (whole over reads sheet gives).1; none = λ on. refl; begins = begins_by }

no_levels : (levels : List Level) → 0 < length levels → lists_in levels ≡ [] → ⊥
no_levels [] some e = absurd (omega (arith, some))
no_levels (l ∷ levels) some e = cc

-- some file is being read, where the loader isn't over
pub some_list : (names : List (List ℕ)) (p : Progress) → FilesAre names p → is_over p ≡ false → lists_of p ≡ [] → ⊥
some_list names (Reads_on s) are on none = no_levels s.levels are.1 none
some_list names (Wants_file href s) are on none = no_levels s.levels are.1 none
some_list names (Ended items l) are on none = absurd (false≢true (sym on))
some_list names (Refused_at at why) are on none = absurd (false≢true (sym on))
some_list names Spent are on none = absurd (false≢true (sym on))

no_frames : (limits : Limits) (name : List ℕ) (files : List Doc) (x : Standing) (left : ℕ) (frames : List Frame) → Shows (λ n. []) [] frames → Follows limits no_documents name frames x left → is_over x.progress ≡ false → ⊥
no_frames limits name files x left [] shows follows on = some_list x.names x.progress follows.files on (follows.lists on)
no_frames limits name files x left (f ∷ outer) shows follows on = no_snoc shows.0 shows.1 (sym shows.2)

pub some_going : (limits : Limits) (name : List ℕ) (going : List Going) (files : List Doc) (x : Standing) (left : ℕ) → IsReadBy limits name going files x left [] → is_over x.progress ≡ false → going ≡ [] → ⊥
some_going limits name going files x left read on none =
    let empty : IsReadBy limits name [] files x left [] = subst (λ (l : List Going). IsReadBy limits name l files x left []) none read in
    let s = empty.follows on no_documents (λ n. []) tt in
    no_frames limits name files x left s.frames s.shows s.follows on

-- one list is open at least
onto_some : (n : ℕ) (outer : List Frame) (around : List Of) → 0 < n → lists_onto n outer around ≡ [] → ⊥
onto_some zero outer around some e = absurd (omega (arith, some))
onto_some (suc zero) outer around some e = cc
onto_some (suc (suc n)) outer around some e = cc

onto_none : (n : ℕ) (outer : List Frame) → Include outer → lists_onto n outer (lists_open outer) ≡ [] → (n ≡ 0) × (outer ≡ [])
onto_none zero [] include e = (refl, refl)
onto_none zero (f ∷ outer) include e = absurd (onto_some f.lists outer (lists_open outer) include.0 e)
onto_none (suc zero) outer include e = cc
onto_none (suc (suc n)) outer include e = cc

all_ended : (front : List Going) (g : Going) → front ≡ [] → g.reader.lexer.ended ≡ true → AllEnded (front ++ g ∷ [])
all_ended front g none ended = subst (λ (l : List Going). AllEnded (l ++ g ∷ [])) (sym none) (ended, tt)

-- a file around which none is read
no_front : (rest : ℕ → List ℕ) (front : List Going) (outer : List Frame) → Shows rest front outer → outer ≡ [] → front ≡ []
no_front rest front outer shows none = subst (Shows rest front) none shows

module _ (limits : Limits) (name : List ℕ) (one : ComesToOne) (front : List Going) (was : Going) (files : List Doc) (x : Standing) (left : ℕ)
    (read : IsReadBy limits name (front ++ was ∷ []) files x left []) (on : is_over x.progress ≡ false) (none : wanted_in x.progress ≡ None) where
  pub last_with : (docs : Documents) (rest : ℕ → List ℕ) → AreRests rest (front ++ was ∷ []) → Last limits docs name front was files x left rest
  last_with docs rest rests = last_of limits docs name files x left rest front was (read.follows on docs rest rests)

  pub some_last : Last limits no_documents name front was files x left (λ n. [])
  some_last = last_with no_documents (λ n. []) (no_rests (front ++ was ∷ []))

  -- its bytes are those that are kept, where the other file is the same but for its reader
  like_bytes : (rest : ℕ → List ℕ) (is : Going) (bytes : List ℕ) → is.number ≡ was.number → is.bytes.items ≡ was.bytes.items → bytes ≡ was.bytes.items ++ rest was.number → bytes ≡ is.bytes.items ++ rest is.number
  like_bytes rest is bytes number same e = e ∙ ap (λ (l : List ℕ). l ++ rest was.number) (sym same) ∙ ap (λ (n : ℕ). is.bytes.items ++ rest n) (sym number)

  -- a rest for a file that is the same but for its reader
  like_rests : (rest : ℕ → List ℕ) (is : Going) → is.number ≡ was.number → (was.reader.lexer.ended ≡ true → is.reader.lexer.ended ≡ true) → AreRests rest (front ++ is ∷ []) → AreRests rest (front ++ was ∷ [])
  like_rests rest is number ended rests =
      let r = rests_front rest front is rests in
      rests_snoc rest front was r.0 (λ e. ap rest (sym number) ∙ r.1 (ended e))

  -- The reader tells an event.
  module _ (is : Going) (e : Event) (y : Standing) (number : is.number ≡ was.number) (same_bytes : is.bytes.items ≡ was.bytes.items) (same_taken : is.taken ≡ was.taken)
      (answer : IsAnswer was.reader (pull.Event e)) (leaves : Leaves was.reader (pull.Event e) is.reader)
      (repeats : (over : Ending) → was.reader.over ≡ Some over → pull.Event e ≡ answer_of over)
      (goes : Goes was.reader (pull.Event e) is.reader) (counts : Counts was.reader (pull.Event e) is.reader) (whole : EndsWhole was.reader (pull.Event e))
      (same_end : is.reader.lexer.ended ≡ was.reader.lexer.ended)
      (takes : TakesEvent e x.progress y.progress) (names : y.names ≡ x.names) (keeps : KeepsLists e x.progress y.progress) (files_are : FilesAre y.names y.progress) where
    event_all : AllStand limits name (front ++ is ∷ []) files y left
    event_all docs rest rests =
        let l = last_with docs rest (like_rests rest is number (λ h. same_end ∙ h) rests) in
        let f = shown_by was l.part l.lists l.done in
        stands_with limits docs name files y left rest front is (record f { source = is.reader; lists = count_behind e l.lists }) l.outer (number ∙ l.number) refl (sym same_taken)
        (like_bytes rest is l.part.bytes number same_bytes l.bytes) l.around l.in_files
        (event_follows limits docs name f l.outer x left l.follows is.reader e y answer leaves repeats goes counts whole same_end on takes names keeps files_are none)

    -- the document's end was told
    ended_by : (d : Event) (n : ℕ) → d ≡ e → 0 < n → n ≡ length (future was.reader [] false) → count_behind d n ≡ 0 → is.reader.lexer.ended ≡ true
    ended_by (event.DocumentEnd offset) n same some len shut = same_end ∙ subst (λ (d : Event). EndsWhole was.reader (pull.Event d)) (sym same) whole
    ended_by (event.End offset) n same some len shut =
        let two : 1 < length (future was.reader [] false) = end_two offset (future was.reader [] false) (answer [] false ∙ ap pull.Event (sym same)) in
        absurd (omega (arith, two, len, shut))
    ended_by (event.Start offset m attrs decls first) n same some len shut = absurd (omega (arith, shut))
    ended_by (event.Chars offset text) n same some len shut = absurd (omega (arith, shut, some))
    ended_by (event.CData offset text) n same some len shut = absurd (omega (arith, shut, some))
    ended_by (event.Comment offset text) n same some len shut = absurd (omega (arith, shut, some))
    ended_by (event.Pi offset target text) n same some len shut = absurd (omega (arith, shut, some))

    -- where it gives a sheet all lists were closed
    none_open : (reads : Reads) (n : ℕ) (outer : List Frame) (old new : Progress) (r : Listed) → 0 < n → ((offset : ℕ) → e ≡ event.DocumentEnd offset → n ≡ 1) → KeepsLists e old new → is_over old ≡ false → wanted_in old ≡ None
        → lists_of old ≡ lists_onto n outer (lists_open outer) → is_over new ≡ true → Gives (code_of_job reads []) (remaining reads [] new []) [] r → lists_onto (count_behind e n) outer (lists_open outer) ≡ []
    none_open reads n outer (Reads_on s) (Ended items l) r some only kept going idle before over gives = sym (lists_then e n outer (lists_open outer) some only) ∙ ap (lists_behind e) (sym before) ∙ kept
    none_open reads n outer (Reads_on s) (Reads_on t) r some only kept going idle before over gives = absurd (false≢true over)
    none_open reads n outer (Reads_on s) (Wants_file href t) r some only kept going idle before over gives = absurd (false≢true over)
    none_open reads n outer (Reads_on s) (Refused_at at why) r some only kept going idle before over gives = let h = gives.comes in cc
    none_open reads n outer (Reads_on s) Spent r some only kept going idle before over gives = let h = gives.comes in cc
    none_open reads n outer (Wants_file href s) new r some only kept going idle before over gives = cc
    none_open reads n outer (Ended items l) new r some only kept going idle before over gives = absurd (false≢true (sym going))
    none_open reads n outer (Refused_at at why) new r some only kept going idle before over gives = absurd (false≢true (sym going))
    none_open reads n outer Spent new r some only kept going idle before over gives = absurd (false≢true (sym going))

    event_whole : is_over y.progress ≡ true → Reads → (sheet : Sheet) → GivesSheet y sheet → AllEnded (front ++ is ∷ []) × IsSoundWithin limits sheet
    event_whole over reads sheet gives =
        let l = some_last in
        let f = shown_by was l.part l.lists l.done in
        let some : 0 < l.lists = told_some limits no_documents name f l.outer x left l.follows is.reader e y answer leaves repeats goes counts whole same_end on takes names keeps files_are none in
        let only = told_one limits no_documents name f l.outer x left l.follows is.reader e y answer leaves repeats goes counts whole same_end on takes names keeps files_are none in
        let r = gives reads [] [] in
        let no = none_open reads l.lists l.outer x.progress y.progress r.0 some only keeps on none (l.follows.lists on) over r.1 in
        let closed = onto_none (count_behind e l.lists) l.outer l.follows.include no in
        let ended = ended_by e l.lists refl some (sym ((l.follows.going on).0.lists [] false)) closed.0 in
        let told = record f { source = is.reader; lists = count_behind e l.lists } in
        let follows = event_follows limits no_documents name f l.outer x left l.follows is.reader e y answer leaves repeats goes counts whole same_end on takes names keeps files_are none in
        let alone = subst (λ (o : List Frame). Follows limits no_documents name (told ∷ o) y left) closed.1 follows in (
          all_ended front is (no_front (λ n. []) front l.outer l.around closed.1) ended,
          over_sound limits no_documents name told y left alone over ((l.follows.going on).0.ended (sym same_end ∙ ended)) reads sheet gives,
        )

    pub event_read : IsReadBy limits name (front ++ is ∷ []) files y left []
    event_read = read_by limits name one (front ++ is ∷ []) files y left event_all event_whole

    -- it has bytes, and a list that is open
    pub event_taken : 0 < was.taken
    event_taken =
        let l = some_last in
        told_taken limits no_documents name (shown_by was l.part l.lists l.done) l.outer x left l.follows is.reader e y answer leaves repeats goes counts whole same_end on takes names keeps files_are none

  module _ (cuts_end : (reads : Reads) (files : List (Option File)) → CutsList reads files) (elements : (reads : Reads) (files : List (Option File)) → TakesElement reads files) where
    -- The reader wants more bytes.
    module _ (is : Going) (number : is.number ≡ was.number) (same_bytes : is.bytes.items ≡ was.bytes.items) (same_taken : is.taken ≡ was.taken)
        (answer : IsAnswer was.reader pull.Need) (leaves : Leaves was.reader pull.Need is.reader) (goes : Goes was.reader pull.Need is.reader) (same_end : is.reader.lexer.ended ≡ was.reader.lexer.ended) where
      need_all : AllStand limits name (front ++ is ∷ []) files x left
      need_all docs rest rests =
          let l = last_with docs rest (like_rests rest is number (λ h. same_end ∙ h) rests) in
          let f = shown_by was l.part l.lists l.done in
          stands_with limits docs name files x left rest front is (record f { source = is.reader }) l.outer (number ∙ l.number) refl (sym same_taken)
          (like_bytes rest is l.part.bytes number same_bytes l.bytes) l.around l.in_files
          (need_follows limits docs name cuts_end elements f l.outer x left l.follows on none is.reader answer leaves goes same_end)

      pub need_read : IsReadBy limits name (front ++ is ∷ []) files x left []
      need_read = read_by limits name one (front ++ is ∷ []) files x left need_all (λ over. absurd (false≢true (sym on ∙ over)))

    -- it has a fault
    module _ (is : Going) (y : Standing) (fault : XmlFault) (number : is.number ≡ was.number) (same_bytes : is.bytes.items ≡ was.bytes.items) (same_taken : is.taken ≡ was.taken)
        (answer : IsAnswer was.reader (pull.Bad fault)) (leaves : Leaves was.reader (pull.Bad fault) is.reader) (goes : Goes was.reader (pull.Bad fault) is.reader) (same_end : is.reader.lexer.ended ≡ was.reader.lexer.ended)
        (bad : EndsBad fault x.progress y.progress) (names : y.names ≡ x.names) (over : is_over y.progress ≡ true) (files_are : FilesAre y.names y.progress) where
      bad_all : AllStand limits name (front ++ is ∷ []) files y left
      bad_all docs rest rests =
          let l = last_with docs rest (like_rests rest is number (λ h. same_end ∙ h) rests) in
          let f = shown_by was l.part l.lists l.done in
          stands_with limits docs name files y left rest front is (record f { source = is.reader }) l.outer (number ∙ l.number) refl (sym same_taken)
          (like_bytes rest is l.part.bytes number same_bytes l.bytes) l.around l.in_files
          (bad_follows limits docs name cuts_end elements f l.outer x left l.follows on none is.reader y fault answer leaves goes same_end bad names over files_are)

      bad_whole : is_over y.progress ≡ true → Reads → (sheet : Sheet) → GivesSheet y sheet → AllEnded (front ++ is ∷ []) × IsSoundWithin limits sheet
      bad_whole is_so reads sheet gives =
          let l = some_last in
          absurd (none_if_bad limits no_documents name cuts_end elements (shown_by was l.part l.lists l.done) l.outer x left l.follows on none is.reader y fault answer leaves goes same_end bad names over files_are sheet gives reads)

      pub bad_read : IsReadBy limits name (front ++ is ∷ []) files y left []
      bad_read = read_by limits name one (front ++ is ∷ []) files y left bad_all bad_whole
