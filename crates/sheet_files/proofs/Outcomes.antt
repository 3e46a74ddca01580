-- What loading comes to, where all was read, or where reading halted.
use Rattle.std.proofs.Common.{◌≡◌, ℕ, zero, suc, ◌<◌, true, List, [], ◌∷◌, ◌++◌, map, length, slice_get, Option, Some, None, IfSome, Ok, Err, Contains, refl, sym, ap, subst, ◌∙◌, arith, append_assoc, inl, inr}
use Rattle.std.specs.Option.{option_and_then, option_map}
use Rattle.stx_base.specs.declared.fault.SheetCode.TheVariants as code
use Rattle.stx_base.specs.declared.fault.SheetFault.{SheetFault}
use Rattle.stx_base.specs.declared.limits.Limits.{Limits}
use Rattle.stx_host.specs.Laws.{CountsLater, Later}
use Rattle.stx_host.proofs.Lacking.{lacks_more, needs_more}
use Rattle.stx_host.specs.Outside.{LacksRoom, MayOpen, Opens, Outside, SameCounts, document, for_id, place}
use Rattle.stx_host.specs.Rooms.{needed}
use Rattle.stx_host.specs.declared.act.Act.{Act}
use Rattle.stx_host.specs.declared.act.Act.TheVariants.{Open}
use Rattle.stx_host.specs.declared.act.Doc.{Doc}
use Rattle.stx_host.specs.declared.act.Opened.TheVariants as answered
use Rattle.fault_report.specs.declared.outcome.HostFault.TheVariants as host_fault
use Rattle.fault_report.specs.declared.outcome.Outcome.TheVariants as outcome
use Rattle.sheet_loader.proofs.Ending.{comes_to_one}
use Rattle.sheet_loader.specs.Files.{Documents, Loads, changed, load, loads}
use Rattle.sheet_loader.specs.Levels.{name_at}
use Rattle.sheet_loader.specs.Loaders.{EndsInFault, GivesSheet, Standing, is_over}
use Rattle.sheet_loader.specs.Values.{Reads}
use Rattle.sheet_files.specs.Acts.{NoneBehindEnd, given_for, opens, read_since_open}
use Rattle.sheet_files.specs.Held.{AreNumbered, HasRest, HaveDone, IsWithin, names_of, seen_of, with_going}
use Rattle.sheet_files.specs.Loading.{FailsAfter, FailsInOrder, LoadCounts, LoadsTo, NamesFile}
use Rattle.sheet_files.specs.Opened.{Absent, AreOf, Came, Seen, Whole, documents_told, names_in, place_told, places, whole}
use Rattle.sheet_files.specs.Reading.{AllEnded, IsReadBy}
use Rattle.sheet_files.specs.Steps.{AreCloses, HasFailed, OpensFirst, files_left}
use Rattle.sheet_files.specs.Undecided.{IsUndecided}
use Rattle.sheet_files.specs.declared.going.Going.{Going}
use Rattle.sheet_files.specs.declared.load.Loaded.{Loaded}
use Rattle.sheet_files.proofs.Acting.{given_more, opens_more, read_more}
use Rattle.sheet_files.proofs.Beginning.{own_absent}
use Rattle.sheet_files.proofs.Begins.{own_begins}
use Rattle.sheet_files.proofs.Changing.{came_whole}
use Rattle.sheet_files.proofs.Coming.{left_files}
use Rattle.sheet_files.proofs.Doing.{closes_give_none, closes_open_none, closes_read_none, counts_then, done_open, done_then, failed_then}
use Rattle.sheet_files.proofs.Ends.{none_quiet, quiet_closes}
use Rattle.sheet_files.proofs.Holding.{if_some}
use Rattle.sheet_files.proofs.Opening.{append_none, map_append}
use Rattle.sheet_files.proofs.Seeing.{as_came, changed_apart, changed_map, names_seen, names_whole, unchanged_map}
use Rattle.sheet_files.proofs.Staying.{begins_undecided, opened_undecided, stays_closed}
use Rattle.sheet_files.proofs.Within.{if_at, if_told, some_at, told_at}

-- the counts of a host that didn't fail, and of one that failed

counts_later : (start o : Outside) → SameCounts start o → CountsLater start o
counts_later start o same =
    record { doc = at start.doc_faults o.doc_faults same.doc; main = at start.main_faults o.main_faults same.main; out = at start.out_faults o.out_faults same.out; note = at start.note_faults o.note_faults same.note } where
      at : (a b : ℕ) → b ≡ a → Later a b
      at a b e = (omega (arith, e), inl e)

pub counts_are : (start o : Outside) (loaded : Loaded) → SameCounts start o → LoadCounts start o (Ok loaded)
counts_are start o loaded same = record { later = counts_later start o same; doc = same.doc; main = same.main; out = same.out; note = same.note }

pub counts_refused : (start o : Outside) (fault : SheetFault) → SameCounts start o → LoadCounts start o (Err (outcome.Sheet fault))
counts_refused start o fault same = record { later = counts_later start o same; doc = same.doc; main = same.main; out = same.out; note = same.note }

pub counts_short : (start o : Outside) → SameCounts start o → LoadCounts start o (Err outcome.Memory)
counts_short start o same = record { later = counts_later start o same; doc = same.doc; main = same.main; out = same.out; note = same.note }

pub counts_failing : (start o : Outside) (file : List ℕ) (offset : ℕ) → HasFailed start o → LoadCounts start o (Err (outcome.Host file host_fault.Doc offset))
counts_failing start o file offset failed =
    record {
      later = record { doc = failed.later; main = at start.main_faults o.main_faults failed.main; out = at start.out_faults o.out_faults failed.out; note = at start.note_faults o.note_faults failed.note };
      doc = failed.doc;
      main = failed.main;
      out = failed.out;
      note = failed.note;
    } where
      at : (a b : ℕ) → b ≡ a → Later a b
      at a b e = (omega (arith, e), inl e)

-- the sheet's own file wasn't opened

document_none : (docs : List Doc) (name : List ℕ) → place docs name ≡ None → document docs name ≡ None
document_none docs name none = ap (λ (o : Option ℕ). option_and_then (λ (i : ℕ). option_map (λ (doc : Doc). doc.bytes) (slice_get docs i)) o) none

gone_place : (told : Option (List Doc)) (name : List ℕ) → IfSome told (λ docs. place docs name ≡ None) → None ≡ option_and_then (λ docs. place docs name) told
gone_place None name none = refl
gone_place (Some docs) name none = sym none

places_told : (start : Outside) (docs : List Doc) (names : List (List ℕ)) → start.documents ≡ Some docs → places start names ≡ map (place docs) names
places_told start docs names d = ap (λ (told : Option (List Doc)). map (λ (n : List ℕ). option_and_then (λ ds. place ds n) told) names) d

module _ (old new : Outside) (limits : Limits) (name : List ℕ) where
  pub absent_loads_to : MayOpen old name answered.Absent → Opens old name answered.Absent new → LoadsTo old new limits name (Err (outcome.Sheet (record { file = name; code = code.NoDocument; offset = 0 })))
  absent_loads_to may does =
      let missed : List Seen = record { name = name; came = Absent } ∷ [] in
      let done = done_open old new name answered.Absent may does in
      let told : (s : List ℕ) (docs : List Doc) → old.open_ids ≡ Some s → old.documents ≡ Some docs → AreOf (document docs) missed = λ s docs e d. (document_none docs name (some_at _ old.documents docs d may), tt) in
      record {
        answers = (missed, record { told_of = if_told old.open_ids old.documents told; gives = λ docs are reads. own_absent reads limits docs name are.0 });
        acts = (
          Open None 0 ∷ [],
          record {
            between = done.between;
            no_write = done.no_write;
            no_main_read = done.no_main_read;
            no_long_read = done.no_long_read;
            opened = (name ∷ [], ap (λ (d : Option ℕ). d ∷ []) (gone_place old.documents name may), tt);
            opens = if_told old.open_ids old.documents
                (λ s docs e d reads. ap (λ (o : Option ℕ). o ∷ []) (sym (some_at (λ docs. place docs name ≡ None) old.documents docs d may)) ∙ ap (λ (l : Loads). map (place docs) l.opened) (sym (own_absent reads limits (document docs) name (document_none docs name (some_at _ old.documents docs d may)))));
            fails = if_at old.open_ids (λ s e. tt);
            once = if_at old.open_ids (λ s e. tt);
            undecided = opened_undecided limits name old None 0;
            room = tt;
          },
        );
        counts = counts_refused old new (record { file = name; code = code.NoDocument; offset = 0 }) (subst (SameCounts old) (sym does) (record { doc = refl; main = refl; out = refl; note = refl }));
        ids = ap (λ (o : Outside). o.open_ids) does;
        sound = λ depth small. tt;
      }

  pub failed_loads_to : MayOpen old name answered.Failed → Opens old name answered.Failed new → LoadsTo old new limits name (Err (outcome.Host name host_fault.Doc 0))
  failed_loads_to may fault =
      let done = done_open old new name answered.Failed may fault in
      record {
        answers = tt;
        acts = (
          [],
          record {
            between = done.between;
            no_write = done.no_write;
            no_main_read = done.no_main_read;
            no_long_read = done.no_long_read;
            opened = ([], refl, inr refl);
            opens = if_told old.open_ids old.documents (λ s docs e d reads. let own = own_begins reads limits (document docs) name comes_to_one in ([], name ∷ own.0, own.1, refl, inr (own.0, refl, refl)));
            fails = if_at old.open_ids (λ s e. inl refl);
            once = if_at old.open_ids (λ s e. tt);
            undecided = begins_undecided limits name old;
            room = lacks_more old for_id (needed [] [] []) (omega arith) (omega arith) (omega arith) (omega arith) may;
          },
        );
        counts = counts_failing old new name 0 (record {
          doc = fault.count.rose;
          later = (fault.count.no_fall, inr fault.count.is_u64);
          main = ap (λ (o : Outside). o.main_faults) fault.alone;
          out = ap (λ (o : Outside). o.out_faults) fault.alone;
          note = ap (λ (o : Outside). o.note_faults) fault.alone;
        });
        ids = ap (λ (o : Outside). o.open_ids) fault.alone;
        sound = λ depth small. tt;
      }

  -- memory was wanting, and these files were opened
  pub short_loads_to : (acts : List Act) (names : List (List ℕ)) → HaveDone old new acts → opens acts ≡ places old names → OpensFirst old limits name names → IfSome old.open_ids (λ ids. NoneBehindEnd acts) → IsUndecided old limits name acts → SameCounts old new → new.open_ids ≡ old.open_ids → LoadsTo old new limits name (Err outcome.Memory)
  short_loads_to acts names done opened first once undecided same ids =
      record {
        answers = tt;
        acts = (
          acts,
          record {
            between = done.between;
            no_write = done.no_write;
            no_main_read = done.no_main_read;
            no_long_read = done.no_long_read;
            opened = (names, opened, tt);
            opens = if_told old.open_ids old.documents (λ s docs e d reads. let f = told_at _ old.open_ids old.documents s docs e d first reads in (names, f.0, f.1, opened ∙ places_told old docs names d));
            fails = if_at old.open_ids (λ s e. tt);
            once = once;
            undecided = undecided;
            room = tt;
          },
        );
        counts = counts_short old new same;
        ids = ids;
        sound = λ depth small. tt;
      }

-- what each file came to stands with its name, where all were read to their ends

left_apart : (from : ℕ) (front : List Going) (g : Going) (n : ℕ) (files : List Doc) → AreNumbered from front n → g.number < from → left_files g (files_left front files) ≡ files_left front (left_files g files)
left_apart from [] g n files are lt = refl
left_apart from (f ∷ front) g n files are lt =
    let low = are.0 in
    changed_apart (λ (d : Doc). record d { bytes = g.bytes.items }) (λ (d : Doc). record d { bytes = f.bytes.items }) g.number f.number (files_left front files) (λ e. absurd (omega (arith, e, lt, low)))
    ∙ ap (left_files f) (left_apart (suc f.number) front g n files are.1 (omega (arith, lt, low)))

pub names_all_left : (going : List Going) (files : List Doc) → names_of (files_left going files) ≡ names_of files
names_all_left [] files = refl
names_all_left (g ∷ going) files = unchanged_map (λ (d : Doc). d.name) (λ (d : Doc). record d { bytes = g.bytes.items }) (λ d. refl) g.number (files_left going files) ∙ names_all_left going files

with_whole : (from : ℕ) (going : List Going) (n : ℕ) (files : List Doc) → AreNumbered from going n → AllEnded going → seen_of going files ≡ map whole (files_left going files)
with_whole from [] n files are ended = refl
with_whole from (g ∷ going) n files are ended =
    let h : Doc → Doc = λ d. record d { bytes = g.bytes.items } in
    ap (with_going going) (ap (λ (c : Came). changed (as_came c) g.number (map whole files)) (came_whole g ended.0) ∙ sym (changed_map whole h (as_came (Whole g.bytes.items)) (λ d. refl) g.number files))
    ∙ with_whole (suc g.number) going n (left_files g files) are.1 ended.1
    ∙ ap (map whole) (sym (left_apart (suc g.number) going g n files are.1 (omega arith)))

contains_name : (names : List (List ℕ)) (n : ℕ) → n < length names → Contains names (name_at names n)
contains_name [] n lt = absurd (omega (arith, lt))
contains_name (x ∷ names) zero lt = (0, omega arith, refl)
contains_name (x ∷ names) (suc n) lt = let r = contains_name names n (omega (arith, lt)) in let le = r.1 in (suc r.0, omega (arith, le), r.2)

-- All was read, and given back.
module _ (start o p : Outside) (limits : Limits) (name : List ℕ) (going : List Going) (files : List Doc) (x : Standing) (left : ℕ) (missing : List Seen)
    (read : IsReadBy limits name going files x left missing) (over : is_over x.progress ≡ true) (numbers : AreNumbered 0 going (length files)) (acts : List Act) (within : IsWithin start o going files missing acts) (asked : IsUndecided start limits name acts)
    (closes : List Act) (closing : AreCloses closes) (done : HaveDone o p closes) (counts : SameCounts o p) (ids : p.open_ids ≡ start.open_ids) where
  all_done : HaveDone start p (acts ++ closes)
  all_done = done_then start o p acts closes within.done done

  all_opened : opens (acts ++ closes) ≡ places start (names_of files ++ names_in missing)
  all_opened = opens_more acts closes ∙ ap (λ (l : List (Option ℕ)). opens acts ++ l) (closes_open_none closes closing) ∙ append_none (opens acts) ∙ within.opened

  all_once : IfSome start.open_ids (λ ids. NoneBehindEnd (acts ++ closes))
  all_once = if_some start.open_ids (λ ids once. none_quiet acts closes once.none_behind (quiet_closes closes closing)) within.once

  all_counts : SameCounts start p
  all_counts = counts_then start o p within.counts counts

  names_are : names_in (seen_of going files ++ missing) ≡ names_of files ++ names_in missing
  names_are = map_append (λ (f : Seen). f.name) (seen_of going files) missing ∙ ap (λ (l : List (List ℕ)). l ++ names_in missing) (names_seen going files)

  told_seen : (s : List ℕ) (docs : List Doc) → start.open_ids ≡ Some s → start.documents ≡ Some docs → AreOf (document docs) (seen_of going files ++ missing)
  told_seen s docs e d = (told_at (λ docs. AreOf (document docs) (seen_of going files ++ missing) × HasRest docs o (names_of files) going) start.open_ids start.documents s docs e d within.told).0

  pub fault_loads_to : (fault : SheetFault) → EndsInFault x fault → LoadsTo start p limits name (Err (outcome.Sheet fault))
  fault_loads_to fault ends =
      let seen = seen_of going files ++ missing in
      let gives = λ (docs : Documents) (are : AreOf docs seen) (reads : Reads). (read.decides over docs are).fault fault ends reads ∙ ap (λ (ns : List (List ℕ)). loads ns (Err fault)) (sym names_are) in
      record {
        answers = (seen, record { told_of = if_told start.open_ids start.documents told_seen; gives = gives });
        acts = (
          acts ++ closes,
          record {
            between = all_done.between;
            no_write = all_done.no_write;
            no_main_read = all_done.no_main_read;
            no_long_read = all_done.no_long_read;
            opened = (names_of files ++ names_in missing, all_opened, tt);
            opens = if_told start.open_ids start.documents
                (λ s docs e d reads. all_opened ∙ places_told start docs (names_of files ++ names_in missing) d ∙ ap (map (place docs)) (sym names_are) ∙ ap (λ (l : Loads). map (place docs) l.opened) (sym (gives (document docs) (told_seen s docs e d) reads)));
            fails = if_at start.open_ids (λ s e. tt);
            once = all_once;
            undecided = stays_closed limits name start acts closes closing asked;
            room = tt;
          },
        );
        counts = counts_refused start p fault all_counts;
        ids = ids;
        sound = λ depth small. tt;
      }

  pub sheet_loads_to : Reads → (loaded : Loaded) → GivesSheet x loaded.sheet → loaded.files ≡ files_left going files → LoadsTo start p limits name (Ok loaded)
  sheet_loads_to any loaded gives_it files_are =
      let whole_too = read.whole over any loaded.sheet gives_it in
      let seen_is : seen_of going files ++ missing ≡ map whole loaded.files =
      ap (λ (l : List Seen). seen_of going files ++ l) whole_too.1 ∙ append_none (seen_of going files) ∙ with_whole 0 going (length files) files numbers whole_too.0 ∙ ap (map whole) (sym files_are) in
      let names_same : names_of files ++ names_in missing ≡ names_in (map whole loaded.files) = sym names_are ∙ ap names_in seen_is in
      let told = λ (s : List ℕ) (docs : List Doc) (e : start.open_ids ≡ Some s) (d : start.documents ≡ Some docs). subst (AreOf (document docs)) seen_is (told_seen s docs e d) in
      let gives = λ (docs : Documents) (are : AreOf docs (map whole loaded.files)) (reads : Reads).
      (read.decides over docs (subst (AreOf docs) (sym seen_is) are)).sheet loaded.sheet gives_it reads ∙ ap (λ (ns : List (List ℕ)). loads ns (Ok loaded.sheet)) names_same in
      record {
        answers = record { told_of = if_told start.open_ids start.documents told; gives = gives };
        acts = (
          acts ++ closes,
          record {
            between = all_done.between;
            no_write = all_done.no_write;
            no_main_read = all_done.no_main_read;
            no_long_read = all_done.no_long_read;
            opened = (names_of files ++ names_in missing, all_opened, names_same ∙ names_whole loaded.files);
            opens = if_told start.open_ids start.documents
                (λ s docs e d reads. all_opened ∙ places_told start docs (names_of files ++ names_in missing) d ∙ ap (map (place docs)) names_same ∙ ap (λ (l : Loads). map (place docs) l.opened) (sym (gives (document docs) (told s docs e d) reads)));
            fails = if_at start.open_ids (λ s e. tt);
            once = all_once;
            undecided = stays_closed limits name start acts closes closing asked;
            room = tt;
          },
        );
        counts = counts_are start p loaded all_counts;
        ids = ids;
        sound = read.sound over any loaded.sheet gives_it;
      }

-- Reading halted, and all was given back.
module _ (start o p : Outside) (limits : Limits) (name : List ℕ) (acts closes : List Act) (names : List (List ℕ)) (before : HaveDone start o acts) (opened : opens acts ≡ places start names) (once : IfSome start.open_ids (λ ids. NoneBehindEnd acts)) (asked : IsUndecided start limits name acts)
    (closing : AreCloses closes) (done : HaveDone o p closes) (ids : p.open_ids ≡ start.open_ids) (same : SameCounts o p) where
  halt_done : HaveDone start p (acts ++ closes)
  halt_done = done_then start o p acts closes before done

  halt_opened : opens (acts ++ closes) ≡ places start names
  halt_opened = opens_more acts closes ∙ ap (λ (l : List (Option ℕ)). opens acts ++ l) (closes_open_none closes closing) ∙ append_none (opens acts) ∙ opened

  halt_once : IfSome start.open_ids (λ ids. NoneBehindEnd (acts ++ closes))
  halt_once = if_some start.open_ids (λ ids behind. none_quiet acts closes behind (quiet_closes closes closing)) once

  -- want of memory
  pub memory_loads_to : OpensFirst start limits name names → SameCounts start o → LoadsTo start p limits name (Err outcome.Memory)
  memory_loads_to first counts = short_loads_to start p limits name (acts ++ closes) names halt_done halt_opened first halt_once (stays_closed limits name start acts closes closing asked) (counts_then start o p counts same) ids

  -- where a host tells its documents
  abbrev FailsThere : (file : List ℕ) (offset : ℕ) → List Doc → Type 0
  FailsThere file offset docs = (reads : Reads) → (rest : List (List ℕ)) × (names ++ rest ≡ (load reads limits (document docs) name).opened) × FailsInOrder (place docs) names rest file offset (acts ++ closes)

  fails_to : (file : List ℕ) (offset : ℕ) → HasFailed start o → LacksRoom start (needed acts [] []) → NamesFile names (Err (outcome.Host file host_fault.Doc offset)) → IfSome (documents_told start) (FailsThere file offset) → IfSome start.open_ids (λ ids. FailsAfter start.documents (Err (outcome.Host file host_fault.Doc offset)) (acts ++ closes)) → LoadsTo start p limits name (Err (outcome.Host file host_fault.Doc offset))
  fails_to file offset failed lacks in_names there after =
      record {
        answers = tt;
        acts = (
          acts ++ closes,
          record {
            between = halt_done.between;
            no_write = halt_done.no_write;
            no_main_read = halt_done.no_main_read;
            no_long_read = halt_done.no_long_read;
            opened = (names, halt_opened, in_names);
            opens = if_told start.open_ids start.documents
                (λ s docs e d reads. let t = told_at (FailsThere file offset) start.open_ids start.documents s docs e d there reads in (names, t.0, t.1, halt_opened ∙ places_told start docs names d, t.2));
            fails = after;
            once = halt_once;
            undecided = stays_closed limits name start acts closes closing asked;
            room = needs_more start acts closes [] [] [] [] lacks;
          },
        );
        counts = counts_failing start p file offset (failed_then start o p failed same);
        ids = ids;
        sound = λ depth small. tt;
      }

  -- a file that couldn't be opened
  pub unopened_loads_to : (file : List ℕ) → OpensFirst start limits name (names ++ file ∷ []) → HasFailed start o → LacksRoom start (needed acts [] []) → LoadsTo start p limits name (Err (outcome.Host file host_fault.Doc 0))
  unopened_loads_to file first failed lacks =
      fails_to file 0 failed lacks (inr refl)
      (if_told start.open_ids start.documents
      (λ s docs e d reads.
      let f = told_at _ start.open_ids start.documents s docs e d first reads in
      (file ∷ f.0, sym (append_assoc names (file ∷ []) f.0) ∙ f.1, inr (f.0, refl, refl))))
      (if_at start.open_ids (λ s e. inl refl))

  -- one that couldn't be read
  pub unread_loads_to : (id number offset : ℕ) → number < length names → OpensFirst start limits name names → HasFailed start o → LacksRoom start (needed acts [] [])
      → IfSome start.open_ids (λ ids. (given_for id acts ≡ Some (place_told start (name_at names number))) × (read_since_open id acts ≡ offset)) → LoadsTo start p limits name (Err (outcome.Host (name_at names number) host_fault.Doc offset))
  unread_loads_to id number offset within first failed lacks given =
      let file = name_at names number in
      let after : (s : List ℕ) → start.open_ids ≡ Some s → (given_for id (acts ++ closes) ≡ Some (place_told start file)) × (offset ≡ read_since_open id (acts ++ closes)) =
      λ s e.
      let g = some_at _ start.open_ids s e given in
      (given_more None id acts closes ∙ closes_give_none (given_for id acts) id closes closing ∙ g.0, sym (read_more 0 id acts closes ∙ closes_read_none (read_since_open id acts) id closes closing ∙ g.1)) in
      fails_to file offset failed lacks (inl (contains_name names number within))
      (if_told start.open_ids start.documents
      (λ s docs e d reads.
      let f = told_at _ start.open_ids start.documents s docs e d first reads in
      let g = after s e in
      (f.0, f.1, inl (contains_name names number within, (id, g.0 ∙ ap (λ (told : Option (List Doc)). Some (option_and_then (λ ds. place ds file) told)) d, g.1)))))
      (if_at start.open_ids (λ s e. let g = after s e in inr (id, g.0, g.1)))
