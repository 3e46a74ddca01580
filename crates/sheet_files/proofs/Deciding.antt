-- That a sheet isn't decided by what was read of its innermost file, where its loader isn't over and that file's reader wants more bytes.
use Rattle.std.proofs.Common.{◌≡◌, ℕ, zero, suc, ◌<◌, ◌≤◌, Bool, true, false, List, [], ◌∷◌, ◌++◌, map, length, take, slice_get, Option, Some, None, refl, sym, ap, subst, ◌∙◌, arith, append_assoc, length-append}
use Rattle.std.proofs.lemmas.Bool.{lt-leb}
use Rattle.std.specs.Option.{option_and_then, option_map, option_map_or}
use Rattle.std.specs.Prelude.{if◌then◌else◌}
use Rattle.stx_base.specs.Course.{Over}
use Rattle.stx_base.specs.declared.fault.SheetCode.TheVariants as code
use Rattle.stx_base.specs.declared.limits.Limits.{Limits}
use Rattle.stx_host.specs.declared.act.Doc.{Doc}
use Rattle.xml_events.specs.Document.{doc}
use Rattle.xml_events.specs.Source.{future}
use Rattle.xml_events.specs.Telling.{pulled}
use Rattle.xml_events.specs.Tree.{Forest}
use Rattle.xml_events.specs.declared.event.Pull.TheVariants as pull
use Rattle.sheet_loader.specs.Files.{Documents, Opened, changed, file_of, share}
use Rattle.sheet_loader.specs.Laws.{ComesToOne}
use Rattle.sheet_loader.specs.Load.{outcome}
use Rattle.sheet_loader.specs.Loaders.{Standing, is_over, wanted_in}
use Rattle.sheet_loader.specs.Reading.{File, Refused}
use Rattle.sheet_loader.specs.Resuming.{CutsList, TakesElement}
use Rattle.sheet_loader.specs.Values.{Reads}
use Rattle.sheet_loader.specs.Versions.{language, version_of}
use Rattle.sheet_files.specs.Frames.{AreCut, FitAll, Frame, Part, as_opened, cut_file, files_cut, opened_of, parts_of, shares, whole_file}
use Rattle.sheet_files.specs.Held.{AreNumbered, names_of, seen_of}
use Rattle.sheet_files.specs.Opened.{AreOf}
use Rattle.sheet_files.specs.Reading.{AreRests, IsReadBy, Shows, ShowsFiles, doc_of}
use Rattle.sheet_files.specs.Undecided.{IsOpenYet, begun, files_at, read_to}
use Rattle.sheet_files.specs.declared.going.Going.{Going}
use Rattle.sheet_files.proofs.Following.{may_be_read}
use Rattle.sheet_files.proofs.Giving.{around as around_before, before, bytes as bytes_before, old}
use Rattle.sheet_files.proofs.Handing.{short_ends}
use Rattle.sheet_files.proofs.Opening.{append_none, changed_at, files_shared, length_map, opened_with, slice_at}
use Rattle.sheet_files.proofs.Resting.{HaveRests, files_counted, no_rests, parts_are, rests_known, shown_numbers}
use Rattle.sheet_files.proofs.Seeing.{known_of, no_snoc, snoc_same}
use Rattle.sheet_files.proofs.Turning.{Last, last_with, shown_by}

take_first : (xs ys : List ℕ) (n : ℕ) → n ≡ length xs → take n (xs ++ ys) ≡ xs
take_first [] ys zero e = refl
take_first [] ys (suc n) e = absurd (omega (arith, e))
take_first (x ∷ xs) ys zero e = absurd (omega (arith, e))
take_first (x ∷ xs) ys (suc n) e = ap (λ (l : List ℕ). x ∷ l) (take_first xs ys n (omega (arith, e)))

-- a file that has more than may be read has begun
cut_begun : (limits : Limits) (bytes : List ℕ) (most : ℕ) → most < length bytes → cut_file limits bytes most ≡ begun limits (take most bytes) most
cut_begun limits bytes most lt = ap file (lt-leb (length bytes) most lt) where
  nodes : Bool → Forest
  nodes b = if b then doc limits false bytes true else doc limits false (take most bytes) false

  file : Bool → File
  file b = record { version = version_of language (nodes b); nodes = nodes b; limit = if b then None else Some most }

-- the same files in the same order

front_same : (a b x y : List Doc) → length a ≡ length b → a ++ x ≡ b ++ y → (a ≡ b) × (x ≡ y)
front_same [] [] x y len e = (refl, e)
front_same [] (q ∷ b) x y len e = absurd (omega (arith, len))
front_same (p ∷ a) [] x y len e = absurd (omega (arith, len))
front_same (p ∷ a) (q ∷ b) x y len e =
    let first : p ≡ q = cc in
    let rest : a ++ x ≡ b ++ y = cc in
    let r = front_same a b x y (omega (arith, len)) rest in
    let front : a ≡ b = r.0 in (ap (λ (d : Doc). d ∷ a) first ∙ ap (λ (l : List Doc). q ∷ l) front, r.1)

abbrev whole_doc : Limits → Doc → Option File
whole_doc limits d = Some (cut_file limits d.bytes (length d.bytes))

by_docs : (limits : Limits) (parts : List Part) → map (whole_file limits) parts ≡ map (whole_doc limits) (map doc_of parts)
by_docs limits [] = refl
by_docs limits (p ∷ parts) = ap (λ (l : List (Option File)). whole_file limits p ∷ l) (by_docs limits parts)

done_same : (limits : Limits) (a b : List Part) → map doc_of a ≡ map doc_of b → map (whole_file limits) a ≡ map (whole_file limits) b
done_same limits a b e = by_docs limits a ∙ ap (map (whole_doc limits)) e ∙ sym (by_docs limits b)

tail_same : (x y : Doc) (a b : List Doc) → x ∷ a ≡ y ∷ b → a ≡ b
tail_same x y a b e = cc

-- frames that show the same files
module _ (limits : Limits) (rest : ℕ → List ℕ) where
  cuts_same : (front : List Going) (files : List Doc) (a b : List Frame) → Shows rest front a → Shows rest front b → ShowsFiles files a → ShowsFiles files b
      → (cuts : List ℕ) → AreCut a cuts → AreCut b cuts × (files_cut limits b cuts ≡ files_cut limits a cuts)
  cuts_same front files [] [] sa sb fa fb [] cut = (tt, refl)
  cuts_same front files [] [] sa sb fa fb (m ∷ cuts) cut = absurd cut
  cuts_same front files [] (h ∷ b) sa sb fa fb cuts cut = absurd (no_snoc sb.0 sb.1 (sym sb.2 ∙ sa))
  cuts_same front files (f ∷ a) [] sa sb fa fb cuts cut = absurd (no_snoc sa.0 sa.1 (sym sa.2 ∙ sb))
  cuts_same front files (f ∷ a) (h ∷ b) sa sb fa fb [] cut = absurd cut
  cuts_same front files (f ∷ a) (h ∷ b) sa sb fa fb (m ∷ cuts) cut =
      let same = snoc_same sb.0 sa.0 sb.1 sa.1 (sym sb.2 ∙ sa.2) in
      let ca = files_counted fa.0 a fa.4 in
      let cb = files_counted fb.0 b fb.4 in
      let number = ap (λ (g : Going). g.number) same.1 in
      let na = sa.3.number in
      let nb = sb.3.number in
      let parts = front_same fb.0 fa.0 (fb.1 ∷ map doc_of h.done) (fa.1 ∷ map doc_of f.done) (omega (arith, ca, cb, number, na, nb)) (sym fb.2 ∙ fa.2) in
      let next = cuts_same sa.0 fa.0 a b sa.4 (subst (λ (l : List Going). Shows rest l b) same.0 sb.4) fa.4 (subst (λ (l : List Doc). ShowsFiles l b) parts.0 fb.4) cuts cut.1 in
      let taken = ap (λ (g : Going). g.taken) same.1 in
      let ta = sa.3.taken in
      let tb = sb.3.taken in
      let le = cut.0 in
      let bytes : h.part.bytes ≡ f.part.bytes = sb.3.bytes ∙ ap (λ (g : Going). g.bytes.items ++ rest g.number) same.1 ∙ sym sa.3.bytes in (
        (omega (arith, taken, ta, tb, le), next.0),
        ap (λ (l : List (Option File)). l ++ Some (cut_file limits h.part.bytes m) ∷ map (whole_file limits) h.done) next.1
            ∙ ap (λ (bs : List ℕ). files_cut limits a cuts ++ Some (cut_file limits bs m) ∷ map (whole_file limits) h.done) bytes
            ∙ ap (λ (l : List (Option File)). files_cut limits a cuts ++ Some (cut_file limits f.part.bytes m) ∷ l) (done_same limits h.done f.done (tail_same fb.1 fa.1 (map doc_of h.done) (map doc_of f.done) parts.1)),
      )

-- the files as the definition has them, where so much of the innermost was read
module _ (reads : Reads) (limits : Limits) (docs : Documents) (name : List ℕ) (f : Frame) (outer : List Frame) (fit : FitAll limits (f ∷ outer)) where
  abbrev file : Opened → Option File
  file = file_of language reads limits docs name

  length_outer : length (parts_of outer) ≡ length (opened_of outer)
  length_outer = sym (length_map as_opened (parts_of outer))

  here : slice_get (opened_of (f ∷ outer)) (length (parts_of outer)) ≡ Some (as_opened f.part)
  here =
      ap (λ (l : List Opened). slice_get l (length (parts_of outer))) (opened_with f outer) ∙ ap (λ (k : ℕ). slice_get (opened_of outer ++ as_opened f.part ∷ map as_opened f.done) k) length_outer
      ∙ slice_at (opened_of outer) (as_opened f.part) (map as_opened f.done)

  read_there : (read : ℕ) → read_to reads limits docs name (length (parts_of outer)) read (opened_of (f ∷ outer)) ≡ files_cut limits outer (shares limits outer) ++ Some (begun limits (take read f.part.bytes) read) ∷ map (whole_file limits) f.done
  read_there read =
      let n = length (parts_of outer) in
      let begins : Opened → Option File = λ o. option_map (λ bytes. begun limits (take read bytes) read) o.bytes in
      let front = files_cut limits outer (shares limits outer) in
      let size : n ≡ length front = length_outer ∙ sym (length_map file (opened_of outer)) ∙ ap length (files_shared reads limits docs name outer fit.1) in
      ap (λ (o : Option Opened). changed (λ x. option_and_then begins o) n (map file (opened_of (f ∷ outer)))) here
      ∙ ap (λ (l : List (Option File)). changed (λ x. begins (as_opened f.part)) n l) (files_shared reads limits docs name (f ∷ outer) fit)
      ∙ ap (λ (k : ℕ). changed (λ x. begins (as_opened f.part)) k (files_cut limits (f ∷ outer) (shares limits (f ∷ outer)))) size
      ∙ changed_at (λ x. begins (as_opened f.part)) front (Some (cut_file limits f.part.bytes (share limits (as_opened f.part)))) (map (whole_file limits) f.done)

module _ (limits : Limits) (name : List ℕ) (one : ComesToOne) (cuts_end : (reads : Reads) (files : List (Option File)) → CutsList reads files) (elements : (reads : Reads) (files : List (Option File)) → TakesElement reads files)
    (front : List Going) (g : Going) (files : List Doc) (x : Standing) (left : ℕ)
    (read : IsReadBy limits name (front ++ g ∷ []) files x left []) (on : is_over x.progress ≡ false) (none : wanted_in x.progress ≡ None)
    (wants : pulled (future g.reader [] false) ≡ pull.Need) (not_ended : g.reader.lexer.ended ≡ false) (not_over : g.reader.over ≡ None) (known : g.reader.known ≡ []) (all : length g.bytes.items ≤ g.taken)
    (docs : Documents) (are : AreOf docs (seen_of (front ++ g ∷ []) files)) where
  abbrev going : List Going
  going = front ++ g ∷ []

  numbers : AreNumbered 0 going (length files)
  numbers = let s = read.follows on docs (λ n. []) (no_rests going) in shown_numbers (λ n. []) going files s.frames s.shows s.in_files

  -- what is still to come, by the documents
  rests : (rest : ℕ → List ℕ) × AreRests rest going × HaveRests docs (names_of files) rest going
  rests = rests_known docs (names_of files) 0 going (length files) numbers (known_of docs going files numbers are)

  -- the files by the documents
  a : Last limits docs name front g files x left rests.0
  a = last_with limits name one front g files x left read on none docs rests.0 rests.1

  abbrev more : ℕ → List ℕ
  more = old limits name one cuts_end elements front g files x left read on none wants not_ended not_over known (0 ∷ []) docs rests.0 g refl rests.1

  -- where the innermost one has a byte more
  b : Last limits docs name front g files x left more
  b = before limits name one cuts_end elements front g files x left read on none wants not_ended not_over known (0 ∷ []) docs rests.0 g refl rests.1

  shows_b : Shows rests.0 front b.outer
  unfolding b
  shows_b = around_before limits name one cuts_end elements front g files x left read on none wants not_ended not_over known (0 ∷ []) docs rests.0 g refl rests.1

  bytes_b : b.part.bytes ≡ (g.bytes.items ++ 0 ∷ []) ++ rests.0 g.number
  unfolding b
  bytes_b = bytes_before limits name one cuts_end elements front g files x left read on none wants not_ended not_over known (0 ∷ []) docs rests.0 g refl rests.1

  abbrev fa : Frame
  fa = shown_by g a.part a.lists a.done

  abbrev fb : Frame
  fb = shown_by g b.part b.lists b.done

  taken_all : g.taken ≡ length g.bytes.items
  taken_all =
      let s = last_with limits name one front g files x left read on none docs (λ n. []) (no_rests going) in
      let within = (s.follows.going on).0.within in
      let len = ap length (s.bytes ∙ append_none g.bytes.items) in
      omega (arith, within, len, all)

  opened_is : (reads : Reads) → files_at reads limits docs name (length files) ≡ opened_of (fa ∷ a.outer)
  opened_is reads =
      ap (files_at reads limits docs name) (files_counted files (fa ∷ a.outer) a.in_files)
      ∙ a.follows.chain (parts_are docs rests.0 going files (fa ∷ a.outer) (front, g, refl, record { number = a.number; source = refl; taken = refl; bytes = a.bytes }, a.around) a.in_files are rests.2) reads

  cut_a : AreCut (fa ∷ a.outer) (shares limits (fa ∷ a.outer))
  cut_a = may_be_read limits docs name fa a.outer x left a.follows

  abbrev cuts : List ℕ
  cuts = shares limits a.outer

  same_files : (b.in_files.0 ≡ a.in_files.0) × (b.in_files.1 ∷ map doc_of b.done ≡ a.in_files.1 ∷ map doc_of a.done)
  same_files =
      let ca = files_counted a.in_files.0 a.outer a.in_files.4 in
      let cb = files_counted b.in_files.0 b.outer b.in_files.4 in
      let na = a.number in
      let nb = b.number in
      front_same b.in_files.0 a.in_files.0 (b.in_files.1 ∷ map doc_of b.done) (a.in_files.1 ∷ map doc_of a.done) (omega (arith, ca, cb, na, nb)) (sym b.in_files.2 ∙ a.in_files.2)

  same_cuts : AreCut b.outer cuts × (files_cut limits b.outer cuts ≡ files_cut limits a.outer cuts)
  same_cuts = cuts_same limits rests.0 front a.in_files.0 a.outer b.outer a.around shows_b a.in_files.4 (subst (λ (l : List Doc). ShowsFiles l b.outer) same_files.0 b.in_files.4) cuts cut_a.1

  within_b : g.taken < length b.part.bytes
  within_b =
      let len = ap length bytes_b ∙ length-append (g.bytes.items ++ 0 ∷ []) (rests.0 g.number) in
      let one_more = length-append g.bytes.items (0 ∷ []) in
      let all = taken_all in
      omega (arith, len, one_more, all)

  first_bytes : take g.taken b.part.bytes ≡ take g.taken a.part.bytes
  first_bytes =
      ap (take g.taken) (bytes_b ∙ append_assoc g.bytes.items (0 ∷ []) (rests.0 g.number)) ∙ take_first g.bytes.items (0 ∷ rests.0 g.number) g.taken taken_all
      ∙ sym (ap (take g.taken) a.bytes ∙ take_first g.bytes.items (rests.0 g.number) g.taken taken_all)

  cut_is : (reads : Reads) → files_cut limits (fb ∷ b.outer) (g.taken ∷ cuts) ≡ read_to reads limits docs name (length (parts_of a.outer)) g.taken (opened_of (fa ∷ a.outer))
  cut_is reads =
      let tail = Some (cut_file limits b.part.bytes g.taken) ∷ map (whole_file limits) b.done in
      ap (λ (l : List (Option File)). l ++ tail) same_cuts.1
      ∙ ap (λ (f : File). files_cut limits a.outer cuts ++ Some f ∷ map (whole_file limits) b.done)
      (cut_begun limits b.part.bytes g.taken within_b ∙ ap (λ (l : List ℕ). begun limits l g.taken) first_bytes)
      ∙ ap (λ (l : List (Option File)). files_cut limits a.outer cuts ++ Some (begun limits (take g.taken a.part.bytes) g.taken) ∷ l)
      (done_same limits b.done a.done (tail_same b.in_files.1 a.in_files.1 (map doc_of b.done) (map doc_of a.done) same_files.1))
      ∙ sym (read_there reads limits docs name fa a.outer a.follows.fit g.taken)

  numbers_same : length (parts_of b.outer) ≡ length (parts_of a.outer)
  numbers_same = sym b.number ∙ a.number

  goes_on_there : (reads : Reads) → outcome reads name (read_to reads limits docs name (length (parts_of a.outer)) g.taken (opened_of (fa ∷ a.outer))) ≡ Over x.names (Refused (record { file = length (parts_of a.outer); offset = g.taken }) code.SheetTooLarge)
  goes_on_there reads =
      let files = files_cut limits (fb ∷ b.outer) (g.taken ∷ cuts) in
      let ends = short_ends limits docs name cuts_end elements fb b.outer x left b.follows on none g.reader (wants, not_ended) (λ more ended. refl) (not_over, known) refl within_b reads cuts same_cuts.0 [] in
      ap (outcome reads name) (sym (cut_is reads) ∙ sym (append_none files))
      ∙ sym ((one reads name (files ++ [])).1 (Over x.names (Refused (record { file = length (parts_of b.outer); offset = g.taken }) code.SheetTooLarge)) ends)
      ∙ ap (λ (n : ℕ). Over x.names (Refused (record { file = n; offset = g.taken }) code.SheetTooLarge)) numbers_same

  -- the sheet goes on behind what was read
  pub still_open : (reads : Reads) → IsOpenYet reads limits docs name (files_at reads limits docs name (length files)) g.number (length g.bytes.items)
  still_open reads =
      let opened = opened_of (fa ∷ a.outer) in
      let here : IsOpenYet reads limits docs name opened (length (parts_of a.outer)) g.taken =
      record {
        within = subst (λ (o : Option Opened). g.taken ≤ option_map_or (share limits) o 0) (sym (here reads limits docs name fa a.outer a.follows.fit)) cut_a.0;
        names = x.names;
        goes_on = goes_on_there reads;
      } in
      subst (λ (l : List Opened). IsOpenYet reads limits docs name l g.number (length g.bytes.items)) (sym (opened_is reads))
      (subst (λ (n : ℕ). IsOpenYet reads limits docs name opened n (length g.bytes.items)) (sym a.number) (subst (λ (n : ℕ). IsOpenYet reads limits docs name opened (length (parts_of a.outer)) n) taken_all here))
