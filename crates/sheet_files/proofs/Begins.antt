-- The files that a sheet's files were known to want are those that it opens first.
use Rattle.std.proofs.Common.{◌≡◌, ℕ, zero, suc, ◌+◌, ◌<◌, ◌≤◌, inl, inr, List, [], ◌∷◌, ◌++◌, map, length, slice_get, Option, Some, None, refl, sym, ap, subst, ◌∙◌, arith, append_assoc, length-append}
use Rattle.stx_base.proofs.Course.{ends_said, says_says}
use Rattle.stx_base.specs.Course.{Halt, Ask, Say, says, and_then, Answer, Given, Over, Unknown, Ends, Begins}
use Rattle.stx_base.specs.declared.fault.SheetCode.TheVariants as code
use Rattle.stx_base.specs.declared.limits.Limits.{Limits}
use Rattle.xml_events.specs.Tree.{Future}
use Rattle.sheet_loader.specs.Files.{Documents, Loads, Opened, by_answer, file_of, known_at, load, load_from, seen, size_of, with_file}
use Rattle.sheet_loader.specs.Laws.{Comes, ComesToOne}
use Rattle.sheet_loader.specs.Levels.{Level, Place_in, What, entered, place_in, tag_of, version_around}
use Rattle.sheet_loader.specs.Lists.{IsInElement, lists_in}
use Rattle.sheet_loader.specs.Load.{at_start, nothing, outcome, sheet_of, whole}
use Rattle.sheet_loader.specs.Loaders.{Standing}
use Rattle.sheet_loader.specs.Making.{nameless}
use Rattle.sheet_loader.specs.Read.{code_of_job, file_given}
use Rattle.sheet_loader.specs.Reading.{Does, Ending, File, Listed, Loading, Nodes, Refused, Unfinished, Wants}
use Rattle.sheet_loader.specs.References.{first_lost}
use Rattle.sheet_loader.specs.Remaining.{Stage, Wants_file, file_then, remaining, version_by}
use Rattle.sheet_loader.specs.Resuming.{Of_file, SameAnswer, continue}
use Rattle.sheet_loader.specs.Values.{Reads}
use Rattle.sheet_loader.specs.Versions.{Version, language}
use Rattle.sheet_files.specs.Following.{AllTaken, AreParts, Follows, Include, WantNoFewer}
use Rattle.sheet_files.specs.Frames.{AreCut, FitAll, Frame, Part, files_cut, grow, include_known, lists_cut, numbers_of, opened_of, parts_of, shares}
use Rattle.sheet_files.proofs.Alike.{Alike, IsOpen, Stays, TakenAt, grown_stays, known_enough, like_cut, like_files, like_fit, like_names, more_stays, names_opened, own_numbers, seen_stays}
use Rattle.sheet_files.proofs.Courses.{answer_then, equal_answer, names_first, said_gives}
use Rattle.sheet_files.proofs.Ending.{names_by}
use Rattle.sheet_files.proofs.Including.{count_grown, cut_grown, enough, fewer_grown, files_grown, files_in, fit_grown, goes, numbers, one_more, opens_too, parts_grown}
use Rattle.sheet_files.proofs.Opening.{files_shared, length_map, map_append}
use Rattle.sheet_files.proofs.Places.{numbers_in}
use Rattle.sheet_files.proofs.Reaching.{Each, wanted_fine}

-- The files come to what says this first, and then, if it wants a file, wants it for files that are being read or were opened later.
pub record SaysFirst (reads : Reads) (name : List ℕ) (a : List Frame) (said : List (List ℕ)) (files : List (Option File)) : Type 0 where
  pub rest : Does Listed
  pub same : SameAnswer reads files (sheet_of reads name files) (says said rest)
  pub fine : (ps : List (List ℕ)) (numbers wanted : List ℕ) → Ends (code_of_job reads files) rest ps (Wants numbers wanted) → Each (IsOpen a) numbers

-- Files that are being read say this first, however far they may be read, so long as they may be read so far as they were.
module _ (limits : Limits) (docs : Documents) (name : List ℕ) (one : ComesToOne) (a : List Frame) (names extra : List (List ℕ))
    (fewer : WantNoFewer limits name a) (fit : FitAll limits a) (short : AllTaken limits a) (named : map (λ (p : Part). p.name) (parts_of a) ≡ names) (reads : Reads)
    (step : (cuts : List ℕ) → AreCut a cuts → (others : List (Option File)) → length extra ≤ length others → SaysFirst reads name a (names ++ extra) (files_cut limits a cuts ++ others)) where
  wanted_stays : (opened : List Opened) (ns wanted : List ℕ) → Each (IsOpen a) ns → Stays a extra opened → Stays a extra (with_file language reads limits docs name opened ns wanted)
  wanted_stays opened [] wanted each s = more_stays a extra opened _ s
  wanted_stays opened (n ∷ ns) wanted each s =
      let known = known_at language reads limits docs name opened (n ∷ ns) wanted n in
      let taken : TakenAt a n known =
      subst (λ (l : List Opened). TakenAt a n (known_at language reads limits docs name l (n ∷ ns) wanted n)) (sym s.is) (known_enough reads limits docs name one a s.frames s.others s.like fewer fit short n ns wanted) in
      let before = seen (n ∷ ns) known opened in
      more_stays a extra _ _ (grown_stays a extra (n ∷ ns) (size_of (docs wanted)) before each (seen_stays a extra n ns known opened each.0 taken s))

  opened_first : (opened : List Opened) → Stays a extra opened → Begins (names ++ extra) (names_opened opened)
  opened_first opened s =
      let first : names_opened (opened_of s.frames) ≡ names = names_by (parts_of s.frames) ∙ like_names a s.frames s.like ∙ named in
      let all : names_opened opened ≡ names ++ names_opened s.others =
      ap names_opened s.is ∙ map_append (λ (o : Opened). o.name) (opened_of s.frames) s.others ∙ ap (λ (l : List (List ℕ)). l ++ names_opened s.others) first in
      (s.names.0, append_assoc names extra s.names.0 ∙ ap (λ (l : List (List ℕ)). names ++ l) s.names.1 ∙ sym all)

  others_fit : (opened : List Opened) (s : Stays a extra opened) → length extra ≤ length (map (file_of language reads limits docs name) s.others)
  others_fit opened s =
      let x = ap (λ (l : List (List ℕ)). length l) s.names.1 in
      let y = length-append extra s.names.0 in
      let z = length_map (λ (o : Opened). o.name) s.others in
      let w = length_map (file_of language reads limits docs name) s.others in
      omega (arith, x, y, z, w)

  by : (most : ℕ) (opened : List Opened) (files : List (Option File)) → SaysFirst reads name a (names ++ extra) files → Stays a extra opened
      → ((more : List Opened) → Stays a extra more → Begins (names ++ extra) (load_from language reads limits docs name most more).opened)
      → (x : Answer Listed (List ℕ) Ending) → outcome reads name files ≡ x → Comes reads name files x → Begins (names ++ extra) (by_answer language reads limits docs name (load_from language reads limits docs name most) opened x).opened
  by most opened files first s later (Given ns r) e comes = let c = said_gives (names ++ extra) first.rest (first.same.to ns r comes) in (c.0, c.2)
  by most opened files first s later (Over ns (Refused at why)) e comes = let c = names_first reads files name (names ++ extra) first.rest ns (Refused at why) first.same comes in (c.0, c.2)
  by most opened files first s later (Over ns (Wants numbers wanted)) e comes =
      let c = names_first reads files name (names ++ extra) first.rest ns (Wants numbers wanted) first.same comes in
      later (with_file language reads limits docs name opened numbers wanted) (wanted_stays opened numbers wanted (first.fine c.0 numbers wanted c.1) s)
  by most opened files first s later (Over ns Unfinished) e comes = let c = names_first reads files name (names ++ extra) first.rest ns Unfinished first.same comes in (c.0, c.2)
  by most opened files first s later (Unknown ns) e comes = absurd comes

  -- their names come first among all that are opened
  pub begins_from : (most : ℕ) (opened : List Opened) → Stays a extra opened → Begins (names ++ extra) (load_from language reads limits docs name most opened).opened
  begins_from zero opened s = opened_first opened s
  begins_from (suc most) opened s =
      let file = file_of language reads limits docs name in
      let cuts = shares limits s.frames in
      let others = map file s.others in
      let files = files_cut limits a cuts ++ others in
      let is : map file opened ≡ files =
      ap (map file) s.is ∙ map_append file (opened_of s.frames) s.others
      ∙ ap (λ (l : List (Option File)). l ++ others) (files_shared reads limits docs name s.frames (like_fit limits a s.frames s.like fit) ∙ like_files limits a s.frames cuts s.like) in
      let first = step cuts (like_cut limits a s.frames s.like) others (others_fit opened s) in
      subst (λ (l : List (Option File)). Begins (names ++ extra) (by_answer language reads limits docs name (load_from language reads limits docs name most) opened (outcome reads name l)).opened) (sym is)
      (by most opened files first s (λ more t. begins_from most more t) (outcome reads name files) refl (one reads name files).0)

-- the sheet's own file is opened first

all_open : (ns : List ℕ) → Each (IsOpen []) ns
all_open [] = tt
all_open (n ∷ ns) = (inl (omega arith), all_open ns)

module _ (reads : Reads) (limits : Limits) (docs : Documents) (name : List ℕ) where
  wants_own : outcome reads name [] ≡ Over (name ∷ []) (Wants [] name)
  wants_own = refl

  three : (n : ℕ) → n + 3 ≡ suc (suc (n + 1))
  three n = omega arith

  pub opens_own : load reads limits docs name ≡ load_from language reads limits docs name (suc (limits.sheet + 1)) (record { name = name; bytes = docs name; before = 0; inside = 0; known = 0 } ∷ [])
  opens_own = ap (λ (n : ℕ). load_from language reads limits docs name n []) (three limits.sheet)

  own_step : (cuts : List ℕ) → AreCut [] cuts → (others : List (Option File)) → 1 ≤ length others → SaysFirst reads name [] ([] ++ name ∷ []) (files_cut limits [] cuts ++ others)
  own_step [] cut [] some = absurd (omega (arith, some))
  own_step [] cut (None ∷ others) some =
      record { rest = Halt (Refused (record { file = 0; offset = 0 }) code.NoDocument); same = equal_answer reads (None ∷ others) refl; fine = λ ps ns wanted ends. all_open ns }
  own_step [] cut (Some file ∷ others) some =
      record {
        rest = Ask (Nodes (at_start name file) [] file.nodes (nothing name)) (λ r. whole r (first_lost r.loading.sheet r.loading.references));
        same = equal_answer reads (Some file ∷ others) refl;
        fine = λ ps ns wanted ends. all_open ns;
      }
  own_step (m ∷ cuts) cut others some = absurd cut

  pub own_begins : ComesToOne → Begins (name ∷ []) (load reads limits docs name).opened
  own_begins one =
      let own : Opened = record { name = name; bytes = docs name; before = 0; inside = 0; known = 0 } in
      let stays : Stays [] (name ∷ []) (own ∷ []) = record { frames = []; others = own ∷ []; like = tt; is = refl; names = ([], refl) } in
      subst (λ (l : Loads). Begins (name ∷ []) l.opened) (sym opens_own)
      (begins_from limits docs name one [] [] (name ∷ []) tt tt tt refl reads own_step (suc (limits.sheet + 1)) (own ∷ []) stays)

-- an include's file is opened next

pub taken_grown : (limits : Limits) (size : ℕ) (frames : List Frame) → AllTaken limits frames → AllTaken limits (grow size frames)
taken_grown limits size [] taken = tt
taken_grown limits size (f ∷ outer) taken = (taken.0, taken_grown limits size outer taken.1)

like_grown : (size : ℕ) (outer : List Frame) → Include outer → Alike (grow size outer) (grow size outer)
like_grown size [] include = tt
like_grown size (f ∷ outer) include = let k = include.2 in (record { name = refl; bytes = refl; done = refl; known = omega (arith, k) }, like_grown size outer include.3)

numbers_grown : (size : ℕ) (frames : List Frame) → numbers_of (grow size frames) ≡ numbers_of frames
numbers_grown size [] = refl
numbers_grown size (f ∷ outer) = ap (λ (n : ℕ). n ∷ numbers_of (grow size outer)) (count_grown size outer) ∙ ap (λ (ns : List ℕ). length (parts_of outer) ∷ ns) (numbers_grown size outer)

-- its name is said first
module _ (reads : Reads) (files : List (Option File)) where
  says_by : (names : List (List ℕ)) (v : Version) (levels : List Level) (href : List ℕ) (l : Loading) (f : Future) → IsInElement levels
      → (x : Does Listed) × (file_then reads files (place_in names files v levels).opens href l f ≡ Say href x)
  says_by names v [] href l f inside = absurd inside
  says_by names v (x ∷ levels) href l f inside =
      let in_what : What → Place_in = λ w. entered names files v w x (place_in names files (version_around v w) levels) in
      let q : Place_in = place_in names files v levels in (
        and_then (file_given reads files q.here x.at (length l.sheet.files) (slice_get files (length l.sheet.files)) href l)
            (λ r. continue reads files (Of_file q.here q.before (tag_of x nameless []) inside.0 inside.1 ∷ q.opens) r f),
        ap (λ w. file_then reads files (in_what w).opens href l f) inside.2,
      )

module _ (limits : Limits) (docs : Documents) (name : List ℕ) (one : ComesToOne) (f : Frame) (outer : List Frame) (y : Standing) (left : ℕ) (follows : Follows limits docs name (f ∷ outer) y left)
    (href : List ℕ) (s : Stage) (wants_it : y.progress ≡ Wants_file href s) (in_element : IsInElement s.levels) (some : 0 < f.lists) (taken : 0 < f.taken) where
  abbrev around : List Frame
  around = grow (size_of (docs href)) (include_known f ∷ outer)

  named : map (λ (p : Part). p.name) (parts_of around) ≡ y.names
  named =
      let h : Part → List ℕ = λ p. p.name in
      parts_grown h (λ p n. refl) (size_of (docs href)) (include_known f ∷ outer)
      ∙ map_append h (parts_of outer) ((include_known f).part ∷ f.done) ∙ sym (map_append h (parts_of outer) (f.part ∷ f.done)) ∙ follows.names

  counted : length (parts_of around) ≡ length y.names
  counted = sym (length_map (λ (p : Part). p.name) (parts_of around)) ∙ ap length named

  each_open : Each (IsOpen around) (numbers_in (lists_in s.levels))
  each_open =
      subst (Each (IsOpen around)) (numbers_grown (size_of (docs href)) (include_known f ∷ outer) ∙ sym (numbers limits docs name one f outer y left follows href s wants_it in_element some taken))
      (own_numbers around (IsOpen around) (λ n own. inr own))

  next_step : (reads : Reads) (cuts : List ℕ) → AreCut around cuts → (others : List (Option File)) → SaysFirst reads name around (y.names ++ href ∷ []) (files_cut limits around cuts ++ others)
  next_step reads cuts cut others =
      let old = files_cut limits (f ∷ outer) cuts ++ others in
      let same : old ≡ files_cut limits around cuts ++ others = ap (λ (l : List (Option File)). l ++ others) (sym (files_grown limits (size_of (docs href)) (include_known f ∷ outer) cuts)) in
      let cut_old : AreCut (f ∷ outer) cuts = cut_grown (size_of (docs href)) (include_known f ∷ outer) cuts cut in
      let lists = lists_cut (f ∷ outer) cuts in
      let first = goes limits docs name one f outer y left follows href s wants_it in_element some taken cuts cut_old reads others in
      let x = says_by reads old s.loading.sheet.files (version_by s.version lists) s.levels href s.loading lists in_element in
      let is : remaining reads old (Wants_file href s) lists ≡ Say href x.0 = x.1 in
      let files = ap (λ (l : List (List ℕ)). length l) (files_in limits docs name one f outer y left follows href s wants_it in_element some taken) in
      let says_it : SaysFirst reads name around (y.names ++ href ∷ []) old = record {
        rest = x.0;
        same = answer_then reads old first (equal_answer reads old (ap (says y.names) is ∙ sym (says_says y.names (href ∷ []) x.0)));
        fine = λ ps ns wanted ends.
            wanted_fine reads old (IsOpen around) (length (parts_of around)) (λ n le. inl le) href s lists each_open (let c = counted in omega (arith, c, files)) (href ∷ ps) (Wants ns wanted)
            (subst (λ (d : Does Listed). Ends (code_of_job reads old) d (href ∷ ps) (Wants ns wanted)) (sym is) (ends_said (href ∷ []) ends));
      } in
      subst (SaysFirst reads name around (y.names ++ href ∷ [])) same says_it

  pub next_begins : AreParts docs (parts_of (f ∷ outer)) → (reads : Reads) → Begins (y.names ++ href ∷ []) (load reads limits docs name).opened
  next_begins are reads =
      let size = size_of (docs href) in
      let new : Opened = record { name = href; bytes = docs href; before = f.part.before + f.part.inside + f.taken; inside = 0; known = 0 } in
      let like : Alike around around = (record { name = refl; bytes = refl; done = refl; known = omega arith }, like_grown size outer follows.include) in
      let stays : Stays around (href ∷ []) (opened_of around ++ new ∷ []) = record { frames = around; others = new ∷ []; like = like; is = refl; names = ([], refl) } in
      subst (λ (l : Loads). Begins (y.names ++ href ∷ []) l.opened) (sym (opens_too limits docs name one f outer y left follows href s wants_it in_element some taken are reads))
      (begins_from limits docs name one around y.names (href ∷ []) (fewer_grown limits name size (include_known f ∷ outer) follows.fewer) (fit_grown limits size (include_known f ∷ outer) follows.fit)
      (taken_grown limits size (include_known f ∷ outer) follows.short) named reads (λ cuts cut others fits. next_step reads cuts cut others)
      (one_more follows.most (enough limits docs name one f outer y left follows href s wants_it in_element some taken)).0 (opened_of around ++ new ∷ []) stays)
