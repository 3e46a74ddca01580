-- What stays so where an include of the innermost file wants a file: it is opened, or it is absent.
use Rattle.std.proofs.Common.{◌≡◌, ℕ, zero, suc, ◌+◌, ◌<◌, ◌≤◌, false, List, [], ◌∷◌, ◌++◌, map, length, slice_get, Option, Some, None, refl, sym, ap, subst, ◌∙◌, arith}
use Rattle.stx_base.specs.Course.{Halt, Say, Over, Ends}
use Rattle.stx_base.specs.declared.limits.Limits.{Limits}
use Rattle.xml_events.specs.Tree.{Future}
use Rattle.sheet_loader.specs.Files.{Documents, Opened, by_answer, file_of, known_at, load, load_from, size_of, wants}
use Rattle.sheet_loader.specs.Laws.{ComesToOne}
use Rattle.sheet_loader.specs.Lists.{FilesAre, IsInElement, lists_in, lists_of}
use Rattle.sheet_loader.specs.Load.{outcome}
use Rattle.sheet_loader.specs.Loaders.{Standing, is_over}
use Rattle.sheet_loader.specs.Read.{code_of_job}
use Rattle.sheet_loader.specs.Reading.{File, Refused, Wants}
use Rattle.sheet_loader.specs.Remaining.{Progress, Stage, Wants_file}
use Rattle.sheet_loader.specs.Values.{Reads}
use Rattle.sheet_loader.specs.Versions.{language}
use Rattle.sheet_files.specs.Following.{Adds, AllGoing, AreParts, EndsShort, Follows, Include, WantNoFewer}
use Rattle.sheet_files.specs.Frames.{AreCut, FitAll, Frame, GoesOn, Part, cut_file, files_cut, grow, include_known, lists_at, lists_cut, numbers_of, opened_of, parts_of, shares, whole_file}
use Rattle.sheet_files.specs.Undecided.{and_next, files_at}
use Rattle.sheet_files.proofs.Counting.{AllOpen, length_cut, numbers_are}
use Rattle.sheet_files.proofs.Courses.{answer_said, answer_then, ends_so, equal_answer}
use Rattle.sheet_files.proofs.Following.{goes_on_by, may_be_read}
use Rattle.sheet_files.proofs.Opening.{append_none, files_shared, known_there, length_map, map_append, opened_more}
use Rattle.sheet_files.proofs.Places.{numbers_in}
use Rattle.sheet_files.proofs.Wanting.{wants_there}

past_end : {A : Type 0} (xs : List A) (n : ℕ) → length xs ≡ n → slice_get xs n ≡ None
past_end [] n e = refl
past_end (x ∷ xs) zero e = absurd (omega (arith, e))
past_end (x ∷ xs) (suc n) e = past_end xs n (omega (arith, e))

pub one_more : (n : ℕ) → 0 < n → (m : ℕ) × (n ≡ suc m)
one_more zero h = absurd (omega arith)
one_more (suc m) h = (m, refl)

-- a file's count of bytes in its includes is no part of what may be read of it, where cuts are named

pub files_grown : (limits : Limits) (size : ℕ) (frames : List Frame) (cuts : List ℕ) → files_cut limits (grow size frames) cuts ≡ files_cut limits frames cuts
files_grown limits size [] cuts = refl
files_grown limits size (f ∷ outer) [] = refl
files_grown limits size (f ∷ outer) (m ∷ cuts) = ap (λ (l : List (Option File)). l ++ Some (cut_file limits f.part.bytes m) ∷ map (whole_file limits) f.done) (files_grown limits size outer cuts)

pub lists_grown : (size : ℕ) (frames : List Frame) (cuts : List ℕ) → lists_cut (grow size frames) cuts ≡ lists_cut frames cuts
lists_grown size [] cuts = refl
lists_grown size (f ∷ outer) [] = refl
lists_grown size (f ∷ outer) (m ∷ cuts) = ap (λ (l : Future). lists_at f.source f.taken f.part.bytes m ++ l) (lists_grown size outer cuts)

pub cut_grown : (size : ℕ) (frames : List Frame) (cuts : List ℕ) → AreCut (grow size frames) cuts → AreCut frames cuts
cut_grown size [] [] cut = tt
cut_grown size [] (m ∷ cuts) cut = cut
cut_grown size (f ∷ outer) [] cut = cut
cut_grown size (f ∷ outer) (m ∷ cuts) cut = (cut.0, cut_grown size outer cuts cut.1)

pub fewer_grown : (limits : Limits) (name : List ℕ) (size : ℕ) (frames : List Frame) → WantNoFewer limits name frames → WantNoFewer limits name (grow size frames)
fewer_grown limits name size [] fewer = tt
fewer_grown limits name size (f ∷ outer) fewer = (
  λ m lt reads cuts cut. subst (EndsShort reads name) (sym (files_grown limits size (f ∷ outer) (m ∷ cuts))) (fewer.0 m lt reads cuts (cut_grown size outer cuts cut)),
  fewer_grown limits name size outer fewer.1,
)

pub going_grown : (size : ℕ) (frames : List Frame) → AllGoing frames → AllGoing (grow size frames)
going_grown size [] going = tt
going_grown size (f ∷ outer) going =
    let h = going.0 in (record { lists = h.lists; over = h.over; ended = h.ended; within = h.within; known = h.known; began = h.began }, going_grown size outer going.1)

pub include_grown : (size : ℕ) (frames : List Frame) → Include frames → Include (grow size frames)
include_grown size [] include = tt
include_grown size (f ∷ outer) include = (include.0, include.1, include.2, include_grown size outer include.3)

pub fit_grown : (limits : Limits) (size : ℕ) (frames : List Frame) → FitAll limits frames → FitAll limits (grow size frames)
fit_grown limits size [] fit = tt
fit_grown limits size (f ∷ outer) fit = (fit.0, fit_grown limits size outer fit.1)

pub adds_grown : (size : ℕ) (frames : List Frame) (spent : ℕ) → Adds frames spent → Adds (grow size frames) (spent + size)
adds_grown size [] spent adds = tt
adds_grown size (f ∷ outer) spent adds =
    let here : f.part.before + (f.part.inside + size) + f.taken ≡ spent + size = let h = adds.0 in omega (arith, h) in
    let next : (f.part.before + f.part.inside + length f.part.bytes) + size ≡ f.part.before + (f.part.inside + size) + length f.part.bytes = omega arith in
    (here, subst (Adds (grow size outer)) next (adds_grown size outer (f.part.before + f.part.inside + length f.part.bytes) adds.1))

pub parts_grown : {A : Type 0} (h : Part → A) → ((p : Part) (n : ℕ) → h (record p { inside = n }) ≡ h p) → (size : ℕ) (frames : List Frame) → map h (parts_of (grow size frames)) ≡ map h (parts_of frames)
parts_grown h same size [] = refl
parts_grown h same size (f ∷ outer) =
    let p : Part = record f.part { inside = f.part.inside + size } in
    map_append h (parts_of (grow size outer)) (p ∷ f.done)
    ∙ ap (λ l. l ++ h p ∷ map h f.done) (parts_grown h same size outer)
    ∙ ap (λ a. map h (parts_of outer) ++ a ∷ map h f.done) (same f.part (f.part.inside + size))
    ∙ sym (map_append h (parts_of outer) (f.part ∷ f.done))

pub count_grown : (size : ℕ) (frames : List Frame) → length (parts_of (grow size frames)) ≡ length (parts_of frames)
count_grown size frames =
    sym (length_map (λ (p : Part). p.bytes) (parts_of (grow size frames))) ∙ ap length (parts_grown (λ (p : Part). p.bytes) (λ p n. refl) size frames) ∙ length_map (λ (p : Part). p.bytes) (parts_of frames)

open_all : (outer : List Frame) → Include outer → AllOpen outer
open_all [] include = tt
open_all (f ∷ outer) include = (include.0, open_all outer include.3)

-- what documents say of a file
abbrev pub pair_of : Part → List ℕ × List ℕ
pair_of p = (p.name, p.bytes)

pub are_by : (docs : Documents) (a b : List Part) → map pair_of a ≡ map pair_of b → AreParts docs a → AreParts docs b
are_by docs [] [] e are = tt
are_by docs [] (q ∷ b) e are = cc
are_by docs (p ∷ a) [] e are = cc
are_by docs (p ∷ a) (q ∷ b) e are =
    let pairs : pair_of p ≡ pair_of q = cc in
    let names : p.name ≡ q.name = ap (λ (x : List ℕ × List ℕ). x.0) pairs in
    let bytes : p.bytes ≡ q.bytes = ap (λ (x : List ℕ × List ℕ). x.1) pairs in
    let rest : map pair_of a ≡ map pair_of b = cc in
    (ap docs (sym names) ∙ are.0 ∙ ap (λ (l : List ℕ). Some l) bytes, are_by docs a b rest are.1)

pub are_first : (docs : Documents) (a b : List Part) → AreParts docs (a ++ b) → AreParts docs a
are_first docs [] b are = tt
are_first docs (p ∷ a) b are = (are.0, are_first docs a b are.1)

pub are_last : (docs : Documents) (a b : List Part) → AreParts docs (a ++ b) → AreParts docs b
are_last docs [] b are = are
are_last docs (p ∷ a) b are = are_last docs a b are.1

pub are_with : (docs : Documents) (a b : List Part) → AreParts docs a → AreParts docs b → AreParts docs (a ++ b)
are_with docs [] b x y = y
are_with docs (p ∷ a) b x y = (x.0, are_with docs a b x.1 y)

module _ (limits : Limits) (docs : Documents) (name : List ℕ) (one : ComesToOne) (f : Frame) (outer : List Frame) (y : Standing) (left : ℕ) (follows : Follows limits docs name (f ∷ outer) y left)
    (href : List ℕ) (s : Stage) (wants_it : y.progress ≡ Wants_file href s) (in_element : IsInElement s.levels) (some : 0 < f.lists) (taken : 0 < f.taken) where
  pub on : is_over y.progress ≡ false
  on = ap is_over wants_it

  pub goes : GoesOn limits name y.names (f ∷ outer) (Wants_file href s)
  goes = subst (λ (p : Progress). GoesOn limits name y.names (f ∷ outer) p) wants_it (goes_on_by limits docs name f outer y left follows on)

  pub files_in : s.loading.sheet.files ≡ y.names
  files_in = (subst (FilesAre y.names) wants_it follows.files).0

  pub numbers : numbers_in (lists_in s.levels) ≡ numbers_of (f ∷ outer)
  numbers =
      ap (λ (p : Progress). numbers_in (lists_of p)) (sym wants_it) ∙ ap numbers_in (follows.lists on) ∙ numbers_are f outer (some, open_all outer follows.include)

  pub count : length (parts_of (f ∷ outer)) ≡ length y.names
  count = sym (length_map (λ (p : Part). p.name) (parts_of (f ∷ outer))) ∙ ap length follows.names

  -- the files want the include's file, however far they may be read
  wants_file : (reads : Reads) (cuts : List ℕ) → AreCut (f ∷ outer) cuts → outcome reads name (files_cut limits (f ∷ outer) cuts) ≡ Over (y.names ++ href ∷ []) (Wants (numbers_of (f ∷ outer)) href)
  wants_file reads cuts cut =
      let files = files_cut limits (f ∷ outer) cuts in
      let is : files ++ [] ≡ files = append_none files in
      let none : slice_get (files ++ []) (length s.loading.sheet.files) ≡ None =
      ap (λ (l : List (Option File)). slice_get l (length s.loading.sheet.files)) is
      ∙ past_end files (length s.loading.sheet.files) (length_cut limits (f ∷ outer) cuts cut ∙ count ∙ sym (ap length files_in)) in
      let ns = numbers_of (f ∷ outer) in
      let comes = wants_there reads (files ++ []) s href (lists_cut (f ∷ outer) cuts) ns in_element none numbers in
      let same = answer_then reads (files ++ []) (goes cuts cut reads []) (answer_said reads (files ++ []) y.names (equal_answer reads (files ++ []) comes)) in
      let ends : Ends (code_of_job reads (files ++ [])) (Say href (Halt (Wants ns href))) (href ∷ []) (Wants ns href) = record { depth = 0; comes = refl } in
      ap (outcome reads name) (sym is) ∙ ends_so reads (files ++ []) one name y.names (Say href (Halt (Wants ns href))) (href ∷ []) (Wants ns href) same ends

  may : AreCut (f ∷ outer) (shares limits (f ∷ outer))
  may = may_be_read limits docs name f outer y left follows

  none_before : (reads : Reads) (m : ℕ) → m < f.taken → wants (numbers_of (f ∷ outer)) href (outcome reads name (files_cut limits (f ∷ outer) (m ∷ shares limits outer))) ≡ false
  none_before reads m lt =
      let files = files_cut limits (f ∷ outer) (m ∷ shares limits outer) in
      let short = follows.fewer.0 m lt reads (shares limits outer) may.1 [] in
      let is : outcome reads name (files ++ []) ≡ Over short.0 (Refused short.1 short.2) = sym ((one reads name (files ++ [])).1 (Over short.0 (Refused short.1 short.2)) short.3) in
      ap (λ (l : List (Option File)). wants (numbers_of (f ∷ outer)) href (outcome reads name l)) (sym (append_none files)) ∙ ap (wants (numbers_of (f ∷ outer)) href) is

  known : (reads : Reads) → known_at language reads limits docs name (opened_of (f ∷ outer)) (numbers_of (f ∷ outer)) href (length (parts_of outer)) ≡ f.taken
  known reads =
      let le : f.taken ≤ f.taken = omega arith in
      let all = follows.all in
      let sum = follows.adds.0 in
      known_there reads limits docs name f outer href (y.names ++ href ∷ []) follows.fit (omega (arith, all, sum)) (none_before reads) (wants_file reads (f.taken ∷ shares limits outer) (le, may.1))

  pub enough : 0 < follows.most
  enough = let a = follows.more in let b = follows.few in let c = follows.all in omega (arith, a, b, c)

  less : ℕ
  less = (one_more follows.most enough).0

  wants_shared : (reads : Reads) → outcome reads name (map (file_of language reads limits docs name) (opened_of (f ∷ outer))) ≡ Over (y.names ++ href ∷ []) (Wants (numbers_of (f ∷ outer)) href)
  wants_shared reads = ap (outcome reads name) (files_shared reads limits docs name (f ∷ outer) follows.fit) ∙ wants_file reads (shares limits (f ∷ outer)) may

  abbrev pub opened_too : List Opened
  opened_too = opened_of (grow (size_of (docs href)) (include_known f ∷ outer)) ++ record { name = href; bytes = docs href; before = f.part.before + f.part.inside + f.taken; inside = 0; known = 0 } ∷ []

  -- it is the next of the definition's files
  pub chain_too : AreParts docs (parts_of (f ∷ outer)) → (reads : Reads) → files_at reads limits docs name (suc (length (parts_of (f ∷ outer)))) ≡ opened_too
  chain_too are reads =
      ap (λ (l : List Opened). and_next reads limits docs name l (outcome reads name (map (file_of language reads limits docs name) l))) (follows.chain are reads)
      ∙ ap (and_next reads limits docs name (opened_of (f ∷ outer))) (wants_shared reads)
      ∙ opened_more reads limits docs name f outer href (known reads)

  -- the definition opens it too
  pub opens_too : AreParts docs (parts_of (f ∷ outer)) → (reads : Reads) → load reads limits docs name ≡ load_from language reads limits docs name (one_more follows.most enough).0 opened_too
  opens_too are reads =
      let m = (one_more follows.most enough).0 in
      let opened = opened_of (f ∷ outer) in
      let from = load_from language reads limits docs name in
      follows.loads are reads
      ∙ ap (λ (n : ℕ). from n opened) (one_more follows.most enough).1
      ∙ ap (by_answer language reads limits docs name (from m) opened) (wants_shared reads)
      ∙ ap (from m) (opened_more reads limits docs name f outer href (known reads))
