-- What is so where a wanted file was opened and is read next.
use Rattle.std.proofs.Common.{◌≡◌, ℕ, zero, suc, ◌+◌, ◌<◌, Bool, false, List, [], ◌∷◌, ◌++◌, map, length, slice_get, Option, Some, None, refl, sym, ap, subst, ◌∙◌, arith, append_assoc, length-append}
use Rattle.std.proofs.lemmas.Bool.{false≢true}
use Rattle.stx_base.specs.Course.{Begins, Say, says}
use Rattle.stx_base.proofs.Course.{says_says}
use Rattle.stx_base.specs.declared.limits.Limits.{Limits}
use Rattle.xml_events.specs.Document.{doc}
use Rattle.xml_events.specs.Source.{Source, future}
use Rattle.xml_events.specs.Telling.{pulled}
use Rattle.xml_events.specs.Tree.{Future}
use Rattle.xml_events.specs.declared.event.Event.{Event}
use Rattle.xml_events.specs.declared.event.Pull.TheVariants as pull
use Rattle.sheet_loader.specs.Files.{Documents, Opened, load, load_from, size_of}
use Rattle.sheet_loader.specs.Laws.{ComesToOne}
use Rattle.sheet_loader.specs.Lists.{Of, Element, FilesAre, Included, IsInElement, IsReading, OpensList, lists_of}
use Rattle.sheet_loader.specs.Load.{sheet_of}
use Rattle.sheet_loader.specs.Loaders.{OpensIt, Standing, is_over, wanted_in}
use Rattle.sheet_loader.specs.Reading.{File}
use Rattle.sheet_loader.specs.Remaining.{Ended, Progress, Reads_on, Refused_at, Spent, Stage, Wants_file, remaining}
use Rattle.sheet_loader.specs.Resuming.{SameAnswer}
use Rattle.sheet_loader.specs.Versions.{language}
use Rattle.sheet_files.specs.Following.{Adds, AreParts, Comes, Follows, IsGoing, bytes_read}
use Rattle.sheet_files.specs.Frames.{AreCut, Frame, GoesOn, Part, as_opened, cut_file, files_cut, grow, include_known, lists_at, lists_cut, list_of, lists_onto, lists_open, opened_of, parts_of}
use Rattle.sheet_files.specs.Undecided.{files_at}
use Rattle.sheet_files.proofs.Begins.{next_begins, taken_grown}
use Rattle.sheet_files.proofs.Counting.{length_cut}
use Rattle.sheet_files.proofs.Courses.{answer_said, answer_then, equal_answer}
use Rattle.sheet_files.proofs.Cuts.{begun}
use Rattle.sheet_files.proofs.Following.{not_both}
use Rattle.sheet_files.proofs.Including.{adds_grown, are_by, are_first, are_last, count, count_grown, cut_grown, files_grown, fewer_grown, fit_grown, going_grown, chain_too, goes, include_grown, lists_grown, on, one_more, opened_too, opens_too, pair_of, parts_grown, enough}
use Rattle.sheet_files.proofs.Opening.{map_append, slice_at}
use Rattle.sheet_files.proofs.Sounding.{read_fresh, read_grown}

reading_on : (p : Progress) → IsReading p → is_over p ≡ false
reading_on (Reads_on s) r = refl
reading_on (Wants_file href s) r = absurd r
reading_on (Ended items l) r = absurd r
reading_on (Refused_at at why) r = absurd r
reading_on Spent r = absurd r

-- of a file that is read next, of which nothing is read
abbrev pub fresh : (href bytes : List ℕ) (before : ℕ) → Source → Frame
fresh href bytes before t = record { part = record { name = href; bytes = bytes; before = before; inside = 0; known = 0 }; taken = 0; source = t; lists = 1; done = [] }

onto_same : (n : ℕ) (a b : List Frame) (around : List Of) → list_of a ≡ list_of b → lists_onto n a around ≡ lists_onto n b around
onto_same zero a b around e = refl
onto_same (suc zero) a b around e = ap (λ (o : Of). o ∷ around) e
onto_same (suc (suc n)) a b around e = ap (λ (l : List Of). Element ∷ l) (onto_same (suc n) a b around e)

list_grown : (size : ℕ) (outer : List Frame) → list_of (grow size outer) ≡ list_of outer
list_grown size [] = refl
list_grown size (g ∷ outer) = ap (λ (n : ℕ). Included n) (count_grown size (g ∷ outer))

-- the open lists are those of the same files
open_grown : (size : ℕ) (frames : List Frame) → lists_open (grow size frames) ≡ lists_open frames
open_grown size [] = refl
open_grown size (g ∷ outer) =
    onto_same g.lists (grow size outer) outer (lists_open (grow size outer)) (list_grown size outer) ∙ ap (lists_onto g.lists outer) (open_grown size outer)

count_known : (f : Frame) (outer : List Frame) → length (parts_of (include_known f ∷ outer)) ≡ length (parts_of (f ∷ outer))
count_known f outer = length-append (parts_of outer) ((include_known f).part ∷ f.done) ∙ sym (length-append (parts_of outer) (f.part ∷ f.done))

pub same_known : {A : Type 0} (h : Part → A) → ((p : Part) (n : ℕ) → h (record p { known = n }) ≡ h p) → (f : Frame) (outer : List Frame) → map h (parts_of (include_known f ∷ outer)) ≡ map h (parts_of (f ∷ outer))
same_known h same f outer =
    map_append h (parts_of outer) ((include_known f).part ∷ f.done)
    ∙ ap (λ a. map h (parts_of outer) ++ a ∷ map h f.done) (same f.part f.taken)
    ∙ sym (map_append h (parts_of outer) (f.part ∷ f.done))

module _ (limits : Limits) (docs : Documents) (name : List ℕ) (one : ComesToOne) (f : Frame) (outer : List Frame) (y : Standing) (left : ℕ) (follows : Follows limits docs name (f ∷ outer) y left)
    (href : List ℕ) (s : Stage) (wants_it : y.progress ≡ Wants_file href s) (in_element : IsInElement s.levels) (some : 0 < f.lists) (taken : 0 < f.taken)
    (bytes : List ℕ) (t : Source) (begins : (bytes : List ℕ) (ended : Bool) → future t bytes ended ≡ doc limits false bytes ended ∷ []) (not_over : t.over ≡ None) (not_ended : t.lexer.ended ≡ false)
    (nothing : (ended : Bool) (e : Event) → pulled (doc limits false [] ended ∷ []) ≡ pull.Event e → ⊥)
    (z : Standing) (opens : OpensIt y z) (names : z.names ≡ y.names ++ href ∷ []) (list : OpensList y z) where
  abbrev around : List Frame
  around = grow (length bytes) (include_known f ∷ outer)

  abbrev pub entered : List Frame
  entered = fresh href bytes (f.part.before + f.part.inside + f.taken) t ∷ around

  wanted : wanted_in y.progress ≡ Some href
  wanted = ap wanted_in wants_it

  opens_list : IsReading z.progress × (lists_of z.progress ≡ Included (length y.names) ∷ lists_of y.progress) × FilesAre z.names z.progress
  opens_list = list href wanted

  -- what was to be done with the file unknown is to be done with it
  entered_goes : GoesOn limits name z.names entered z.progress
  entered_goes [] cut reads others = absurd cut
  entered_goes (m ∷ cuts) cut reads others =
      let file = cut_file limits bytes m in
      let before = files_cut limits around cuts in
      let files = (before ++ Some file ∷ []) ++ others in
      let old = files_cut limits (f ∷ outer) cuts ++ Some file ∷ others in
      let same : old ≡ files = ap (λ (l : List (Option File)). l ++ Some file ∷ others) (sym (files_grown limits (length bytes) (include_known f ∷ outer) cuts)) ∙ sym (append_assoc before (Some file ∷ []) others) in
      let cut_old : AreCut (f ∷ outer) cuts = cut_grown (length bytes) (include_known f ∷ outer) cuts cut.1 in
      let lists = lists_cut (f ∷ outer) cuts in
      let at : slice_get old (length y.names) ≡ Some (Some file) =
      ap (λ (n : ℕ). slice_get old n) (sym (length_cut limits (f ∷ outer) cuts cut_old ∙ count limits docs name one f outer y left follows href s wants_it in_element some taken))
      ∙ slice_at (files_cut limits (f ∷ outer) cuts) (Some file) others in
      let now : lists_cut entered (m ∷ cuts) ≡ file.nodes ∷ lists =
      ap (λ (l : Future). lists_at t 0 bytes m ++ l) (lists_grown (length bytes) (include_known f ∷ outer) cuts)
      ∙ ap (λ (l : Future). l ++ lists) (begun t limits bytes m begins) in
      let first = goes limits docs name one f outer y left follows href s wants_it in_element some taken cuts cut_old reads (Some file ∷ others) in
      let next : SameAnswer reads old (remaining reads old (Wants_file href s) lists) (Say href (remaining reads old z.progress (file.nodes ∷ lists))) =
      subst (λ (p : Progress). SameAnswer reads old (remaining reads old p lists) (Say href (remaining reads old z.progress (file.nodes ∷ lists)))) wants_it (opens href wanted reads old file lists at refl) in
      let all : SameAnswer reads old (sheet_of reads name old) (says z.names (remaining reads old z.progress (lists_cut entered (m ∷ cuts)))) =
      answer_then reads old first
      (answer_then reads old (answer_said reads old y.names next)
      (equal_answer reads old
      (sym (says_says y.names (href ∷ []) (remaining reads old z.progress (file.nodes ∷ lists)))
      ∙ ap (λ (ns : List (List ℕ)). says ns (remaining reads old z.progress (file.nodes ∷ lists))) (sym names)
      ∙ ap (λ (l : Future). says z.names (remaining reads old z.progress l)) (sym now)))) in
      subst (λ (l : List (Option File)). SameAnswer reads l (sheet_of reads name l) (says z.names (remaining reads l z.progress (lists_cut entered (m ∷ cuts))))) same all

  fresh_going : IsGoing (fresh href bytes (f.part.before + f.part.inside + f.taken) t)
  fresh_going = record {
    lists = λ more e. ap length (begins more e);
    over = λ h. absurd (not_both t.over not_over h);
    ended = λ h. absurd (false≢true (sym not_ended ∙ h));
    within = omega arith;
    known = omega arith;
    began = λ zero e event h. nothing e event (ap pulled (sym (begins [] e)) ∙ h);
  }

  known_going : IsGoing (include_known f)
  known_going =
      let h = (follows.going (on limits docs name one f outer y left follows href s wants_it in_element some taken)).0 in
      record { lists = h.lists; over = h.over; ended = h.ended; within = h.within; known = omega arith; began = h.began }

  count_around : length (parts_of around) ≡ length y.names
  count_around = count_grown (length bytes) (include_known f ∷ outer) ∙ count_known f outer ∙ count limits docs name one f outer y left follows href s wants_it in_element some taken

  own_there : AreParts docs (parts_of entered) → docs href ≡ Some bytes
  own_there are = (are_last docs (parts_of around) ((fresh href bytes (f.part.before + f.part.inside + f.taken) t).part ∷ []) are).0

  parts_before : AreParts docs (parts_of entered) → AreParts docs (parts_of (f ∷ outer))
  parts_before are =
      are_by docs (parts_of around) (parts_of (f ∷ outer)) (parts_grown pair_of (λ p n. refl) (length bytes) (include_known f ∷ outer) ∙ same_known pair_of (λ p n. refl) f outer)
      (are_first docs (parts_of around) ((fresh href bytes (f.part.before + f.part.inside + f.taken) t).part ∷ []) are)

  -- the files that are opened then
  opened_entered : docs href ≡ Some bytes → opened_too limits docs name one f outer y left follows href s wants_it in_element some taken ≡ opened_of entered
  opened_entered there =
      let own : Option (List ℕ) → Opened = λ b. record { name = href; bytes = b; before = f.part.before + f.part.inside + f.taken; inside = 0; known = 0 } in
      let new = (fresh href bytes (f.part.before + f.part.inside + f.taken) t).part in
      ap (λ (n : ℕ). opened_of (grow n (include_known f ∷ outer)) ++ own (docs href) ∷ []) (ap size_of there)
      ∙ ap (λ (b : Option (List ℕ)). opened_of around ++ own b ∷ []) there
      ∙ sym (map_append as_opened (parts_of around) (new ∷ []))

  -- and it goes on
  pub enter_follows : Follows limits docs name entered z left
  enter_follows =
      let size = length bytes in
      let on_y = on limits docs name one f outer y left follows href s wants_it in_element some taken in
      let more = enough limits docs name one f outer y left follows href s wants_it in_element some taken in
      let new = (fresh href bytes (f.part.before + f.part.inside + f.taken) t).part in
      let name_in : Part → List ℕ = λ p. p.name in
      let sum = follows.adds.0 in
      let known_adds : Adds (include_known f ∷ outer) follows.spent = follows.adds in
      let names_now : map name_in (parts_of (fresh href bytes (f.part.before + f.part.inside + f.taken) t ∷ around)) ≡ y.names ++ href ∷ [] =
      map_append name_in (parts_of around) (new ∷ [])
      ∙ ap (λ (l : List (List ℕ)). l ++ href ∷ []) (parts_grown name_in (λ p n. refl) size (include_known f ∷ outer) ∙ same_known name_in (λ p n. refl) f outer ∙ follows.names) in
      record {
        comes = subst (λ (b : Bool). Comes limits name entered z b) (sym (reading_on z.progress opens_list.0)) entered_goes;
        fewer = (λ m lt. absurd (omega (arith, lt)), fewer_grown limits name size (include_known f ∷ outer) follows.fewer);
        going = λ on_z. (fresh_going, going_grown size (include_known f ∷ outer) (known_going, (follows.going on_y).1));
        include = include_grown size (include_known f ∷ outer) (some, taken, refl, follows.include);
        fit = (tt, fit_grown limits size (include_known f ∷ outer) follows.fit);
        names = names_now ∙ sym names;
        lists = λ on_z. opens_list.1
            ∙ ap (λ (n : ℕ). Included n ∷ lists_of y.progress) (sym count_around)
            ∙ ap (λ (l : List Of). Included (length (parts_of around)) ∷ l) (follows.lists on_y ∙ sym (open_grown size (include_known f ∷ outer)));
        files = opens_list.2;
        spent = follows.spent;
        all = follows.all;
        adds = (omega (arith, sum), subst (Adds around) (ap (λ (n : ℕ). n + size) (sym sum ∙ omega arith)) (adds_grown size (include_known f ∷ outer) follows.spent known_adds));
        read = read_fresh (bytes_read around) ∙ read_grown size (include_known f ∷ outer) ∙ follows.read;
        few = let h = follows.busy taken in let a = length-append (parts_of around) (new ∷ []) in let b = count_grown size (include_known f ∷ outer) in let c = count_known f outer in omega (arith, h, a, b, c);
        busy = λ none. absurd (omega (arith, none));
        most = (one_more follows.most more).0;
        more = let a = length-append (parts_of around) (new ∷ []) in let b = count_grown size (include_known f ∷ outer) in let c = count_known f outer in let d = follows.more in let e = (one_more follows.most more).1 in omega (arith, a, b, c, d, e);
        chain = λ are reads.
            let a = length-append (parts_of around) (new ∷ []) in
            let b = count_grown size (include_known f ∷ outer) in
            let c = count_known f outer in
            let count : length (parts_of entered) ≡ suc (length (parts_of (f ∷ outer))) = omega (arith, a, b, c) in
            ap (files_at reads limits docs name) count
            ∙ chain_too limits docs name one f outer y left follows href s wants_it in_element some taken (parts_before are) reads
            ∙ opened_entered (own_there are);
        loads = λ are reads.
            opens_too limits docs name one f outer y left follows href s wants_it in_element some taken (parts_before are) reads
            ∙ ap (load_from language reads limits docs name (one_more follows.most more).0) (opened_entered (own_there are));
        short = (omega arith, taken_grown limits size (include_known f ∷ outer) follows.short);
        begins = λ are reads. subst (λ (ns : List (List ℕ)). Begins ns (load reads limits docs name).opened) (sym names_now)
            (next_begins limits docs name one f outer y left follows href s wants_it in_element some taken (parts_before are) reads);
      }
