-- What a sheet is where the file that an include wants is absent.
use Rattle.std.proofs.Common.{◌≡◌, ℕ, zero, suc, ◌+◌, ◌<◌, List, [], ◌∷◌, ◌++◌, map, length, slice_get, Option, Some, None, Err, refl, sym, ap, subst, ◌∙◌, arith, length-append}
use Rattle.stx_base.specs.Course.{Halt, Say, Ends, Over, and_then}
use Rattle.stx_base.proofs.Course.{ends_said, one_end, result_or_end}
use Rattle.stx_base.specs.declared.fault.Place.{Place}
use Rattle.std.specs.Option.{option_map_or}
use Rattle.stx_base.specs.declared.fault.SheetCode.{SheetCode}
use Rattle.stx_base.specs.declared.fault.SheetCode.TheVariants as code
use Rattle.stx_base.specs.declared.fault.SheetFault.{SheetFault}
use Rattle.stx_base.specs.declared.limits.Limits.{Limits}
use Rattle.xml_events.specs.Tree.{Future}
use Rattle.sheet_model.specs.declared.sheet.Sheet.{Sheet}
use Rattle.sheet_loader.specs.Files.{Documents, Opened, by_answer, fault_at, file_of, load, load_from, loads, name_of, size_of}
use Rattle.sheet_loader.specs.Laws.{ComesToOne}
use Rattle.sheet_loader.specs.Levels.{Level, name_at, Place_in, What, entered, place_in, tag_of, version_around}
use Rattle.sheet_loader.specs.Lists.{IsInElement, Of, lists_in, lists_of, of_what}
use Rattle.sheet_loader.specs.Load.{outcome}
use Rattle.sheet_loader.specs.Loaders.{EndsInFault, GivesSheet, MissesIt, Standing, wanted_in}
use Rattle.sheet_loader.specs.Making.{nameless}
use Rattle.sheet_loader.specs.Read.{code_of_job, file_given}
use Rattle.sheet_loader.specs.Reading.{Ending, File, Loading, Refused}
use Rattle.sheet_loader.specs.Remaining.{Progress, Stage, Wants_file, file_then, remaining, version_by}
use Rattle.sheet_loader.specs.Resuming.{Of_file, SameAnswer, continue}
use Rattle.sheet_loader.specs.Values.{Reads}
use Rattle.sheet_loader.specs.Versions.{Version, language}
use Rattle.sheet_files.specs.Following.{AreParts, Decides, Follows}
use Rattle.sheet_files.specs.Frames.{AreCut, Frame, Part, files_cut, grow, include_known, lists_cut, lists_open, opened_of, parts_of, shares}
use Rattle.sheet_files.proofs.Counting.{cuts_shared, innermost_is, length_cut}
use Rattle.sheet_files.proofs.Courses.{answer_said, answer_then, ends_so, gives_said}
use Rattle.sheet_files.proofs.Ending.{name_by, names_by}
use Rattle.sheet_files.proofs.Entering.{same_known}
use Rattle.sheet_files.proofs.Including.{adds_grown, count, cut_grown, enough, files_grown, files_in, fit_grown, goes, include_grown, on, one_more, opens_too, parts_grown}
use Rattle.sheet_files.proofs.Opening.{files_shared, length_map, map_append, slice_at}
use Rattle.sheet_files.proofs.Places.{file_is, innermost, number_in}

-- where an include's tag is
abbrev pub tag_at : List Level → ℕ
tag_at [] = 0
tag_at (x ∷ levels) = x.at

module _ (reads : Reads) (files : List (Option File)) where
  absent_by : (names : List (List ℕ)) (v : Version) (levels : List Level) (href : List ℕ) (l : Loading) (f : Future)
      → IsInElement levels → slice_get files (length l.sheet.files) ≡ Some None
      → file_then reads files (place_in names files v levels).opens href l f ≡ Say href (Halt (Refused (record { file = number_in (lists_in levels); offset = tag_at levels }) code.NoDocument))
  absent_by names v [] href l f inside none = absurd inside
  absent_by names v (x ∷ levels) href l f inside none =
      let in_what : What → Place_in = λ w. entered names files v w x (place_in names files (version_around v w) levels) in
      let q : Place_in = place_in names files v levels in
      let what = inside.2 in
      let file : q.here.file ≡ number_in (lists_in (x ∷ levels)) = file_is names files v levels ∙ ap (λ (o : Of). innermost o (number_in (lists_in levels))) (sym (ap of_what what)) in
      ap (λ w. file_then reads files (in_what w).opens href l f) what
      ∙ ap (λ o. Say href (and_then (file_given reads files q.here x.at (length l.sheet.files) o href l) (λ r. continue reads files (Of_file q.here q.before (tag_of x nameless []) inside.0 inside.1 ∷ q.opens) r f))) none
      ∙ ap (λ (n : ℕ). Say href (Halt (Refused (record { file = n; offset = x.at }) code.NoDocument))) file

  -- the fault stands at the include
  pub absent_there : (s : Stage) (href : List ℕ) (f : Future) → IsInElement s.levels → slice_get files (length s.loading.sheet.files) ≡ Some None
      → remaining reads files (Wants_file href s) f ≡ Say href (Halt (Refused (record { file = number_in (lists_in s.levels); offset = tag_at s.levels }) code.NoDocument))
  absent_there s href f inside none = absent_by s.loading.sheet.files (version_by s.version f) s.levels href s.loading f inside none

pick : {A : Type 0} (xs ys : List A) (n : ℕ) → n < length xs → slice_get (xs ++ ys) n ≡ slice_get xs n
pick [] ys n lt = absurd (omega (arith, lt))
pick (x ∷ xs) ys zero lt = refl
pick (x ∷ xs) ys (suc n) lt = pick xs ys n (omega (arith, lt))

same_place : (a b : Place) (why other : SheetCode) → Refused a why ≡ Refused b other → a ≡ b
same_place a b why other e = cc

module _ (limits : Limits) (docs : Documents) (name : List ℕ) (one : ComesToOne) (f : Frame) (outer : List Frame) (y : Standing) (left : ℕ) (follows : Follows limits docs name (f ∷ outer) y left)
    (href : List ℕ) (s : Stage) (wants_it : y.progress ≡ Wants_file href s) (in_element : IsInElement s.levels) (some : 0 < f.lists) (taken : 0 < f.taken)
    (z : Standing) (misses : MissesIt y z) (names : z.names ≡ y.names) where
  abbrev around : List Frame
  around = grow 0 (include_known f ∷ outer)

  abbrev cuts : List ℕ
  cuts = shares limits around

  around_cut : AreCut around cuts
  around_cut =
      let adds = adds_grown 0 (include_known f ∷ outer) follows.spent follows.adds in
      let all = follows.all in
      cuts_shared limits (record f { part = record f.part { inside = f.part.inside + 0; known = f.taken } }) (grow 0 outer) (follows.spent + 0) adds.0 (omega (arith, all)) (include_grown 0 outer follows.include)

  here_cut : AreCut (f ∷ outer) cuts
  here_cut = cut_grown 0 (include_known f ∷ outer) cuts around_cut

  abbrev files : List (Option File)
  files = files_cut limits (f ∷ outer) cuts ++ None ∷ []

  absent_at : slice_get files (length s.loading.sheet.files) ≡ Some None
  absent_at =
      ap (λ (n : ℕ). slice_get files n)
      (ap length (files_in limits docs name one f outer y left follows href s wants_it in_element some taken)
      ∙ sym (length_cut limits (f ∷ outer) cuts here_cut ∙ count limits docs name one f outer y left follows href s wants_it in_element some taken))
      ∙ slice_at (files_cut limits (f ∷ outer) cuts) None []

  names_at : slice_get files (length y.names) ≡ Some None
  names_at = ap (λ (n : ℕ). slice_get files n) (sym (ap length (files_in limits docs name one f outer y left follows href s wants_it in_element some taken))) ∙ absent_at

  number : number_in (lists_in s.levels) ≡ length (parts_of outer)
  number =
      ap (λ (p : Progress). number_in (lists_of p)) (sym wants_it)
      ∙ ap number_in (follows.lists (on limits docs name one f outer y left follows href s wants_it in_element some taken)) ∙ innermost_is f.lists outer (lists_open outer) some

  count_is : length (opened_of around) ≡ length y.names
  count_is =
      let name_in : Part → List ℕ = λ p. p.name in
      sym (length_map (λ (o : Opened). o.name) (opened_of around)) ∙ ap length (names_by (parts_of around) ∙ parts_grown name_in (λ p n. refl) 0 (include_known f ∷ outer) ∙ same_known name_in (λ p n. refl) f outer ∙ follows.names)

  names_are : map (λ (o : Opened). o.name) (opened_of around) ≡ z.names
  names_are =
      let name_in : Part → List ℕ = λ p. p.name in
      names_by (parts_of around) ∙ parts_grown name_in (λ p n. refl) 0 (include_known f ∷ outer) ∙ same_known name_in (λ p n. refl) f outer ∙ follows.names ∙ sym names

  before_it : length (parts_of outer) < length (opened_of around)
  before_it =
      let a = count_is in
      let b = count limits docs name one f outer y left follows href s wants_it in_element some taken in
      let c = length-append (parts_of outer) (f.part ∷ f.done) in
      omega (arith, a, b, c)

  abbrev gone : Opened
  gone = record { name = href; bytes = None; before = f.part.before + f.part.inside + f.taken; inside = 0; known = 0 }

  -- the file of the fault is one of those that were there
  name_is : (n : ℕ) → n ≡ length (parts_of outer) → name_of (opened_of around ++ gone ∷ []) n ≡ name_at z.names n
  name_is n e =
      ap (λ (o : Option Opened). option_map_or (λ (x : Opened). x.name) o []) (pick (opened_of around) (gone ∷ []) n (let b = before_it in omega (arith, b, e)))
      ∙ name_by (opened_of around) n ∙ ap (λ (l : List (List ℕ)). name_at l n) names_are

  abbrev fewer : ℕ
  fewer = (one_more follows.most (enough limits docs name one f outer y left follows href s wants_it in_element some taken)).0

  some_more : 0 < fewer
  some_more =
      let e = (one_more follows.most (enough limits docs name one f outer y left follows href s wants_it in_element some taken)).1 in
      let a = follows.more in
      let b = follows.busy taken in
      let c = follows.all in
      omega (arith, a, b, c, e)

  files_are : (reads : Reads) → map (file_of language reads limits docs name) (opened_of around ++ gone ∷ []) ≡ files
  files_are reads =
      map_append (file_of language reads limits docs name) (opened_of around) (gone ∷ [])
      ∙ ap (λ (l : List (Option File)). l ++ None ∷ []) (files_shared reads limits docs name around (fit_grown limits 0 (include_known f ∷ outer) follows.fit) ∙ files_grown limits 0 (include_known f ∷ outer) cuts)

  -- there is no sheet
  pub no_sheet : (sheet : Sheet) → GivesSheet z sheet → Reads → ⊥
  no_sheet sheet gives reads =
      let code_here = code_of_job reads files in
      let g = lists_cut (f ∷ outer) cuts in
      let after = remaining reads files z.progress g in
      let r = gives reads files g in
      let there : Place = record { file = number_in (lists_in s.levels); offset = tag_at s.levels } in
      let missed : SameAnswer reads files (remaining reads files (Wants_file href s) g) (Say href after) =
      subst (λ (p : Progress). SameAnswer reads files (remaining reads files p g) (Say href after)) wants_it (misses href (ap wanted_in wants_it) reads files g names_at) in
      let known : Ends code_here (remaining reads files (Wants_file href s) g) (href ∷ []) (Refused there code.NoDocument) =
      subst (λ x. Ends code_here x (href ∷ []) (Refused there code.NoDocument)) (sym (absent_there reads files s href g in_element absent_at)) (record { depth = 0; comes = refl }) in
      result_or_end (gives_said (href ∷ []) r.1) (missed.ends.to (href ∷ []) (Refused there code.NoDocument) known)

  module _ (are : AreParts docs (parts_of (f ∷ outer))) (none : docs href ≡ None) where
    -- the fault that the loader tells is that of the definition
    pub absent_loads : (fault : SheetFault) → EndsInFault z fault → (reads : Reads) → load reads limits docs name ≡ loads (y.names ++ href ∷ []) (Err fault)
    absent_loads fault ends reads =
        let code_here = code_of_job reads files in
        let g = lists_cut (f ∷ outer) cuts in
        let at = ends.0 in
        let why : Ending = Refused at fault.code in
        let there : Place = record { file = number_in (lists_in s.levels); offset = tag_at s.levels } in
        let after = remaining reads files z.progress g in
        let missed : SameAnswer reads files (remaining reads files (Wants_file href s) g) (Say href after) =
        subst (λ (p : Progress). SameAnswer reads files (remaining reads files p g) (Say href after)) wants_it (misses href (ap wanted_in wants_it) reads files g names_at) in
        let same = answer_then reads files (goes limits docs name one f outer y left follows href s wants_it in_element some taken cuts here_cut reads (None ∷ [])) (answer_said reads files y.names missed) in
        let ended : Ends code_here (Say href after) (href ∷ []) why = ends_said (href ∷ []) (ends.2 reads files g) in
        let is : outcome reads name files ≡ Over (y.names ++ href ∷ []) why = ends_so reads files one name y.names (Say href after) (href ∷ []) why same ended in
        let told : Ends code_here (remaining reads files (Wants_file href s) g) (href ∷ []) why = missed.ends.from (href ∷ []) why ended in
        let known : Ends code_here (remaining reads files (Wants_file href s) g) (href ∷ []) (Refused there code.NoDocument) =
        subst (λ x. Ends code_here x (href ∷ []) (Refused there code.NoDocument)) (sym (absent_there reads files s href g in_element absent_at)) (record { depth = 0; comes = refl }) in
        let at_is : at ≡ there = same_place at there fault.code code.NoDocument (one_end told known).1 in
        let opened = opened_of around ++ gone ∷ [] in
        let from = load_from language reads limits docs name in
        let m = (one_more fewer some_more).0 in
        let fault_is : fault_at opened at fault.code ≡ fault =
        ap (λ (n : List ℕ). record { file = n; code = fault.code; offset = at.offset }) (name_is at.file (ap (λ (p : Place). p.file) at_is ∙ number)) ∙ sym ends.1 in
        opens_too limits docs name one f outer y left follows href s wants_it in_element some taken are reads
        ∙ ap (λ (b : Option (List ℕ)). from fewer (opened_of (grow (size_of b) (include_known f ∷ outer)) ++ record { name = href; bytes = b; before = f.part.before + f.part.inside + f.taken; inside = 0; known = 0 } ∷ [])) none
        ∙ ap (λ (n : ℕ). from n opened) (one_more fewer some_more).1
        ∙ ap (λ (l : List (Option File)). by_answer language reads limits docs name (from m) opened (outcome reads name l)) (files_are reads)
        ∙ ap (by_answer language reads limits docs name (from m) opened) is
        ∙ ap (λ (a : SheetFault). loads (y.names ++ href ∷ []) (Err a)) fault_is

    pub missing_decides : Decides limits docs name (y.names ++ href ∷ []) z
    missing_decides = record { sheet = λ sheet gives reads. absurd (no_sheet sheet gives reads); fault = absent_loads }
