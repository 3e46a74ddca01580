-- What a sheet is where nothing more of it is read.
use Rattle.std.proofs.Common.{◌≡◌, ℕ, zero, suc, ◌<◌, Bool, true, length, List, [], ◌∷◌, ◌++◌, map, Option, Ok, Err, refl, sym, ap, subst, ◌∙◌, arith}
use Rattle.stx_base.specs.Course.{Given, Over}
use Rattle.stx_base.specs.declared.fault.SheetFault.{SheetFault}
use Rattle.stx_base.specs.declared.limits.Limits.{Limits}
use Rattle.sheet_model.specs.declared.sheet.Sheet.{Sheet}
use Rattle.sheet_loader.specs.Files.{Documents, Opened, by_answer, fault_at, file_of, load, load_from, loads, name_of, share}
use Rattle.sheet_loader.specs.Laws.{ComesToOne}
use Rattle.sheet_loader.specs.Levels.{name_at}
use Rattle.sheet_loader.specs.Load.{outcome}
use Rattle.sheet_loader.specs.Loaders.{EndsInFault, GivesSheet, Standing, is_over}
use Rattle.sheet_loader.specs.Reading.{File, Refused}
use Rattle.sheet_loader.specs.Remaining.{remaining}
use Rattle.sheet_loader.specs.Values.{Reads}
use Rattle.sheet_loader.specs.Versions.{language}
use Rattle.sheet_files.specs.Following.{AreParts, Comes, Decides, Follows}
use Rattle.sheet_files.specs.Frames.{ComesTo, Frame, Part, as_opened, files_cut, lists_cut, opened_of, parts_of, shares}
use Rattle.sheet_files.specs.Reading.{IsSoundWithin}
use Rattle.sheet_files.proofs.Courses.{ends_so, gives_so}
use Rattle.sheet_files.proofs.Including.{one_more}
use Rattle.sheet_files.proofs.Opening.{append_none, files_shared}
use Rattle.sheet_files.proofs.Sounding.{gives_sound}

pub name_by : (opened : List Opened) (number : ℕ) → name_of opened number ≡ name_at (map (λ (o : Opened). o.name) opened) number
name_by [] number = refl
name_by (o ∷ opened) zero = refl
name_by (o ∷ opened) (suc n) = name_by opened n

pub names_by : (parts : List Part) → map (λ (o : Opened). o.name) (map as_opened parts) ≡ map (λ (p : Part). p.name) parts
names_by [] = refl
names_by (p ∷ parts) = ap (λ (l : List (List ℕ)). p.name ∷ l) (names_by parts)

module _ (limits : Limits) (docs : Documents) (name : List ℕ) (one : ComesToOne) (frames : List Frame) (x : Standing) (left : ℕ) (follows : Follows limits docs name frames x left) (over : is_over x.progress ≡ true) (are : AreParts docs (parts_of frames)) where
  comes : ComesTo limits name x.names frames x.progress (shares limits frames)
  comes = subst (λ (b : Bool). Comes limits name frames x b) over follows.comes

  enough : 0 < follows.most
  enough = let a = follows.more in let b = follows.few in let c = follows.all in omega (arith, a, b, c)

  loads_by : (reads : Reads) → let files = map (file_of language reads limits docs name) (opened_of frames) in
      load reads limits docs name ≡ by_answer language reads limits docs name (load_from language reads limits docs name (one_more follows.most enough).0) (opened_of frames) (outcome reads name files)
  loads_by reads = follows.loads are reads ∙ ap (λ (n : ℕ). load_from language reads limits docs name n (opened_of frames)) (one_more follows.most enough).1

  files_are : (reads : Reads) → map (file_of language reads limits docs name) (opened_of frames) ≡ files_cut limits frames (shares limits frames) ++ []
  files_are reads = files_shared reads limits docs name frames follows.fit ∙ sym (append_none (files_cut limits frames (shares limits frames)))

  -- it is the sheet that the loader gives
  pub sheet_loads : (sheet : Sheet) → GivesSheet x sheet → (reads : Reads) → load reads limits docs name ≡ loads x.names (Ok sheet)
  sheet_loads sheet gives reads =
      let files = files_cut limits frames (shares limits frames) ++ [] in
      let f = lists_cut frames (shares limits frames) in
      let r = gives reads files f in
      let is : outcome reads name files ≡ Given (x.names ++ []) r.0 = gives_so reads files one name x.names (remaining reads files x.progress f) [] r.0 (comes reads []) r.1 in
      let answer_of = by_answer language reads limits docs name (load_from language reads limits docs name (one_more follows.most enough).0) (opened_of frames) in
      loads_by reads
      ∙ ap (λ (l : List (Option File)). answer_of (outcome reads name l)) (files_are reads)
      ∙ ap answer_of is
      ∙ ap (λ (ns : List (List ℕ)). loads ns (Ok r.0.loading.sheet)) (append_none x.names)
      ∙ ap (λ (a : Sheet). loads x.names (Ok a)) r.2

  -- it has the fault that the loader tells
  pub fault_loads : (fault : SheetFault) → EndsInFault x fault → (reads : Reads) → load reads limits docs name ≡ loads x.names (Err fault)
  fault_loads fault ends reads =
      let files = files_cut limits frames (shares limits frames) ++ [] in
      let f = lists_cut frames (shares limits frames) in
      let at = ends.0 in
      let is : outcome reads name files ≡ Over (x.names ++ []) (Refused at fault.code) = ends_so reads files one name x.names (remaining reads files x.progress f) [] (Refused at fault.code) (comes reads []) (ends.2 reads files f) in
      let answer_of = by_answer language reads limits docs name (load_from language reads limits docs name (one_more follows.most enough).0) (opened_of frames) in
      let named : name_of (opened_of frames) at.file ≡ name_at x.names at.file = name_by (opened_of frames) at.file ∙ ap (λ (l : List (List ℕ)). name_at l at.file) (names_by (parts_of frames) ∙ follows.names) in
      let told : fault_at (opened_of frames) at fault.code ≡ fault = ap (λ (n : List ℕ). record { file = n; code = fault.code; offset = at.offset }) named ∙ sym ends.1 in
      loads_by reads
      ∙ ap (λ (l : List (Option File)). answer_of (outcome reads name l)) (files_are reads)
      ∙ ap answer_of is
      ∙ ap (λ (ns : List (List ℕ)). loads ns (Err (fault_at (opened_of frames) at fault.code))) (append_none x.names)
      ∙ ap (λ (a : SheetFault). loads x.names (Err a)) told

  pub decides : Decides limits docs name x.names x
  decides = record { sheet = sheet_loads; fault = fault_loads }

-- it is sound, where its own file was read to its end, and is the only one that is being read
pub over_sound : (limits : Limits) (docs : Documents) (name : List ℕ) (f : Frame) (x : Standing) (left : ℕ) → Follows limits docs name (f ∷ []) x left → is_over x.progress ≡ true → f.taken ≡ length f.part.bytes
    → Reads → (sheet : Sheet) → GivesSheet x sheet → IsSoundWithin limits sheet
over_sound limits docs name f x left follows over whole =
    let all = follows.all in
    let read = follows.read in
    gives_sound limits name f (share limits (as_opened f.part)) x (subst (λ (b : Bool). Comes limits name (f ∷ []) x b) over follows.comes) whole (omega (arith, all, read))
