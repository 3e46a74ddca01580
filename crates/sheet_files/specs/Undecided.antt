-- That the files of a sheet are read no further than it takes to decide it.
use Rattle.std.specs.Prelude.{◌≡◌, ℕ, zero, suc, ◌≤◌, false, ◌==◌, if◌then◌else◌, List, [], ◌∷◌, ◌++◌, map, length, take, slice_get, Option, Some, None, IfSome}
use Rattle.std.specs.Option.{option_and_then, option_map, option_map_or}
use Rattle.stx_base.specs.Course.{Answer, Over}
use Rattle.stx_base.specs.declared.fault.SheetCode.TheVariants as code
use Rattle.stx_base.specs.declared.limits.Limits.{Limits}
use Rattle.stx_host.specs.Outside.{Outside, document}
use Rattle.stx_host.specs.declared.act.Act.{Act}
use Rattle.stx_host.specs.declared.act.Act.TheVariants.{Open, Read}
use Rattle.xml_events.specs.Document.{doc}
use Rattle.xml_events.specs.Tree.{Forest}
use Rattle.sheet_loader.specs.Files.{Documents, Opened, changed, file_of, share, with_file}
use Rattle.sheet_loader.specs.Load.{outcome}
use Rattle.sheet_loader.specs.Reading.{Ending, File, Listed, Refused, Wants}
use Rattle.sheet_loader.specs.Values.{Reads}
use Rattle.sheet_loader.specs.Versions.{language, version_of}
use Rattle.sheet_files.specs.Acts.{opens, read_since_open}
use Rattle.sheet_files.specs.Opened.{documents_told}

-- the nodes of a file, where these are the first of its bytes, and more may come
abbrev pub nodes_begun : Limits → (bytes : List ℕ) → Forest
nodes_begun limits bytes = doc limits false bytes false

-- a file that has more bytes than these, which are so many
abbrev pub begun : Limits → (bytes : List ℕ) → (read : ℕ) → File
begun limits bytes read = record { version = version_of language (nodes_begun limits bytes); nodes = nodes_begun limits bytes; limit = Some read }

module _ (reads : Reads) (limits : Limits) (docs : Documents) (name : List ℕ) where
  -- these files, and one more where they want one
  abbrev pub and_next : List Opened → Answer Listed (List ℕ) Ending → List Opened
  and_next opened (Over names (Wants numbers wanted)) = with_file language reads limits docs name opened numbers wanted
  and_next opened answer = opened

  -- the files as the sheet's definition has them where so many were opened
  abbrev pub files_at : (count : ℕ) → List Opened
  files_at zero = []
  files_at (suc n) = and_next (files_at n) (outcome reads name (map (file_of language reads limits docs name) (files_at n)))

  -- these files, where so many bytes of one were read, and there are more
  abbrev pub read_to : (number read : ℕ) → List Opened → List (Option File)
  read_to number read opened =
      changed (λ f. option_and_then (λ o. option_map (λ bytes. begun limits (take read bytes) read) o.bytes) (slice_get opened number)) number (map (file_of language reads limits docs name) opened)

  -- What was read of a file leaves the sheet open: were that all that may be read of it, the sheet would be too large just there, so that nothing
  -- decides it before. And no more was read of the file than the limit on sheets lets be read.
  pub record IsOpenYet (opened : List Opened) (number read : ℕ) : Type 0 where
    pub within : read ≤ option_map_or (share limits) (slice_get opened number) 0
    pub names : List (List ℕ)
    pub goes_on : outcome reads name (read_to number read opened) ≡ Over names (Refused (record { file = number; offset = read }) code.SheetTooLarge)

-- the number of the file that an id was given for last, in the order of opening, where so many were opened and this was said before these acts
abbrev pub number_behind : (count : ℕ) → (before : Option ℕ) → (id : ℕ) → List Act → Option ℕ
number_behind count before id [] = before
number_behind count before id (Open doc k ∷ acts) = number_behind (suc count) (if k == id then Some count else before) id acts
number_behind count before id (act ∷ acts) = number_behind count before id acts

abbrev pub number_of : (id : ℕ) → List Act → Option ℕ
number_of id acts = number_behind 0 None id acts

module _ (reads : Reads) (limits : Limits) (docs : Documents) (name : List ℕ) where
  -- where acts were done, a read of an id is one of a file of the sheet, and the sheet isn't decided by what was read of that
  pub record MayRead (acts : List Act) (id : ℕ) : Type 0 where
    pub number : ℕ
    pub is_number : number_of id acts ≡ Some number
    pub open_yet : IsOpenYet reads limits docs name (files_at reads limits docs name (length (opens acts))) number (read_since_open id acts)

  -- all reads come where the sheet isn't decided yet, where these acts were done before
  abbrev pub ReadUndecided : (before : List Act) → List Act → Type 0
  ReadUndecided before [] = Unit {0}
  ReadUndecided before (Read id got ∷ acts) = MayRead before id × ReadUndecided (before ++ Read id got ∷ []) acts
  ReadUndecided before (act ∷ acts) = ReadUndecided (before ++ act ∷ []) acts

-- the same of a host that tells its documents and its ids
abbrev pub IsUndecided : (start : Outside) → Limits → (name : List ℕ) → List Act → Type 0
IsUndecided start limits name acts = IfSome (documents_told start) (λ docs. (reads : Reads) → ReadUndecided reads limits (document docs) name [] acts)
