-- What a loader still does, by where it stands.
use Rattle.std.specs.Prelude.{ℕ, List, [], ◌∷◌, length, slice_get, Option, Some, None}
use Rattle.stx_base.specs.Course.{Halt, Say, and_then}
use Rattle.stx_base.specs.declared.fault.Place.{Place}
use Rattle.stx_base.specs.declared.fault.SheetCode.{SheetCode}
use Rattle.xml_events.specs.Document.{inner}
use Rattle.xml_events.specs.Tree.{Future}
use Rattle.sheet_loader.specs.Levels.{Level, The_sheet, Place_in, place_in}
use Rattle.sheet_loader.specs.Load.{nothing, whole}
use Rattle.sheet_loader.specs.Read.{file_given}
use Rattle.sheet_loader.specs.Reading.{File, Refused, Unfinished, Item, Listed, Loading, Does}
use Rattle.sheet_loader.specs.References.{first_lost}
use Rattle.sheet_loader.specs.Resuming.{Open, Of_element, Of_file, continue, resume}
use Rattle.sheet_loader.specs.Values.{Reads}
use Rattle.sheet_loader.specs.Versions.{Version, language, version_of}

-- where reading stands: the open lists, the innermost first, how the innermost file is read, once its root is known, and what was read
pub record Stage : Type 0 where
  pub levels : List Level
  pub version : Option Version
  pub loading : Loading

-- where a loader stands
pub data Progress : Type 0 where
  Reads_on : Stage → Progress
  -- an include wants its file
  Wants_file : (href : List ℕ) → Stage → Progress
  -- the sheet's own file was read to its end
  Ended : List Item → Loading → Progress
  Refused_at : Place → SheetCode → Progress
  -- want of memory
  Spent : Progress

-- the sheet's own file, of which nothing is read
abbrev pub file_level : Level
file_level = record { what = The_sheet; at = 0; decls = []; group = 0; before = [] }

abbrev pub beginning : (name : List ℕ) → Progress
beginning name = Reads_on (record { levels = file_level ∷ []; version = None; loading = nothing name })

-- how a file is read, where these nodes are still to come
abbrev pub version_by : Option Version → Future → Version
version_by (Some version) f = version
version_by None f = version_of language (inner f)

abbrev pub place_of : List (Option File) → Stage → Future → Place_in
place_of files s f = place_in s.loading.sheet.files files (version_by s.version f) s.levels

module _ (reads : Reads) (files : List (Option File)) where
  -- the innermost list goes on
  abbrev pub goes_on : Place_in → Loading → Future → Does Listed
  goes_on p l f = resume reads files p.here p.before l p.opens f

  -- the file of the innermost element is read, if it is there, and then what stands in the element
  abbrev pub file_then : List Open → (href : List ℕ) → Loading → Future → Does Listed
  file_then (Of_element here before e kind v ∷ opens) href l f =
      Say href (and_then (file_given reads files here e.offset (length l.sheet.files) (slice_get files (length l.sheet.files)) href l)
      (λ r. continue reads files (Of_file here before e kind v ∷ opens) r f))
  file_then opens href l f = Halt Unfinished

  -- what a loader still does, where these nodes are still to come
  abbrev pub remaining : Progress → Future → Does Listed
  remaining (Reads_on s) f = goes_on (place_of files s f) s.loading f
  remaining (Wants_file href s) f = file_then (place_of files s f).opens href s.loading f
  remaining (Ended items l) f = whole (record { items = items; loading = l }) (first_lost l.sheet l.references)
  remaining (Refused_at at why) f = Halt (Refused at why)
  remaining Spent f = Halt Unfinished
