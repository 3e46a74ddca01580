-- What contracts see of a loader: where it stands, and the names of the files that were opened.
use Rattle.std.specs.Prelude.{◌≡◌, ℕ, Bool, true, false, List, [], ◌∷◌, ◌++◌, length, slice_get, Option, Some, None}
use Rattle.stx_base.specs.Course.{Ends, Gives, Say}
use Rattle.stx_base.specs.declared.fault.Place.{Place}
use Rattle.stx_base.specs.declared.fault.SheetCode.{SheetCode}
use Rattle.stx_base.specs.declared.fault.SheetFault.{SheetFault}
use Rattle.stx_base.specs.declared.fault.XmlFault.{XmlFault}
use Rattle.xml_events.specs.Telling.{followed}
use Rattle.xml_events.specs.Tree.{Bad, Cut, Future, Need}
use Rattle.xml_events.specs.declared.event.Event.{Event}
use Rattle.sheet_model.specs.declared.sheet.Sheet.{Sheet}
use Rattle.sheet_loader.specs.Levels.{name_at}
use Rattle.sheet_loader.specs.Read.{code_of_job}
use Rattle.sheet_loader.specs.Reading.{File, Refused, Listed}
use Rattle.sheet_loader.specs.Remaining.{Progress, Reads_on, Refused_at, Wants_file, place_of, remaining}
use Rattle.sheet_loader.specs.Resuming.{SameAnswer}
use Rattle.sheet_loader.specs.Values.{Reads}
use Rattle.sheet_loader.specs.Versions.{language, version_of}

-- where a loader stands, and the names that were opened, in order
pub record Standing : Type 0 where
  pub names : List (List ℕ)
  pub progress : Progress

-- the name of a wanted file
abbrev pub wanted_in : Progress → Option (List ℕ)
wanted_in (Wants_file href s) = Some href
wanted_in other = None

abbrev pub is_refused : Progress → Bool
is_refused (Refused_at at why) = true
is_refused other = false

-- a fault was found, or the sheet's own file was read to its end, or memory was wanting
abbrev pub is_over : Progress → Bool
is_over (Reads_on s) = false
is_over (Wants_file href s) = false
is_over other = true

-- an event is taken: what is done on it, and then on what follows, is what is done on that from then on
abbrev pub TakesEvent : Event → (old new : Progress) → Type 0
TakesEvent e old new =
    (reads : Reads) (files : List (Option File)) (f : Future)
    → SameAnswer reads files (remaining reads files old (followed e f)) (remaining reads files new f)

-- a file that is there is opened: its nodes come next
abbrev pub OpensIt : (old new : Standing) → Type 0
OpensIt old new =
    (href : List ℕ) → wanted_in old.progress ≡ Some href
    → (reads : Reads) (files : List (Option File)) (file : File) (f : Future)
    → slice_get files (length old.names) ≡ Some (Some file)
    → file.version ≡ version_of language file.nodes
    → SameAnswer reads files (remaining reads files old.progress f) (Say href (remaining reads files new.progress (file.nodes ∷ f)))

-- the name of the file that was wanted comes last
abbrev pub OpensName : Option (List ℕ) → (old new : List (List ℕ)) → Type 0
OpensName None old new = new ≡ old
OpensName (Some href) old new = new ≡ old ++ href ∷ []

-- a fault comes where a loader reads on
abbrev pub stopped_at : Place → SheetCode → Progress → Progress
stopped_at at why (Reads_on s) = Refused_at at why
stopped_at at why other = other

-- a file is absent
abbrev pub MissesIt : (old new : Standing) → Type 0
MissesIt old new =
    (href : List ℕ) → wanted_in old.progress ≡ Some href
    → (reads : Reads) (files : List (Option File)) (f : Future)
    → slice_get files (length old.names) ≡ Some None
    → SameAnswer reads files (remaining reads files old.progress f) (Say href (remaining reads files new.progress f))

-- a file that is read has a fault
abbrev pub EndsBad : XmlFault → (old new : Progress) → Type 0
EndsBad fault (Reads_on s) new =
    (reads : Reads) (files : List (Option File)) (f : Future)
    → SameAnswer reads files (remaining reads files (Reads_on s) (Cut (Bad fault) ∷ f)) (remaining reads files new f)
EndsBad fault old new = new ≡ old

-- the limit on sheets is reached in a file that is read
abbrev pub EndsAtLimit : (most : ℕ) → (old new : Progress) → Type 0
EndsAtLimit most (Reads_on s) new =
    (reads : Reads) (files : List (Option File)) (f : Future)
    → (place_of files s (Cut Need ∷ f)).here.limit ≡ Some most
    → SameAnswer reads files (remaining reads files (Reads_on s) (Cut Need ∷ f)) (remaining reads files new f)
EndsAtLimit most old new = new ≡ old

-- the sheet, where nothing more is said and no fault comes
abbrev pub GivesSheet : Standing → Sheet → Type 0
GivesSheet x sheet =
    (reads : Reads) (files : List (Option File)) (f : Future)
    → (r : Listed) × Gives (code_of_job reads files) (remaining reads files x.progress f) [] r × (r.loading.sheet ≡ sheet)

-- the first fault, by the name of its file
abbrev pub EndsInFault : Standing → SheetFault → Type 0
EndsInFault x fault =
    (at : Place)
    × (fault ≡ record { file = name_at x.names at.file; code = fault.code; offset = at.offset })
    × ((reads : Reads) (files : List (Option File)) (f : Future) → Ends (code_of_job reads files) (remaining reads files x.progress f) [] (Refused at fault.code))
