-- What a run says whose sheet takes the nodes of the main document alone, each list in order.
use Rattle.std.specs.Prelude.{◌≡◌, ℕ, Bool, true, false, List, [], ◌∷◌, ◌++◌, Some, encode_utf8_all, take}
use Rattle.std.specs.List.{concat}
use Rattle.stx_base.specs.Course.{Begins, Ends}
use Rattle.result_writer.specs.Target.{nothing}
use Rattle.stx_host.specs.Before.{AtMainReads, Taken}
use Rattle.stx_host.specs.Outside.{LacksRoom, Outside}
use Rattle.stx_host.specs.Rooms.{needed}
use Rattle.stx_host.specs.declared.act.Act.{Act}
use Rattle.xml_events.specs.Document.{doc_for}
use Rattle.xml_events.specs.Tree.{Forest}
use Rattle.template_machine.specs.Ending.{Ending, Needs, Said}
use Rattle.template_machine.specs.Job.{Given}
use Rattle.template_machine.specs.Meaning.{code, meaning}
use Rattle.template_machine.specs.Outcome.{AreNew}
use Rattle.template_machine.specs.Written.{lines_of, settled_by}
use Rattle.fault_report.specs.declared.outcome.HostFault.TheVariants as fault
use Rattle.fault_report.specs.declared.outcome.Outcome.{Outcome}
use Rattle.fault_report.specs.declared.outcome.Outcome.TheVariants as outcome
use Rattle.run_engine.specs.Does.{InOrder, IsRunOf, told_as}
use Rattle.run_engine.specs.More.{Coming, nothing_yet}
use Rattle.run_engine.specs.Run.{Main, Over, Run, Stage, at_start, head}
use Rattle.sheet_files.specs.Acts.{opens}
use Rattle.sheet_runs.specs.Counts.{IfFailed}
use Rattle.sheet_runs.specs.Runs.{RunsSheet}
use Rattle.sheet_runs.specs.Talk.{Exchange, Leads, bytes_in, main_ends, main_in, names_in, notes_in}
use Rattle.sheet_runs.specs.declared.main_document.Main as main_document
use Rattle.sheet_runs.specs.declared.main_document.Main.TheVariants.{Host as OfHost, Sample}
use Rattle.sheet_runs.specs.declared.run.End.{End}
use Rattle.sheet_runs.specs.declared.run.End.TheVariants.{Told, Unnoted}
use Rattle.sheet_runs.specs.declared.run.Ran.{Ran}

-- the main document's tree, of the bytes of which these are all, or where it isn't ended the first ones
abbrev pub tree_of : Given → Coming → Forest
tree_of given x = doc_for given.limits given.sheet.strip given.sheet.cdata x.bytes x.ended

-- what was handed in of the main document, and then what is still to come, unless it has ended
abbrev pub came_by : (ended : Bool) → (handed : List ℕ) → Coming → Coming
came_by true handed x = record { bytes = handed; ended = true }
came_by false handed x = record { bytes = handed ++ x.bytes; ended = x.ended }

abbrev pub came : (start : Run) → List Exchange → Coming → Coming
came start talk x = came_by (main_ends start talk) (main_in start talk) x

-- a result begins with its head, once the run has begun
abbrev pub head_in : List Exchange → List ℕ
head_in [] = []
head_in (x ∷ talk) = head

-- this was settled, or where memory was wanting a beginning of it
abbrev pub WasSettled : Stage → (settled all : List ℕ) → Type 0
WasSettled (Over outcome.Memory) settled all = Begins settled all
WasSettled stage settled all = settled ≡ all

-- a run that is over ended so: its outcome is how the sheet's meaning ends, unless memory was wanting
abbrev pub EndedAs : (files : List (List ℕ)) → Stage → Ending → Type 0
EndedAs files (Over outcome.Memory) e = Unit {0}
EndedAs files (Over o) e = o ≡ told_as files e
EndedAs files stage e = Unit {0}

-- it is over, and memory sufficed
abbrev pub HasEnded : Stage → Type 0
HasEnded (Over outcome.Memory) = ⊥
HasEnded (Over o) = Unit {0}
HasEnded stage = ⊥

-- What a run said: all that it settled is of that. Where it asks for more of the main document that is all that the sheet means on the
-- bytes so far, and it needs more; where it has ended that is what it means on the document, whatever was still to come, and it ends so;
-- and in any case it is the beginning of that.
pub record Means (given : Given) (start run : Run) (talk : List Exchange) : Type 0 where
  pub said : List Said
  pub bytes : WasSettled run.stage (bytes_in talk) (head_in talk ++ settled_by nothing said)
  pub notes : WasSettled run.stage (notes_in talk) (lines_of said)
  pub asks : run.stage ≡ Main → (main_ends start talk ≡ false) × Ends (code given) (meaning given (tree_of given (came start talk nothing_yet))) said Needs
  pub ends : HasEnded run.stage → (x : Coming) → (e : Ending) × (EndedAs given.sheet.files run.stage e × Ends (code given) (meaning given (tree_of given (came start talk x))) said e)
  pub begins : (x : Coming) (os : List Said) (e : Ending) → Ends (code given) (meaning given (tree_of given (came start talk x))) os e → Begins said os
  -- it asks for no other document, and has asked for none
  pub order : InOrder run
  pub names : names_in start talk ≡ []

-- So it is with all runs from their beginning.
abbrev pub RunsMean : Type 0
RunsMean =
    (given : Given) (start run : Run) (talk : List Exchange) → AreNew given → start ≡ at_start given.sheet given.limits start.machine → IsRunOf given start → InOrder start
    → Leads start talk run
    → Means given start run talk

-- Before a read of the main document: all that these first bytes of it settle was written, and no more; and more is needed.
pub record IsSettledOn (given : Given) (bytes : List ℕ) (taken : Taken) : Type 0 where
  pub said : List Said
  pub needs : Ends (code given) (meaning given (tree_of given (record { bytes = bytes; ended = false }))) said Needs
  pub out : taken.out ≡ head ++ settled_by nothing said
  pub note : taken.note ≡ lines_of said

-- A run that ended so has written all that its sheet means on the main document, and has ended as that does.
pub record EndsMeaning (given : Given) (document bytes messages : List ℕ) (o : Outcome) : Type 0 where
  pub said : List Said
  pub ending : Ending
  pub means : Ends (code given) (meaning given (tree_of given (record { bytes = document; ended = true }))) said ending
  pub out : bytes ≡ head ++ settled_by nothing said
  pub note : messages ≡ lines_of said
  pub is : o ≡ told_as given.sheet.files ending

-- so it is unless the host failed or memory was wanting
abbrev pub EndsAsMeant : Given → (document out note : List ℕ) → End → Type 0
EndsAsMeant given document out note (Told (outcome.Host file fault offset)) = Unit {0}
EndsAsMeant given document out note (Told outcome.Memory) = Unit {0}
EndsAsMeant given document out note Unnoted = Unit {0}
EndsAsMeant given document out note (Told o) = EndsMeaning given document out note o

-- and in any case what was written is a beginning of that
pub record WritesMeaning (given : Given) (document out note : List ℕ) (end : End) : Type 0 where
  pub begins : (said : List Said) (e : Ending) → Ends (code given) (meaning given (tree_of given (record { bytes = document; ended = true }))) said e
      → Begins out (head ++ settled_by nothing said) × Begins note (lines_of said)
  pub ends : EndsAsMeant given document out note end

-- the main document: the host's, or the sample
abbrev pub IsDocument : main_document.Main → Outside → (document : List ℕ) → Type 0
IsDocument OfHost old document = old.to_come 0 ≡ Some document
IsDocument (Sample pieces) old document = document ≡ encode_utf8_all (concat pieces)

-- a failure on another document than the main one
abbrev pub IsOnOther : End → Type 0
IsOnOther (Told (outcome.Host file fault.Doc offset)) = Unit {0}
IsOnOther end = ⊥

-- What a whole run over a host writes, before each read of the main document and in the end; that it opens no other document; and where the host
-- failed, that it lacked room, where that is told, for an act more or for all that the sheet means.
pub record KeepsMeaning (given : Given) (main : main_document.Main) (old new : Outside) (acts : List Act) (out note : List ℕ) (end : End) : Type 0 where
  pub reads : (document : List ℕ) → old.to_come 0 ≡ Some document → AtMainReads acts out note (λ taken. IsSettledOn given (take taken.main_read document) taken)
  pub writes : (document : List ℕ) → IsDocument main old document → WritesMeaning given document out note end
  pub opened : opens acts ≡ []
  pub alone : IsOnOther end → ⊥
  pub room : (document : List ℕ) → IsDocument main old document → (said : List Said) (e : Ending)
      → Ends (code given) (meaning given (tree_of given (record { bytes = document; ended = true }))) said e
      → IfFailed end old new (LacksRoom old (needed acts (head ++ settled_by nothing said) (lines_of said)))

-- So it is with all whole runs of such sheets.
abbrev pub RunsKeepMeaning : Type 0
RunsKeepMeaning =
    (given : Given) (start : Run) (main : main_document.Main) (old new : Outside) (ran : Ran) → AreNew given → start ≡ at_start given.sheet given.limits start.machine → IsRunOf given start → InOrder start
    → (r : RunsSheet start main old new ran) → KeepsMeaning given main old new r.acts r.out r.note ran.end
