-- What a run does with a piece, where its sheet takes the nodes of the main document alone, each list in order.
use Rattle.std.specs.Prelude.{◌≡◌, ℕ, List, [], ◌∷◌, ◌++◌, None}
use Rattle.stx_base.specs.Course.{Begins, Halt, Same, says}
use Rattle.result_writer.specs.Target.{Left, nothing}
use Rattle.template_machine.specs.Between.{IsOf}
use Rattle.template_machine.specs.Ending.{Done, Ending, Faulted, Malformed, Needs, Said, Spent}
use Rattle.template_machine.specs.Giving.{HasOrdinarySheet, RunsInOrder, params_of}
use Rattle.template_machine.specs.Job.{Given}
use Rattle.template_machine.specs.Outcome.{AreNew}
use Rattle.template_machine.specs.Sinks.{behind_all}
use Rattle.template_machine.specs.Stepwise.{Flat_does, flat_code}
use Rattle.template_machine.specs.Written.{lines_of, settled_by}
use Rattle.template_machine.specs.declared.machine.Machine.{Machine}
use Rattle.fault_report.specs.declared.outcome.Outcome.{Outcome}
use Rattle.fault_report.specs.declared.outcome.Outcome.TheVariants as outcome
use Rattle.run_engine.specs.More.{Coming, more, nothing_yet, with_piece}
use Rattle.run_engine.specs.Run.{Main, New, Open, Over, Run, Stage, begun_with, file_at, file_of}
use Rattle.run_engine.specs.declared.piece.Piece.{Piece}

-- no document is open but the main one
abbrev pub IsMainAlone : List Open → Type 0
IsMainAlone [] = Unit {0}
IsMainAlone (d ∷ []) = d.name ≡ None
IsMainAlone (d ∷ e ∷ ds) = ⊥

-- A run of a sheet that takes them alone has taken no others, has no other document open, and asks for none.
abbrev pub InOrderAt : Stage → Machine → List Open → Type 0
InOrderAt New m ds = HasOrdinarySheet m
InOrderAt Main m ds = RunsInOrder m × IsMainAlone ds
InOrderAt (Over o) m ds = Unit {0}
InOrderAt stage m ds = ⊥

abbrev pub InOrder : Run → Type 0
InOrder r = InOrderAt r.stage r.machine r.documents

-- it is a run of this sheet, within these limits and with these parameters; before it begins nothing was put
pub record IsRunOf (given : Given) (r : Run) : Type 0 where
  pub of : IsOf given.sheet given.limits r.machine
  pub limit : r.output.limit ≡ given.limits.elements
  pub params : given.params ≡ params_of r.machine
  pub bare : r.stage ≡ New → r.output.left ≡ nothing

-- How an ending is told: an instruction by its file, and a document's fault by the document's name. Where a document needs more the run
-- isn't over, so that the last doesn't come.
abbrev pub told_as : (files : List (List ℕ)) → Ending → Outcome
told_as files Done = outcome.Done
told_as files (Faulted fault) = outcome.Run (file_at files fault.at) fault.code fault.at.offset
told_as files (Spent at) = outcome.Fuel (file_at files at) at.offset
told_as files (Malformed document fault) = outcome.Xml (file_of document) fault
told_as files Needs = outcome.Memory

-- So much of what was to come was said, and then it goes on, or the run is over for how it ends. Where memory is wanting it ends anywhere.
abbrev pub EndsAs : Given → (files : List (List ℕ)) → Stage → (was : Flat_does) → List Said → (follows : Flat_does) → Type 0
EndsAs given files Main was said follows = Same (flat_code given) was (says said follows)
EndsAs given files (Over outcome.Memory) was said follows = (y : Flat_does) × Same (flat_code given) was (says said y)
EndsAs given files (Over o) was said follows = (e : Ending) × ((o ≡ told_as files e) × Same (flat_code given) was (says said (Halt e)))
EndsAs given files stage was said follows = ⊥

-- The bytes and the messages of what was said are appended, behind a head where the run begins. Where memory is wanting a beginning of them
-- is.
abbrev pub Appends : Piece → Stage → Left → List Said → (out out_now notes notes_now : List ℕ) → Type 0
Appends p (Over outcome.Memory) left said out out_now notes notes_now =
    Begins out_now (begun_with p out ++ settled_by left said) × Begins notes_now (notes ++ lines_of said)
Appends p stage left said out out_now notes notes_now =
    (out_now ≡ begun_with p out ++ settled_by left said) × (notes_now ≡ notes ++ lines_of said)

-- Whatever is still to come of the main document, ended or not: what a run still gave on a piece and then on that is what was appended now,
-- and then what it still gives on that; and where it asks for more it gives nothing until more comes.
pub record Does (p : Piece) (old new : Run) (out out_now notes notes_now : List ℕ) : Type 0 where
  pub said : List Said
  pub appends : Appends p new.stage old.output.left said out out_now notes notes_now
  pub left : new.output ≡ behind_all old.output said
  pub order : InOrder new
  pub runs : (given : Given) → AreNew given → IsRunOf given old → IsRunOf given new
  pub goes : (given : Given) → AreNew given → IsRunOf given old → (x : Coming) → EndsAs given new.files new.stage (more given old (with_piece p x)) said (more given new x)
  pub settled : new.stage ≡ Main → (given : Given) → Same (flat_code given) (more given new nothing_yet) (Halt Needs)
