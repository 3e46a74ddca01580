-- What passing a whole document through gives.
use Rattle.std.specs.Prelude.{ℕ, Bool, false, List, [], ◌++◌, codes}
use Rattle.stx_base.specs.declared.limits.Limits.{Limits}
use Rattle.xml_events.specs.Document.{doc}
use Rattle.xml_events.specs.Tree.{Need, Bad, Forest}
use Rattle.stx_base.specs.declared.part.Part.{Part}
use Rattle.result_writer.specs.Target.{nothing, text}
use Rattle.run_engine.specs.Run.{head}
use Rattle.fault_report.specs.declared.outcome.Outcome.{Outcome}
use Rattle.fault_report.specs.declared.outcome.Outcome.TheVariants.{Done, Run as Stopped, Xml, Memory}
use Rattle.sheet_model.specs.declared.pass.Kinds.{Kinds}
use Rattle.template_machine.specs.Ending.{result_code}
use Rattle.stx_engine.specs.inside.Passed.{Ending, Complete, Unready, Refused, Run, passed, run_from}

-- a run on a tree, where so many elements of the result may be open
abbrev pub run_by : (limit : ℕ) → Kinds → Forest → Run
run_by limit pass tree = let p = passed pass [] tree in run_from limit nothing p.parts p.stop

-- a run on a document's bytes, of which these are all, or where it isn't ended the first ones
abbrev pub run_on : Limits → Kinds → List ℕ → (ended : Bool) → Run
run_on limits pass bytes ended = run_by limits.elements pass (doc limits false bytes ended)

-- the bytes of a result: its head, and then its parts
abbrev pub output : List Part → List ℕ
output ps = head ++ text ps

abbrev pub result_of : Run → List ℕ
result_of run = output run.parts

-- what is settled of the result once these first bytes of a document are read
abbrev pub settled : Limits → Kinds → List ℕ → List ℕ
settled limits pass bytes = result_of (run_on limits pass bytes false)

-- the outcome of a run: faults of the document are those of the main one, `-`, and faults of the result are told at the root of the
-- sheet. A document that has ended needs no more of it, so that the last doesn't come
abbrev pub outcome_of : (sheet : List ℕ) → Ending → Outcome
outcome_of sheet Complete = Done
outcome_of sheet (Refused fault) = Stopped sheet (result_code fault) 0
outcome_of sheet (Unready (Bad fault)) = Xml (codes "-") fault
outcome_of sheet (Unready Need) = Memory
