-- What the program answers: words, documents and a main document in, and what it writes, how it ends and the names that it
-- opens out. Nothing here knows in which pieces the bytes come.
use Rattle.std.specs.Prelude.{ℕ, Bool, true, false, if◌then◌else◌, List, [], ◌++◌, map, Option, Some, None, is_some, option_map, Result, Ok, Err}
use Rattle.std.specs.Option.{option_and_then, option_map_or}
use Rattle.command_words.specs.Said.{Word}
use Rattle.command_words.specs.Words.{command_of}
use Rattle.command_words.specs.declared.command.Command.{Command}
use Rattle.command_words.specs.declared.command.Mode.{Mode}
use Rattle.command_words.specs.declared.command.Mode.TheVariants.{Run, Check, Sample}
use Rattle.command_words.specs.declared.param.Param as given
use Rattle.stx_base.specs.Course.{Answer as Came, Given as Gave, Over, Unknown}
use Rattle.stx_base.specs.StandardLimits.{standard_limits}
use Rattle.stx_base.specs.declared.fault.SheetFault.{SheetFault}
use Rattle.stx_host.specs.Outside.{document}
use Rattle.stx_host.specs.declared.act.Doc.{Doc}
use Rattle.fault_report.specs.declared.outcome.Outcome.{Outcome}
use Rattle.fault_report.specs.declared.outcome.Outcome.TheVariants.{Done, Usage, Sheet, Memory}
use Rattle.result_writer.specs.Target.{nothing}
use Rattle.sheet_loader.specs.Files.{Loads, load}
use Rattle.sheet_loader.specs.Values.{Reads}
use Rattle.sheet_model.specs.declared.sheet.Sheet as model
use Rattle.template_machine.specs.Commands.{given_by}
use Rattle.template_machine.specs.Ending.{Ending, Said}
use Rattle.template_machine.specs.Job.{Given, Here}
use Rattle.template_machine.specs.Outcome.{outcome}
use Rattle.template_machine.specs.Written.{lines_of, settled_by}
use Rattle.template_machine.specs.declared.turn.Param.{Param}
use Rattle.run_engine.specs.Does.{told_as}
use Rattle.run_engine.specs.Run.{head}
use Rattle.sheet_runs.specs.Meant.{tree_of}
use Rattle.stx_engine.specs.Plain.{pass_of, takes_in_order}
use Rattle.stx_engine.specs.RunEnd.{line_in, on_sample, sample_of, summary_of}
use Rattle.stx_engine.specs.declared.run_end.RunEnd.{RunEnd}
use Rattle.stx_engine.specs.declared.run_end.RunEnd.TheVariants.{Told}

-- What is written to `Out`; the messages on `Note`, behind which the line of the end is written, whose status is the program's; and the names
-- that are opened, in order.
pub record Answer : Type 0 where
  pub out : List ℕ
  pub messages : List ℕ
  pub end : RunEnd
  pub opened : List (List ℕ)

-- all that is written to `Note`: the messages, and the line of the end
abbrev pub note_of : Answer → List ℕ
note_of a = a.messages ++ line_in a.end

-- nothing is run
abbrev pub answered : Outcome → (opened : List (List ℕ)) → Answer
answered o opened = record { out = []; messages = []; end = Told o; opened = opened }

-- the sheet that the words name, where they are accepted
abbrev pub sheet_named : (words : List Word) → Option (List ℕ)
sheet_named words = option_map (λ c. c.sheet) (command_of words)

-- what is to be done is a run on the main document
abbrev pub is_run : Mode → Bool
is_run Run = true
is_run mode = false

-- the words ask for a run on the main document
abbrev pub asks_run : (words : List Word) → Bool
asks_run words = option_map_or (λ c. is_run c.mode) (command_of words) false

-- what is to be done is a run, on the main document or on the sample
abbrev pub is_any_run : Mode → Bool
is_any_run Check = false
is_any_run mode = true

-- the words ask for one
abbrev pub asks_any_run : (words : List Word) → Bool
asks_any_run words = option_map_or (λ c. is_any_run c.mode) (command_of words) false

-- what comes of the sheet that a command names: the names of its files, in the order in which they are opened, and the sheet or its
-- first fault
abbrev pub loaded : Reads → List Doc → Command → Loads
loaded reads docs c = load reads standard_limits (document docs) c.sheet

abbrev pub accepted : Result model.Sheet SheetFault → Option model.Sheet
accepted (Ok sheet) = Some sheet
accepted (Err fault) = None

-- a command, and the sheet that it names
pub record Asked_for : Type 0 where
  pub command : Command
  pub sheet : model.Sheet

-- a parameter of the command, as a sheet takes it
abbrev pub param_of : given.Param → Param
param_of p = record { name = p.name; value = p.value }

-- what the sheet's meaning is given: the command's parameters and limits; it takes no other document
abbrev pub given_of : Asked_for → Given
given_of k = record { sheet = k.sheet; params = map given_by (map param_of k.command.params); documents = λ name. None; limits = k.command.limits }

-- the document of a run: the main one, or the sample
abbrev pub document_of : Mode → (main : List ℕ) → List ℕ
document_of (Sample records) main = sample_of records
document_of mode main = main

-- how a run ends in which this was written
abbrev pub end_in : Mode → (out : List ℕ) → Outcome → RunEnd
end_in (Sample records) out o = on_sample (summary_of records out) o
end_in mode out o = Told o

-- the bytes of what is said, behind the head
abbrev pub written : List Said → List ℕ
written said = head ++ settled_by nothing said

-- each sheet has a meaning on each document, so that the last two don't come
abbrev pub ran_by : Given → Mode → (opened : List (List ℕ)) → Came Here Said Ending → Answer
ran_by given mode opened (Over said e) =
    record { out = written said; messages = lines_of said; end = end_in mode (written said) (told_as given.sheet.files e); opened = opened }
ran_by given mode opened (Gave said here) = answered Memory opened
ran_by given mode opened (Unknown said) = answered Memory opened

-- what a run answers: what the sheet means on the document's tree
abbrev pub ran : Asked_for → (opened : List (List ℕ)) → (main : List ℕ) → Answer
ran k opened main =
    let given = given_of k in
    ran_by given k.command.mode opened (outcome given (tree_of given (record { bytes = document_of k.command.mode main; ended = true })))

-- what is answered with a sheet that is accepted: to a run only where it takes the nodes of the main document alone, each list in order
abbrev pub mode_answer : Mode → Asked_for → (opened : List (List ℕ)) → (main : List ℕ) → Option Answer
mode_answer Check k opened main = Some (answered Done opened)
mode_answer mode k opened main = if takes_in_order k.sheet then Some (ran k opened main) else None

abbrev pub sheet_answer : Command → (opened : List (List ℕ)) → Result model.Sheet SheetFault → (main : List ℕ) → Option Answer
sheet_answer c opened (Err fault) main = Some (answered (Sheet fault) opened)
sheet_answer c opened (Ok sheet) main = mode_answer c.mode (record { command = c; sheet = sheet }) opened main

abbrev pub words_answer : Reads → Option Command → List Doc → (main : List ℕ) → Option Answer
words_answer reads None docs main = Some (answered Usage [])
words_answer reads (Some c) docs main = let l = loaded reads docs c in sheet_answer c l.opened l.result main

-- The answer, but to a run of a sheet that takes other nodes, or in another order: words and documents are lists of bytes, texts and names
-- lists of characters.
abbrev pub answer : Reads → (words : List Word) → List Doc → (main : List ℕ) → Option Answer
answer reads words docs main = words_answer reads (command_of words) docs main

-- the run that is asked for, on the main document or on the sample, of a sheet that is accepted
abbrev pub run_with : Command → Result model.Sheet SheetFault → Option Asked_for
run_with c (Err fault) = None
run_with c (Ok sheet) = if is_any_run c.mode then Some (record { command = c; sheet = sheet }) else None

abbrev pub asked : Reads → (words : List Word) → List Doc → Option Asked_for
asked reads words docs = option_and_then (λ c. run_with c (loaded reads docs c).result) (command_of words)

-- no instruction is run: the words or the sheet are refused, no run is asked for, or the sheet only passes documents through
abbrev pub runs_none : Reads → (words : List Word) → List Doc → Bool
runs_none reads words docs = option_map_or (λ k. is_some (pass_of k.sheet)) (asked reads words docs) true
