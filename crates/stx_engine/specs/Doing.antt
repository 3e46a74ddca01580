-- What is done with a sheet, by what is asked for.
use Rattle.std.specs.Prelude.{◌≡◌, ℕ, ◌+◌, ◌<◌, ◌≤◌, ◌^◌, ◌⊎◌, List, map, Some, None, Ok, Err}
use Rattle.std.specs.declared.result.Result.{Result}
use Rattle.stx_base.specs.StandardLimits.{standard_limits}
use Rattle.stx_base.specs.declared.limits.Limits.{Limits}
use Rattle.stx_host.specs.Outside.{Outside}
use Rattle.stx_host.specs.declared.act.Act.{Act}
use Rattle.command_words.specs.Said.{Word}
use Rattle.command_words.specs.Words.{command_of}
use Rattle.command_words.specs.declared.command.Command.{Command}
use Rattle.command_words.specs.declared.command.Mode.{Mode}
use Rattle.command_words.specs.declared.command.Mode.TheVariants.{Run as AsksRun, Check, Sample}
use Rattle.fault_report.specs.declared.outcome.Outcome.{Outcome}
use Rattle.fault_report.specs.declared.outcome.Outcome.TheVariants.{Done, Usage, Memory}
use Rattle.run_engine.specs.Run.{IsAtStart, Run}
use Rattle.sample_maker.specs.Document.{pieces}
use Rattle.sheet_files.specs.Loading.{LoadActs, LoadAnswers, LoadCounts}
use Rattle.sheet_files.specs.Opened.{documents_told}
use Rattle.sheet_files.specs.declared.load.Loaded.{Loaded}
use Rattle.sheet_model.specs.declared.sheet.Sheet.{Sheet}
use Rattle.sheet_runs.specs.Runs.{RunsSheet}
use Rattle.sheet_runs.specs.declared.main_document.Main.{Main}
use Rattle.sheet_runs.specs.declared.main_document.Main.TheVariants as main
use Rattle.sheet_runs.specs.declared.run.End.TheVariants as ends
use Rattle.sheet_runs.specs.declared.run.Ran.{Ran}
use Rattle.template_machine.specs.declared.turn.Param.{Param}
use Rattle.stx_engine.specs.Answer.{param_of}
use Rattle.stx_engine.specs.Plain.{runnable}
use Rattle.stx_engine.specs.RunEnd.{end_of_run, end_of_sample}
use Rattle.stx_engine.specs.declared.asked.Asked.{Asked}
use Rattle.stx_engine.specs.declared.run_end.RunEnd.{RunEnd}
use Rattle.stx_engine.specs.declared.run_end.RunEnd.TheVariants.{Told}

-- Loading the sheet that a command names came to this.
pub record Loads (c : Command) (old new : Outside) (answer : Result Loaded Outcome) : Type 0 where
  pub answers : LoadAnswers (documents_told old) standard_limits c.sheet answer
  pub acts : List Act
  pub did : LoadActs old new standard_limits c.sheet answer acts
  pub counts : LoadCounts old new answer
  pub ids : new.open_ids ≡ old.open_ids

-- what is asked of a sheet, in a mode
abbrev pub asked_by : Asked → Mode → Command
asked_by a mode = record { sheet = a.name; params = a.params; limits = a.limits; mode = mode }

-- what all limits are that words can give
pub record AreUsual (limits : Limits) : Type 0 where
  pub below : limits.depth ≤ limits.elements
  pub depth : limits.depth + 1 < 2 ^ 32
  pub elements : limits.elements + 1 < 2 ^ 32
  pub input : limits.input ≤ 2 ^ 50

-- a run of any sheet came to this, or there was no memory to begin it
abbrev pub RunsAny : List Param → Limits → Sheet → Main → (old new : Outside) → Ran → Type 0
RunsAny params limits sheet main old new ran =
    ((start : Run) × (IsAtStart sheet params limits start × RunsSheet start main old new ran)) ⊎ ((new ≡ old) × (ran.end ≡ ends.Told Memory))

-- what was done with a sheet that was accepted
pub data Does (c : Command) (sheet : Sheet) (old new : Outside) (end : RunEnd) : Type 0 where
  -- nothing: the sheet alone was asked for
  Checks : c.mode ≡ Check → new ≡ old → end ≡ Told Done → Does c sheet old new end
  -- it was run, on the main document or on the sample
  RunsIt : c.mode ≡ AsksRun → (ran : Ran) → RunsAny (map param_of c.params) c.limits (runnable sheet) main.Host old new ran → end ≡ end_of_run ran.end → Does c sheet old new end
  RunsOnSample : (records : ℕ) → c.mode ≡ Sample records → (ran : Ran) → RunsAny (map param_of c.params) c.limits (runnable sheet) (main.Sample (pieces records)) old new ran
      → end ≡ end_of_sample records ran ran.end → Does c sheet old new end

-- what was done where the words are accepted
pub data DoesCommand (c : Command) (old new : Outside) (end : RunEnd) : Type 0 where
  Stops : (o : Outcome) → Loads c old new (Err o) → end ≡ Told o → DoesCommand c old new end
  GoesOn : (mid : Outside) (loaded : Loaded) → Loads c old mid (Ok loaded) → Does c loaded.sheet mid new end → DoesCommand c old new end

-- what was done with words, before the last line is written
pub data DoesWords (words : List Word) (old new : Outside) (end : RunEnd) : Type 0 where
  -- nothing: they are refused, or there was no memory to read them
  Refuses : command_of words ≡ None → new ≡ old → end ≡ Told Usage → DoesWords words old new end
  Lacks : new ≡ old → end ≡ Told Memory → DoesWords words old new end
  -- what they command
  Obeys : (c : Command) → command_of words ≡ Some c → DoesCommand c old new end → DoesWords words old new end
