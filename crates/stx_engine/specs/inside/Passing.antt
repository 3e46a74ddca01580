-- What is known of runs of sheets that only pass documents through.
use Rattle.std.specs.Prelude.{◌≡◌, ℕ, Bool, true, false, List, [], map, take, Some, None}
use Rattle.std.specs.List.{list_any}
use Rattle.stx_base.specs.Course.{Begins}
use Rattle.stx_host.specs.Before.{AtMainReads, Between, is_main_read}
use Rattle.stx_host.specs.Outside.{LacksRoom, Outside}
use Rattle.stx_host.specs.Rooms.{needed}
use Rattle.stx_host.specs.declared.act.Act.{Act}
use Rattle.command_words.specs.declared.command.Command.{Command}
use Rattle.command_words.specs.declared.command.Mode.TheVariants.{Run as AsksRun, Check, Sample}
use Rattle.fault_report.specs.declared.outcome.Outcome.TheVariants.{Done}
use Rattle.sample_maker.specs.Document.{pieces}
use Rattle.sheet_files.specs.Acts.{opens}
use Rattle.sheet_model.specs.declared.sheet.Sheet.{Sheet}
use Rattle.sheet_runs.specs.Meant.{IsSettledOn}
use Rattle.sheet_runs.specs.Reading.{EndOnce, is_doc_read, main_gots}
use Rattle.sheet_runs.specs.declared.main_document.Main.TheVariants as main
use Rattle.sheet_runs.specs.declared.run.Ran.{Ran}
use Rattle.stx_engine.specs.Answer.{Asked_for, given_of, is_any_run, is_run, param_of, ran}
use Rattle.stx_engine.specs.Doing.{AreUsual, Does, RunsAny}
use Rattle.stx_engine.specs.Plain.{pass_of}
use Rattle.stx_engine.specs.RunEnd.{end_of_run, end_of_sample, outcome_in}
use Rattle.stx_engine.specs.Running.{CountsIn, FailedAt, IfFailed, IsAnswered, ReadsAll, TakesParts, UnlessFailed}
use Rattle.stx_engine.specs.declared.run_end.RunEnd.{RunEnd}
use Rattle.stx_engine.specs.declared.run_end.RunEnd.TheVariants.{Told, Unnoted}

-- What was done in a run, on the main document or on the sample, of a sheet that only passes documents through: it writes what the sheet means,
-- and reads no other document.
pub record PassesOn (k : Asked_for) (old new : Outside) (end : RunEnd) : Type 0 where
  pub acts : List Act
  pub out : List ℕ
  pub between : Between old new acts out []
  pub opened : opens acts ≡ []
  pub no_doc_read : list_any is_doc_read acts ≡ false
  pub ended : Bool
  pub once : EndOnce ended (main_gots acts)
  pub no_main_read : is_run k.command.mode ≡ false → list_any is_main_read acts ≡ false
  pub ids : new.open_ids ≡ old.open_ids
  pub counts : CountsIn end old new
  pub noted : end ≡ Unnoted → ⊥
  pub failed : FailedAt (outcome_in end) acts out
  pub takes : TakesParts (outcome_in end)
  pub reads : (main : List ℕ) → old.to_come 0 ≡ Some main → AtMainReads acts out [] (λ taken. IsSettledOn (given_of k) (take taken.main_read main) taken)
  pub writes : (main : List ℕ) → (is_run k.command.mode ≡ true → old.to_come 0 ≡ Some main) → (opened : List (List ℕ)) → let a = ran k opened main in
      Begins out a.out × UnlessFailed (outcome_in end) (IsAnswered out [] end a)
  pub all : is_run k.command.mode ≡ true → (main : List ℕ) → old.to_come 0 ≡ Some main → ReadsAll main acts ended (outcome_in end)
  -- what was settled, of which `Out` took the first bytes; where the host failed it was for want of room, where that is told, for an act more or
  -- for all of that
  pub due : List ℕ
  pub settles : (main : List ℕ) → (is_run k.command.mode ≡ true → old.to_come 0 ≡ Some main) → (opened : List (List ℕ)) → Begins due (ran k opened main).out
  pub room : IfFailed end old new (LacksRoom old (needed acts due []))

-- what was done with a sheet that was accepted, where what is known of one that only passes documents through stands in place of its run
pub data DoesAsMeant (c : Command) (sheet : Sheet) (old new : Outside) (end : RunEnd) : Type 0 where
  Checked : c.mode ≡ Check → new ≡ old → end ≡ Told Done → DoesAsMeant c sheet old new end
  Passed : is_any_run c.mode ≡ true → PassesOn (record { command = c; sheet = sheet }) old new end → DoesAsMeant c sheet old new end
  RanIt : c.mode ≡ AsksRun → pass_of sheet ≡ None → (ran : Ran) → RunsAny (map param_of c.params) c.limits sheet main.Host old new ran → end ≡ end_of_run ran.end
      → DoesAsMeant c sheet old new end
  RanOnSample : (records : ℕ) → c.mode ≡ Sample records → pass_of sheet ≡ None → (ran : Ran) → RunsAny (map param_of c.params) c.limits sheet (main.Sample (pieces records)) old new ran
      → end ≡ end_of_sample records ran ran.end → DoesAsMeant c sheet old new end

-- A run of a sheet that only passes documents through does what the sheet means.
abbrev pub RunsAsMeant : Type 0
RunsAsMeant = (c : Command) (sheet : Sheet) (old new : Outside) (end : RunEnd) → AreUsual c.limits → Does c sheet old new end → DoesAsMeant c sheet old new end
