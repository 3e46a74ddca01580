-- How a run of the program ended, and what is said of it last.
use Rattle.std.specs.Prelude.{ℕ, List, [], ◌++◌, length, codes, encode_utf8_all}
use Rattle.std.specs.Fmt.{decimal}
use Rattle.fault_report.specs.Line.{line_of, status_of}
use Rattle.fault_report.specs.declared.outcome.Outcome.{Outcome}
use Rattle.fault_report.specs.declared.outcome.Outcome.TheVariants.{Done, Memory}
use Rattle.sample_maker.specs.Document.{document}
use Rattle.sheet_runs.specs.Writing.{counted}
use Rattle.sheet_runs.specs.declared.run.End.{End}
use Rattle.sheet_runs.specs.declared.run.End.TheVariants as ends
use Rattle.sheet_runs.specs.declared.run.Ran.{Ran}
use Rattle.stx_engine.specs.declared.run_end.RunEnd.{RunEnd}
use Rattle.stx_engine.specs.declared.run_end.RunEnd.TheVariants.{Told, Sampled, Unnoted}
use Rattle.stx_engine.specs.declared.run_end.Summary.{Summary}

-- the bytes of the sample of so many records
abbrev pub sample_of : (records : ℕ) → List ℕ
sample_of records = encode_utf8_all (document records)

-- what a run on it that wrote these bytes read and wrote
abbrev pub summary_of : (records : ℕ) → (out : List ℕ) → Summary
summary_of records out = record { records = records; input = counted (length (sample_of records)); output = counted (length out) }

-- `sample: records N, input B, output C` and a line feed
abbrev pub summary : Summary → List ℕ
summary s =
    codes "sample: records " ++ decimal s.records ++ codes ", input " ++ decimal s.input ++ codes ", output " ++ decimal s.output ++ codes "\n"

-- a run on the sample that is done tells what it read and wrote
abbrev pub on_sample : Summary → Outcome → RunEnd
on_sample s Done = Sampled s
on_sample s outcome = Told outcome

-- what is known of how it ended; where `Note` failed no more than where memory was wanting
abbrev pub outcome_in : RunEnd → Outcome
outcome_in (Told outcome) = outcome
outcome_in (Sampled s) = Done
outcome_in Unnoted = Memory

-- the status that the program ends with
abbrev pub status_in : RunEnd → ℕ
status_in (Told outcome) = status_of outcome
status_in (Sampled s) = 0
status_in Unnoted = 5

-- the line that is said last; none where `Note` failed
abbrev pub line_in : RunEnd → List ℕ
line_in (Told outcome) = line_of outcome
line_in (Sampled s) = summary s
line_in Unnoted = []

-- how a run on the main document ended
abbrev pub end_of_run : End → RunEnd
end_of_run (ends.Told outcome) = Told outcome
end_of_run ends.Unnoted = Unnoted

-- and one on the sample of so many records
abbrev pub end_of_sample : (records : ℕ) → Ran → End → RunEnd
end_of_sample records ran (ends.Told outcome) = on_sample (record { records = records; input = ran.input; output = ran.output }) outcome
end_of_sample records ran ends.Unnoted = Unnoted
