-- Laws of the lines.
use Rattle.std.specs.Prelude.{◌≡◌, ◌↔◌, ◌≢◌, ℕ, List, [], ◌++◌, codes}
use Rattle.stx_base.specs.declared.fault.RunCode.{RunCode}
use Rattle.stx_base.specs.declared.fault.SheetCode.{SheetCode}
use Rattle.stx_base.specs.declared.fault.XmlKind.{XmlKind}
use Rattle.fault_report.specs.Line.{line_of, run_code_name, sheet_code_name, status_of, xml_kind_name}
use Rattle.fault_report.specs.declared.outcome.Outcome.{Outcome}
use Rattle.fault_report.specs.declared.outcome.Outcome.TheVariants.{Done}

-- no two kinds have one name
abbrev pub KindsByName : Type 0
KindsByName = (a b : XmlKind) → xml_kind_name a ≡ xml_kind_name b → a ≡ b

-- no two codes of sheets have one name
abbrev pub SheetCodesByName : Type 0
SheetCodesByName = (a b : SheetCode) → sheet_code_name a ≡ sheet_code_name b → a ≡ b

-- no two codes of runs have one name
abbrev pub RunCodesByName : Type 0
RunCodesByName = (a b : RunCode) → run_code_name a ≡ run_code_name b → a ≡ b

-- the status is 0 exactly where the run is done, and exactly there nothing is said
abbrev pub DoneAlone : Type 0
DoneAlone = (o : Outcome) → ((status_of o ≡ 0) ↔ (o ≡ Done)) × ((line_of o ≡ []) ↔ (o ≡ Done))

-- what is said begins with the program's name and ends with a line feed
abbrev pub SaidByName : Type 0
SaidByName = (o : Outcome) → o ≢ Done → (said : List ℕ) × (line_of o ≡ codes "stx: " ++ said ++ codes "\n")
