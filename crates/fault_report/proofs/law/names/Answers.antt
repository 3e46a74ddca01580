use Rattle.fault_report.proofs.Names.{kinds_by_name, sheet_codes_by_name, run_codes_by_name}
use Rattle.fault_report.proofs.law.names.Goals as goal

pub returns-clause-kinds : goal.returns-clause-kinds
returns-clause-kinds c = kinds_by_name

pub returns-clause-sheet_codes : goal.returns-clause-sheet_codes
returns-clause-sheet_codes c = sheet_codes_by_name

pub returns-clause-run_codes : goal.returns-clause-run_codes
returns-clause-run_codes c = run_codes_by_name
