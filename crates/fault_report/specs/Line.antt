-- What is said of a run's outcome.
use Rattle.std.specs.Prelude.{ℕ, List, [], ◌++◌, codes, encode_utf8_all}
use Rattle.std.specs.Fmt.{decimal}
use Rattle.stx_base.specs.declared.fault.RunCode.{RunCode}
use Rattle.stx_base.specs.declared.fault.RunCode.TheVariants as run
use Rattle.stx_base.specs.declared.fault.SheetCode.{SheetCode}
use Rattle.stx_base.specs.declared.fault.SheetCode.TheVariants as code
use Rattle.stx_base.specs.declared.fault.XmlKind.{XmlKind}
use Rattle.stx_base.specs.declared.fault.XmlKind.TheVariants as kind
use Rattle.fault_report.specs.declared.outcome.HostFault.{HostFault}
use Rattle.fault_report.specs.declared.outcome.HostFault.TheVariants.{Doc, Read, Write}
use Rattle.fault_report.specs.declared.outcome.Outcome.{Outcome}
use Rattle.fault_report.specs.declared.outcome.Outcome.TheVariants.{Done, Run, Usage, Sheet, Xml, Host, Fuel, Memory}

-- the name of a sheet's fault
abbrev pub sheet_code_name : SheetCode → List ℕ
sheet_code_name code.SheetTooLarge = codes "SheetTooLarge"
sheet_code_name code.BadXml = codes "BadXml"
sheet_code_name code.NotStx = codes "NotStx"
sheet_code_name code.UnknownElement = codes "UnknownElement"
sheet_code_name code.Misplaced = codes "Misplaced"
sheet_code_name code.UnknownAttribute = codes "UnknownAttribute"
sheet_code_name code.MissingAttribute = codes "MissingAttribute"
sheet_code_name code.Version = codes "Version"
sheet_code_name code.BadValue = codes "BadValue"
sheet_code_name code.Fraction = codes "Fraction"
sheet_code_name code.BadPath = codes "BadPath"
sheet_code_name code.DuplicateName = codes "DuplicateName"
sheet_code_name code.IncludeLoop = codes "IncludeLoop"
sheet_code_name code.NoDocument = codes "NoDocument"
sheet_code_name code.NoGroup = codes "NoGroup"
sheet_code_name code.NoProcedure = codes "NoProcedure"
sheet_code_name code.NoBuffer = codes "NoBuffer"
sheet_code_name code.NoVariable = codes "NoVariable"

-- the name of a run's fault
abbrev pub run_code_name : RunCode → List ℕ
run_code_name run.Overflow = codes "Overflow"
run_code_name run.ZeroDivisor = codes "ZeroDivisor"
run_code_name run.Fraction = codes "Fraction"
run_code_name run.NotWhole = codes "NotWhole"
run_code_name run.NotOne = codes "NotOne"
run_code_name run.NotNode = codes "NotNode"
run_code_name run.SequenceTooLong = codes "SequenceTooLong"
run_code_name run.TextTooLong = codes "TextTooLong"
run_code_name run.ChildrenTwice = codes "ChildrenTwice"
run_code_name run.BufferBusy = codes "BufferBusy"
run_code_name run.TooManySources = codes "TooManySources"
run_code_name run.NoDocument = codes "NoDocument"
run_code_name run.Instances = codes "Instances"
run_code_name run.BadName = codes "BadName"
run_code_name run.BadChar = codes "BadChar"
run_code_name run.BadComment = codes "BadComment"
run_code_name run.BadPi = codes "BadPi"
run_code_name run.LateAttribute = codes "LateAttribute"
run_code_name run.UnmatchedEnd = codes "UnmatchedEnd"
run_code_name run.WrongEnd = codes "WrongEnd"
run_code_name run.UnclosedResult = codes "UnclosedResult"
run_code_name run.ResultDepth = codes "ResultDepth"
run_code_name run.BufferFull = codes "BufferFull"

-- the name of a document's fault
abbrev pub xml_kind_name : XmlKind → List ℕ
xml_kind_name kind.LexemeTooLong = codes "LexemeTooLong"
xml_kind_name kind.BadUtf8 = codes "BadUtf8"
xml_kind_name kind.BadChar = codes "BadChar"
xml_kind_name kind.InternalSubset = codes "InternalSubset"
xml_kind_name kind.BadMarkup = codes "BadMarkup"
xml_kind_name kind.BadDeclaration = codes "BadDeclaration"
xml_kind_name kind.BadVersion = codes "BadVersion"
xml_kind_name kind.Encoding = codes "Encoding"
xml_kind_name kind.BadComment = codes "BadComment"
xml_kind_name kind.BadPi = codes "BadPi"
xml_kind_name kind.CdataEnd = codes "CdataEnd"
xml_kind_name kind.BadTag = codes "BadTag"
xml_kind_name kind.BadReference = codes "BadReference"
xml_kind_name kind.UnknownEntity = codes "UnknownEntity"
xml_kind_name kind.Misplaced = codes "Misplaced"
xml_kind_name kind.BadName = codes "BadName"
xml_kind_name kind.BadBinding = codes "BadBinding"
xml_kind_name kind.UndeclaredPrefix = codes "UndeclaredPrefix"
xml_kind_name kind.DuplicateAttribute = codes "DuplicateAttribute"
xml_kind_name kind.Mismatch = codes "Mismatch"
xml_kind_name kind.TooDeep = codes "TooDeep"
xml_kind_name kind.TextTooLong = codes "TextTooLong"
xml_kind_name kind.Truncated = codes "Truncated"
xml_kind_name kind.InputTooLong = codes "InputTooLong"

-- the name of a host's fault
abbrev pub host_fault_name : HostFault → List ℕ
host_fault_name Doc = codes "Doc"
host_fault_name Read = codes "Read"
host_fault_name Write = codes "Write"

-- `stx: FILE: CODE at OFFSET` and a line feed
abbrev pub fault_line : (file code : List ℕ) → (offset : ℕ) → List ℕ
fault_line file code offset = codes "stx: " ++ file ++ codes ": " ++ code ++ codes " at " ++ decimal offset ++ codes "\n"

-- what is said of words that are refused
abbrev pub usage : List ℕ
usage = codes "stx: usage: stx SHEET [NAME=VALUE]... [--fuel N] [--lexeme N] [--instances N] [--check] [--sample N]\n"

abbrev pub out_of_memory : List ℕ
out_of_memory = codes "stx: out of memory\n"

-- the line that says why a run was stopped; empty for a run that is done
abbrev pub line_of : Outcome → List ℕ
line_of Done = []
line_of (Run file code offset) = fault_line (encode_utf8_all file) (run_code_name code) offset
line_of Usage = usage
line_of (Sheet fault) = fault_line (encode_utf8_all fault.file) (sheet_code_name fault.code) fault.offset
line_of (Xml file fault) = fault_line (encode_utf8_all file) (xml_kind_name fault.kind) fault.offset
line_of (Host file fault offset) = fault_line (encode_utf8_all file) (host_fault_name fault) offset
line_of (Fuel file offset) = fault_line (encode_utf8_all file) (codes "Fuel") offset
line_of Memory = out_of_memory

-- the status that a program ends with
abbrev pub status_of : Outcome → ℕ
status_of Done = 0
status_of (Run file code offset) = 1
status_of Usage = 2
status_of (Sheet fault) = 3
status_of (Xml file fault) = 4
status_of (Host file fault offset) = 5
status_of (Fuel file offset) = 6
status_of Memory = 7
