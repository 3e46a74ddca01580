-- What a line looks like.
use Rattle.std.proofs.Common.{ℕ, List, ◌++◌, refl}
use Rattle.std.specs.Prelude.{codes, encode_utf8_all}
use Rattle.std.specs.Fmt.{decimal}
use Rattle.fault_report.specs.Laws.{DoneAlone, SaidByName}
use Rattle.fault_report.specs.Line.{run_code_name, sheet_code_name, xml_kind_name, host_fault_name}
use Rattle.fault_report.specs.declared.outcome.Outcome.TheVariants.{Done, Run, Usage, Sheet, Xml, Host, Fuel, Memory}

pub done_alone : DoneAlone
done_alone Done = ((λ e. refl, λ e. refl), (λ e. refl, λ e. refl))
done_alone (Run file code offset) = ((λ e. cc, λ e. cc), (λ e. cc, λ e. cc))
done_alone Usage = ((λ e. cc, λ e. cc), (λ e. cc, λ e. cc))
done_alone (Sheet fault) = ((λ e. cc, λ e. cc), (λ e. cc, λ e. cc))
done_alone (Xml file fault) = ((λ e. cc, λ e. cc), (λ e. cc, λ e. cc))
done_alone (Host file fault offset) = ((λ e. cc, λ e. cc), (λ e. cc, λ e. cc))
done_alone (Fuel file offset) = ((λ e. cc, λ e. cc), (λ e. cc, λ e. cc))
done_alone Memory = ((λ e. cc, λ e. cc), (λ e. cc, λ e. cc))

-- a line of a fault
abbrev between : (file code : List ℕ) (offset : ℕ) → List ℕ
between file code offset = file ++ codes ": " ++ code ++ codes " at " ++ decimal offset

pub said_by_name : SaidByName
said_by_name Done n = absurd (n refl)
said_by_name (Run file code offset) n = (between (encode_utf8_all file) (run_code_name code) offset, refl)
said_by_name Usage n = (codes "usage: stx SHEET [NAME=VALUE]... [--fuel N] [--lexeme N] [--instances N] [--check] [--sample N]", refl)
said_by_name (Sheet fault) n = (between (encode_utf8_all fault.file) (sheet_code_name fault.code) fault.offset, refl)
said_by_name (Xml file fault) n = (between (encode_utf8_all file) (xml_kind_name fault.kind) fault.offset, refl)
said_by_name (Host file fault offset) n = (between (encode_utf8_all file) (host_fault_name fault) offset, refl)
said_by_name (Fuel file offset) n = (between (encode_utf8_all file) (codes "Fuel") offset, refl)
said_by_name Memory n = (codes "out of memory", refl)
