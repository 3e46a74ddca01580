-- How runs end, and with which outcome.
use Rattle.std.proofs.Common.{◌≡◌, refl}
use Rattle.fault_report.specs.declared.outcome.Outcome.{Outcome}
use Rattle.fault_report.specs.declared.outcome.Outcome.TheVariants.{Done, Run, Usage, Sheet, Xml, Host, Fuel, Memory}
use Rattle.stx_engine.specs.RunEnd.{on_sample, outcome_in}
use Rattle.stx_engine.specs.Running.{UnlessFailed}
use Rattle.stx_engine.specs.declared.run_end.Summary.{Summary}

pub outcome-on : (s : Summary) (o : Outcome) → outcome_in (on_sample s o) ≡ o
outcome-on s Done = refl
outcome-on s (Run file code offset) = refl
outcome-on s Usage = refl
outcome-on s (Sheet reason) = refl
outcome-on s (Xml file fault) = refl
outcome-on s (Host file fault offset) = refl
outcome-on s (Fuel file offset) = refl
outcome-on s Memory = refl

pub unless-map : (o : Outcome) (P Q : Type 0) → (P → Q) → UnlessFailed o P → UnlessFailed o Q
unless-map (Host file fault offset) P Q f p = tt
unless-map Memory P Q f p = tt
unless-map Done P Q f p = f p
unless-map (Run file code offset) P Q f p = f p
unless-map Usage P Q f p = f p
unless-map (Sheet reason) P Q f p = f p
unless-map (Xml file fault) P Q f p = f p
unless-map (Fuel file offset) P Q f p = f p
