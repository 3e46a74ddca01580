use Rattle.std.proofs.Common.{◌∙◌, ℕ, List, ap, subst, sym, inr}
use Rattle.fault_report.specs.declared.outcome.HostFault.TheVariants as host_fault
use Rattle.fault_report.specs.declared.outcome.Outcome.TheVariants as outcome
use Rattle.sheet_loader.specs.Levels.{name_at}
use Rattle.sheet_files.specs.Held.{names_of}
use Rattle.sheet_files.specs.Steps.{FailsAs}
use Rattle.sheet_files.specs.declared.reading.Halt.{Halt}
use Rattle.sheet_files.proofs.load.failure_of.Goals as goal

pub returns-in-Some-clause-fails : goal.returns-in-Some-clause-fails
returns-in-Some-clause-fails c =
    let reading = c.args.reading.now in
    let t = c.in-Some.ensures.told in
    let g = t.1 in
    subst (λ (h : Halt). FailsAs h reading c.failure-in-Some.result) (sym c.in-Unread.is)
    (inr (
      t.0,
      g,
      t.2,
      c.failure-in-Some.ensures ∙ ap (λ (f : List ℕ). outcome.Host f host_fault.Doc c.in-Some.offset) t.3.0 ∙ ap (λ (n : ℕ). outcome.Host (name_at (names_of reading.files.items) g.number) host_fault.Doc n) t.3.1,
    ))
