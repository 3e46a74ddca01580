-- A reference that finds nothing is told, and else the sheet is given.
use Rattle.std.proofs.Common.{true, List, ℕ, ap, sym, ◌∙◌}
use Rattle.std.proofs.Math.Path.{subst}
use Rattle.stx_base.specs.declared.fault.SheetFault.{SheetFault}
use Rattle.sheet_model.specs.declared.sheet.Sheet.{Sheet}
use Rattle.sheet_loader.proofs.LoaderSteps.{lost_told, one_fault, sheet_told}
use Rattle.sheet_loader.specs.Drafts.{loading_of}
use Rattle.sheet_loader.specs.Events.{progress_at_end}
use Rattle.sheet_loader.specs.Levels.{name_at}
use Rattle.sheet_loader.specs.Loaders.{EndsInFault, GivesSheet}
use Rattle.sheet_loader.specs.Named.{names_of}
use Rattle.sheet_loader.specs.declared.draft.Draft.{Draft}
use Rattle.sheet_loader.proofs.loader.whole.Goals as goal

pub returns-in-Some-clause-fault : goal.returns-in-Some-clause-fault
returns-in-Some-clause-fault c = λ fault is.
    let d = c.args.draft in
    subst (λ (f : SheetFault). EndsInFault (record { names = names_of d; progress = progress_at_end true d }) f)
    (ap (λ (n : List (List ℕ)). record { file = name_at n c.in-Some.at.file; code = c.in-Some.code; offset = c.in-Some.at.offset }) (sym (ap names_of c.in-Some.ensures.others))
    ∙ one_fault _ fault c.fault.result c.fault.ensures is)
    (lost_told d c.in-Some.code c.in-Some.at c.in-Some.ensures.lost)

pub returns-in-Ok-clause-sheet : goal.returns-in-Ok-clause-sheet
returns-in-Ok-clause-sheet c =
    let d = c.args.draft in
    subst (λ (sheet : Sheet). GivesSheet (record { names = names_of d; progress = progress_at_end true d }) sheet)
    (sym (c.in-Ok.ensures ∙ ap (λ (x : Draft). (loading_of x).sheet) c.in-None.ensures.others))
    (sheet_told d c.in-None.ensures.lost)
