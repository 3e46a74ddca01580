-- The fault that was found is told by its file's name; where all was read, it is looked for what finds nothing.
use Rattle.std.proofs.Common.{◌≡◌, IfErr, IfOk, Some, ap, sym, ◌∙◌}
use Rattle.std.proofs.Math.Path.{subst}
use Rattle.stx_base.specs.declared.fault.SheetFault.{SheetFault}
use Rattle.sheet_loader.proofs.LoaderSteps.{ended_of, one_fault, refused_of, refused_told, sound_of, standing}
use Rattle.sheet_loader.specs.Loaders.{EndsInFault, GivesSheet, Standing, is_over}
use Rattle.sheet_loader.specs.Named.{names_of}
use Rattle.sheet_loader.specs.declared.loader.LoadStop.TheVariants as load
use Rattle.sheet_loader.specs.declared.loader.Progress as loader
use Rattle.sheet_loader.specs.declared.refused.Stop.{Stop}
use Rattle.sheet_loader.specs.declared.refused.Stop.TheVariants as stop
use Rattle.sheet_loader.proofs.loader.Loader.finish.Goals as goal

pub returns-in-Some-Fault-clause-fault : goal.returns-in-Some-Fault-clause-fault
returns-in-Some-Fault-clause-fault c = λ fault is.
    let d = c.self.inside.draft in
    let p = c.self.inside.progress in
    let why = c.in-Some-Fault.code in
    let at = c.in-Some-Fault.at in
    let is_fault : c.in-Some-Fault.field-0 ≡ stop.Fault why at = rw c.in-Some-Fault.is at c.in-Some-Fault.field-0-is in
    let refused = refused_of p why at (sym c.stop-why.ensures ∙ c.in-Some-Fault.is ∙ ap (λ (s : Stop). Some s) is_fault) in
    subst (λ (s : Standing). EndsInFault s fault) (ap (λ (q : loader.Progress). standing q d) (sym refused) ∙ c.self.view_is)
    (subst (λ (f : SheetFault). EndsInFault (standing (loader.TheVariants.Refused why at) d) f) (one_fault _ fault c.fault.result c.fault.ensures is)
    (refused_told (names_of d) at why))

pub whole-requires : goal.whole-requires
whole-requires c = sound_of c.self.inside.progress c.self.inside.draft (sym c.stop-why.ensures ∙ c.in-None.is) c.self.invariant

pub returns-in-None-clause-sheet : goal.returns-in-None-clause-sheet
returns-in-None-clause-sheet c =
    let d = c.self.inside.draft in
    let p = c.self.inside.progress in
    let is = ended_of p d (sym c.stop-why.ensures ∙ c.in-None.is) (ap (λ (s : Standing). is_over s.progress) c.self.view_is ∙ c.requires) in
    subst (λ (s : Standing). IfOk c.whole.result (λ sheet. GivesSheet s sheet)) (ap (λ (q : loader.Progress). standing q d) (sym is) ∙ c.self.view_is) c.whole.ensures.sheet

pub returns-in-None-clause-fault : goal.returns-in-None-clause-fault
returns-in-None-clause-fault c =
    let d = c.self.inside.draft in
    let p = c.self.inside.progress in
    let is = ended_of p d (sym c.stop-why.ensures ∙ c.in-None.is) (ap (λ (s : Standing). is_over s.progress) c.self.view_is ∙ c.requires) in
    subst (λ (s : Standing). IfErr c.whole.result (λ stop. (fault : SheetFault) → stop ≡ load.Fault fault → EndsInFault s fault)) (ap (λ (q : loader.Progress). standing q d) (sym is) ∙ c.self.view_is) c.whole.ensures.fault
