-- Only where a loader reads on does it stop.
use Rattle.std.proofs.Common.{ap, sym, ◌∙◌}
use Rattle.std.proofs.Math.Path.{subst}
use Rattle.sheet_loader.proofs.LoaderSteps.{stopped_alone}
use Rattle.sheet_loader.specs.Loaders.{Standing, stopped_at}
use Rattle.sheet_loader.specs.Progress.{IsSoundBy, progress_in}
use Rattle.sheet_loader.specs.declared.loader.Progress as loader
use Rattle.sheet_loader.proofs.loader.Loader.refuse.Goals as goal

pub invariant_of-self : goal.invariant_of-self
invariant_of-self c = subst (λ (p : loader.Progress). IsSoundBy p c.self.inside.draft) (sym c.turn_to.ensures) tt

pub returns-in-Reads-clause-stops : goal.returns-in-Reads-clause-stops
returns-in-Reads-clause-stops c =
    let d = c.self.inside.draft in
    ap (λ (p : loader.Progress). progress_in p d) c.turn_to.ensures
    ∙ ap (stopped_at c.args.at c.args.code) (ap (λ (p : loader.Progress). progress_in p d) (sym c.in-Reads.is) ∙ ap (λ (s : Standing). s.progress) c.self.view_is)

pub returns-in-Reads-clause-names : goal.returns-in-Reads-clause-names
returns-in-Reads-clause-names c = ap (λ (s : Standing). s.names) c.self.view_is

pub returns-in_default-clause-stops : goal.returns-in_default-clause-stops
returns-in_default-clause-stops c =
    let e = ap (λ (s : Standing). s.progress) c.self.view_is in
    sym e
    ∙ sym (stopped_alone c.args.at c.args.code c.self.inside.progress c.self.inside.draft c.in_default.not-Reads)
    ∙ ap (stopped_at c.args.at c.args.code) e
