-- A loader failed where a fault was found.
use Rattle.std.proofs.Common.{ap, sym, ◌∙◌}
use Rattle.sheet_loader.proofs.LoaderSteps.{none_refused}
use Rattle.sheet_loader.specs.Loaders.{Standing, is_refused}
use Rattle.sheet_loader.specs.Progress.{progress_in}
use Rattle.sheet_loader.specs.declared.loader.Progress as loader
use Rattle.sheet_loader.proofs.loader.Loader.failed.Goals as goal

pub returns-in-Refused : goal.returns-in-Refused
returns-in-Refused c =
    ap is_refused (ap (λ (p : loader.Progress). progress_in p c.self.inside.draft) (sym c.in-Refused.is) ∙ ap (λ (s : Standing). s.progress) c.self.view_is)

pub returns-in_default : goal.returns-in_default
returns-in_default c =
    sym (none_refused c.self.inside.progress c.self.inside.draft c.in_default.not-Refused) ∙ ap (λ (s : Standing). is_refused s.progress) c.self.view_is
