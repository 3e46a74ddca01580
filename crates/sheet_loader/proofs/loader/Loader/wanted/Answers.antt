-- A file is wanted where an include was read.
use Rattle.std.proofs.Common.{ap, sym, ◌∙◌}
use Rattle.sheet_loader.proofs.LoaderSteps.{none_wanted}
use Rattle.sheet_loader.specs.Loaders.{Standing, wanted_in}
use Rattle.sheet_loader.specs.Progress.{progress_in}
use Rattle.sheet_loader.specs.declared.loader.Progress as loader
use Rattle.sheet_loader.proofs.loader.Loader.wanted.Goals as goal

pub returns-in-Wants : goal.returns-in-Wants
returns-in-Wants c =
    ap wanted_in (ap (λ (p : loader.Progress). progress_in p c.self.inside.draft) (sym c.in-Wants.is) ∙ ap (λ (s : Standing). s.progress) c.self.view_is)

pub returns-in_default : goal.returns-in_default
returns-in_default c =
    sym (none_wanted c.self.inside.progress c.self.inside.draft c.in_default.not-Wants) ∙ ap (λ (s : Standing). wanted_in s.progress) c.self.view_is
