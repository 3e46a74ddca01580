-- A loader begins as its draft does.
use Rattle.std.proofs.Common.{ℕ, List, [], ◌∷◌, Some, ap, sym, ◌∙◌}
use Rattle.stx_base.specs.Course.{Say}
use Rattle.sheet_loader.proofs.LoaderSteps.{begins_reading}
use Rattle.sheet_loader.specs.Remaining.{Progress, Reads_on, remaining}
use Rattle.sheet_loader.proofs.loader.Loader.new.Goals as goal

abbrev files_of : Progress → List (List ℕ)
files_of (Reads_on s) = s.loading.sheet.files
files_of other = []

pub returns-clause-names : goal.returns-clause-names
returns-clause-names c = ap files_of c.new.ensures.beginning

pub returns-clause-beginning : goal.returns-clause-beginning
returns-clause-beginning c = c.new.ensures.beginning

pub returns-clause-sheet : goal.returns-clause-sheet
returns-clause-sheet c = λ reads own others e.
    begins_reading reads c.args.file own others e
    ∙ ap (λ (p : Progress). Say c.args.file (remaining reads (Some own ∷ others) p (own.nodes ∷ []))) (sym c.new.ensures.beginning)
