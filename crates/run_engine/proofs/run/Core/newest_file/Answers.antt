use Rattle.std.proofs.Common.{IfOk, ◌≡◌, ◌∙◌, sym, subst}
use Rattle.run_engine.specs.Run.{file_of}
use Rattle.run_engine.specs.declared.document.Document.{Document}
use Rattle.run_engine.proofs.Asking.{some-same}
use Rattle.run_engine.proofs.run.Core.newest_file.Goals as goal

pub returns : goal.returns
returns c = λ d e.
    subst (λ (x : Document). IfOk c.file_of.result (λ file. file ≡ file_of x.name)) (some-same c.in-Some.document d (sym c.in-Some.is ∙ e)) c.file_of.ensures
