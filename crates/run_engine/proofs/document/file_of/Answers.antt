use Rattle.std.proofs.Common.{IfOk, ◌≡◌, ◌∙◌, rules, subst, sym}
use Rattle.std.proofs.lemmas.Result.{IfOk-weaker}
use Rattle.std.proofs.lemmas.Str.{chars-IsAscii}
use Rattle.std.specs.Prelude.{codes}
use Rattle.run_engine.specs.Run.{file_of}
use Rattle.run_engine.proofs.document.file_of.Goals as goal

pub returns-in-None : goal.returns-in-None
returns-in-None c =
    subst (λ n. IfOk c.of.result (λ file. file ≡ file_of n)) (sym c.in-None.is)
    (IfOk-weaker c.of.result _ _ (λ made is. is ∙ chars-IsAscii (codes "-") (search rules)) c.of.ensures)
