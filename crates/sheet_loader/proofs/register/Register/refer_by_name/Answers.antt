use Rattle.std.proofs.Common.{◌∙◌, ◌∷◌, [], ap, sym}
use Rattle.std.proofs.lemmas.Result.{on_ok_weaker}
use Rattle.sheet_loader.specs.Judging.{locals_at}
use Rattle.sheet_loader.specs.Keys.{Owned}
use Rattle.sheet_loader.specs.Known.{known, refers_to}
use Rattle.sheet_loader.specs.Meant.{kind_of}
use Rattle.sheet_loader.specs.Referring.{by_name, to_variables}
use Rattle.sheet_loader.proofs.ReferringLemmas.{variables-bare}
use Rattle.sheet_loader.proofs.register.Register.refer_by_name.Goals as goal

pub returns-in_ok-own-in-Assign : goal.returns-in_ok-own-in-Assign
returns-in_ok-own-in-Assign c =
    on_ok_weaker c.refer_to_variable.result
    (λ e here before n group locals name.
    let k = known c.args.self.now in
    let at = c.args.at in
    e ∙ ap (λ l. refers_to l k) (
    ap (λ (o : Owned). to_variables at k.locals o.group (o.name ∷ [])) c.in_ok-own-in-Assign.ensures
    ∙ ap (λ m. to_variables at k.locals c.args.own.now.group (m ∷ [])) name
    ∙ variables-bare at k.locals (locals_at here before) c.args.own.now.group (n ∷ []) locals
    ∙ ap (λ g. to_variables at (locals_at here before) g (n ∷ [])) group
    ∙ ap (λ kind. by_name at here before (kind_of kind) n) (sym c.in-Assign.is)))
    c.refer_to_variable.ensures
