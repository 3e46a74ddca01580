use Rattle.std.proofs.Common.{◌∙◌, ap}
use Rattle.std.proofs.lemmas.Result.{on_ok_weaker}
use Rattle.std.specs.List.{flat_map}
use Rattle.sheet_model.specs.Names.{template_variables}
use Rattle.sheet_model.specs.declared.instr.LiteralAttr.{LiteralAttr}
use Rattle.sheet_loader.specs.Known.{known, refers_to}
use Rattle.sheet_loader.specs.Referring.{to_variables}
use Rattle.sheet_loader.proofs.ReferringLemmas.{variables-bare}
use Rattle.sheet_loader.proofs.register.Register.refer_by_literal.Goals as goal

pub returns : goal.returns
returns c =
    on_ok_weaker c.refer_to_variables.result
    (λ e locals same.
    let k = known c.args.self.now in
    e ∙ ap (λ l. refers_to l k) (
    ap (to_variables c.args.at k.locals c.args.group) c.in_ok-named.ensures
    ∙ variables-bare c.args.at k.locals locals c.args.group (flat_map (λ (a : LiteralAttr). template_variables a.value) c.args.attrs.now) same))
    c.refer_to_variables.ensures
