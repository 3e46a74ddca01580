use Rattle.std.proofs.Common.{◌∙◌, ap, sym, not, unwrap_or}
use Rattle.std.specs.Option.{option_copied}
use Rattle.result_writer.specs.Table.{is_taken}
use Rattle.result_writer.proofs.Entering.{taken-none, taken-some}
use Rattle.result_writer.proofs.table.Table.is_taken.Goals as goal

pub returns-in-Some : goal.returns-in-Some
returns-in-Some c =
    let t = c.self.inside.entries in
    ap not c.same.ensures
    ∙ sym (taken-some c.args.name.now t c.in-Some.uri.now c.self.invariant (λ u. ap (λ o. unwrap_or (option_copied o) u) (sym c.in-Some.is) ∙ c.uri.ensures u))
    ∙ ap (λ l. is_taken l c.args.name.now) c.self.view_is

pub returns-in-None : goal.returns-in-None
returns-in-None c =
    let t = c.self.inside.entries in
    sym (taken-none c.args.name.now t (λ u. ap (λ o. unwrap_or (option_copied o) u) (sym c.in-None.is) ∙ c.uri.ensures u))
    ∙ ap (λ l. is_taken l c.args.name.now) c.self.view_is
