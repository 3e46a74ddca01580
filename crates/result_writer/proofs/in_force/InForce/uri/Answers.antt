use Rattle.std.proofs.Common.{◌∙◌, ap, sym, unwrap_or}
use Rattle.std.specs.Option.{option_copied}
use Rattle.result_writer.specs.Table.{bound_from}
use Rattle.result_writer.proofs.Places.{bound_from-append}
use Rattle.result_writer.proofs.in_force.InForce.uri.Goals as goal

pub returns-in-Some : goal.returns-in-Some
returns-in-Some c = λ u.
    let p = c.args.prefix.now in
    let v = bound_from u c.self.inside.first p in
    ap (λ o. unwrap_or (option_copied o) v) (sym c.in-Some.is) ∙ c.uri.ensures v ∙ sym (bound_from-append u c.self.inside.first c.self.inside.others p)
    ∙ ap (λ s. bound_from u s p) c.self.view_is

pub returns-in-None : goal.returns-in-None
returns-in-None c = λ u.
    let p = c.args.prefix.now in
    let v = bound_from u c.self.inside.first p in
    c.last_uri-in-None.ensures u ∙ ap (λ l. bound_from u l p) c.as_slice-in-None.ensures
    ∙ ap (λ o. unwrap_or (option_copied o) v) (sym c.in-None.is) ∙ c.uri.ensures v ∙ sym (bound_from-append u c.self.inside.first c.self.inside.others p)
    ∙ ap (λ s. bound_from u s p) c.self.view_is
