use Rattle.std.proofs.Common.{◌∙◌, ap, sym, unwrap_or}
use Rattle.std.specs.BTreeMap.{get_by_text}
use Rattle.std.specs.Option.{option_copied, option_map}
use Rattle.result_writer.specs.Table.{bound_from}
use Rattle.result_writer.proofs.Index.{absent, present}
use Rattle.result_writer.proofs.in_force.Indexed.uri.Goals as goal

pub returns-in_err-place : goal.returns-in_err-place
returns-in_err-place c = λ u.
    ap (λ o. unwrap_or (option_copied o) u) c.from_residual.ensures
    ∙ sym (absent c.self.inside c.self.invariant c.args.prefix.now (c.in_err-place.ensures.value ∙ ap (get_by_text c.self.inside.places) c.as_str.ensures.bytes) u)
    ∙ ap (λ s. bound_from u s c.args.prefix.now) c.self.view_is

pub returns-in_err-entry : goal.returns-in_err-entry
returns-in_err-entry c = λ u.
    let at = c.in_ok-place.ensures.value ∙ ap (get_by_text c.self.inside.places) c.as_str.ensures.bytes in
    ap (λ o. unwrap_or (option_copied o) u) c.from_residual-in_err-entry.ensures
    ∙ ap (λ o. unwrap_or o u) (ap (option_map (λ e. e.binding.uri)) c.in_err-entry.ensures.value ∙ present c.self.inside c.self.invariant c.args.prefix.now c.in_ok-place.place.now at u)
    ∙ ap (λ s. bound_from u s c.args.prefix.now) c.self.view_is

pub returns : goal.returns
returns c = λ u.
    let at = c.in_ok-place.ensures.value ∙ ap (get_by_text c.self.inside.places) c.as_str.ensures.bytes in
    ap (λ o. unwrap_or o u) (ap (option_map (λ e. e.binding.uri)) c.in_ok-entry.ensures.value ∙ present c.self.inside c.self.invariant c.args.prefix.now c.in_ok-place.place.now at u)
    ∙ ap (λ s. bound_from u s c.args.prefix.now) c.self.view_is
