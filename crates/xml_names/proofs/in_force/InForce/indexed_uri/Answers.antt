use Rattle.std.proofs.Common.{◌∙◌, sym, ap}
use Rattle.std.specs.Option.{option_map, option_copied}
use Rattle.std.specs.Str.{chars}
use Rattle.xml_names.specs.Scope.{last_uri}
use Rattle.xml_names.proofs.Index.{absent, present}
use Rattle.xml_names.proofs.in_force.InForce.indexed_uri.Goals as goal

pub returns-in_err-place : goal.returns-in_err-place
returns-in_err-place c =
    ap option_copied c.from_residual.ensures
    ∙ sym (ap (λ s. last_uri s (chars c.args.prefix.now)) (sym c.self.view_is) ∙ absent c.self.inside c.self.invariant c.args.prefix.now c.utf8.prefix c.in_err-place.ensures.value)

pub returns-in_err-declared : goal.returns-in_err-declared
returns-in_err-declared c =
    ap option_copied c.from_residual-in_err-declared.ensures
    ∙ ap (option_map (λ d. d.binding.uri)) c.in_err-declared.ensures.value
    ∙ present c.self.inside c.self.invariant c.args.prefix.now c.utf8.prefix c.in_ok-place.place.now c.in_ok-place.ensures.value
    ∙ ap (λ s. last_uri s (chars c.args.prefix.now)) c.self.view_is

pub returns : goal.returns
returns c =
    ap (option_map (λ d. d.binding.uri)) c.in_ok-declared.ensures.value
    ∙ present c.self.inside c.self.invariant c.args.prefix.now c.utf8.prefix c.in_ok-place.place.now c.in_ok-place.ensures.value
    ∙ ap (λ s. last_uri s (chars c.args.prefix.now)) c.self.view_is
