use Rattle.std.proofs.Common.{◌∙◌, sym, ap, refl, Some}
use Rattle.std.specs.Option.{option_map}
use Rattle.std.specs.Str.{chars}
use Rattle.xml_names.specs.Scope.{xml_uri, declared_on, is_empty}
use Rattle.xml_names.proofs.Texts.{chars-word}
use Rattle.xml_names.proofs.Paths.{parted-joined, bound-xml, bound-none, bound-away, bound-some}
use Rattle.xml_names.proofs.scopes.Scopes.uri.Goals as goal

pub returns-then-is_word : goal.returns-then-is_word
returns-then-is_word c = ap Some (chars-word xml_uri refl) ∙ sym (bound-xml c.args.self.now (chars c.args.prefix.now) (sym c.is_word.ensures ∙ c.if-is_word.true))

pub returns-in_err-uri : goal.returns-in_err-uri
returns-in_err-uri c =
    let joined = ap declared_on (sym c.self.view_is) ∙ parted-joined c.self.inside.counts c.self.inside.in_force c.self.invariant.counted in
    ap (option_map (λ uri. chars uri.now)) c.from_residual.ensures
    ∙ sym (bound-none c.args.self.now c.self.inside.in_force joined (chars c.args.prefix.now) (sym c.is_word.ensures ∙ c.if-is_word.false) c.in_err-uri.ensures)

pub returns-then-is_empty : goal.returns-then-is_empty
returns-then-is_empty c =
    let joined = ap declared_on (sym c.self.view_is) ∙ parted-joined c.self.inside.counts c.self.inside.in_force c.self.invariant.counted in
    sym (bound-away c.args.self.now c.self.inside.in_force joined (chars c.args.prefix.now) (sym c.is_word.ensures ∙ c.if-is_word.false) c.in_ok-uri.field-0.now c.in_ok-uri.ensures
    (ap is_empty (sym c.as_str-uri.ensures.chars) ∙ sym c.is_empty.ensures ∙ c.if-is_empty.true))

pub returns-else-is_empty : goal.returns-else-is_empty
returns-else-is_empty c =
    let joined = ap declared_on (sym c.self.view_is) ∙ parted-joined c.self.inside.counts c.self.inside.in_force c.self.invariant.counted in
    ap Some c.as_str-uri.ensures.chars
    ∙ sym (bound-some c.args.self.now c.self.inside.in_force joined (chars c.args.prefix.now) (sym c.is_word.ensures ∙ c.if-is_word.false) c.in_ok-uri.field-0.now c.in_ok-uri.ensures
    (ap is_empty (sym c.as_str-uri.ensures.chars) ∙ sym c.is_empty.ensures ∙ c.if-is_empty.false))
