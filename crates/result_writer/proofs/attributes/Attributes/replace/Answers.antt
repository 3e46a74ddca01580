use Rattle.std.proofs.Common.{◌≡◌, ◌<◌, ap, sym, ◌∙◌, drop, subst, length, List, Some, ℕ}
use Rattle.std.specs.Prelude.{string_bytes, slice_get, slice_set}
use Rattle.stx_base.specs.declared.name.Attr.{Attr}
use Rattle.result_writer.specs.Attributes.{place_of}
use Rattle.result_writer.proofs.Attributed.{names, names-kept}
use Rattle.result_writer.proofs.attributes.Attributes.replace.Goals as goal

pub invariant_of-self : goal.invariant_of-self
invariant_of-self c =
    let list = c.self.inside.list in
    let taken : c.into_vec-attrs.result.items ≡ list = c.into_vec-attrs.ensures ∙ c.replace-list.ensures.value in
    let within : c.args.at < length list = subst (λ (l : List Attr). c.args.at < length l) (sym c.self.view_is) c.requires in
    let set : (a : Attr) → slice_get list c.args.at ≡ Some a → c.from_vec.result ≡ slice_set list c.args.at (record a { value = c.args.value }) =
    λ a found.
    c.from_vec.ensures ∙ c.set_value.ensures a (ap (λ (l : List Attr). slice_get l c.args.at) taken ∙ found)
    ∙ ap (λ (l : List Attr). slice_set l c.args.at (record a { value = c.args.value })) taken in
    let same : names c.from_vec.result ≡ names list = names-kept list c.from_vec.result c.args.at c.args.value within set in
    record { places = λ q. c.self.invariant.places q ∙ ap (λ ns. place_of 16 (drop 16 ns) (string_bytes q.0) (string_bytes q.1)) (sym same) }

pub returns : goal.returns
returns c = λ a found.
    let taken : c.into_vec-attrs.result.items ≡ c.args.self.now = c.into_vec-attrs.ensures ∙ c.replace-list.ensures.value ∙ c.self.view_is in
    c.from_vec.ensures ∙ c.set_value.ensures a (ap (λ (l : List Attr). slice_get l c.args.at) taken ∙ found)
    ∙ ap (λ (l : List Attr). slice_set l c.args.at (record a { value = c.args.value })) taken
