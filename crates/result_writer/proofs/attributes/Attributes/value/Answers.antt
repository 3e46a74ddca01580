use Rattle.std.proofs.Common.{◌≡◌, false, List, length, sym, ap, ◌∙◌, subst}
use Rattle.std.specs.Prelude.{◌<◌, MatchOption, slice_get}
use Rattle.std.specs.List.{list_any}
use Rattle.std.proofs.lemmas.Option.{slice_get-get_or}
use Rattle.stx_base.specs.declared.name.Attr.{Attr}
use Rattle.result_writer.specs.Attributes.{IsFirst}
use Rattle.result_writer.specs.Target.{same_name}
use Rattle.result_writer.proofs.Valuing.{first-valued, none-valued}
use Rattle.result_writer.proofs.attributes.Attributes.value.Goals as goal

pub returns-in-None : goal.returns-in-None
returns-in-None c =
    let attrs = c.args.self.now in
    let name = c.args.name.now in
    sym (none-valued attrs name
    (subst (λ place. MatchOption place (list_any (λ a. same_name a.name name) attrs ≡ false) (IsFirst attrs name)) c.in-None.is c.in_ok-place.ensures))

pub returns-in-Some : goal.returns-in-Some
returns-in-Some c =
    let attrs = c.args.self.now in
    let name = c.args.name.now in
    let at = c.in-Some.at in
    let item = c.index-as_slice-at.result in
    let first : IsFirst attrs name at =
    subst (λ place. MatchOption place (list_any (λ a. same_name a.name name) attrs ≡ false) (IsFirst attrs name)) c.in-Some.is c.in_ok-place.ensures in
    let listed : c.as_slice.result.now ≡ attrs = c.as_slice.ensures ∙ c.self.view_is in
    let within : at < length c.as_slice.result.now = subst (λ (l : List Attr). at < length l) (sym listed) first.0 in
    sym (first-valued attrs name at _ first (ap (λ (l : List Attr). slice_get l at) (sym listed) ∙ slice_get-get_or c.as_slice.result.now at item within))
