use Rattle.std.proofs.Common.{◌≡◌, ◌∙◌, ap, subst, sym, map, []}
use Rattle.std.specs.Prelude.{string_bytes}
use Rattle.std.specs.BTreeMap.{get_by_text}
use Rattle.result_writer.specs.InForce.{hidden_by}
use Rattle.result_writer.proofs.Index.{HasPlaces, with-last}
use Rattle.result_writer.proofs.in_force.Indexed.push.Goals as goal

pub invariant_of-self-in-Ok : goal.invariant_of-self-in-Ok
invariant_of-self-in-Ok c =
    let all = with-last c.self.inside c.self.invariant (record { binding = c.args.binding; hidden = c.copied-hidden.result }) c.insert.new.self (string_bytes c.in_ok-prefix.prefix) c.len-place.result
    (c.in_ok-prefix.ensures.ok ∙ c.as_str.ensures.bytes)
    c.len-place.ensures.value
    (c.copied-hidden.ensures ∙ c.get.ensures.value ∙ ap (get_by_text c.self.inside.places) c.as_str-2.ensures.value)
    c.in-Ok.ensures.updates in
    record {
      places = subst (λ l. HasPlaces c.insert.new.self (map (λ x. x.binding) l)) (sym c.in_ok-push.ensures.ok) all.0;
      hidden = subst (λ l. map (λ x. x.hidden) l ≡ hidden_by [] (map (λ x. x.binding) l)) (sym c.in_ok-push.ensures.ok) all.1;
    }
