use Rattle.std.proofs.Common.{◌∷◌, [], ◌++◌, ap, sym, ◌∙◌, append_assoc, map}
use Rattle.std.proofs.lemmas.List.{map_push}
use Rattle.result_writer.proofs.in_force.InForce.into_list.Goals as goal

pub loop-entry-preserved : goal.loop-entry-preserved
loop-entry-preserved c =
    let ys = c.loop-entry.yielded in
    let e = c.in-Some.entry in
    c.in_ok-push.ensures.ok ∙ ap (λ l. l ++ e.binding ∷ []) c.loop-entry.invariant ∙ append_assoc _ (map (λ x. x.binding) ys) (e.binding ∷ [])
    ∙ ap (λ l. c.self.inside.first ++ l) (sym (map_push (λ x. x.binding) ys e))
