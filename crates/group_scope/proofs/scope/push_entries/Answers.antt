use Rattle.std.proofs.Common.{◌≡◌, ◌<◌, ◌++◌, [], ◌∷◌, append_assoc, ap, sym, subst, ◌∙◌, get_or, length, take, map}
use Rattle.std.proofs.lemmas.List.{append-nil}
use Rattle.group_scope.specs.Choice.{alternatives_from}
use Rattle.group_scope.specs.Filling.{entry_at, entry_of}
use Rattle.group_scope.specs.declared.rank.Category.TheVariants.{Own}
use Rattle.group_scope.proofs.Gathering.{entry_more}
use Rattle.group_scope.proofs.scope.push_entries.Goals as goal

pub loop-place-init : goal.loop-place-init
loop-place-init c = sym (append-nil c.args.entries.now.items)

pub loop-place-preserved : goal.loop-place-preserved
loop-place-preserved c =
    let t = c.args.template.now in
    let i = c.loop-place.place in
    let a = c.alternative-item.result in
    let same = c.as_slice-alternative-items.ensures in
    let within = subst (λ l. i < length l) same c.loop-place-test.true in
    let at = subst (λ l. a ≡ get_or l i a) same c.alternative-item.is in
    let one = entry_at c.args.number t i a ∷ [] in
    let old = c.args.entries.now.items in
    c.in_ok-push.ensures.items ∙ ap (λ e. c.loop-place.entries.items ++ e ∷ []) c.entry_of-entry.ensures
    ∙ ap (λ l. l ++ one) c.loop-place.invariant
    ∙ append_assoc old (map entry_of (alternatives_from c.args.number t Own 0 (take i t.pattern.alternatives))) one
    ∙ ap (λ l. old ++ l) (sym (entry_more c.args.number t t.pattern.alternatives i a within at))
