use Rattle.std.proofs.Common.{◌≡◌, cond, List, [], ◌∷◌, ◌++◌, Option, Some, unwrap_or, IsSome, Result, Ok, Err, OnOk, OnErr, refl, ap, subst, ◌∙◌}
use Rattle.std.specs.Map.{lookup}
use Rattle.group_scope.specs.contracts.key.KeyEq.TheImpl.Laws.{laws-law}
use Rattle.group_scope.specs.declared.entry.Entry.{Entry}
use Rattle.group_scope.specs.declared.key.Key.{Key}
use Rattle.group_scope.specs.Keyed.{same}
use Rattle.group_scope.proofs.Pushing.{grown, ungrown}
use Rattle.group_scope.proofs.rows.add.Goals as goal

on_ok : {A E : Type 0} {P Q : Type 0} (r : Result A E) → (P → Q) → OnOk r P → OnOk r Q
on_ok (Ok x) f h = f h
on_ok (Err e) f h = tt

on_err : {A E : Type 0} {P Q : Type 0} (r : Result A E) → (P → Q) → OnErr r P → OnErr r Q
on_err (Ok x) f h = tt
on_err (Err e) f h = f h

pub returns-in-Some-clause-ok : goal.returns-in-Some-clause-ok
returns-in-Some-clause-ok c =
    let written = c.get_mut.follows.holds c.push.new.self in
    let value = ap (λ o. o) c.in-Some.ensures.value in
    let updates = written.3 (subst IsSome value refl) in
    on_ok c.push.result (λ pushed.
    grown laws-law c.args.map.now.entries (c.get_mut.follows.lender c.push.new.self).entries c.args.key c.args.entry c.push.new.self (λ q. updates.0 q)
    (pushed ∙ ap (λ (o : Option (List Entry)). unwrap_or o [] ++ c.args.entry ∷ []) value)) c.push.ensures.ok

pub returns-in_ok-insert-in-None-clause-ok : goal.returns-in_ok-insert-in-None-clause-ok
returns-in_ok-insert-in-None-clause-ok c =
    let h = c.in_ok-insert-in-None.ensures.updates in
    let new = c.insert.new.self.entries in
    let row = c.push-in-None.new.self in
    let updates = subst (λ m. (q : Key) → lookup (same q) new ≡ cond (same c.args.key q) (Some row) (lookup (same q) m.entries)) c.get_mut.follows.holds-at-none (λ q. h.0 q) in
    let empty = c.new-row.ensures ∙ ap (λ (o : Option (List Entry)). unwrap_or o []) c.in-None.ensures.value in
    grown laws-law c.args.map.now.entries new c.args.key c.args.entry row updates (c.in_ok-push-in-None.ensures.ok ∙ ap (λ l. l ++ c.args.entry ∷ []) empty)

pub returns-in-Some-clause-err : goal.returns-in-Some-clause-err
returns-in-Some-clause-err c =
    let written = c.get_mut.follows.holds c.push.new.self in
    let value = ap (λ o. o) c.in-Some.ensures.value in
    let updates = written.3 (subst IsSome value refl) in
    on_err c.push.result (λ unchanged.
    ungrown laws-law c.args.map.now.entries (c.get_mut.follows.lender c.push.new.self).entries c.args.key c.push.new.self (λ q. updates.0 q)
    (ap (λ (row : List Entry). Some row) unchanged ∙ value)) c.push.ensures.err
