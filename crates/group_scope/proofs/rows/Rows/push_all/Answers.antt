use Rattle.std.proofs.Common.{◌++◌, [], ◌∷◌, None, Some, take, append_assoc, ap, sym, ◌∙◌}
use Rattle.std.proofs.lemmas.List.{append-nil}
use Rattle.group_scope.specs.Rows.{entered, row}
use Rattle.group_scope.proofs.Pushing.{entered_more, no_home, one_home}
use Rattle.group_scope.proofs.rows.Rows.push_all.Goals as goal
use Rattle.group_scope.proofs.rows.Rows.push_all.Goals.{in-Some+in_ok-push, in_default}

pub loop-home-init : goal.loop-home-init
loop-home-init c = λ key. sym (append-nil (row c.args.self.now key))

pub loop-home-preserved : goal.loop-home-preserved
loop-home-preserved c = λ key.
    let old = row c.args.self.now key in
    let homes = c.args.homes.now in
    let i = c.loop-home.home-index in
    let h = c.loop-home-test.true in
    let test = c.args.test in
    let e = c.args.entry in
    elim c.match-home.branch [
      | in-Some+in_ok-push w ↦
          let one = entered (Some w.in-Some.home ∷ []) test key e in
          ap (λ rows. row rows key) w.self-is ∙ w.in_ok-push.ensures key
          ∙ one_home (row c.loop-home.self key) w.in-Some.home test key e
          ∙ ap (λ l. l ++ one) (c.loop-home.invariant key)
          ∙ append_assoc old (entered (take i homes) test key e) one
          ∙ ap (λ l. old ++ l) (ap (λ o. entered (take i homes) test key e ++ entered (o ∷ []) test key e) (sym w.in-Some.is) ∙ sym (entered_more homes i None test key e h))
      | in_default w ↦
          ap (λ rows. row rows key) w.self-is ∙ c.loop-home.invariant key
          ∙ ap (λ l. old ++ l) (sym (no_home homes i None test key e h w.in_default.is))
    ]
