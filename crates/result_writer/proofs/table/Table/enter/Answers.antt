use Rattle.std.proofs.Common.{◌≡◌, ◌∙◌, ap, sym, subst, false}
use Rattle.result_writer.specs.Table.{AreApart, has_prefix}
use Rattle.result_writer.proofs.Apart.{apart-last}
use Rattle.result_writer.proofs.table.Table.enter.Goals as goal

pub invariant_of-self : goal.invariant_of-self
invariant_of-self c =
    let t = c.self.inside.entries in
    let lacks : has_prefix t c.in_ok-prefix.prefix ≡ false =
    ap (has_prefix t) c.in_ok-prefix.ensures ∙ ap (λ l. has_prefix l c.args.prefix.now) c.self.view_is ∙ sym c.has_prefix.ensures ∙ c.if-not-has_prefix.true in
    subst AreApart (sym c.in_ok-push.ensures.ok) (apart-last t (record { prefix = c.in_ok-prefix.prefix; uri = c.in_ok-uri.uri }) c.self.invariant lacks)
