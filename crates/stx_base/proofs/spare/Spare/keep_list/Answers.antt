use Rattle.std.proofs.Common.{[], ◌++◌, ◌≤◌, sym, ap, ◌∙◌, append-nil, arith}
use Rattle.std.specs.Prelude.{is_ok, vec_capacity}
use Rattle.stx_base.specs.Spare.{Kept}
use Rattle.stx_base.proofs.SpareLemmas.{pushed, pushed_within}
use Rattle.stx_base.proofs.spare.Spare.keep_list.Goals as goal

pub returns-then-len-lt-MOST_LISTS-clause-gains : goal.returns-then-len-lt-MOST_LISTS-clause-gains
returns-then-len-lt-MOST_LISTS-clause-gains c =
    let p = pushed vec_capacity (is_ok c.push.result) c.self.inside.lists.items c.push.new.self.items c.args.attrs c.push.ensures.items in
    ([], p.0, ap (λ (k : Kept). k.texts) c.self.view_is ∙ sym (append-nil _), omega arith, p.1 ∙ ap (λ (k : Kept). k.lists ++ p.0) c.self.view_is, p.2)

pub returns-then-len-lt-MOST_LISTS-clause-bounded :
    goal.returns-then-len-lt-MOST_LISTS-clause-bounded
returns-then-len-lt-MOST_LISTS-clause-bounded c =
    let p = pushed_within vec_capacity (λ room. room ≤ 16) 64 (is_ok c.push.result) c.self.inside.lists.items c.push.new.self.items c.args.attrs c.push.ensures.items
    (omega (arith, c.capacity.ensures, c.if-capacity-le-MOST_ATTRS.true))
    (omega (arith, c.len.ensures, c.self.inside.lists.ok.0, c.if-len-lt-MOST_LISTS.true)) c.self.invariant.3 in
    (c.self.invariant.0, c.self.invariant.1, p.0, p.1)

pub returns-else-capacity-le-MOST_ATTRS-clause-gains :
    goal.returns-else-capacity-le-MOST_ATTRS-clause-gains
returns-else-capacity-le-MOST_ATTRS-clause-gains c = ([], [], sym (append-nil _), omega arith, sym (append-nil _), omega arith)
