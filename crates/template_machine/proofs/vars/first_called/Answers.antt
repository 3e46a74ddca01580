use Rattle.std.proofs.Common.{◌≡◌, Some, false, true, sym, ap, ◌∙◌, below_more, arith}
use Rattle.std.specs.Prelude.{slice_get}
use Rattle.std.proofs.lemmas.List.{length-map}
use Rattle.std.proofs.lemmas.Option.{slice_get_within}
use Rattle.frame_stack.specs.declared.locals.Local.{Local}
use Rattle.var_store.specs.Variables.{bound, is_called}
use Rattle.var_store.specs.declared.bound.Bound.{Bound}
use Rattle.template_machine.specs.Seen.{bounds_of}
use Rattle.template_machine.proofs.Firsts.{first_is, none_is}
use Rattle.template_machine.proofs.Locally.{local_at}
use Rattle.template_machine.proofs.vars.first_called.Goals as goal

pub returns-then-is_same-clause-value : goal.returns-then-is_same-clause-value
returns-then-is_same-clause-value c =
    let n = c.name.result.now in
    let there = local_at c.args.locals.now c.loop-index.index n c.name.ensures in
    let holds : is_called c.args.name.now (bound n there.0) ≡ true = sym c.is_same.ensures ∙ c.if-is_same.true in
    sym (first_is (is_called c.args.name.now) (bounds_of c.args.locals.now) c.loop-index.index (bound n there.0) there.1 holds
    (λ k b l is. c.loop-index.invariant k l b is))

pub loop-index-preserved : goal.loop-index-preserved
loop-index-preserved c =
    let n = c.name.result.now in
    let there = local_at c.args.locals.now c.loop-index.index n c.name.ensures in
    let fails : is_called c.args.name.now (bound n there.0) ≡ false = sym c.is_same.ensures ∙ c.if-is_same.false in
    below_more (λ k. (b : Bound) → slice_get (bounds_of c.args.locals.now) k ≡ Some b → is_called c.args.name.now b ≡ false) c.loop-index.index c.loop-index.invariant
    (λ b is. let same : b ≡ bound n there.0 = cc (is, there.1) in ap (is_called c.args.name.now) same ∙ fails)

pub returns-clause-value : goal.returns-clause-value
returns-clause-value c =
    sym (none_is (is_called c.args.name.now) (bounds_of c.args.locals.now)
    (λ k b is.
    let l = slice_get_within (bounds_of c.args.locals.now) k b is in
    c.loop-index.invariant k (omega (arith, l, length-map c.args.locals.now (λ (x : Local). bound x.name x.value), c.loop-index-test.false, c.len-index-end.ensures)) b is))
