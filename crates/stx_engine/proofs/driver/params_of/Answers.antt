use Rattle.std.proofs.Common.{◌≡◌, ◌++◌, ◌∙◌, ap, arith, map}
use Rattle.std.specs.Vec.Iter.{into_iter_items}
use Rattle.stx_engine.specs.Answer.{param_of}
use Rattle.stx_engine.proofs.Giving.{all-taken, one-more}
use Rattle.stx_engine.proofs.driver.params_of.Goals as goal

pub loop-param-init : goal.loop-param-init
loop-param-init c =
    let e : into_iter_items c.into_iter-param-iterator.result ≡ c.args.given = cc in
    ap (λ l. l ++ map param_of (into_iter_items c.into_iter-param-iterator.result)) c.new-params.ensures.items ∙ ap (map param_of) e

pub loop-param-preserved : goal.loop-param-preserved
loop-param-preserved c =
    let loop = c.loop-param in
    one-more loop.params.items c.push.new.self.items c.in-Some.param (into_iter_items loop.param-iterator) c.args.given (into_iter_items c.next.new.self) c.param_from.result
    c.param_from.ensures c.in-Some.ensures.steps.0 c.in_ok-push.ensures.items loop.invariant

pub returns : goal.returns
returns c =
    let loop = c.loop-param in
    c.from_vec.ensures ∙ all-taken loop.params.items (into_iter_items loop.param-iterator) c.args.given (omega (arith, loop.param-iterator.rest.ok.0, c.in-None.ensures.steps.0)) loop.invariant
