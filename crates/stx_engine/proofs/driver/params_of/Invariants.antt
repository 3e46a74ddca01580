use Rattle.std.proofs.Common.{◌≡◌, ◌++◌, map}
use Rattle.std.specs.Vec.Iter.{into_iter_items}
use Rattle.stx_engine.specs.Answer.{param_of}
use Rattle.stx_engine.proofs.driver.params_of.Given as goal

-- some first ones were taken
abbrev pub invariant-loop-param : goal.invariant-loop-param
invariant-loop-param l = l.params.items ++ map param_of (into_iter_items l.param-iterator) ≡ map param_of l.fn.given
