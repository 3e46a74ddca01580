use Rattle.std.proofs.Common.{◌≡◌, ◌++◌, drop, map, option_to_list}
use Rattle.stxpath_eval.specs.Nodes.{passing_from}
use Rattle.stxpath_values.specs.declared.value.Item.TheVariants as item
use Rattle.stxpath_eval.proofs.nodes.only_passing.Given as goal

-- the one that was found, and what is still to pass, is all that passes
abbrev pub invariant-loop-index : goal.invariant-loop-index
invariant-loop-index l = map (λ r. item.Node r) (option_to_list l.only) ++ passing_from l.place l.index l.test (drop l.index l.attrs) ≡ passing_from l.place 0 l.test l.attrs
