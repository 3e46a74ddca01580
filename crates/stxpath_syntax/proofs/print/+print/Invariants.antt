use Rattle.std.proofs.Common.{◌≡◌, ◌∷◌, ◌++◌, drop, map}
use Rattle.std.specs.List.{concat}
use Rattle.stxpath_syntax.specs.Printing.{predicates, printed, step_text}
use Rattle.stxpath_syntax.proofs.Printing.{left}
use Rattle.stxpath_syntax.proofs.print.+print.Given as goal

abbrev pub invariant-put_items-loop-index : goal.invariant-put_items-loop-index
invariant-put_items-loop-index l = l.text ++ left l.index l.items ≡ l.fn.text ++ 40 ∷ left 0 l.items

abbrev pub invariant-put_predicates-loop-predicate : goal.invariant-put_predicates-loop-predicate
invariant-put_predicates-loop-predicate l =
    l.text ++ predicates (map printed (drop l.predicate-index l.predicates)) ≡ l.fn.text ++ predicates (map printed l.predicates)

abbrev pub invariant-put_steps-loop-step : goal.invariant-put_steps-loop-step
invariant-put_steps-loop-step l = l.text ++ concat (map step_text (drop l.step-index l.steps)) ≡ l.fn.text ++ concat (map step_text l.steps)
