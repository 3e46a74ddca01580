use Rattle.std.proofs.Common.{◌≡◌, map, drop, ◌++◌, Ok}
use Rattle.std.specs.List.{concat}
use Rattle.stxpath_values.specs.Outcome.{and_then, each}
use Rattle.stxpath_values.specs.Conversion.{as_text}
use Rattle.stxpath_values.specs.Lent.{sequence_of}
use Rattle.stxpath_values.proofs.texts.concat.Given as goal

abbrev pub invariant-loop-list : goal.invariant-loop-list
invariant-loop-list l =
    and_then (each as_text (map sequence_of (drop l.list-index l.lists))) (λ parts. Ok (l.made ++ concat parts))
    ≡ and_then (each as_text (map sequence_of l.lists)) (λ parts. Ok (concat parts))
