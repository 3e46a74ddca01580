use Rattle.std.proofs.Common.{◌≡◌, drop}
use Rattle.std.specs.Prelude.{bytes_eq, find}
use Rattle.stx_base.specs.Functions.{word}
use Rattle.stxpath_syntax.proofs.functions.first_named.Given as goal

abbrev pub invariant-loop-fun : goal.invariant-loop-fun
invariant-loop-fun l = find (λ f. bytes_eq (word f) l.name) (drop l.fun-index l.functions) ≡ find (λ f. bytes_eq (word f) l.name) l.functions
