use Rattle.std.proofs.Common.{◌≡◌, drop}
use Rattle.std.specs.Prelude.{bytes_eq, find}
use Rattle.sheet_loader.specs.Meant.{word_of}
use Rattle.sheet_loader.proofs.kind.first_named.Given as goal

abbrev pub invariant-loop-kind : goal.invariant-loop-kind
invariant-loop-kind l = find (λ k. bytes_eq (word_of k) l.local) (drop l.kind-index l.kinds) ≡ find (λ k. bytes_eq (word_of k) l.local) l.kinds
