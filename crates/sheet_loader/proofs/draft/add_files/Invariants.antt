use Rattle.std.proofs.Common.{◌≡◌, ◌∷◌, ◌++◌}
use Rattle.sheet_loader.proofs.draft.add_files.Given as goal

abbrev pub invariant-loop-name : goal.invariant-loop-name
invariant-loop-name l = l.files ≡ l.fn.files ++ l.fn.own ∷ l.yielded
