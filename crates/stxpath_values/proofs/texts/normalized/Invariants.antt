use Rattle.std.proofs.Common.{◌≡◌, ℕ, List, ◌++◌, not}
use Rattle.stxpath_values.specs.Conversion.{is_empty}
use Rattle.stxpath_values.specs.Words.{normalized}
use Rattle.stxpath_values.proofs.WordsLemmas.{cont}
use Rattle.stxpath_values.proofs.texts.normalized.Given as goal

-- whatever follows, what is made and what is still to be written are the text's words
abbrev pub invariant-loop-c : goal.invariant-loop-c
invariant-loop-c l = (more : List ℕ) → normalized (l.yielded ++ more) ≡ l.made ++ cont (not (is_empty l.made)) l.pending more
