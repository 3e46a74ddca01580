-- The parameters so far, with those of the words that are left, are those of all.
use Rattle.std.proofs.Common.{map, drop}
use Rattle.command_words.proofs.Params.{SoFar}
use Rattle.command_words.proofs.param.each_param.Given as goal

abbrev pub invariant-loop-word : goal.invariant-loop-word
invariant-loop-word l = SoFar l.params.items (map (λ word. word.now) (drop l.word-index l.words)) (map (λ word. word.now) l.words)
