use Rattle.load_rows.specs.Levels.{AreRising}
use Rattle.load_rows.proofs.frames.Rising.put_all.Given as goal

abbrev pub invariant-loop-word : goal.invariant-loop-word
invariant-loop-word l = AreRising l.self.level l.self.frames.frames
