use Rattle.event_buffers.proofs.Contents.{IsSoFar}
use Rattle.event_buffers.proofs.content.Content.of.Given as goal

abbrev pub invariant-loop-part : goal.invariant-loop-part
invariant-loop-part l = IsSoFar l.parts l.part-index l.kept.items l.target
