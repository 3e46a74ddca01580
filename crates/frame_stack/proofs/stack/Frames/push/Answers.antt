use Rattle.std.proofs.Common.{List, [], ◌∷◌, ◌++◌, sym, subst}
use Rattle.frame_stack.specs.declared.counted.Entry.{Entry}
use Rattle.frame_stack.specs.declared.frame.Frame.{Frame}
use Rattle.frame_stack.specs.Counted.{AreCounted, IsCounted, frames_of}
use Rattle.frame_stack.proofs.Standing.{pushed_on}
use Rattle.frame_stack.proofs.stack.Frames.push.Goals as goal

pub invariant_of-self-2 : goal.invariant_of-self-2
invariant_of-self-2 c =
    let entry = c.in_ok-entry.entry in
    let items = c.self.inside.entries.items in
    let OnItems : List Entry → Type 0 = λ es. IsCounted (frames_of es ++ c.args.frame ∷ []) entry in
    let OnFrame : Frame → Type 0 = λ f. IsCounted (frames_of items ++ f ∷ []) entry in
    subst AreCounted (sym c.in_ok-push.ensures.items)
    (pushed_on [] items entry c.self.invariant
    (subst OnFrame (sym c.in_ok-entry.ensures.frame) (subst OnItems c.deref.ensures.value c.in_ok-entry.ensures.counted)))
