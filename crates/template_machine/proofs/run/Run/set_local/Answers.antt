use Rattle.std.proofs.Common.{◌≡◌, Some, reverse, sym, ap, ◌∙◌}
use Rattle.std.proofs.lemmas.Option.{slice_get_within}
use Rattle.std.specs.List.{slice_get}
use Rattle.frame_stack.specs.Change.{locals_of, with_locals}
use Rattle.frame_stack.specs.Stack.{FrameStack}
use Rattle.frame_stack.specs.declared.frame.Frame.{Frame}
use Rattle.template_machine.proofs.Assigned.{local_set_well}
use Rattle.template_machine.proofs.Placing.{changed_reversed, placed_in}
use Rattle.template_machine.proofs.Falling.{locals_set, same_under}
use Rattle.frame_stack.specs.Locals.{with_value}
use Rattle.template_machine.proofs.run.Run.set_local.Goals as goal

pub set_local-requires-clause-place : goal.set_local-requires-clause-place
set_local-requires-clause-place c = (placed_in c.args.self.now.frames.frames c.args.body c.requires.runs.place).1.2

pub set_local-requires-clause-index : goal.set_local-requires-clause-index
set_local-requires-clause-index c = λ frame is.
    let l = c.requires.local in
    let same : l.frame ≡ frame = one l.frame frame (sym l.there ∙ is) in
    slice_get_within (locals_of frame) c.args.index l.local (ap (λ x. slice_get (locals_of x) c.args.index) (sym same) ∙ l.is)
  where
    one : (x y : Frame) → Some x ≡ Some y → x ≡ y
    one x y e = cc

pub returns-clause-stands : goal.returns-clause-stands
returns-clause-stands c =
    local_set_well c.args.program.now c.args.self.now c.args.body c.args.index c.args.name.now c.args.value c.set_local.new.self c.requires.runs c.requires.local c.set_local.ensures

pub returns-clause-works : goal.returns-clause-works
returns-clause-works c =
    let r = c.args.self.now in
    same_under r c.set_local.new.self c.requires.runs.doing
    (locals_set (with_value c.args.index c.args.value) c.args.body r.frames c.set_local.new.self c.set_local.ensures)

pub returns-clause-behind : goal.returns-clause-behind
returns-clause-behind c =
    ap (λ (x : FrameStack). reverse x.frames) c.set_local.ensures
    ∙ changed_reversed (with_locals (with_value c.args.index c.args.value)) c.args.self.now.frames.frames c.args.body c.requires.runs.place
