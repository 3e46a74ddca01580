use Rattle.std.proofs.Common.{◌-◌, ◌∙◌, reverse, refl, ap}
use Rattle.frame_stack.specs.Change.{changed, with_depth}
use Rattle.frame_stack.specs.Stack.{FrameStack}
use Rattle.frame_stack.specs.declared.frame.Frame.TheVariants.{Skip}
use Rattle.template_machine.proofs.Arriving.{skips_to}
use Rattle.template_machine.proofs.Tops.{top_changed}
use Rattle.template_machine.proofs.Lightened.{skip_deepens}
use Rattle.template_machine.proofs.run.Run.skip_to.Goals as goal
use Rattle.template_machine.proofs.Shelved.{stands_still}

pub returns-clause-stands : goal.returns-clause-stands
returns-clause-stands c =
    let r = c.args.self.now in
    let n = record r { frames = c.set_depth.new.self } in
    skips_to c.args.program.now r n c.args.depth c.requires
    (record { outer = refl; aside = refl; store = refl; putting = stands_still _ }) refl refl
    (λ d gs is.
    ap (λ (x : FrameStack). reverse x.frames) c.set_depth.ensures
    ∙ ap (λ k. reverse (changed (with_depth c.args.depth) (k - 1) r.frames.frames)) c.count-top.ensures
    ∙ top_changed (with_depth c.args.depth) r.frames.frames (Skip d) gs is)

pub returns-clause-works : goal.returns-clause-works
returns-clause-works c = λ d skipped.
    let r = c.args.self.now in
    let n = record r { frames = c.set_depth.new.self } in (
      refl,
      skip_deepens r n d c.args.depth skipped
          (λ old gs is.
          ap (λ (x : FrameStack). reverse x.frames) c.set_depth.ensures
          ∙ ap (λ k. reverse (changed (with_depth c.args.depth) (k - 1) r.frames.frames)) c.count-top.ensures
          ∙ top_changed (with_depth c.args.depth) r.frames.frames (Skip old) gs is)
          refl refl refl,
    )

pub returns-clause-depth : goal.returns-clause-depth
returns-clause-depth c = λ d gs is.
    let r = c.args.self.now in
    ap (λ (x : FrameStack). reverse x.frames) c.set_depth.ensures
    ∙ ap (λ k. reverse (changed (with_depth c.args.depth) (k - 1) r.frames.frames)) c.count-top.ensures
    ∙ top_changed (with_depth c.args.depth) r.frames.frames (Skip d) gs is
