use Rattle.std.proofs.Common.{◌∙◌, ap, sym}
use Rattle.std.specs.Option.{option_copied}
use Rattle.template_machine.specs.Bodies.{skipped_in}
use Rattle.template_machine.proofs.Tops.{no_top, top_frame}
use Rattle.template_machine.proofs.lists.skipped.Goals as goal

pub returns-in-Some : goal.returns-in-Some
returns-in-Some c =
    c.depth_of.ensures ∙ sym (ap skipped_in (top_frame c.args.frames.now.frames c.in-Some.frame.now (sym c.top.ensures ∙ ap option_copied c.in-Some.is)).1)

pub returns-in-None : goal.returns-in-None
returns-in-None c = sym (ap skipped_in (no_top c.args.frames.now.frames (sym c.top.ensures ∙ ap option_copied c.in-None.is)))
