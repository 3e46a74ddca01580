use Rattle.std.proofs.Common.{◌∙◌, false, IsSome, reverse, ap, sym, subst}
use Rattle.std.specs.Prelude.{◌==◌}
use Rattle.std.specs.Option.{option_and_then, option_map_or}
use Rattle.template_machine.specs.Bodies.{level_of}
use Rattle.template_machine.proofs.Asking.{no_level, placed_level}
use Rattle.template_machine.proofs.Placing.{found_below, placed_in}
use Rattle.template_machine.proofs.run.Run.is_asked_again.Goals as goal

pub level_at-requires : goal.level_at-requires
level_at-requires c =
    let xs = c.args.self.now.frames.frames in
    let at = sym (found_below xs c.body_below.result c.count.result c.body_below.ensures c.count.ensures) ∙ c.in-Some.is in
    let x = placed_in xs c.in-Some.body at in
    subst (λ o. IsSome (option_and_then level_of o)) (x.1.0 ∙ sym x.1.1) (placed_level (reverse xs) c.in-Some.body at)

pub returns-in-Some : goal.returns-in-Some
returns-in-Some c =
    let xs = c.args.self.now.frames.frames in
    let at = sym (found_below xs c.body_below.result c.count.result c.body_below.ensures c.count.ensures) ∙ c.in-Some.is in
    let x = placed_in xs c.in-Some.body at in
    sym (ap (λ o. option_map_or (λ l. l == c.args.level) o false) (ap (option_and_then level_of) (x.1.0 ∙ sym x.1.1) ∙ c.level_at.ensures))

pub returns-in-None : goal.returns-in-None
returns-in-None c =
    let xs = c.args.self.now.frames.frames in
    let none = sym (found_below xs c.body_below.result c.count.result c.body_below.ensures c.count.ensures) ∙ c.in-None.is in
    sym (ap (λ o. option_map_or (λ l. l == c.args.level) o false) (no_level (reverse xs) none))
