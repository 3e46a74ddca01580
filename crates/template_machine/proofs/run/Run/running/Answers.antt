use Rattle.std.proofs.Common.{◌≡◌, ◌∙◌, Some, IsSome, reverse, refl, ap, sym, subst}
use Rattle.std.specs.Option.{option_and_then}
use Rattle.template_machine.specs.Bodies.{pc_of}
use Rattle.template_machine.proofs.Placing.{found_below, has_level, has_place, placed_in}
use Rattle.template_machine.proofs.run.Run.running.Goals as goal

pub unwrap-body-requires : goal.unwrap-body-requires
unwrap-body-requires c =
    let xs = c.args.self.now.frames.frames in
    let place = has_place (reverse xs) (has_level (reverse xs) c.requires) in
    subst (λ o. IsSome o) (sym (found_below xs c.body_below.result c.count.result c.body_below.ensures c.count.ensures ∙ place.1)) refl

pub pc_at-requires : goal.pc_at-requires
pc_at-requires c =
    let xs = c.args.self.now.frames.frames in
    let is : c.body_below.result ≡ Some c.unwrap-body.result = cc in
    let x = placed_in xs c.unwrap-body.result (sym (found_below xs c.body_below.result c.count.result c.body_below.ensures c.count.ensures) ∙ is) in
    subst (λ o. IsSome (option_and_then pc_of o)) (x.1.0 ∙ sym x.1.1) c.requires

pub returns-clause-pc : goal.returns-clause-pc
returns-clause-pc c =
    let xs = c.args.self.now.frames.frames in
    let is : c.body_below.result ≡ Some c.unwrap-body.result = cc in
    let x = placed_in xs c.unwrap-body.result (sym (found_below xs c.body_below.result c.count.result c.body_below.ensures c.count.ensures) ∙ is) in
    ap (option_and_then pc_of) (x.1.0 ∙ sym x.1.1) ∙ c.pc_at.ensures
