use Rattle.std.proofs.Common.{◌≡◌, [], ◌++◌, refl, sym, ap, subst, ◌∙◌, append-nil, map-id}
use Rattle.std.proofs.lemmas.Iterator.{YieldsList-from_chars}
use Rattle.std.proofs.lemmas.Iterator.Consumers.{YieldsList-end}
use Rattle.template_machine.specs.Acting.{without_space}
use Rattle.template_machine.proofs.Targeted.{nothing_left, still_written}
use Rattle.template_machine.proofs.run.Run.without_space.Goals as goal

pub loop-c-init : goal.loop-c-init
loop-c-init c = λ more. subst (λ m. without_space more ≡ m ++ still_written m more) (sym c.new-made.ensures) refl

pub returns : goal.returns
returns c =
    let end = YieldsList-end (YieldsList-from_chars c.as_str.result.now c.as_str.utf8 cc) c.loop-c.yielded _ c.loop-c.yielded_by _ _ c.in-None.is c.next.ensures.steps in
    sym (nothing_left c.loop-c.made) ∙ sym (c.loop-c.invariant []) ∙ ap without_space (append-nil c.loop-c.yielded ∙ sym (map-id c.loop-c.yielded) ∙ end.0 ∙ c.as_str.ensures.chars)
