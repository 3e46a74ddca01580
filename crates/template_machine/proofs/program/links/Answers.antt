use Rattle.std.proofs.Common.{◌≡◌, ℕ, Some, below_more, arith}
use Rattle.std.specs.Prelude.{slice_get}
use Rattle.template_machine.specs.Programs.{IsLinked, IsOf, groups_of}
use Rattle.template_machine.proofs.Linking.{linked_still}
use Rattle.template_machine.proofs.program.links.Goals as goal

pub loop-body-preserved : goal.loop-body-preserved
loop-body-preserved c =
    let s = c.args.sheet.now in
    let code = c.args.code.now in
    let old = c.loop-body.links in
    let new = c.link_body.new.links in
    let linked =
    below_more (λ other. (group number : ℕ) → slice_get (groups_of s) other ≡ Some group → IsOf code other number → IsLinked s code new group number) c.loop-body.body
    (λ other less group number named own.
    linked_still s code old new group number
    (c.link_body.ensures.others number (λ mine. let same = c.requires.laid_out.apart other c.loop-body.body number own mine in omega (arith, same, less)))
    (c.loop-body.invariant.linked other group number less named own))
    (λ group number named own. c.link_body.ensures.linked group number named own) in
    record { all = c.link_body.ensures.all; linked = λ other group number less named own. linked other less group number named own }
