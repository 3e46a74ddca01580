use Rattle.std.proofs.Common.{◌≡◌, ◌+◌, ◌∙◌, Some, ap, sym, arith}
use Rattle.template_machine.specs.declared.bodies.Role.TheVariants as role
use Rattle.template_machine.proofs.Below.{body_at, below_long}
use Rattle.template_machine.proofs.bodies.body_below.Goals as goal

pub loop-under-preserved : goal.loop-under-preserved
loop-under-preserved c =
    let up : c.in-Some.under + 1 ≡ c.loop-under.top = omega (arith, c.in-Some.ensures) in
    record { within = omega (arith, c.in-Some.ensures); same = sym (body_at c.args.frames.now.frames c.loop-under.top c.in-Some.under c.at.result.now role.Loop up c.at.ensures (sym c.role_of.ensures ∙ c.in-Loop.is)) ∙ c.loop-under.invariant.same }

pub returns-in-Template : goal.returns-in-Template
returns-in-Template c =
    let up : c.in-Some.under + 1 ≡ c.loop-under.top = omega (arith, c.in-Some.ensures) in
    ap (λ n. Some n) (sym (below_long c.args.frames.now.frames c.in-Some.under (omega (arith, c.in-Some.ensures)))) ∙ sym (body_at c.args.frames.now.frames c.loop-under.top c.in-Some.under c.at.result.now role.Template up c.at.ensures (sym c.role_of.ensures ∙ c.in-Template.is)) ∙ c.loop-under.invariant.same

pub returns-in-Procedure : goal.returns-in-Procedure
returns-in-Procedure c =
    let up : c.in-Some.under + 1 ≡ c.loop-under.top = omega (arith, c.in-Some.ensures) in
    ap (λ n. Some n) (sym (below_long c.args.frames.now.frames c.in-Some.under (omega (arith, c.in-Some.ensures)))) ∙ sym (body_at c.args.frames.now.frames c.loop-under.top c.in-Some.under c.at.result.now role.Procedure up c.at.ensures (sym c.role_of.ensures ∙ c.in-Procedure.is)) ∙ c.loop-under.invariant.same

pub returns-in-Other : goal.returns-in-Other
returns-in-Other c =
    let up : c.in-Some.under + 1 ≡ c.loop-under.top = omega (arith, c.in-Some.ensures) in
    sym (body_at c.args.frames.now.frames c.loop-under.top c.in-Some.under c.at.result.now role.Other up c.at.ensures (sym c.role_of.ensures ∙ c.in-Other.is)) ∙ c.loop-under.invariant.same
