use Rattle.std.proofs.Common.{◌≡◌, ◌<◌, ◌≤◌, ◌+◌, ◌*◌, ◌-◌, length, get_or, arith, subst, sym}
use Rattle.sheet_loader.proofs.Counting.{Counts, counts-init, counts-fits, counts-step}
use Rattle.sheet_loader.proofs.priority.number.Goals as goal

pub loop-digit-init : goal.loop-digit-init
loop-digit-init c = counts-init c.args.digits.now c.requires

pub overflow_mul-number : goal.overflow_mul-number
overflow_mul-number c =
    let within : c.loop-digit.digit-index < length c.args.digits.now = omega arith in
    let small : get_or c.args.digits.now c.loop-digit.digit-index 0 ≤ 255 = omega (arith, c.type_inv.digits c.loop-digit.digit-index) in
    let fits = counts-fits c.args.digits.now c.loop-digit.digit-index c.loop-digit.number within small c.loop-digit.invariant in
    omega arith

pub overflow_add-number : goal.overflow_add-number
overflow_add-number c =
    let within : c.loop-digit.digit-index < length c.args.digits.now = omega arith in
    let small : get_or c.args.digits.now c.loop-digit.digit-index 0 ≤ 255 = omega (arith, c.type_inv.digits c.loop-digit.digit-index) in
    let fits = counts-fits c.args.digits.now c.loop-digit.digit-index c.loop-digit.number within small c.loop-digit.invariant in
    let same : c.from.result ≡ get_or c.args.digits.now c.loop-digit.digit-index 0 - 48 = cc in
    omega arith

pub loop-digit-preserved : goal.loop-digit-preserved
loop-digit-preserved c =
    let within : c.loop-digit.digit-index < length c.args.digits.now = omega arith in
    let small : get_or c.args.digits.now c.loop-digit.digit-index 0 ≤ 255 = omega (arith, c.type_inv.digits c.loop-digit.digit-index) in
    let same : c.from.result ≡ get_or c.args.digits.now c.loop-digit.digit-index 0 - 48 = cc in
    subst (λ b. Counts c.args.digits.now (c.loop-digit.digit-index + 1) (c.loop-digit.number * 10 + b)) (sym same)
    (counts-step c.args.digits.now c.loop-digit.digit-index c.loop-digit.number within small c.loop-digit.invariant)
