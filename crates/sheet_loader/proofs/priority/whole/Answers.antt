use Rattle.std.proofs.Common.{◌≡◌, true, arith}
use Rattle.sheet_loader.specs.Values.{are_digits}
use Rattle.sheet_loader.proofs.Counting.{at-most, written-below}
use Rattle.sheet_loader.proofs.priority.whole.Goals as goal

pub returns-then-are_digits-clause-bound : goal.returns-then-are_digits-clause-bound
returns-then-are_digits-clause-bound c =
    let yes : are_digits 1 6 c.args.digits.now ≡ true = cc in
    let below = written-below 6 c.args.digits.now yes in
    omega arith

pub number-requires : goal.number-requires
number-requires c =
    let yes : are_digits 1 6 c.args.digits.now ≡ true = cc in
    at-most 6 c.args.digits.now yes
