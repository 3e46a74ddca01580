use Rattle.std.proofs.Common.{arith}
use Rattle.sheet_loader.proofs.Counting.{written-below}
use Rattle.sheet_loader.proofs.priority.hundredths.Goals as goal

pub overflow_mul-result : goal.overflow_mul-result
overflow_mul-result c = let below = written-below 2 c.args.digits.now c.requires in omega arith

pub returns-then-digits-eq1-clause-bound : goal.returns-then-digits-eq1-clause-bound
returns-then-digits-eq1-clause-bound c = let below = written-below 2 c.args.digits.now c.requires in omega arith

pub returns-else-digits-eq1-clause-bound : goal.returns-else-digits-eq1-clause-bound
returns-else-digits-eq1-clause-bound c = let below = written-below 2 c.args.digits.now c.requires in omega arith
