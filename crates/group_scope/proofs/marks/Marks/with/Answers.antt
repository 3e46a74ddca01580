use Rattle.std.proofs.Common.{◌<◌, not, length, arith}
use Rattle.group_scope.proofs.Marking.{kept_with, marked_with, one_or_other}
use Rattle.group_scope.proofs.marks.Marks.with.Goals as goal

pub returns-then-unknown-clause-kept : goal.returns-then-unknown-clause-kept
returns-then-unknown-clause-kept c = kept_with c.args.self c.home_kind.result c.test_kind.result c.args.self.unknown (λ e. e)

pub returns-else-unknown-clause-kept : goal.returns-else-unknown-clause-kept
returns-else-unknown-clause-kept c = kept_with c.args.self c.home_kind.result c.test_kind.result (not c.is_known.result) (λ e. let unset = c.if-unknown.false in cc)

pub returns-else-unknown-clause-marked : goal.returns-else-unknown-clause-marked
returns-else-unknown-clause-marked c =
    let home : c.home_kind.result < length c.args.self.homes = omega arith in
    let test : c.test_kind.result < length c.args.self.tests = omega arith in
    marked_with c.args.self c.args.key c.home_kind.result c.test_kind.result (not c.is_known.result) home test c.home_kind.ensures.value c.test_kind.ensures.value (one_or_other c.is_known.result _ c.is_known.ensures)
