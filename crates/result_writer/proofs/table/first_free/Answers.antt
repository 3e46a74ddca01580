use Rattle.std.proofs.Common.{◌≡◌, ◌<◌, true, false, sym, ap, ◌∙◌, length, arith}
use Rattle.result_writer.specs.Table.{has_prefix, numbered}
use Rattle.result_writer.proofs.Tabling.{free_from-here, free_from-more, free_from-passed, one-more-passed}
use Rattle.result_writer.proofs.table.first_free.Goals as goal

pub loop-number-init : goal.loop-number-init
loop-number-init c = record { passed = c.requires; rest = free_from-passed c.args.table.now c.args.passed c.requires }

pub loop-number-preserved : goal.loop-number-preserved
loop-number-preserved c =
    let table = c.args.table.now in
    let has : has_prefix table (numbered c.loop-number.number) ≡ true =
    ap (has_prefix table) (sym c.in_ok-prefix.ensures) ∙ sym c.has_prefix.ensures ∙ c.if-not-has_prefix.false in
    let within : c.loop-number.number < length table = omega arith in record {
      passed = one-more-passed table c.loop-number.number within has c.loop-number.invariant.passed;
      rest = sym (free_from-more table c.loop-number.number (length table) within has) ∙ c.loop-number.invariant.rest;
    }

pub returns-then-not-has_prefix-clause-free : goal.returns-then-not-has_prefix-clause-free
returns-then-not-has_prefix-clause-free c =
    let table = c.args.table.now in
    let lacks : has_prefix table (numbered c.loop-number.number) ≡ false =
    ap (has_prefix table) (sym c.in_ok-prefix.ensures) ∙ sym c.has_prefix.ensures ∙ c.if-not-has_prefix.true in
    let within : c.loop-number.number < length table = omega arith in
    sym (free_from-here table c.loop-number.number (length table) within lacks) ∙ c.loop-number.invariant.rest
