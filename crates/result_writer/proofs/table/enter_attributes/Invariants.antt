use Rattle.std.proofs.Common.{◌≡◌, ◌++◌, drop}
use Rattle.result_writer.specs.Table.{HasPassed, prefixes, with_attributes}
use Rattle.result_writer.proofs.table.enter_attributes.Given as goal

-- the attributes that are left make of the table what all make of the first one, and give the other prefixes
abbrev pub invariant-loop-attr : goal.invariant-loop-attr
invariant-loop-attr l =
    let rest = drop l.attr-index l.attrs in record {
      table : with_attributes l.table rest ≡ with_attributes l.fn.table l.attrs;
      prefixes : l.prefixes ++ prefixes l.table rest ≡ prefixes l.fn.table l.attrs;
      passed : HasPassed l.table l.passed;
    }
