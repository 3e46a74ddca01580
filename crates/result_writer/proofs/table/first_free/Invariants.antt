use Rattle.std.proofs.Common.{◌≡◌, ◌-◌, length}
use Rattle.result_writer.specs.Table.{HasPassed, free_from, free_prefix}
use Rattle.result_writer.proofs.table.first_free.Given as goal

-- the table has all prefixes so far
abbrev pub invariant-loop-number : goal.invariant-loop-number
invariant-loop-number l = record {
  passed : HasPassed l.table l.number;
  rest : free_from l.table l.number (length l.table - l.number) ≡ free_prefix l.table;
}
