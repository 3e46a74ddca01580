use Rattle.std.proofs.Common.{◌≡◌, ◌++◌, drop}
use Rattle.stx_base.specs.Course.{Begins}
use Rattle.result_writer.specs.Tag.{attributes}
use Rattle.result_writer.proofs.tag.append_attributes.Given as goal

-- what was appended so far, and then the attributes that are left, is all of them
abbrev pub invariant-loop-attr : goal.invariant-loop-attr
invariant-loop-attr l = record {
  written : l.out.items ++ attributes l.prefixes (drop l.attr-index l.attrs) ≡ l.fn.out.items ++ attributes l.fn.prefixes l.attrs;
  kept : Begins l.fn.out.items l.out.items;
}
