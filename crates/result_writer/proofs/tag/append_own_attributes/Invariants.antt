use Rattle.std.proofs.Common.{◌≡◌, ◌++◌, drop}
use Rattle.stx_base.specs.Course.{Begins}
use Rattle.result_writer.specs.Steady.{own_prefixes}
use Rattle.result_writer.specs.Tag.{attributes}
use Rattle.result_writer.proofs.tag.append_own_attributes.Given as goal

-- what was appended so far, and then the attributes that are left, is all of them
abbrev pub invariant-loop-attr : goal.invariant-loop-attr
invariant-loop-attr l =
    let rest = drop l.attr-index l.attrs in record {
      written : l.out.items ++ attributes (own_prefixes rest) rest ≡ l.fn.out.items ++ attributes (own_prefixes l.attrs) l.attrs;
      kept : Begins l.fn.out.items l.out.items;
    }
