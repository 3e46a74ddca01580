use Rattle.std.proofs.Common.{◌≡◌, ◌++◌, None, length, map}
use Rattle.std.specs.Vec.Iter.{into_iter_items, into_iter_len}
use Rattle.result_writer.specs.Nodes.{attribute_part}
use Rattle.result_writer.specs.Target.{first_fault, left_by}
use Rattle.result_writer.proofs.writer.Writer.put_each_attribute.Given as goal

-- the attributes so far are put
abbrev pub invariant-loop-attr : goal.invariant-loop-attr
invariant-loop-attr l =
    (first_fault l.initial.self.limit l.initial.self.left (map attribute_part l.yielded) ≡ None)
    × (l.self ≡ record l.initial.self { left = left_by l.initial.self.left (map attribute_part l.yielded) })
    × (l.yielded ++ into_iter_items l.attr-iterator ≡ l.fn.attrs)
    × (into_iter_len l.attr-iterator ≡ length (into_iter_items l.attr-iterator))
