use Rattle.std.proofs.Common.{◌≡◌, drop}
use Rattle.result_writer.specs.Nodes.{attributes_fault}
use Rattle.result_writer.proofs.opened.attributes_fault.Given as goal

-- the first fault is among those that are left
abbrev pub invariant-loop-attr : goal.invariant-loop-attr
invariant-loop-attr l = attributes_fault (drop l.attr-index l.attrs) ≡ attributes_fault l.attrs
