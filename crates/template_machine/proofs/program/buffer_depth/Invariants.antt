use Rattle.std.proofs.Common.{◌≡◌, drop}
use Rattle.template_machine.specs.Programs.{deepest_of}
use Rattle.template_machine.proofs.program.buffer_depth.Given as goal

-- the deepest so far, and of the buffers that are left, is that of all
abbrev pub invariant-loop-buffer : goal.invariant-loop-buffer
invariant-loop-buffer l = deepest_of l.deepest (drop l.buffer-index l.sheet.buffers) ≡ deepest_of l.limits.elements l.sheet.buffers
