use Rattle.std.proofs.Common.{◌≡◌, ◌+◌, ◌<◌, ◌∷◌, max, drop, get_or, length, ap, sym, subst, ◌∙◌, arith}
use Rattle.template_machine.specs.Programs.{deepest, deepest_of}
use Rattle.template_machine.proofs.Deepest.{deeper_buffer}
use Rattle.template_machine.proofs.Joining.{dropped_is}
use Rattle.template_machine.proofs.program.buffer_depth.Goals as goal

pub loop-buffer-preserved : goal.loop-buffer-preserved
loop-buffer-preserved c =
    let buffers = c.args.sheet.now.buffers in
    let i = c.loop-buffer.buffer-index in
    let b = c.buffer-item.result in
    let deep = c.loop-buffer.deepest in
    let bs = drop (i + 1) buffers in
    let items : c.as_slice-buffer-items.result.now ≡ buffers = c.as_slice-buffer-items.ensures in
    let within : i < length buffers = omega (arith, ap length items) in
    let rest : drop i buffers ≡ b ∷ bs = dropped_is buffers i b within (subst (λ l. b ≡ get_or l i b) items c.buffer-item.is) in
    let own : c.depth_of.result ≡ deepest b.content = c.depth_of.ensures in
    let deeper_is : c.max-deepest.result ≡ max deep c.depth_of.result = c.max-deepest.ensures in
    ap (λ n. deepest_of n bs) (deeper_is ∙ ap (max deep) own) ∙ deeper_buffer deep (deepest b.content) bs ∙ ap (deepest_of deep) (sym rest) ∙ c.loop-buffer.invariant
