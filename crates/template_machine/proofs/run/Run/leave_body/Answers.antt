use Rattle.std.proofs.Common.{subst}
use Rattle.template_machine.specs.Well.{AreWell}
use Rattle.template_machine.specs.Standing.{node_over, standing_of}
use Rattle.template_machine.proofs.InOrder.{document_last}
use Rattle.template_machine.proofs.Finished.{body_moves_again, body_moves_apart, body_moves_done}
use Rattle.std.proofs.Common.{◌≡◌, ◌∙◌, true, false, reverse, ap, sym, arith}
use Rattle.std.specs.Prelude.{◌&&◌, not, if◌then◌else◌}
use Rattle.node_stack.specs.Path.{can_have_children}
use Rattle.node_stack.specs.Stack.{path}
use Rattle.template_machine.specs.Well.{is_again}
use Rattle.template_machine.proofs.Taken.{body_left, body_waits}
use Rattle.template_machine.proofs.Ways.{way_here}
use Rattle.template_machine.proofs.Falling.{begins_within}
use Rattle.template_machine.specs.Work.{Begins}
use Rattle.template_machine.proofs.Operating.{on_ok}
use Rattle.template_machine.proofs.run.Run.leave_body.Goals as goal
use Rattle.template_machine.proofs.Untaken.{in_list}

pub end_process-requires : goal.end_process-requires
end_process-requires c =
    let r = c.args.self.now in
    let again : is_again c.args.level (reverse r.frames.frames) ≡ true = cc in body_waits c.args.program.now r c.args.level c.args.spent c.requires again

pub leave_node-requires : goal.leave_node-requires
leave_node-requires c =
    let r = c.args.self.now in
    let apart : is_again c.args.level (reverse r.frames.frames) ≡ false = cc in
    let gone : c.is_open.result ≡ false = cc in
    body_left c.args.program.now r c.args.level c.args.spent c.requires apart
    (ap (λ o. can_have_children o && not c.args.spent) (way_here (path r.source.stack)) ∙ sym c.is_open.ensures ∙ gone)

pub returns-then-is_asked_again-clause-works : goal.returns-then-is_asked_again-clause-works
returns-then-is_asked_again-clause-works c = begins_within 0 4 c.args.self.now c.end_process.new.self (omega arith) c.end_process.ensures.works

pub returns-clause-works : goal.returns-clause-works
returns-clause-works c =
    let r = c.args.self.now in
    let n = c.leave_node.new.self in
    on_ok c.leave_node.result (Begins 2 r n) (Begins 4 r n) c.leave_node.ensures.works (λ b. begins_within 2 4 r n (omega arith) b)

pub returns-then-is_asked_again-clause-moves : goal.returns-then-is_asked_again-clause-moves
returns-then-is_asked_again-clause-moves c = λ alone same.
    let r = c.args.self.now in
    let again : is_again c.args.level (reverse r.frames.frames) ≡ true = cc in
    body_moves_again c.args.program.now r c.end_process.new.self c.args.level c.args.spent _ again (same again) (c.end_process.ensures.moves alone)

pub returns-then-is_open-clause-moves : goal.returns-then-is_open-clause-moves
returns-then-is_open-clause-moves c = λ alone same.
    let r = c.args.self.now in
    let apart : is_again c.args.level (reverse r.frames.frames) ≡ false = cc in
    body_moves_apart c.args.program.now r c.skip_children.new.self c.args.level c.args.spent c.skip_children.result apart (c.skip_children.ensures.moves alone)

pub returns-clause-moves : goal.returns-clause-moves
returns-clause-moves c = λ alone same.
    let p = c.args.program.now in
    let r = c.args.self.now in
    let fs = reverse r.frames.frames in
    let h = c.requires in
    let apart : is_again c.args.level fs ≡ false = cc in
    let shut : c.is_open.result ≡ false = cc in
    body_moves_apart p r c.leave_node.new.self c.args.level c.args.spent c.leave_node.result apart
    (body_moves_done p r c.leave_node.new.self c.args.spent c.leave_node.result (h.take apart) h.apart (sym c.is_open.ensures ∙ shut)
    (c.leave_node.ensures.moves alone
    (λ is.
    document_last p h.stations r fs (subst (λ b. AreWell p h.stations 0 true fs (if b then standing_of r else node_over (standing_of r))) apart h.well) alone is)
    (in_list r (h.take apart))))
