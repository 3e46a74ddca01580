use Rattle.template_machine.proofs.Overs.{level_fits}
use Rattle.template_machine.proofs.Finished.{children_move, list_node, pc_there}
use Rattle.template_machine.specs.Standing.{Over, standing_of}
use Rattle.std.proofs.Common.{reverse}
use Rattle.template_machine.proofs.Overs.{children_over}
use Rattle.template_machine.proofs.run.Run.end_children.Goals as goal

pub end_process-requires : goal.end_process-requires
end_process-requires c = children_over c.args.program.now c.args.self.now c.requires.over c.requires.body

pub returns-clause-moves : goal.returns-clause-moves
returns-clause-moves c = λ alone.
    let p = c.args.program.now in
    let r = c.args.self.now in
    let over = c.requires.over in
    let at = pc_there (reverse r.frames.frames) c.requires.body in
    let l = level_fits (reverse r.frames.frames) (standing_of r).source.way r.source.begun Over c.requires.body over.fits in
    children_move p r c.end_process.new.self at.0 _ over.ahead at.1 (l.1 c.requires.body) (list_node r l.0) (c.end_process.ensures.moves alone)
