use Rattle.instr_code.proofs.Compiling.{IsNew, compiled_is, of_procedures, of_templates, sheet_room, whole_code}
use Rattle.instr_code.proofs.PuttingBodies.{room_before, room_behind}
use Rattle.instr_code.proofs.code.compile.Goals as goal

pub put_templates-requires : goal.put_templates-requires
put_templates-requires c =
    let s = c.args.sheet in
    let b = c.new-bodies.result in
    let new : IsNew b = record { starts = c.new-bodies.ensures.starts; ops = c.new-bodies.ensures.ops; instrs = c.new-bodies.ensures.instrs } in
    room_before (of_templates s) (of_procedures s) b (sheet_room s b c.requires.small new)

pub put_procedures-requires : goal.put_procedures-requires
put_procedures-requires c =
    let s = c.args.sheet in
    let b = c.new-bodies.result in
    let new : IsNew b = record { starts = c.new-bodies.ensures.starts; ops = c.new-bodies.ensures.ops; instrs = c.new-bodies.ensures.instrs } in
    room_behind (of_templates s) (of_procedures s) b c.put_templates.new.self (sheet_room s b c.requires.small new) c.in_ok-templates.ensures.puts

pub returns : goal.returns
returns c =
    let s = c.args.sheet in
    let b = c.new-bodies.result in
    let new : IsNew b = record { starts = c.new-bodies.ensures.starts; ops = c.new-bodies.ensures.ops; instrs = c.new-bodies.ensures.instrs } in
    let code = c.into_code-code.ensures in
    compiled_is s c.in_ok-templates.templates c.in_ok-procedures.procedures c.into_code-code.result c.in_ok-templates.ensures.left c.in_ok-procedures.ensures.left
    (whole_code s b c.put_templates.new.self c.put_procedures.new.self c.into_code-code.result new c.in_ok-templates.ensures.puts c.in_ok-procedures.ensures.puts
    code.ops code.starts code.instrs)
