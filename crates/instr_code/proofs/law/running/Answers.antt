use Rattle.instr_code.specs.Code.{code_of}
use Rattle.instr_code.specs.Running.{body_of, left_at, start_of}
use Rattle.instr_code.proofs.Backward.{code_calls, code_runs}
use Rattle.instr_code.proofs.Forward.{body_runs, left_runs}
use Rattle.instr_code.proofs.Wholes.{begun, each_does, starting, stepping}
use Rattle.instr_code.proofs.law.running.Goals as goal

pub returns-clause-each : goal.returns-clause-each
returns-clause-each g c steps sheet p o st k is = each_does steps sheet p o st k is

pub returns-clause-whole : goal.returns-clause-whole
returns-clause-whole g c steps sheet b p st is = begun steps sheet b p st is

pub returns-clause-left : goal.returns-clause-left
returns-clause-left g c steps sheet p depth st = left_runs steps (code_of sheet).instrs (code_of sheet).ops (body_of steps sheet) (left_at steps sheet) (start_of steps sheet) (stepping steps sheet) (starting steps sheet) p depth st

pub returns-clause-no_more : goal.returns-clause-no_more
returns-clause-no_more g c steps sheet p depth st = code_runs steps (code_of sheet).instrs (code_of sheet).ops (body_of steps sheet) (left_at steps sheet) (start_of steps sheet) (stepping steps sheet) (starting steps sheet) p depth st

pub returns-clause-bodies : goal.returns-clause-bodies
returns-clause-bodies g c steps sheet b depth st = body_runs steps (code_of sheet).instrs (code_of sheet).ops (body_of steps sheet) (left_at steps sheet) (start_of steps sheet) (stepping steps sheet) (starting steps sheet) b depth st

pub returns-clause-bodies_only : goal.returns-clause-bodies_only
returns-clause-bodies_only g c steps sheet b depth st = code_calls steps (code_of sheet).instrs (code_of sheet).ops (body_of steps sheet) (left_at steps sheet) (start_of steps sheet) (stepping steps sheet) (starting steps sheet) b depth st
