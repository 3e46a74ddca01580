-- Why a run goes on no more.
use Rattle.stx_base.specs.declared.fault.Place.{Place}
use Rattle.stx_base.specs.declared.fault.RunCode.{RunCode}
use Rattle.stx_base.specs.declared.fault.RunCode.TheVariants as code
use Rattle.event_buffers.specs.declared.fault.BufferFault.{BufferFault}
use Rattle.event_buffers.specs.declared.fault.BufferFault.TheVariants as buffer
use Rattle.frame_stack.specs.declared.fault.FrameFault.{FrameFault}
use Rattle.frame_stack.specs.declared.fault.FrameFault.TheVariants as frame
use Rattle.result_writer.specs.declared.fault.WriteStop.{WriteStop}
use Rattle.result_writer.specs.declared.fault.WriteStop.TheVariants as write
use Rattle.stxpath_values.specs.declared.fault.EvalStop.{EvalStop}
use Rattle.stxpath_values.specs.declared.fault.EvalStop.TheVariants as eval
use Rattle.template_machine.specs.Ending.{buffer_code, code_of, result_code}
use Rattle.template_machine.specs.declared.stop.Stop.{Stop}
use Rattle.template_machine.specs.declared.stop.Stop.TheVariants as stop
use Rattle.template_machine.specs.declared.turn.Turn.{Turn}
use Rattle.template_machine.specs.declared.turn.Turn.TheVariants as turn

-- a fault with a code, at an instruction
abbrev pub fault : RunCode → Place → Stop
fault code at = stop.Fault (record { code = code; at = at })

-- how a run goes on that stops
abbrev pub turn_of : Stop → Turn
turn_of (stop.Fault f) = turn.Stopped f
turn_of (stop.Spent at) = turn.Spent at
turn_of stop.Memory = turn.Memory

-- Why a run stops at an instruction: for what its expression comes to, a part that it puts, what it does with a buffer, or a frame.

abbrev pub by_expression : Place → EvalStop → Stop
by_expression at (eval.Fault f) = fault (code_of f) at
by_expression at eval.Memory = stop.Memory

abbrev pub by_part : Place → WriteStop → Stop
by_part at (write.Fault f) = fault (result_code f) at
by_part at write.Memory = stop.Memory

abbrev pub by_buffer : Place → BufferFault → Stop
by_buffer at buffer.Memory = stop.Memory
by_buffer at f = fault (buffer_code f) at

abbrev pub by_frame : Place → FrameFault → Stop
by_frame at frame.Instances = fault code.Instances at
by_frame at frame.Memory = stop.Memory
