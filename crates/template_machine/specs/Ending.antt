-- What a run says, and how it ends.
use Rattle.std.specs.Prelude.{ℕ, List, Option}
use Rattle.stx_base.specs.declared.fault.Place.{Place}
use Rattle.stx_base.specs.declared.fault.RunCode.{RunCode}
use Rattle.stx_base.specs.declared.fault.RunCode.TheVariants as code
use Rattle.stx_base.specs.declared.fault.RunFault.{RunFault}
use Rattle.stx_base.specs.declared.fault.XmlFault.{XmlFault}
use Rattle.stx_base.specs.declared.part.Part.{Part}
use Rattle.event_buffers.specs.declared.fault.BufferFault.{BufferFault}
use Rattle.event_buffers.specs.declared.fault.BufferFault.TheVariants as buffer
use Rattle.result_writer.specs.declared.fault.ResultFault.{ResultFault}
use Rattle.result_writer.specs.declared.fault.ResultFault.TheVariants as result
use Rattle.stxpath_values.specs.declared.fault.EvalFault.{EvalFault}
use Rattle.stxpath_values.specs.declared.fault.EvalFault.TheVariants as eval

-- what a run says, in order: a part that is put into the output, a message, or the name of a document that it opens
pub data Said : Type 0 where
  Put : Part → Said
  Note : (text : List ℕ) → Said
  Open : (name : List ℕ) → Said

-- how a run ends: it is done, it stops with a fault at an instruction, its fuel is spent at one, a document has a fault of XML (the
-- main one, or the one of this name), or more of a document is wanted
pub data Ending : Type 0 where
  Done : Ending
  Faulted : RunFault → Ending
  Spent : Place → Ending
  Malformed : (document : Option (List ℕ)) → XmlFault → Ending
  Needs : Ending

-- a stop with a fault at an instruction
abbrev pub fault_at : RunCode → Place → Ending
fault_at code at = Faulted (record { code = code; at = at })

-- the code of an expression's fault; in an accepted sheet no variable is missing
abbrev pub code_of : EvalFault → RunCode
code_of eval.Overflow = code.Overflow
code_of eval.ZeroDivisor = code.ZeroDivisor
code_of eval.Fraction = code.Fraction
code_of eval.NotWhole = code.NotWhole
code_of eval.NotOne = code.NotOne
code_of eval.NotNode = code.NotNode
code_of eval.SequenceTooLong = code.SequenceTooLong
code_of eval.TextTooLong = code.TextTooLong
code_of eval.NoVariable = code.NotOne

-- the code of a part's fault
abbrev pub result_code : ResultFault → RunCode
result_code result.BadName = code.BadName
result_code result.BadChar = code.BadChar
result_code result.BadComment = code.BadComment
result_code result.BadPi = code.BadPi
result_code result.LateAttribute = code.LateAttribute
result_code result.UnmatchedEnd = code.UnmatchedEnd
result_code result.WrongEnd = code.WrongEnd
result_code result.UnclosedResult = code.UnclosedResult
result_code result.ResultDepth = code.ResultDepth

-- the code of a refusal of a buffer, for which no want of memory is a cause
abbrev pub buffer_code : BufferFault → RunCode
buffer_code buffer.Busy = code.BufferBusy
buffer_code buffer.Full = code.BufferFull
buffer_code (buffer.Result f) = result_code f
buffer_code buffer.Memory = code.BufferFull
