use Rattle.template_machine.proofs.Saying.{attributes, chars_acts, comments, ends, literal_acts, messages, starts, values}
use Rattle.template_machine.proofs.Spelled.{attribute_runs, end_runs, instruction_runs, start_runs, value_runs}
use Rattle.template_machine.proofs.Targeted.{instructions}
use Rattle.template_machine.proofs.run.Run.put_parts.Goals as goal

pub put_value-requires-clause-select : goal.put_value-requires-clause-select
put_value-requires-clause-select g c = (value_runs c.args.instr.now c.in-ValueOf.select c.in-ValueOf.separator _ c.requires.can c.in-ValueOf.is).0

pub put_value-requires-clause-separator : goal.put_value-requires-clause-separator
put_value-requires-clause-separator g c = (value_runs c.args.instr.now c.in-ValueOf.select c.in-ValueOf.separator _ c.requires.can c.in-ValueOf.is).1

pub put_start-requires-clause-name : goal.put_start-requires-clause-name
put_start-requires-clause-name g c =
    (start_runs c.args.instr.now c.in-StartElement.name c.in-StartElement.namespace c.in-StartElement.scope _ c.requires.can c.in-StartElement.is).0

pub put_start-requires-clause-namespace : goal.put_start-requires-clause-namespace
put_start-requires-clause-namespace g c =
    (start_runs c.args.instr.now c.in-StartElement.name c.in-StartElement.namespace c.in-StartElement.scope _ c.requires.can c.in-StartElement.is).1

pub put_end-requires-clause-name : goal.put_end-requires-clause-name
put_end-requires-clause-name g c =
    (end_runs c.args.instr.now c.in-EndElement.name c.in-EndElement.namespace c.in-EndElement.scope _ c.requires.can c.in-EndElement.is).0

pub put_end-requires-clause-namespace : goal.put_end-requires-clause-namespace
put_end-requires-clause-namespace g c =
    (end_runs c.args.instr.now c.in-EndElement.name c.in-EndElement.namespace c.in-EndElement.scope _ c.requires.can c.in-EndElement.is).1

pub put_attribute-requires-clause-name : goal.put_attribute-requires-clause-name
put_attribute-requires-clause-name g c =
    (attribute_runs c.args.instr.now c.in-Attribute.name c.in-Attribute.namespace c.in-Attribute.scope c.in-Attribute.content _ c.requires.can c.in-Attribute.is).0

pub put_attribute-requires-clause-namespace : goal.put_attribute-requires-clause-namespace
put_attribute-requires-clause-namespace g c =
    (attribute_runs c.args.instr.now c.in-Attribute.name c.in-Attribute.namespace c.in-Attribute.scope c.in-Attribute.content _ c.requires.can c.in-Attribute.is).1

pub put_instruction-requires-clause-name : goal.put_instruction-requires-clause-name
put_instruction-requires-clause-name g c = (instruction_runs c.args.instr.now c.in-Pi.name _ c.in-Pi.content _ c.requires.can c.in-Pi.is).0

-- What is done.

pub returns-in-ValueOf-clause-acts : goal.returns-in-ValueOf-clause-acts
returns-in-ValueOf-clause-acts g c = λ body here.
    values g.S.Sink.output g.S.Sink.told c.args.program.now c.args.instr.now c.in-ValueOf.select c.in-ValueOf.separator _ c.args.spot.at c.put_value.result c.args.self.now c.put_value.new.self c.args.out.now c.put_value.new.out
    c.in-ValueOf.is here (c.put_value.ensures.acts body)

pub returns-in-Chars-clause-acts : goal.returns-in-Chars-clause-acts
returns-in-Chars-clause-acts g c = λ body here.
    chars_acts g.S.Sink.output g.S.Sink.told c.args.program.now c.args.instr.now c.in-Chars.text _ c.args.spot.at c.text.result c.args.self.now c.text.new.self c.args.out.now c.text.new.out
    c.in-Chars.is here c.text.ensures.puts

pub returns-in-LiteralChars-clause-acts : goal.returns-in-LiteralChars-clause-acts
returns-in-LiteralChars-clause-acts g c = λ body here.
    literal_acts g.S.Sink.output g.S.Sink.told c.args.program.now c.args.instr.now c.in-LiteralChars.text _ c.args.spot.at c.text-in-LiteralChars.result c.args.self.now c.text-in-LiteralChars.new.self c.args.out.now c.text-in-LiteralChars.new.out
    c.in-LiteralChars.is here c.text-in-LiteralChars.ensures.puts

pub returns-in-StartElement-clause-acts : goal.returns-in-StartElement-clause-acts
returns-in-StartElement-clause-acts g c = λ body here.
    starts g.S.Sink.output g.S.Sink.told c.args.program.now c.args.instr.now c.in-StartElement.name c.in-StartElement.namespace c.in-StartElement.scope _ c.args.spot.at c.put_start.result c.args.self.now c.put_start.new.self c.args.out.now c.put_start.new.out
    c.in-StartElement.is here (c.put_start.ensures.acts body)

pub returns-in-EndElement-clause-acts : goal.returns-in-EndElement-clause-acts
returns-in-EndElement-clause-acts g c = λ body here.
    ends g.S.Sink.output g.S.Sink.told c.args.program.now c.args.instr.now c.in-EndElement.name c.in-EndElement.namespace c.in-EndElement.scope _ c.args.spot.at c.put_end.result c.args.self.now c.put_end.new.self c.args.out.now c.put_end.new.out
    c.in-EndElement.is here (c.put_end.ensures.acts body)

pub returns-in-Attribute-clause-acts : goal.returns-in-Attribute-clause-acts
returns-in-Attribute-clause-acts g c = λ body here.
    attributes g.S.Sink.output g.S.Sink.told c.args.program.now c.args.instr.now c.in-Attribute.name c.in-Attribute.namespace c.in-Attribute.scope c.in-Attribute.content _ c.args.spot.at c.put_attribute.result c.args.self.now c.put_attribute.new.self c.args.out.now c.put_attribute.new.out
    c.in-Attribute.is here (c.put_attribute.ensures.acts body)

pub returns-in-Comment-clause-acts : goal.returns-in-Comment-clause-acts
returns-in-Comment-clause-acts g c = λ body here.
    comments g.S.Sink.output g.S.Sink.told c.args.program.now c.args.instr.now c.in-Comment.content _ c.args.spot.at c.put_comment.result c.args.self.now c.put_comment.new.self c.args.out.now c.put_comment.new.out
    c.in-Comment.is here (c.put_comment.ensures.acts body)

pub returns-in-Pi-clause-acts : goal.returns-in-Pi-clause-acts
returns-in-Pi-clause-acts g c = λ body here.
    instructions g.S.Sink.output g.S.Sink.told c.args.program.now c.args.instr.now c.in-Pi.name _ c.in-Pi.content _ c.args.spot.at c.put_instruction.result c.args.self.now c.put_instruction.new.self c.args.out.now c.put_instruction.new.out
    c.in-Pi.is here (c.put_instruction.ensures.acts _ body)

pub returns-in-Message-clause-acts : goal.returns-in-Message-clause-acts
returns-in-Message-clause-acts g c = λ body here.
    messages g.S.Sink.output g.S.Sink.told c.args.program.now c.args.instr.now c.in-Message.content _ c.args.spot.at c.say.result c.args.self.now c.args.self.now c.args.out.now c.say.new.out
    c.in-Message.is here (c.say.ensures body)
