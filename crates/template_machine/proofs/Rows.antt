-- The rows hold by computation.
use Rattle.std.proofs.Common.{refl}
use lib.Utf8.{encode}
use denote.Hole.Carrier.{hidden, out, shown}
use Rattle.sheet_model.specs.declared.instr.Instr.TheBlock.{shown-the_row-Instr-0}
use Rattle.sheet_model.specs.declared.instr.Instr.TheViews.{out-Instr}
use Rattle.template_machine.specs.Rows.{LastOfTwo, Sections, Nested, Again, Twice, Attributes, Buffered, Assigned, EachItem}
use Rattle.template_machine.proofs.Computing.{value_up, value_var, value_whole}
use Rattle.std.specs.Fmt.{digits}

pub last_of_two : LastOfTwo
unfolding encode hidden out shown shown-the_row-Instr-0 out-Instr
last_of_two = refl

pub sections : Sections
unfolding encode hidden out shown shown-the_row-Instr-0 out-Instr
sections = refl

pub nested : Nested
unfolding encode hidden out shown shown-the_row-Instr-0 out-Instr
nested = refl

pub again : Again
unfolding encode hidden out shown shown-the_row-Instr-0 out-Instr
again = refl

pub twice : Twice
unfolding encode hidden out shown shown-the_row-Instr-0 out-Instr
twice = refl

pub attributes : Attributes
unfolding encode hidden out shown shown-the_row-Instr-0 out-Instr
attributes = rw value_up refl

pub buffered : Buffered
unfolding encode hidden out shown shown-the_row-Instr-0 out-Instr
buffered = refl

pub assigned : Assigned
unfolding encode digits hidden out shown shown-the_row-Instr-0 out-Instr
assigned = rw (value_whole, value_var) refl

pub each_item : EachItem
unfolding encode digits hidden out shown shown-the_row-Instr-0 out-Instr
each_item = rw (value_whole, value_var) refl
