use Rattle.sheet_loader.proofs.Resuming.{begins, ends_list, cuts_list, passes_over, takes_text, takes_element, opens_element, opens_file, opens_literal, opens_part}
use Rattle.sheet_loader.proofs.law.resuming.Goals as goal

pub returns-clause-ends : goal.returns-clause-ends
returns-clause-ends c = λ reads files. ends_list reads files

pub returns-clause-cuts : goal.returns-clause-cuts
returns-clause-cuts c = λ reads files. cuts_list reads files

pub returns-clause-passes_over : goal.returns-clause-passes_over
returns-clause-passes_over c = λ reads files. passes_over reads files

pub returns-clause-text : goal.returns-clause-text
returns-clause-text c = λ reads files. takes_text reads files

pub returns-clause-element : goal.returns-clause-element
returns-clause-element c = λ reads files. takes_element reads files

pub returns-clause-opens_element : goal.returns-clause-opens_element
returns-clause-opens_element c = λ reads files. opens_element reads files

pub returns-clause-opens_file : goal.returns-clause-opens_file
returns-clause-opens_file c = λ reads files. opens_file reads files

pub returns-clause-opens_literal : goal.returns-clause-opens_literal
returns-clause-opens_literal c = λ reads files. opens_literal reads files

pub returns-clause-opens_part : goal.returns-clause-opens_part
returns-clause-opens_part c = λ reads files. opens_part reads files

pub returns-clause-begins : goal.returns-clause-begins
returns-clause-begins c = begins
