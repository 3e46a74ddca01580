use Rattle.std.proofs.Common.{List, [], Option, unwrap_or, ap, ◌∙◌}
use Rattle.group_scope.specs.declared.entry.Entry.{Entry}
use Rattle.group_scope.proofs.rows.Rows.get.Goals as goal

pub returns-in-Some : goal.returns-in-Some
returns-in-Some c = c.as_slice.ensures ∙ ap (λ (o : Option (List Entry)). unwrap_or o []) c.in-Some.ensures.value

pub returns-in-None : goal.returns-in-None
returns-in-None c = ap (λ (o : Option (List Entry)). unwrap_or o []) c.in-None.ensures.value
