use Rattle.std.proofs.Common.{All, List, length, subst, ap, arith}
use Rattle.choice_rows.specs.Bare.{IsBare}
use Rattle.sheet_model.specs.declared.sheet.Group.{Group}
use Rattle.choice_rows.proofs.sheet.sheet_of.Goals as goal

pub are_a_tree-requires : goal.are_a_tree-requires
are_a_tree-requires c = omega (arith, ap (λ (groups : List Group). length groups) c.as_slice.ensures)

pub whole-requires-clause-bare : goal.whole-requires-clause-bare
whole-requires-clause-bare c = subst (λ n. All (IsBare n) c.in_ok-templates.templates) c.len.ensures.value c.in_ok-templates.ensures
