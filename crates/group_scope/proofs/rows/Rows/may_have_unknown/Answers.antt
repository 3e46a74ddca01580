use Rattle.group_scope.specs.Keyed.{row_in}
use Rattle.group_scope.proofs.Marking.{unmarked_texts}
use Rattle.group_scope.proofs.rows.Rows.may_have_unknown.Goals as goal

pub returns : goal.returns
returns c = unmarked_texts c.args.self.now.marks (row_in c.args.self.now.map) c.has_unknown.result c.has_unknown.ensures c.args.self.now.marked
