use Rattle.group_scope.specs.Keyed.{row_in}
use Rattle.group_scope.proofs.Marking.{unmarked_kind}
use Rattle.group_scope.proofs.rows.Rows.may_have_kind.Goals as goal

pub returns : goal.returns
returns c = unmarked_kind c.args.self.now.marks (row_in c.args.self.now.map) c.args.test c.has_kind.result c.has_kind.ensures c.args.self.now.marked
