use Rattle.group_scope.specs.Keyed.{row_in}
use Rattle.group_scope.proofs.Marking.{still_marked}
use Rattle.group_scope.proofs.rows.Rows.push.Goals as goal

pub invariant_of-self : goal.invariant_of-self
invariant_of-self c = record {
  marked =
      still_marked c.add.result c.args.self.now.marks c.with-self.result c.args.key c.args.entry (row_in c.args.self.now.map) (row_in c.add.new.map)
      c.with-self.ensures.marked c.with-self.ensures.kept c.args.self.now.marked c.add.ensures.ok c.add.ensures.err;
}
