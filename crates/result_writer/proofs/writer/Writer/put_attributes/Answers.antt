use Rattle.std.proofs.Common.{ap, sym, ◌∙◌}
use Rattle.result_writer.specs.Nodes.{attributes_fault}
use Rattle.result_writer.proofs.Together.{fault-together}
use Rattle.result_writer.proofs.writer.Writer.put_attributes.Goals as goal

pub returns-in-Some-clause-fault : goal.returns-in-Some-clause-fault
returns-in-Some-clause-fault c =
    let bare = c.requires.bare in
    fault-together c.args.self.now.limit c.args.self.now.left bare.0 c.args.attrs bare.1
    ∙ ap attributes_fault (sym c.as_slice.ensures) ∙ sym c.in-Some.ensures

pub returns-clause-taken : goal.returns-clause-taken
returns-clause-taken c =
    let bare = c.requires.bare in
    fault-together c.args.self.now.limit c.args.self.now.left bare.0 c.args.attrs bare.1
    ∙ ap attributes_fault (sym c.as_slice.ensures) ∙ sym c.in_default.ensures
