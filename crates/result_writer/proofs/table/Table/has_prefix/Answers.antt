use Rattle.std.proofs.Common.{◌∙◌, ap}
use Rattle.result_writer.specs.Table.{has_prefix}
use Rattle.result_writer.proofs.Entering.{found-shown}
use Rattle.result_writer.proofs.table.Table.has_prefix.Goals as goal

pub returns : goal.returns
returns c =
    c.is_some.ensures ∙ found-shown c.args.prefix.now c.self.inside.entries c.uri.result c.uri.ensures
    ∙ ap (λ t. has_prefix t c.args.prefix.now) c.self.view_is
