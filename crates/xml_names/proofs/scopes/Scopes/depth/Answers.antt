use Rattle.std.proofs.Common.{◌∙◌, sym, ap, length}
use Rattle.xml_names.proofs.Paths.{length-parted}
use Rattle.xml_names.proofs.scopes.Scopes.depth.Goals as goal

pub returns : goal.returns
returns c = c.len.ensures.value ∙ sym (length-parted c.self.inside.counts c.self.inside.in_force) ∙ ap length c.self.view_is
