use Rattle.std.proofs.Common.{◌≡◌, ◌∙◌, ap, arith, length, sym}
use Rattle.std.specs.Prelude.{string_bytes}
use Rattle.xml_events.proofs.Cutting.{cut-length}
use Rattle.xml_events.proofs.texts.Texts.len.Goals as goal

pub returns : goal.returns
returns c =
    let n : c.len.result ≡ length c.self.inside.lens.items = omega (arith, c.len.ensures) in
    n ∙ (sym (cut-length c.self.inside.lens.items (string_bytes c.self.inside.text)) ∙ ap length c.self.view_is)
