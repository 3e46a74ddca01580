use Rattle.std.proofs.Common.{◌∙◌, sym}
use Rattle.std.specs.Str.{chars}
use Rattle.xml_names.proofs.Texts.{empty-true}
use Rattle.xml_names.proofs.scopes.Scopes.text.Goals as goal

pub returns-then-is_empty : goal.returns-then-is_empty
returns-then-is_empty c = c.new.ensures ∙ sym (empty-true (chars c.args.text.now) (sym c.is_empty.ensures ∙ c.if-is_empty.true))
