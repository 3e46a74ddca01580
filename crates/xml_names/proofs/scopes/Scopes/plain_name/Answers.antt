use Rattle.std.proofs.Common.{◌∙◌, refl}
use Rattle.std.specs.Str.{chars}
use Rattle.xml_names.proofs.Paths.{same-names}
use Rattle.xml_names.proofs.scopes.Scopes.plain_name.Goals as goal

pub returns : goal.returns
unfolding chars
returns c = same-names _ _ _ _ _ _ (c.in_ok-uri.ensures ∙ c.bound_uri.ensures) refl c.new.ensures
