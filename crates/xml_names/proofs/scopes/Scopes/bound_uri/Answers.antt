use Rattle.std.proofs.Common.{ap, []}
use Rattle.std.specs.Prelude.{unwrap_or}
use Rattle.std.specs.Str.{chars}
use Rattle.xml_names.proofs.scopes.Scopes.bound_uri.Goals as goal

pub returns-in-None : goal.returns-in-None
unfolding chars
returns-in-None c = ap (λ o. unwrap_or o []) c.in-None.ensures
