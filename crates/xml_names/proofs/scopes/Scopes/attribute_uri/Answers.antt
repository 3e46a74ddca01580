use Rattle.std.proofs.Common.{◌∙◌, sym, ap, []}
use Rattle.std.specs.Prelude.{unwrap_or, if◌then◌else◌}
use Rattle.std.specs.Str.{chars}
use Rattle.xml_names.specs.Scope.{bound}
use Rattle.xml_names.proofs.scopes.Scopes.attribute_uri.Goals as goal

pub returns-then-is_empty : goal.returns-then-is_empty
unfolding chars
returns-then-is_empty c = sym (ap (λ t. if t then [] else unwrap_or (bound c.args.self.now (chars c.args.prefix.now)) []) (sym c.is_empty.ensures ∙ c.if-is_empty.true))
