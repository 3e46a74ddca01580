use Rattle.std.proofs.Common.{◌∙◌, ap, sym}
use Rattle.std.specs.Option.{option_copied}
use Rattle.std.specs.Prelude.{is_some}
use Rattle.std.specs.Str.{chars}
use Rattle.sheet_loader.proofs.values.Values.has_select.Goals as goal

pub returns-in-Some : goal.returns-in-Some
unfolding chars
returns-in-Some c = sym (ap is_some (sym c.expression.ensures) ∙ ap (λ o. is_some (option_copied o)) c.in-Some.is)

pub returns-in-None : goal.returns-in-None
unfolding chars
returns-in-None c = sym (ap is_some (sym c.expression.ensures) ∙ ap (λ o. is_some (option_copied o)) c.in-None.is)
