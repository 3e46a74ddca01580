use Rattle.std.proofs.Common.{◌≡◌, List, ℕ, IfOk, sym, subst}
use Rattle.std.specs.Str.{chars}
use Rattle.xml_tokens.specs.declared.text.Context.TheVariants.{Content}
use Rattle.xml_tokens.proofs.TextLemmas.{literal-none}
use Rattle.xml_tokens.proofs.text.lines_of.Goals as goal

pub returns-in-None : goal.returns-in-None
returns-in-None c =
    subst (λ (l : List ℕ). IfOk c.text_of.result (λ text. text ≡ chars l)) (sym (literal-none Content c.args.bytes.now c.in-None.ensures)) c.text_of.ensures
