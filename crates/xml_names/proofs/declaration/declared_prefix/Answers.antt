use Rattle.std.proofs.Common.{◌∙◌, sym, ap, ◌++◌, codes, arith}
use Rattle.std.specs.Option.{option_map}
use Rattle.std.specs.Str.{chars}
use Rattle.std.proofs.lemmas.Str.Pattern.{strip_prefix_char}
use Rattle.xml_names.proofs.Declared.{not-declared, declared-default, declared-by}
use Rattle.xml_names.proofs.declaration.declared_prefix.Goals as goal

pub returns-in_err-rest : goal.returns-in_err-rest
returns-in_err-rest c = ap (option_map (λ p. chars p.now)) c.from_residual.ensures ∙ not-declared c.args.name.now c.utf8.name c.in_err-rest.ensures.cases

pub returns-then-is_empty : goal.returns-then-is_empty
unfolding chars
returns-then-is_empty c =
    let cut = c.in_ok-rest.ensures.cases in
    declared-default c.args.name.now c.utf8.name c.in_ok-rest.rest.now (cut.1.1 ∙ ap (λ l. codes "xmlns" ++ l) (sym cut.2)) (sym c.is_empty.ensures ∙ c.if-is_empty.true)

pub returns-else-is_empty : goal.returns-else-is_empty
returns-else-is_empty c =
    let cut = c.in_ok-rest.ensures.cases in
    let next = strip_prefix_char 0x3A c.in_ok-rest.rest.now c.strip_prefix-else-is_empty.result c.strip_prefix-else-is_empty.ensures.cases (omega arith) in
    declared-by c.args.name.now c.utf8.name c.in_ok-rest.rest.now (cut.1.1 ∙ ap (λ l. codes "xmlns" ++ l) (sym cut.2)) (sym c.is_empty.ensures ∙ c.if-is_empty.false) c.strip_prefix-else-is_empty.result next
