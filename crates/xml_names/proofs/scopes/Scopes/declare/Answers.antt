use Rattle.std.proofs.Common.{◌∙◌, sym, ap, ◌++◌, ◌∷◌, [], length, arith}
use Rattle.std.proofs.lemmas.List.{length-append}
use Rattle.xml_names.specs.inside.Scopes.{parted, total}
use Rattle.xml_names.proofs.Paths.{parted-more, total-more}
use Rattle.xml_names.proofs.scopes.Scopes.declare.Goals as goal

pub returns-in-Ok-clause-ok : goal.returns-in-Ok-clause-ok
returns-in-Ok-clause-ok c =
    let ns = c.self.inside.counts in
    let bs = c.self.inside.in_force in
    let decls = c.args.decls.now in
    ap (λ ms. parted ms c.extend.new.self) c.in-Ok.ensures.ok
    ∙ ap (parted (ns ++ c.len.result ∷ [])) (c.in_ok-extend.ensures.ok ∙ ap (λ l. bs ++ l) c.as_slice.ensures)
    ∙ parted-more ns c.len.result bs decls c.self.invariant.counted (sym c.len.ensures.value)
    ∙ ap (λ l. l ++ decls ∷ []) c.self.view_is

pub invariant_of-self-in-Ok : goal.invariant_of-self-in-Ok
invariant_of-self-in-Ok c =
    let ns = c.self.inside.counts in
    let bs = c.self.inside.in_force in
    let more = ap total c.in-Ok.ensures.ok ∙ total-more ns c.len.result in
    let long = ap length (c.in_ok-extend.ensures.ok ∙ ap (λ l. bs ++ l) c.as_slice.ensures) in
    record { counted = omega (arith, more, long, length-append bs c.args.decls.now, c.self.invariant.counted, c.len.ensures.value) }
