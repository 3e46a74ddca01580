use Rattle.std.proofs.Common.{◌≡◌, ◌++◌, List, ℕ, [], ◌∷◌, refl, ap, sym, ◌∙◌, append-nil}
use Rattle.std.proofs.lemmas.List.{drop_all}
use Rattle.result_writer.specs.Tag.{attributes}
use Rattle.result_writer.proofs.tag.append_attributes.Goals as goal

none_left : (ps : List (List ℕ)) → attributes ps [] ≡ []
none_left [] = refl
none_left (p ∷ ps) = refl

pub returns-clause-ok : goal.returns-clause-ok
returns-clause-ok c =
    let out = c.loop-attr.out.items in
    sym (append-nil out)
    ∙ ap (λ l. out ++ l) (sym (none_left c.loop-attr.prefixes.now) ∙ ap (attributes c.loop-attr.prefixes.now) (sym (drop_all c.loop-attr.attr-index c.args.attrs.now c.loop-attr-test.false)))
    ∙ c.loop-attr.invariant.written
