use Rattle.std.proofs.Common.{◌∷◌, ◌++◌, [], ◌∙◌, ap, chars, length, subst, sym}
use Rattle.std.specs.Prelude.{string_bytes}
use Rattle.xml_events.specs.inside.Texts.{cut_texts, AreTexts}
use Rattle.xml_events.proofs.Cutting.{cut-more}
use Rattle.xml_events.proofs.texts.Texts.push.Goals as goal

pub invariant_of-self-in-Ok : goal.invariant_of-self-in-Ok
invariant_of-self-in-Ok c =
    let l = c.self.inside in
    let text = c.args.text.now in
    let more = cut-more l.lens.items (string_bytes l.text) text c.self.invariant c.utf8.text in
    subst (λ ns. AreTexts ns (string_bytes c.push_str.new.self)) (sym c.in_ok-push.ensures.items) (subst (AreTexts (l.lens.items ++ length text ∷ [])) (sym c.in-Ok.ensures.bytes) more.0)

pub returns-in-Ok-clause-ok : goal.returns-in-Ok-clause-ok
returns-in-Ok-clause-ok c =
    let l = c.self.inside in
    let text = c.args.text.now in
    let more = cut-more l.lens.items (string_bytes l.text) text c.self.invariant c.utf8.text in
    ap (λ ns. cut_texts ns (string_bytes c.push_str.new.self)) c.in_ok-push.ensures.items
    ∙ (ap (cut_texts (l.lens.items ++ length text ∷ [])) c.in-Ok.ensures.bytes ∙ (more.1 ∙ ap (λ v. v ++ chars text ∷ []) c.self.view_is))
