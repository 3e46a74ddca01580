use Rattle.std.proofs.Common.{◌≡◌, ◌≤◌, ◌↔◌, ap, ◌∙◌, subst, sym, List, [], ◌∷◌, length, refl, arith, IsTrue, encode_utf8_all}
use Rattle.std.specs.Prelude.{ℕ, ◌==◌}
use Rattle.std.proofs.lemmas.Bool.{eqb-true}
use Rattle.std.proofs.lemmas.Str.{length-le-encodes}
use Rattle.stx_base.proofs.text.Text.is_empty.Goals as goal

-- the empty list of characters alone has no bytes
no_bytes : (cs : List ℕ) → IsTrue (length (encode_utf8_all cs) == 0) ↔ (cs ≡ [])
no_bytes [] = (λ _. refl, λ _. refl)
no_bytes (c ∷ cs) =
    let l : length (c ∷ cs) ≤ length (encode_utf8_all (c ∷ cs)) = length-le-encodes (c ∷ cs) in
    (λ t. let e : length (encode_utf8_all (c ∷ cs)) ≡ 0 = eqb-true _ _ t in absurd (omega arith), λ e. cc)

pub returns : goal.returns
returns c =
    subst (λ b. IsTrue b ↔ (c.args.self.now ≡ [])) (sym (c.is_empty.ensures ∙ ap (λ l. length l == 0) c.as_str.ensures.bytes)) (no_bytes c.args.self.now)
