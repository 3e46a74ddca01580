use Rattle.std.proofs.Common.{◌≡◌, ◌==◌, Some, None, ℕ, sym, ap, ◌∙◌}
use Rattle.xml_tokens.proofs.TextLemmas.{first-place, cut-none, cut-some}
use Rattle.xml_tokens.proofs.text.until_far_byte.Goals as goal

pub returns-in_err-at : goal.returns-in_err-at
returns-in_err-at c =
    let test = λ (b : ℕ). b == c.args.byte in
    rw (c.from_residual.ensures) (sym (cut-none test c.args.bytes.now (first-place test c.args.bytes.now None c.in_err-at.ensures)))

pub returns : goal.returns
returns c =
    let test = λ (b : ℕ). b == c.args.byte in
    let pair : (c.head.result.now, c.tail.result.now) ≡ (_, _) = λ i. (c.head.ensures i, c.tail.ensures i) in
    ap (λ p. Some p) pair ∙ sym (cut-some test c.args.bytes.now c.in_ok-at.at (first-place test c.args.bytes.now (Some c.in_ok-at.at) c.in_ok-at.ensures))
