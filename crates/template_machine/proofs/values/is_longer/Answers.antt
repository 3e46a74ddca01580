use Rattle.std.proofs.Common.{◌≡◌, ◌≤◌, ℕ, Bool, true, false, nat_lt, length, refl, sym, ap, ◌∙◌, arith}
use Rattle.std.proofs.lemmas.Bool.{ltb-true}
use Rattle.std.proofs.lemmas.Str.{length-le-encodes}
use Rattle.template_machine.proofs.values.is_longer.Goals as goal

not_less : (limit n : ℕ) → n ≤ limit → nat_lt limit n ≡ false
not_less limit n le = by (nat_lt limit n) refl where
  by : (b : Bool) → nat_lt limit n ≡ b → b ≡ false
  by true e = absurd (omega (arith, ltb-true limit n e, le))
  by false e = refl

pub returns-then-text-limit : goal.returns-then-text-limit
returns-then-text-limit c = ap (nat_lt c.args.limit) (c.count.ensures ∙ ap length c.as_str-text.ensures.chars)

pub returns-else-text-limit : goal.returns-else-text-limit
returns-else-text-limit c =
    let short : length c.as_str-text.result.now ≤ c.args.limit = omega (arith, c.if-text-limit.false) in
    let less : length c.args.text.now ≤ length c.as_str-text.result.now =
    omega (arith, length-le-encodes c.args.text.now, ap length c.as_str-text.ensures.bytes) in
    not_less c.args.limit (length c.as_str-text.result.now) short ∙ sym (not_less c.args.limit (length c.args.text.now) (omega (arith, short, less)))
