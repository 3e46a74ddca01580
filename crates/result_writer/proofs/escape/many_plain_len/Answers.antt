use Rattle.std.proofs.Common.{◌≡◌, ◌+◌, ◌≤◌, length, take, drop, refl, ap, sym, ◌∙◌, subst, arith}
use Rattle.result_writer.specs.Escape.{escaped}
use Rattle.result_writer.proofs.Escaping.{plain_more}
use Rattle.result_writer.proofs.escape.many_plain_len.Goals as goal

pub loop-len-preserved : goal.loop-len-preserved
loop-len-preserved c =
    let context = c.args.context in
    let bytes = c.args.bytes.now in
    let len = c.loop-len.len in
    let front = c.split_at-in-loop-len.result.0.now in
    let rest_len : length c.split_at.result.1.now + len ≡ length bytes = c.split_at.ensures.back_len in
    let front_len : length front ≤ length c.split_at.result.1.now = omega (arith, c.split_at-in-loop-len.ensures.back_len, c.split_at-in-loop-len.ensures.front_len) in
    let n = length front in
    let front_is : front ≡ take n (drop len bytes) =
    c.split_at-in-loop-len.ensures.front ∙ ap (λ k. take k c.split_at.result.1.now) (sym c.split_at-in-loop-len.ensures.front_len) ∙ ap (take n) c.split_at.ensures.back in
    let plain : escaped context front ≡ front = c.if-not-are_plain.ensures refl in
    record {
      within = omega (arith, rest_len, front_len);
      plain = plain_more context bytes len n c.loop-len.invariant.plain (subst (λ l. escaped context l ≡ l) front_is plain);
    }
