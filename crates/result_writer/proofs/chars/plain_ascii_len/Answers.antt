use Rattle.std.proofs.Common.{◌≡◌, ◌+◌, ◌≤◌, length, take, drop, ap, sym, ◌∙◌, arith}
use Rattle.std.specs.List.{list_all}
use Rattle.result_writer.specs.Escape.{is_plain_ascii}
use Rattle.std.proofs.lemmas.List.{take-take}
use Rattle.result_writer.proofs.Escaping.{all_more, front_passes}
use Rattle.result_writer.proofs.chars.plain_ascii_len.Goals as goal

pub returns-then-bytes-lt-FEW-clause-plain : goal.returns-then-bytes-lt-FEW-clause-plain
returns-then-bytes-lt-FEW-clause-plain c =
    let bytes = c.args.bytes.now in
    ap (λ n. list_all is_plain_ascii (take n bytes)) c.short_plain_ascii_len.ensures.value ∙ front_passes is_plain_ascii bytes

pub returns-then-not-are_plain_ascii-clause-plain : goal.returns-then-not-are_plain_ascii-clause-plain
returns-then-not-are_plain_ascii-clause-plain c =
    let bytes = c.args.bytes.now in
    let len = c.loop-len.len in
    let front = c.split_at-in-loop-len.result.0.now in
    let n = c.front_len.result in
    let front_is : front ≡ take (length front) (drop len bytes) =
    c.split_at-in-loop-len.ensures.front ∙ ap (λ k. take k c.split_at.result.1.now) (sym c.split_at-in-loop-len.ensures.front_len) ∙ ap (take (length front)) c.split_at.ensures.back in
    all_more is_plain_ascii bytes len n c.loop-len.invariant.plain
    (ap (list_all is_plain_ascii) (sym (ap (take n) front_is ∙ take-take n (length front) (drop len bytes) c.front_len.ensures.within)) ∙ c.front_len.ensures.plain)

pub loop-len-preserved : goal.loop-len-preserved
loop-len-preserved c =
    let bytes = c.args.bytes.now in
    let len = c.loop-len.len in
    let front = c.split_at-in-loop-len.result.0.now in
    let rest_len : length c.split_at.result.1.now + len ≡ length bytes = c.split_at.ensures.back_len in
    let front_len : length front ≤ length c.split_at.result.1.now = omega (arith, c.split_at-in-loop-len.ensures.back_len, c.split_at-in-loop-len.ensures.front_len) in
    let front_is : front ≡ take (length front) (drop len bytes) =
    c.split_at-in-loop-len.ensures.front ∙ ap (λ k. take k c.split_at.result.1.now) (sym c.split_at-in-loop-len.ensures.front_len) ∙ ap (take (length front)) c.split_at.ensures.back in
    record {
      within = omega (arith, rest_len, front_len);
      plain = all_more is_plain_ascii bytes len (length front) c.loop-len.invariant.plain (ap (list_all is_plain_ascii) (sym front_is) ∙ (sym c.are_plain_ascii.ensures ∙ c.if-not-are_plain_ascii.false));
    }
