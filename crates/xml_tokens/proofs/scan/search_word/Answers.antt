use Rattle.std.proofs.Common.{◌≡◌, length, Some, None, subst, sym, List, ℕ, ◌+◌, ◌∙◌, arith, get_or, drop, length-drop, ap, ◌<◌, ◌≤◌, ◌++◌}
use Rattle.memchr.specs.Find.{is_byte}
use Rattle.xml_tokens.specs.Places.{begins, first_word}
use Rattle.xml_tokens.proofs.ScanLemmas.{tail-first, tail_is, word-pass, word-one, word-unended, word-found}
use Rattle.xml_tokens.proofs.scan.search_word.Goals as goal

pub returns-in_default : goal.returns-in_default
returns-in_default c =
    let w = c.args.word.now in
    let bytes = c.args.bytes.now in
    let none = tail-first (is_byte (get_or w 0 0)) c.loop-at.at bytes None c.in_default.ensures in
    word-unended w c.args.from (length bytes) bytes
    (λ more. c.loop-at.invariant.same more ∙ word-pass w c.loop-at.at (length bytes) bytes c.requires.nonempty c.loop-at.invariant.high (omega arith)
    (λ i l. none i (omega arith) (omega (arith, length-drop c.loop-at.at bytes))) more)
    c.requires.within (omega arith) (omega arith) c.unended_at.result c.unended_at.ensures

pub returns-then-bytes-at : goal.returns-then-bytes-at
returns-then-bytes-at c =
    let w = c.args.word.now in
    let bytes = c.args.bytes.now in
    let at = c.loop-at.at in
    let to = at + c.in-Some.skipped in
    let first = tail-first (is_byte (get_or w 0 0)) at bytes (Some c.in-Some.skipped) c.in-Some.ensures in
    let inside : c.in-Some.skipped < length (drop at bytes) = first.0.high in
    let within : to ≤ length bytes = omega (arith, length-drop at bytes) in
    word-unended w c.args.from to bytes
    (λ more. c.loop-at.invariant.same more ∙ word-pass w at to bytes c.requires.nonempty (omega arith) within
    (λ i l. first.0.before i (omega arith) (omega arith)) more)
    (omega arith) within c.if-bytes-at.true c.unended_at-then-bytes-at.result c.unended_at-then-bytes-at.ensures

pub returns-then-begins : goal.returns-then-begins
returns-then-begins c =
    let w = c.args.word.now in
    let bytes = c.args.bytes.now in
    let at = c.loop-at.at in
    let to = at + c.in-Some.skipped in
    let first = tail-first (is_byte (get_or w 0 0)) at bytes (Some c.in-Some.skipped) c.in-Some.ensures in
    let inside : c.in-Some.skipped < length (drop at bytes) = first.0.high in
    let within : to ≤ length bytes = omega (arith, length-drop at bytes) in
    word-found w c.args.from to bytes
    (λ more. c.loop-at.invariant.same more ∙ word-pass w at to bytes c.requires.nonempty (omega arith) within
    (λ i l. first.0.before i (omega arith) (omega arith)) more)
    c.requires.nonempty c.if-bytes-at.false
    (ap (λ l. begins l w) (sym (tail_is to bytes)) ∙ (sym c.begins.ensures ∙ c.if-begins.true))

pub loop-at-preserved : goal.loop-at-preserved
loop-at-preserved c =
    let w = c.args.word.now in
    let bytes = c.args.bytes.now in
    let at = c.loop-at.at in
    let to = at + c.in-Some.skipped in
    let first = tail-first (is_byte (get_or w 0 0)) at bytes (Some c.in-Some.skipped) c.in-Some.ensures in
    let inside : c.in-Some.skipped < length (drop at bytes) = first.0.high in
    let within : to ≤ length bytes = omega (arith, length-drop at bytes) in
    let some : 0 < length w = c.requires.nonempty in
    record {
      low = omega arith;
      high = omega arith;
      same = λ more. c.loop-at.invariant.same more ∙ (word-pass w at to bytes some (omega arith) within
          (λ i l. first.0.before i (omega arith) (omega arith)) more
          ∙ word-one w to bytes some c.if-bytes-at.false (ap (λ l. begins l w) (sym (tail_is to bytes)) ∙ (sym c.begins.ensures ∙ c.if-begins.false)) more);
    }

pub returns : goal.returns
returns c =
    let w = c.args.word.now in
    let bytes = c.args.bytes.now in
    let e : c.loop-at.at ≡ length bytes = omega arith in
    word-unended w c.args.from (length bytes) bytes
    (subst (λ n. (more : List ℕ) → first_word w c.args.from (drop c.args.from (bytes ++ more)) ≡ first_word w n (drop n (bytes ++ more))) e c.loop-at.invariant.same)
    c.requires.within (omega arith) (omega arith) c.unended_at-2.result c.unended_at-2.ensures
