use Rattle.std.proofs.Common.{◌≡◌, ◌++◌, ◌∷◌, [], ◌&&◌, List, ℕ, Result, Ok, Err, OnOk, true, take, drop, length, refl, arith, sym, ap, ◌∙◌, append_assoc}
use Rattle.std.proofs.lemmas.List.{append-nil, take-append-drop}
use Rattle.std.specs.List.{list_all}
use Rattle.stx_base.specs.Character.{is_char}
use Rattle.stx_base.proofs.AsciiLemmas.{chars_pass}
use Rattle.result_writer.specs.Escape.{escaped, is_plain_ascii, written}
use Rattle.result_writer.specs.declared.escape.Context.TheVariants.{Content}
use Rattle.result_writer.specs.declared.fault.WriteStop.{WriteStop}
use Rattle.result_writer.proofs.Escaping.{escaped_behind, is_low, low_behind}
use Rattle.result_writer.proofs.Growing.{begins_trans}
use Rattle.result_writer.proofs.chars.append_chars.Goals as goal

-- the bytes that are split are those of both parts
split : (n : ℕ) (rest front back : List ℕ) → front ≡ take n rest → back ≡ drop n rest → rest ≡ front ++ back
split n rest front back f b = sym (take-append-drop n rest) ∙ (ap (λ l. l ++ drop n rest) (sym f) ∙ ap (λ l. front ++ l) (sym b))

nothing : (l : List ℕ) → length l ≡ 0 → l ≡ []
nothing [] h = refl
nothing (b ∷ bs) h = absurd (omega (arith, h))

pub returns-in_default-clause-sound : goal.returns-in_default-clause-sound
returns-in_default-clause-sound c =
    let rest = c.loop-byte.rest.now in
    let plain = c.split_at.result.0.now in
    let others = c.split_at.result.1.now in
    let cut = split c.plain_ascii_len.result rest plain others c.split_at.ensures.front c.split_at.ensures.back in
    let all : list_all is_plain_ascii plain ≡ true = ap (list_all is_plain_ascii) c.split_at.ensures.front ∙ c.plain_ascii_len.ensures.plain in
    chars_pass is_char c.args.text.now (c.loop-byte.invariant.ascii (low_behind rest plain others cut all (ap (list_all is_low) (nothing others c.in_default.ensures.cases))))

pub returns-in_default-clause-written : goal.returns-in_default-clause-written
returns-in_default-clause-written c =
    let rest = c.loop-byte.rest.now in
    let plain = c.split_at.result.0.now in
    let others = c.split_at.result.1.now in
    let out = c.loop-byte.out.items in
    let cut = split c.plain_ascii_len.result rest plain others c.split_at.ensures.front c.split_at.ensures.back in
    let all : list_all is_plain_ascii plain ≡ true = ap (list_all is_plain_ascii) c.split_at.ensures.front ∙ c.plain_ascii_len.ensures.plain in
    c.in_ok-append.ensures.ok ∙ (sym (append-nil (out ++ plain)) ∙ (ap (λ l. (out ++ plain) ++ escaped Content l) (sym (nothing others c.in_default.ensures.cases)) ∙ (escaped_behind rest plain others cut all out ∙ c.loop-byte.invariant.written)))

pub returns-then-not-is_ascii_char-clause-written : goal.returns-then-not-is_ascii_char-clause-written
returns-then-not-is_ascii_char-clause-written c =
    let rest = c.loop-byte.rest.now in
    let plain = c.split_at.result.0.now in
    let others = c.split_at.result.1.now in
    let out = c.loop-byte.out.items in
    let cut = split c.plain_ascii_len.result rest plain others c.split_at.ensures.front c.split_at.ensures.back in
    let all : list_all is_plain_ascii plain ≡ true = ap (list_all is_plain_ascii) c.split_at.ensures.front ∙ c.plain_ascii_len.ensures.plain in
    then_is c.append_judged.result _ _ _ c.append_judged.ensures.written
    (ap (λ l. l ++ escaped Content others) c.in_ok-append.ensures.ok ∙ (escaped_behind rest plain others cut all out ∙ c.loop-byte.invariant.written)) where
      then_is : (r : Result (Unit {0}) WriteStop) (new old whole : List ℕ) → OnOk r (new ≡ old) → old ≡ whole → OnOk r (new ≡ whole)
      then_is (Ok done) new old whole h e = h ∙ e
      then_is (Err stop) new old whole h e = tt

pub loop-byte-preserved : goal.loop-byte-preserved
loop-byte-preserved c =
    let rest = c.loop-byte.rest.now in
    let plain = c.split_at.result.0.now in
    let others = c.split_at.result.1.now in
    let behind = c.in-Some.behind.now in
    let byte = c.in-Some.byte.now in
    let out = c.loop-byte.out.items in
    let others_are : others ≡ byte ∷ behind = c.in-Some.ensures.cases.0 in
    let cut = split c.plain_ascii_len.result rest plain others c.split_at.ensures.front c.split_at.ensures.back in
    let all : list_all is_plain_ascii plain ≡ true = ap (list_all is_plain_ascii) c.split_at.ensures.front ∙ c.plain_ascii_len.ensures.plain in
    let low : is_low byte ≡ true = sym c.is_ascii_char.ensures ∙ c.if-not-is_ascii_char.false in
    record {
      written = ap (λ l. l ++ escaped Content behind) (c.in_ok-append_written.ensures.ok ∙ ap (λ l. l ++ written Content byte) c.in_ok-append.ensures.ok)
          ∙ (append_assoc (out ++ plain) (written Content byte) (escaped Content behind)
          ∙ (ap (λ l. (out ++ plain) ++ escaped Content l) (sym others_are) ∙ (escaped_behind rest plain others cut all out ∙ c.loop-byte.invariant.written)));
      kept = begins_trans _ _ _ c.loop-byte.invariant.kept (begins_trans _ _ _ c.in_ok-append.ensures.kept c.in_ok-append_written.ensures.kept);
      ascii = λ k. c.loop-byte.invariant.ascii (low_behind rest plain others cut all (ap (list_all is_low) others_are ∙ (ap (λ t. t && list_all is_low behind) low ∙ k)));
    }
