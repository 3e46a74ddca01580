use Rattle.std.proofs.Common.{◌≡◌, ◌++◌, ◌∷◌, ◌∙◌, ap, length, sym, take}
use Rattle.std.proofs.lemmas.Slice.Eq.{bytes_eq-Decides}
use Rattle.std.proofs.lemmas.List.{take-append-drop}
use Rattle.xml_tokens.proofs.AttributeLemmas.{after_byte-same}
use Rattle.xml_tokens.proofs.SimpleLemmas.{before-more}
use Rattle.xml_tokens.proofs.simple.after_end_of.Goals as goal

pub returns-then-is_word : goal.returns-then-is_word
returns-then-is_word c =
    let bytes = c.args.bytes.now in
    let name = c.args.name.now in
    let inside = c.in_ok-inside.inside.now in
    let rest = c.in_ok-rest.rest.now in
    let more = c.in_ok-rest-2.rest.now in
    let back = c.split_at.result.1.now in
    let front : c.split_at.result.0.now ≡ name = (bytes_eq-Decides c.split_at.result.0.now name).0 (sym c.if-is_word.ensures) in
    let closed : rest ≡ name ++ 62 ∷ more =
    sym (ap (λ l. l ++ back) (c.split_at.ensures.front) ∙ (ap (λ l. take (length name) rest ++ l) c.split_at.ensures.back ∙ take-append-drop (length name) rest))
    ∙ (ap (λ l. l ++ back) front ∙ ap (λ l. name ++ l) (after_byte-same 62 back more (sym c.in_ok-rest-2.ensures))) in
    after_byte-same 60 bytes inside (sym c.in_ok-inside.ensures)
    ∙ ap (λ l. 60 ∷ l) (after_byte-same 47 inside rest (sym c.in_ok-rest.ensures) ∙ ap (λ l. 47 ∷ l) (before-more 62 name rest (more, closed)))
