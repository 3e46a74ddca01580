use Rattle.std.proofs.Common.{sym, ap, ◌∙◌, ◌∷◌, ◌++◌, take, drop, subst, ◌≡◌, true}
use Rattle.std.specs.List.{list_all, prefix_len}
use Rattle.std.proofs.lemmas.List.{take-append-drop}
use Rattle.xml_tokens.specs.inside.PlainTags.{is_plain_in_value}
use Rattle.xml_tokens.proofs.AttributeLemmas.{after_byte-same}
use Rattle.xml_tokens.proofs.ListLemmas.{prefix-all}
use Rattle.xml_tokens.proofs.plain_tag.plain_attribute.Goals as goal

pub returns : goal.returns
returns c =
    let name = c.in_ok-name.name.now in
    let quoted = c.in_ok-quoted.quoted.now in
    let behind = c.in_ok-behind.behind.now in
    let value = c.split_at.result.0.now in
    let len = c.plain_value_len.ensures.value in
    let front : value ≡ take (prefix_len is_plain_in_value quoted) quoted = c.split_at.ensures.front ∙ ap (λ n. take n quoted) len in
    let back : c.split_at.result.1.now ≡ drop (prefix_len is_plain_in_value quoted) quoted = c.split_at.ensures.back ∙ ap (λ n. drop n quoted) len in
    let whole : quoted ≡ value ++ 34 ∷ behind =
    sym (take-append-drop (prefix_len is_plain_in_value quoted) quoted) ∙ (ap (λ l. l ++ drop (prefix_len is_plain_in_value quoted) quoted) (sym front)
    ∙ ap (λ l. value ++ l) (sym back ∙ after_byte-same 34 c.split_at.result.1.now behind (sym c.in_ok-behind.ensures))) in (
      c.in_ok-name.ensures.0,
      subst (λ l. list_all is_plain_in_value l ≡ true) (sym front) (prefix-all is_plain_in_value quoted),
      c.in_ok-name.ensures.1 ∙ ap (λ l. name ++ l) (after_byte-same 61 c.in_ok-name.rest.now c.in_ok-after_byte.field-0.now (sym c.in_ok-after_byte.ensures)
          ∙ ap (λ l. 61 ∷ l) (after_byte-same 34 c.in_ok-after_byte.field-0.now quoted (sym c.in_ok-quoted.ensures) ∙ ap (λ l. 34 ∷ l) whole)),
    )
