use Rattle.std.proofs.Common.{◌≡◌, ◌++◌, ap, ◌∙◌}
use Rattle.std.specs.Prelude.{codes}
use Rattle.std.specs.Fmt.{decimal}
use Rattle.std.specs.Str.{chars}
use Rattle.sample_maker.specs.Document.{record_text}
use Rattle.sample_maker.proofs.piece.record.Goals as goal

-- what has been appended after each call
pub returns : goal.returns
unfolding chars record_text
returns c =
    let i = c.args.number in
    let t0 : c.push_str.new.self ≡ codes "<rec id=\"" =
    c.in_ok-push_str.ensures.ok ∙ ap (λ cs. cs ++ codes "<rec id=\"") (c.from_string-text.ensures ∙ ap chars c.in_ok-string.ensures.bytes) in
    let t1 = c.in_ok-put_number.ensures ∙ ap (λ cs. cs ++ decimal i) t0 in
    let t2 = c.in_ok-push_str-2.ensures.ok ∙ ap (λ cs. cs ++ codes "\"><name>item ") t1 in
    let t3 = c.in_ok-put_number-2.ensures ∙ ap (λ cs. cs ++ decimal i) t2 in
    let t4 = c.in_ok-push_str-3.ensures.ok ∙ ap (λ cs. cs ++ codes "</name><qty>") t3 in
    let t5 = c.in_ok-put_number-3.ensures ∙ ap (λ cs. cs ++ decimal c.quantity.result) t4 ∙ ap (λ n. (codes "<rec id=\"" ++ decimal i ++ codes "\"><name>item " ++ decimal i ++ codes "</name><qty>") ++ decimal n) c.quantity.ensures in
    c.in_ok-push_str-4.ensures.ok ∙ ap (λ cs. cs ++ codes "</qty></rec>\n") t5
