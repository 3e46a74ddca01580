use Rattle.std.proofs.Common.{false, get_or, ap, ◌∙◌}
use Rattle.std.specs.Prelude.{encode_utf8_all, string_bytes}
use Rattle.group_scope.specs.Marked.{mark_of}
use Rattle.group_scope.proofs.Texts.{no_number, not_found}
use Rattle.group_scope.proofs.words.Words.may_have.Goals as goal

pub returns-clause-number : goal.returns-clause-number
returns-clause-number c =
    let words = c.args.self.now in
    no_number string_bytes words.marks (encode_utf8_all c.args.text.now) words.texts.keys (get_or words.marks c.mark_of.result false)
    (ap (λ i. get_or words.marks i false) (c.mark_of.ensures.value ∙ ap mark_of c.as_str.ensures.bytes)) words.marked

pub returns-clause-found : goal.returns-clause-found
returns-clause-found c =
    let words = c.args.self.now in
    not_found string_bytes words.marks (encode_utf8_all c.args.text.now) words.texts.keys (get_or words.marks c.mark_of.result false)
    (ap (λ i. get_or words.marks i false) (c.mark_of.ensures.value ∙ ap mark_of c.as_str.ensures.bytes)) words.marked
