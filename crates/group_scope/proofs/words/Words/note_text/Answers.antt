use Rattle.std.proofs.Common.{◌<◌, true, length, string_bytes, ap, sym, ◌∙◌, arith}
use Rattle.std.proofs.Math.ListN.{set}
use Rattle.std.specs.List.{list_all}
use Rattle.group_scope.specs.Marked.{is_marked, mark_of}
use Rattle.group_scope.proofs.Texts.{one_more}
use Rattle.group_scope.proofs.words.Words.note_text.Goals as goal

pub invariant_of-self-2-clause-marked : goal.invariant_of-self-2-clause-marked
invariant_of-self-2-clause-marked c =
    let marks = c.args.self.now.marks in
    let mark = c.mark_of-mark.result in
    let word = c.in_ok-word.word in
    let within : mark < length marks = omega (arith, c.mark_of-mark.ensures.bound) in
    let at = c.mark_of-mark.ensures.value ∙ ap mark_of (c.as_str-2.ensures.bytes ∙ sym c.as_str.ensures.bytes ∙ sym c.in_ok-word.ensures.ok) in
    ap (list_all (λ w. is_marked (set marks mark true) (string_bytes w))) c.in_ok-insert.ensures.keys
    ∙ one_more string_bytes marks mark _ c.args.self.now.texts.keys word within at c.args.self.now.marked
