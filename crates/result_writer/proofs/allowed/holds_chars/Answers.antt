use Rattle.std.proofs.Common.{sym, ap, chars, ◌∙◌}
use Rattle.std.specs.List.{list_all}
use Rattle.stx_base.specs.Character.{is_char}
use Rattle.stx_base.proofs.AsciiLemmas.{chars_pass}
use Rattle.result_writer.proofs.allowed.holds_chars.Goals as goal

pub returns-then-are_ascii_chars : goal.returns-then-are_ascii_chars
returns-then-are_ascii_chars c =
    c.if-are_ascii_chars.true
    ∙ sym (ap (λ bytes. list_all is_char (chars bytes)) (sym c.as_bytes.ensures.value) ∙ chars_pass is_char c.as_bytes.result.now (sym c.if-are_ascii_chars.ensures))
