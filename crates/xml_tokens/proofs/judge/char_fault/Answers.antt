use Rattle.std.proofs.Common.{sym, ap, ◌∙◌, true, false}
use Rattle.std.specs.List.{list_all}
use Rattle.std.specs.Str.{chars}
use Rattle.stx_base.specs.Character.{is_char}
use Rattle.xml_tokens.proofs.JudgedLemmas.{no_utf8, of_chars}
use Rattle.xml_tokens.proofs.PlainLemmas.{low-utf8, low-chars}
use Rattle.xml_tokens.proofs.judge.char_fault.Goals as goal

pub returns-then-are_ascii_chars : goal.returns-then-are_ascii_chars
returns-then-are_ascii_chars c =
    let low = sym c.if-are_ascii_chars.ensures in
    let bytes = c.args.bytes.now in
    sym (of_chars bytes (low-utf8 bytes low) true (low-chars bytes low))

pub returns-in-Ok : goal.returns-in-Ok
returns-in-Ok c =
    let same = ap (λ l. list_all is_char (chars l)) (sym c.in-Ok.ensures.cases.0) in
    sym (of_chars c.args.bytes.now c.in-Ok.ensures.cases.1 true (same ∙ (sym c.are_chars.ensures ∙ c.if-are_chars.true)))

pub returns-in-Ok-2 : goal.returns-in-Ok-2
returns-in-Ok-2 c =
    let same = ap (λ l. list_all is_char (chars l)) (sym c.in-Ok.ensures.cases.0) in
    sym (of_chars c.args.bytes.now c.in-Ok.ensures.cases.1 false (same ∙ (sym c.are_chars.ensures ∙ c.if-are_chars.false)))

pub returns-in-Err : goal.returns-in-Err
returns-in-Err c = sym (no_utf8 c.args.bytes.now c.in-Err.ensures.cases.0)
