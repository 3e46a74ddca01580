use Rattle.std.proofs.Common.{sym, ap, ◌∙◌, chars, drop}
use Rattle.stx_base.specs.Character.{is_ncname}
use Rattle.stx_base.proofs.AsciiLemmas.{all_pass, ascii_ncname_by_first, ascii_stop, cons_of, empty_of}
use Rattle.stx_base.proofs.character.is_ncname.Goals as goal

pub begins_as_ascii_name-requires : goal.begins_as_ascii_name-requires
begins_as_ascii_name-requires c =
    let bytes = c.as_bytes-bytes.result.now in
    all_pass bytes (ap (λ n. drop n bytes) (sym c.ascii_ncname_len.ensures.value) ∙ (sym c.split_at.ensures.back ∙ empty_of c.split_at.result.1.now c.in-None.ensures.value))

pub returns-in-None : goal.returns-in-None
returns-in-None c =
    let bytes = c.as_bytes-bytes.result.now in
    let all = all_pass bytes (ap (λ n. drop n bytes) (sym c.ascii_ncname_len.ensures.value) ∙ (sym c.split_at.ensures.back ∙ empty_of c.split_at.result.1.now c.in-None.ensures.value)) in
    c.begins_as_ascii_name.ensures ∙ (sym (ascii_ncname_by_first bytes all) ∙ ap (λ bs. is_ncname (chars bs)) c.as_bytes-bytes.ensures.value)

pub returns-in-Some : goal.returns-in-Some
returns-in-Some c =
    let bytes = c.as_bytes-bytes.result.now in
    let behind = cons_of c.split_at.result.1.now c.in-Some.byte.now c.in-Some.ensures.value in
    sym (ap (λ bs. is_ncname (chars bs)) (sym c.as_bytes-bytes.ensures.value)
    ∙ ascii_stop bytes c.in-Some.byte.now behind.0 (ap (λ n. drop n bytes) (sym c.ascii_ncname_len.ensures.value) ∙ (sym c.split_at.ensures.back ∙ behind.1)) c.if-byte-lt128.true)
