-- What is written in the place of bytes, so that they are read back as they were (XML 1.0, 2.4, 2.11 and 3.3.3).
use Rattle.std.specs.Prelude.{ℕ, Bool, not, ◌&&◌, ◌==◌, nat_lt, if◌then◌else◌, List, [], ◌∷◌, Option, Some, None, unwrap_or, codes}
use Rattle.std.specs.List.{flat_map}
use Rattle.stx_base.specs.Character.{is_char}
use Rattle.result_writer.specs.declared.escape.Context.{Context}
use Rattle.result_writer.specs.declared.escape.Context.TheVariants.{Content, Value}

-- the reference that stands for a byte, where the byte can't stand for itself
abbrev pub reference_of : Context → ℕ → Option (List ℕ)
reference_of Content b =
    if b == 0x26 then Some (codes "&amp;")
    else if b == 0x3C then Some (codes "&lt;")
    else if b == 0x3E then Some (codes "&gt;")
    else if b == 0xD then Some (codes "&#13;")
    else None
reference_of Value b =
    if b == 0x26 then Some (codes "&amp;")
    else if b == 0x3C then Some (codes "&lt;")
    else if b == 0x22 then Some (codes "&quot;")
    else if b == 0x9 then Some (codes "&#9;")
    else if b == 0xA then Some (codes "&#10;")
    else if b == 0xD then Some (codes "&#13;")
    else None

-- a byte, or its reference
abbrev pub written : Context → ℕ → List ℕ
written context b = unwrap_or (reference_of context b) (b ∷ [])

abbrev pub escaped : Context → List ℕ → List ℕ
escaped context bs = flat_map (written context) bs

-- an ASCII Char that stands for itself in content
abbrev pub is_plain_ascii : ℕ → Bool
is_plain_ascii b = (nat_lt b 128 && is_char b) && (not (b == 0x26) && (not (b == 0x3C) && (not (b == 0x3E) && not (b == 0xD))))
