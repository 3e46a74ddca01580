-- How texts are read span by span.
use Rattle.std.specs.Prelude.{◌≡◌, ℕ, ◌+◌, ◌<◌, Bool, false, true, not, ◌&&◌, ◌||◌, ◌==◌, nat_le, nat_lt, suc, List, [], ◌∷◌, ◌++◌, Option, Some, None, Result, Ok, Err, length, take, drop, slice_get, if◌then◌else◌}
use Rattle.std.specs.List.{list_all, list_any, position_or_len}
use Rattle.std.specs.Option.{option_copied, option_map_or}
use Rattle.std.specs.Result.{result_map_both}
use Rattle.std.specs.Str.{chars, is_utf8}
use Rattle.std.specs.declared.vec.Vec.{Vec}
use Rattle.std.specs.declared.alloc.Global.{Global}
use Rattle.xml_tokens.specs.Texts.{first_part, is_ampersand, later_parts, result_map, said, worse}
use Rattle.xml_tokens.specs.Tags.{attributes, attrs_said}
use Rattle.xml_tokens.specs.Judged.{kind_of}
use Rattle.stx_base.specs.Character.{is_char, is_name_char, is_name_start, is_space}
use Rattle.stx_base.specs.declared.fault.XmlKind.{XmlKind}
use Rattle.stx_base.specs.declared.fault.XmlKind.TheVariants.{BadUtf8, BadChar}
use Rattle.xml_tokens.specs.declared.judge.Ease.{Ease}
use Rattle.xml_tokens.specs.declared.judge.Ease.TheVariants.{Literal, Referring, Other}
use Rattle.xml_tokens.specs.declared.judge.Unread.{Unread}
use Rattle.xml_tokens.specs.declared.judge.Unread.TheVariants.{Fault, Memory}
use Rattle.xml_tokens.specs.declared.lexeme.Body.{Body}
use Rattle.xml_tokens.specs.declared.lexeme.Body.TheVariants.{Chars}
use Rattle.xml_tokens.specs.declared.lexeme.RawAttr.{RawAttr}
use Rattle.xml_tokens.specs.declared.prolog.XmlDeclaration.{XmlDeclaration}
use Rattle.xml_tokens.specs.declared.tag.AttributeList.{AttributeList}
use Rattle.xml_tokens.specs.declared.text.BadText.{BadText}
use Rattle.xml_tokens.specs.declared.text.Context.{Context}
use Rattle.xml_tokens.specs.declared.text.Context.TheVariants.{Content, Value}

-- the characters that bytes say
abbrev pub text_said : Context → List ℕ → Result (List ℕ) BadText
text_said place bytes = result_map chars (said place bytes)

-- the bytes in a vector
abbrev pub bytes_of : Result (Vec ℕ Global) BadText → Result (List ℕ) BadText
bytes_of made = result_map (λ out. out.items) made

-- carriage return, line feed, and tab
abbrev pub is_break : ℕ → Bool
is_break b = b == 13 || b == 10 || b == 9

-- a byte that doesn't say itself where no reference stands
abbrev pub is_changed : Context → ℕ → Bool
is_changed Content b = b == 13
is_changed Value b = is_break b

-- no byte begins a reference, and none is changed
abbrev pub is_literal : Context → List ℕ → Bool
is_literal place bytes = not (list_any is_ampersand bytes) && not (list_any (is_changed place) bytes)

-- what a byte that is changed says
abbrev pub break_as : Context → ℕ
break_as Content = 10
break_as Value = 32

-- no byte is changed where no reference stands, unless bytes may be broken
abbrev pub IsKept : (broken : Bool) → Context → List ℕ → Type 0
IsKept broken place bytes = broken ≡ false → list_all (λ b. not (is_changed place b)) bytes ≡ true

-- what follows a byte, or CR LF
abbrev pub behind_break : List ℕ → List ℕ
behind_break [] = []
behind_break (b ∷ []) = []
behind_break (b ∷ c ∷ bs) = if b == 13 && c == 10 then bs else c ∷ bs

-- the first such byte's place, if there is one
abbrev pub IsFirstOf : (ℕ → Bool) → List ℕ → Option ℕ → Type 0
IsFirstOf test bytes None = position_or_len test bytes ≡ length bytes
IsFirstOf test bytes (Some at) = (position_or_len test bytes ≡ at) × (at < length bytes)

-- the bytes are cut at the first such byte, if there is one
abbrev pub cut_at : (ℕ → Bool) → List ℕ → Option (List ℕ × List ℕ)
cut_at test bytes =
    let len = position_or_len test bytes in
    if nat_lt len (length bytes) then Some (take len bytes, drop (len + 1) bytes) else None

-- the parts that follow an ampersand, if one came
abbrev pub parts_of : Option (List ℕ) → List (List ℕ)
parts_of None = []
parts_of (Some later) = first_part is_ampersand later ∷ later_parts is_ampersand later

-- what a part says was appended, or it has this fault and nothing was
abbrev pub IsPushed : (old new : List ℕ) → Result (List ℕ) BadText → Result (Unit {0}) BadText → Type 0
IsPushed old new said (Ok done) = (bytes : List ℕ) × (said ≡ Ok bytes) × (new ≡ old ++ bytes)
IsPushed old new said (Err fault) = (said ≡ Err fault) × (new ≡ old)

-- a fault behind those before it
abbrev pub worse_of : Option BadText → BadText → BadText
worse_of None other = other
worse_of (Some fault) other = worse fault other

-- attributes as they are said, or the fault that they have
abbrev pub IsRead : List RawAttr → Option BadText → Result (List RawAttr) BadText → Type 0
IsRead attrs None said = said ≡ Ok attrs
IsRead attrs (Some fault) said = said ≡ Err fault

-- what was found of attributes behind a name is what they say
abbrev pub AreAttributes : List ℕ → Option AttributeList → Type 0
AreAttributes bytes None = attributes (suc (length bytes)) bytes ≡ None
AreAttributes bytes (Some found) =
    (written : List (List ℕ × List ℕ)) × (attributes (suc (length bytes)) bytes ≡ Some (written, found.empty))
    × IsRead found.attrs found.fault (attrs_said written)

-- what an XML declaration tells, by its bytes
abbrev pub as_told : XmlDeclaration → List ℕ × Option (List ℕ)
as_told told = (told.version.now, option_copied told.encoding)

-- a NameChar of ASCII
abbrev pub is_ascii_name_byte : ℕ → Bool
is_ascii_name_byte b = nat_lt b 128 && is_name_char b

-- a byte beyond ASCII stands at this place
abbrev pub is_wide_at : ℕ → List ℕ → Bool
is_wide_at at bytes = option_map_or (nat_le 128) (slice_get bytes at) false

-- so many bytes and those behind them, where the first one is a NameStartChar
abbrev pub cut_name : ℕ → List ℕ → Option (List ℕ × List ℕ)
cut_name len [] = None
cut_name len (b ∷ bs) = if is_name_start b then Some (take len (b ∷ bs), drop len (b ∷ bs)) else None

-- a Char of ASCII that says itself wherever it stands in character data
abbrev pub is_plain_byte : ℕ → Bool
is_plain_byte b = (nat_lt b 128 && is_char b) && (not (b == 60) && (not (b == 38) && (not (b == 93) && not (b == 13))))

-- a Char of ASCII that says itself wherever no reference stands
abbrev pub is_easy_byte : ℕ → Bool
is_easy_byte b = (nat_lt b 128 && is_char b) && (not (b == 93) && not (b == 13))

-- such characters, one or more, as a text
abbrev pub is_easy : List ℕ → Bool
is_easy bytes = option_map_or (λ b. not (b == 60)) (slice_get bytes 0) false && list_all is_easy_byte bytes

-- an easy text has references or not, as is said of it
abbrev pub IsEase : List ℕ → Ease → Type 0
IsEase bytes Literal = (is_easy bytes ≡ true) × (list_all (λ b. not (is_ampersand b)) bytes ≡ true)
IsEase bytes Referring = is_easy bytes ≡ true
IsEase bytes Other = Unit {0}

-- such characters, one or more
abbrev pub is_plain : List ℕ → Bool
is_plain bytes = nat_lt 0 (length bytes) && list_all is_plain_byte bytes

-- the fault of bytes that are no UTF-8, or that say other characters than Chars
abbrev pub char_fault : List ℕ → Option XmlKind
char_fault bytes = if not (is_utf8 bytes) then Some BadUtf8 else if not (list_all is_char (chars bytes)) then Some BadChar else None

-- what character data says, or the fault that its references have
abbrev pub chars_said : List ℕ → Result Body XmlKind
chars_said bytes = result_map_both (λ text. Chars (chars text) (list_all is_space bytes)) kind_of (said Content bytes)

-- a shape says this, or has this fault, unless memory was wanting
abbrev pub IsJudged : Result Body XmlKind → Result Body Unread → Type 0
IsJudged judged (Ok body) = judged ≡ Ok body
IsJudged judged (Err (Fault kind)) = judged ≡ Err kind
IsJudged judged (Err Memory) = Unit {0}
