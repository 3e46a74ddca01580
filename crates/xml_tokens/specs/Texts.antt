-- How character data and attribute values are read: line ends, references, and white space (XML 1.0, 2.11, 3.3.3, 4.1 and 4.6).
use Rattle.std.specs.Prelude.{ℕ, ◌+◌, Bool, false, ◌&&◌, ◌||◌, ◌==◌, nat_lt, List, [], ◌∷◌, ◌++◌, Option, Some, None, Result, Ok, Err, length, take, drop, map, bytes_eq, encode_utf8, if◌then◌else◌, codes}
use Rattle.std.specs.List.{list_all, position_or_len}
use Rattle.std.specs.Char.{is_digit}
use Rattle.std.specs.Option.{option_map_or}
use Rattle.std.specs.Str.{chars}
use Rattle.std.specs.Str.Parse.{digits_value}
use Rattle.stx_base.specs.Character.{is_char, is_name}
use Rattle.xml_tokens.specs.Places.{begins}
use Rattle.xml_tokens.specs.declared.text.Context.{Context}
use Rattle.xml_tokens.specs.declared.text.Context.TheVariants.{Content, Value}
use Rattle.xml_tokens.specs.declared.text.BadText.{BadText}
use Rattle.xml_tokens.specs.declared.text.BadText.TheVariants.{Reference, Entity}

-- a carriage return is read as a line feed (XML 1.0, 2.11)
abbrev pub as_feed : ℕ → ℕ
as_feed b = if b == 13 then 10 else b

-- what is read where a carriage return stands directly before, or doesn't: a line feed behind it is left out
abbrev pub lines_behind : (behind_return : Bool) → List ℕ → List ℕ
lines_behind behind_return [] = []
lines_behind behind_return (b ∷ bs) = (if behind_return && b == 10 then [] else as_feed b ∷ []) ++ lines_behind (b == 13) bs

-- CR LF, and CR without LF after it, are read as LF (XML 1.0, 2.11)
abbrev pub lines : List ℕ → List ℕ
lines bytes = lines_behind false bytes

-- a tab and a line feed are read as a space (XML 1.0, 3.3.3)
abbrev pub as_space : ℕ → ℕ
as_space b = if b == 9 || b == 10 then 32 else b

-- what bytes without references say
abbrev pub literal : Context → List ℕ → List ℕ
literal Content bytes = lines bytes
literal Value bytes = map as_space (lines bytes)

-- the character of a number, if it is a Char
abbrev pub numbered : ℕ → Result ℕ BadText
numbered n = if is_char n then Ok n else Err Reference

-- digits of a radix, one or more, as the number of a character
abbrev pub character : ℕ → List ℕ → Result ℕ BadText
character radix digits = if nat_lt 0 (length digits) && list_all (λ b. is_digit b radix) digits then numbered (digits_value radix digits) else Err Reference

-- the character of a predefined entity (XML 1.0, 4.6)
abbrev pub predefined : List ℕ → Option ℕ
predefined name =
    if bytes_eq name (codes "lt") then Some 60
    else if bytes_eq name (codes "gt") then Some 62
    else if bytes_eq name (codes "amp") then Some 38
    else if bytes_eq name (codes "apos") then Some 39
    else if bytes_eq name (codes "quot") then Some 34
    else None

-- the character that a number names (CharRef; XML 1.0, 4.1), or the fault of an entity that isn't known
abbrev pub numbered_or_unknown : List ℕ → Result ℕ BadText
numbered_or_unknown name =
    if begins name (codes "#x") then character 16 (drop 2 name)
    else if begins name (codes "#") then character 10 (drop 1 name)
    else if is_name (chars name) then Err Entity
    else Err Reference

-- the character that the bytes between `&` and `;` name (Reference; XML 1.0, 4.1)
unfoldable pub referred : List ℕ → Result ℕ BadText
referred name = option_map_or (λ c. Ok c) (predefined name) (numbered_or_unknown name)

-- the value of a result, changed
abbrev pub result_map : {A B E : Type 0} → (A → B) → Result A E → Result B E
result_map f (Ok a) = Ok (f a)
result_map f (Err e) = Err e

-- of two faults of a text the one that is told: a bad reference comes before an unknown entity, wherever they stand
abbrev pub worse : BadText → BadText → BadText
worse Reference other = Reference
worse Entity other = other

-- what two parts say together, or the fault that is told
abbrev pub both : {A B C : Type 0} → (A → B → C) → Result A BadText → Result B BadText → Result C BadText
both f (Ok a) (Ok b) = Ok (f a b)
both f (Ok a) (Err fault) = Err fault
both f (Err fault) (Ok b) = Err fault
both f (Err fault) (Err other) = Err (worse fault other)

-- what is said of a part that follows a `&`: a reference up to the `;`, and then no other
abbrev pub after_ampersand : Context → List ℕ → Result (List ℕ) BadText
after_ampersand place part =
    let len = position_or_len (λ b. b == 59) part in
    if nat_lt len (length part)
    then both (λ c rest. encode_utf8 c ++ rest) (referred (take len part)) (Ok (literal place (drop (len + 1) part)))
    else Err Reference

-- the parts before, between and behind the bytes that pass a test: one more than these
abbrev pub first_part : (ℕ → Bool) → List ℕ → List ℕ
first_part test bytes = take (position_or_len test bytes) bytes

abbrev pub later_parts : (ℕ → Bool) → List ℕ → List (List ℕ)
later_parts test [] = []
later_parts test (b ∷ bs) = (if test b then first_part test bs ∷ [] else []) ++ later_parts test bs

-- `&`
abbrev pub is_ampersand : ℕ → Bool
is_ampersand b = b == 38

-- what parts say one after another
abbrev pub all_of : Context → List (List ℕ) → Result (List ℕ) BadText
all_of place [] = Ok []
all_of place (part ∷ parts) = both (λ front rest. front ++ rest) (after_ampersand place part) (all_of place parts)

-- what text says in which references stand: it is cut at its ampersands, and each part behind one begins with the rest of a reference
unfoldable pub said : Context → List ℕ → Result (List ℕ) BadText
said place bytes =
    both (λ front rest. front ++ rest) (Ok (literal place (first_part is_ampersand bytes))) (all_of place (later_parts is_ampersand bytes))
