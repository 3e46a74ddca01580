-- Which texts are read as numbers.
use Rattle.std.specs.Prelude.{ℕ, ◌-◌, ◌^◌, ℤ, pos, negsuc, Bool, ◌&&◌, ◌||◌, ◌==◌, nat_lt, List, length, take, drop, count_by, Option, Some, None, Result, Ok, Err, if◌then◌else◌}
use Rattle.std.specs.List.{list_all, prefix_len, suffix_len}
use Rattle.std.specs.Char.{is_ascii_digit}
use Rattle.std.specs.Str.Parse.{without_leading_sign, signed_digits_value}
use Rattle.stx_base.specs.Character.{is_space}
use Rattle.stxpath_values.specs.Outcome.{and_then}
use Rattle.stxpath_values.specs.declared.fault.EvalFault.{EvalFault}
use Rattle.stxpath_values.specs.declared.fault.EvalFault.TheVariants.{Overflow, Fraction}

-- whether a number lies within 64 bits: from -2^63 to 2^63 - 1, where negsuc n is -(n + 1)
abbrev pub fits : ℤ → Bool
fits (pos n) = nat_lt n (2 ^ 63)
fits (negsuc n) = nat_lt n (2 ^ 63)

-- a number within 64 bits
abbrev pub whole : ℤ → Result ℤ EvalFault
whole z = if fits z then Ok z else Err Overflow

-- the text without the white space (XML 1.0, 2.3) before its other characters
unfoldable pub without_space_before : List ℕ → List ℕ
without_space_before cs = drop (prefix_len is_space cs) cs

-- the text without the white space behind them
unfoldable pub without_space_behind : List ℕ → List ℕ
without_space_behind cs = take (length cs - suffix_len is_space cs) cs

-- the text without white space at both ends
abbrev pub stripped : List ℕ → List ℕ
stripped cs = without_space_behind (without_space_before cs)

-- digits, one or more, behind a sign or none
unfoldable pub is_numeral : List ℕ → Bool
is_numeral cs = nat_lt 0 (length (without_leading_sign cs)) && list_all is_ascii_digit (without_leading_sign cs)

-- the number that a numeral writes
unfoldable pub number : List ℕ → ℤ
number cs = signed_digits_value 10 cs

-- a dot
abbrev pub is_dot : ℕ → Bool
is_dot c = c == 46

abbrev pub is_digit_or_dot : ℕ → Bool
is_digit_or_dot c = is_ascii_digit c || is_dot c

-- digits, one or more, with one dot before, behind or among them, behind a sign or none
unfoldable pub is_fraction : List ℕ → Bool
is_fraction cs =
    nat_lt 1 (length (without_leading_sign cs)) && list_all is_digit_or_dot (without_leading_sign cs)
    && count_by is_dot (without_leading_sign cs) == 1

-- a text without white space at its ends as a number, where it is a numeral
unfoldable pub stripped_number : List ℕ → Result (Option ℤ) EvalFault
stripped_number cs =
    if is_numeral cs then and_then (whole (number cs)) (λ z. Ok (Some z))
    else if is_fraction cs then Err Fraction
    else Ok None

-- a text as a number, where it is a numeral with white space round it or none
unfoldable pub text_number : List ℕ → Result (Option ℤ) EvalFault
text_number cs = stripped_number (stripped cs)
