-- A text as tokens.
use Rattle.std.specs.Prelude.{◌≡◌, ◌≢◌, ℕ, ◌+◌, ◌-◌, ◌^◌, pos, Bool, true, false, not, ◌&&◌, ◌||◌, ◌==◌, nat_lt, List, [], ◌∷◌, Option, Some, None, length, take, drop, slice_get, if◌then◌else◌, is_some, encode_utf8_all, ◌⊎◌}
use Rattle.std.specs.Char.{is_ascii_digit}
use Rattle.std.specs.List.{prefix_len, position_or_len}
use Rattle.std.specs.Option.{option_map, option_map_or, option_or}
use Rattle.std.specs.Str.Parse.{digits_value}
use Rattle.stx_base.specs.Character.{is_space, is_name_start, is_ncname_char}
use Rattle.stx_base.specs.declared.expression.Op.TheVariants as op
use Rattle.stx_base.specs.declared.expression.Cmp.TheVariants as cmp
use Rattle.stxpath_syntax.specs.declared.expr.Bin.TheVariants as bin
use Rattle.stxpath_syntax.specs.declared.fault.PathKind.{PathKind}
use Rattle.stxpath_syntax.specs.declared.fault.PathKind.TheVariants as kind
use Rattle.stxpath_syntax.specs.declared.fault.PathFault.{PathFault}
use Rattle.stxpath_syntax.specs.declared.token.Before.{Before}
use Rattle.stxpath_syntax.specs.declared.token.Operator.TheVariants as operator
use Rattle.stxpath_syntax.specs.declared.token.Token.{Token}
use Rattle.stxpath_syntax.specs.declared.token.Token.TheVariants as token
use Rattle.stxpath_syntax.specs.declared.token.Placed.{Placed}
use Rattle.stxpath_syntax.specs.Words.{operator_named}

-- whether a character at this place passes the test
abbrev pub has_at : (ℕ → Bool) → ℕ → List ℕ → Bool
has_at test i text = option_map_or test (slice_get text i) false

-- `"` and `'`
abbrev pub is_quote : ℕ → Bool
is_quote c = c == 34 || c == 39

-- the first character of an NCName (Namespaces in XML 1.0, 3)
abbrev pub begins_name : ℕ → Bool
begins_name c = is_name_start c && not (c == 58)

-- as many digits as there are
abbrev pub numeral : List ℕ → Token × ℕ
numeral text = let n = prefix_len is_ascii_digit text in (token.Whole (pos (digits_value 10 (take n text))), n)

-- the characters up to the next such quote
abbrev pub literal : ℕ → List ℕ → Option (Token × ℕ)
literal quote text =
    let n = position_or_len (λ c. c == quote) text in
    if nat_lt n (length text) then Some (token.Literal (take n text), n + 2) else None

-- an NCName, as long as possible, and what goes on with a colon
abbrev pub goes_on : ℕ → List ℕ → Token × ℕ
goes_on n text =
    let m = prefix_len is_ncname_char (drop (n + 1) text) in
    if has_at (λ c. c == 58) n text && has_at begins_name (n + 1) text
    then (token.Name (record { prefix = take n text; local = take m (drop (n + 1) text) }), n + 1 + m)
    else if has_at (λ c. c == 58) n text && has_at (λ c. c == 42) (n + 1) text
    then (token.Within (take n text), n + 2)
    else (token.Name (record { prefix = []; local = take n text }), n)

-- a QName, an NCName with `:*`, or an NCName, behind the first character
abbrev pub name : List ℕ → Token × ℕ
name text = goes_on (prefix_len is_ncname_char (drop 1 text) + 1) text

-- the signs of two characters
abbrev pub double_sign : ℕ → ℕ → Option Token
double_sign c d =
    if c == 47 && d == 47 then Some token.SlashSlash
    else if c == 46 && d == 46 then Some token.DotDot
    else if c == 33 && d == 61 then Some (token.Operator (operator.Binary (bin.Compare cmp.Ne)))
    else if c == 60 && d == 61 then Some (token.Operator (operator.Binary (bin.Compare cmp.Le)))
    else if c == 62 && d == 61 then Some (token.Operator (operator.Binary (bin.Compare cmp.Ge)))
    else None

-- those of one character that stand between or before operands
abbrev pub operator_sign : ℕ → Option Token
operator_sign c =
    if c == 60 then Some (token.Operator (operator.Binary (bin.Compare cmp.Lt)))
    else if c == 62 then Some (token.Operator (operator.Binary (bin.Compare cmp.Gt)))
    else if c == 61 then Some (token.Operator (operator.Binary (bin.Compare cmp.Eq)))
    else if c == 43 then Some (token.Operator (operator.Binary (bin.Arith op.Add)))
    else if c == 45 then Some (token.Operator (operator.Binary (bin.Arith op.Sub)))
    else None

-- the other signs of one character
abbrev pub plain_sign : ℕ → Option Token
plain_sign c =
    if c == 40 then Some token.Open
    else if c == 41 then Some token.Close
    else if c == 91 then Some token.OpenPredicate
    else if c == 93 then Some token.ClosePredicate
    else if c == 47 then Some token.Slash
    else if c == 46 then Some token.Dot
    else if c == 42 then Some token.Star
    else if c == 44 then Some token.Comma
    else if c == 64 then Some token.At
    else if c == 124 then Some token.Bar
    else if c == 36 then Some token.Dollar
    else None

abbrev pub single_sign : ℕ → Option Token
single_sign c = option_or (operator_sign c) (plain_sign c)

abbrev pub with_length : ℕ → Token → Token × ℕ
with_length n t = (t, n)

-- the sign at the front, with its length
abbrev pub sign : List ℕ → Option (Token × ℕ)
sign [] = None
sign (c ∷ []) = option_map (with_length 1) (single_sign c)
sign (c ∷ d ∷ text) = option_or (option_map (with_length 2) (double_sign c d)) (option_map (with_length 1) (single_sign c))

-- the token at the front of a text, as long as possible, and its length; names and `*` aren't told from operators yet
abbrev pub first_token : List ℕ → Option (Token × ℕ)
first_token [] = None
first_token (c ∷ text) =
    if is_ascii_digit c then Some (numeral (c ∷ text))
    else if is_quote c then literal c text
    else if begins_name c then Some (name (c ∷ text))
    else sign (c ∷ text)

-- digits with a dot joined to them, or a lone dot with a digit joined to it
abbrev pub is_fraction : List ℕ → Bool
is_fraction text =
    let n = prefix_len is_ascii_digit text in
    if n == 0 then has_at (λ c. c == 46) 0 text && has_at is_ascii_digit 1 text else has_at (λ c. c == 46) n text

-- a numeral that is too large for 64 bits
abbrev pub is_too_large : List ℕ → Bool
is_too_large text = nat_lt (2 ^ 63 - 1) (digits_value 10 (take (prefix_len is_ascii_digit text) text))

abbrev pub opens : Token → Bool
opens token.Open = true
opens token.OpenPredicate = true
opens _ = false

abbrev pub closes : Token → Bool
closes token.Close = true
closes token.ClosePredicate = true
closes _ = false

-- the brackets that may be open at once
abbrev pub max_open : ℕ
max_open = 64

-- why no token can be read at the front of a text
abbrev pub unreadable : List ℕ → Option PathKind
unreadable text =
    if is_fraction text then Some kind.Fraction
    else if is_too_large text then Some kind.Range
    else if is_some (first_token text) then None
    else Some kind.Syntax

-- whether a token opens one bracket too many, where so many are open
abbrev pub is_too_deep : ℕ → Token → Bool
is_too_deep opened t = opens t && nat_lt (max_open - 1) opened

-- a token that can end an operand: no operator, and none of `@ ( [ , $ / // |`
abbrev pub ends_operand : Token → Bool
ends_operand (token.Whole i) = true
ends_operand (token.Literal text) = true
ends_operand (token.Name name) = true
ends_operand (token.Within prefix) = true
ends_operand token.Star = true
ends_operand token.Close = true
ends_operand token.ClosePredicate = true
ends_operand token.Dot = true
ends_operand token.DotDot = true
ends_operand _ = false

-- `*` and the words of operators are operators behind a token that can end an operand
abbrev pub classed : Bool → Token → Token
classed true token.Star = token.Operator (operator.Binary (bin.Arith op.Mul))
classed true (token.Name name) = if length name.prefix == 0 then option_map_or token.Operator (operator_named (encode_utf8_all name.local)) (token.Name name) else token.Name name
classed _ t = t

abbrev pub begun : ℕ → Before
begun at = record { at = at; opened = 0; is_operand = false }

-- each closing bracket takes one off, whatever its kind, where one is open
abbrev pub before_next : Before → Token → ℕ → Before
before_next before t end = record {
  at = end;
  opened = if opens t then before.opened + 1 else if closes t then before.opened - 1 else before.opened;
  is_operand = ends_operand t;
}

-- the white space at the front
abbrev pub space : List ℕ → ℕ
space = prefix_len is_space

-- the fault where no token stands: none can be read, or it is one bracket too many
abbrev pub Refuses : ℕ → List ℕ → PathKind → Type 0
Refuses opened text why =
    (unreadable text ≡ Some why)
    ⊎ ((found : Token × ℕ) × (unreadable text ≡ None) × (first_token text ≡ Some found) × (is_too_deep opened found.0 ≡ true) × (why ≡ kind.TooDeep))

-- one token behind what stands before it: it is the first of the text, and of so many characters with the white space before it
pub record Stands (before : Before) (text : List ℕ) (t : Placed) (len : ℕ) : Type 0 where
  pub found : Token × ℕ
  pub is_first : first_token (drop (space text) text) ≡ Some found
  pub is_readable : unreadable (drop (space text) text) ≡ None
  pub is_not_too_deep : is_too_deep before.opened found.0 ≡ false
  pub is_it : t ≡ record { token = classed before.is_operand found.0; at = before.at + space text }
  pub is_long : len ≡ space text + found.1

-- behind what stands before it, the rest of a text is these tokens, with white space between, and then its end or a fault
abbrev pub Lexed : Before → List ℕ → List Placed → Option PathFault → Type 0
Lexed before text [] None = drop (space text) text ≡ []
Lexed before text [] (Some fault) =
    (drop (space text) text ≢ []) × Refuses before.opened (drop (space text) text) fault.kind × (fault.place ≡ before.at + space text)
Lexed before text (t ∷ ts) over =
    (len : ℕ) × Stands before text t len × Lexed (before_next before t.token (before.at + len)) (drop len text) ts over

-- the tokens of a text that begins at a place
abbrev pub Tokens : ℕ → List ℕ → List Placed → Option PathFault → Type 0
Tokens at = Lexed (begun at)
