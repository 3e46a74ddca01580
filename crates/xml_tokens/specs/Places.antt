-- Where something first stands among bytes that begin at a given place.
use Rattle.std.specs.Prelude.{ℕ, ◌+◌, Bool, true, false, ◌&&◌, ◌||◌, ◌==◌, List, [], ◌∷◌, Option, Some, None, if◌then◌else◌}

-- whether the bytes begin with the word
abbrev pub begins : List ℕ → List ℕ → Bool
begins bytes [] = true
begins [] (w ∷ ws) = false
begins (b ∷ bs) (w ∷ ws) = (b == w) && begins bs ws

-- whether the bytes are a front of the word that lacks something of it
abbrev pub is_part : List ℕ → List ℕ → Bool
is_part bytes [] = false
is_part [] (w ∷ ws) = true
is_part (b ∷ bs) (w ∷ ws) = (b == w) && is_part bs ws

-- the place of the first byte that passes the test, where the bytes begin at place `at`
abbrev pub first_byte : (ℕ → Bool) → ℕ → List ℕ → Option ℕ
first_byte test at [] = None
first_byte test at (b ∷ bs) = if test b then Some at else first_byte test (at + 1) bs

-- the place where the word first begins
abbrev pub first_word : List ℕ → ℕ → List ℕ → Option ℕ
first_word word at [] = None
first_word word at (b ∷ bs) = if begins (b ∷ bs) word then Some at else first_word word (at + 1) bs

-- `"` and `'`
abbrev pub is_quote : ℕ → Bool
is_quote b = b == 34 || b == 39

-- the quote that is open behind the byte b, where `quote` is open before it
abbrev pub quote_after : Option ℕ → ℕ → Option ℕ
quote_after None b = if is_quote b then Some b else None
quote_after (Some opener) b = if b == opener then None else Some opener

-- whether no quote is open
abbrev pub is_outside : Option ℕ → Bool
is_outside None = true
is_outside (Some opener) = false

-- the place of the first byte outside quotes that passes the test, where `quote` is open before the first byte
abbrev pub first_outside : (ℕ → Bool) → Option ℕ → ℕ → List ℕ → Option ℕ
first_outside test quote at [] = None
first_outside test quote at (b ∷ bs) =
    if is_outside quote && test b then Some at else first_outside test (quote_after quote b) (at + 1) bs
