-- What is made of the characters of texts.
use Rattle.std.specs.Prelude.{ℕ, ◌-◌, not, nat_lt, ◌==◌, List, [], ◌∷◌, filter, flat_map, position, slice_get, Option, Some, None, option_to_list, if◌then◌else◌}
use Rattle.std.specs.List.{slice_split, join_by}
use Rattle.stx_base.specs.Character.{is_space}
use Rattle.stxpath_values.specs.Conversion.{is_empty}

-- texts in a row, with one between each two
abbrev pub joined : List ℕ → List (List ℕ) → List ℕ
joined separator texts = join_by (λ cs. cs) separator texts

-- the room that is left, none where there is less than that
abbrev pub less : Option ℕ → ℕ → Option ℕ
less None len = None
less (Some room) len = if nat_lt room len then None else Some (room - len)

-- the words of a text: what stands between its white space
abbrev pub words : List ℕ → List (List ℕ)
words cs = filter (λ word. not (is_empty word)) (slice_split is_space cs)

-- the words, with one space between each two
abbrev pub normalized : List ℕ → List ℕ
normalized cs = joined (32 ∷ []) (words cs)

-- a character at a place becomes what the text has there, if it is that long; without a place it stays
abbrev pub becomes : Option ℕ → List ℕ → ℕ → Option ℕ
becomes None to c = Some c
becomes (Some i) to c = slice_get to i

-- what becomes of a character at its first place in the one text, by the other text
abbrev pub translated : List ℕ → List ℕ → ℕ → List ℕ
translated from to c = option_to_list (becomes (position (λ d. d == c) from) to c)

-- a text with each character translated
abbrev pub translation : List ℕ → List ℕ → List ℕ → List ℕ
translation from to cs = flat_map (translated from to) cs
