-- What acts say of the documents that were opened.
use Rattle.std.specs.Prelude.{◌≡◌, ℕ, ◌+◌, Bool, true, false, ◌==◌, nat_lt, ◌||◌, if◌then◌else◌, List, [], ◌∷◌, Option, Some, None}
use Rattle.stx_host.specs.declared.act.Act.{Act}
use Rattle.stx_host.specs.declared.act.Act.TheVariants.{Open, Read, Write}

-- the places of the documents that acts opened, in order; none for an absent name
abbrev pub opens : List Act → List (Option ℕ)
opens [] = []
opens (Open doc id ∷ acts) = doc ∷ opens acts
opens (act ∷ acts) = opens acts

-- the act is a write
abbrev pub is_write : Act → Bool
is_write (Write lane len) = true
is_write act = false

-- the act is a read that got more than 4,096 bytes
abbrev pub is_long_read : Act → Bool
is_long_read (Read id got) = nat_lt 4096 got
is_long_read act = false

-- how many bytes of an id were read since it was given last, where so many were before these acts: an id may be given again
abbrev pub read_behind : (before id : ℕ) → List Act → ℕ
read_behind before id [] = before
read_behind before id (Open doc k ∷ acts) = read_behind (if k == id then 0 else before) id acts
read_behind before id (Read k got ∷ acts) = read_behind (if k == id then before + got else before) id acts
read_behind before id (act ∷ acts) = read_behind before id acts

abbrev pub read_since_open : (id : ℕ) → List Act → ℕ
read_since_open id acts = read_behind 0 id acts

-- the place of the document that an id was given for last, if it was given, where this was said before these acts
abbrev pub given_behind : (before : Option (Option ℕ)) → (id : ℕ) → List Act → Option (Option ℕ)
given_behind before id [] = before
given_behind before id (Open doc k ∷ acts) = given_behind (if k == id then Some doc else before) id acts
given_behind before id (act ∷ acts) = given_behind before id acts

abbrev pub given_for : (id : ℕ) → List Act → Option (Option ℕ)
given_for id acts = given_behind None id acts

-- whether an id is read before it is given again
abbrev pub is_read_on : (id : ℕ) → List Act → Bool
is_read_on id [] = false
is_read_on id (Open doc k ∷ acts) = if k == id then false else is_read_on id acts
is_read_on id (Read k got ∷ acts) = (k == id) || is_read_on id acts
is_read_on id (act ∷ acts) = is_read_on id acts

-- Nothing is read behind an end: an id of which a read got nothing isn't read again before it is given again.
abbrev pub NoneBehindEnd : List Act → Type 0
NoneBehindEnd [] = Unit {0}
NoneBehindEnd (Read id got ∷ acts) = (got ≡ 0 → is_read_on id acts ≡ false) × NoneBehindEnd acts
NoneBehindEnd (act ∷ acts) = NoneBehindEnd acts
