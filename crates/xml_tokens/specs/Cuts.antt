-- A document cut into shapes.
use Rattle.std.specs.Prelude.{◌≡◌, ℕ, Bool, false, List, [], ◌∷◌, ◌++◌, Some, None, length}
use Rattle.std.specs.List.{flat_map}
use Rattle.xml_tokens.specs.Shape.{shape_len}

-- a whole shape, where these bytes follow it
abbrev pub IsWhole : Bool → List ℕ → List ℕ → Type 0
IsWhole ended shape more = shape_len ended (shape ++ more) ≡ Some (length shape)

-- the bytes are these shapes, each of them whole, and a rest that begins no whole shape
abbrev pub Cuts : Bool → List ℕ → List (List ℕ) → List ℕ → Type 0
Cuts ended bytes [] rest = (bytes ≡ rest) × (shape_len ended rest ≡ None)
Cuts ended bytes (shape ∷ shapes) rest = (more : List ℕ) × (bytes ≡ shape ++ more) × IsWhole ended shape more × Cuts ended more shapes rest

-- the shapes joined
abbrev pub joined : List (List ℕ) → List ℕ
joined = flat_map (λ shape. shape)

-- the shapes joined and then the rest are the bytes
abbrev pub JoinedAgain : Type 0
JoinedAgain = (ended : Bool) (bytes : List ℕ) (shapes : List (List ℕ)) (rest : List ℕ) → Cuts ended bytes shapes rest → joined shapes ++ rest ≡ bytes

-- no front of the rest is a whole shape, whatever follows it
abbrev pub RestUnended : Type 0
RestUnended = (ended : Bool) (bytes : List ℕ) (shapes : List (List ℕ)) (rest front more : List ℕ) → Cuts ended bytes shapes rest → rest ≡ front ++ more → shape_len false front ≡ None

-- all bytes can be cut so
abbrev pub SomeCut : Type 0
SomeCut = (ended : Bool) (bytes : List ℕ) → (shapes : List (List ℕ)) × (rest : List ℕ) × Cuts ended bytes shapes rest

-- and in one way
abbrev pub OneCut : Type 0
OneCut = (ended : Bool) (bytes : List ℕ) (shapes others : List (List ℕ)) (rest other : List ℕ) → Cuts ended bytes shapes rest → Cuts ended bytes others other → (shapes ≡ others) × (rest ≡ other)
