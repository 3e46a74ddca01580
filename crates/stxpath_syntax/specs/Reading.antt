-- What a text is read as, or its first fault.
use Rattle.std.specs.Prelude.{◌≡◌, ℕ, ◌+◌, List, [], ◌∷◌, ◌++◌, Some, None, Result, Ok, Err, length}
use Rattle.stxpath_syntax.specs.declared.fault.PathKind.{PathKind}
use Rattle.stxpath_syntax.specs.declared.fault.PathKind.TheVariants as kind
use Rattle.stxpath_syntax.specs.declared.fault.PathFault.{PathFault}
use Rattle.stxpath_syntax.specs.declared.meant.Meant.{Meant}
use Rattle.stxpath_syntax.specs.declared.meant.Meant.TheVariants.{Fine, High, Bad}
use Rattle.stxpath_syntax.specs.declared.token.Placed.{Placed}
use Rattle.stxpath_syntax.specs.Tokens.{Tokens}

-- which tokens mean what
abbrev pub Readings : Type 0 → Type 1
Readings A = List Placed → Meant A → Type 0

-- some tokens that begin so have a reading
abbrev pub GoesOn : {A : Type 0} → Readings A → List Placed → Type 0
GoesOn {A} Means front = (rest : List Placed) × (meant : Meant A) × Means (front ++ rest) meant

abbrev pub StopsAt : {A : Type 0} → Readings A → ℕ → List Placed → List Placed → ℕ → Type 0
StopsAt {A} Means end front [] place = ((meant : Meant A) → ¬ Means front meant) × (place ≡ end)
StopsAt {A} Means end front (t ∷ rest) place = (¬ GoesOn Means (front ++ t ∷ [])) × (place ≡ t.at)

-- the place of the first token with which no reading goes on, or the end where the tokens alone have none
abbrev pub Stops : {A : Type 0} → Readings A → ℕ → List Placed → ℕ → Type 0
Stops Means end ts place = (front : List Placed) × (rest : List Placed) × (ts ≡ front ++ rest) × GoesOn Means front × StopsAt Means end front rest place

abbrev pub fault_of : {A : Type 0} → PathKind → ℕ → Result A PathFault
fault_of why place = Err (record { kind = why; place = place })

-- what a text that begins at a place is read as, or its first fault: of its tokens, of the grammar, of their meaning, of its height
pub data Gives {A : Type 0} (Means : Readings A) (at : ℕ) (text : List ℕ) : Result A PathFault → Type 0 where
  no_token : (ts : List Placed) (fault : PathFault) → Tokens at text ts (Some fault) → Gives Means at text (Err fault)
  no_reading : (ts : List Placed) (place : ℕ) → Tokens at text ts None → Stops Means (at + length text) ts place
      → Gives Means at text (fault_of kind.Syntax place)
  no_meaning : (ts : List Placed) (fault : PathFault) → Tokens at text ts None → Means ts (Bad fault) → Gives Means at text (Err fault)
  too_high : (ts : List Placed) → Tokens at text ts None → Means ts High → Gives Means at text (fault_of kind.TooDeep 0)
  read : (ts : List Placed) (a : A) (height : ℕ) → Tokens at text ts None → Means ts (Fine a height) → Gives Means at text (Ok a)
