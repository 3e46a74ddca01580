-- Groups within groups, and what is found in them.
use Rattle.std.specs.Prelude.{◌≡◌, ℕ, zero, suc, ◌==◌, false, List, [], ◌∷◌, Option, Some, None, length, slice_get, AllPairs, Any, IsTrue}
use Rattle.std.specs.List.{list_any}
use Rattle.std.specs.Option.{option_and_then}
use Rattle.stx_base.specs.declared.name.Name.{Name}
use Rattle.sheet_model.specs.Names.{Mention, GroupNamed, ProcedureNamed, BufferNamed, VariableNamed, LocalDeclared, ParamsNamed, is_among, is_same}
use Rattle.sheet_model.specs.declared.sheet.Group.{Group}
use Rattle.sheet_model.specs.declared.sheet.Sheet.{Sheet}
use Rattle.sheet_model.specs.declared.sheet.Variable.{Variable}

abbrev pub parent_of : List Group → ℕ → Option ℕ
parent_of groups g = option_and_then (λ (x : Group). x.parent) (slice_get groups g)

abbrev pub around_parent : (outer : ℕ → List ℕ) → Option ℕ → List ℕ
around_parent outer None = []
around_parent outer (Some p) = outer p

-- a group and so many of those around it, the innermost first
abbrev pub around_within : List Group → (levels : ℕ) → (group : ℕ) → List ℕ
around_within groups zero g = g ∷ []
around_within groups (suc n) g = g ∷ around_parent (around_within groups n) (parent_of groups g)

-- a group and all around it, the innermost first
abbrev pub around : List Group → (group : ℕ) → List ℕ
around groups g = around_within groups (length groups) g

-- one group stands within another, or is it
abbrev pub Encloses : List Group → (outer inner : ℕ) → Type 0
Encloses groups outer inner = IsTrue (list_any (λ g. g == outer) (around groups inner))

-- what is declared in a group, by a name, is found from a group within it
abbrev pub Finds : Sheet → (from : ℕ) → Name → (group : ℕ) → (declared : Name) → Type 0
Finds sheet from name group declared = Encloses sheet.groups group from × IsTrue (is_same declared name)

abbrev pub IsNamed : Name → Option Name → Type 0
IsNamed name None = ⊥
IsNamed name (Some n) = IsTrue (is_same n name)

abbrev pub HasVariable : Sheet → List Variable → (from : ℕ) → Name → Type 0
HasVariable sheet among from name = Any (λ v. Finds sheet from name v.group v.name) among

-- what a name that is said in a group leads to is there
abbrev pub IsFound : Sheet → (from : ℕ) → Mention → Type 0
IsFound sheet from (GroupNamed n) = Any (λ g. IsNamed n g.name) sheet.groups
IsFound sheet from (ProcedureNamed n) = Any (λ p. Finds sheet from n p.group p.name) sheet.procedures
IsFound sheet from (BufferNamed n) = Any (λ b. Finds sheet from n b.group b.name) sheet.buffers
IsFound sheet from (VariableNamed n) = HasVariable sheet sheet.variables from n
IsFound sheet from (LocalDeclared n in_scope) = Unit {0}
IsFound sheet from (ParamsNamed names) = Unit {0}

abbrev pub AreDistinct : List Name → Type 0
AreDistinct names = AllPairs (λ m n. is_same m n ≡ false) names

-- a name that is declared in a body isn't there already
abbrev pub IsNew : Mention → Type 0
IsNew (LocalDeclared n in_scope) = is_among in_scope n ≡ false
IsNew (ParamsNamed names) = AreDistinct names
IsNew m = Unit {0}

-- no two that are declared in one group have one name
abbrev pub AreApart : {A : Type 0} → (A → ℕ) → (A → Name) → List A → Type 0
AreApart group name xs = AllPairs (λ x y. group x ≡ group y → is_same (name x) (name y) ≡ false) xs
