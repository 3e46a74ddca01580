-- Qualified names (Namespaces in XML 1.0, 4).
use Rattle.std.specs.Prelude.{◌≡◌, ◌⊎◌, ℕ, Bool, true, not, ◌&&◌, ◌||◌, ◌==◌, List, [], ◌∷◌, ◌++◌, if◌then◌else◌}
use Rattle.std.specs.List.{list_any, before_first, after_first}
use Rattle.stx_base.specs.Character.{is_ncname}

abbrev pub is_colon : ℕ → Bool
is_colon c = c == 0x3A

abbrev pub has_colon : List ℕ → Bool
has_colon name = list_any is_colon name

-- what stands before the first colon; empty where there is none
abbrev pub prefix_of : List ℕ → List ℕ
prefix_of name = if has_colon name then before_first is_colon name else []

-- what stands behind it; the whole name where there is none
abbrev pub local_of : List ℕ → List ℕ
local_of name = if has_colon name then after_first is_colon name else name

-- an NCName, or two with a colon between them
abbrev pub is_qname : List ℕ → Bool
is_qname name = (not (has_colon name) || is_ncname (prefix_of name)) && is_ncname (local_of name)

-- QName: a local part alone, or a prefix, a colon and a local part (Namespaces in XML 1.0, 4)
abbrev pub IsQName : (name prefix local : List ℕ) → Type 0
IsQName name prefix local =
    (is_ncname local ≡ true) × (((prefix ≡ []) × (name ≡ local)) ⊎ ((is_ncname prefix ≡ true) × (name ≡ prefix ++ 0x3A ∷ local)))
