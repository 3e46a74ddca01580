-- What the fields of the declarations in force mean.
use Rattle.std.specs.Prelude.{◌≡◌, ℕ, suc, List, [], ◌∷◌, ◌++◌, Option, Some, None, map, encode_utf8_all, if◌then◌else◌}
use Rattle.std.specs.BTreeMap.{get_by_text}
use Rattle.std.specs.Option.{option_or}
use Rattle.stx_base.specs.declared.name.Binding.{Binding}
use Rattle.xml_names.specs.Scope.{same}
use Rattle.xml_names.specs.declared.in_force.InForce.TheInside.{Inside}

abbrev pub bindings_of : Inside → List Binding
bindings_of s = map (λ d. d.binding) s.declared

-- where the last declaration of the prefix stands, the first at place n
abbrev pub last_place : (n : ℕ) → List Binding → (prefix : List ℕ) → Option ℕ
last_place n [] prefix = None
last_place n (b ∷ others) prefix = option_or (last_place (suc n) others prefix) (if same b.prefix prefix then Some n else None)

-- for each declaration the place of the one that it hides, behind those before
abbrev pub hidden_by : (before : List Binding) → List Binding → List (Option ℕ)
hidden_by before [] = []
hidden_by before (b ∷ others) = last_place 0 before b.prefix ∷ hidden_by (before ++ b ∷ []) others

-- the places are those of the last declarations, and each declaration knows what it hides
pub record IsIndexed (s : Inside) : Type 0 where
  pub places : (prefix : List ℕ) → get_by_text s.places (encode_utf8_all prefix) ≡ last_place 0 (bindings_of s) prefix
  pub hidden : map (λ d. d.hidden) s.declared ≡ hidden_by [] (bindings_of s)
