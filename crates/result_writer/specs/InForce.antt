-- What the fields of the bindings in force mean.
use Rattle.std.specs.Prelude.{◌≡◌, ℕ, suc, List, [], ◌∷◌, ◌++◌, Option, Some, None, map, encode_utf8_all, if◌then◌else◌}
use Rattle.std.specs.BTreeMap.{get_by_text}
use Rattle.std.specs.Option.{option_or}
use Rattle.stx_base.specs.declared.name.Binding.{Binding}
use Rattle.result_writer.specs.Allowed.{same}
use Rattle.result_writer.specs.declared.in_force.Indexed.TheInside.{Inside}

abbrev pub bindings_of : Inside → List Binding
bindings_of s = map (λ e. e.binding) s.entries

-- where the last binding of the prefix stands, the first of all at place n
abbrev pub last_place : (n : ℕ) → List Binding → (prefix : List ℕ) → Option ℕ
last_place n [] prefix = None
last_place n (b ∷ others) prefix = option_or (last_place (suc n) others prefix) (if same b.prefix prefix then Some n else None)

-- for each binding the place of the one that it hides, behind those before
abbrev pub hidden_by : (before : List Binding) → List Binding → List (Option ℕ)
hidden_by before [] = []
hidden_by before (b ∷ others) = last_place 0 before b.prefix ∷ hidden_by (before ++ b ∷ []) others

-- the places are those of the last bindings, and each binding knows what it hides
pub record IsIndexed (s : Inside) : Type 0 where
  pub places : (prefix : List ℕ) → get_by_text s.places (encode_utf8_all prefix) ≡ last_place 0 (bindings_of s) prefix
  pub hidden : map (λ e. e.hidden) s.entries ≡ hidden_by [] (bindings_of s)
