-- Attributes that are found by their names.
use Rattle.std.specs.Prelude.{◌≡◌, ◌<◌, ℕ, suc, Bool, ◌&&◌, if◌then◌else◌, List, [], ◌∷◌, Option, Some, None, String, bytes_eq, drop, encode_utf8_all, length, map, slice_get, slice_set, string_bytes}
use Rattle.std.specs.BTreeMap.{get}
use Rattle.std.specs.Cmp.Lexicographic.{slice_cmp}
use Rattle.std.specs.Ordering.{nat_cmp, ordering_then}
use Rattle.std.specs.declared.cmp.Ordering.{Ordering}
use Rattle.stx_base.specs.declared.name.Attr.{Attr}
use Rattle.stx_base.specs.declared.name.Name.{Name}
use Rattle.result_writer.specs.Target.{same_name, with_attribute}
use Rattle.result_writer.specs.declared.attributes.Attributes.TheInside.{Inside}

-- the expanded name is spelled with these bytes
abbrev pub is_spelled : (uri local : List ℕ) → Name → Bool
is_spelled uri local n = bytes_eq uri (encode_utf8_all n.uri) && bytes_eq local (encode_utf8_all n.local)

-- where the first such name stands, where the first of all stands at place n
abbrev pub place_of : (n : ℕ) → List Name → (uri local : List ℕ) → Option ℕ
place_of n [] uri local = None
place_of n (name ∷ others) uri local = if is_spelled uri local name then Some n else place_of (suc n) others uri local

-- names are in order by their URIs, and then by their local parts
abbrev pub by_bytes : {Y : Type 0} → String Y × String Y → String Y × String Y → Ordering
by_bytes p q = ordering_then (slice_cmp nat_cmp (string_bytes p.0) (string_bytes q.0)) (slice_cmp nat_cmp (string_bytes p.1) (string_bytes q.1))

-- the attributes behind the first few are found
pub record IsIndexed (s : Inside) : Type 0 where
  pub places : (q : _) → get by_bytes s.places q ≡ place_of 16 (drop 16 (map (λ a. a.name) s.list)) (string_bytes q.0) (string_bytes q.1)

-- the value of the attribute of the name, where there is one
abbrev pub value_of : List Attr → Name → Option (List ℕ)
value_of [] name = None
value_of (a ∷ attrs) name = if same_name a.name name then Some a.value else value_of attrs name

-- the first attribute of the name stands at this place
abbrev pub IsFirst : List Attr → Name → ℕ → Type 0
IsFirst attrs name at =
    (at < length attrs) × ((value : List ℕ) (a : Attr) → slice_get attrs at ≡ Some a → with_attribute attrs name value ≡ slice_set attrs at (record a { value = value }))
