-- Names by their keys.
use Rattle.std.proofs.Common.{◌≡◌, ℕ, Bool, true, false, ◌&&◌, ◌||◌, ◌==◌, List, [], ◌∷◌, ◌++◌, map, encode_utf8_all, string_bytes, refl, ap, sym, ◌∙◌}
use Rattle.std.proofs.lemmas.List.{map-append}
use Rattle.std.proofs.lemmas.Slice.Eq.{bytes_eq-Decides}
use Rattle.std.proofs.lemmas.Str.{chars-nil, encodes-chars, IsUtf8-string_bytes}
use Rattle.std.specs.List.{list_any}
use Rattle.std.specs.Prelude.{bytes_eq, if◌then◌else◌}
use Rattle.std.specs.Str.{chars, IsUtf8}
use Rattle.indexmap.specs.IndexSet.{insert_key}
use Rattle.stx_base.specs.declared.name.Name.{Name}
use Rattle.xml_names.proofs.Texts.{same-sym}
use Rattle.sheet_model.specs.Names.{is_among, is_same}
use Rattle.sheet_loader.specs.Keys.{has_own, name_of, own_of, with_name, with_own}
use Rattle.sheet_loader.specs.Making.{nameless}
use Rattle.sheet_loader.specs.contracts.declared.OwnPartialEq.TheImpl as own_eq
use Rattle.sheet_loader.specs.contracts.names.ExpandedPartialEq.TheImpl as expanded_eq
use Rattle.sheet_loader.specs.declared.declared.Own.{Own}
use Rattle.sheet_loader.specs.declared.names.Expanded.{Expanded}
use Rattle.sheet_loader.proofs.SeenLemmas.{by_turns, eq_turns}

abbrev same_key : Expanded → Expanded → Bool
same_key = (expanded_eq.ghosts).eq

abbrev same_own : Own → Own → Bool
same_own = (own_eq.ghosts).eq

-- texts agree where their bytes do
pub chars_alike : (a b : List ℕ) → IsUtf8 a → IsUtf8 b → bytes_eq a b ≡ bytes_eq (chars b) (chars a)
chars_alike a b u v =
    by_turns (bytes_eq a b) (bytes_eq (chars b) (chars a))
    (λ h. (bytes_eq-Decides (chars b) (chars a)).1 (ap chars (sym ((bytes_eq-Decides a b).0 h))))
    (λ h. (bytes_eq-Decides a b).1 (sym (encodes-chars a u) ∙ ap encode_utf8_all (sym ((bytes_eq-Decides (chars b) (chars a)).0 h)) ∙ encodes-chars b v))

key-same : (e k : Expanded) → same_key e k ≡ is_same (name_of k) (name_of e)
key-same e k =
    ap (λ t. t && bytes_eq (string_bytes e.local) (string_bytes k.local))
    (chars_alike (string_bytes e.uri) (string_bytes k.uri) (IsUtf8-string_bytes e.uri) (IsUtf8-string_bytes k.uri))
    ∙ ap (λ t. bytes_eq (chars (string_bytes k.uri)) (chars (string_bytes e.uri)) && t)
    (chars_alike (string_bytes e.local) (string_bytes k.local) (IsUtf8-string_bytes e.local) (IsUtf8-string_bytes k.local))

-- a set has a key where its names have the name
pub any_key : (e : Expanded) (keys : List Expanded) → list_any (same_key e) keys ≡ is_among (map name_of keys) (name_of e)
any_key e [] = refl
any_key e (k ∷ keys) =
    ap (λ t. t || list_any (same_key e) keys) (key-same e k) ∙ ap (λ t. is_same (name_of k) (name_of e) || t) (any_key e keys)

inserted : (e : Expanded) (keys : List Expanded) (t : Bool) → map name_of (if t then keys else keys ++ e ∷ []) ≡ (if t then map name_of keys else map name_of keys ++ name_of e ∷ [])
inserted e keys true = refl
inserted e keys false = map-append name_of keys (e ∷ [])

-- one key more is one name more
pub insert-key : (e : Expanded) (keys : List Expanded) → map name_of (insert_key same_key keys e) ≡ with_name (map name_of keys) (name_of e)
insert-key e keys =
    inserted e keys (list_any (same_key e) keys)
    ∙ ap (λ t. if t then map name_of keys else map name_of keys ++ name_of e ∷ []) (any_key e keys)

own-same : (o k : Own) → same_own o k ≡ (k.group == o.group && is_same (name_of k.name) (name_of o.name))
own-same o k = ap (λ t. t && same_key o.name k.name) (eq_turns o.group k.group) ∙ ap (λ t. (k.group == o.group) && t) (key-same o.name k.name)

-- a table has a name in a group where its own names have it
pub any_own : (o : Own) (keys : List Own) → list_any (same_own o) keys ≡ has_own (map own_of keys) o.group (name_of o.name)
any_own o [] = refl
any_own o (k ∷ keys) =
    ap (λ t. t || list_any (same_own o) keys) (own-same o k)
    ∙ ap (λ t. (k.group == o.group && is_same (name_of k.name) (name_of o.name)) || t) (any_own o keys)

inserted_own : (o : Own) (keys : List Own) (t : Bool) → map own_of (if t then keys else keys ++ o ∷ []) ≡ (if t then map own_of keys else map own_of keys ++ own_of o ∷ [])
inserted_own o keys true = refl
inserted_own o keys false = map-append own_of keys (o ∷ [])

pub insert-own : (o : Own) (keys : List Own) → map own_of (insert_key same_own keys o) ≡ with_own (map own_of keys) (own_of o)
insert-own o keys =
    inserted_own o keys (list_any (same_own o) keys)
    ∙ ap (λ t. if t then map own_of keys else map own_of keys ++ own_of o ∷ []) (any_own o keys)

-- a name of empty texts
pub name-nil : (e : Expanded) → string_bytes e.uri ≡ [] → string_bytes e.local ≡ [] → name_of e ≡ nameless
name-nil e u l =
    ap (λ (t : List ℕ). let n : Name = record { uri = t; local = chars (string_bytes e.local); prefix = [] } in n) (ap chars u ∙ chars-nil)
    ∙ ap (λ (t : List ℕ). let n : Name = record { uri = []; local = t; prefix = [] } in n) (ap chars l ∙ chars-nil)

pub same-chars : (a b : List ℕ) → IsUtf8 a → IsUtf8 b → bytes_eq a b ≡ bytes_eq (chars a) (chars b)
same-chars a b u v = chars_alike a b u v ∙ same-sym (chars b) (chars a)
