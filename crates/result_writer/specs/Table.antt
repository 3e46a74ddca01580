-- The prefixes of a start tag, and what is declared in it (Namespaces in XML 1.0, 3, 5 and 6).
use Rattle.std.specs.Prelude.{◌≡◌, ◌<◌, ◌≤◌, ℕ, zero, suc, ◌+◌, Bool, true, false, ◌&&◌, ◌||◌, not, if◌then◌else◌, List, [], ◌∷◌, ◌++◌, codes, length, filter, encode_utf8_all}
use Rattle.std.specs.Cmp.Lexicographic.{slice_cmp}
use Rattle.std.specs.Fmt.{decimal}
use Rattle.std.specs.List.{list_any}
use Rattle.std.specs.Ordering.{is_lt, nat_cmp}
use Rattle.stx_base.specs.declared.name.Attr.{Attr}
use Rattle.stx_base.specs.declared.name.Binding.{Binding}
use Rattle.stx_base.specs.declared.name.Name.{Name}
use Rattle.result_writer.specs.Allowed.{is_empty, is_word, same}

-- The table of a tag has a URI for each prefix that it uses.

abbrev pub has_prefix : List Binding → List ℕ → Bool
has_prefix table prefix = list_any (λ b. same b.prefix prefix) table

-- no prefix has two bindings
abbrev pub AreApart : List Binding → Type 0
AreApart [] = Unit {0}
AreApart (b ∷ bs) = (has_prefix bs b.prefix ≡ false) × AreApart bs

-- the table has the prefix with another URI
abbrev pub is_taken : List Binding → Name → Bool
is_taken table n = list_any (λ b. same b.prefix n.prefix && not (same b.uri n.uri)) table

-- a prefix that is there already keeps its URI
abbrev pub entered : List Binding → (prefix uri : List ℕ) → List Binding
entered table prefix uri = if has_prefix table prefix then table else table ++ record { prefix = prefix; uri = uri } ∷ []

-- ns0, ns1, ns2 and so on
abbrev pub numbered : ℕ → List ℕ
numbered k = codes "ns" ++ decimal k

-- the first of these from the k-th on that the table doesn't have, or the one after the next n
abbrev pub free_from : List Binding → (k n : ℕ) → List ℕ
free_from table k zero = numbered k
free_from table k (suc n) = if has_prefix table (numbered k) then free_from table (k + 1) n else numbered k

-- the first of these that the table doesn't have: it has at most as many as entries
abbrev pub free_prefix : List Binding → List ℕ
free_prefix table = free_from table 0 (length table)

-- the first n of these are in the table, which has as many entries
pub record HasPassed (table : List Binding) (n : ℕ) : Type 0 where
  pub within : n ≤ length table
  pub there : (k : ℕ) → k < n → has_prefix table (numbered k) ≡ true

-- the prefix that an attribute is written with: its own one, where it has one that isn't taken. No default namespace
-- applies to attributes
abbrev pub attribute_prefix : List Binding → Name → List ℕ
attribute_prefix table n =
    if is_empty n.uri || (not (is_empty n.prefix) && not (is_taken table n)) then n.prefix else free_prefix table

abbrev pub with_name : List Binding → Name → List Binding
with_name table n = if is_empty n.uri then table else entered table (attribute_prefix table n) n.uri

-- the attributes' prefixes, each chosen beside those before it
abbrev pub prefixes : List Binding → List Attr → List (List ℕ)
prefixes table [] = []
prefixes table (a ∷ attrs) = attribute_prefix table a.name ∷ prefixes (with_name table a.name) attrs

abbrev pub with_attributes : List Binding → List Attr → List Binding
with_attributes table [] = table
with_attributes table (a ∷ attrs) = with_attributes (with_name table a.name) attrs

-- bindings in force where the element comes from; one that takes the default namespace away declares nothing
abbrev pub with_scope : List Binding → List Binding → List Binding
with_scope table [] = table
with_scope table (b ∷ scope) = with_scope (if is_empty b.uri then table else entered table b.prefix b.uri) scope

-- the element's name is entered first
abbrev pub with_element : Name → List Binding
with_element n = record { prefix = n.prefix; uri = n.uri } ∷ []

-- What is declared.

-- the URI of the last binding of a prefix; empty where there is none
abbrev pub bound_from : List ℕ → List Binding → List ℕ → List ℕ
bound_from uri [] prefix = uri
bound_from uri (b ∷ bs) prefix = bound_from (if same b.prefix prefix then b.uri else uri) bs prefix

abbrev pub bound : List Binding → List ℕ → List ℕ
bound = bound_from []

-- it isn't in force already; `xml` always is
abbrev pub is_new : (in_force : List Binding) → Binding → Bool
is_new in_force b = not (is_word b.prefix (codes "xml")) && not (same (bound in_force b.prefix) b.uri)

-- by the bytes of their UTF-8, whose order is that of their characters; the empty prefix is before all others
abbrev pub precedes : List ℕ → List ℕ → Bool
precedes p q = is_lt (slice_cmp nat_cmp (encode_utf8_all p) (encode_utf8_all q))

abbrev pub placed : Binding → List Binding → List Binding
placed b [] = b ∷ []
placed b (c ∷ cs) = if precedes b.prefix c.prefix then b ∷ c ∷ cs else c ∷ placed b cs

-- bindings by their prefixes, put one after the other among those that are in order already
abbrev pub in_order : (sorted : List Binding) → List Binding → List Binding
in_order sorted [] = sorted
in_order sorted (b ∷ bs) = in_order (placed b sorted) bs

-- the entries of the table that differ from what is in force, by their prefixes
abbrev pub declarations : (in_force table : List Binding) → List Binding
declarations in_force table = in_order [] (filter (is_new in_force) table)
