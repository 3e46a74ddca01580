-- How often names came that are compared, and all names.
use Rattle.std.specs.Prelude.{◌≡◌, ℕ, ◌+◌, Bool, ◌&&◌, ◌==◌, if◌then◌else◌, List, bytes_eq, encode_utf8_all, length, min, sum_by}
use Rattle.node_stack.specs.Names.{again_of, elements_of, names_of}
use Rattle.node_stack.specs.Times.{times}
use Rattle.node_stack.specs.declared.names.Named.{Named}
use Rattle.node_stack.specs.declared.names.Names.{Names}

-- the namespace and the local part are spelled so, both in UTF-8
abbrev pub is_within : (uri : List ℕ) → Named → Bool
is_within uri n = bytes_eq (encode_utf8_all n.uri) uri

abbrev pub is_named : (uri local : List ℕ) → Named → Bool
is_named uri local n = bytes_eq (encode_utf8_all n.uri) uri && bytes_eq (encode_utf8_all n.local) local

-- how often a name came, if it is counted
abbrev pub came : Bool → Named → ℕ
came is_counted n = if is_counted then n.again + 1 else 0

abbrev pub few_times : List Named → (uri local : List ℕ) → ℕ
few_times few uri local = sum_by (λ n. came (is_named uri local n) n) few

abbrev pub few_within : List Named → (uri : List ℕ) → ℕ
few_within few uri = sum_by (λ n. came (is_within uri n) n) few

-- how often a name came
abbrev pub times_among : Names → (uri local : List ℕ) → ℕ
times_among s uri local = few_times s.few.items uri local + times (again_of s.many uri local)

-- how many elements a namespace has
abbrev pub elements_among : Names → (uri : List ℕ) → ℕ
elements_among s uri = few_within s.few.items uri + elements_of s.many uri

-- how many names there are
abbrev pub names_among : Names → ℕ
names_among s = length s.few.items + names_of s.many

-- the greatest position bounds what has to be told apart
abbrev pub told : ℕ → ℕ
told n = min 9223372036854775807 n

-- a name came once more, as far as positions tell
pub record CountsOne (old new : Names) (uri local : List ℕ) : Type 0 where
  pub counted : (cs ds : List ℕ)
      → told (times_among new cs ds) ≡ told (if bytes_eq uri cs && bytes_eq local ds then times_among old cs ds + 1 else times_among old cs ds)
  pub elements : (cs : List ℕ)
      → told (elements_among new cs) ≡ told (if bytes_eq uri cs then elements_among old cs + 1 else elements_among old cs)
  pub len : names_among new ≡ names_among old + (if times_among old uri local == 0 then 1 else 0)

-- the same names came as often
pub record SameCounts (old new : Names) : Type 0 where
  pub counted : (cs ds : List ℕ) → times_among new cs ds ≡ times_among old cs ds
  pub elements : (cs : List ℕ) → elements_among new cs ≡ elements_among old cs
  pub len : names_among new ≡ names_among old
