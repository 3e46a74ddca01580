-- How often names came that are found by a map, by namespace.
use Rattle.std.specs.Prelude.{◌≡◌, ℕ, ◌+◌, ◌&&◌, if◌then◌else◌, List, Option, sum_by}
use Rattle.std.specs.BTreeMap.{BTreeMap, get_by_text, btree_map_len, values}
use Rattle.std.specs.Option.{is_none, option_and_then, option_map_or}
use Rattle.std.specs.Str.{bytes_eq}
use Rattle.std.specs.declared.alloc.Global.{Global}
use Rattle.std.specs.declared.string.String.{String}
use Rattle.node_stack.specs.Times.{more, once_more}
use Rattle.node_stack.specs.declared.names.Namespace.{Namespace}

abbrev pub Namespaces : Type 0
Namespaces = BTreeMap (String Global) Namespace

-- how often a local part came again in a namespace, both in UTF-8
abbrev pub again_of : Namespaces → (uri local : List ℕ) → Option ℕ
again_of m uri local = option_and_then (λ n. get_by_text n.names local) (get_by_text m uri)

-- how many elements a namespace has
abbrev pub elements_of : Namespaces → (uri : List ℕ) → ℕ
elements_of m uri = option_map_or (λ n. n.elements) (get_by_text m uri) 0

-- how many names all namespaces have
abbrev pub names_of : Namespaces → ℕ
names_of m = sum_by (λ n. btree_map_len n.names) (values m)

-- a name came once more
pub record CountsName (old new : Namespaces) (uri local : List ℕ) : Type 0 where
  pub counted : (cs ds : List ℕ) → again_of new cs ds ≡ (if bytes_eq uri cs && bytes_eq local ds then once_more (again_of old cs ds) else again_of old cs ds)
  pub elements : (cs : List ℕ) → elements_of new cs ≡ (if bytes_eq uri cs then more (elements_of old cs) else elements_of old cs)
  pub len : names_of new ≡ names_of old + (if is_none (again_of old uri local) then 1 else 0)

-- the same names came as often
pub record SameNames (old new : Namespaces) : Type 0 where
  pub counted : (cs ds : List ℕ) → again_of new cs ds ≡ again_of old cs ds
  pub elements : (cs : List ℕ) → elements_of new cs ≡ elements_of old cs
  pub len : names_of new ≡ names_of old
