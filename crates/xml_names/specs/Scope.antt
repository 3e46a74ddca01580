-- What prefixes are bound to (Namespaces in XML 1.0, 3 and 6).
use Rattle.std.specs.Prelude.{ℕ, Bool, true, false, List, [], ◌∷◌, Option, Some, None, codes, bytes_eq, unwrap_or, if◌then◌else◌}
use Rattle.std.specs.List.{flat_map}
use Rattle.std.specs.Option.{option_or}
use Rattle.stx_base.specs.declared.name.Binding.{Binding}
use Rattle.stx_base.specs.declared.name.Name.{Name}
use Rattle.xml_names.specs.QName.{prefix_of, local_of}

-- two texts are the same
abbrev pub same : List ℕ → List ℕ → Bool
same a b = bytes_eq a b

abbrev pub is_empty : List ℕ → Bool
is_empty [] = true
is_empty (c ∷ cs) = false

-- the namespace of the prefix `xml`
abbrev pub xml_uri : List ℕ
xml_uri = codes "http://www.w3.org/XML/1998/namespace"

-- the namespace of the prefix `xmlns`
abbrev pub xmlns_uri : List ℕ
xmlns_uri = codes "http://www.w3.org/2000/xmlns/"

-- the URI of the last of these declarations that is of the prefix
abbrev pub last_uri : List Binding → (prefix : List ℕ) → Option (List ℕ)
last_uri [] prefix = None
last_uri (b ∷ others) prefix = option_or (last_uri others prefix) (if same b.prefix prefix then Some b.uri else None)

-- the declarations of a path's elements, the outermost first, each in its tag's order
abbrev pub declared_on : (path : List (List Binding)) → List Binding
declared_on path = flat_map (λ tag. tag) path

-- an empty URI takes the default namespace away (Namespaces in XML 1.0, 6.2)
abbrev pub unless_empty : Option (List ℕ) → Option (List ℕ)
unless_empty None = None
unless_empty (Some uri) = if is_empty uri then None else Some uri

-- The URI that a prefix is bound to, and the empty prefix that of the default namespace: that of the nearest declaration.
-- `xml` is bound without one (Namespaces in XML 1.0, 3).
abbrev pub bound : (path : List (List Binding)) → (prefix : List ℕ) → Option (List ℕ)
bound path prefix = if same prefix (codes "xml") then Some xml_uri else unless_empty (last_uri (declared_on path) prefix)

-- the expanded name of an element: without a prefix it is in the default namespace (Namespaces in XML 1.0, 6.2)
abbrev pub element_name : (path : List (List Binding)) → (name : List ℕ) → Name
element_name path name = record { uri = unwrap_or (bound path (prefix_of name)) []; local = local_of name; prefix = prefix_of name }

-- the namespace of an attribute: without a prefix it is in none (Namespaces in XML 1.0, 6.2)
abbrev pub attribute_uri : (path : List (List Binding)) → (prefix : List ℕ) → List ℕ
attribute_uri path prefix = if is_empty prefix then [] else unwrap_or (bound path prefix) []

abbrev pub attribute_name : (path : List (List Binding)) → (name : List ℕ) → Name
attribute_name path name = record { uri = attribute_uri path (prefix_of name); local = local_of name; prefix = prefix_of name }
