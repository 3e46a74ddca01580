-- What a start tag says, and why one is refused (Namespaces in XML 1.0, 3 to 6).
use Rattle.std.specs.Prelude.{◌≡◌, ℕ, Bool, true, false, not, ◌&&◌, ◌||◌, List, [], ◌∷◌, ◌++◌, Option, Some, None, is_some, codes, if◌then◌else◌}
use Rattle.std.specs.List.{filter_map, list_all, list_any}
use Rattle.std.specs.Option.{option_map, option_map_or}
use Rattle.stx_base.specs.declared.fault.XmlKind.{XmlKind}
use Rattle.stx_base.specs.declared.fault.XmlKind.TheVariants as kind
use Rattle.stx_base.specs.declared.name.Attr.{Attr}
use Rattle.stx_base.specs.declared.name.Binding.{Binding}
use Rattle.xml_tokens.specs.declared.lexeme.RawAttr.{RawAttr}
use Rattle.xml_names.specs.QName.{prefix_of, local_of, is_qname}
use Rattle.xml_names.specs.Scope.{same, is_empty, xml_uri, xmlns_uri, bound, element_name, attribute_name}
use Rattle.xml_names.specs.declared.resolved.NameFault.{NameFault}
use Rattle.xml_names.specs.declared.resolved.NameFault.TheVariants.{Xml, Memory}
use Rattle.xml_names.specs.declared.resolved.Resolved.{Resolved}

-- the prefix that an attribute of this name declares: the empty one for `xmlns`, p for `xmlns:p`, none for another name
abbrev pub declared_prefix : (name : List ℕ) → Option (List ℕ)
declared_prefix name =
    if same name (codes "xmlns") then Some []
    else if same (prefix_of name) (codes "xmlns") then Some (local_of name)
    else None

abbrev pub declaration : RawAttr → Option Binding
declaration a = option_map (λ prefix. record { prefix = prefix; uri = a.value }) (declared_prefix a.name)

-- the declarations of a tag, in its order
abbrev pub declarations : List RawAttr → List Binding
declarations attrs = filter_map declaration attrs

-- the path into an element
abbrev pub into : (path : List (List Binding)) → List RawAttr → List (List Binding)
into path attrs = path ++ declarations attrs ∷ []

-- an attribute that is no declaration
abbrev pub attribute : (path : List (List Binding)) → RawAttr → Option Attr
attribute path a = if is_some (declared_prefix a.name) then None else Some (record { name = attribute_name path a.name; value = a.value })

-- those of a tag, in its order
abbrev pub attributes : (path : List (List Binding)) → List RawAttr → List Attr
attributes path attrs = filter_map (attribute path) attrs

-- The four refusals, the last two on the path into the element.

-- a name isn't a QName (Namespaces in XML 1.0, 4)
abbrev pub has_bad_name : (name : List ℕ) → List RawAttr → Bool
has_bad_name name attrs = not (is_qname name && list_all (λ a. is_qname a.name) attrs)

-- both hold, or neither does
abbrev pub agree : Bool → Bool → Bool
agree true b = b
agree false b = not b

-- `xmlns` isn't declared, `xml` and its namespace only stand together, the namespace of `xmlns` isn't bound, and no prefix
-- is taken away (Namespaces in XML 1.0, 3 and 5)
abbrev pub is_good_binding : (prefix uri : List ℕ) → Bool
is_good_binding prefix uri =
    not (same prefix (codes "xmlns"))
    && agree (same prefix (codes "xml")) (same uri xml_uri)
    && not (same uri xmlns_uri)
    && (is_empty prefix || not (is_empty uri))

abbrev pub is_bad_binding : RawAttr → Bool
is_bad_binding a = option_map_or (λ prefix. not (is_good_binding prefix a.value)) (declared_prefix a.name) false

abbrev pub has_bad_binding : List RawAttr → Bool
has_bad_binding attrs = list_any is_bad_binding attrs

-- a prefix that a name has is bound (Namespaces in XML 1.0, 5)
abbrev pub is_prefix_bound : (path : List (List Binding)) → (prefix : List ℕ) → Bool
is_prefix_bound path prefix = is_empty prefix || is_some (bound path prefix)

-- no element has the prefix `xmlns` (Namespaces in XML 1.0, 3)
abbrev pub is_element_bound : (path : List (List Binding)) → (name : List ℕ) → Bool
is_element_bound path name = not (same (prefix_of name) (codes "xmlns")) && is_prefix_bound path (prefix_of name)

abbrev pub is_attribute_bound : (path : List (List Binding)) → (name : List ℕ) → Bool
is_attribute_bound path name = is_some (declared_prefix name) || is_prefix_bound path (prefix_of name)

abbrev pub has_undeclared_prefix : (path : List (List Binding)) → (name : List ℕ) → List RawAttr → Bool
has_undeclared_prefix path name attrs = not (is_element_bound path name && list_all (λ a. is_attribute_bound path a.name) attrs)

-- some two items are alike
abbrev pub has_twins : {X : Type 0} → (X → X → Bool) → List X → Bool
has_twins alike [] = false
has_twins alike (x ∷ others) = list_any (alike x) others || has_twins alike others

-- two attributes have one name as written
abbrev pub same_written : RawAttr → RawAttr → Bool
same_written a b = same a.name b.name

-- two attributes have one expanded name: one URI and one local part
abbrev pub same_expanded : Attr → Attr → Bool
same_expanded a b = same a.name.uri b.name.uri && same a.name.local b.name.local

-- two attributes have one name (XML 1.0, 3.1; Namespaces in XML 1.0, 6.3)
abbrev pub has_duplicate : (path : List (List Binding)) → List RawAttr → Bool
has_duplicate path attrs = has_twins same_written attrs || has_twins same_expanded (attributes path attrs)

-- the first fault that has to do with what is bound
abbrev pub scope_fault : (path : List (List Binding)) → (name : List ℕ) → List RawAttr → Option XmlKind
scope_fault path name attrs =
    if has_undeclared_prefix path name attrs then Some kind.UndeclaredPrefix
    else if has_duplicate path attrs then Some kind.DuplicateAttribute
    else None

-- the first fault of a tag below the path
abbrev pub name_fault : (path : List (List Binding)) → (name : List ℕ) → List RawAttr → Option XmlKind
name_fault path name attrs =
    if has_bad_name name attrs then Some kind.BadName
    else if has_bad_binding attrs then Some kind.BadBinding
    else scope_fault (into path attrs) name attrs

-- what a tag says on the path into its element, where it declares these
abbrev pub said : (path : List (List Binding)) → (name : List ℕ) → List RawAttr → (decls : List Binding) → Resolved
said path name attrs decls = record { name = element_name path name; attrs = attributes path attrs; decls = decls }

-- what a tag without a fault says below the path
abbrev pub resolved : (path : List (List Binding)) → (name : List ℕ) → List RawAttr → Resolved
resolved path name attrs = said (into path attrs) name attrs (declarations attrs)

-- a refusal is for the fault that there is, or for want of memory, which no fault tells
abbrev pub IsCause : Option XmlKind → NameFault → Type 0
IsCause found (Xml kind) = found ≡ Some kind
IsCause found Memory = Unit {0}
