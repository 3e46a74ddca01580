-- What laws of the definitions say.
use Rattle.std.specs.Prelude.{◌≡◌, ◌≢◌, ◌↔◌, ℕ, ◌<◌, Bool, true, false, not, List, [], ◌∷◌, ◌++◌, Some, None, codes, map, slice_get}
use Rattle.std.specs.List.{list_all, list_any}
use Rattle.stx_base.specs.declared.name.Attr.{Attr}
use Rattle.stx_base.specs.declared.name.Binding.{Binding}
use Rattle.xml_tokens.specs.declared.lexeme.RawAttr.{RawAttr}
use Rattle.xml_names.specs.QName.{prefix_of, local_of, is_qname, IsQName}
use Rattle.xml_names.specs.Scope.{same, xml_uri, xmlns_uri, bound, element_name}
use Rattle.xml_names.specs.Tag.{declarations, has_bad_binding, name_fault, resolved}

-- A name is a QName only where it is spelled as one.
abbrev pub QNamesAreSpelled : Type 0
QNamesAreSpelled = (name : List ℕ) → is_qname name ≡ true → IsQName name (prefix_of name) (local_of name)

-- What is spelled as a QName is one, and is taken apart in one way.
abbrev pub SpelledQNamesAreRead : Type 0
SpelledQNamesAreRead =
    (name prefix local : List ℕ) → IsQName name prefix local → (is_qname name ≡ true) × (prefix_of name ≡ prefix) × (local_of name ≡ local)

-- a tag declares a prefix
abbrev pub declares : (tag : List Binding) → (prefix : List ℕ) → Bool
declares tag prefix = list_any (λ b. same b.prefix prefix) tag

-- none of these tags does
abbrev pub AreSilent : (tags : List (List Binding)) → (prefix : List ℕ) → Type 0
AreSilent tags prefix = list_all (λ tag. not (declares tag prefix)) tags ≡ true

-- A prefix is bound to the URI of its nearest declaration, and so is the default namespace.
abbrev pub BindsNearest : Type 0
BindsNearest =
    (outer inner : List (List Binding)) (before behind : List Binding) (b : Binding)
    → declares behind b.prefix ≡ false
    → AreSilent inner b.prefix
    → b.prefix ≢ codes "xml"
    → b.uri ≢ []
    → bound (outer ++ (before ++ b ∷ behind) ∷ inner) b.prefix ≡ Some b.uri

-- Where the nearest declaration has no URI, there is no default namespace.
abbrev pub TakesAway : Type 0
TakesAway =
    (outer inner : List (List Binding)) (before behind : List Binding) (b : Binding)
    → declares behind b.prefix ≡ false
    → AreSilent inner b.prefix
    → b.prefix ≢ codes "xml"
    → b.uri ≡ []
    → bound (outer ++ (before ++ b ∷ behind) ∷ inner) b.prefix ≡ None

-- A prefix that isn't declared isn't bound.
abbrev pub BindsNothing : Type 0
BindsNothing = (path : List (List Binding)) (prefix : List ℕ) → AreSilent path prefix → prefix ≢ codes "xml" → bound path prefix ≡ None

-- no tag binds what may not be bound
abbrev pub AreGood : (tags : List (List RawAttr)) → Type 0
AreGood tags = list_any has_bad_binding tags ≡ false

-- But for `xml`, which always is bound, and to its namespace no other prefix.
abbrev pub BindsXml : Type 0
BindsXml = (tags : List (List RawAttr)) (prefix : List ℕ) → AreGood tags → (bound (map declarations tags) prefix ≡ Some xml_uri) ↔ (prefix ≡ codes "xml")

-- `xmlns` never is bound, nor any prefix to its namespace.
abbrev pub BindsNoXmlns : Type 0
BindsNoXmlns = (tags : List (List RawAttr)) (prefix : List ℕ) → AreGood tags → (bound (map declarations tags) (codes "xmlns") ≡ None) × (bound (map declarations tags) prefix ≢ Some xmlns_uri)

-- An element without a prefix has the namespace of the nearest default declaration, and none where that is empty.
abbrev pub DefaultsElements : Type 0
DefaultsElements =
    (outer inner : List (List Binding)) (before behind : List Binding) (b : Binding) (name : List ℕ)
    → b.prefix ≡ []
    → declares behind [] ≡ false
    → AreSilent inner []
    → prefix_of name ≡ []
    → (element_name (outer ++ (before ++ b ∷ behind) ∷ inner) name).uri ≡ b.uri

-- An attribute without a prefix has none, whatever is declared.
abbrev pub DefaultsNoAttributes : Type 0
DefaultsNoAttributes =
    (path : List (List Binding)) (name : List ℕ) (attrs : List RawAttr) (i : ℕ) (a : Attr)
    → slice_get (resolved path name attrs).attrs i ≡ Some a
    → a.name.prefix ≡ []
    → a.name.uri ≡ []

-- In a taken tag a name that has a prefix has a namespace.
abbrev pub BindsElement : Type 0
BindsElement =
    (path : List (List Binding)) (name : List ℕ) (attrs : List RawAttr)
    → name_fault path name attrs ≡ None
    → (resolved path name attrs).name.prefix ≢ []
    → (resolved path name attrs).name.uri ≢ []

abbrev pub BindsAttributes : Type 0
BindsAttributes =
    (path : List (List Binding)) (name : List ℕ) (attrs : List RawAttr) (i : ℕ) (a : Attr)
    → name_fault path name attrs ≡ None
    → slice_get (resolved path name attrs).attrs i ≡ Some a
    → a.name.prefix ≢ []
    → a.name.uri ≢ []

-- No two of its attributes have one expanded name, and no two of its declarations one prefix.
abbrev pub NamesOnce : Type 0
NamesOnce =
    (path : List (List Binding)) (name : List ℕ) (attrs : List RawAttr) (i j : ℕ) (a b : Attr)
    → name_fault path name attrs ≡ None
    → i < j
    → slice_get (resolved path name attrs).attrs i ≡ Some a
    → slice_get (resolved path name attrs).attrs j ≡ Some b
    → a.name.local ≡ b.name.local
    → a.name.uri ≢ b.name.uri

abbrev pub DeclaresOnce : Type 0
DeclaresOnce =
    (path : List (List Binding)) (name : List ℕ) (attrs : List RawAttr) (i j : ℕ) (a b : Binding)
    → name_fault path name attrs ≡ None
    → i < j
    → slice_get (resolved path name attrs).decls i ≡ Some a
    → slice_get (resolved path name attrs).decls j ≡ Some b
    → a.prefix ≢ b.prefix
