-- What laws of the definitions say.
use Rattle.std.specs.Prelude.{◌≡◌, ◌≢◌, ℕ, ◌<◌, ◌^◌, false, true, List, [], ◌∷◌, ◌++◌, Some, None, codes, length, map, slice_get}
use Rattle.std.specs.List.{list_all, list_any}
use Rattle.stx_base.specs.declared.name.Attr.{Attr}
use Rattle.stx_base.specs.declared.name.Binding.{Binding}
use Rattle.stx_base.specs.declared.name.Name.{Name}
use Rattle.stx_base.specs.declared.part.Part.{Part}
use Rattle.stx_base.specs.declared.part.Part.TheVariants as part
use Rattle.result_writer.specs.Allowed.{is_good_attribute, is_good_name, is_prefix, is_word}
use Rattle.result_writer.specs.Nodes.{Nodes, End, Chars, CData, Comment, Instruction, Nested, forest, inside, nodes_fault, parts_of, plain, unprefixed, written}
use Rattle.result_writer.specs.Table.{AreApart, bound, has_prefix, with_attributes, with_element}
use Rattle.result_writer.specs.Tag.{dressed}
use Rattle.result_writer.specs.Target.{first_fault, left_by, nothing, same_name, text, text_from, whole_fault, with_attribute, AreDistinct}
use Rattle.result_writer.specs.declared.tag.HeldTag.{HeldTag}

-- More parts only append to the text.
abbrev pub TextGrows : Type 0
TextGrows = (ps qs : List Part) → text (ps ++ qs) ≡ text ps ++ text_from (left_by nothing ps) qs

-- An attribute with the name of an earlier one replaces that one's value, in its place.
abbrev pub Replaces : Type 0
Replaces =
    (before behind : List Attr) (a : Attr) (name : Name) (value : List ℕ)
    → list_any (λ b. same_name b.name name) before ≡ false
    → same_name a.name name ≡ true
    → with_attribute (before ++ a ∷ behind) name value ≡ before ++ record a { value = value } ∷ behind

-- Any other attribute stands behind those before it.
abbrev pub Appends : Type 0
Appends =
    (before : List Attr) (name : Name) (value : List ℕ)
    → list_any (λ b. same_name b.name name) before ≡ false
    → with_attribute before name value ≡ before ++ record { name = name; value = value } ∷ []

-- An element's prefix, or the lack of one, stands for its namespace, or for none.
abbrev pub BindsElement : Type 0
BindsElement =
    (in_force : List Binding) (tag : HeldTag)
    → is_word tag.name.prefix (codes "xml") ≡ false
    → bound (inside in_force tag) tag.name.prefix ≡ tag.name.uri

-- An attribute that has a namespace is written with a prefix that stands for it.
abbrev pub BindsAttributes : Type 0
BindsAttributes =
    (in_force : List Binding) (tag : HeldTag) (i : ℕ) (a : Attr) (prefix : List ℕ)
    → length tag.attrs < 2 ^ 64
    → slice_get tag.attrs i ≡ Some a
    → slice_get (dressed in_force tag).prefixes i ≡ Some prefix
    → a.name.uri ≢ []
    → is_word prefix (codes "xml") ≡ false
    → (prefix ≢ []) × (bound (inside in_force tag) prefix ≡ a.name.uri)

-- A prefix that is in force where the element comes from keeps its URI, unless the names of the tag give it another.
abbrev pub BindsScope : Type 0
BindsScope =
    (in_force : List Binding) (tag : HeldTag) (before behind : List Binding) (b : Binding)
    → tag.scope ≡ before ++ b ∷ behind
    → has_prefix before b.prefix ≡ false
    → has_prefix (with_attributes (with_element tag.name) tag.attrs) b.prefix ≡ false
    → b.uri ≢ []
    → is_word b.prefix (codes "xml") ≡ false
    → bound (inside in_force tag) b.prefix ≡ b.uri

-- The parts of nodes are written as the nodes are.
abbrev pub WritesNodes : Type 0
WritesNodes = (nodes : Nodes) → text (parts_of nodes) ≡ written [] nodes

-- They are these nodes, but for prefixes, declarations, and how texts are cut.
abbrev pub ReadsNodes : Type 0
ReadsNodes = (nodes : Nodes) → forest (parts_of nodes) ≡ plain nodes

-- a list that may follow a text: it begins with no other
abbrev pub IsBehindText : Nodes → Type 0
IsBehindText (Chars text next) = ⊥
IsBehindText nodes = Unit {0}

-- no text is empty, and no two texts touch
abbrev pub IsProper : Nodes → Type 0
IsProper End = Unit {0}
IsProper (Chars text next) = (text ≢ []) × IsBehindText next × IsProper next
IsProper (CData text next) = IsProper next
IsProper (Comment text next) = IsProper next
IsProper (Instruction target text next) = IsProper next
IsProper (Nested tag kids next) = IsProper kids × IsProper next

-- So it is with the nodes of parts, whatever parts they are.
abbrev pub MakesProper : Type 0
MakesProper = (ps : List Part) → IsProper (forest ps)

-- Two texts that touch are one, wherever they stand.
abbrev pub TextsJoin : Type 0
TextsJoin =
    (ps qs : List Part) (a b : List ℕ)
    → forest (ps ++ part.Chars a ∷ part.Chars b ∷ qs) ≡ forest (ps ++ part.Chars (a ++ b) ∷ qs)

-- What is held back of accepted parts is a tag of good names, in which each name has one attribute.
abbrev pub HoldsGoodTags : Type 0
HoldsGoodTags =
    (limit : ℕ) (ps : List Part) (tag : HeldTag)
    → first_fault limit nothing ps ≡ None
    → (left_by nothing ps).held ≡ Some tag
    → (is_good_name tag.name ≡ true) × (list_all (λ a. is_good_attribute a.name) tag.attrs ≡ true) × AreDistinct tag.attrs

-- No two attributes of such a tag are written with one name (XML 1.0, 3.1).
abbrev pub WritesOnce : Type 0
WritesOnce =
    (in_force : List Binding) (tag : HeldTag) (i j : ℕ) (a b : Attr) (prefix : List ℕ)
    → length tag.attrs < 2 ^ 64
    → list_all (λ a. is_good_attribute a.name) tag.attrs ≡ true
    → AreDistinct tag.attrs
    → i < j
    → slice_get tag.attrs i ≡ Some a
    → slice_get tag.attrs j ≡ Some b
    → slice_get (dressed in_force tag).prefixes i ≡ Some prefix
    → slice_get (dressed in_force tag).prefixes j ≡ Some prefix
    → a.name.local ≡ b.name.local
    → ⊥

-- No tag declares a prefix twice.
abbrev pub DeclaresOnce : Type 0
DeclaresOnce = (in_force : List Binding) (tag : HeldTag) → AreApart (dressed in_force tag).declared

-- The first fault of the parts of nodes is that of the nodes; there is none only where each is well formed.
abbrev pub JudgesNodes : Type 0
JudgesNodes = (limit : ℕ) (nodes : Nodes) → whole_fault limit (parts_of nodes) ≡ nodes_fault limit 0 nodes

-- What is accepted as a whole is the parts of some nodes, but for the prefixes of ends, and is written as these.
abbrev pub AcceptsNodes : Type 0
AcceptsNodes =
    (limit : ℕ) (ps : List Part)
    → whole_fault limit ps ≡ None
    → (nodes : Nodes) × (map unprefixed ps ≡ map unprefixed (parts_of nodes)) × (text ps ≡ written [] nodes)

-- The prefixes that a tag of good names is written with are NCNames, or none, as long as those of its scope are.
abbrev pub WritesPrefixes : Type 0
WritesPrefixes =
    (in_force : List Binding) (tag : HeldTag)
    → is_good_name tag.name ≡ true
    → list_all (λ a. is_good_attribute a.name) tag.attrs ≡ true
    → list_all (λ b. is_prefix b.prefix) tag.scope ≡ true
    → (list_all (λ b. is_prefix b.prefix) (dressed in_force tag).declared ≡ true)
    × (list_all is_prefix (dressed in_force tag).prefixes ≡ true)
