-- Tags without prefixes that declare nothing.
use Rattle.std.proofs.Common.{◌≡◌, ℕ, Bool, true, false, not, ◌&&◌, ◌||◌, List, [], ◌∷◌, ◌++◌, Some, None, refl, sym, ap, ◌∙◌, codes}
use Rattle.std.specs.Prelude.{if◌then◌else◌, is_some, map, unwrap_or}
use Rattle.std.specs.List.{list_all, list_any, cons_option}
use Rattle.std.specs.Option.{option_map, option_map_or}
use Rattle.std.proofs.lemmas.Bool.{and_parts, not-true}
use Rattle.stx_base.specs.Character.{is_ncname}
use Rattle.stx_base.specs.declared.fault.XmlKind.TheVariants as kind
use Rattle.stx_base.specs.declared.name.Attr.{Attr}
use Rattle.stx_base.specs.declared.name.Binding.{Binding}
use Rattle.stx_base.specs.declared.name.Name.{Name}
use Rattle.xml_tokens.specs.declared.lexeme.RawAttr.{RawAttr}
use Rattle.xml_names.specs.QName.{has_colon, prefix_of, local_of, is_qname}
use Rattle.xml_names.specs.Scope.{same, bound, declared_on, unless_empty, last_uri, xml_uri, attribute_name, element_name}
use Rattle.xml_names.specs.Tag.{declared_prefix, declaration, declarations, into, attribute, attributes, has_bad_name, is_bad_binding, has_bad_binding, is_good_binding, is_prefix_bound, is_element_bound, is_attribute_bound, has_undeclared_prefix, has_twins, same_written, same_expanded, has_duplicate, scope_fault, name_fault, resolved}
use Rattle.xml_names.specs.inside.Plain.{is_plain, is_plain_name, plain_attribute}
use Rattle.xml_names.specs.declared.resolved.Resolved.{Resolved}
use Rattle.xml_names.proofs.QNames.{ncname-none, prefix_of-none, local_of-none, whole-qname}
use Rattle.xml_names.proofs.Paths.{unprefixed-name, same-names}

abbrev xmlns : List ℕ
xmlns = codes "xmlns"

module _ (name : List ℕ) (alone : is_ncname name ≡ true) where
  none : has_colon name ≡ false
  none = ncname-none name alone

  no-prefix : prefix_of name ≡ []
  no-prefix = prefix_of-none name none

  whole : local_of name ≡ name
  whole = local_of-none name none

  a-qname : is_qname name ≡ true
  a-qname = whole-qname name none ∙ alone

  element-bound : (path : List (List Binding)) → is_element_bound path name ≡ true
  element-bound path = ap (λ p. not (same p xmlns) && is_prefix_bound path p) no-prefix

  unbound : (path : List (List Binding)) → is_prefix_bound path (prefix_of name) ≡ true
  unbound path = ap (is_prefix_bound path) no-prefix

module _ (name : List ℕ) (plain : is_plain_name name ≡ true) where
  parts : (is_ncname name ≡ true) × (not (same name xmlns) ≡ true)
  parts = and_parts (is_ncname name) (not (same name xmlns)) plain

  undeclared : declared_prefix name ≡ None
  undeclared =
      ap (λ t. if t then Some [] else if same (prefix_of name) xmlns then Some (local_of name) else None) (not-true (same name xmlns) parts.1)
      ∙ ap (λ p. if same p xmlns then Some (local_of name) else None) (no-prefix name parts.0)

module _ (a : RawAttr) (plain : is_plain_name a.name ≡ true) where
  no-declaration : declaration a ≡ None
  no-declaration = ap (option_map (λ prefix. record { prefix = prefix; uri = a.value })) (undeclared a.name plain)

  no-bad : is_bad_binding a ≡ false
  no-bad = ap (λ o. option_map_or (λ prefix. not (is_good_binding prefix a.value)) o false) (undeclared a.name plain)

  an-attribute : (path : List (List Binding)) → attribute path a ≡ Some (plain_attribute a)
  an-attribute path =
      ap (λ o. if is_some o then None else Some (record { name = attribute_name path a.name; value = a.value })) (undeclared a.name plain)
      ∙ ap (λ n. Some (record { name = n; value = a.value })) (sym (unprefixed-name path a.name (ncname-none a.name (parts a.name plain).0)))

  attribute-bound : (path : List (List Binding)) → is_attribute_bound path a.name ≡ true
  attribute-bound path = ap (λ o. is_some o || is_prefix_bound path (prefix_of a.name)) (undeclared a.name plain) ∙ unbound a.name (parts a.name plain).0 path

-- all attributes of a tag
abbrev Plain : List RawAttr → Type 0
Plain attrs = list_all (λ a. is_plain_name a.name) attrs ≡ true

first : (a : RawAttr) (attrs : List RawAttr) → Plain (a ∷ attrs) → (is_plain_name a.name ≡ true) × Plain attrs
first a attrs h = and_parts (is_plain_name a.name) (list_all (λ b. is_plain_name b.name) attrs) h

pub no-declarations : (attrs : List RawAttr) → Plain attrs → declarations attrs ≡ []
no-declarations [] h = refl
no-declarations (a ∷ attrs) h =
    let p = first a attrs h in
    ap (λ o. cons_option o (declarations attrs)) (no-declaration a p.0) ∙ no-declarations attrs p.1

are-qnames : (attrs : List RawAttr) → Plain attrs → list_all (λ a. is_qname a.name) attrs ≡ true
are-qnames [] h = refl
are-qnames (a ∷ attrs) h =
    let p = first a attrs h in
    ap (λ t. t && list_all (λ b. is_qname b.name) attrs) (a-qname a.name (parts a.name p.0).0) ∙ are-qnames attrs p.1

no-bads : (attrs : List RawAttr) → Plain attrs → has_bad_binding attrs ≡ false
no-bads [] h = refl
no-bads (a ∷ attrs) h =
    let p = first a attrs h in
    ap (λ t. t || has_bad_binding attrs) (no-bad a p.0) ∙ no-bads attrs p.1

pub all-attributes : (path : List (List Binding)) (attrs : List RawAttr) → Plain attrs → attributes path attrs ≡ map plain_attribute attrs
all-attributes path [] h = refl
all-attributes path (a ∷ attrs) h =
    let p = first a attrs h in
    ap (λ o. cons_option o (attributes path attrs)) (an-attribute a p.0 path) ∙ ap (λ l. plain_attribute a ∷ l) (all-attributes path attrs p.1)

all-bound : (path : List (List Binding)) (attrs : List RawAttr) → Plain attrs → list_all (λ a. is_attribute_bound path a.name) attrs ≡ true
all-bound path [] h = refl
all-bound path (a ∷ attrs) h =
    let p = first a attrs h in
    ap (λ t. t && list_all (λ b. is_attribute_bound path b.name) attrs) (attribute-bound a p.0 path) ∙ all-bound path attrs p.1

-- without namespaces the written names are the expanded ones
any-expanded : (a : RawAttr) (attrs : List RawAttr) → list_any (same_expanded (plain_attribute a)) (map plain_attribute attrs) ≡ list_any (same_written a) attrs
any-expanded a [] = refl
any-expanded a (b ∷ attrs) = ap (λ t. same a.name b.name || t) (any-expanded a attrs)

twins-expanded : (attrs : List RawAttr) → has_twins same_expanded (map plain_attribute attrs) ≡ has_twins same_written attrs
twins-expanded [] = refl
twins-expanded (a ∷ attrs) =
    ap (λ t. t || has_twins same_expanded (map plain_attribute attrs)) (any-expanded a attrs)
    ∙ ap (λ t. list_any (same_written a) attrs || t) (twins-expanded attrs)

-- an element that declares nothing changes no binding
declared-same : (path : List (List Binding)) → declared_on (path ++ [] ∷ []) ≡ declared_on path
declared-same [] = refl
declared-same (tag ∷ path) = ap (λ l. tag ++ l) (declared-same path)

pub bound-same : (path : List (List Binding)) (p : List ℕ) → bound (path ++ [] ∷ []) p ≡ bound path p
bound-same path p = ap (λ l. if same p (codes "xml") then Some xml_uri else unless_empty (last_uri l p)) (declared-same path)

module _ (path : List (List Binding)) (name : List ℕ) (attrs : List RawAttr) (plain : is_plain name attrs ≡ true) where
  alone : is_ncname name ≡ true
  alone = (and_parts (is_ncname name) (list_all (λ a. is_plain_name a.name) attrs) plain).0

  others : Plain attrs
  others = (and_parts (is_ncname name) (list_all (λ a. is_plain_name a.name) attrs) plain).1

  good : has_bad_name name attrs ≡ false
  good = ap (λ t. not (t && list_all (λ a. is_qname a.name) attrs)) (a-qname name alone) ∙ ap not (are-qnames attrs others)

  declared : (p : List (List Binding)) → has_undeclared_prefix p name attrs ≡ false
  declared p = ap (λ t. not (t && list_all (λ a. is_attribute_bound p a.name) attrs)) (element-bound name alone p) ∙ ap not (all-bound p attrs others)

  twice : (t : Bool) → (t || t) ≡ t
  twice true = refl
  twice false = refl

  duplicate : (p : List (List Binding)) → has_duplicate p attrs ≡ has_twins same_written attrs
  duplicate p =
      ap (λ l. has_twins same_written attrs || has_twins same_expanded l) (all-attributes p attrs others)
      ∙ ap (λ t. has_twins same_written attrs || t) (twins-expanded attrs)
      ∙ twice (has_twins same_written attrs)

  -- its one fault is an attribute that stands twice
  pub plain-fault : (t : Bool) → t ≡ has_twins same_written attrs → name_fault path name attrs ≡ (if t then Some kind.DuplicateAttribute else None)
  plain-fault t e =
      ap (λ b. if b then Some kind.BadName else if has_bad_binding attrs then Some kind.BadBinding else scope_fault (into path attrs) name attrs) good
      ∙ ap (λ b. if b then Some kind.BadBinding else scope_fault (into path attrs) name attrs) (no-bads attrs others)
      ∙ ap (λ b. if b then Some kind.UndeclaredPrefix else if has_duplicate (into path attrs) attrs then Some kind.DuplicateAttribute else None) (declared (into path attrs))
      ∙ ap (λ b. if b then Some kind.DuplicateAttribute else None) (duplicate (into path attrs) ∙ sym e)

  into-is : into path attrs ≡ path ++ [] ∷ []
  into-is = ap (λ d. path ++ d ∷ []) (no-declarations attrs others)

  pub plain-into : path ++ [] ∷ [] ≡ path ++ declarations attrs ∷ []
  plain-into = sym into-is

  name-is : element_name (into path attrs) name ≡ record { uri = unwrap_or (bound path []) []; local = name; prefix = [] }
  name-is =
      ap (λ p. element_name p name) into-is
      ∙ same-names _ _ _ _ _ _ (ap (λ p. unwrap_or (bound (path ++ [] ∷ []) p) []) (no-prefix name alone) ∙ ap (λ o. unwrap_or o []) (bound-same path [])) (whole name alone) (no-prefix name alone)

  -- what it says
  pub plain-said : (made : Name) (kept : List Attr) (decls : List Binding)
      → made ≡ record { uri = unwrap_or (bound path []) []; local = name; prefix = [] } → kept ≡ map plain_attribute attrs → decls ≡ []
      → (let tag : Resolved = record { name = made; attrs = kept; decls = decls } in tag ≡ resolved path name attrs)
  plain-said made kept decls n k d =
      ap (λ x. let tag : Resolved = record { name = x; attrs = kept; decls = decls } in tag) (n ∙ sym name-is)
      ∙ ap (λ x. let tag : Resolved = record { name = element_name (into path attrs) name; attrs = x; decls = decls } in tag) (k ∙ sym (all-attributes (into path attrs) attrs others))
      ∙ ap (λ x. let tag : Resolved = record { name = element_name (into path attrs) name; attrs = attributes (into path attrs) attrs; decls = x } in tag) (d ∙ sym (no-declarations attrs others))
