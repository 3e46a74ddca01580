-- What a sound tag declares is sound, and which prefixes its attributes have.
use Rattle.std.proofs.Common.{◌≡◌, ◌⊎◌, ℕ, zero, suc, ◌+◌, Bool, true, false, not, ◌&&◌, ◌||◌, List, [], ◌∷◌, ◌++◌, refl, sym, ap, ◌∙◌, subst, ⊎_elim, inl, inr}
use Rattle.std.specs.Prelude.{bytes_eq, codes, filter, length, if◌then◌else◌}
use Rattle.std.specs.List.{list_all}
use Rattle.std.proofs.lemmas.Bool.{and_parts, and_from, or_from}
use Rattle.stx_base.specs.declared.name.Attr.{Attr}
use Rattle.stx_base.specs.declared.name.Binding.{Binding}
use Rattle.stx_base.specs.declared.name.Name.{Name}
use Rattle.xml_names.specs.Scope as n
use Rattle.xml_names.specs.Tag as n_tag
use Rattle.xml_names.specs.Tag.{is_good_binding}
use Rattle.result_writer.specs.Allowed.{agree, are_chars, is_empty, is_good_attribute, is_good_name, is_prefix, is_qname, is_well_bound, xml_uri, xmlns_uri}
use Rattle.result_writer.specs.Laws.{WritesPrefixes}
use Rattle.result_writer.specs.Table.{attribute_prefix, entered, free_from, free_prefix, has_prefix, in_order, is_new, is_taken, numbered, placed, precedes, prefixes, with_attributes, with_element, with_name, with_scope}
use Rattle.result_writer.specs.Tag.{dressed}
use Rattle.result_writer.specs.declared.tag.HeldTag.{HeldTag}
use Rattle.read_back.specs.Laws.{DeclaresSound}
use Rattle.read_back.specs.Sound.{is_sound_attribute, is_sound_binding, is_sound_name, is_sound_tag}
use Rattle.read_back.proofs.Bytes.{all_append}
use Rattle.read_back.proofs.Tests.{agree_same, both_ways, empty_same, same-of, same-true, true_or_false, word_same}

-- A name and its binding

-- what is well bound may be declared
pub well_good : (m : Name) → is_well_bound m ≡ is_good_binding m.prefix m.uri
well_good m =
    (λ i. not (word_same m.prefix (codes "xmlns") refl i) && agree (word_same m.prefix (codes "xml") refl i) (word_same m.uri xml_uri refl i) && not (word_same m.uri xmlns_uri refl i) && (empty_same m.prefix i || not (empty_same m.uri i)))
    ∙ ap (λ t. not (bytes_eq m.prefix (codes "xmlns")) && t && not (bytes_eq m.uri xmlns_uri) && (n.is_empty m.prefix || not (n.is_empty m.uri))) (agree_same (bytes_eq m.prefix (codes "xml")) (bytes_eq m.uri xml_uri))

pub name_bound : (m : Name) → is_good_name m ≡ true → is_good_binding m.prefix m.uri ≡ true
name_bound m h = sym (well_good m) ∙ (and_parts (is_qname m) (is_well_bound m) h).1

-- what a binding that may be declared is
pub record IsGoodBinding (prefix uri : List ℕ) : Type 0 where
  pub xmlns : bytes_eq prefix (codes "xmlns") ≡ false
  pub xml : n_tag.agree (bytes_eq prefix (codes "xml")) (bytes_eq uri n.xml_uri) ≡ true
  pub other : bytes_eq uri n.xmlns_uri ≡ false
  pub some : (n.is_empty prefix || not (n.is_empty uri)) ≡ true

negated : (t : Bool) → not t ≡ true → t ≡ false
negated true h = absurd cc
negated false h = refl

pub binding_is : (prefix uri : List ℕ) → is_good_binding prefix uri ≡ true → IsGoodBinding prefix uri
binding_is prefix uri h =
    let a = not (bytes_eq prefix (codes "xmlns")) in
    let b = n_tag.agree (bytes_eq prefix (codes "xml")) (bytes_eq uri n.xml_uri) in
    let c = not (bytes_eq uri n.xmlns_uri) in
    let d = n.is_empty prefix || not (n.is_empty uri) in
    let p = and_parts (a && b && c) d h in
    let q = and_parts (a && b) c p.0 in
    let r = and_parts a b q.0 in
    record { xmlns = negated _ r.0; xml = r.1; other = negated _ q.1; some = p.1 }

binding_of : (prefix uri : List ℕ) → IsGoodBinding prefix uri → is_good_binding prefix uri ≡ true
binding_of prefix uri g = and_from _ _ (and_from _ _ (and_from _ _ (ap not g.xmlns) g.xml) (ap not g.other)) g.some

-- the prefix `xml` and its namespace go together
pub xml_by_uri : (prefix uri : List ℕ) → is_good_binding prefix uri ≡ true → bytes_eq uri n.xml_uri ≡ true → bytes_eq prefix (codes "xml") ≡ true
xml_by_uri prefix uri h e = by_test (bytes_eq prefix (codes "xml")) (sym (ap (λ t. n_tag.agree (bytes_eq prefix (codes "xml")) t) e) ∙ (binding_is prefix uri h).xml) where
  by_test : (t : Bool) → n_tag.agree t true ≡ true → t ≡ true
  by_test true k = refl
  by_test false k = absurd cc

pub xml_by_prefix : (prefix uri : List ℕ) → is_good_binding prefix uri ≡ true → bytes_eq prefix (codes "xml") ≡ true → bytes_eq uri n.xml_uri ≡ true
xml_by_prefix prefix uri h e = by_test (sym (ap (λ t. n_tag.agree t (bytes_eq uri n.xml_uri)) e) ∙ (binding_is prefix uri h).xml) where
  by_test : n_tag.agree true (bytes_eq uri n.xml_uri) ≡ true → bytes_eq uri n.xml_uri ≡ true
  by_test k = k

-- Tables

-- what a binding is beside its prefix
abbrev pub is_fine : Binding → Bool
is_fine b = are_chars b.uri && is_good_binding b.prefix b.uri

abbrev are_fine : List Binding → Bool
are_fine = list_all is_fine

pub fine_sound : (b : Binding) → is_sound_binding b ≡ true → is_fine b ≡ true
fine_sound b h =
    let p = and_parts (is_prefix b.prefix && are_chars b.uri) (is_good_binding b.prefix b.uri) h in
    and_from (are_chars b.uri) (is_good_binding b.prefix b.uri) (and_parts (is_prefix b.prefix) (are_chars b.uri) p.0).1 p.1

entered_fine : (table : List Binding) (prefix uri : List ℕ) → are_fine table ≡ true → is_fine (record { prefix = prefix; uri = uri }) ≡ true → are_fine (entered table prefix uri) ≡ true
entered_fine table prefix uri h k = by_test (has_prefix table prefix) where
  by_test : (t : Bool) → are_fine (if t then table else table ++ record { prefix = prefix; uri = uri } ∷ []) ≡ true
  by_test true = h
  by_test false = all_append is_fine table (record { prefix = prefix; uri = uri } ∷ []) h (and_from (is_fine (record { prefix = prefix; uri = uri })) true k refl)

free_is : (table : List Binding) (k n : ℕ) → (j : ℕ) × (free_from table k n ≡ numbered j)
free_is table k zero = (k, refl)
free_is table k (suc n) = by_test (has_prefix table (numbered k)) (free_is table (k + 1) n) where
  by_test : (t : Bool) → ((j : ℕ) × (free_from table (k + 1) n ≡ numbered j)) → (j : ℕ) × ((if t then free_from table (k + 1) n else numbered k) ≡ numbered j)
  by_test true later = later
  by_test false later = (k, refl)

-- the prefix that an attribute is written with is its own, or one that is numbered where it has a namespace
abbrev pub Picks : (prefix : List ℕ) → Name → Type 0
Picks prefix m = (prefix ≡ m.prefix) ⊎ ((j : ℕ) × (prefix ≡ numbered j) × (is_empty m.uri ≡ false))

picks : (table : List Binding) (m : Name) → Picks (attribute_prefix table m) m
picks table m = by_tests (is_empty m.uri) (not (is_empty m.prefix) && not (is_taken table m)) refl where
  by_tests : (s t : Bool) → is_empty m.uri ≡ s → Picks (if s || t then m.prefix else free_prefix table) m
  by_tests true t e = inl refl
  by_tests false true e = inl refl
  by_tests false false e = let f = free_is table 0 (length table) in inr (f.0, f.1, e)

-- the namespace of `xml` is that of no prefix that is taken for another
untaken : (table : List Binding) (m : Name) → are_fine table ≡ true → bytes_eq m.prefix (codes "xml") ≡ true → bytes_eq m.uri n.xml_uri ≡ true → is_taken table m ≡ false
untaken [] m h p u = refl
untaken (b ∷ bs) m h p u =
    let both = and_parts (is_fine b) (are_fine bs) h in
    or_from _ (is_taken bs m) (by_same (bytes_eq b.prefix m.prefix) refl (and_parts (are_chars b.uri) (is_good_binding b.prefix b.uri) both.0).1) (untaken bs m both.1 p u) where
      by_same : (t : Bool) → bytes_eq b.prefix m.prefix ≡ t → is_good_binding b.prefix b.uri ≡ true → (t && not (bytes_eq b.uri m.uri)) ≡ false
      by_same false e g = refl
      by_same true e g =
          let prefix : b.prefix ≡ codes "xml" = same-true b.prefix m.prefix e ∙ same-true m.prefix (codes "xml") p in
          let uri : b.uri ≡ n.xml_uri = same-true b.uri n.xml_uri (xml_by_prefix b.prefix b.uri g (same-of b.prefix (codes "xml") prefix)) in
          ap not (same-of b.uri m.uri (uri ∙ sym (same-true m.uri n.xml_uri u)))

with_name_fine : (table : List Binding) (m : Name) → are_fine table ≡ true → is_good_name m ≡ true → are_chars m.uri ≡ true → are_fine (with_name table m) ≡ true
with_name_fine table m h good chars = by_empty (is_empty m.uri) refl where
  bound : is_good_binding m.prefix m.uri ≡ true
  bound = name_bound m good

  is : IsGoodBinding m.prefix m.uri
  is = binding_is m.prefix m.uri bound

  numbered_fine : (p : List ℕ) (j : ℕ) → p ≡ numbered j → is_empty m.uri ≡ false → bytes_eq m.uri n.xml_uri ≡ false → is_good_binding p m.uri ≡ true
  numbered_fine p j e some no_xml = binding_of p m.uri (record {
    xmlns = ap (λ l. bytes_eq l (codes "xmlns")) e;
    xml = ap (λ l. n_tag.agree (bytes_eq l (codes "xml")) (bytes_eq m.uri n.xml_uri)) e ∙ ap not no_xml;
    other = is.other;
    some = ap (λ l. n.is_empty l || not (n.is_empty m.uri)) e ∙ ap not (sym (empty_same m.uri) ∙ some);
  })

  by_pick : is_empty m.uri ≡ false → (t : Bool) → (not (is_empty m.prefix) && not (is_taken table m)) ≡ t → is_good_binding (if is_empty m.uri || t then m.prefix else free_prefix table) m.uri ≡ true
  by_pick some true e = subst (λ s. is_good_binding (if s then m.prefix else free_prefix table) m.uri ≡ true) (sym (ap (λ s. s || true) some)) bound
  by_pick some false e =
      let f = free_is table 0 (length table) in
      subst (λ s. is_good_binding (if s then m.prefix else free_prefix table) m.uri ≡ true) (sym (ap (λ s. s || false) some))
      (numbered_fine (free_prefix table) f.0 f.1 some (⊎_elim (λ (x : bytes_eq m.uri n.xml_uri ≡ true). absurd (clash x)) (λ x. x) (true_or_false (bytes_eq m.uri n.xml_uri)))) where
        clash : bytes_eq m.uri n.xml_uri ≡ true → ⊥
        clash x =
            let p = xml_by_uri m.prefix m.uri bound x in
            let some_prefix : is_empty m.prefix ≡ false = ap is_empty (same-true m.prefix (codes "xml") p) in
            let free = untaken table m h p x in
            let yes : (not (is_empty m.prefix) && not (is_taken table m)) ≡ true = and_from (not (is_empty m.prefix)) (not (is_taken table m)) (ap not some_prefix) (ap not free) in
            both_ways _ yes e

  by_empty : (t : Bool) → is_empty m.uri ≡ t → are_fine (if t then table else entered table (attribute_prefix table m) m.uri) ≡ true
  by_empty true e = h
  by_empty false e = entered_fine table (attribute_prefix table m) m.uri h (and_from (are_chars m.uri) _ chars (by_pick e (not (is_empty m.prefix) && not (is_taken table m)) refl))

-- what is known of a sound attribute
pub attribute_parts : (a : Attr) → is_sound_attribute a ≡ true → (is_good_attribute a.name ≡ true) × (is_good_name a.name ≡ true) × (are_chars a.name.uri ≡ true)
attribute_parts a h =
    let p = and_parts (is_good_attribute a.name) (are_chars a.name.uri) (and_parts (is_good_attribute a.name && are_chars a.name.uri) (are_chars a.value) h).0 in
    (p.0, (and_parts (is_good_name a.name) _ p.0).0, p.1)

attributes_fine : (table : List Binding) (attrs : List Attr) → are_fine table ≡ true → list_all is_sound_attribute attrs ≡ true → are_fine (with_attributes table attrs) ≡ true
attributes_fine table [] h k = h
attributes_fine table (a ∷ attrs) h k =
    let both = and_parts (is_sound_attribute a) (list_all is_sound_attribute attrs) k in
    let parts = attribute_parts a both.0 in
    attributes_fine (with_name table a.name) attrs (with_name_fine table a.name h parts.1 parts.2) both.1

scope_fine : (table scope : List Binding) → are_fine table ≡ true → list_all is_sound_binding scope ≡ true → are_fine (with_scope table scope) ≡ true
scope_fine table [] h k = h
scope_fine table (b ∷ scope) h k =
    let both = and_parts (is_sound_binding b) (list_all is_sound_binding scope) k in
    scope_fine (if is_empty b.uri then table else entered table b.prefix b.uri) scope (by_empty (is_empty b.uri) (fine_sound b both.0)) both.1 where
      by_empty : (t : Bool) → is_fine b ≡ true → are_fine (if t then table else entered table b.prefix b.uri) ≡ true
      by_empty true g = h
      by_empty false g = entered_fine table b.prefix b.uri h g

-- What is declared

filter_fine : (q : Binding → Bool) (bs : List Binding) → are_fine bs ≡ true → are_fine (filter q bs) ≡ true
filter_fine q [] h = refl
filter_fine q (b ∷ bs) h =
    let both = and_parts (is_fine b) (are_fine bs) h in
    by_test (q b) both.0 (filter_fine q bs both.1) where
      by_test : (t : Bool) → is_fine b ≡ true → are_fine (filter q bs) ≡ true → are_fine (if t then b ∷ filter q bs else filter q bs) ≡ true
      by_test true is all = and_from _ _ is all
      by_test false is all = all

placed_fine : (b : Binding) (cs : List Binding) → is_fine b ≡ true → are_fine cs ≡ true → are_fine (placed b cs) ≡ true
placed_fine b [] h k = and_from (is_fine b) true h refl
placed_fine b (c ∷ cs) h k =
    let both = and_parts (is_fine c) (are_fine cs) k in
    by_test (precedes b.prefix c.prefix) (placed_fine b cs h both.1) both.0 where
      by_test : (t : Bool) → are_fine (placed b cs) ≡ true → is_fine c ≡ true → are_fine (if t then b ∷ c ∷ cs else c ∷ placed b cs) ≡ true
      by_test true all is = and_from (is_fine b) (are_fine (c ∷ cs)) h k
      by_test false all is = and_from (is_fine c) (are_fine (placed b cs)) is all

order_fine : (sorted bs : List Binding) → are_fine sorted ≡ true → are_fine bs ≡ true → are_fine (in_order sorted bs) ≡ true
order_fine sorted [] h k = h
order_fine sorted (b ∷ bs) h k =
    let both = and_parts (is_fine b) (are_fine bs) k in order_fine (placed b sorted) bs (placed_fine b sorted both.0 h) both.1

-- what is known of a sound tag
pub record IsSoundTag (tag : HeldTag) : Type 0 where
  pub name : is_good_name tag.name ≡ true
  pub uri : are_chars tag.name.uri ≡ true
  pub attrs : list_all is_sound_attribute tag.attrs ≡ true
  pub scope : list_all is_sound_binding tag.scope ≡ true

pub tag_is : (tag : HeldTag) → is_sound_tag tag ≡ true → IsSoundTag tag
tag_is tag h =
    let p = and_parts (is_sound_name tag.name && list_all is_sound_attribute tag.attrs) (list_all is_sound_binding tag.scope) h in
    let q = and_parts (is_sound_name tag.name) (list_all is_sound_attribute tag.attrs) p.0 in
    let r = and_parts (is_good_name tag.name) (are_chars tag.name.uri) q.0 in
    record { name = r.0; uri = r.1; attrs = q.1; scope = p.1 }

declared_fine : (in_force : List Binding) (tag : HeldTag) → IsSoundTag tag → are_fine (dressed in_force tag).declared ≡ true
declared_fine in_force tag is =
    let first : is_fine (record { prefix = tag.name.prefix; uri = tag.name.uri }) ≡ true = and_from (are_chars tag.name.uri) (is_good_binding tag.name.prefix tag.name.uri) is.uri (name_bound tag.name is.name) in
    let table = with_element tag.name in
    let own : are_fine table ≡ true = and_from (is_fine (record { prefix = tag.name.prefix; uri = tag.name.uri })) true first refl in
    let all = scope_fine (with_attributes table tag.attrs) tag.scope (attributes_fine table tag.attrs own is.attrs) is.scope in
    order_fine [] (filter (is_new in_force) (with_scope (with_attributes table tag.attrs) tag.scope)) refl
    (filter_fine (is_new in_force) (with_scope (with_attributes table tag.attrs) tag.scope) all)

pub good_attributes : (attrs : List Attr) → list_all is_sound_attribute attrs ≡ true → list_all (λ a. is_good_attribute a.name) attrs ≡ true
good_attributes [] h = refl
good_attributes (a ∷ attrs) h =
    let both = and_parts (is_sound_attribute a) (list_all is_sound_attribute attrs) h in
    and_from (is_good_attribute a.name) (list_all (λ a. is_good_attribute a.name) attrs) (attribute_parts a both.0).0 (good_attributes attrs both.1)

scope_prefixes : (bs : List Binding) → list_all is_sound_binding bs ≡ true → list_all (λ b. is_prefix b.prefix) bs ≡ true
scope_prefixes [] h = refl
scope_prefixes (b ∷ bs) h =
    let both = and_parts (is_sound_binding b) (list_all is_sound_binding bs) h in
    let p = and_parts (is_prefix b.prefix && are_chars b.uri) (is_good_binding b.prefix b.uri) both.0 in
    and_from (is_prefix b.prefix) (list_all (λ b. is_prefix b.prefix) bs) (and_parts (is_prefix b.prefix) (are_chars b.uri) p.0).0 (scope_prefixes bs both.1)

all_sound : (bs : List Binding) → list_all (λ b. is_prefix b.prefix) bs ≡ true → are_fine bs ≡ true → list_all is_sound_binding bs ≡ true
all_sound [] h k = refl
all_sound (b ∷ bs) h k =
    let p = and_parts (is_prefix b.prefix) (list_all (λ b. is_prefix b.prefix) bs) h in
    let q = and_parts (is_fine b) (are_fine bs) k in
    let r = and_parts (are_chars b.uri) (is_good_binding b.prefix b.uri) q.0 in
    and_from (is_sound_binding b) (list_all is_sound_binding bs) (and_from (is_prefix b.prefix && are_chars b.uri) (is_good_binding b.prefix b.uri) (and_from (is_prefix b.prefix) (are_chars b.uri) p.0 r.0) r.1) (all_sound bs p.1 q.1)

pub declares_sound : WritesPrefixes → DeclaresSound
declares_sound prefixes in_force tag h =
    let is = tag_is tag h in
    let names = prefixes in_force tag is.name (good_attributes tag.attrs is.attrs) (scope_prefixes tag.scope is.scope) in
    (all_sound (dressed in_force tag).declared names.0 (declared_fine in_force tag is), names.1)

-- The prefixes of attributes

abbrev pub PickAll : List (List ℕ) → List Attr → Type 0
PickAll [] [] = Unit {0}
PickAll [] (a ∷ attrs) = ⊥
PickAll (p ∷ ps) [] = ⊥
PickAll (p ∷ ps) (a ∷ attrs) = Picks p a.name × PickAll ps attrs

pub pick_all : (table : List Binding) (attrs : List Attr) → PickAll (prefixes table attrs) attrs
pick_all table [] = tt
pick_all table (a ∷ attrs) = (picks table a.name, pick_all (with_name table a.name) attrs)
