-- The names of a tag are read with their URIs.
use Rattle.std.proofs.Common.{◌≡◌, ◌≢◌, ℕ, suc, Bool, true, false, not, ◌&&◌, ◌||◌, List, [], ◌∷◌, ◌++◌, Option, Some, None, refl, sym, ap, ◌∙◌, inl, inr}
use Rattle.std.specs.Prelude.{bytes_eq, codes, is_some, slice_get, unwrap_or, if◌then◌else◌}
use Rattle.std.specs.List.{list_all}
use Rattle.std.specs.Option.{option_or}
use Rattle.std.proofs.lemmas.Bool.{and_parts, and_from}
use Rattle.stx_base.specs.Character.{is_ncname}
use Rattle.stx_base.specs.declared.name.Attr.{Attr}
use Rattle.stx_base.specs.declared.name.Binding.{Binding}
use Rattle.xml_names.specs.Laws as n_laws
use Rattle.xml_names.specs.QName.{IsQName, is_qname as is_written_qname, local_of, prefix_of}
use Rattle.xml_names.specs.Scope.{attribute_name, attribute_uri, declared_on, element_name, last_uri, unless_empty}
use Rattle.xml_names.specs.Scope as n
use Rattle.xml_names.specs.Tag.{declared_prefix, is_good_binding, is_prefix_bound}
use Rattle.result_writer.specs.Allowed.{is_empty, is_good_attribute, is_good_name, is_prefix, is_word}
use Rattle.result_writer.specs.Table.{bound, bound_from}
use Rattle.read_back.specs.Reading.{declaring, written_name}
use Rattle.read_back.specs.Sound.{is_sound_attribute}
use Rattle.read_back.proofs.Declaring.{PickAll, Picks, attribute_parts, binding_is, name_bound, xml_by_prefix}
use Rattle.read_back.proofs.Tagging.{local_of_good}
use Rattle.read_back.proofs.Tests.{both_ways, empty_same, is_nothing, isn't_nothing, not_empty, other, same-of, same-true, word_same}

-- What a prefix is bound to

last_bound : (uri : List ℕ) (bs : List Binding) (p : List ℕ) → bound_from uri bs p ≡ unwrap_or (last_uri bs p) uri
last_bound uri [] p = refl
last_bound uri (b ∷ bs) p = last_bound (if bytes_eq b.prefix p then b.uri else uri) bs p ∙ by_last (last_uri bs p) (bytes_eq b.prefix p) where
  by_last : (o : Option (List ℕ)) (t : Bool) → unwrap_or o (if t then b.uri else uri) ≡ unwrap_or (option_or o (if t then Some b.uri else None)) uri
  by_last (Some u) t = refl
  by_last None true = refl
  by_last None false = refl

-- what is bound, but for `xml`, by what is in force
pub in_force_bound : (path : List (List Binding)) (p : List ℕ) → bytes_eq p (codes "xml") ≡ false → unwrap_or (n.bound path p) [] ≡ bound (declared_on path) p
in_force_bound path p no_xml =
    ap (λ t. unwrap_or (if t then Some n.xml_uri else unless_empty (last_uri (declared_on path) p)) []) no_xml
    ∙ by_last (last_uri (declared_on path) p) ∙ sym (last_bound [] (declared_on path) p) where
      by_uri : (u : List ℕ) → unwrap_or (if n.is_empty u then None else Some u) [] ≡ u
      by_uri [] = refl
      by_uri (c ∷ cs) = refl

      by_last : (o : Option (List ℕ)) → unwrap_or (unless_empty o) [] ≡ unwrap_or o []
      by_last None = refl
      by_last (Some u) = by_uri u

pub some_bound : (o : Option (List ℕ)) (u : List ℕ) → unwrap_or o [] ≡ u → u ≢ [] → is_some o ≡ true
some_bound None u e ne = absurd (ne (sym e))
some_bound (Some v) u e ne = refl

-- Names as they are written

-- what is known of an attribute with its prefix
pub record IsRead (path : List (List Binding)) (p : List ℕ) (a : Attr) : Type 0 where
  pub prefix : is_prefix p ≡ true
  pub local : is_ncname a.name.local ≡ true
  pub none : declared_prefix (written_name p a.name.local) ≡ None
  pub uri : attribute_uri path p ≡ a.name.uri
  pub known : is_prefix_bound path p ≡ true

abbrev pub ReadAll : List (List Binding) → List (List ℕ) → List Attr → Type 0
ReadAll path [] [] = Unit {0}
ReadAll path [] (a ∷ attrs) = ⊥
ReadAll path (p ∷ ps) [] = ⊥
ReadAll path (p ∷ ps) (a ∷ attrs) = IsRead path p a × ReadAll path ps attrs

-- what binds the prefix of an attribute
abbrev pub Binds : List (List Binding) → (p : List ℕ) → Attr → Type 0
Binds path p a = a.name.uri ≢ [] → bytes_eq p (codes "xml") ≡ false → (p ≢ []) × (bound (declared_on path) p ≡ a.name.uri)

abbrev pub BindsAll : List (List Binding) → List (List ℕ) → List Attr → Type 0
BindsAll path ps attrs = (i : ℕ) (a : Attr) (p : List ℕ) → slice_get attrs i ≡ Some a → slice_get ps i ≡ Some p → Binds path p a

pub negated : (t : Bool) → not t ≡ true → t ≡ false
negated true h = absurd cc
negated false h = refl

-- no attribute is written `xmlns`
no_default : (a : Attr) → is_good_attribute a.name ≡ true → (is_empty a.name.prefix && bytes_eq a.name.local (codes "xmlns")) ≡ false
no_default a h =
    ap (λ t. is_empty a.name.prefix && t) (sym (word_same a.name.local (codes "xmlns") refl))
    ∙ negated (is_empty a.name.prefix && is_word a.name.local (codes "xmlns")) (and_parts (is_good_name a.name) _ h).1

module _ (path : List (List Binding)) (p : List ℕ) (a : Attr) where
  pub bound_xml : bytes_eq p (codes "xml") ≡ true → n.bound path p ≡ Some n.xml_uri
  bound_xml e = ap (λ t. if t then Some n.xml_uri else unless_empty (last_uri (declared_on path) p)) e

  -- the URI of an attribute with a namespace, and that its prefix is bound
  some_uri : a.name.uri ≢ [] → is_empty p ≡ false → unwrap_or (n.bound path p) [] ≡ a.name.uri → (attribute_uri path p ≡ a.name.uri) × (is_prefix_bound path p ≡ true)
  some_uri ne some e =
      let reader : n.is_empty p ≡ false = sym (empty_same p) ∙ some in (
        ap (λ t. if t then [] else unwrap_or (n.bound path p) []) reader ∙ e,
        ap (λ t. t || is_some (n.bound path p)) reader ∙ some_bound (n.bound path p) a.name.uri e ne,
      )

  uri_read : Picks p a.name → is_good_name a.name ≡ true → Binds path p a → (attribute_uri path p ≡ a.name.uri) × (is_prefix_bound path p ≡ true)
  uri_read pick good binds = by_empty (is_empty a.name.uri) refl where
    binding : is_good_binding a.name.prefix a.name.uri ≡ true
    binding = name_bound a.name good

    own_xml : Picks p a.name → bytes_eq p (codes "xml") ≡ true → (p ≡ a.name.prefix)
    own_xml (inl e) x = e
    own_xml (inr k) x = absurd (both_ways (bytes_eq p (codes "xml")) x (ap (λ l. bytes_eq l (codes "xml")) k.1))

    own_empty : Picks p a.name → is_empty a.name.uri ≡ true → p ≡ a.name.prefix
    own_empty (inl e) x = e
    own_empty (inr k) x = absurd (both_ways (is_empty a.name.uri) x k.2)

    by_xml : is_empty a.name.uri ≡ false → (t : Bool) → bytes_eq p (codes "xml") ≡ t → (attribute_uri path p ≡ a.name.uri) × (is_prefix_bound path p ≡ true)
    by_xml some true e =
        let own = own_xml pick e in
        let uri : a.name.uri ≡ n.xml_uri = same-true a.name.uri n.xml_uri (xml_by_prefix a.name.prefix a.name.uri binding (ap (λ l. bytes_eq l (codes "xml")) (sym own) ∙ e)) in
        some_uri (isn't_nothing a.name.uri some) (ap is_empty (same-true p (codes "xml") e)) (ap (λ o. unwrap_or o []) (bound_xml e) ∙ sym uri)
    by_xml some false e =
        let b = binds (isn't_nothing a.name.uri some) e in
        some_uri (isn't_nothing a.name.uri some) (not_empty p b.0) (in_force_bound path p e ∙ b.1)

    by_empty : (t : Bool) → is_empty a.name.uri ≡ t → (attribute_uri path p ≡ a.name.uri) × (is_prefix_bound path p ≡ true)
    by_empty true e =
        let own = own_empty pick e in
        let uri : a.name.uri ≡ [] = is_nothing a.name.uri e in
        let some = (binding_is a.name.prefix a.name.uri binding).some in
        let none : n.is_empty p ≡ true = ap n.is_empty own ∙ first (n.is_empty a.name.prefix) (n.is_empty a.name.uri) some (ap n.is_empty uri) in
        (ap (λ t. if t then [] else unwrap_or (n.bound path p) []) none ∙ sym uri, ap (λ t. t || is_some (n.bound path p)) none) where
          first : (s t : Bool) → (s || not t) ≡ true → t ≡ true → s ≡ true
          first true t h k = refl
          first false true h k = absurd cc
          first false false h k = absurd cc
    by_empty false e = by_xml e (bytes_eq p (codes "xml")) refl

module _ (qnames : n_laws.SpelledQNamesAreRead) where
  written_is : (prefix local : List ℕ) → is_prefix prefix ≡ true → is_ncname local ≡ true → IsQName (written_name prefix local) prefix local
  written_is [] local h k = (k, inl (refl, refl))
  written_is (c ∷ cs) local h k = (k, inr (h, refl))

  pub written_read : (prefix local : List ℕ) → is_prefix prefix ≡ true → is_ncname local ≡ true
      → (is_written_qname (written_name prefix local) ≡ true) × (prefix_of (written_name prefix local) ≡ prefix) × (local_of (written_name prefix local) ≡ local)
  written_read prefix local h k = qnames (written_name prefix local) prefix local (written_is prefix local h k)

  declaring_is : (b : Binding) → is_prefix b.prefix ≡ true → IsQName (declaring b).name (if is_empty b.prefix then [] else codes "xmlns") (if is_empty b.prefix then codes "xmlns" else b.prefix)
  declaring_is b h = by_empty (is_empty b.prefix) h where
    by_empty : (t : Bool) → (t || is_ncname b.prefix) ≡ true → IsQName (if t then codes "xmlns" else codes "xmlns:" ++ b.prefix) (if t then [] else codes "xmlns") (if t then codes "xmlns" else b.prefix)
    by_empty true e = (refl, inl (refl, refl))
    by_empty false e = (e, inr (refl, refl))

  pub declaring_qname : (b : Binding) → is_prefix b.prefix ≡ true → is_written_qname (declaring b).name ≡ true
  declaring_qname b h = (qnames (declaring b).name _ _ (declaring_is b h)).0

  -- a declaration declares its prefix
  pub declaring_prefix : (b : Binding) → is_prefix b.prefix ≡ true → declared_prefix (declaring b).name ≡ Some b.prefix
  declaring_prefix b h = by_empty (is_empty b.prefix) refl h where
    by_empty : (t : Bool) → is_empty b.prefix ≡ t → (t || is_ncname b.prefix) ≡ true → declared_prefix (if t then codes "xmlns" else codes "xmlns:" ++ b.prefix) ≡ Some b.prefix
    by_empty true e k = ap (λ l. Some l) (sym (is_nothing b.prefix e))
    by_empty false e k =
        let read = qnames (codes "xmlns:" ++ b.prefix) (codes "xmlns") b.prefix (k, inr (refl, refl)) in
        ap (λ l. if bytes_eq l (codes "xmlns") then Some (local_of (codes "xmlns:" ++ b.prefix)) else None) read.1 ∙ ap (λ l. Some l) read.2

  -- another name declares none
  written_prefix : (prefix local : List ℕ) → is_prefix prefix ≡ true → is_ncname local ≡ true → bytes_eq prefix (codes "xmlns") ≡ false → (is_empty prefix && bytes_eq local (codes "xmlns")) ≡ false
      → declared_prefix (written_name prefix local) ≡ None
  written_prefix prefix local h k no_prefix no_local =
      let name = written_name prefix local in
      let read = written_read prefix local h k in
      let no_name : bytes_eq name (codes "xmlns") ≡ false = other name (codes "xmlns") (λ e.
      let p : prefix ≡ [] = sym read.1 ∙ ap prefix_of e in
      let l : local ≡ codes "xmlns" = sym read.2 ∙ ap local_of e in
      both_ways (is_empty prefix && bytes_eq local (codes "xmlns")) (and_from (is_empty prefix) (bytes_eq local (codes "xmlns")) (ap is_empty p) (same-of local (codes "xmlns") l)) no_local) in
      ap (λ t. if t then Some [] else if bytes_eq (prefix_of name) (codes "xmlns") then Some (local_of name) else None) no_name
      ∙ ap (λ l. if bytes_eq l (codes "xmlns") then Some (local_of name) else None) read.1
      ∙ ap (λ t. if t then Some (local_of name) else None) no_prefix

  attribute_read : (path : List (List Binding)) (p : List ℕ) (a : Attr) → Picks p a.name → is_prefix p ≡ true → is_sound_attribute a ≡ true → Binds path p a → IsRead path p a
  attribute_read path p a pick prefix sound binds =
      let parts = attribute_parts a sound in
      let local = (local_of_good a.name parts.1).1 in
      let uri = uri_read path p a pick parts.1 binds in
      record {
        prefix = prefix;
        local = local;
        none = written_prefix p a.name.local prefix local (no_xmlns pick parts.1) (no_local pick parts.0);
        uri = uri.0;
        known = uri.1;
      } where
        no_xmlns : Picks p a.name → is_good_name a.name ≡ true → bytes_eq p (codes "xmlns") ≡ false
        no_xmlns (inl e) good = ap (λ l. bytes_eq l (codes "xmlns")) e ∙ (binding_is a.name.prefix a.name.uri (name_bound a.name good)).xmlns
        no_xmlns (inr k) good = ap (λ l. bytes_eq l (codes "xmlns")) k.1

        no_local : Picks p a.name → is_good_attribute a.name ≡ true → (is_empty p && bytes_eq a.name.local (codes "xmlns")) ≡ false
        no_local (inl e) good = ap (λ l. is_empty l && bytes_eq a.name.local (codes "xmlns")) e ∙ no_default a good
        no_local (inr k) good = ap (λ l. is_empty l && bytes_eq a.name.local (codes "xmlns")) k.1

  pub read_all : (path : List (List Binding)) (ps : List (List ℕ)) (attrs : List Attr) → PickAll ps attrs → list_all is_prefix ps ≡ true → list_all is_sound_attribute attrs ≡ true → BindsAll path ps attrs → ReadAll path ps attrs
  read_all path [] [] pick prefix sound binds = tt
  read_all path [] (a ∷ attrs) pick prefix sound binds = pick
  read_all path (p ∷ ps) [] pick prefix sound binds = pick
  read_all path (p ∷ ps) (a ∷ attrs) pick prefix sound binds =
      let front = and_parts (is_prefix p) (list_all is_prefix ps) prefix in
      let all = and_parts (is_sound_attribute a) (list_all is_sound_attribute attrs) sound in (
        attribute_read path p a pick.0 front.0 all.0 (binds 0 a p refl refl),
        read_all path ps attrs pick.1 front.1 all.1 (λ i b q h k. binds (suc i) b q h k),
      )
