-- Prefixes and namespaces that no taken tag binds.
use Rattle.std.proofs.Common.{◌≡◌, ◌≢◌, ◌⊎◌, inl, inr, ℕ, Bool, true, false, not, ◌&&◌, ◌||◌, List, [], ◌∷◌, Option, Some, None, refl, sym, ap, ◌∙◌, codes}
use Rattle.std.specs.Prelude.{map, if◌then◌else◌}
use Rattle.std.specs.List.{list_all, list_any, cons_option}
use Rattle.std.specs.Option.{option_map, option_map_or, option_or}
use Rattle.std.proofs.lemmas.Bool.{and_parts, or_parts, not-false, cases_Bool}
use Rattle.std.proofs.lemmas.List.Folds.{list_all-append}
use Rattle.stx_base.specs.declared.name.Binding.{Binding}
use Rattle.xml_tokens.specs.declared.lexeme.RawAttr.{RawAttr}
use Rattle.xml_names.specs.Scope.{same, is_empty, xml_uri, xmlns_uri, last_uri, declared_on, unless_empty, bound}
use Rattle.xml_names.specs.Tag.{agree, declared_prefix, declarations, has_bad_binding, is_good_binding}
use Rattle.xml_names.specs.Laws.{AreGood, BindsXml, BindsNoXmlns}
use Rattle.xml_names.proofs.Texts.{same-true}

abbrev good : Binding → Bool
good b = is_good_binding b.prefix b.uri

and-intro : (s t : Bool) → s ≡ true → t ≡ true → (s && t) ≡ true
and-intro true t e h = h
and-intro false t e h = absurd (cc)

-- what a tag without a bad binding declares
tag-good : (attrs : List RawAttr) → has_bad_binding attrs ≡ false → list_all good (declarations attrs) ≡ true
tag-good [] h = refl
tag-good (a ∷ attrs) h = by_prefix (declared_prefix a.name) h (tag-good attrs) where
  by_prefix : (o : Option (List ℕ)) → (option_map_or (λ q. not (is_good_binding q a.value)) o false || has_bad_binding attrs) ≡ false
      → (has_bad_binding attrs ≡ false → list_all good (declarations attrs) ≡ true)
      → list_all good (cons_option (option_map (λ q. let d : Binding = record { prefix = q; uri = a.value } in d) o) (declarations attrs)) ≡ true
  by_prefix None k more = more k
  by_prefix (Some q) k more =
      let parts = or_parts (not (is_good_binding q a.value)) (has_bad_binding attrs) k in
      and-intro (is_good_binding q a.value) (list_all good (declarations attrs)) (not-false (is_good_binding q a.value) parts.0) (more parts.1)

-- and what all do
tags-good : (tags : List (List RawAttr)) → AreGood tags → list_all good (declared_on (map declarations tags)) ≡ true
tags-good [] h = refl
tags-good (tag ∷ tags) h =
    let parts = or_parts (has_bad_binding tag) (list_any has_bad_binding tags) h in
    list_all-append good (declarations tag) (declared_on (map declarations tags))
    ∙ and-intro (list_all good (declarations tag)) (list_all good (declared_on (map declarations tags))) (tag-good tag parts.0) (tags-good tags parts.1)

-- the binding that is found is one of them
found-good : (bs : List Binding) (p uri : List ℕ) → list_all good bs ≡ true → last_uri bs p ≡ Some uri → is_good_binding p uri ≡ true
found-good [] p uri all h = absurd (cc)
found-good (b ∷ bs) p uri all h =
    let parts = and_parts (good b) (list_all good bs) all in
    by_later (last_uri bs p) refl parts.0 (found-good bs p uri parts.1) h where
      here : (t : Bool) → same b.prefix p ≡ t → good b ≡ true → (if t then Some b.uri else None) ≡ Some uri → is_good_binding p uri ≡ true
      here true e g k =
          let u : b.uri ≡ uri = cc in
          ap (λ q. is_good_binding q uri) (sym (same-true b.prefix p e)) ∙ (ap (is_good_binding b.prefix) (sym u) ∙ g)
      here false e g k = absurd (cc)

      by_later : (o : Option (List ℕ)) → last_uri bs p ≡ o → good b ≡ true → (last_uri bs p ≡ Some uri → is_good_binding p uri ≡ true)
          → option_or o (if same b.prefix p then Some b.uri else None) ≡ Some uri → is_good_binding p uri ≡ true
      by_later (Some other) e g more k = more (e ∙ k)
      by_later None e g more k = here (same b.prefix p) refl g k

unless : (o : Option (List ℕ)) (uri : List ℕ) → unless_empty o ≡ Some uri → o ≡ Some uri
unless None uri h = absurd (cc)
unless (Some []) uri h = absurd (cc)
unless (Some (c ∷ cs)) uri h = h

-- the parts of a good binding
module _ (p uri : List ℕ) (is : is_good_binding p uri ≡ true) where
  all : ((not (same p (codes "xmlns")) && agree (same p (codes "xml")) (same uri xml_uri) && not (same uri xmlns_uri)) ≡ true) × ((is_empty p || not (is_empty uri)) ≡ true)
  all = and_parts (not (same p (codes "xmlns")) && agree (same p (codes "xml")) (same uri xml_uri) && not (same uri xmlns_uri)) (is_empty p || not (is_empty uri)) is

  three : ((not (same p (codes "xmlns")) && agree (same p (codes "xml")) (same uri xml_uri)) ≡ true) × (not (same uri xmlns_uri) ≡ true)
  three = and_parts (not (same p (codes "xmlns")) && agree (same p (codes "xml")) (same uri xml_uri)) (not (same uri xmlns_uri)) all.0

  two : (not (same p (codes "xmlns")) ≡ true) × (agree (same p (codes "xml")) (same uri xml_uri) ≡ true)
  two = and_parts (not (same p (codes "xmlns"))) (agree (same p (codes "xml")) (same uri xml_uri)) three.0

-- what is bound by a declaration is a good binding
bound-good : (tags : List (List RawAttr)) (p uri : List ℕ) → AreGood tags → same p (codes "xml") ≡ false → bound (map declarations tags) p ≡ Some uri → is_good_binding p uri ≡ true
bound-good tags p uri h other e =
    let path = map declarations tags in
    let found : unless_empty (last_uri (declared_on path) p) ≡ Some uri = sym (ap (λ t. if t then Some xml_uri else unless_empty (last_uri (declared_on path) p)) other) ∙ e in
    found-good (declared_on path) p uri (tags-good tags h) (unless (last_uri (declared_on path) p) uri found)

agrees : (t : Bool) → t ≡ false → agree t true ≡ true → ⊥
agrees true e h = cc
agrees false e h = cc

pub binds-xml : BindsXml
binds-xml tags prefix h = (to, from) where
  path : List (List Binding)
  path = map declarations tags

  by_test : (same prefix (codes "xml") ≡ true) ⊎ (same prefix (codes "xml") ≡ false) → bound path prefix ≡ Some xml_uri → prefix ≡ codes "xml"
  by_test (inl e) k = same-true prefix (codes "xml") e
  by_test (inr e) k =
      let g = bound-good tags prefix xml_uri h e k in
      absurd (agrees (same prefix (codes "xml")) e (two prefix xml_uri g).1)

  to : bound path prefix ≡ Some xml_uri → prefix ≡ codes "xml"
  to k = by_test (cases_Bool (same prefix (codes "xml"))) k

  from : prefix ≡ codes "xml" → bound path prefix ≡ Some xml_uri
  from e = ap (bound path) e

pub binds-no-xmlns : BindsNoXmlns
binds-no-xmlns tags prefix h = (unbound (bound path (codes "xmlns")) refl, by_test (cases_Bool (same prefix (codes "xml")))) where
  path : List (List Binding)
  path = map declarations tags

  unbound : (o : Option (List ℕ)) → bound path (codes "xmlns") ≡ o → o ≡ None
  unbound None e = refl
  unbound (Some uri) e =
      let never : false ≡ true = (two (codes "xmlns") uri (bound-good tags (codes "xmlns") uri h refl e)).0 in
      absurd (cc)

  by_test : (same prefix (codes "xml") ≡ true) ⊎ (same prefix (codes "xml") ≡ false) → bound path prefix ≢ Some xmlns_uri
  by_test (inl t) = λ e.
      let clash : Some xml_uri ≡ Some xmlns_uri = sym (ap (λ s. if s then Some xml_uri else unless_empty (last_uri (declared_on path) prefix)) t) ∙ e in
      let uris : xml_uri ≡ xmlns_uri = cc in
      let never : true ≡ false = ap (λ u. same u xml_uri) uris in
      cc
  by_test (inr t) = λ e.
      let never : false ≡ true = (three prefix xmlns_uri (bound-good tags prefix xmlns_uri h t e)).1 in
      cc
