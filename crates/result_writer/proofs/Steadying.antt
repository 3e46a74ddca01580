-- A tag whose prefixes are all in force declares nothing.
use Rattle.std.proofs.Common.{◌≡◌, ℕ, Bool, true, false, not, ◌&&◌, ◌||◌, List, [], ◌∷◌, ◌++◌, refl, sym, ap, ◌∙◌}
use Rattle.std.specs.Prelude.{if◌then◌else◌, filter, codes}
use Rattle.std.specs.List.{list_all}
use Rattle.std.proofs.lemmas.Bool.{and_parts, and_from}
use Rattle.std.proofs.lemmas.Slice.Eq.{bytes_eq-Decides}
use Rattle.stx_base.specs.declared.name.Attr.{Attr}
use Rattle.stx_base.specs.declared.name.Binding.{Binding}
use Rattle.stx_base.specs.declared.name.Name.{Name}
use Rattle.result_writer.specs.Allowed.{is_empty, is_word, same}
use Rattle.result_writer.specs.Steady.{is_in_force, keep_bindings, keeps_binding, keeps_names, keeps_prefix, own_prefixes, undressed}
use Rattle.result_writer.specs.Table.{attribute_prefix, bound, entered, free_prefix, has_prefix, in_order, is_new, is_taken, prefixes, with_attributes, with_element, with_name, with_scope}
use Rattle.result_writer.specs.Tag.{dressed}
use Rattle.result_writer.specs.declared.tag.HeldTag.{HeldTag}
use Rattle.result_writer.proofs.Prefixing.{all_append}

module _ (in_force : List Binding) where
  abbrev holds : Binding → Bool
  holds b = is_in_force in_force b.prefix b.uri

  abbrev are_held : List Binding → Bool
  are_held = list_all holds

  not_new : (b : Binding) → holds b ≡ true → is_new in_force b ≡ false
  not_new b h =
      let w = not (is_word b.prefix (codes "xml")) in
      let both = and_parts w (same (bound in_force b.prefix) b.uri) h in
      ap (λ t. w && not t) both.1 ∙ ap (λ t. t && false) both.0

  none_new : (table : List Binding) → are_held table ≡ true → filter (is_new in_force) table ≡ []
  none_new [] h = refl
  none_new (b ∷ bs) h =
      let both = and_parts (holds b) (are_held bs) h in
      let others = filter (is_new in_force) bs in
      ap (λ t. if t then b ∷ others else others) (not_new b both.0) ∙ none_new bs both.1

  -- a prefix in force has one URI
  one_uri : (b : Binding) (n : Name) → holds b ≡ true → is_in_force in_force n.prefix n.uri ≡ true → (same b.prefix n.prefix && not (same b.uri n.uri)) ≡ false
  one_uri b n h k = by_test (same b.prefix n.prefix) refl where
    bound_b : bound in_force b.prefix ≡ b.uri
    bound_b = (bytes_eq-Decides _ _).0 (and_parts (not (is_word b.prefix (codes "xml"))) _ h).1

    bound_n : bound in_force n.prefix ≡ n.uri
    bound_n = (bytes_eq-Decides _ _).0 (and_parts (not (is_word n.prefix (codes "xml"))) _ k).1

    by_test : (t : Bool) → same b.prefix n.prefix ≡ t → (t && not (same b.uri n.uri)) ≡ false
    by_test false e = refl
    by_test true e =
        let p : b.prefix ≡ n.prefix = (bytes_eq-Decides b.prefix n.prefix).0 e in
        let u : b.uri ≡ n.uri = sym bound_b ∙ ap (bound in_force) p ∙ bound_n in
        ap not ((bytes_eq-Decides b.uri n.uri).1 u)

  untaken : (table : List Binding) (n : Name) → are_held table ≡ true → is_in_force in_force n.prefix n.uri ≡ true → is_taken table n ≡ false
  untaken [] n h k = refl
  untaken (b ∷ bs) n h k =
      let both = and_parts (holds b) (are_held bs) h in
      ap (λ t. t || is_taken bs n) (one_uri b n both.0 k) ∙ untaken bs n both.1 k

  entered_held : (table : List Binding) (p u : List ℕ) → are_held table ≡ true → is_in_force in_force p u ≡ true → are_held (entered table p u) ≡ true
  entered_held table p u h k = by_test (has_prefix table p) where
    by_test : (t : Bool) → are_held (if t then table else table ++ record { prefix = p; uri = u } ∷ []) ≡ true
    by_test true = h
    by_test false = all_append holds table (record { prefix = p; uri = u } ∷ []) h (and_from _ _ k refl)

  own_prefix : (table : List Binding) (n : Name) → are_held table ≡ true → keeps_prefix in_force n ≡ true → attribute_prefix table n ≡ n.prefix
  own_prefix table n h k = by_test (is_empty n.uri) k where
    by_test : (t : Bool) → (t || (not (is_empty n.prefix) && is_in_force in_force n.prefix n.uri)) ≡ true
        → (if t || (not (is_empty n.prefix) && not (is_taken table n)) then n.prefix else free_prefix table) ≡ n.prefix
    by_test true k = refl
    by_test false k =
        let both = and_parts (not (is_empty n.prefix)) _ k in
        ap (λ t. if t && not (is_taken table n) then n.prefix else free_prefix table) both.0
        ∙ ap (λ t. if not t then n.prefix else free_prefix table) (untaken table n h both.1)

  name_held : (table : List Binding) (n : Name) → are_held table ≡ true → keeps_prefix in_force n ≡ true → are_held (with_name table n) ≡ true
  name_held table n h k = by_test (is_empty n.uri) k where
    by_test : (t : Bool) → (t || (not (is_empty n.prefix) && is_in_force in_force n.prefix n.uri)) ≡ true
        → are_held (if t then table else entered table (attribute_prefix table n) n.uri) ≡ true
    by_test true e = h
    by_test false e =
        ap (λ p. are_held (entered table p n.uri)) (own_prefix table n h k)
        ∙ entered_held table n.prefix n.uri h (and_parts (not (is_empty n.prefix)) _ e).1

  attributes_held : (table : List Binding) (attrs : List Attr) → are_held table ≡ true → list_all (λ a. keeps_prefix in_force a.name) attrs ≡ true
      → (prefixes table attrs ≡ own_prefixes attrs) × (are_held (with_attributes table attrs) ≡ true)
  attributes_held table [] h k = (refl, h)
  attributes_held table (a ∷ attrs) h k =
      let both = and_parts (keeps_prefix in_force a.name) _ k in
      let rest = attributes_held (with_name table a.name) attrs (name_held table a.name h both.0) both.1 in (
        ap (λ p. p ∷ prefixes (with_name table a.name) attrs) (own_prefix table a.name h both.0) ∙ ap (λ ps. a.name.prefix ∷ ps) rest.0,
        rest.1,
      )

  binding_held : (table : List Binding) (b : Binding) → are_held table ≡ true → keeps_binding in_force b ≡ true → are_held (if is_empty b.uri then table else entered table b.prefix b.uri) ≡ true
  binding_held table b h k = by_test (is_empty b.uri) k where
    by_test : (t : Bool) → (t || is_in_force in_force b.prefix b.uri) ≡ true → are_held (if t then table else entered table b.prefix b.uri) ≡ true
    by_test true e = h
    by_test false e = entered_held table b.prefix b.uri h e

  scope_held : (table scope : List Binding) → are_held table ≡ true → list_all (keeps_binding in_force) scope ≡ true → are_held (with_scope table scope) ≡ true
  scope_held table [] h k = h
  scope_held table (b ∷ scope) h k =
      let both = and_parts (keeps_binding in_force b) _ k in
      scope_held (if is_empty b.uri then table else entered table b.prefix b.uri) scope (binding_held table b h both.0) both.1

  pub dressed-steady : (tag : HeldTag) → keeps_names in_force tag ≡ true → keep_bindings in_force tag.scope ≡ true
      → dressed in_force tag ≡ undressed tag.attrs
  dressed-steady tag h k =
      let both = and_parts (is_in_force in_force tag.name.prefix tag.name.uri) _ h in
      let table = with_element tag.name in
      let first : are_held table ≡ true = and_from _ _ both.0 refl in
      let made = attributes_held table tag.attrs first both.1 in
      let whole = scope_held (with_attributes table tag.attrs) tag.scope made.1 k in
      ap (λ (l : List Binding). record { declared = in_order [] l; prefixes = prefixes table tag.attrs }) (none_new _ whole)
      ∙ ap (λ (ps : List (List ℕ)). record { declared = []; prefixes = ps }) made.0
