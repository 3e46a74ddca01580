-- A tag that is written is read without a fault of its names.
use Rattle.std.proofs.Common.{◌≡◌, ℕ, suc, ◌<◌, Bool, true, false, not, ◌&&◌, ◌||◌, List, [], ◌∷◌, ◌++◌, Option, Some, None, map, refl, sym, ap, ◌∙◌, arith, append_assoc, append-nil, ⊎_elim}
use Rattle.std.specs.Prelude.{bytes_eq, codes, is_some, slice_get, unwrap_or, if◌then◌else◌}
use Rattle.std.specs.List.{cons_option, filter_map, list_all, list_any}
use Rattle.std.specs.Option.{option_map, option_map_or}
use Rattle.std.proofs.lemmas.Bool.{and_parts, and_from, or_from, or_parts}
use Rattle.stx_base.specs.declared.fault.XmlKind.TheVariants as kind
use Rattle.stx_base.specs.declared.name.Attr.{Attr}
use Rattle.stx_base.specs.declared.name.Binding.{Binding}
use Rattle.xml_tokens.specs.declared.lexeme.RawAttr.{RawAttr}
use Rattle.xml_names.specs.Laws.{SpelledQNamesAreRead}
use Rattle.xml_names.specs.QName.{is_qname as is_written_qname, local_of, prefix_of}
use Rattle.xml_names.specs.Scope.{attribute_name, attribute_uri, declared_on, element_name}
use Rattle.xml_names.specs.Scope as n
use Rattle.xml_names.specs.Tag.{attribute, attributes, declaration, declarations, declared_prefix, has_bad_binding, has_bad_name, has_duplicate, has_twins, has_undeclared_prefix, into, is_attribute_bound, is_bad_binding, is_element_bound, is_good_binding, is_prefix_bound, same_expanded, same_written}
use Rattle.result_writer.specs.Allowed.{are_chars, is_prefix}
use Rattle.result_writer.specs.Laws as w_laws
use Rattle.result_writer.specs.Nodes.{expanded_attr, expanded_name, inside}
use Rattle.result_writer.specs.Table.{AreApart, bound, has_prefix, prefixes, with_element}
use Rattle.result_writer.specs.Tag.{dressed}
use Rattle.result_writer.specs.Target.{AreDistinct, same_name}
use Rattle.result_writer.specs.declared.tag.HeldTag.{HeldTag}
use Rattle.read_back.specs.Laws.{DeclaresSound, ResolvesNames}
use Rattle.read_back.specs.Reading.{declaring, raw_attrs, with_prefixes, written_name}
use Rattle.read_back.specs.Sound.{is_sound_binding}
use Rattle.read_back.proofs.Bytes.{all_append, none_append}
use Rattle.read_back.proofs.Declaring.{IsSoundTag, binding_is, good_attributes, name_bound, pick_all, tag_is, xml_by_prefix}
use Rattle.read_back.proofs.Resolving.{IsRead, ReadAll, declaring_prefix, declaring_qname, in_force_bound, read_all, some_bound, written_read}
use Rattle.read_back.proofs.Tagging.{local_of_good}
use Rattle.read_back.proofs.Tests.{both_ways, empty_same, isn't_nothing, other, same-of, same-sym, same-true, true_or_false, word_same}

-- Lists

filter_map-append : {X Y : Type 0} (f : X → Option Y) (xs ys : List X) → filter_map f (xs ++ ys) ≡ filter_map f xs ++ filter_map f ys
filter_map-append {X} {Y} f [] ys = refl
filter_map-append {X} {Y} f (x ∷ xs) ys = ap (cons_option (f x)) (filter_map-append f xs ys) ∙ by_case (f x) where
  by_case : (o : Option Y) → cons_option o (filter_map f xs ++ filter_map f ys) ≡ cons_option o (filter_map f xs) ++ filter_map f ys
  by_case None = refl
  by_case (Some y) = refl

-- the last tag of a path
pub declared_last : (path : List (List Binding)) (d : List Binding) → declared_on (path ++ d ∷ []) ≡ declared_on path ++ d
declared_last [] d = append-nil d
declared_last (t ∷ ts) d = ap (λ l. t ++ l) (declared_last ts d) ∙ sym (append_assoc t (declared_on ts) d)

-- two lists in which no items are alike, nor are two of either
twins_append : {X : Type 0} (alike : X → X → Bool) (xs ys : List X) → has_twins alike xs ≡ false → has_twins alike ys ≡ false → list_all (λ x. not (list_any (alike x) ys)) xs ≡ true → has_twins alike (xs ++ ys) ≡ false
twins_append alike [] ys h k c = k
twins_append alike (x ∷ xs) ys h k c =
    let own = or_parts (list_any (alike x) xs) (has_twins alike xs) h in
    let cross = and_parts (not (list_any (alike x) ys)) (list_all (λ x. not (list_any (alike x) ys)) xs) c in
    or_from (list_any (alike x) (xs ++ ys)) (has_twins alike (xs ++ ys)) (none_append (alike x) xs ys own.0 (negate (list_any (alike x) ys) cross.0)) (twins_append alike xs ys own.1 k cross.1) where
      negate : (t : Bool) → not t ≡ true → t ≡ false
      negate true e = absurd cc
      negate false e = refl

-- What is read of a tag

module _ (qnames : SpelledQNamesAreRead) where
  -- Declarations

  abbrev are_named : List Binding → Bool
  are_named = list_all (λ b. is_prefix b.prefix)

  abbrev are_sound : List Binding → Bool
  are_sound = list_all is_sound_binding

  sound_prefix : (b : Binding) → is_sound_binding b ≡ true → (is_prefix b.prefix ≡ true) × (is_good_binding b.prefix b.uri ≡ true)
  sound_prefix b h =
      let p = and_parts (is_prefix b.prefix && are_chars b.uri) (is_good_binding b.prefix b.uri) h in
      ((and_parts (is_prefix b.prefix) (are_chars b.uri) p.0).0, p.1)

  declaring_qnames : (bs : List Binding) → are_sound bs ≡ true → list_all (λ a. is_written_qname a.name) (map declaring bs) ≡ true
  declaring_qnames [] h = refl
  declaring_qnames (b ∷ bs) h =
      let both = and_parts (is_sound_binding b) (are_sound bs) h in
      and_from (is_written_qname (declaring b).name) _ (declaring_qname qnames b (sound_prefix b both.0).0) (declaring_qnames bs both.1)

  declaring_bindings : (bs : List Binding) → are_sound bs ≡ true → list_any is_bad_binding (map declaring bs) ≡ false
  declaring_bindings [] h = refl
  declaring_bindings (b ∷ bs) h =
      let both = and_parts (is_sound_binding b) (are_sound bs) h in
      let s = sound_prefix b both.0 in
      or_from (is_bad_binding (declaring b)) (list_any is_bad_binding (map declaring bs))
      (ap (λ o. option_map_or (λ prefix. not (is_good_binding prefix b.uri)) o false) (declaring_prefix qnames b s.0) ∙ ap not s.1) (declaring_bindings bs both.1)

  declaring_declared : (bs : List Binding) → are_sound bs ≡ true → filter_map declaration (map declaring bs) ≡ bs
  declaring_declared [] h = refl
  declaring_declared (b ∷ bs) h =
      let both = and_parts (is_sound_binding b) (are_sound bs) h in
      ap (λ o. cons_option (option_map (λ prefix. record { prefix = prefix; uri = b.uri }) o) (filter_map declaration (map declaring bs))) (declaring_prefix qnames b (sound_prefix b both.0).0)
      ∙ ap (λ l. b ∷ l) (declaring_declared bs both.1)

  declaring_bound : (path : List (List Binding)) (bs : List Binding) → are_sound bs ≡ true → list_all (λ a. is_attribute_bound path a.name) (map declaring bs) ≡ true
  declaring_bound path [] h = refl
  declaring_bound path (b ∷ bs) h =
      let both = and_parts (is_sound_binding b) (are_sound bs) h in
      and_from (is_attribute_bound path (declaring b).name) (list_all (λ a. is_attribute_bound path a.name) (map declaring bs))
      (ap (λ o. is_some o || is_prefix_bound path (prefix_of (declaring b).name)) (declaring_prefix qnames b (sound_prefix b both.0).0)) (declaring_bound path bs both.1)

  declaring_nothing : (path : List (List Binding)) (bs : List Binding) → are_sound bs ≡ true → filter_map (attribute path) (map declaring bs) ≡ []
  declaring_nothing path [] h = refl
  declaring_nothing path (b ∷ bs) h =
      let both = and_parts (is_sound_binding b) (are_sound bs) h in
      ap (λ o. cons_option (if is_some o then None else Some (record { name = attribute_name path (declaring b).name; value = b.uri })) (filter_map (attribute path) (map declaring bs))) (declaring_prefix qnames b (sound_prefix b both.0).0)
      ∙ declaring_nothing path bs both.1

  -- one prefix has one declaration
  same_declaring : (b c : Binding) → is_prefix b.prefix ≡ true → is_prefix c.prefix ≡ true → same_written (declaring b) (declaring c) ≡ true → bytes_eq c.prefix b.prefix ≡ true
  same_declaring b c h k e =
      let names : (declaring b).name ≡ (declaring c).name = same-true (declaring b).name (declaring c).name e in
      same-of c.prefix b.prefix (sym (some_same b.prefix c.prefix (sym (declaring_prefix qnames b h) ∙ ap declared_prefix names ∙ declaring_prefix qnames c k))) where
        some_same : (x y : List ℕ) → Some x ≡ Some y → x ≡ y
        some_same x y e = cc

  declaring_other : (b : Binding) (bs : List Binding) → is_prefix b.prefix ≡ true → are_sound bs ≡ true → has_prefix bs b.prefix ≡ false → list_any (same_written (declaring b)) (map declaring bs) ≡ false
  declaring_other b [] h k e = refl
  declaring_other b (c ∷ cs) h k e =
      let both = and_parts (is_sound_binding c) (are_sound cs) k in
      let apart = or_parts (bytes_eq c.prefix b.prefix) (has_prefix cs b.prefix) e in
      or_from (same_written (declaring b) (declaring c)) (list_any (same_written (declaring b)) (map declaring cs))
      (⊎_elim (λ t. absurd (both_ways (bytes_eq c.prefix b.prefix) (same_declaring b c h (sound_prefix c both.0).0 t) apart.0)) (λ f. f) (true_or_false (same_written (declaring b) (declaring c))))
      (declaring_other b cs h both.1 apart.1)

  declaring_once : (bs : List Binding) → are_sound bs ≡ true → AreApart bs → has_twins same_written (map declaring bs) ≡ false
  declaring_once [] h k = refl
  declaring_once (b ∷ bs) h k =
      let both = and_parts (is_sound_binding b) (are_sound bs) h in
      or_from (list_any (same_written (declaring b)) (map declaring bs)) (has_twins same_written (map declaring bs))
      (declaring_other b bs (sound_prefix b both.0).0 both.1 k.0) (declaring_once bs both.1 k.1)

  -- Attributes

  -- attributes with the prefixes that they are written with
  abbrev reprefixed : List (List ℕ) → List Attr → List Attr
  reprefixed [] attrs = []
  reprefixed (p ∷ ps) [] = []
  reprefixed (p ∷ ps) (a ∷ attrs) = record { name = record { uri = a.name.uri; local = a.name.local; prefix = p }; value = a.value } ∷ reprefixed ps attrs

  module _ (path : List (List Binding)) where
    one_name : (p : List ℕ) (a : Attr) → IsRead path p a → attribute_name path (written_name p a.name.local) ≡ record { uri = a.name.uri; local = a.name.local; prefix = p }
    one_name p a h =
        let read = written_read qnames p a.name.local h.prefix h.local in
        (λ i. record { uri = attribute_uri path (read.1 i); local = read.2 i; prefix = read.1 i }) ∙ ap (λ u. record { uri = u; local = a.name.local; prefix = p }) h.uri

    read_qnames : (ps : List (List ℕ)) (attrs : List Attr) → ReadAll path ps attrs → list_all (λ a. is_written_qname a.name) (with_prefixes ps attrs) ≡ true
    read_qnames [] [] h = refl
    read_qnames [] (a ∷ attrs) h = absurd h
    read_qnames (p ∷ ps) [] h = absurd h
    read_qnames (p ∷ ps) (a ∷ attrs) h = and_from (is_written_qname (written_name p a.name.local)) _ (written_read qnames p a.name.local h.0.prefix h.0.local).0 (read_qnames ps attrs h.1)

    read_bindings : (ps : List (List ℕ)) (attrs : List Attr) → ReadAll path ps attrs → list_any is_bad_binding (with_prefixes ps attrs) ≡ false
    read_bindings [] [] h = refl
    read_bindings [] (a ∷ attrs) h = absurd h
    read_bindings (p ∷ ps) [] h = absurd h
    read_bindings (p ∷ ps) (a ∷ attrs) h =
        or_from _ (list_any is_bad_binding (with_prefixes ps attrs)) (ap (λ o. option_map_or (λ prefix. not (is_good_binding prefix a.value)) o false) h.0.none) (read_bindings ps attrs h.1)

    read_declared : (ps : List (List ℕ)) (attrs : List Attr) → ReadAll path ps attrs → filter_map declaration (with_prefixes ps attrs) ≡ []
    read_declared [] [] h = refl
    read_declared [] (a ∷ attrs) h = absurd h
    read_declared (p ∷ ps) [] h = absurd h
    read_declared (p ∷ ps) (a ∷ attrs) h =
        ap (λ o. cons_option (option_map (λ prefix. record { prefix = prefix; uri = a.value }) o) (filter_map declaration (with_prefixes ps attrs))) h.0.none ∙ read_declared ps attrs h.1

    read_bound : (ps : List (List ℕ)) (attrs : List Attr) → ReadAll path ps attrs → list_all (λ a. is_attribute_bound path a.name) (with_prefixes ps attrs) ≡ true
    read_bound [] [] h = refl
    read_bound [] (a ∷ attrs) h = absurd h
    read_bound (p ∷ ps) [] h = absurd h
    read_bound (p ∷ ps) (a ∷ attrs) h =
        and_from (is_attribute_bound path (written_name p a.name.local)) (list_all (λ a. is_attribute_bound path a.name) (with_prefixes ps attrs))
        (ap (λ o. is_some o || is_prefix_bound path (prefix_of (written_name p a.name.local))) h.0.none
        ∙ ap (is_prefix_bound path) (written_read qnames p a.name.local h.0.prefix h.0.local).1 ∙ h.0.known)
        (read_bound ps attrs h.1)

    read_attributes : (ps : List (List ℕ)) (attrs : List Attr) → ReadAll path ps attrs → filter_map (attribute path) (with_prefixes ps attrs) ≡ reprefixed ps attrs
    read_attributes [] [] h = refl
    read_attributes [] (a ∷ attrs) h = absurd h
    read_attributes (p ∷ ps) [] h = absurd h
    read_attributes (p ∷ ps) (a ∷ attrs) h =
        ap (λ o. cons_option (if is_some o then None else Some (record { name = attribute_name path (written_name p a.name.local); value = a.value })) (filter_map (attribute path) (with_prefixes ps attrs))) h.0.none
        ∙ ap (λ m. record { name = m; value = a.value } ∷ filter_map (attribute path) (with_prefixes ps attrs)) (one_name p a h.0)
        ∙ ap (λ l. record { name = record { uri = a.name.uri; local = a.name.local; prefix = p }; value = a.value } ∷ l) (read_attributes ps attrs h.1)

    expanded_read : (ps : List (List ℕ)) (attrs : List Attr) → ReadAll path ps attrs → map expanded_attr (reprefixed ps attrs) ≡ map expanded_attr attrs
    expanded_read [] [] h = refl
    expanded_read [] (a ∷ attrs) h = absurd h
    expanded_read (p ∷ ps) [] h = absurd h
    expanded_read (p ∷ ps) (a ∷ attrs) h = ap (λ l. expanded_attr a ∷ l) (expanded_read ps attrs h.1)

    -- no two attributes have one expanded name
    other_expanded : (x : Attr) (ps : List (List ℕ)) (attrs : List Attr) → list_any (λ b. same_name b.name x.name) attrs ≡ false → list_any (same_expanded x) (reprefixed ps attrs) ≡ false
    other_expanded x [] attrs h = refl
    other_expanded x (p ∷ ps) [] h = refl
    other_expanded x (p ∷ ps) (a ∷ attrs) h =
        let both = or_parts (same_name a.name x.name) (list_any (λ b. same_name b.name x.name) attrs) h in
        or_from _ (list_any (same_expanded x) (reprefixed ps attrs))
        ((λ i. same-sym x.name.uri a.name.uri i && same-sym x.name.local a.name.local i) ∙ both.0) (other_expanded x ps attrs both.1)

    once_expanded : (ps : List (List ℕ)) (attrs : List Attr) → AreDistinct attrs → has_twins same_expanded (reprefixed ps attrs) ≡ false
    once_expanded [] attrs h = refl
    once_expanded (p ∷ ps) [] h = refl
    once_expanded (p ∷ ps) (a ∷ attrs) h =
        or_from _ (has_twins same_expanded (reprefixed ps attrs)) (other_expanded a ps attrs h.0) (once_expanded ps attrs h.1)

    -- no two attributes are written with one name
    abbrev Once : List (List ℕ) → List Attr → Type 0
    Once ps attrs = (i j : ℕ) (a b : Attr) (p : List ℕ) → i < j → slice_get attrs i ≡ Some a → slice_get attrs j ≡ Some b → slice_get ps i ≡ Some p → slice_get ps j ≡ Some p → a.name.local ≡ b.name.local → ⊥

    other_written : (p : List ℕ) (a : Attr) → IsRead path p a → (ps : List (List ℕ)) (attrs : List Attr) → ReadAll path ps attrs
        → ((j : ℕ) (b : Attr) → slice_get attrs j ≡ Some b → slice_get ps j ≡ Some p → a.name.local ≡ b.name.local → ⊥)
        → list_any (same_written (record { name = written_name p a.name.local; value = a.value })) (with_prefixes ps attrs) ≡ false
    other_written p a h [] [] k f = refl
    other_written p a h [] (b ∷ attrs) k f = absurd k
    other_written p a h (q ∷ ps) [] k f = absurd k
    other_written p a h (q ∷ ps) (b ∷ attrs) k f =
        or_from _ (list_any (same_written (record { name = written_name p a.name.local; value = a.value })) (with_prefixes ps attrs))
        (other (written_name p a.name.local) (written_name q b.name.local) clash) (other_written p a h ps attrs k.1 (λ j c g e l. f (suc j) c g e l)) where
          clash : written_name p a.name.local ≡ written_name q b.name.local → ⊥
          clash e =
              let x = written_read qnames p a.name.local h.prefix h.local in
              let y = written_read qnames q b.name.local k.0.prefix k.0.local in
              f 0 b refl (ap (λ l. Some l) (sym y.1 ∙ ap prefix_of (sym e) ∙ x.1)) (sym x.2 ∙ ap local_of e ∙ y.2)

    once_written : (ps : List (List ℕ)) (attrs : List Attr) → ReadAll path ps attrs → Once ps attrs → has_twins same_written (with_prefixes ps attrs) ≡ false
    once_written [] [] h f = refl
    once_written [] (a ∷ attrs) h f = absurd h
    once_written (p ∷ ps) [] h f = absurd h
    once_written (p ∷ ps) (a ∷ attrs) h f =
        or_from _ (has_twins same_written (with_prefixes ps attrs))
        (other_written p a h.0 ps attrs h.1 (λ j b g e l. f 0 (suc j) a b p (omega arith) refl g refl e l))
        (once_written ps attrs h.1 (λ i j x y q l g k d e. f (suc i) (suc j) x y q (omega (arith, l)) g k d e))

    -- a declaration is no other attribute
    apart_one : (b : Binding) → is_prefix b.prefix ≡ true → (ps : List (List ℕ)) (attrs : List Attr) → ReadAll path ps attrs → list_any (same_written (declaring b)) (with_prefixes ps attrs) ≡ false
    apart_one b h [] [] k = refl
    apart_one b h [] (a ∷ attrs) k = absurd k
    apart_one b h (p ∷ ps) [] k = absurd k
    apart_one b h (p ∷ ps) (a ∷ attrs) k =
        or_from _ (list_any (same_written (declaring b)) (with_prefixes ps attrs))
        (other (declaring b).name (written_name p a.name.local) (λ e. clash (sym (declaring_prefix qnames b h) ∙ ap declared_prefix e ∙ k.0.none))) (apart_one b h ps attrs k.1) where
          clash : Some b.prefix ≡ None → ⊥
          clash e = absurd cc

    apart_all : (bs : List Binding) (ps : List (List ℕ)) (attrs : List Attr) → are_sound bs ≡ true → ReadAll path ps attrs → list_all (λ x. not (list_any (same_written x) (with_prefixes ps attrs))) (map declaring bs) ≡ true
    apart_all [] ps attrs h k = refl
    apart_all (b ∷ bs) ps attrs h k =
        let both = and_parts (is_sound_binding b) (are_sound bs) h in
        and_from _ (list_all (λ x. not (list_any (same_written x) (with_prefixes ps attrs))) (map declaring bs)) (ap not (apart_one b (sound_prefix b both.0).0 ps attrs k)) (apart_all bs ps attrs both.1 k)

  -- A tag

  module _ (element : w_laws.BindsElement) (path : List (List Binding)) (tag : HeldTag) (is : IsSoundTag tag) where
    abbrev in_force : List Binding
    in_force = declared_on path

    abbrev declared : List Binding
    declared = (dressed in_force tag).declared

    abbrev inner : List (List Binding)
    inner = path ++ declared ∷ []

    inner_is : declared_on inner ≡ inside in_force tag
    inner_is = declared_last path declared

    binding : is_good_binding tag.name.prefix tag.name.uri ≡ true
    binding = name_bound tag.name is.name

    element_uri : unwrap_or (n.bound inner tag.name.prefix) [] ≡ tag.name.uri
    element_uri = by_xml (bytes_eq tag.name.prefix (codes "xml")) refl where
      by_xml : (t : Bool) → bytes_eq tag.name.prefix (codes "xml") ≡ t → unwrap_or (n.bound inner tag.name.prefix) [] ≡ tag.name.uri
      by_xml true e =
          ap (λ o. unwrap_or o []) (ap (λ t. if t then Some n.xml_uri else n.unless_empty (n.last_uri (declared_on inner) tag.name.prefix)) e)
          ∙ sym (same-true tag.name.uri n.xml_uri (xml_by_prefix tag.name.prefix tag.name.uri binding e))
      by_xml false e =
          in_force_bound inner tag.name.prefix e ∙ ap (λ l. bound l tag.name.prefix) inner_is
          ∙ element in_force tag (word_same tag.name.prefix (codes "xml") refl ∙ e)

    element_known : is_prefix_bound inner tag.name.prefix ≡ true
    element_known = by_empty (n.is_empty tag.name.prefix) (n.is_empty tag.name.uri) refl refl (binding_is tag.name.prefix tag.name.uri binding).some where
      by_empty : (s t : Bool) → n.is_empty tag.name.prefix ≡ s → n.is_empty tag.name.uri ≡ t → (s || not t) ≡ true → (s || is_some (n.bound inner tag.name.prefix)) ≡ true
      by_empty true t e f h = refl
      by_empty false true e f h = absurd cc
      by_empty false false e f h = some_bound (n.bound inner tag.name.prefix) tag.name.uri element_uri (isn't_nothing tag.name.uri (empty_same tag.name.uri ∙ f))

  module _ (element : w_laws.BindsElement) (binds : w_laws.BindsAttributes) (once : w_laws.WritesOnce) (apart : w_laws.DeclaresOnce) (sound : DeclaresSound) where
    pub resolves_names : ResolvesNames
    resolves_names path tag h distinct small =
        let is = tag_is tag h in
        let bs = declared element path tag is in
        let ps = prefixes (with_element tag.name) tag.attrs in
        let name = written_name tag.name.prefix tag.name.local in
        let attrs = raw_attrs (dressed (declared_on path) tag) tag.attrs in
        let fields = with_prefixes ps tag.attrs in
        let good = sound (declared_on path) tag h in
        let local = local_of_good tag.name is.name in
        let written = written_read qnames tag.name.prefix tag.name.local local.0 local.1 in
        let within = inner element path tag is in
        let all : ReadAll within ps tag.attrs =
        read_all qnames within ps tag.attrs (pick_all (with_element tag.name) tag.attrs) good.1 is.attrs
        (λ i a q g k ne no_xml.
        let b = binds (declared_on path) tag i a q small g k ne (word_same q (codes "xml") refl ∙ no_xml) in
        (b.0, ap (λ l. bound l q) (inner_is element path tag is) ∙ b.1)) in
        let decls : declarations attrs ≡ bs =
        filter_map-append declaration (map declaring bs) fields ∙ (λ i. declaring_declared bs good.0 i ++ read_declared within ps tag.attrs all i) ∙ append-nil bs in
        let path_is : into path attrs ≡ within = ap (λ l. path ++ l ∷ []) decls in
        let names : has_bad_name name attrs ≡ false =
        ap not (and_from (is_written_qname name) (list_all (λ a. is_written_qname a.name) attrs) written.0
        (all_append (λ (a : RawAttr). is_written_qname a.name) (map declaring bs) fields (declaring_qnames bs good.0) (read_qnames within ps tag.attrs all))) in
        let bindings : has_bad_binding attrs ≡ false =
        none_append is_bad_binding (map declaring bs) fields (declaring_bindings bs good.0) (read_bindings within ps tag.attrs all) in
        let here : is_element_bound within name ≡ true =
        ap (λ q. not (bytes_eq q (codes "xmlns")) && is_prefix_bound within q) written.1
        ∙ and_from (not (bytes_eq tag.name.prefix (codes "xmlns"))) (is_prefix_bound within tag.name.prefix)
        (ap not (binding_is tag.name.prefix tag.name.uri (name_bound tag.name is.name)).xmlns) (element_known element path tag is) in
        let undeclared : has_undeclared_prefix within name attrs ≡ false =
        ap not (and_from (is_element_bound within name) (list_all (λ a. is_attribute_bound within a.name) attrs) here
        (all_append (λ (a : RawAttr). is_attribute_bound within a.name) (map declaring bs) fields (declaring_bound within bs good.0) (read_bound within ps tag.attrs all))) in
        let read : attributes within attrs ≡ reprefixed ps tag.attrs =
        filter_map-append (attribute within) (map declaring bs) fields ∙ (λ i. declaring_nothing within bs good.0 i ++ read_attributes within ps tag.attrs all i) in
        let duplicates : has_duplicate within attrs ≡ false =
        or_from (has_twins same_written attrs) (has_twins same_expanded (attributes within attrs))
        (twins_append same_written (map declaring bs) fields (declaring_once bs good.0 (apart (declared_on path) tag))
        (once_written within ps tag.attrs all (λ i j a b q l g k d e. once (declared_on path) tag i j a b q small (good_attributes tag.attrs is.attrs) distinct l g k d e))
        (apart_all within bs ps tag.attrs good.0 all))
        (ap (has_twins same_expanded) read ∙ once_expanded within ps tag.attrs distinct) in
        let scope : (if has_undeclared_prefix (into path attrs) name attrs then Some kind.UndeclaredPrefix else if has_duplicate (into path attrs) attrs then Some kind.DuplicateAttribute else None) ≡ None =
        (λ i. if has_undeclared_prefix (path_is i) name attrs then Some kind.UndeclaredPrefix else if has_duplicate (path_is i) attrs then Some kind.DuplicateAttribute else None)
        ∙ (λ i. if undeclared i then Some kind.UndeclaredPrefix else if duplicates i then Some kind.DuplicateAttribute else None) in (
          (λ i. if names i then Some kind.BadName else if bindings i then Some kind.BadBinding else if has_undeclared_prefix (into path attrs) name attrs then Some kind.UndeclaredPrefix else if has_duplicate (into path attrs) attrs then Some kind.DuplicateAttribute else None) ∙ scope,
          ap (λ l. expanded_name (element_name l name)) path_is
              ∙ (λ i. record { uri = unwrap_or (n.bound within (written.1 i)) []; local = written.2 i; prefix = [] })
              ∙ ap (λ u. record { uri = u; local = tag.name.local; prefix = [] }) (element_uri element path tag is),
          ap (λ l. map expanded_attr (attributes l attrs)) path_is ∙ ap (map expanded_attr) read ∙ expanded_read within ps tag.attrs all,
          decls,
        )
