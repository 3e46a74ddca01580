-- The names of a tag without a fault are names that a result may have.
use Rattle.std.proofs.Common.{◌≡◌, ◌⊎◌, ℕ, zero, suc, Bool, true, false, not, ◌&&◌, ◌||◌, ◌==◌, List, [], ◌∷◌, ◌++◌, Option, Some, None, take, refl, sym, ap, subst, ◌∙◌, arith, inl, inr, ⊎_elim, encode_utf8_all}
use Rattle.std.specs.Prelude.{if◌then◌else◌, bytes_eq, nat_lt, codes, is_some, unwrap_or, slice_get}
use Rattle.std.specs.Char.{IsScalar}
use Rattle.std.specs.List.{before_first, after_first, cons_option, list_all}
use Rattle.std.specs.Option.{option_map, option_map_or, option_or}
use Rattle.std.specs.Str.{chars, IsAscii}
use Rattle.std.proofs.lemmas.Bool.{and_from, and_parts, ltb-true, or_parts, or_right}
use Rattle.std.proofs.lemmas.Bool.Decides.{nat_tests}
use Rattle.std.proofs.lemmas.Slice.Eq.{bytes_eq-Decides}
use Rattle.std.proofs.lemmas.Str.{chars-encodes, chars-IsAscii, encodes-IsAscii}
use Rattle.std.proofs.Math.Utf8.{scalars}
use Rattle.stx_base.specs.Character.{is_char, is_name_char, is_name_start, is_ncname, is_ncname_char}
use Rattle.stx_base.specs.declared.name.Binding.{Binding}
use Rattle.read_back.specs.Sound.{is_sound_binding}
use Rattle.result_writer.specs.Allowed as writer
use Rattle.result_writer.specs.Allowed.{is_good_attribute, is_good_name, is_prefix, is_word}
use Rattle.xml_tokens.specs.declared.lexeme.RawAttr.{RawAttr}
use Rattle.xml_names.specs.QName.{has_colon, is_colon, is_qname, local_of, prefix_of}
use Rattle.xml_names.specs.Scope as scope
use Rattle.xml_names.specs.Scope.{attribute_name, bound, declared_on, element_name, last_uri, unless_empty, xml_uri, xmlns_uri}
use Rattle.xml_names.specs.Tag as tag
use Rattle.xml_names.specs.Tag.{attributes, declarations, declared_prefix, has_bad_binding, has_bad_name, has_undeclared_prefix, into, is_attribute_bound, is_bad_binding, is_element_bound, is_good_binding, is_prefix_bound, name_fault}
use Rattle.stx_engine.specs.inside.Accepted.{is_good_attr}

true_or_false : (t : Bool) → (t ≡ true) ⊎ (t ≡ false)
true_or_false true = inl refl
true_or_false false = inr refl

both_ways : (t : Bool) → t ≡ true → t ≡ false → ⊥
both_ways t h k = let e : true ≡ false = sym h ∙ k in cc

not_false : (t : Bool) → not t ≡ false → t ≡ true
not_false true h = refl
not_false false h = absurd cc

not_true : (t : Bool) → not t ≡ true → t ≡ false
not_true true h = absurd cc
not_true false h = refl

all4 : (a b c d : Bool) → a ≡ true → b ≡ true → c ≡ true → d ≡ true → (a && b && c && d) ≡ true
all4 a b c d h i j k = rw (h, i, j, k) refl

parts4 : (a b c d : Bool) → (a && b && c && d) ≡ true → (a ≡ true) × (b ≡ true) × (c ≡ true) × (d ≡ true)
parts4 true true true true h = (refl, refl, refl, refl)
parts4 false b c d h = absurd cc
parts4 true false c d h = absurd cc
parts4 true true false d h = absurd cc
parts4 true true true false h = absurd cc

all-append : {A : Type 0} (p : A → Bool) (xs ys : List A) → list_all p xs ≡ true → list_all p ys ≡ true → list_all p (xs ++ ys) ≡ true
all-append p [] ys h k = k
all-append p (x ∷ xs) ys h k = let both = and_parts (p x) (list_all p xs) h in and_from _ _ both.0 (all-append p xs ys both.1 k)

-- Words

char-scalar : (c : ℕ) → is_char c ≡ true → IsScalar c
char-scalar c h = grind (arith, nat_tests)

all-scalars : (text : List ℕ) → list_all is_char text ≡ true → scalars text ≡ true
all-scalars [] h = refl
all-scalars (c ∷ cs) h = let parts = and_parts (is_char c) (list_all is_char cs) h in and_from _ (scalars cs) (char-scalar c parts.0) (all-scalars cs parts.1)

ascii : (w : List ℕ) → list_all (λ b. nat_lt b 128) w ≡ true → IsAscii w
ascii [] h i = omega arith
ascii (b ∷ bs) h zero = let here = (and_parts (nat_lt b 128) (list_all (λ b. nat_lt b 128) bs) h).0 in ltb-true b 128 here
ascii (b ∷ bs) h (suc i) = ascii bs (and_parts (nat_lt b 128) (list_all (λ b. nat_lt b 128) bs) h).1 i

-- chars are spelled with the bytes of a word of ASCII where they are that word
word-is : (text word : List ℕ) → list_all is_char text ≡ true → list_all (λ b. nat_lt b 128) word ≡ true → is_word text word ≡ bytes_eq text word
word-is text word h a = by_same (bytes_eq text word) refl where
  by_same : (t : Bool) → bytes_eq text word ≡ t → is_word text word ≡ t
  by_same true k = (bytes_eq-Decides (encode_utf8_all text) word).1 (ap encode_utf8_all ((bytes_eq-Decides text word).0 k) ∙ encodes-IsAscii word (ascii word a))
  by_same false k = ⊎_elim
      (λ (y : is_word text word ≡ true).
      let same : text ≡ word = sym (chars-encodes text (all-scalars text h)) ∙ ap chars ((bytes_eq-Decides (encode_utf8_all text) word).0 y) ∙ chars-IsAscii word (ascii word a) in
      absurd (both_ways (bytes_eq text word) ((bytes_eq-Decides text word).1 same) k))
      (λ n. n) (true_or_false (is_word text word))

is-xml : (text : List ℕ) → list_all is_char text ≡ true → is_word text (codes "xml") ≡ bytes_eq text (codes "xml")
is-xml text h = word-is text (codes "xml") h refl

is-xmlns : (text : List ℕ) → list_all is_char text ≡ true → is_word text (codes "xmlns") ≡ bytes_eq text (codes "xmlns")
is-xmlns text h = word-is text (codes "xmlns") h refl

is-xml_uri : (text : List ℕ) → list_all is_char text ≡ true → is_word text xml_uri ≡ bytes_eq text xml_uri
is-xml_uri text h = word-is text xml_uri h refl

is-xmlns_uri : (text : List ℕ) → list_all is_char text ≡ true → is_word text xmlns_uri ≡ bytes_eq text xmlns_uri
is-xmlns_uri text h = word-is text xmlns_uri h refl

-- Names

name_char-char : (c : ℕ) → is_name_char c ≡ true → is_char c ≡ true
name_char-char c h = grind (arith, nat_tests)

ncname-chars : (p : List ℕ) → is_ncname p ≡ true → list_all is_char p ≡ true
ncname-chars p h = each p (and_parts (option_map_or is_name_start (slice_get p 0) false) (list_all is_ncname_char p) h).1 where
  each : (cs : List ℕ) → list_all is_ncname_char cs ≡ true → list_all is_char cs ≡ true
  each [] k = refl
  each (c ∷ cs) k =
      let parts = and_parts (is_ncname_char c) (list_all is_ncname_char cs) k in
      and_from _ _ (name_char-char c (and_parts (is_name_char c) (not (c == 0x3A)) parts.0).0) (each cs parts.1)

prefix-chars : (p : List ℕ) → is_prefix p ≡ true → list_all is_char p ≡ true
prefix-chars [] h = refl
prefix-chars (c ∷ cs) h = ncname-chars (c ∷ cs) h

-- a QName's parts
local-good : (name : List ℕ) → is_qname name ≡ true → is_ncname (local_of name) ≡ true
local-good name h = (and_parts (not (has_colon name) || is_ncname (prefix_of name)) (is_ncname (local_of name)) h).1

no-colon-prefix : (name : List ℕ) → has_colon name ≡ false → prefix_of name ≡ []
no-colon-prefix name e = ap (λ t. if t then before_first is_colon name else []) e

no-colon-local : (name : List ℕ) → has_colon name ≡ false → local_of name ≡ name
no-colon-local name e = ap (λ t. if t then after_first is_colon name else name) e

prefix-good : (name : List ℕ) → is_qname name ≡ true → is_prefix (prefix_of name) ≡ true
prefix-good name h = by_colon (has_colon name) refl (and_parts (not (has_colon name) || is_ncname (prefix_of name)) (is_ncname (local_of name)) h).0 where
  by_colon : (t : Bool) → has_colon name ≡ t → (not t || is_ncname (prefix_of name)) ≡ true → is_prefix (prefix_of name) ≡ true
  by_colon true e k = or_right (writer.is_empty (prefix_of name)) (is_ncname (prefix_of name)) k
  by_colon false e k = ap is_prefix (no-colon-prefix name e)

-- without a prefix the local part is the whole name
whole-local : (name : List ℕ) → is_qname name ≡ true → prefix_of name ≡ [] → local_of name ≡ name
whole-local name h none = by_colon (has_colon name) refl (and_parts (not (has_colon name) || is_ncname (prefix_of name)) (is_ncname (local_of name)) h).0 where
  by_colon : (t : Bool) → has_colon name ≡ t → (not t || is_ncname (prefix_of name)) ≡ true → local_of name ≡ name
  by_colon true e k = absurd (both_ways (is_ncname (prefix_of name)) k (ap is_ncname none))
  by_colon false e k = no-colon-local name e

-- Bindings

abbrev pub is_good_declaration : Binding → Bool
is_good_declaration b = is_good_binding b.prefix b.uri && (is_prefix b.prefix && list_all is_char b.uri)

-- a URI that may stand for a prefix
record GoodUri (p u : List ℕ) : Type 0 where
  xml : writer.agree (bytes_eq p (codes "xml")) (bytes_eq u xml_uri) ≡ true
  xmlns : bytes_eq u xmlns_uri ≡ false
  char : list_all is_char u ≡ true

agree-same : (a b : Bool) → tag.agree a b ≡ writer.agree a b
agree-same true b = refl
agree-same false b = refl

empty-same : (p : List ℕ) → scope.is_empty p ≡ writer.is_empty p
empty-same [] = refl
empty-same (c ∷ cs) = refl

declared-uri : (p u : List ℕ) → is_good_declaration (record { prefix = p; uri = u }) ≡ true → GoodUri p u
declared-uri p u h =
    let b = and_parts (is_good_binding p u) (is_prefix p && list_all is_char u) h in
    let c = parts4 (not (bytes_eq p (codes "xmlns"))) (tag.agree (bytes_eq p (codes "xml")) (bytes_eq u xml_uri)) (not (bytes_eq u xmlns_uri)) (scope.is_empty p || not (scope.is_empty u)) b.0 in
    record {
      xml = sym (agree-same (bytes_eq p (codes "xml")) (bytes_eq u xml_uri)) ∙ c.1;
      xmlns = not_true (bytes_eq u xmlns_uri) c.2;
      char = (and_parts (is_prefix p) (list_all is_char u) b.1).1;
    }

last-good : (bs : List Binding) (p u : List ℕ) → list_all is_good_declaration bs ≡ true → last_uri bs p ≡ Some u → is_good_declaration (record { prefix = p; uri = u }) ≡ true
last-good [] p u h e = absurd cc
last-good (b ∷ bs) p u h e =
    let both = and_parts (is_good_declaration b) (list_all is_good_declaration bs) h in
    by_last (last_uri bs p) refl e both.0 (last-good bs p u both.1) where
      by_same : (t : Bool) → bytes_eq b.prefix p ≡ t → (if t then Some b.uri else None) ≡ Some u → is_good_declaration b ≡ true → is_good_declaration (record { prefix = p; uri = u }) ≡ true
      by_same true s k good =
          let value : b.uri ≡ u = cc in
          subst (λ x. is_good_declaration (record { prefix = x; uri = u }) ≡ true) ((bytes_eq-Decides b.prefix p).0 s)
          (subst (λ x. is_good_declaration (record { prefix = b.prefix; uri = x }) ≡ true) value good)
      by_same false s k good = absurd cc

      by_last : (o : Option (List ℕ)) → last_uri bs p ≡ o → option_or o (if bytes_eq b.prefix p then Some b.uri else None) ≡ Some u → is_good_declaration b ≡ true
          → (last_uri bs p ≡ Some u → is_good_declaration (record { prefix = p; uri = u }) ≡ true) → is_good_declaration (record { prefix = p; uri = u }) ≡ true
      by_last None at k good others = by_same (bytes_eq b.prefix p) refl k good
      by_last (Some v) at k good others = others (at ∙ k)

-- what is bound is good, and not empty
record GoodBound (p : List ℕ) (o : Option (List ℕ)) : Type 0 where
  uri : GoodUri p (unwrap_or o [])
  some : is_some o ≡ true → writer.is_empty (unwrap_or o []) ≡ false

no-uri : (p : List ℕ) → bytes_eq p (codes "xml") ≡ false → GoodUri p []
no-uri p e = record { xml = ap (λ t. writer.agree t false) e; xmlns = refl; char = refl }

unbound : (p : List ℕ) → bytes_eq p (codes "xml") ≡ false → GoodBound p None
unbound p e = record { uri = no-uri p e; some = λ h. absurd cc }

bound-good : (path : List (List Binding)) (p : List ℕ) → list_all is_good_declaration (declared_on path) ≡ true → GoodBound p (bound path p)
bound-good path p good = by_xml (bytes_eq p (codes "xml")) refl where
  by_empty : (u : List ℕ) → bytes_eq p (codes "xml") ≡ false → GoodUri p u → GoodBound p (unless_empty (Some u))
  by_empty [] e h = unbound p e
  by_empty (c ∷ cs) e h = record { uri = h; some = λ k. refl }

  by_last : (o : Option (List ℕ)) → last_uri (declared_on path) p ≡ o → bytes_eq p (codes "xml") ≡ false → GoodBound p (unless_empty o)
  by_last None at e = unbound p e
  by_last (Some u) at e = by_empty u e (declared-uri p u (last-good (declared_on path) p u good at))

  by_xml : (t : Bool) → bytes_eq p (codes "xml") ≡ t → GoodBound p (if t then Some xml_uri else unless_empty (last_uri (declared_on path) p))
  by_xml true e = record {
    uri = record { xml = ap (λ t. writer.agree t (bytes_eq xml_uri xml_uri)) e; xmlns = refl; char = refl };
    some = λ k. refl;
  }
  by_xml false e = by_last (last_uri (declared_on path) p) refl e

-- a prefix and its URI are well bound
well-bound : (p u local : List ℕ) → list_all is_char p ≡ true → GoodUri p u → bytes_eq p (codes "xmlns") ≡ false → (writer.is_empty p || not (writer.is_empty u)) ≡ true →
    writer.is_well_bound (record { uri = u; local = local; prefix = p }) ≡ true
well-bound p u local char good other some = all4 (not (is_word p (codes "xmlns"))) (writer.agree (is_word p (codes "xml")) (is_word u xml_uri)) (not (is_word u xmlns_uri)) (writer.is_empty p || not (writer.is_empty u))
    (ap not (is-xmlns p char ∙ other))
    (ap (λ t. writer.agree t (is_word u xml_uri)) (is-xml p char) ∙ ap (writer.agree (bytes_eq p (codes "xml"))) (is-xml_uri u good.char) ∙ good.xml)
    (ap not (is-xmlns_uri u good.char ∙ good.xmlns))
    some

-- a bound prefix has a namespace
bound-some : (path : List (List Binding)) (p : List ℕ) → list_all is_good_declaration (declared_on path) ≡ true → is_prefix_bound path p ≡ true → (writer.is_empty p || not (writer.is_empty (unwrap_or (bound path p) []))) ≡ true
bound-some path [] good h = refl
bound-some path (c ∷ cs) good h = ap not ((bound-good path (c ∷ cs) good).some h)

-- Elements

pub element-good : (path : List (List Binding)) (name : List ℕ) → list_all is_good_declaration (declared_on path) ≡ true → is_qname name ≡ true → is_element_bound path name ≡ true → is_good_name (element_name path name) ≡ true
element-good path name good q h =
    let b = and_parts (not (bytes_eq (prefix_of name) (codes "xmlns"))) (is_prefix_bound path (prefix_of name)) h in
    let p = prefix-good name q in
    and_from _ _ (and_from _ _ p (local-good name q))
    (well-bound (prefix_of name) (unwrap_or (bound path (prefix_of name)) []) (local_of name) (prefix-chars (prefix_of name) p) (bound-good path (prefix_of name) good).uri
    (not_true (bytes_eq (prefix_of name) (codes "xmlns")) b.0) (bound-some path (prefix_of name) good b.1))

-- Attributes

-- an attribute without a prefix has no namespace
attribute-uri : (path : List (List Binding)) (p : List ℕ) → list_all is_good_declaration (declared_on path) ≡ true → is_prefix_bound path p ≡ true →
    GoodUri p (if scope.is_empty p then [] else unwrap_or (bound path p) []) × ((writer.is_empty p || not (writer.is_empty (if scope.is_empty p then [] else unwrap_or (bound path p) []))) ≡ true)
attribute-uri path [] good h = (no-uri [] refl, refl)
attribute-uri path (c ∷ cs) good h = ((bound-good path (c ∷ cs) good).uri, bound-some path (c ∷ cs) good h)

undeclared : (s t : Bool) (local : List ℕ) → is_some (if s then Some [] else if t then Some local else None) ≡ false → (s ≡ false) × (t ≡ false)
undeclared true t local h = absurd cc
undeclared false true local h = absurd cc
undeclared false false local h = (refl, refl)

-- it isn't written `xmlns`
no-declaration : (name p : List ℕ) → prefix_of name ≡ p → is_qname name ≡ true → bytes_eq name (codes "xmlns") ≡ false → not (writer.is_empty p && is_word (local_of name) (codes "xmlns")) ≡ true
no-declaration name [] e q other =
    let local = whole-local name q e in
    ap not (is-xmlns (local_of name) (ncname-chars (local_of name) (local-good name q)) ∙ ap (λ l. bytes_eq l (codes "xmlns")) local ∙ other)
no-declaration name (c ∷ cs) e q other = refl

attribute-good : (path : List (List Binding)) (name : List ℕ) → list_all is_good_declaration (declared_on path) ≡ true → is_qname name ≡ true → is_some (declared_prefix name) ≡ false → is_attribute_bound path name ≡ true
    → is_good_attribute (attribute_name path name) ≡ true
attribute-good path name good q none h =
    let p = prefix-good name q in
    let d = undeclared (bytes_eq name (codes "xmlns")) (bytes_eq (prefix_of name) (codes "xmlns")) (local_of name) none in
    let prefixed : is_prefix_bound path (prefix_of name) ≡ true = sym (ap (λ t. t || is_prefix_bound path (prefix_of name)) none) ∙ h in
    let u = attribute-uri path (prefix_of name) good prefixed in
    and_from _ _
    (and_from _ _ (and_from _ _ p (local-good name q))
    (well-bound (prefix_of name) (if scope.is_empty (prefix_of name) then [] else unwrap_or (bound path (prefix_of name)) []) (local_of name) (prefix-chars (prefix_of name) p) u.0 d.1 u.1))
    (no-declaration name (prefix_of name) refl q d.0)

abbrev names_all : List RawAttr → Bool
names_all attrs = list_all (λ (a : RawAttr). is_qname a.name) attrs

abbrev values_all : List RawAttr → Bool
values_all attrs = list_all (λ (a : RawAttr). list_all is_char a.value) attrs

pub attributes-good : (path : List (List Binding)) (attrs : List RawAttr) → list_all is_good_declaration (declared_on path) ≡ true → names_all attrs ≡ true → values_all attrs ≡ true
    → list_all (λ (a : RawAttr). is_attribute_bound path a.name) attrs ≡ true → list_all is_good_attr (attributes path attrs) ≡ true
attributes-good path [] good q v h = refl
attributes-good path (a ∷ attrs) good q v h =
    let qs = and_parts (is_qname a.name) (names_all attrs) q in
    let vs = and_parts (list_all is_char a.value) (values_all attrs) v in
    let hs = and_parts (is_attribute_bound path a.name) (list_all (λ (a : RawAttr). is_attribute_bound path a.name) attrs) h in
    by_declared (is_some (declared_prefix a.name)) refl qs.0 vs.0 hs.0 (attributes-good path attrs good qs.1 vs.1 hs.1) where
      by_declared : (t : Bool) → is_some (declared_prefix a.name) ≡ t → is_qname a.name ≡ true → list_all is_char a.value ≡ true → is_attribute_bound path a.name ≡ true
          → list_all is_good_attr (attributes path attrs) ≡ true
          → list_all is_good_attr (cons_option (if t then None else Some (record { name = attribute_name path a.name; value = a.value })) (attributes path attrs)) ≡ true
      by_declared true e q v h others = others
      by_declared false e q v h others = and_from _ _ (and_from _ _ (attribute-good path a.name good q e h) v) others

-- Declarations

abbrev IsPrefixed : Option (List ℕ) → Type 0
IsPrefixed None = Unit {0}
IsPrefixed (Some p) = is_prefix p ≡ true

declared-named : (name : List ℕ) → is_qname name ≡ true → IsPrefixed (declared_prefix name)
declared-named name q = by_tests (bytes_eq name (codes "xmlns")) (bytes_eq (prefix_of name) (codes "xmlns")) where
  by_tests : (s t : Bool) → IsPrefixed (if s then Some [] else if t then Some (local_of name) else None)
  by_tests true t = refl
  by_tests false true = or_right (writer.is_empty (local_of name)) (is_ncname (local_of name)) (local-good name q)
  by_tests false false = tt

pub declarations-good : (attrs : List RawAttr) → names_all attrs ≡ true → values_all attrs ≡ true → has_bad_binding attrs ≡ false → list_all is_good_declaration (declarations attrs) ≡ true
declarations-good [] q v h = refl
declarations-good (a ∷ attrs) q v h =
    let qs = and_parts (is_qname a.name) (names_all attrs) q in
    let vs = and_parts (list_all is_char a.value) (values_all attrs) v in
    let hs = or_parts (is_bad_binding a) (has_bad_binding attrs) h in
    by_declared (declared_prefix a.name) (declared-named a.name qs.0) vs.0 hs.0 (declarations-good attrs qs.1 vs.1 hs.1) where
      by_declared : (o : Option (List ℕ)) → IsPrefixed o → list_all is_char a.value ≡ true → option_map_or (λ p. not (is_good_binding p a.value)) o false ≡ false
          → list_all is_good_declaration (declarations attrs) ≡ true
          → list_all is_good_declaration (cons_option (option_map (λ p. record { prefix = p; uri = a.value }) o) (declarations attrs)) ≡ true
      by_declared None p v h others = others
      by_declared (Some x) p v h others = and_from _ _ (and_from _ _ (not_false (is_good_binding x a.value) h) (and_from _ _ p v)) others

-- Paths

abbrev pub is_good_path : List (List Binding) → Bool
is_good_path path = list_all (λ bs. list_all is_good_declaration bs) path

flat-good : (path : List (List Binding)) → is_good_path path ≡ true → list_all is_good_declaration (declared_on path) ≡ true
flat-good [] h = refl
flat-good (bs ∷ path) h =
    let both = and_parts (list_all is_good_declaration bs) (is_good_path path) h in all-append is_good_declaration bs (declared_on path) both.0 (flat-good path both.1)

pub take-good : (n : ℕ) (path : List (List Binding)) → is_good_path path ≡ true → is_good_path (take n path) ≡ true
take-good zero [] h = refl
take-good zero (bs ∷ path) h = refl
take-good (suc n) [] h = refl
take-good (suc n) (bs ∷ path) h = let both = and_parts (list_all is_good_declaration bs) (is_good_path path) h in and_from _ _ both.0 (take-good n path both.1)

-- Tags

none-if : {K : Type 0} (t : Bool) (k : K) (o : Option K) → (if t then Some k else o) ≡ None → (t ≡ false) × (o ≡ None)
none-if true k o h = absurd cc
none-if false k o h = (refl, h)

-- what a tag without a fault says
pub record GoodTag (path : List (List Binding)) (name : List ℕ) (attrs : List RawAttr) : Type 0 where
  pub name_good : is_good_name (element_name (into path attrs) name) ≡ true
  pub attrs_good : list_all is_good_attr (attributes (into path attrs) attrs) ≡ true
  pub decls_good : list_all is_good_declaration (declarations attrs) ≡ true
  pub path_good : is_good_path (into path attrs) ≡ true

pub tag-good : (path : List (List Binding)) (name : List ℕ) (attrs : List RawAttr) → is_good_path path ≡ true → values_all attrs ≡ true → name_fault path name attrs ≡ None → GoodTag path name attrs
tag-good path name attrs good v h =
    let a = none-if (has_bad_name name attrs) _ _ h in
    let b = none-if (has_bad_binding attrs) _ _ a.1 in
    let c = none-if (has_undeclared_prefix (into path attrs) name attrs) _ _ b.1 in
    let q = and_parts (is_qname name) (names_all attrs) (not_false (is_qname name && names_all attrs) a.0) in
    let u = and_parts (is_element_bound (into path attrs) name) (list_all (λ (x : RawAttr). is_attribute_bound (into path attrs) x.name) attrs) (not_false _ c.0) in
    let decls = declarations-good attrs q.1 v b.0 in
    let within = all-append (λ bs. list_all is_good_declaration bs) path (declarations attrs ∷ []) good (and_from _ _ decls refl) in
    let flat = flat-good (into path attrs) within in
    record {
      name_good = element-good (into path attrs) name flat q.0 u.0;
      attrs_good = attributes-good (into path attrs) attrs flat q.1 v u.1;
      decls_good = decls;
      path_good = within;
    }

-- what is declared is what a document may declare
pub declared-soundly : (bs : List Binding) → list_all is_good_declaration bs ≡ true → list_all is_sound_binding bs ≡ true
declared-soundly [] h = refl
declared-soundly (b ∷ bs) h =
    let both = and_parts (is_good_declaration b) (list_all is_good_declaration bs) h in
    let good = and_parts (is_good_binding b.prefix b.uri) (is_prefix b.prefix && list_all is_char b.uri) both.0 in
    let parts = and_parts (is_prefix b.prefix) (list_all is_char b.uri) good.1 in
    and_from _ _ (and_from _ _ (and_from _ _ parts.0 parts.1) good.0) (declared-soundly bs both.1)
