-- Tags that have no fault.
use Rattle.std.proofs.Common.{◌≡◌, ◌≢◌, ◌⊎◌, inl, inr, ℕ, zero, suc, ◌<◌, Bool, true, false, not, ◌||◌, ◌&&◌, List, [], ◌∷◌, ◌++◌, Option, Some, None, refl, sym, ap, ◌∙◌, subst, codes, arith}
use Rattle.std.specs.Prelude.{is_some, unwrap_or, slice_get, if◌then◌else◌}
use Rattle.std.specs.List.{list_all, list_any, filter_map, cons_option}
use Rattle.std.specs.Option.{option_map}
use Rattle.std.proofs.lemmas.Bool.{and_parts, or_parts, not-false, cases_Bool}
use Rattle.stx_base.specs.Character.{is_ncname}
use Rattle.stx_base.specs.declared.fault.XmlKind.{XmlKind}
use Rattle.stx_base.specs.declared.fault.XmlKind.TheVariants as kind
use Rattle.stx_base.specs.declared.name.Attr.{Attr}
use Rattle.stx_base.specs.declared.name.Binding.{Binding}
use Rattle.xml_tokens.specs.declared.lexeme.RawAttr.{RawAttr}
use Rattle.xml_names.specs.QName.{prefix_of, local_of, is_qname}
use Rattle.xml_names.specs.Scope.{same, bound, is_empty, attribute_name}
use Rattle.xml_names.specs.Tag.{has_bad_name, has_bad_binding, has_undeclared_prefix, has_duplicate, has_twins, same_written, same_expanded, name_fault, scope_fault, into, attributes, attribute, declaration, declared_prefix, is_element_bound, is_attribute_bound, is_prefix_bound, resolved}
use Rattle.xml_names.specs.Laws.{DefaultsNoAttributes}
use Rattle.xml_names.proofs.Nearest.{bound-full}
use Rattle.xml_names.proofs.QNames.{spelled}
use Rattle.xml_names.proofs.Texts.{same-true, same-refl}

no-fault : (t : Bool) (k : XmlKind) (o : Option XmlKind) → (if t then Some k else o) ≡ None → (t ≡ false) × (o ≡ None)
no-fault true k o h = absurd (cc)
no-fault false k o h = (refl, h)

module _ (path : List (List Binding)) (name : List ℕ) (attrs : List RawAttr) (taken : name_fault path name attrs ≡ None) where
  first : (has_bad_name name attrs ≡ false) × ((if has_bad_binding attrs then Some kind.BadBinding else scope_fault (into path attrs) name attrs) ≡ None)
  first = no-fault (has_bad_name name attrs) kind.BadName _ taken

  second : (has_bad_binding attrs ≡ false) × (scope_fault (into path attrs) name attrs ≡ None)
  second = no-fault (has_bad_binding attrs) kind.BadBinding _ first.1

  third : (has_undeclared_prefix (into path attrs) name attrs ≡ false) × ((if has_duplicate (into path attrs) attrs then Some kind.DuplicateAttribute else None) ≡ None)
  third = no-fault (has_undeclared_prefix (into path attrs) name attrs) kind.UndeclaredPrefix _ second.1

  fourth : has_duplicate (into path attrs) attrs ≡ false
  fourth = (no-fault (has_duplicate (into path attrs) attrs) kind.DuplicateAttribute None third.1).0

  pub are-qnames : list_all (λ a. is_qname a.name) attrs ≡ true
  are-qnames = (and_parts (is_qname name) (list_all (λ a. is_qname a.name) attrs) (not-false _ first.0)).1

  bounds : (is_element_bound (into path attrs) name ≡ true) × (list_all (λ a. is_attribute_bound (into path attrs) a.name) attrs ≡ true)
  bounds = and_parts (is_element_bound (into path attrs) name) (list_all (λ a. is_attribute_bound (into path attrs) a.name) attrs) (not-false _ third.0)

  twins : (has_twins same_written attrs ≡ false) × (has_twins same_expanded (attributes (into path attrs) attrs) ≡ false)
  twins = or_parts (has_twins same_written attrs) (has_twins same_expanded (attributes (into path attrs) attrs)) fourth

-- a prefix that is bound has a namespace
has-uri : (path : List (List Binding)) (p : List ℕ) → is_prefix_bound path p ≡ true → p ≢ [] → unwrap_or (bound path p) [] ≢ []
has-uri path [] h ne = absurd (ne refl)
has-uri path (c ∷ cs) h ne = bound-full path (c ∷ cs) h

pub binds-element : (path : List (List Binding)) (name : List ℕ) (attrs : List RawAttr) → name_fault path name attrs ≡ None
    → (resolved path name attrs).name.prefix ≢ [] → (resolved path name attrs).name.uri ≢ []
binds-element path name attrs taken ne =
    let parts = and_parts (not (same (prefix_of name) (codes "xmlns"))) (is_prefix_bound (into path attrs) (prefix_of name)) (bounds path name attrs taken).0 in
    has-uri (into path attrs) (prefix_of name) parts.1 ne

-- what an item of a mapped list comes of
module _ {X Y : Type 0} (f : X → Option Y) (p : X → Bool) where
  pub comes-of : (xs : List X) (i : ℕ) (y : Y) → list_all p xs ≡ true → slice_get (filter_map f xs) i ≡ Some y → (x : X) × (f x ≡ Some y) × (p x ≡ true)
  comes-of [] i y all h = absurd (cc)
  comes-of (x ∷ xs) i y all h =
      let parts = and_parts (p x) (list_all p xs) all in
      by_case (f x) i refl (λ k e. comes-of xs k y parts.1 e) h where
        by_case : (o : Option Y) (k : ℕ) → f x ≡ o → ((n : ℕ) → slice_get (filter_map f xs) n ≡ Some y → (x : X) × (f x ≡ Some y) × (p x ≡ true))
            → slice_get (cons_option o (filter_map f xs)) k ≡ Some y → (x : X) × (f x ≡ Some y) × (p x ≡ true)
        by_case None k e again at = again k at
        by_case (Some z) zero e again at = (x, e ∙ at, (and_parts (p x) (list_all p xs) all).0)
        by_case (Some z) (suc k) e again at = again k at

-- items that aren't alike
module _ {X : Type 0} (alike : X → X → Bool) where
  none-alike : (x : X) (xs : List X) (j : ℕ) (b : X) → list_any (alike x) xs ≡ false → slice_get xs j ≡ Some b → alike x b ≡ false
  none-alike x [] j b none at = absurd (cc)
  none-alike x (y ∷ ys) zero b none at =
      let e : y ≡ b = cc in
      ap (alike x) (sym e) ∙ (or_parts (alike x y) (list_any (alike x) ys) none).0
  none-alike x (y ∷ ys) (suc j) b none at = none-alike x ys j b (or_parts (alike x y) (list_any (alike x) ys) none).1 at

  pub apart : (xs : List X) (i j : ℕ) (a b : X) → has_twins alike xs ≡ false → i < j → slice_get xs i ≡ Some a → slice_get xs j ≡ Some b → alike a b ≡ false
  apart [] i j a b none less at bt = absurd (cc)
  apart (x ∷ xs) zero zero a b none less at bt = absurd (omega arith)
  apart (x ∷ xs) zero (suc j) a b none less at bt =
      let e : x ≡ a = cc in
      ap (λ y. alike y b) (sym e) ∙ none-alike x xs j b (or_parts (list_any (alike x) xs) (has_twins alike xs) none).0 bt
  apart (x ∷ xs) (suc i) zero a b none less at bt = absurd (omega arith)
  apart (x ∷ xs) (suc i) (suc j) a b none less at bt = apart xs i j a b (or_parts (list_any (alike x) xs) (has_twins alike xs) none).1 (omega arith) at bt

pub names-once : (path : List (List Binding)) (name : List ℕ) (attrs : List RawAttr) (i j : ℕ) (a b : Attr) → name_fault path name attrs ≡ None → i < j
    → slice_get (resolved path name attrs).attrs i ≡ Some a → slice_get (resolved path name attrs).attrs j ≡ Some b → a.name.local ≡ b.name.local → a.name.uri ≢ b.name.uri
names-once path name attrs i j a b taken less at bt local uri =
    let new = apart same_expanded (attributes (into path attrs) attrs) i j a b (twins path name attrs taken).1 less at bt in
    let alike : same_expanded a b ≡ true =
    ap (λ u. same u b.name.uri && same a.name.local b.name.local) uri ∙ ap (λ t. t && same a.name.local b.name.local) (same-refl b.name.uri)
    ∙ ap (λ l. same l b.name.local) local ∙ same-refl b.name.local in
    let never : true ≡ false = sym alike ∙ new in
    cc

-- an attribute that is one has a name in which the prefix is bound
attribute-bound : (path : List (List Binding)) (x : RawAttr) (a : Attr) → attribute path x ≡ Some a → is_attribute_bound path x.name ≡ true → a.name.prefix ≢ [] → a.name.uri ≢ []
attribute-bound path x a e h = by_test (is_some (declared_prefix x.name)) refl e h where
  made : Attr
  made = record { name = attribute_name path x.name; value = x.value }

  full : (p : List ℕ) → is_prefix_bound path p ≡ true → p ≢ [] → (if is_empty p then [] else unwrap_or (bound path p) []) ≢ []
  full [] b ne = absurd (ne refl)
  full (c ∷ cs) b ne = bound-full path (c ∷ cs) b

  by_test : (t : Bool) → is_some (declared_prefix x.name) ≡ t → (if t then None else Some made) ≡ Some a → (t || is_prefix_bound path (prefix_of x.name)) ≡ true → a.name.prefix ≢ [] → a.name.uri ≢ []
  by_test true d s b = absurd (cc)
  by_test false d s b = let is : made ≡ a = cc in subst (λ y. y.name.prefix ≢ [] → y.name.uri ≢ []) is (full (prefix_of x.name) b)

pub binds-attributes : (path : List (List Binding)) (name : List ℕ) (attrs : List RawAttr) (i : ℕ) (a : Attr) → name_fault path name attrs ≡ None
    → slice_get (resolved path name attrs).attrs i ≡ Some a → a.name.prefix ≢ [] → a.name.uri ≢ []
binds-attributes path name attrs i a taken at =
    let here = into path attrs in
    let from = comes-of (attribute here) (λ x. is_attribute_bound here x.name) attrs i a (bounds path name attrs taken).1 at in
    attribute-bound here from.0 a from.1 from.2

-- one without a prefix is in no namespace
unprefixed : (path : List (List Binding)) (x : RawAttr) (a : Attr) → attribute path x ≡ Some a → a.name.prefix ≡ [] → a.name.uri ≡ []
unprefixed path x a e = by_test (is_some (declared_prefix x.name)) e where
  made : Attr
  made = record { name = attribute_name path x.name; value = x.value }

  none : (p : List ℕ) → p ≡ [] → (if is_empty p then [] else unwrap_or (bound path p) []) ≡ []
  none [] h = refl
  none (c ∷ cs) h = absurd (cc)

  by_test : (t : Bool) → (if t then None else Some made) ≡ Some a → a.name.prefix ≡ [] → a.name.uri ≡ []
  by_test true s = absurd (cc)
  by_test false s = let is : made ≡ a = cc in subst (λ y. y.name.prefix ≡ [] → y.name.uri ≡ []) is (none (prefix_of x.name))

pub defaults-no-attributes : DefaultsNoAttributes
defaults-no-attributes path name attrs i a at =
    let from = comes-of (attribute (into path attrs)) (λ x. true) attrs i a (any attrs) at in
    unprefixed (into path attrs) from.0 a from.1 where
      any : (xs : List RawAttr) → list_all (λ x. true) xs ≡ true
      any [] = refl
      any (x ∷ xs) = any xs

-- what two items of a mapped list come of, where no two are alike
pub record ComeApart {X Y : Type 0} (f : X → Option Y) (p : X → Bool) (alike : X → X → Bool) (y z : Y) : Type 0 where
  pub one : X
  pub other : X
  pub one-is : f one ≡ Some y
  pub other-is : f other ≡ Some z
  pub differ : alike one other ≡ false
  pub one-passes : p one ≡ true
  pub other-passes : p other ≡ true

module _ {X Y : Type 0} (f : X → Option Y) (p : X → Bool) (alike : X → X → Bool) where
  later : (x : X) (xs : List X) (j : ℕ) (z : Y) → list_any (alike x) xs ≡ false → list_all p xs ≡ true → slice_get (filter_map f xs) j ≡ Some z
      → (w : X) × (f w ≡ Some z) × (p w ≡ true) × (alike x w ≡ false)
  later x [] j z none all h = absurd (cc)
  later x (w ∷ ws) j z none all h =
      let ones = and_parts (p w) (list_all p ws) all in
      let others = or_parts (alike x w) (list_any (alike x) ws) none in
      by_case (f w) j refl (λ k e. later x ws k z others.1 ones.1 e) h where
        by_case : (o : Option Y) (k : ℕ) → f w ≡ o
            → ((n : ℕ) → slice_get (filter_map f ws) n ≡ Some z → (v : X) × (f v ≡ Some z) × (p v ≡ true) × (alike x v ≡ false))
            → slice_get (cons_option o (filter_map f ws)) k ≡ Some z → (v : X) × (f v ≡ Some z) × (p v ≡ true) × (alike x v ≡ false)
        by_case None k e again at = again k at
        by_case (Some y) zero e again at = (w, e ∙ at, (and_parts (p w) (list_all p ws) all).0, (or_parts (alike x w) (list_any (alike x) ws) none).0)
        by_case (Some y) (suc k) e again at = again k at

  pub come-apart : (xs : List X) (i j : ℕ) (y z : Y) → has_twins alike xs ≡ false → list_all p xs ≡ true → i < j
      → slice_get (filter_map f xs) i ≡ Some y → slice_get (filter_map f xs) j ≡ Some z → ComeApart f p alike y z
  come-apart [] i j y z none all less at bt = absurd (cc)
  come-apart (x ∷ xs) i j y z none all less at bt =
      let ones = and_parts (p x) (list_all p xs) all in
      let others = or_parts (list_any (alike x) xs) (has_twins alike xs) none in
      by_case (f x) i j refl (λ m n l e g. come-apart xs m n y z others.1 ones.1 l e g) less at bt where
        by_case : (o : Option Y) (m n : ℕ) → f x ≡ o
            → ((k l : ℕ) → k < l → slice_get (filter_map f xs) k ≡ Some y → slice_get (filter_map f xs) l ≡ Some z → ComeApart f p alike y z)
            → m < n → slice_get (cons_option o (filter_map f xs)) m ≡ Some y → slice_get (cons_option o (filter_map f xs)) n ≡ Some z → ComeApart f p alike y z
        by_case None m n e again l g h = again m n l g h
        by_case (Some w) zero zero e again l g h = absurd (omega arith)
        by_case (Some w) (suc m) zero e again l g h = absurd (omega arith)
        by_case (Some w) (suc m) (suc n) e again l g h = again m n (omega arith) g h
        by_case (Some w) zero (suc n) e again l g h =
            let ones = and_parts (p x) (list_all p xs) all in
            let others = or_parts (list_any (alike x) xs) (has_twins alike xs) none in
            let found = later x xs n z others.0 ones.1 h in
            record { one = x; other = found.0; one-is = e ∙ g; other-is = found.1; differ = found.3; one-passes = ones.0; other-passes = found.2 }

-- the name of an attribute that declares a prefix
abbrev declaring : (prefix : List ℕ) → List ℕ
declaring prefix = if is_empty prefix then codes "xmlns" else codes "xmlns" ++ 0x3A ∷ prefix

prefixed : (name p : List ℕ) → is_qname name ≡ true → prefix_of name ≡ codes "xmlns" → local_of name ≡ p → name ≡ declaring p
prefixed name p good q l = by_case (spelled name good).1 where
  long : (ls : List ℕ) → is_ncname ls ≡ true → codes "xmlns" ++ 0x3A ∷ ls ≡ declaring ls
  long [] h = absurd (cc)
  long (c ∷ cs) h = refl

  by_case : ((prefix_of name ≡ []) × (name ≡ local_of name)) ⊎ ((is_ncname (prefix_of name) ≡ true) × (name ≡ prefix_of name ++ 0x3A ∷ local_of name)) → name ≡ declaring p
  by_case (inl alone) = let never : codes "xmlns" ≡ [] = sym q ∙ alone.0 in absurd (cc)
  by_case (inr both) = both.1 ∙ ap (λ f. f ++ 0x3A ∷ local_of name) q ∙ long (local_of name) (spelled name good).0 ∙ ap declaring l

declares-as : (x : RawAttr) (b : Binding) → declaration x ≡ Some b → is_qname x.name ≡ true → x.name ≡ declaring b.prefix
declares-as x b e good = by_test (cases_Bool (same x.name (codes "xmlns"))) where
  is : (o : Option (List ℕ)) → option_map (λ p. let d : Binding = record { prefix = p; uri = x.value } in d) o ≡ Some b → o ≡ Some b.prefix
  is None h = absurd (cc)
  is (Some p) h =
      let same-binding : (let d : Binding = record { prefix = p; uri = x.value } in d) ≡ b = cc in
      ap (λ d. Some d.prefix) same-binding

  found : declared_prefix x.name ≡ Some b.prefix
  found = is (declared_prefix x.name) e

  by_prefix : (same x.name (codes "xmlns") ≡ false) → (same (prefix_of x.name) (codes "xmlns") ≡ true) ⊎ (same (prefix_of x.name) (codes "xmlns") ≡ false) → x.name ≡ declaring b.prefix
  by_prefix differs (inr other) =
      let none : None ≡ Some b.prefix =
      sym (ap (λ t. if t then Some [] else if same (prefix_of x.name) (codes "xmlns") then Some (local_of x.name) else None) differs
      ∙ ap (λ t. if t then Some (local_of x.name) else None) other) ∙ found in
      absurd (cc)
  by_prefix differs (inl some) =
      let local : Some (local_of x.name) ≡ Some b.prefix =
      sym (ap (λ t. if t then Some [] else if same (prefix_of x.name) (codes "xmlns") then Some (local_of x.name) else None) differs
      ∙ ap (λ t. if t then Some (local_of x.name) else None) some) ∙ found in
      let l : local_of x.name ≡ b.prefix = cc in
      prefixed x.name b.prefix good (same-true (prefix_of x.name) (codes "xmlns") some) l

  by_test : (same x.name (codes "xmlns") ≡ true) ⊎ (same x.name (codes "xmlns") ≡ false) → x.name ≡ declaring b.prefix
  by_test (inl alone) =
      let none : Some [] ≡ Some b.prefix = sym (ap (λ t. if t then Some [] else if same (prefix_of x.name) (codes "xmlns") then Some (local_of x.name) else None) alone) ∙ found in
      let p : [] ≡ b.prefix = cc in
      same-true x.name (codes "xmlns") alone ∙ ap declaring p
  by_test (inr differs) = by_prefix differs (cases_Bool (same (prefix_of x.name) (codes "xmlns")))

pub declares-once : (path : List (List Binding)) (name : List ℕ) (attrs : List RawAttr) (i j : ℕ) (a b : Binding) → name_fault path name attrs ≡ None → i < j
    → slice_get (resolved path name attrs).decls i ≡ Some a → slice_get (resolved path name attrs).decls j ≡ Some b → a.prefix ≢ b.prefix
declares-once path name attrs i j a b taken less at bt e =
    let two = come-apart declaration (λ x. is_qname x.name) same_written attrs i j a b (twins path name attrs taken).0 (are-qnames path name attrs taken) less at bt in
    let names : two.one.name ≡ two.other.name =
    declares-as two.one a two.one-is two.one-passes ∙ ap declaring e ∙ sym (declares-as two.other b two.other-is two.other-passes) in
    let alike : same_written two.one two.other ≡ true = ap (λ n. same n two.other.name) names ∙ same-refl two.other.name in
    let never : true ≡ false = sym alike ∙ two.differ in
    cc
