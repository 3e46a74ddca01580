-- Each prefix of a tag stands for its URI within the element.
use Rattle.std.proofs.Common.{◌≡◌, ◌≢◌, ℕ, zero, suc, ◌+◌, ◌<◌, ◌≤◌, ◌^◌, Bool, true, false, not, ◌&&◌, ◌||◌, List, [], ◌∷◌, ◌++◌, Some, length, drop, refl, sym, ap, ◌∙◌, arith, subst, ⊎_elim, inl, inr}
use Rattle.std.specs.Prelude.{◌⊎◌, if◌then◌else◌, codes, filter, slice_get}
use Rattle.std.proofs.lemmas.Bool.{cases_eq}
use Rattle.std.proofs.lemmas.Fmt.{decimal_injective}
use Rattle.std.proofs.lemmas.Slice.Eq.{bytes_eq-Decides}
use Rattle.stx_base.specs.declared.name.Attr.{Attr}
use Rattle.stx_base.specs.declared.name.Binding.{Binding}
use Rattle.stx_base.specs.declared.name.Name.{Name}
use Rattle.result_writer.specs.Allowed.{is_empty, is_word, same}
use Rattle.result_writer.specs.Laws.{BindsAttributes, BindsElement, BindsScope}
use Rattle.result_writer.specs.Table.{attribute_prefix, bound, bound_from, declarations, entered, free_from, free_prefix, has_prefix, in_order, is_new, is_taken, numbered, placed, precedes, prefixes, with_attributes, with_element, with_name, with_scope}
use Rattle.result_writer.specs.declared.tag.HeldTag.{HeldTag}

-- Texts and tests

same-true : (a b : List ℕ) → same a b ≡ true → a ≡ b
same-true a b h = (bytes_eq-Decides a b).0 h

same-of : (a b : List ℕ) → a ≡ b → same a b ≡ true
same-of a b h = (bytes_eq-Decides a b).1 h

not_empty : (u : List ℕ) → u ≢ [] → is_empty u ≡ false
not_empty [] h = absurd (h refl)
not_empty (c ∷ cs) h = refl

isn't_empty : (u : List ℕ) → is_empty u ≡ false → u ≢ []
isn't_empty [] h = absurd cc
isn't_empty (c ∷ cs) h = λ e. absurd cc

or_cases : (s t : Bool) → (s || t) ≡ true → (s ≡ true) ⊎ (t ≡ true)
or_cases true t h = inl refl
or_cases false t h = inr h

or_none : (s t : Bool) → (s || t) ≡ false → (s ≡ false) × (t ≡ false)
or_none true t h = absurd cc
or_none false t h = (refl, h)

or_right : (s t : Bool) → t ≡ true → (s || t) ≡ true
or_right true t h = refl
or_right false t h = h

not_true : (t : Bool) → not t ≡ false → t ≡ true
not_true true h = refl
not_true false h = absurd cc

true_or_false : (t : Bool) → (t ≡ true) ⊎ (t ≡ false)
true_or_false true = inl refl
true_or_false false = inr refl

both_ways : (t : Bool) → t ≡ true → t ≡ false → ⊥
both_ways t h k = let e : true ≡ false = sym h ∙ k in cc

-- Entries

abbrev pub In : Binding → List Binding → Type 0
In b [] = ⊥
In b (c ∷ cs) = (b ≡ c) ⊎ In b cs

in-front : (b : Binding) (xs ys : List Binding) → In b xs → In b (xs ++ ys)
in-front b [] ys h = absurd h
in-front b (x ∷ xs) ys h = ⊎_elim (λ e. inl e) (λ k. inr (in-front b xs ys k)) h

in-last : (b : Binding) (xs : List Binding) → In b (xs ++ b ∷ [])
in-last b [] = inl refl
in-last b (x ∷ xs) = inr (in-last b xs)

in-split : (b c : Binding) (xs : List Binding) → In b (xs ++ c ∷ []) → In b xs ⊎ (b ≡ c)
in-split b c [] h = ⊎_elim (λ e. inr e) (λ k. absurd k) h
in-split b c (x ∷ xs) h = ⊎_elim (λ e. inl (inl e)) (λ k. ⊎_elim (λ i. inl (inr i)) (λ e. inr e) (in-split b c xs k)) h

-- an entry that has a prefix
has-in : (t : List Binding) (p : List ℕ) → has_prefix t p ≡ true → (c : Binding) × In c t × (c.prefix ≡ p)
has-in [] p h = absurd cc
has-in (b ∷ bs) p h =
    ⊎_elim (λ e. (b, inl refl, same-true b.prefix p e)) (λ k. let f = has-in bs p k in (f.0, inr f.1, f.2)) (or_cases (same b.prefix p) (has_prefix bs p) h)

no-in : (t : List Binding) (p : List ℕ) → has_prefix t p ≡ false → (c : Binding) → In c t → c.prefix ≡ p → ⊥
no-in [] p h c i e = i
no-in (b ∷ bs) p h c i e =
    let both = or_none (same b.prefix p) (has_prefix bs p) h in
    ⊎_elim (λ f. both_ways (same b.prefix p) (same-of b.prefix p (sym (ap (λ (x : Binding). x.prefix) f) ∙ e)) both.0) (λ k. no-in bs p both.1 c k e) i

-- no prefix has two entries
abbrev pub IsTable : List Binding → Type 0
IsTable t = (b c : Binding) → In b t → In c t → b.prefix ≡ c.prefix → b ≡ c

apart-entered : (t : List Binding) (p u : List ℕ) → IsTable t → IsTable (entered t p u)
apart-entered t p u h = by_test (has_prefix t p) refl where
  by_test : (v : Bool) → has_prefix t p ≡ v → IsTable (if v then t else t ++ record { prefix = p; uri = u } ∷ [])
  by_test true k = h
  by_test false k = λ b c i j e.
      ⊎_elim (λ bi. ⊎_elim (λ cj. h b c bi cj e) (λ cj. absurd (no-in t p k b bi (e ∙ ap (λ (x : Binding). x.prefix) cj))) (in-split c (record { prefix = p; uri = u }) t j))
      (λ bi. ⊎_elim (λ cj. absurd (no-in t p k c cj (sym e ∙ ap (λ (x : Binding). x.prefix) bi))) (λ cj. bi ∙ sym cj) (in-split c (record { prefix = p; uri = u }) t j))
      (in-split b (record { prefix = p; uri = u }) t i)

kept-entered : (t : List Binding) (p u : List ℕ) (b : Binding) → In b t → In b (entered t p u)
kept-entered t p u b h = by_test (has_prefix t p) where
  by_test : (v : Bool) → In b (if v then t else t ++ record { prefix = p; uri = u } ∷ [])
  by_test true = h
  by_test false = in-front b t (record { prefix = p; uri = u } ∷ []) h

in-new : (t : List Binding) (p u : List ℕ) → has_prefix t p ≡ false → In (record { prefix = p; uri = u }) (entered t p u)
in-new t p u h = by_test (has_prefix t p) h where
  by_test : (v : Bool) → v ≡ false → In (record { prefix = p; uri = u }) (if v then t else t ++ record { prefix = p; uri = u } ∷ [])
  by_test true k = absurd cc
  by_test false k = in-last (record { prefix = p; uri = u }) t

not_taken : (t : List Binding) (n : Name) → is_taken t n ≡ false → (c : Binding) → In c t → c.prefix ≡ n.prefix → c.uri ≡ n.uri
not_taken [] n h c i e = absurd i
not_taken (b ∷ bs) n h c i e =
    let both = or_none (same b.prefix n.prefix && not (same b.uri n.uri)) (is_taken bs n) h in
    ⊎_elim (λ f. here f both.0) (λ k. not_taken bs n both.1 c k e) i where
      here : c ≡ b → (same b.prefix n.prefix && not (same b.uri n.uri)) ≡ false → c.uri ≡ n.uri
      here f g =
          let p : same b.prefix n.prefix ≡ true = same-of b.prefix n.prefix (sym (ap (λ (x : Binding). x.prefix) f) ∙ e) in
          let q : not (same b.uri n.uri) ≡ false = sym (ap (λ v. v && not (same b.uri n.uri)) p) ∙ g in
          ap (λ (x : Binding). x.uri) f ∙ same-true b.uri n.uri (not_true (same b.uri n.uri) q)

in-own : (t : List Binding) (n : Name) → is_taken t n ≡ false → In (record { prefix = n.prefix; uri = n.uri }) (entered t n.prefix n.uri)
in-own t n h = by_test (has_prefix t n.prefix) refl where
  by_test : (v : Bool) → has_prefix t n.prefix ≡ v → In (record { prefix = n.prefix; uri = n.uri }) (if v then t else t ++ record { prefix = n.prefix; uri = n.uri } ∷ [])
  by_test false k = in-last (record { prefix = n.prefix; uri = n.uri }) t
  by_test true k =
      let f = has-in t n.prefix k in
      let u = not_taken t n h f.0 f.1 f.2 in
      let e : f.0 ≡ record { prefix = n.prefix; uri = n.uri } =
      ap (λ z. record { prefix = z; uri = f.0.uri }) f.2 ∙ ap (λ z. record { prefix = n.prefix; uri = z }) u in
      subst (λ (x : Binding). In x t) e f.1

length-entered : (t : List Binding) (p u : List ℕ) → length (entered t p u) ≤ length t + 1
length-entered t p u = by_test (has_prefix t p) where
  grown : (xs : List Binding) (x : Binding) → length (xs ++ x ∷ []) ≡ length xs + 1
  grown [] x = refl
  grown (y ∷ ys) x = let l = grown ys x in omega arith

  by_test : (v : Bool) → length (if v then t else t ++ record { prefix = p; uri = u } ∷ []) ≤ length t + 1
  by_test true = omega arith
  by_test false = let l = grown t (record { prefix = p; uri = u }) in omega arith

-- Prefixes that a table lacks

all-taken : (t : List Binding) (n k : ℕ) → has_prefix t (free_from t k n) ≡ true → (j : ℕ) → k ≤ j → j ≤ k + n → has_prefix t (numbered j) ≡ true
all-taken t zero k h j low high = let e : k ≡ j = omega arith in subst (λ i. has_prefix t (numbered i) ≡ true) e h
all-taken t (suc n) k h j low high = by_test (has_prefix t (numbered k)) refl h (λ g (other : j ≡ k → ⊥). all-taken t n (k + 1) g j (omega arith) (omega arith)) where
  by_test : (v : Bool) → has_prefix t (numbered k) ≡ v → has_prefix t (if v then free_from t (k + 1) n else numbered k) ≡ true
      → (has_prefix t (free_from t (k + 1) n) ≡ true → (j ≡ k → ⊥) → has_prefix t (numbered j) ≡ true)
      → has_prefix t (numbered j) ≡ true
  by_test false e g later = absurd (both_ways (has_prefix t (numbered k)) g e)
  by_test true e g later = ⊎_elim (λ same. subst (λ i. has_prefix t (numbered i) ≡ true) (sym same) e) (λ other. later g other) (cases_eq j k)

abbrev without : List Binding → List ℕ → List Binding
without [] p = []
without (b ∷ bs) p = if same b.prefix p then without bs p else b ∷ without bs p

without-le : (t : List Binding) (p : List ℕ) → length (without t p) ≤ length t
without-le [] p = omega arith
without-le (b ∷ bs) p = by_test (same b.prefix p) (without-le bs p) where
  by_test : (v : Bool) → length (without bs p) ≤ length bs → length (if v then without bs p else b ∷ without bs p) ≤ length (b ∷ bs)
  by_test true l = omega arith
  by_test false l = omega arith

without-lt : (t : List Binding) (p : List ℕ) → has_prefix t p ≡ true → length (without t p) < length t
without-lt [] p h = absurd cc
without-lt (b ∷ bs) p h = by_test (same b.prefix p) h (λ k. without-lt bs p k) where
  by_test : (v : Bool) → (v || has_prefix bs p) ≡ true → (has_prefix bs p ≡ true → length (without bs p) < length bs) → length (if v then without bs p else b ∷ without bs p) < length (b ∷ bs)
  by_test true k shorter = let l = without-le bs p in omega arith
  by_test false k shorter = let l = shorter k in omega arith

without-has : (t : List Binding) (p q : List ℕ) → (q ≡ p → ⊥) → has_prefix t q ≡ true → has_prefix (without t p) q ≡ true
without-has [] p q d h = h
without-has (b ∷ bs) p q d h = by_test (same b.prefix p) refl (λ k. without-has bs p q d k) where
  by_test : (v : Bool) → same b.prefix p ≡ v → (has_prefix bs q ≡ true → has_prefix (without bs p) q ≡ true) → has_prefix (if v then without bs p else b ∷ without bs p) q ≡ true
  by_test true e later = ⊎_elim (λ f. absurd (d (sym (same-true b.prefix q f) ∙ same-true b.prefix p e))) (λ k. later k) (or_cases (same b.prefix q) (has_prefix bs q) h)
  by_test false e later = ⊎_elim (λ f. ap (λ v. v || has_prefix (without bs p) q) f) (λ k. or_right (same b.prefix q) (has_prefix (without bs p) q) (later k)) (or_cases (same b.prefix q) (has_prefix bs q) h)

numbered-apart : (j n : ℕ) → j < 2 ^ 64 → n < 2 ^ 64 → numbered j ≡ numbered n → j ≡ n
numbered-apart j n h k e = decimal_injective j n h k (ap (drop 2) e)

crowded : (n : ℕ) (t : List Binding) → n < 2 ^ 64 → length t ≤ n → ((j : ℕ) → j ≤ n → has_prefix t (numbered j) ≡ true) → ⊥
crowded zero [] h l has = let e = has 0 (omega arith) in cc
crowded zero (b ∷ bs) h l has = absurd (omega arith)
crowded (suc n) t h l has =
    let p = numbered (suc n) in
    let shorter = without-lt t p (has (suc n) (omega arith)) in
    crowded n (without t p) (omega arith) (omega arith)
    (λ j k. without-has t p (numbered j) (λ e. let same = numbered-apart j (suc n) (omega arith) h e in absurd (omega arith)) (has j (omega arith)))

free-new : (t : List Binding) → length t < 2 ^ 64 → has_prefix t (free_prefix t) ≡ false
free-new t h = ⊎_elim
    (λ e. absurd (crowded (length t) t h (omega arith) (λ j k. all-taken t (length t) 0 e j (omega arith) (omega arith))))
    (λ e. e) (true_or_false (has_prefix t (free_prefix t)))

free-some : (t : List Binding) (n k : ℕ) → free_from t k n ≢ []
free-some t zero k = λ e. absurd cc
free-some t (suc n) k = by_test (has_prefix t (numbered k)) (free-some t n (k + 1)) where
  by_test : (v : Bool) → free_from t (k + 1) n ≢ [] → (if v then free_from t (k + 1) n else numbered k) ≢ []
  by_test true later = later
  by_test false later = λ e. absurd cc

-- Names of attributes

apart-name : (t : List Binding) (n : Name) → IsTable t → IsTable (with_name t n)
apart-name t n h = by_test (is_empty n.uri) where
  by_test : (v : Bool) → IsTable (if v then t else entered t (attribute_prefix t n) n.uri)
  by_test true = h
  by_test false = apart-entered t (attribute_prefix t n) n.uri h

kept-name : (t : List Binding) (n : Name) (b : Binding) → In b t → In b (with_name t n)
kept-name t n b h = by_test (is_empty n.uri) where
  by_test : (v : Bool) → In b (if v then t else entered t (attribute_prefix t n) n.uri)
  by_test true = h
  by_test false = kept-entered t (attribute_prefix t n) n.uri b h

length-name : (t : List Binding) (n : Name) → length (with_name t n) ≤ length t + 1
length-name t n = by_test (is_empty n.uri) where
  by_test : (v : Bool) → length (if v then t else entered t (attribute_prefix t n) n.uri) ≤ length t + 1
  by_test true = omega arith
  by_test false = length-entered t (attribute_prefix t n) n.uri

name-in : (t : List Binding) (n : Name) → length t < 2 ^ 64 → n.uri ≢ []
    → (attribute_prefix t n ≢ []) × In (record { prefix = attribute_prefix t n; uri = n.uri }) (with_name t n)
name-in t n h u = by_uri (is_empty n.uri) (not_empty n.uri u) where
  chosen : Bool → List ℕ
  chosen v = if v then n.prefix else free_prefix t

  found : (e k : Bool) → is_empty n.prefix ≡ e → is_taken t n ≡ k
      → ((if not e && not k then n.prefix else free_prefix t) ≢ [])
      × In (record { prefix = if not e && not k then n.prefix else free_prefix t; uri = n.uri }) (entered t (if not e && not k then n.prefix else free_prefix t) n.uri)
  found false false e k = (isn't_empty n.prefix e, in-own t n k)
  found false true e k = (free-some t (length t) 0, in-new t (free_prefix t) n.uri (free-new t h))
  found true k e _ = (free-some t (length t) 0, in-new t (free_prefix t) n.uri (free-new t h))

  by_uri : (v : Bool) → v ≡ false
      → ((if v || (not (is_empty n.prefix) && not (is_taken t n)) then n.prefix else free_prefix t) ≢ [])
      × In (record { prefix = if v || (not (is_empty n.prefix) && not (is_taken t n)) then n.prefix else free_prefix t; uri = n.uri })
      (if v then t else entered t (if v || (not (is_empty n.prefix) && not (is_taken t n)) then n.prefix else free_prefix t) n.uri)
  by_uri true e = absurd cc
  by_uri false e = found (is_empty n.prefix) (is_taken t n) refl refl

apart-attributes : (t : List Binding) (attrs : List Attr) → IsTable t → IsTable (with_attributes t attrs)
apart-attributes t [] h = h
apart-attributes t (a ∷ attrs) h = apart-attributes (with_name t a.name) attrs (apart-name t a.name h)

kept-attributes : (t : List Binding) (attrs : List Attr) (b : Binding) → In b t → In b (with_attributes t attrs)
kept-attributes t [] b h = h
kept-attributes t (a ∷ attrs) b h = kept-attributes (with_name t a.name) attrs b (kept-name t a.name b h)

pub attribute-in : (attrs : List Attr) (t : List Binding) (i : ℕ) (a : Attr) (p : List ℕ) → length t + length attrs ≤ 2 ^ 64
    → slice_get attrs i ≡ Some a → slice_get (prefixes t attrs) i ≡ Some p → a.name.uri ≢ []
    → (p ≢ []) × In (record { prefix = p; uri = a.name.uri }) (with_attributes t attrs)
attribute-in [] t i a p h f g u = absurd cc
attribute-in (b ∷ attrs) t zero a p h f g u =
    let e : b ≡ a = cc in
    let q : attribute_prefix t b.name ≡ p = cc in
    let w : b.name.uri ≢ [] = λ k. u (sym (ap (λ (x : Attr). x.name.uri) e) ∙ k) in
    let found = name-in t b.name (omega arith) w in
    let kept = kept-attributes (with_name t b.name) attrs (record { prefix = attribute_prefix t b.name; uri = b.name.uri }) found.1 in (
      λ k. found.0 (q ∙ k),
      subst (λ (x : Binding). In x (with_attributes t (b ∷ attrs))) (ap (λ z. record { prefix = z; uri = b.name.uri }) q ∙ ap (λ z. record { prefix = p; uri = z }) (ap (λ (x : Attr). x.name.uri) e)) kept,
    )
attribute-in (b ∷ attrs) t (suc i) a p h f g u =
    let l = length-name t b.name in
    attribute-in attrs (with_name t b.name) i a p (omega arith) f g u

-- Bindings in force

abbrev scoped : List Binding → Binding → List Binding
scoped t b = if is_empty b.uri then t else entered t b.prefix b.uri

apart-scoped : (t : List Binding) (b : Binding) → IsTable t → IsTable (scoped t b)
apart-scoped t b h = by_test (is_empty b.uri) where
  by_test : (v : Bool) → IsTable (if v then t else entered t b.prefix b.uri)
  by_test true = h
  by_test false = apart-entered t b.prefix b.uri h

kept-scoped : (t : List Binding) (b c : Binding) → In c t → In c (scoped t b)
kept-scoped t b c h = by_test (is_empty b.uri) where
  by_test : (v : Bool) → In c (if v then t else entered t b.prefix b.uri)
  by_test true = h
  by_test false = kept-entered t b.prefix b.uri c h

apart-scope : (t scope : List Binding) → IsTable t → IsTable (with_scope t scope)
apart-scope t [] h = h
apart-scope t (b ∷ scope) h = apart-scope (scoped t b) scope (apart-scoped t b h)

kept-scope : (t scope : List Binding) (c : Binding) → In c t → In c (with_scope t scope)
kept-scope t [] c h = h
kept-scope t (b ∷ scope) c h = kept-scope (scoped t b) scope c (kept-scoped t b c h)

-- no entry of another prefix is the prefix's
lacks-entered : (t : List Binding) (p u q : List ℕ) → has_prefix t q ≡ false → same p q ≡ false → has_prefix (entered t p u) q ≡ false
lacks-entered t p u q h k = by_test (has_prefix t p) where
  behind : (xs : List Binding) → has_prefix xs q ≡ false → has_prefix (xs ++ record { prefix = p; uri = u } ∷ []) q ≡ false
  behind [] e = ap (λ v. v || false) k
  behind (x ∷ xs) e =
      let both = or_none (same x.prefix q) (has_prefix xs q) e in
      ap (λ v. v || has_prefix (xs ++ record { prefix = p; uri = u } ∷ []) q) both.0 ∙ behind xs both.1

  by_test : (v : Bool) → has_prefix (if v then t else t ++ record { prefix = p; uri = u } ∷ []) q ≡ false
  by_test true = h
  by_test false = behind t h

lacks-scoped : (t : List Binding) (b : Binding) (q : List ℕ) → has_prefix t q ≡ false → same b.prefix q ≡ false → has_prefix (scoped t b) q ≡ false
lacks-scoped t b q h k = by_test (is_empty b.uri) where
  by_test : (v : Bool) → has_prefix (if v then t else entered t b.prefix b.uri) q ≡ false
  by_test true = h
  by_test false = lacks-entered t b.prefix b.uri q h k

scope-in : (before behind t : List Binding) (b : Binding) → has_prefix before b.prefix ≡ false → has_prefix t b.prefix ≡ false → b.uri ≢ []
    → In b (with_scope t (before ++ b ∷ behind))
scope-in [] behind t b h k u = kept-scope (scoped t b) behind b (by_test (is_empty b.uri) (not_empty b.uri u)) where
  by_test : (v : Bool) → v ≡ false → In b (if v then t else entered t b.prefix b.uri)
  by_test true e = absurd cc
  by_test false e = in-new t b.prefix b.uri k
scope-in (c ∷ before) behind t b h k u =
    let both = or_none (same c.prefix b.prefix) (has_prefix before b.prefix) h in
    scope-in before behind (scoped t c) b both.1 (lacks-scoped t c b.prefix k both.0) u

-- Declarations

in-placed : (x b : Binding) (cs : List Binding) → In x (placed b cs) → (x ≡ b) ⊎ In x cs
in-placed x b [] h = ⊎_elim (λ e. inl e) (λ k. absurd k) h
in-placed x b (c ∷ cs) h = by_test (precedes b.prefix c.prefix) h (λ i. in-placed x b cs i) where
  by_test : (v : Bool) → In x (if v then b ∷ c ∷ cs else c ∷ placed b cs) → (In x (placed b cs) → (x ≡ b) ⊎ In x cs) → (x ≡ b) ⊎ In x (c ∷ cs)
  by_test true k later = k
  by_test false k later = ⊎_elim (λ e. inr (inl e)) (λ i. ⊎_elim (λ e. inl e) (λ j. inr (inr j)) (later i)) k

placed-in : (x b : Binding) (cs : List Binding) → (x ≡ b) ⊎ In x cs → In x (placed b cs)
placed-in x b [] h = h
placed-in x b (c ∷ cs) h = by_test (precedes b.prefix c.prefix) (λ i. placed-in x b cs i) where
  by_test : (v : Bool) → ((x ≡ b) ⊎ In x cs → In x (placed b cs)) → In x (if v then b ∷ c ∷ cs else c ∷ placed b cs)
  by_test true later = h
  by_test false later = ⊎_elim (λ e. inr (later (inl e))) (λ k. ⊎_elim (λ e. inl e) (λ i. inr (later (inr i))) k) h

in-order : (x : Binding) (s bs : List Binding) → In x (in_order s bs) → In x s ⊎ In x bs
in-order x s [] h = inl h
in-order x s (b ∷ bs) h = ⊎_elim (λ k. ⊎_elim (λ e. inr (inl e)) (λ i. inl i) (in-placed x b s k)) (λ k. inr (inr k)) (in-order x (placed b s) bs h)

order-in : (x : Binding) (s bs : List Binding) → In x s ⊎ In x bs → In x (in_order s bs)
order-in x s [] h = ⊎_elim (λ k. k) (λ k. absurd k) h
order-in x s (b ∷ bs) h = order-in x (placed b s) bs
    (⊎_elim (λ k. inl (placed-in x b s (inr k))) (λ k. ⊎_elim (λ e. inl (placed-in x b s (inl e))) (λ i. inr i) k) h)

in-filter : (q : Binding → Bool) (x : Binding) (bs : List Binding) → In x (filter q bs) → In x bs
in-filter q x [] h = absurd h
in-filter q x (b ∷ bs) h = by_test (q b) h (λ i. in-filter q x bs i) where
  by_test : (v : Bool) → In x (if v then b ∷ filter q bs else filter q bs) → (In x (filter q bs) → In x bs) → In x (b ∷ bs)
  by_test true k later = ⊎_elim (λ e. inl e) (λ i. inr (later i)) k
  by_test false k later = inr (later k)

filter-in : (q : Binding → Bool) (x : Binding) (bs : List Binding) → In x bs → q x ≡ true → In x (filter q bs)
filter-in q x [] h k = absurd h
filter-in q x (b ∷ bs) h k = by_test (q b) refl (λ i. filter-in q x bs i k) where
  by_test : (v : Bool) → q b ≡ v → (In x bs → In x (filter q bs)) → In x (if v then b ∷ filter q bs else filter q bs)
  by_test true e later = ⊎_elim (λ f. inl f) (λ i. inr (later i)) h
  by_test false e later = ⊎_elim (λ f. absurd (both_ways (q b) (sym (ap q f) ∙ k) e)) (λ i. later i) h

bound-append : (u : List ℕ) (xs ys : List Binding) (p : List ℕ) → bound_from u (xs ++ ys) p ≡ bound_from (bound_from u xs p) ys p
bound-append u [] ys p = refl
bound-append u (x ∷ xs) ys p = bound-append (if same x.prefix p then x.uri else u) xs ys p

abbrev Found : List ℕ → List Binding → List ℕ → Type 0
Found u bs p = (c : Binding) × In c bs × (c.prefix ≡ p) × (bound_from u bs p ≡ c.uri)

abbrev Missed : List ℕ → List Binding → List ℕ → Type 0
Missed u bs p = ((c : Binding) → In c bs → c.prefix ≡ p → ⊥) × (bound_from u bs p ≡ u)

bound-cases : (u : List ℕ) (bs : List Binding) (p : List ℕ) → Found u bs p ⊎ Missed u bs p
bound-cases u [] p = inr (λ c i e. i, refl)
bound-cases u (b ∷ bs) p = by_test (same b.prefix p) refl (bound-cases b.uri bs p) (bound-cases u bs p) where
  by_test : (v : Bool) → same b.prefix p ≡ v → Found b.uri bs p ⊎ Missed b.uri bs p → Found u bs p ⊎ Missed u bs p → Found u (b ∷ bs) p ⊎ Missed u (b ∷ bs) p
  by_test true e here later =
      let now = ap (λ v. bound_from (if v then b.uri else u) bs p) e in
      ⊎_elim (λ f. inl (f.0, inr f.1, f.2, now ∙ f.3)) (λ m. inl (b, inl refl, same-true b.prefix p e, now ∙ m.1)) here
  by_test false e here later =
      let now = ap (λ v. bound_from (if v then b.uri else u) bs p) e in
      ⊎_elim (λ f. inl (f.0, inr f.1, f.2, now ∙ f.3))
      (λ m. inr (λ c i q. ⊎_elim (λ g. both_ways (same b.prefix p) (same-of b.prefix p (sym (ap (λ (x : Binding). x.prefix) g) ∙ q)) e) (λ j. m.0 c j q) i, now ∙ m.1))
      later

declared-bound : (in_force t : List Binding) (b : Binding) → IsTable t → In b t → is_word b.prefix (codes "xml") ≡ false
    → bound (in_force ++ declarations in_force t) b.prefix ≡ b.uri
declared-bound in_force t b apart i xml =
    bound-append [] in_force (declarations in_force t) b.prefix
    ∙ ⊎_elim
    (λ f. f.3 ∙ ap (λ (x : Binding). x.uri) (apart f.0 b (in-filter (is_new in_force) f.0 t (⊎_elim (λ n. absurd n) (λ k. k) (in-order f.0 [] (filter (is_new in_force) t) f.1))) i f.2))
    (λ m. m.1 ∙ old (true_or_false (is_new in_force b)) m.0)
    (bound-cases (bound in_force b.prefix) (declarations in_force t) b.prefix) where
      old : (is_new in_force b ≡ true) ⊎ (is_new in_force b ≡ false) → ((c : Binding) → In c (declarations in_force t) → c.prefix ≡ b.prefix → ⊥) → bound in_force b.prefix ≡ b.uri
      old h none = ⊎_elim
          (λ k. absurd (none b (order-in b [] (filter (is_new in_force) t) (inr (filter-in (is_new in_force) b t i k))) refl))
          (λ k. same-true (bound in_force b.prefix) b.uri (not_true (same (bound in_force b.prefix) b.uri) (sym (ap (λ v. not v && not (same (bound in_force b.prefix) b.uri)) xml) ∙ k))) h

-- Tags

apart-element : (n : Name) → IsTable (with_element n)
apart-element n = λ b c i j e. ⊎_elim (λ f. ⊎_elim (λ g. f ∙ sym g) (λ k. absurd k) j) (λ k. absurd k) i

apart-tag : (tag : HeldTag) → IsTable (with_scope (with_attributes (with_element tag.name) tag.attrs) tag.scope)
apart-tag tag = apart-scope (with_attributes (with_element tag.name) tag.attrs) tag.scope (apart-attributes (with_element tag.name) tag.attrs (apart-element tag.name))

pub apart-table : (tag : HeldTag) → IsTable (with_attributes (with_element tag.name) tag.attrs)
apart-table tag = apart-attributes (with_element tag.name) tag.attrs (apart-element tag.name)

pub binds-element : BindsElement
binds-element in_force tag xml =
    let table = with_attributes (with_element tag.name) tag.attrs in
    let b : Binding = record { prefix = tag.name.prefix; uri = tag.name.uri } in
    declared-bound in_force (with_scope table tag.scope) b (apart-tag tag)
    (kept-scope table tag.scope b (kept-attributes (with_element tag.name) tag.attrs b (inl refl))) xml

pub binds-attributes : BindsAttributes
binds-attributes in_force tag i a p h f g u xml =
    let table = with_attributes (with_element tag.name) tag.attrs in
    let found = attribute-in tag.attrs (with_element tag.name) i a p (omega arith) f g u in
    let b : Binding = record { prefix = p; uri = a.name.uri } in (
      found.0,
      declared-bound in_force (with_scope table tag.scope) b (apart-tag tag) (kept-scope table tag.scope b found.1) xml,
    )

pub binds-scope : BindsScope
binds-scope in_force tag before behind b e h k u xml =
    let table = with_attributes (with_element tag.name) tag.attrs in
    declared-bound in_force (with_scope table tag.scope) b (apart-tag tag)
    (subst (λ s. In b (with_scope table s)) (sym e) (scope-in before behind table b h k u)) xml
