-- The prefixes of a tag are names.
use Rattle.std.proofs.Common.{◌≡◌, ℕ, zero, suc, ◌+◌, ◌<◌, ◌/◌, ◌%◌, Bool, true, false, not, ◌&&◌, ◌||◌, ◌==◌, List, [], ◌∷◌, ◌++◌, length, refl, sym, subst, arith, ⊎_elim}
use Rattle.std.specs.Fmt.{decimal, digit_glyph, digits, digits_onto}
use Rattle.std.specs.Prelude.{if◌then◌else◌, filter}
use Rattle.std.specs.List.{list_all}
use Rattle.std.proofs.lemmas.Bool.{and_parts, and_from, cases_eq}
use Rattle.std.proofs.Math.Nat.{mod-lt}
use Rattle.stx_base.specs.Character.{is_ncname_char}
use Rattle.stx_base.specs.declared.name.Attr.{Attr}
use Rattle.stx_base.specs.declared.name.Binding.{Binding}
use Rattle.stx_base.specs.declared.name.Name.{Name}
use Rattle.result_writer.specs.Allowed.{is_empty, is_good_attribute, is_good_name, is_prefix, is_qname}
use Rattle.result_writer.specs.Laws.{WritesPrefixes}
use Rattle.result_writer.specs.Table.{attribute_prefix, entered, free_from, free_prefix, has_prefix, in_order, is_new, is_taken, numbered, placed, precedes, prefixes, with_attributes, with_element, with_name, with_scope}

-- Numbered prefixes

abbrev below : (ℕ → Bool) → ℕ → Bool
below p zero = true
below p (suc n) = p n && below p n

all_below : (p : ℕ → Bool) (n : ℕ) → below p n ≡ true → (x : ℕ) → x < n → p x ≡ true
all_below p zero e x h = absurd (omega arith)
all_below p (suc n) e x h =
    let k = and_parts _ _ e in
    ⊎_elim (λ same. subst (λ y. p y ≡ true) (sym same) k.0) (λ (other : x ≡ n → ⊥). all_below p n k.1 x (omega arith)) (cases_eq x n)

-- a digit may stand in a name
glyph_in_name : (n : ℕ) → is_ncname_char (digit_glyph false (n % 10)) ≡ true
glyph_in_name n = all_below (λ d. is_ncname_char (digit_glyph false d)) 10 refl (n % 10) (mod-lt n (omega arith))

digits_in_name : (k n : ℕ) (behind : List ℕ) → list_all is_ncname_char behind ≡ true → list_all is_ncname_char (digits_onto k 10 false n behind) ≡ true
digits_in_name zero n behind h = h
digits_in_name (suc k) n behind h =
    let digit = digit_glyph false (n % 10) in
    let all : list_all is_ncname_char (digit ∷ behind) ≡ true = and_from _ _ (glyph_in_name n) h in
    elim (n / 10 == 0) as (λ t. list_all is_ncname_char (if t then digit ∷ behind else digits_onto k 10 false (n / 10) (digit ∷ behind)) ≡ true) [
      | true ↦ all
      | false ↦ digits_in_name k (n / 10) (digit ∷ behind) all
    ]

decimal_in_name : (n : ℕ) → list_all is_ncname_char (decimal n) ≡ true
unfolding digits
decimal_in_name n = digits_in_name 64 n [] refl

numbered_named : (k : ℕ) → is_prefix (numbered k) ≡ true
numbered_named k = decimal_in_name k

free_named : (table : List Binding) (k n : ℕ) → is_prefix (free_from table k n) ≡ true
free_named table k zero = numbered_named k
free_named table k (suc n) =
    elim (has_prefix table (numbered k)) as (λ t. is_prefix (if t then free_from table (k + 1) n else numbered k) ≡ true) [
      | true ↦ free_named table (k + 1) n
      | false ↦ numbered_named k
    ]

-- Tables

abbrev named : Binding → Bool
named b = is_prefix b.prefix

pub all_append : {A : Type 0} (p : A → Bool) (xs ys : List A) → list_all p xs ≡ true → list_all p ys ≡ true → list_all p (xs ++ ys) ≡ true
all_append p [] ys h k = k
all_append p (x ∷ xs) ys h k = let both = and_parts (p x) (list_all p xs) h in and_from _ _ both.0 (all_append p xs ys both.1 k)

own_named : (n : Name) → is_good_name n ≡ true → is_prefix n.prefix ≡ true
own_named n h = (and_parts _ _ (and_parts (is_qname n) _ h).0).0

attribute_named : (table : List Binding) (n : Name) → is_good_attribute n ≡ true → is_prefix (attribute_prefix table n) ≡ true
attribute_named table n h = by_test (is_empty n.uri || (not (is_empty n.prefix) && not (is_taken table n))) where
  by_test : (t : Bool) → is_prefix (if t then n.prefix else free_prefix table) ≡ true
  by_test true = own_named n (and_parts (is_good_name n) _ h).0
  by_test false = free_named table 0 (length table)

entered_named : (table : List Binding) (p u : List ℕ) → list_all named table ≡ true → is_prefix p ≡ true → list_all named (entered table p u) ≡ true
entered_named table p u h k = by_test (has_prefix table p) where
  by_test : (t : Bool) → list_all named (if t then table else table ++ record { prefix = p; uri = u } ∷ []) ≡ true
  by_test true = h
  by_test false = all_append named table (record { prefix = p; uri = u } ∷ []) h (and_from _ _ k refl)

name_named : (table : List Binding) (n : Name) → list_all named table ≡ true → is_good_attribute n ≡ true → list_all named (with_name table n) ≡ true
name_named table n h k = by_test (is_empty n.uri) where
  by_test : (t : Bool) → list_all named (if t then table else entered table (attribute_prefix table n) n.uri) ≡ true
  by_test true = h
  by_test false = entered_named table (attribute_prefix table n) n.uri h (attribute_named table n k)

abbrev are_good : List Attr → Bool
are_good attrs = list_all (λ a. is_good_attribute a.name) attrs

attributes_named : (table : List Binding) (attrs : List Attr) → list_all named table ≡ true → are_good attrs ≡ true → list_all named (with_attributes table attrs) ≡ true
attributes_named table [] h k = h
attributes_named table (a ∷ attrs) h k =
    let both = and_parts (is_good_attribute a.name) (are_good attrs) k in
    attributes_named (with_name table a.name) attrs (name_named table a.name h both.0) both.1

prefixes_named : (table : List Binding) (attrs : List Attr) → are_good attrs ≡ true → list_all is_prefix (prefixes table attrs) ≡ true
prefixes_named table [] k = refl
prefixes_named table (a ∷ attrs) k =
    let both = and_parts (is_good_attribute a.name) (are_good attrs) k in
    and_from _ _ (attribute_named table a.name both.0) (prefixes_named (with_name table a.name) attrs both.1)

scope_named : (table scope : List Binding) → list_all named table ≡ true → list_all named scope ≡ true → list_all named (with_scope table scope) ≡ true
scope_named table [] h k = h
scope_named table (b ∷ scope) h k =
    let both = and_parts (named b) (list_all named scope) k in
    scope_named (if is_empty b.uri then table else entered table b.prefix b.uri) scope (by_test (is_empty b.uri) both.0) both.1 where
      by_test : (t : Bool) → named b ≡ true → list_all named (if t then table else entered table b.prefix b.uri) ≡ true
      by_test true is = h
      by_test false is = entered_named table b.prefix b.uri h is

-- Declarations

filter_named : (q : Binding → Bool) (bs : List Binding) → list_all named bs ≡ true → list_all named (filter q bs) ≡ true
filter_named q [] h = refl
filter_named q (b ∷ bs) h =
    let both = and_parts (named b) (list_all named bs) h in
    by_test (q b) both.0 (filter_named q bs both.1) where
      by_test : (t : Bool) → named b ≡ true → list_all named (filter q bs) ≡ true → list_all named (if t then b ∷ filter q bs else filter q bs) ≡ true
      by_test true is all = and_from _ _ is all
      by_test false is all = all

placed_named : (b : Binding) (cs : List Binding) → named b ≡ true → list_all named cs ≡ true → list_all named (placed b cs) ≡ true
placed_named b [] h k = and_from _ _ h refl
placed_named b (c ∷ cs) h k =
    let both = and_parts (named c) (list_all named cs) k in
    by_test (precedes b.prefix c.prefix) (placed_named b cs h both.1) both.0 where
      by_test : (t : Bool) → list_all named (placed b cs) ≡ true → named c ≡ true → list_all named (if t then b ∷ c ∷ cs else c ∷ placed b cs) ≡ true
      by_test true all is = and_from _ _ h k
      by_test false all is = and_from _ _ is all

order_named : (sorted bs : List Binding) → list_all named sorted ≡ true → list_all named bs ≡ true → list_all named (in_order sorted bs) ≡ true
order_named sorted [] h k = h
order_named sorted (b ∷ bs) h k =
    let both = and_parts (named b) (list_all named bs) k in order_named (placed b sorted) bs (placed_named b sorted both.0 h) both.1

pub writes-prefixes : WritesPrefixes
writes-prefixes in_force tag name attrs scope =
    let table = with_element tag.name in
    let own : list_all named table ≡ true = and_from _ _ (own_named tag.name name) refl in
    let all = with_scope (with_attributes table tag.attrs) tag.scope in (
      order_named [] (filter (is_new in_force) all) refl
          (filter_named (is_new in_force) all (scope_named (with_attributes table tag.attrs) tag.scope (attributes_named table tag.attrs own attrs) scope)),
      prefixes_named table tag.attrs attrs,
    )
