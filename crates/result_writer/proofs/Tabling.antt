-- How tables of prefixes grow, step by step.
use Rattle.std.proofs.Common.{◌≡◌, ℕ, zero, suc, ◌+◌, ◌-◌, ◌<◌, ◌≤◌, Bool, true, false, ◌||◌, List, [], ◌∷◌, ◌++◌, length, get_or, drop, refl, sym, ap, ◌∙◌, arith, ⊎_elim, length-append}
use Rattle.std.specs.Prelude.{if◌then◌else◌}
use Rattle.std.proofs.lemmas.Bool.{cases_eq}
use Rattle.std.proofs.lemmas.List.{at_drop_more}
use Rattle.stx_base.specs.declared.name.Attr.{Attr}
use Rattle.stx_base.specs.declared.name.Binding.{Binding}
use Rattle.stx_base.specs.declared.name.Name.{Name}
use Rattle.result_writer.specs.Allowed.{is_empty, same}
use Rattle.result_writer.specs.Table.{HasPassed, attribute_prefix, entered, free_from, free_prefix, has_prefix, numbered, prefixes, with_attributes, with_name}

-- a prefix that the table has is passed by
pub free_from-more : (table : List Binding) (k n : ℕ) → k < n → has_prefix table (numbered k) ≡ true → free_from table k (n - k) ≡ free_from table (k + 1) (n - (k + 1))
free_from-more table k n h e = let m : n - k ≡ suc (n - (k + 1)) = omega arith in ap (free_from table k) m ∙ ap (λ b. if b then free_from table (k + 1) (n - (k + 1)) else numbered k) e

-- the first that it lacks
pub free_from-here : (table : List Binding) (k n : ℕ) → k < n → has_prefix table (numbered k) ≡ false → free_from table k (n - k) ≡ numbered k
free_from-here table k n h e = let m : n - k ≡ suc (n - (k + 1)) = omega arith in ap (free_from table k) m ∙ ap (λ b. if b then free_from table (k + 1) (n - (k + 1)) else numbered k) e

-- from the first that isn't passed on, as from the first of all
pub free_from-passed : (table : List Binding) (n : ℕ) → HasPassed table n → free_from table n (length table - n) ≡ free_prefix table
free_from-passed table n h = below n (omega arith) where
  below : (k : ℕ) → k ≤ n → free_from table k (length table - k) ≡ free_prefix table
  below zero l = let none : length table - 0 ≡ length table = omega arith in ap (free_from table 0) none
  below (suc k) l =
      let within = h.within in
      let next : k + 1 ≡ suc k = omega arith in
      ap (λ m. free_from table m (length table - m)) (sym next)
      ∙ sym (free_from-more table k (length table) (omega (arith, within)) (h.there k (omega arith)))
      ∙ below k (omega arith)

pub one-more-passed : (table : List Binding) (n : ℕ) → n < length table → has_prefix table (numbered n) ≡ true → HasPassed table n → HasPassed table (n + 1)
one-more-passed table n l here h = record {
  within = omega arith;
  there = λ k less. ⊎_elim (λ (same : k ≡ n). ap (λ m. has_prefix table (numbered m)) same ∙ here) (λ (other : k ≡ n → ⊥). h.there k (omega arith)) (cases_eq k n);
}

has_prefix-more : (table more : List Binding) (prefix : List ℕ) → has_prefix table prefix ≡ true → has_prefix (table ++ more) prefix ≡ true
has_prefix-more [] more prefix h = absurd cc
has_prefix-more (b ∷ bs) more prefix h = by_test (same b.prefix prefix) h (has_prefix-more bs more prefix) where
  by_test : (t : Bool) → (t || has_prefix bs prefix) ≡ true → (has_prefix bs prefix ≡ true → has_prefix (bs ++ more) prefix ≡ true) → (t || has_prefix (bs ++ more) prefix) ≡ true
  by_test true k others = refl
  by_test false k others = others k

-- what is entered takes nothing away
pub passed-entered : (table : List Binding) (prefix uri : List ℕ) (n : ℕ) → HasPassed table n → HasPassed (entered table prefix uri) n
passed-entered table prefix uri n h = by_test (has_prefix table prefix) where
  entry : List Binding
  entry = record { prefix = prefix; uri = uri } ∷ []

  by_test : (t : Bool) → HasPassed (if t then table else table ++ entry) n
  by_test true = h
  by_test false = let within = h.within in record {
    within = omega (arith, within, length-append table entry);
    there = λ k l. has_prefix-more table entry (numbered k) (h.there k l);
  }

pub passed-with_name : (table : List Binding) (name : Name) (n : ℕ) → HasPassed table n → HasPassed (with_name table name) n
passed-with_name table name n h = by_test (is_empty name.uri) where
  by_test : (t : Bool) → HasPassed (if t then table else entered table (attribute_prefix table name) name.uri) n
  by_test true = h
  by_test false = passed-entered table (attribute_prefix table name) name.uri n h

attribute_step : (table : List Binding) (attrs : List Attr) (i : ℕ) (a : Attr) → i < length attrs → a ≡ get_or attrs i a → drop i attrs ≡ a ∷ drop (i + 1) attrs
attribute_step table attrs i a h e = at_drop_more (λ (l : List Attr). l) attrs i a h ∙ ap (λ x. x ∷ drop (i + 1) attrs) (sym e)

pub with_attributes-step : (table : List Binding) (attrs : List Attr) (i : ℕ) (a : Attr) → i < length attrs → a ≡ get_or attrs i a →
    with_attributes table (drop i attrs) ≡ with_attributes (with_name table a.name) (drop (i + 1) attrs)
with_attributes-step table attrs i a h e = ap (with_attributes table) (attribute_step table attrs i a h e)

pub prefixes-step : (table : List Binding) (attrs : List Attr) (i : ℕ) (a : Attr) → i < length attrs → a ≡ get_or attrs i a →
    prefixes table (drop i attrs) ≡ attribute_prefix table a.name ∷ prefixes (with_name table a.name) (drop (i + 1) attrs)
prefixes-step table attrs i a h e = ap (prefixes table) (attribute_step table attrs i a h e)
