-- What a look-up in a table tells.
use Rattle.std.proofs.Common.{◌≡◌, ℕ, Bool, true, false, not, ◌||◌, ◌&&◌, List, [], ◌∷◌, ◌++◌, Option, Some, None, Bor, refl, sym, ap, ◌∙◌, unwrap_or}
use Rattle.std.specs.Prelude.{if◌then◌else◌}
use Rattle.std.specs.Option.{is_some, option_copied}
use Rattle.std.proofs.lemmas.Slice.Eq.{bytes_eq-Decides}
use Rattle.stx_base.specs.declared.name.Binding.{Binding}
use Rattle.stx_base.specs.declared.name.Name.{Name}
use Rattle.result_writer.specs.Allowed.{same}
use Rattle.result_writer.specs.Table.{AreApart, bound_from, has_prefix, is_taken}
use Rattle.result_writer.proofs.Apart.{or_none}

-- no text is the empty one and another
one_text : (t : List ℕ) → [] ≡ t → 0 ∷ [] ≡ t → ⊥
one_text [] e f = cc
one_text (c ∷ cs) e f = cc

module _ (p : List ℕ) where
  without : (t : List Binding) (u : List ℕ) → has_prefix t p ≡ false → bound_from u t p ≡ u
  without [] u h = refl
  without (b ∷ bs) u h =
      let both = or_none (same b.prefix p) (has_prefix bs p) h in
      ap (λ v. bound_from (if v then b.uri else u) bs p) both.0 ∙ without bs u both.1

  whatever : (t : List Binding) (u v : List ℕ) → has_prefix t p ≡ true → bound_from u t p ≡ bound_from v t p
  whatever [] u v h = absurd cc
  whatever (b ∷ bs) u v h = by_test (same b.prefix p) h (λ k. whatever bs u v k) where
    by_test : (s : Bool) → (s || has_prefix bs p) ≡ true → (has_prefix bs p ≡ true → bound_from u bs p ≡ bound_from v bs p)
        → bound_from (if s then b.uri else u) bs p ≡ bound_from (if s then b.uri else v) bs p
    by_test true k later = refl
    by_test false k later = later k

  -- a URI is found just where the table has the prefix
  pub found : (t : List Binding) (o : Option (List ℕ)) → ((u : List ℕ) → unwrap_or o u ≡ bound_from u t p) → is_some o ≡ has_prefix t p
  found t None h = by_test (has_prefix t p) refl where
    by_test : (s : Bool) → has_prefix t p ≡ s → false ≡ s
    by_test true k = absurd (one_text (bound_from [] t p) (h []) (h (0 ∷ []) ∙ whatever t (0 ∷ []) [] k))
    by_test false k = refl
  found t (Some x) h = by_test (has_prefix t p) refl where
    by_test : (s : Bool) → has_prefix t p ≡ s → true ≡ s
    by_test true k = refl
    by_test false k = absurd (one_text x (sym (without t [] k) ∙ sym (h [])) (sym (without t (0 ∷ []) k) ∙ sym (h (0 ∷ []))))

  pub found-shown : (t : List Binding) (o : Option (Bor (List ℕ))) → ((u : List ℕ) → unwrap_or (option_copied o) u ≡ bound_from u t p) → is_some o ≡ has_prefix t p
  found-shown t None h = found t None h
  found-shown t (Some x) h = found t (Some x.now) h

module _ (n : Name) where
  untaken : (t : List Binding) → has_prefix t n.prefix ≡ false → is_taken t n ≡ false
  untaken [] h = refl
  untaken (b ∷ bs) h =
      let both = or_none (same b.prefix n.prefix) (has_prefix bs n.prefix) h in
      ap (λ v. (v && not (same b.uri n.uri)) || is_taken bs n) both.0 ∙ untaken bs both.1

  -- the only binding of the prefix decides
  taken : (t : List Binding) (u : List ℕ) → AreApart t → has_prefix t n.prefix ≡ true → is_taken t n ≡ not (same (bound_from u t n.prefix) n.uri)
  taken [] u a h = absurd cc
  taken (b ∷ bs) u a h = by_test (same b.prefix n.prefix) refl h (λ k. taken bs u a.1 k) where
    alone : same b.prefix n.prefix ≡ true → has_prefix bs n.prefix ≡ false
    alone e = ap (has_prefix bs) (sym ((bytes_eq-Decides b.prefix n.prefix).0 e)) ∙ a.0

    or_false : (s : Bool) → (s || false) ≡ s
    or_false true = refl
    or_false false = refl

    by_test : (s : Bool) → same b.prefix n.prefix ≡ s → (s || has_prefix bs n.prefix) ≡ true
        → (has_prefix bs n.prefix ≡ true → is_taken bs n ≡ not (same (bound_from u bs n.prefix) n.uri))
        → ((s && not (same b.uri n.uri)) || is_taken bs n) ≡ not (same (bound_from (if s then b.uri else u) bs n.prefix) n.uri)
    by_test true e k later =
        ap (λ v. not (same b.uri n.uri) || v) (untaken bs (alone e)) ∙ or_false (not (same b.uri n.uri))
        ∙ ap (λ v. not (same v n.uri)) (sym (without n.prefix bs b.uri (alone e)))
    by_test false e k later = later k

  pub taken-none : (t : List Binding) → ((u : List ℕ) → u ≡ bound_from u t n.prefix) → is_taken t n ≡ false
  taken-none t h = untaken t (sym (found n.prefix t None h))

  pub taken-some : (t : List Binding) (x : List ℕ) → AreApart t → ((u : List ℕ) → x ≡ bound_from u t n.prefix) → is_taken t n ≡ not (same x n.uri)
  taken-some t x a h = taken t [] a (sym (found n.prefix t (Some x) h)) ∙ ap (λ v. not (same v n.uri)) (sym (h []))
