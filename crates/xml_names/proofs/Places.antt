-- Where the last declaration of a prefix stands.
use Rattle.std.proofs.Common.{◌≡◌, ℕ, suc, ◌+◌, ◌<◌, Bool, true, false, List, [], ◌∷◌, ◌++◌, Option, Some, None, length, refl, sym, ap, ◌∙◌, arith, add-zero, append_assoc, subst, map}
use Rattle.std.specs.Prelude.{slice_get, if◌then◌else◌, MatchOption}
use Rattle.std.specs.Option.{option_or}
use Rattle.std.proofs.Math.Seq.{get_or-append_seam}
use Rattle.std.proofs.lemmas.List.{append-nil, length-append, map_push}
use Rattle.std.proofs.lemmas.Option.{slice_get-get_or}
use Rattle.stx_base.specs.declared.name.Binding.{Binding}
use Rattle.xml_names.specs.Scope.{same, last_uri}
use Rattle.xml_names.specs.inside.InForce.{last_place, hidden_by}
use Rattle.xml_names.specs.declared.in_force.Declared.{Declared}

or-assoc : {X : Type 0} (a b c : Option X) → option_or a (option_or b c) ≡ option_or (option_or a b) c
or-assoc (Some x) b c = refl
or-assoc None b c = refl

or-none : {X : Type 0} (a : Option X) → option_or a None ≡ a
or-none (Some x) = refl
or-none None = refl

-- later declarations come before earlier ones
pub last_uri-append : (xs ys : List Binding) (p : List ℕ) → last_uri (xs ++ ys) p ≡ option_or (last_uri ys p) (last_uri xs p)
last_uri-append [] ys p = sym (or-none (last_uri ys p))
last_uri-append (x ∷ xs) ys p =
    let mine = if same x.prefix p then Some x.uri else None in
    ap (λ o. option_or o mine) (last_uri-append xs ys p) ∙ sym (or-assoc (last_uri ys p) (last_uri xs p) mine)

-- the last declaration decides where it is of the prefix
last_uri-more : (xs : List Binding) (b : Binding) (p : List ℕ) → last_uri (xs ++ b ∷ []) p ≡ (if same b.prefix p then Some b.uri else last_uri xs p)
last_uri-more xs b p = last_uri-append xs (b ∷ []) p ∙ by_test (same b.prefix p) where
  by_test : (t : Bool) → option_or (option_or None (if t then Some b.uri else None)) (last_uri xs p) ≡ (if t then Some b.uri else last_uri xs p)
  by_test true = refl
  by_test false = refl

bindings-more : (ds : List Declared) (d : Declared) (p : List ℕ) → last_uri (map (λ x. x.binding) (ds ++ d ∷ [])) p ≡ (if same d.binding.prefix p then Some d.binding.uri else last_uri (map (λ x. x.binding) ds) p)
bindings-more ds d p = ap (λ l. last_uri l p) (map_push (λ x. x.binding) ds d) ∙ last_uri-more (map (λ x. x.binding) ds) d.binding p

module _ (ds others : List Declared) (d : Declared) (p : List ℕ) (e : ds ≡ others ++ d ∷ []) where
  pub uri-last : same d.binding.prefix p ≡ true → last_uri (map (λ x. x.binding) ds) p ≡ Some d.binding.uri
  uri-last s = ap (λ l. last_uri (map (λ x. x.binding) l) p) e ∙ bindings-more others d p ∙ ap (λ t. if t then Some d.binding.uri else last_uri (map (λ x. x.binding) others) p) s

  pub uri-before : same d.binding.prefix p ≡ false → last_uri (map (λ x. x.binding) ds) p ≡ last_uri (map (λ x. x.binding) others) p
  uri-before s = ap (λ l. last_uri (map (λ x. x.binding) l) p) e ∙ bindings-more others d p ∙ ap (λ t. if t then Some d.binding.uri else last_uri (map (λ x. x.binding) others) p) s

-- one declaration more
pub last_place-more : (n : ℕ) (xs : List Binding) (b : Binding) (p : List ℕ) → last_place n (xs ++ b ∷ []) p ≡ (if same b.prefix p then Some (n + length xs) else last_place n xs p)
last_place-more n [] b p = by_test (same b.prefix p) where
  by_test : (t : Bool) → option_or None (if t then Some n else None) ≡ (if t then Some (n + 0) else None)
  by_test true = ap Some (sym (add-zero n))
  by_test false = refl
last_place-more n (x ∷ xs) b p = ap (λ o. option_or o (if same x.prefix p then Some n else None)) (last_place-more (suc n) xs b p) ∙ by_test (same b.prefix p) where
  by_test : (t : Bool) → option_or (if t then Some (suc n + length xs) else last_place (suc n) xs p) (if same x.prefix p then Some n else None) ≡ (if t then Some (n + suc (length xs)) else last_place n (x ∷ xs) p)
  by_test true = let e : suc n + length xs ≡ n + suc (length xs) = omega arith in ap Some e
  by_test false = refl

pub hidden_by-more : (before bs : List Binding) (b : Binding) → hidden_by before (bs ++ b ∷ []) ≡ hidden_by before bs ++ last_place 0 (before ++ bs) b.prefix ∷ []
hidden_by-more before [] b = ap (λ l. last_place 0 l b.prefix ∷ []) (sym (append-nil before))
hidden_by-more before (x ∷ bs) b =
    ap (λ l. last_place 0 before x.prefix ∷ l) (hidden_by-more (before ++ x ∷ []) bs b
    ∙ ap (λ l. hidden_by (before ++ x ∷ []) bs ++ last_place 0 l b.prefix ∷ []) (append_assoc before (x ∷ []) bs))

-- what a place tells: there stands the last declaration of the prefix, or there is none
abbrev Tells : (before bs : List Binding) (p : List ℕ) → Option ℕ → Type 0
Tells before bs p o = MatchOption o (last_uri bs p ≡ None) (λ k. (b : Binding) × (slice_get (before ++ bs) k ≡ Some b) × (last_uri bs p ≡ Some b.uri))

seam : (before : List Binding) (x : Binding) (xs : List Binding) → slice_get (before ++ x ∷ xs) (length before) ≡ Some x
seam before x xs =
    let less : length before < length (before ++ x ∷ xs) = omega (arith, length-append before (x ∷ xs)) in
    slice_get-get_or (before ++ x ∷ xs) (length before) x less ∙ ap Some (get_or-append_seam before x xs x)

last_place-tells : (before bs : List Binding) (p : List ℕ) → Tells before bs p (last_place (length before) bs p)
last_place-tells before [] p = refl
last_place-tells before (x ∷ xs) p =
    let e : length (before ++ x ∷ []) ≡ suc (length before) = omega (arith, length-append before (x ∷ [])) in
    by_case (last_place (suc (length before)) xs p) (same x.prefix p)
    (subst (λ n. Tells (before ++ x ∷ []) xs p (last_place n xs p)) e (last_place-tells (before ++ x ∷ []) xs p)) where
      by_case : (o : Option ℕ) (t : Bool) → Tells (before ++ x ∷ []) xs p o
          → MatchOption (option_or o (if t then Some (length before) else None)) (option_or (last_uri xs p) (if t then Some x.uri else None) ≡ None)
          (λ k. (b : Binding) × (slice_get (before ++ x ∷ xs) k ≡ Some b) × (option_or (last_uri xs p) (if t then Some x.uri else None) ≡ Some b.uri))
      by_case (Some k) t h =
          (h.0, ap (λ l. slice_get l k) (sym (append_assoc before (x ∷ []) xs)) ∙ h.1, ap (λ o. option_or o (if t then Some x.uri else None)) h.2)
      by_case None true h = (x, seam before x xs, ap (λ o. option_or o (Some x.uri)) h)
      by_case None false h = ap (λ o. option_or o None) h

module _ (bs : List Binding) (p : List ℕ) where
  told : (o : Option ℕ) → last_place 0 bs p ≡ o → Tells [] bs p o
  told o e = subst (Tells [] bs p) e (last_place-tells [] bs p)

  -- there is no declaration without a place
  pub uri-none : None ≡ last_place 0 bs p → last_uri bs p ≡ None
  uri-none e = told None (sym e)

  -- it stands at the place
  pub uri-some : (k : ℕ) → Some k ≡ last_place 0 bs p → (b : Binding) × (slice_get bs k ≡ Some b) × (last_uri bs p ≡ Some b.uri)
  uri-some k e = told (Some k) (sym e)
