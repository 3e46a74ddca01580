-- Where the last binding of a prefix stands.
use Rattle.std.proofs.Common.{◌≡◌, ℕ, suc, ◌+◌, ◌<◌, Bool, true, false, List, [], ◌∷◌, ◌++◌, Option, Some, None, length, refl, sym, ap, ◌∙◌, arith, add-zero, append_assoc, subst}
use Rattle.std.specs.Prelude.{slice_get, if◌then◌else◌, MatchOption}
use Rattle.std.specs.Option.{option_or}
use Rattle.std.proofs.Math.Seq.{get_or-append_seam}
use Rattle.std.proofs.lemmas.List.{append-nil, length-append}
use Rattle.std.proofs.lemmas.Option.{slice_get-get_or}
use Rattle.stx_base.specs.declared.name.Binding.{Binding}
use Rattle.result_writer.specs.Allowed.{same}
use Rattle.result_writer.specs.InForce.{last_place, hidden_by}
use Rattle.result_writer.specs.Table.{bound_from}

-- bindings behind others
pub bound_from-append : (u : List ℕ) (xs ys : List Binding) (p : List ℕ) → bound_from u (xs ++ ys) p ≡ bound_from (bound_from u xs p) ys p
bound_from-append u [] ys p = refl
bound_from-append u (x ∷ xs) ys p = bound_from-append (if same x.prefix p then x.uri else u) xs ys p

module _ (u : List ℕ) (bs others : List Binding) (b : Binding) (p : List ℕ) (e : bs ≡ others ++ b ∷ []) where
  decides : bound_from u bs p ≡ (if same b.prefix p then b.uri else bound_from u others p)
  decides = ap (λ l. bound_from u l p) e ∙ bound_from-append u others (b ∷ []) p

  -- the last binding decides, where it has the prefix
  pub bound-here : same b.prefix p ≡ true → bound_from u bs p ≡ b.uri
  bound-here s = decides ∙ ap (λ t. if t then b.uri else bound_from u others p) s

  pub bound-before : same b.prefix p ≡ false → bound_from u bs p ≡ bound_from u others p
  bound-before s = decides ∙ ap (λ t. if t then b.uri else bound_from u others p) s

-- one binding more
pub last_place-more : (n : ℕ) (xs : List Binding) (b : Binding) (p : List ℕ) → last_place n (xs ++ b ∷ []) p ≡ (if same b.prefix p then Some (n + length xs) else last_place n xs p)
last_place-more n [] b p = by_test (same b.prefix p) where
  by_test : (t : Bool) → option_or None (if t then Some n else None) ≡ (if t then Some (n + 0) else None)
  by_test true = ap Some (sym (add-zero n))
  by_test false = refl
last_place-more n (x ∷ xs) b p = ap (λ o. option_or o (if same x.prefix p then Some n else None)) (last_place-more (suc n) xs b p) ∙ by_test (same b.prefix p) where
  by_test : (t : Bool) → option_or (if t then Some (suc n + length xs) else last_place (suc n) xs p) (if same x.prefix p then Some n else None) ≡ (if t then Some (n + suc (length xs)) else last_place n (x ∷ xs) p)
  by_test true = let e : suc n + length xs ≡ n + suc (length xs) = omega arith in ap Some e
  by_test false = refl

pub hidden_by-more : (before bs : List Binding) (b : Binding) → hidden_by before (bs ++ b ∷ []) ≡ hidden_by before bs ++ last_place 0 (before ++ bs) b.prefix ∷ []
hidden_by-more before [] b = ap (λ l. last_place 0 l b.prefix ∷ []) (sym (append-nil before))
hidden_by-more before (x ∷ bs) b =
    ap (λ l. last_place 0 before x.prefix ∷ l) (hidden_by-more (before ++ x ∷ []) bs b
    ∙ ap (λ l. hidden_by (before ++ x ∷ []) bs ++ last_place 0 l b.prefix ∷ []) (append_assoc before (x ∷ []) bs))

-- what a place tells: there stands the last binding of the prefix, or there is none
abbrev Tells : (before bs : List Binding) (p : List ℕ) → Option ℕ → Type 0
Tells before bs p o =
    MatchOption o ((u : List ℕ) → bound_from u bs p ≡ u) (λ k. (b : Binding) × (slice_get (before ++ bs) k ≡ Some b) × ((u : List ℕ) → bound_from u bs p ≡ b.uri))

seam : (before : List Binding) (x : Binding) (xs : List Binding) → slice_get (before ++ x ∷ xs) (length before) ≡ Some x
seam before x xs =
    let less : length before < length (before ++ x ∷ xs) = omega (arith, length-append before (x ∷ xs)) in
    slice_get-get_or (before ++ x ∷ xs) (length before) x less ∙ ap Some (get_or-append_seam before x xs x)

last_place-tells : (before bs : List Binding) (p : List ℕ) → Tells before bs p (last_place (length before) bs p)
last_place-tells before [] p = λ u. refl
last_place-tells before (x ∷ xs) p =
    let e : length (before ++ x ∷ []) ≡ suc (length before) = omega (arith, length-append before (x ∷ [])) in
    by_case (last_place (suc (length before)) xs p) (same x.prefix p)
    (subst (λ n. Tells (before ++ x ∷ []) xs p (last_place n xs p)) e (last_place-tells (before ++ x ∷ []) xs p)) where
      by_case : (o : Option ℕ) (t : Bool) → Tells (before ++ x ∷ []) xs p o
          → MatchOption (option_or o (if t then Some (length before) else None)) ((u : List ℕ) → bound_from (if t then x.uri else u) xs p ≡ u)
          (λ k. (b : Binding) × (slice_get (before ++ x ∷ xs) k ≡ Some b) × ((u : List ℕ) → bound_from (if t then x.uri else u) xs p ≡ b.uri))
      by_case (Some k) t h =
          (h.0, ap (λ l. slice_get l k) (sym (append_assoc before (x ∷ []) xs)) ∙ h.1, λ u. h.2 (if t then x.uri else u))
      by_case None true h = (x, seam before x xs, λ u. h x.uri)
      by_case None false h = h

module _ (bs : List Binding) (p : List ℕ) where
  told : (o : Option ℕ) → last_place 0 bs p ≡ o → Tells [] bs p o
  told o e = subst (Tells [] bs p) e (last_place-tells [] bs p)

  -- there is no binding without a place
  pub bound-none : None ≡ last_place 0 bs p → (u : List ℕ) → bound_from u bs p ≡ u
  bound-none e = told None (sym e)

  -- it stands at the place
  pub bound-some : (k : ℕ) → Some k ≡ last_place 0 bs p → (b : Binding) × (slice_get bs k ≡ Some b) × ((u : List ℕ) → bound_from u bs p ≡ b.uri)
  bound-some k e = told (Some k) (sym e)
