-- The last of the documents that are read.
use Rattle.std.proofs.Common.{◌≡◌, ℕ, ◌-◌, List, [], ◌∷◌, ◌++◌, length, get_or, slice_set, sym, ap, ◌∙◌, arith, length-append}
use Rattle.std.proofs.lemmas.List.{get_or_push}
use Rattle.std.proofs.Math.Seq.{set-append_seam}
use Rattle.sheet_runs.specs.declared.other.Other.{Other}

module _ (xs front : List Other) (o : Other) (n : ℕ) (is : xs ≡ front ++ o ∷ []) (len : n ≡ length xs) where
  place : n - 1 ≡ length front
  place = omega (arith, len, ap length is, length-append front (o ∷ []))

  pub set-last : (w : Other) → slice_set xs (n - 1) w ≡ front ++ w ∷ []
  set-last w = ap (λ ys. slice_set ys (n - 1) w) is ∙ ap (λ k. slice_set (front ++ o ∷ []) k w) place ∙ set-append_seam front o [] w

  pub last-item : (e : Other) → e ≡ get_or xs (n - 1) e → e ≡ o
  last-item e at = at ∙ ap (λ ys. get_or ys (n - 1) e) is ∙ get_or_push front o e (n - 1) (sym place)
