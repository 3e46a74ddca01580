-- Beginnings of lists.
use Rattle.std.proofs.Common.{List, [], ◌++◌, refl, sym, ap, ◌∙◌, append_assoc}
use Rattle.std.proofs.lemmas.List.{append-nil}
use Rattle.stx_base.specs.Course.{Begins}

module _ {X : Type 0} where
  pub begins_nothing : (ys : List X) → Begins [] ys
  begins_nothing ys = (ys, refl)

  pub begins_all : (xs : List X) → Begins xs xs
  begins_all xs = ([], append-nil xs)

  -- a part of what begins is a beginning
  pub begins_front : (xs ys zs : List X) → Begins (xs ++ ys) zs → Begins xs zs
  begins_front xs ys zs h = (ys ++ h.0, sym (append_assoc xs ys h.0) ∙ h.1)

  pub begins_after : (xs ys zs : List X) → Begins ys zs → Begins (xs ++ ys) (xs ++ zs)
  begins_after xs ys zs h = (h.0, append_assoc xs ys h.0 ∙ ap (λ l. xs ++ l) h.1)

  pub begins_more : (xs ys zs : List X) → Begins xs ys → Begins xs (ys ++ zs)
  begins_more xs ys zs h = (h.0 ++ zs, sym (append_assoc xs h.0 zs) ∙ ap (λ l. l ++ zs) h.1)
