-- Lists that are read item by item.
use Rattle.std.proofs.Common.{◌≡◌, ℕ, ◌+◌, ◌<◌, List, [], ◌∷◌, ◌++◌, Option, Some, None, length, take, get_or, refl, sym, ap, ◌∙◌, append_assoc}
use Rattle.std.specs.List.{filter_map, cons_option}
use Rattle.std.proofs.lemmas.List.{take_more}

module _ {X Y : Type 0} (f : X → Option Y) where
  filter_map-some : (xs : List X) (x : X) (y : Y) → f x ≡ Some y → filter_map f (xs ++ x ∷ []) ≡ filter_map f xs ++ y ∷ []
  filter_map-some [] x y e = ap (λ o. cons_option o []) e
  filter_map-some (z ∷ xs) x y e = ap (cons_option (f z)) (filter_map-some xs x y e) ∙ by_case (f z) where
    by_case : (o : Option Y) → cons_option o (filter_map f xs ++ y ∷ []) ≡ cons_option o (filter_map f xs) ++ y ∷ []
    by_case None = refl
    by_case (Some w) = refl

  filter_map-none : (xs : List X) (x : X) → f x ≡ None → filter_map f (xs ++ x ∷ []) ≡ filter_map f xs
  filter_map-none [] x e = ap (λ o. cons_option o []) e
  filter_map-none (z ∷ xs) x e = ap (cons_option (f z)) (filter_map-none xs x e)

  -- one item more
  module _ (xs : List X) (i : ℕ) (x : X) (h : i < length xs) (e : x ≡ get_or xs i x) where
    taken : take (i + 1) xs ≡ take i xs ++ x ∷ []
    taken = take_more xs i x h ∙ ap (λ a. take i xs ++ a ∷ []) (sym e)

    pub filter_map-more_some : (y : Y) → f x ≡ Some y → filter_map f (take (i + 1) xs) ≡ filter_map f (take i xs) ++ y ∷ []
    filter_map-more_some y p = ap (filter_map f) taken ∙ filter_map-some (take i xs) x y p

    pub filter_map-more_none : f x ≡ None → filter_map f (take (i + 1) xs) ≡ filter_map f (take i xs)
    filter_map-more_none p = ap (filter_map f) taken ∙ filter_map-none (take i xs) x p

  -- one item less is left
  module _ (made : List Y) (x : X) (rest : List X) where
    pub filter_map-next_some : (y : Y) → f x ≡ Some y → (made ++ y ∷ []) ++ filter_map f rest ≡ made ++ filter_map f (x ∷ rest)
    filter_map-next_some y e = append_assoc made (y ∷ []) (filter_map f rest) ∙ ap (λ o. made ++ cons_option o (filter_map f rest)) (sym e)

    pub filter_map-next_none : f x ≡ None → made ++ filter_map f rest ≡ made ++ filter_map f (x ∷ rest)
    filter_map-next_none e = ap (λ o. made ++ cons_option o (filter_map f rest)) (sym e)
