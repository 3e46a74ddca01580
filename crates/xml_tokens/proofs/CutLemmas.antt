-- Cuts of a document into shapes.
use Rattle.std.proofs.Common.{◌≡◌, ℕ, zero, suc, ◌<◌, Bool, false, List, [], ◌∷◌, ◌++◌, Option, Some, None, length, take, drop, refl, sym, ap, ◌∙◌, arith, subst, length-drop, append_assoc}
use Rattle.std.proofs.lemmas.List.{take-append-drop, length-take}
use Rattle.std.proofs.Math.Seq.{take-append_seam, drop-append_seam}
use Rattle.xml_tokens.specs.Shape.{shape_len}
use Rattle.xml_tokens.specs.Cuts.{IsWhole, Cuts, joined, JoinedAgain, RestUnended, SomeCut, OneCut}
use Rattle.xml_tokens.proofs.WholeLemmas.{shape_len-more, whole-within}

pub joined-again : JoinedAgain
joined-again ended bytes [] rest h = sym h.0
joined-again ended bytes (shape ∷ shapes) rest h =
    append_assoc shape (joined shapes) rest ∙ (ap (λ l. shape ++ l) (joined-again ended h.0 shapes rest h.3) ∙ sym h.1)

rest_none : (ended : Bool) (bytes : List ℕ) (shapes : List (List ℕ)) (rest : List ℕ) → Cuts ended bytes shapes rest → shape_len ended rest ≡ None
rest_none ended bytes [] rest h = h.1
rest_none ended bytes (shape ∷ shapes) rest h = rest_none ended h.0 shapes rest h.3

pub rest-unended : RestUnended
rest-unended ended bytes shapes rest front more h e = by_front (shape_len false front) refl where
  by_front : (o : Option ℕ) → shape_len false front ≡ o → shape_len false front ≡ None
  by_front None k = k
  by_front (Some len) k =
      let found = shape_len-more ended front more len k in
      let none : shape_len ended (front ++ more) ≡ None = ap (shape_len ended) (sym e) ∙ rest_none ended bytes shapes rest h in
      let clash = sym found ∙ none in
      absurd cc

cut_within : (n : ℕ) (ended : Bool) (bytes : List ℕ) → length bytes < n → (shapes : List (List ℕ)) × (rest : List ℕ) × Cuts ended bytes shapes rest
cut_within zero ended bytes h = absurd (omega arith)
cut_within (suc n) ended bytes h = by_shape (λ l k. cut_within n ended l k) (shape_len ended bytes) refl where
  by_shape : ((l : List ℕ) → length l < n → (shapes : List (List ℕ)) × (rest : List ℕ) × Cuts ended l shapes rest) → (o : Option ℕ) → shape_len ended bytes ≡ o → (shapes : List (List ℕ)) × (rest : List ℕ) × Cuts ended bytes shapes rest
  by_shape again None e = ([], bytes, (refl, e))
  by_shape again (Some len) e =
      let w = whole-within ended bytes len e in
      let later = again (drop len bytes) (omega (arith, w.0, w.1, length-drop len bytes)) in
      let parts : take len bytes ++ drop len bytes ≡ bytes = take-append-drop len bytes in
      let size : length (take len bytes) ≡ len = omega (arith, length-take len bytes, w.1) in
      let whole : IsWhole ended (take len bytes) (drop len bytes) = ap (shape_len ended) parts ∙ (e ∙ ap Some (sym size)) in
      (take len bytes ∷ later.0, later.1, (drop len bytes, sym parts, whole, later.2))

pub some-cut : SomeCut
some-cut ended bytes = cut_within (suc (length bytes)) ended bytes (omega arith)

-- two shapes that begin one list of bytes are one
same_shape : (ended : Bool) (bytes a b x y : List ℕ) → bytes ≡ a ++ x → bytes ≡ b ++ y → IsWhole ended a x → IsWhole ended b y → (a ≡ b) × (x ≡ y)
same_shape ended bytes a b x y ea eb wa wb =
    let sizes : Some (length a) ≡ Some (length b) = sym wa ∙ (ap (shape_len ended) (sym ea ∙ eb) ∙ wb) in
    let size : length a ≡ length b = cc in (
      sym (take-append_seam a x) ∙ (ap (take (length a)) (sym ea ∙ eb) ∙ (ap (λ n. take n (b ++ y)) size ∙ take-append_seam b y)),
      sym (drop-append_seam a x) ∙ (ap (drop (length a)) (sym ea ∙ eb) ∙ (ap (λ n. drop n (b ++ y)) size ∙ drop-append_seam b y)),
    )

pub one-cut : OneCut
one-cut ended bytes [] [] rest other h k = (refl, sym h.0 ∙ k.0)
one-cut ended bytes [] (b ∷ bs) rest other h k =
    let clash = sym h.1 ∙ (ap (shape_len ended) (sym h.0 ∙ k.1) ∙ k.2) in absurd cc
one-cut ended bytes (a ∷ as_) [] rest other h k =
    let clash = sym k.1 ∙ (ap (shape_len ended) (sym k.0 ∙ h.1) ∙ h.2) in absurd cc
one-cut ended bytes (a ∷ as_) (b ∷ bs) rest other h k =
    let same = same_shape ended bytes a b h.0 k.0 h.1 k.1 h.2 k.2 in
    let there : Cuts ended h.0 bs other = subst (λ (l : List ℕ). Cuts ended l bs other) (sym same.1) k.3 in
    let later = one-cut ended h.0 as_ bs rest other h.3 there in
    (ap (λ s. s ∷ as_) same.0 ∙ ap (λ l. b ∷ l) later.0, later.1)
