-- What attributes say one after another.
use Rattle.std.proofs.Common.{◌≡◌, ℕ, List, [], ◌∷◌, ◌++◌, Option, Some, None, Result, Ok, Err, refl, sym, ap, ◌∙◌}
use Rattle.xml_tokens.specs.Texts.{both, worse}
use Rattle.xml_tokens.specs.Tags.{attr_said, attrs_said}
use Rattle.xml_tokens.specs.inside.Spans.{IsRead, worse_of}
use Rattle.xml_tokens.specs.declared.text.BadText.{BadText}
use Rattle.xml_tokens.specs.declared.text.BadText.TheVariants.{Reference, Entity}
use Rattle.xml_tokens.specs.declared.lexeme.RawAttr.{RawAttr}

worse-assoc : (a b c : BadText) → worse (worse a b) c ≡ worse a (worse b c)
worse-assoc Reference b c = refl
worse-assoc Entity b c = refl

abbrev first_of : Result RawAttr BadText → Result (List RawAttr) BadText → Result (List RawAttr) BadText
first_of = both (λ attr attrs. attr ∷ attrs)

abbrev last_of : Result (List RawAttr) BadText → Result RawAttr BadText → Result (List RawAttr) BadText
last_of = both (λ attrs attr. attrs ++ attr ∷ [])

swap : (a : Result RawAttr BadText) (s : Result (List RawAttr) BadText) (b : Result RawAttr BadText) → first_of a (last_of s b) ≡ last_of (first_of a s) b
swap (Ok a) (Ok s) (Ok b) = refl
swap (Ok a) (Ok s) (Err m) = refl
swap (Ok a) (Err l) (Ok b) = refl
swap (Ok a) (Err l) (Err m) = refl
swap (Err k) (Ok s) (Ok b) = refl
swap (Err k) (Ok s) (Err m) = refl
swap (Err k) (Err l) (Ok b) = refl
swap (Err k) (Err l) (Err m) = ap (λ f. Err f) (sym (worse-assoc k l m))

-- one attribute more
pub said-push : (written : List (List ℕ × List ℕ)) (w : List ℕ × List ℕ) → attrs_said (written ++ w ∷ []) ≡ last_of (attrs_said written) (attr_said w)
said-push [] w = by_cases (attr_said w) where
  by_cases : (a : Result RawAttr BadText) → first_of a (Ok []) ≡ last_of (Ok []) a
  by_cases (Ok a) = refl
  by_cases (Err k) = refl
said-push (x ∷ xs) w = ap (first_of (attr_said x)) (said-push xs w) ∙ swap (attr_said x) (attrs_said xs) (attr_said w)

pub read-ok : (attrs new : List RawAttr) (fault : Option BadText) (written : List (List ℕ × List ℕ)) (w : List ℕ × List ℕ) (attr : RawAttr) →
    IsRead attrs fault (attrs_said written) → attr_said w ≡ Ok attr → new ≡ attrs ++ attr ∷ [] → IsRead new fault (attrs_said (written ++ w ∷ []))
read-ok attrs new None written w attr h a n =
    said-push written w ∙ (ap (λ s. last_of s (attr_said w)) h ∙ (ap (last_of (Ok attrs)) a ∙ ap (λ l. Ok l) (sym n)))
read-ok attrs new (Some fault) written w attr h a n = said-push written w ∙ (ap (λ s. last_of s (attr_said w)) h ∙ ap (last_of (Err fault)) a)

pub read-err : (attrs : List RawAttr) (fault : Option BadText) (written : List (List ℕ × List ℕ)) (w : List ℕ × List ℕ) (other : BadText) →
    IsRead attrs fault (attrs_said written) → attr_said w ≡ Err other → IsRead attrs (Some (worse_of fault other)) (attrs_said (written ++ w ∷ []))
read-err attrs None written w other h a = said-push written w ∙ (ap (λ s. last_of s (attr_said w)) h ∙ ap (last_of (Ok attrs)) a)
read-err attrs (Some fault) written w other h a = said-push written w ∙ (ap (λ s. last_of s (attr_said w)) h ∙ ap (last_of (Err fault)) a)
