-- Laws of texts that lie one behind another.
use Rattle.std.proofs.Common.{◌≡◌, ℕ, suc, ◌-◌, ◌≤◌, List, [], ◌∷◌, ◌++◌, length, length-append, append_assoc, take, drop, refl, sym, ap, ◌∙◌, arith, subst, chars, IsUtf8}
use Rattle.std.specs.Str.{IsCharBoundary}
use Rattle.std.proofs.lemmas.List.{append-nil, drop-append-le, length-take, take-append-drop, take-append-le, take_all}
use Rattle.std.proofs.lemmas.Str.{IsCharBoundary-from_drop, IsUtf8-append, IsUtf8-nil}
use Rattle.std.proofs.Math.Seq.{drop-append_seam, take-append_seam}
use Rattle.xml_events.specs.inside.Texts.{cut_texts, AreTexts}

pub cut-length : (lens bytes : List ℕ) → length (cut_texts lens bytes) ≡ length lens
cut-length [] bytes = refl
cut-length (n ∷ ns) bytes = ap suc (cut-length ns (drop n bytes))

-- a text more
pub cut-more : (lens bytes text : List ℕ) → AreTexts lens bytes → IsUtf8 text →
    AreTexts (lens ++ length text ∷ []) (bytes ++ text) × (cut_texts (lens ++ length text ∷ []) (bytes ++ text) ≡ cut_texts lens bytes ++ chars text ∷ [])
cut-more [] bytes text are utf8 =
    let whole : take (length text) (bytes ++ text) ≡ text = ap (λ l. take (length text) (l ++ text)) are ∙ take_all (length text) text (omega arith) in
    let none : drop (length text) (bytes ++ text) ≡ [] = ap (λ l. drop (length text) (l ++ text)) are ∙ (ap (λ l. drop (length text) l) (sym (append-nil text)) ∙ drop-append_seam text []) in (
      (omega (arith, length-append bytes text), subst IsUtf8 (sym whole) utf8, none),
      ap (λ l. chars l ∷ []) whole,
    )
cut-more (n ∷ ns) bytes text (within, front, are) utf8 =
    let first : take n (bytes ++ text) ≡ take n bytes = take-append-le n bytes text within in
    let others : drop n (bytes ++ text) ≡ drop n bytes ++ text = drop-append-le n bytes text within in
    let more = cut-more ns (drop n bytes) text are utf8 in (
      (omega (arith, within, length-append bytes text), subst IsUtf8 (sym first) front, subst (AreTexts (ns ++ length text ∷ [])) (sym others) more.0),
      ap (λ l. chars l ∷ cut_texts (ns ++ length text ∷ []) (drop n (bytes ++ text))) first ∙ ap (λ l. chars (take n bytes) ∷ l) (ap (cut_texts (ns ++ length text ∷ [])) others ∙ more.1),
    )

-- the last text, and those before it
pub record Last (lens : List ℕ) (n : ℕ) (bytes : List ℕ) : Type 0 where
  pub front : List ℕ
  pub text : List ℕ
  pub whole : bytes ≡ front ++ text
  pub size : length text ≡ n
  pub utf8 : IsUtf8 text
  pub are : AreTexts lens front
  pub cut : cut_texts (lens ++ n ∷ []) bytes ≡ cut_texts lens front ++ chars text ∷ []

pub last-of : (lens : List ℕ) (n : ℕ) (bytes : List ℕ) → AreTexts (lens ++ n ∷ []) bytes → Last lens n bytes
last-of [] n bytes (within, utf8, none) =
    let whole : take n bytes ≡ bytes = sym (append-nil (take n bytes)) ∙ (ap (λ l. take n bytes ++ l) (sym none) ∙ take-append-drop n bytes) in
    record {
      front = [];
      text = bytes;
      whole = refl;
      size = omega (arith, within, ap length whole, length-take n bytes);
      utf8 = subst IsUtf8 whole utf8;
      are = refl;
      cut = ap (λ l. chars l ∷ []) whole;
    }
last-of (m ∷ ms) n bytes (within, utf8, are) =
    let rest = last-of ms n (drop m bytes) are in
    let first = take m bytes in
    let size : length first ≡ m = omega (arith, length-take m bytes, within) in
    let same : take m (first ++ rest.front) ≡ first = ap (λ k. take k (first ++ rest.front)) (sym size) ∙ take-append_seam first rest.front in
    let others : drop m (first ++ rest.front) ≡ rest.front = ap (λ k. drop k (first ++ rest.front)) (sym size) ∙ drop-append_seam first rest.front in
    record {
      front = first ++ rest.front;
      text = rest.text;
      whole = sym (take-append-drop m bytes) ∙ (ap (λ l. first ++ l) rest.whole ∙ sym (append_assoc first rest.front rest.text));
      size = rest.size;
      utf8 = rest.utf8;
      are = (omega (arith, size, length-append first rest.front), subst IsUtf8 (sym same) utf8, subst (AreTexts ms) (sym others) rest.are);
      cut =
          ap (λ l. chars first ∷ l) rest.cut
          ∙ sym (ap (λ l. chars l ∷ (cut_texts ms (drop m (first ++ rest.front)) ++ chars rest.text ∷ [])) same
          ∙ ap (λ l. chars first ∷ (cut_texts ms l ++ chars rest.text ∷ [])) others);
    }

pub texts-utf8 : (lens bytes : List ℕ) → AreTexts lens bytes → IsUtf8 bytes
texts-utf8 [] bytes are = subst IsUtf8 (sym are) IsUtf8-nil
texts-utf8 (n ∷ ns) bytes (within, utf8, are) = subst IsUtf8 (take-append-drop n bytes) (IsUtf8-append (take n bytes) (drop n bytes) utf8 (texts-utf8 ns (drop n bytes) are))

-- where it begins
module _ (lens : List ℕ) (n : ℕ) (bytes : List ℕ) (are : AreTexts (lens ++ n ∷ []) bytes) where
  pub last-within : n ≤ length bytes
  last-within = let l = last-of lens n bytes are in omega (arith, l.size, ap length l.whole, length-append l.front l.text)

  pub last-seam : length bytes - n ≡ length (last-of lens n bytes are).front
  last-seam = let l = last-of lens n bytes are in omega (arith, l.size, ap length l.whole, length-append l.front l.text)

  pub last-front : take (length bytes - n) bytes ≡ (last-of lens n bytes are).front
  last-front = let l = last-of lens n bytes are in ap (λ k. take k bytes) last-seam ∙ (ap (take (length l.front)) l.whole ∙ take-append_seam l.front l.text)

  pub last-text : drop (length bytes - n) bytes ≡ (last-of lens n bytes are).text
  last-text = let l = last-of lens n bytes are in ap (λ k. drop k bytes) last-seam ∙ (ap (drop (length l.front)) l.whole ∙ drop-append_seam l.front l.text)

  -- and without it
  pub fewer-texts : AreTexts lens (take (length bytes - n) bytes)
  fewer-texts = subst (AreTexts lens) (sym last-front) (last-of lens n bytes are).are

  pub cut-last : cut_texts (lens ++ n ∷ []) bytes ≡ cut_texts lens (take (length bytes - n) bytes) ++ chars (drop (length bytes - n) bytes) ∷ []
  cut-last =
      let l = last-of lens n bytes are in
      l.cut ∙ sym (ap (λ f. cut_texts lens f ++ chars (drop (length bytes - n) bytes) ∷ []) last-front ∙ ap (λ t. cut_texts lens l.front ++ chars t ∷ []) last-text)

  pub last-utf8 : IsUtf8 (drop (length bytes - n) bytes)
  last-utf8 = subst IsUtf8 (sym last-text) (last-of lens n bytes are).utf8

-- where the last number is known
module _ (lens bytes : List ℕ) (are : AreTexts lens bytes) (ns : List ℕ) (n : ℕ) (e : lens ≡ ns ++ n ∷ []) where
  known : AreTexts (ns ++ n ∷ []) bytes
  known = subst (λ ms. AreTexts ms bytes) e are

  pub size-within : n ≤ length bytes
  size-within = last-within ns n bytes known

  pub cut-boundary : IsCharBoundary bytes (length bytes - n)
  cut-boundary = IsCharBoundary-from_drop bytes (length bytes - n) (omega arith) (last-utf8 ns n bytes known)

  pub rest-texts : AreTexts ns (take (length bytes - n) bytes)
  rest-texts = fewer-texts ns n bytes known

  pub cut-known : cut_texts lens bytes ≡ cut_texts ns (take (length bytes - n) bytes) ++ chars (drop (length bytes - n) bytes) ∷ []
  cut-known = ap (λ ms. cut_texts ms bytes) e ∙ cut-last ns n bytes known
