-- End tags among shapes that come one after another.
use Rattle.std.proofs.Common.{◌≡◌, ℕ, suc, ◌+◌, Bool, true, false, ◌==◌, List, [], ◌∷◌, ◌++◌, Option, Some, None, length, refl, sym, ap, ◌∙◌, subst, arith, append_assoc}
use Rattle.std.specs.Prelude.{if◌then◌else◌}
use Rattle.std.specs.List.{list_all}
use Rattle.std.specs.Option.{option_map}
use Rattle.std.proofs.lemmas.Bool.{and_parts}
use Rattle.xml_tokens.specs.Cuts.{IsWhole, Cuts}
use Rattle.xml_tokens.specs.Places.{first_byte}
use Rattle.xml_tokens.specs.Shape.{form, shape_len, end_by, text_end, is_less}
use Rattle.xml_tokens.specs.declared.form.Form.TheVariants.{Text}
use Rattle.xml_tokens.proofs.CutLemmas.{some-cut, one-cut}
use Rattle.xml_tokens.proofs.WholeLemmas.{shape_len-more, whole-within}
use Rattle.stx_engine.specs.Nesting.{Neither, Turns, EndsMatch, EndsHaveStarts, effect, effect_by}
use Rattle.stx_engine.proofs.Markup.{is_text, negated}

-- each end tag in the bytes has the name of the innermost start tag that is open there; these names are open before them
abbrev pub Matched : (names : List (List ℕ)) → List ℕ → Type 0
Matched names bytes = (shapes : List (List ℕ)) × (rest : List ℕ) × Cuts false bytes shapes rest × EndsMatch names shapes

pub nothing_matched : (names : List (List ℕ)) → Matched names []
nothing_matched names = ([], [], (refl, refl), tt)

-- a whole shape, and what follows
pub shape_matched : (names behind : List (List ℕ)) (shape more : List ℕ) → IsWhole false shape more → Turns (effect shape) names behind → Matched behind more → Matched names (shape ++ more)
shape_matched names behind shape more whole turns m = (shape ∷ m.0, m.1, (more, refl, whole, m.2), (behind, turns, m.3))

-- Text

is_text_form : (b : ℕ) (bytes : List ℕ) → (b == 60) ≡ false → form (b ∷ bytes) ≡ Text
is_text_form b bytes e = rw e refl

text_end_is : (bytes : List ℕ) (o : Option ℕ) → text_end false bytes o ≡ o
text_end_is bytes None = refl
text_end_is bytes (Some n) = refl

-- text reaches to the next tag
text_len : (b : ℕ) (bytes : List ℕ) → (b == 60) ≡ false → shape_len false (b ∷ bytes) ≡ first_byte is_less 1 bytes
text_len b bytes e =
    ap (λ f. end_by f false (b ∷ bytes)) (is_text_form b bytes e)
    ∙ (text_end_is (b ∷ bytes) (first_byte is_less 0 (b ∷ bytes)) ∙ ap (λ t. if t then Some 0 else first_byte is_less 1 bytes) e)

one_later : (at : ℕ) (bytes : List ℕ) → first_byte is_less (at + 1) bytes ≡ option_map (λ n. n + 1) (first_byte is_less at bytes)
one_later at [] = refl
one_later at (b ∷ bs) =
    elim (b == 60) as (λ t. (if t then Some (at + 1) else first_byte is_less (at + 1 + 1) bs) ≡ option_map (λ n. n + 1) (if t then Some at else first_byte is_less (at + 1) bs)) [
      | true ↦ refl
      | false ↦ one_later (at + 1) bs
    ]

-- a byte more of text
text_later : (b c : ℕ) (bytes : List ℕ) → (b == 60) ≡ false → (c == 60) ≡ false → shape_len false (b ∷ c ∷ bytes) ≡ option_map (λ n. n + 1) (shape_len false (c ∷ bytes))
text_later b c bytes e f =
    text_len b (c ∷ bytes) e
    ∙ (ap (λ t. if t then Some 1 else first_byte is_less 2 bytes) f
    ∙ (one_later 1 bytes ∙ ap (option_map (λ n. n + 1)) (sym (text_len c bytes f))))

text_effect : (b : ℕ) (bytes : List ℕ) → (b == 60) ≡ false → effect (b ∷ bytes) ≡ Neither
text_effect b bytes e = ap (λ f. effect_by f (b ∷ bytes)) (is_text_form b bytes e)

-- a byte of text before a tag
before_tag : (names : List (List ℕ)) (b c : ℕ) (bytes : List ℕ) → (b == 60) ≡ false → (c == 60) ≡ true → Matched names (c ∷ bytes) → Matched names (b ∷ c ∷ bytes)
before_tag names b c bytes e f m =
    shape_matched names names (b ∷ []) (c ∷ bytes)
    (text_len b (c ∷ bytes) e ∙ ap (λ t. if t then Some 1 else first_byte is_less 2 bytes) f)
    (subst (λ x. Turns x names names) (sym (text_effect b [] e)) refl) m

-- a byte of text before a shape of text
before_text : (names : List (List ℕ)) (b c : ℕ) (bytes : List ℕ) → (b == 60) ≡ false → (c == 60) ≡ false → (shapes : List (List ℕ)) (rest : List ℕ) → Cuts false (c ∷ bytes) shapes rest → EndsMatch names shapes → Matched names (b ∷ c ∷ bytes)
before_text names b c bytes e f [] rest cuts ends =
    let none : shape_len false (c ∷ bytes) ≡ None = ap (shape_len false) cuts.0 ∙ cuts.1 in
    ([], b ∷ c ∷ bytes, (refl, text_later b c bytes e f ∙ ap (option_map (λ n. n + 1)) none), tt)
before_text names b c bytes e f ([] ∷ shapes) rest cuts ends =
    let within = whole-within false cuts.0 0 cuts.2 in absurd (omega (arith, within.0))
before_text names b c bytes e f ((d ∷ shape) ∷ shapes) rest cuts ends =
    let first : c ≡ d = let same = cuts.1 in cc in
    let later : bytes ≡ shape ++ cuts.0 = let same = cuts.1 in cc in
    let other : (d == 60) ≡ false = ap (λ x. x == 60) (sym first) ∙ f in
    let n : suc (length shape) + 1 ≡ suc (suc (length shape)) = omega arith in
    let whole : IsWhole false (b ∷ d ∷ shape) cuts.0 = text_later b d (shape ++ cuts.0) e other ∙ (ap (option_map (λ n. n + 1)) cuts.2 ∙ ap Some n) in
    let same : ends.0 ≡ names = subst (λ x. Turns x names ends.0) (text_effect d shape other) ends.1 in (
      (b ∷ d ∷ shape) ∷ shapes,
      rest,
      (cuts.0, ap (λ l. b ∷ l) cuts.1, whole, cuts.3),
      (ends.0, subst (λ x. Turns x names ends.0) (sym (text_effect b (d ∷ shape) e)) same, ends.2),
    )

text_byte : (names : List (List ℕ)) (b : ℕ) (bytes : List ℕ) → (b == 60) ≡ false → Matched names bytes → Matched names (b ∷ bytes)
text_byte names b [] e m = ([], b ∷ [], (refl, text_len b [] e), tt)
text_byte names b (c ∷ bytes) e m = by_test (c == 60) refl where
  by_test : (t : Bool) → (c == 60) ≡ t → Matched names (b ∷ c ∷ bytes)
  by_test true f = before_tag names b c bytes e f m
  by_test false f = before_text names b c bytes e f m.0 m.1 m.2 m.3

-- text, and what follows
pub text_matched : (names : List (List ℕ)) (text more : List ℕ) → list_all is_text text ≡ true → Matched names more → Matched names (text ++ more)
text_matched names [] more h m = m
text_matched names (b ∷ bs) more h m =
    let both = and_parts (is_text b) (list_all is_text bs) h in
    text_byte names b (bs ++ more) (negated (b == 60) both.0) (text_matched names bs more both.1 m)

-- Fronts

-- more bytes only add shapes
cut_more : (bytes more : List ℕ) (shapes others : List (List ℕ)) (rest left : List ℕ) → Cuts false bytes shapes rest → Cuts false (rest ++ more) others left → Cuts false (bytes ++ more) (shapes ++ others) left
cut_more bytes more [] others rest left h k = subst (λ l. Cuts false (l ++ more) others left) (sym h.0) k
cut_more bytes more (shape ∷ shapes) others rest left h k = (
  h.0 ++ more,
  ap (λ l. l ++ more) h.1 ∙ append_assoc shape h.0 more,
  ap (shape_len false) (sym (append_assoc shape h.0 more)) ∙ shape_len-more false (shape ++ h.0) more (length shape) h.2,
  cut_more h.0 more shapes others rest left h.3 k,
)

fewer_match : (names : List (List ℕ)) (shapes others : List (List ℕ)) → EndsMatch names (shapes ++ others) → EndsMatch names shapes
fewer_match names [] others h = tt
fewer_match names (shape ∷ shapes) others h = (h.0, h.1, fewer_match h.0 shapes others h.2)

-- where no end tag lacks its start tag, none does in a front
pub front_matched : (front more : List ℕ) → Matched [] (front ++ more) → EndsHaveStarts front
front_matched front more m =
    let cut = some-cut false front in
    let later = some-cut false (cut.1 ++ more) in
    let all = cut_more front more cut.0 later.0 cut.1 later.1 cut.2 later.2 in
    let same = one-cut false (front ++ more) m.0 (cut.0 ++ later.0) m.1 later.1 m.2 all in
    (cut.0, cut.1, cut.2, fewer_match [] cut.0 later.0 (subst (λ l. EndsMatch [] l) same.0 m.3))

-- bytes are cut in one way
pub shapes_match : (bytes : List ℕ) (shapes : List (List ℕ)) (rest : List ℕ) → Cuts false bytes shapes rest → EndsHaveStarts bytes → EndsMatch [] shapes
shapes_match bytes shapes rest cuts h = subst (λ l. EndsMatch [] l) (one-cut false bytes h.0 shapes h.1 rest h.2 cuts).0 h.3
