-- How texts are read span by span.
use Rattle.std.proofs.Common.{◌≡◌, ℕ, zero, suc, ◌+◌, ◌<◌, ◌≤◌, Bool, true, false, not, ◌&&◌, ◌||◌, ◌==◌, List, [], ◌∷◌, ◌++◌, Option, Some, None, length, take, drop, map, get_or, refl, sym, ap, ◌∙◌, arith, subst, cond, ltb-false}
use Rattle.std.proofs.lemmas.Bool.{eqb-true, ne_eqb}
use Rattle.std.proofs.lemmas.List.{map-append, append-nil, drop_more, take_all, take-append-drop}
use Rattle.std.proofs.Common.{IsUtf8}
use Rattle.xml_tokens.proofs.ListLemmas.{all-none, prefix-all, two}
use Rattle.xml_tokens.proofs.Utf8Lemmas.{utf8-one, utf8-before, utf8-behind}
use Rattle.std.specs.Prelude.{nat_lt, unwrap_or, is_some}
use Rattle.std.specs.List.{list_all, list_any, position_or_len}
use Rattle.std.proofs.lemmas.Bool.Decides.{nat_tests}
use Rattle.std.proofs.lemmas.List.Sums.{prefix_len-le-length, position_or_len_is, passes_at_first}
use Rattle.memchr.specs.Find.{IsFirstByte}
use Rattle.xml_tokens.specs.Texts.{as_feed, lines_behind, lines, as_space, literal, is_ampersand, first_part, later_parts}
use Rattle.xml_tokens.specs.inside.Spans.{IsFirstOf, is_break, is_changed, break_as, behind_break, cut_at}
use Rattle.xml_tokens.specs.declared.text.Context.{Context}
use Rattle.xml_tokens.specs.declared.text.Context.TheVariants.{Content, Value}

fails : (b : Bool) → (b ≡ true → ⊥) → b ≡ false
fails true h = absurd (h refl)
fails false h = refl

-- the first place as the search gives it
pub first-place : (test : ℕ → Bool) (bytes : List ℕ) (r : Option ℕ) → IsFirstByte test bytes r → IsFirstOf test bytes r
first-place test bytes None h = position_or_len_is test bytes (length bytes) 0 (omega arith) (λ k l. fails _ (h k (omega arith) l)) (λ l. absurd (omega (arith, l)))
first-place test bytes (Some at) h =
    (position_or_len_is test bytes at 0 (omega (arith, h.0.high)) (λ k l. fails _ (h.0.before k (omega arith) l)) (λ l. h.1), h.0.high)

-- a front without carriage returns says itself
pub lines-calm : (front rest : List ℕ) → list_all (λ b. not (b == 13)) front ≡ true → lines (front ++ rest) ≡ front ++ lines rest
lines-calm [] rest h = refl
lines-calm (b ∷ bs) rest h = by_test (λ k. lines-calm bs rest k) (b == 13) refl h where
  by_test : (list_all (λ b. not (b == 13)) bs ≡ true → lines (bs ++ rest) ≡ bs ++ lines rest) → (t : Bool) → (b == 13) ≡ t → (not t && list_all (λ b. not (b == 13)) bs) ≡ true →
      as_feed b ∷ lines_behind (b == 13) (bs ++ rest) ≡ b ∷ (bs ++ lines rest)
  by_test again true e k = absurd cc
  by_test again false e k = ap (λ t. cond t 10 b ∷ lines_behind t (bs ++ rest)) e ∙ ap (λ l. b ∷ l) (again k)

-- behind a carriage return a line feed is left out
pub lines-return : (more : List ℕ) → lines_behind true more ≡ lines (behind_break (13 ∷ more))
lines-return [] = refl
lines-return (c ∷ cs) = by_test (c == 10) refl where
  by_test : (t : Bool) → (c == 10) ≡ t → cond t [] (as_feed c ∷ []) ++ lines_behind (c == 13) cs ≡ lines (cond t cs (c ∷ cs))
  by_test true e = ap (λ t. lines_behind t cs) (ne_eqb c 13 (λ k. let clash : 13 ≡ 10 = sym k ∙ eqb-true c 10 e in absurd (omega arith)))
  by_test false e = refl

-- what a line end says in each place, and what follows it
return-said : (bytes : List ℕ) → lines (13 ∷ bytes) ≡ 10 ∷ lines (behind_break (13 ∷ bytes))
return-said bytes = ap (λ l. 10 ∷ l) (lines-return bytes)

other-said : (b : ℕ) (bytes : List ℕ) → (b == 13) ≡ false → lines (b ∷ bytes) ≡ b ∷ lines (behind_break (b ∷ bytes))
other-said b [] e = ap (λ t. cond t 10 b ∷ []) e
other-said b (c ∷ cs) e =
    ap (λ t. cond t 10 b ∷ lines_behind t (c ∷ cs)) e ∙ ap (λ t. b ∷ lines (cond (t && c == 10) cs (c ∷ cs))) (sym e)

calm-here : (place : Context) (front : List ℕ) → list_all (λ b. not (is_changed place b)) front ≡ true → (rest : List ℕ) → literal place (front ++ rest) ≡ front ++ literal place rest
calm-here Content front h rest = lines-calm front rest h
calm-here Value front h rest = ap (map as_space) (lines-calm front rest (weaker front h)) ∙ (map-append as_space front (lines rest) ∙ ap (λ l. l ++ map as_space (lines rest)) (itself front h)) where
  calm_of : (b : ℕ) → not (is_break b) ≡ true → ((b == 13) ≡ false) × (as_space b ≡ b)
  calm_of b k = by_tests (b == 13) (b == 10) (b == 9) k where
    by_tests : (r f t : Bool) → not (r || f || t) ≡ true → (r ≡ false) × (cond (t || f) 32 b ≡ b)
    by_tests true f t k = absurd cc
    by_tests false true t k = absurd cc
    by_tests false false true k = absurd cc
    by_tests false false false k = (refl, refl)

  two : (s t : Bool) → (s && t) ≡ true → (s ≡ true) × (t ≡ true)
  two true t k = (refl, k)
  two false t k = absurd cc

  both_true : (s t : Bool) → s ≡ true → t ≡ true → (s && t) ≡ true
  both_true s t a b = rw (a, b) refl

  weaker : (l : List ℕ) → list_all (λ b. not (is_break b)) l ≡ true → list_all (λ b. not (b == 13)) l ≡ true
  weaker [] k = refl
  weaker (b ∷ bs) k =
      let parts = two (not (is_break b)) (list_all (λ x. not (is_break x)) bs) k in
      both_true (not (b == 13)) (list_all (λ x. not (x == 13)) bs) (ap not (calm_of b parts.0).0) (weaker bs parts.1)

  itself : (l : List ℕ) → list_all (λ b. not (is_break b)) l ≡ true → map as_space l ≡ l
  itself [] k = refl
  itself (b ∷ bs) k =
      let parts = two (not (is_break b)) (list_all (λ x. not (is_break x)) bs) k in
      ap (λ x. x ∷ map as_space bs) (calm_of b parts.0).1 ∙ ap (λ l. b ∷ l) (itself bs parts.1)

changed-said : (place : Context) (b : ℕ) (bytes : List ℕ) → is_changed place b ≡ true → literal place (b ∷ bytes) ≡ break_as place ∷ literal place (behind_break (b ∷ bytes))
changed-said Content b bytes h = subst (λ x. lines (x ∷ bytes) ≡ 10 ∷ lines (behind_break (x ∷ bytes))) (sym (eqb-true b 13 h)) (return-said bytes)
changed-said Value b bytes h = by_return (b == 13) refl where
  tab_or_feed : (r f t : Bool) → r ≡ false → (r || f || t) ≡ true → (t || f) ≡ true
  tab_or_feed true f t e k = absurd cc
  tab_or_feed false true true e k = refl
  tab_or_feed false true false e k = refl
  tab_or_feed false false true e k = refl
  tab_or_feed false false false e k = absurd cc

  by_return : (t : Bool) → (b == 13) ≡ t → map as_space (lines (b ∷ bytes)) ≡ 32 ∷ map as_space (lines (behind_break (b ∷ bytes)))
  by_return true e =
      subst (λ x. map as_space (lines (x ∷ bytes)) ≡ 32 ∷ map as_space (lines (behind_break (x ∷ bytes)))) (sym (eqb-true b 13 e)) (ap (map as_space) (return-said bytes))
  by_return false e =
      ap (map as_space) (other-said b bytes e) ∙ ap (λ t. cond t 32 b ∷ map as_space (lines (behind_break (b ∷ bytes)))) (tab_or_feed (b == 13) (b == 10) (b == 9) e h)

-- bytes of which none is changed say themselves
pub literal-kept : (place : Context) (bytes : List ℕ) → list_all (λ b. not (is_changed place b)) bytes ≡ true → literal place bytes ≡ bytes
literal-kept place bytes all =
    ap (literal place) (sym (append-nil bytes)) ∙ (calm-here place bytes all [] ∙ (ap (λ l. bytes ++ l) (nothing place) ∙ append-nil bytes)) where
      nothing : (place : Context) → literal place [] ≡ []
      nothing Content = refl
      nothing Value = refl

-- a text goes on span by span
pub literal-none : (place : Context) (bytes : List ℕ) → position_or_len (is_changed place) bytes ≡ length bytes → literal place bytes ≡ bytes
literal-none place bytes h =
    let whole : take (position_or_len (is_changed place) bytes) bytes ≡ bytes = ap (λ n. take n bytes) h ∙ take_all (length bytes) bytes (omega arith) in
    let all : list_all (λ b. not (is_changed place b)) bytes ≡ true = subst (λ (l : List ℕ). list_all (λ b. not (is_changed place b)) l ≡ true) whole (prefix-all (λ b. not (is_changed place b)) bytes) in
    literal-kept place bytes all

pub literal-next : (place : Context) (bytes : List ℕ) (at : ℕ) → (position_or_len (is_changed place) bytes ≡ at) × (at < length bytes) →
    literal place bytes ≡ take at bytes ++ break_as place ∷ literal place (behind_break (drop at bytes))
literal-next place bytes at h =
    let test = is_changed place in
    let inside : position_or_len test bytes < length bytes = subst (λ n. n < length bytes) (sym h.0) h.1 in
    let here : test (get_or bytes at 0) ≡ true = ap (λ n. test (get_or bytes n 0)) (sym h.0) ∙ passes_at_first test bytes 0 inside in
    let calm : list_all (λ b. not (test b)) (take at bytes) ≡ true = ap (λ n. list_all (λ b. not (test b)) (take n bytes)) (sym h.0) ∙ prefix-all (λ b. not (test b)) bytes in
    let rest : drop at bytes ≡ get_or bytes at 0 ∷ drop (at + 1) bytes = drop_more bytes at 0 h.1 in
    ap (literal place) (sym (take-append-drop at bytes)) ∙ (calm-here place (take at bytes) calm (drop at bytes)
    ∙ ap (λ l. take at bytes ++ l) (ap (literal place) rest ∙ (changed-said place (get_or bytes at 0) (drop (at + 1) bytes) here
    ∙ ap (λ l. break_as place ∷ literal place (behind_break l)) (sym rest))))

-- what is changed is ASCII
changed-ascii : (place : Context) (b : ℕ) → is_changed place b ≡ true → b < 128
changed-ascii Content b h = let e : b ≡ 13 = eqb-true b 13 h in omega (arith, e)
changed-ascii Value b h = by_tests (b == 13) refl (b == 10) refl (b == 9) refl h where
  by_tests : (r : Bool) → (b == 13) ≡ r → (f : Bool) → (b == 10) ≡ f → (t : Bool) → (b == 9) ≡ t → (r || f || t) ≡ true → b < 128
  by_tests true e f e' t e'' k = let is : b ≡ 13 = eqb-true b 13 e in omega (arith, is)
  by_tests false e true e' t e'' k = let is : b ≡ 10 = eqb-true b 10 e' in omega (arith, is)
  by_tests false e false e' true e'' k = let is : b ≡ 9 = eqb-true b 9 e'' in omega (arith, is)
  by_tests false e false e' false e'' k = absurd cc

-- at the first byte that is changed UTF-8 is cut into UTF-8
module _ (place : Context) (bytes : List ℕ) (at : ℕ) (first : (position_or_len (is_changed place) bytes ≡ at) × (at < length bytes)) (utf8 : IsUtf8 bytes) where
  inside : position_or_len (is_changed place) bytes < length bytes
  inside = subst (λ n. n < length bytes) (sym first.0) first.1

  here : is_changed place (get_or bytes at 0) ≡ true
  here = ap (λ n. is_changed place (get_or bytes n 0)) (sym first.0) ∙ passes_at_first (is_changed place) bytes 0 inside

  ascii : get_or bytes at 0 < 128
  ascii = changed-ascii place (get_or bytes at 0) here

  pub front-utf8 : IsUtf8 (take at bytes)
  front-utf8 = utf8-before bytes at utf8 first.1 ascii

  pub behind-utf8 : IsUtf8 (behind_break (drop at bytes))
  behind-utf8 = subst (λ (l : List ℕ). IsUtf8 (behind_break l)) (sym (drop_more bytes at 0 first.1)) (by_next (get_or bytes at 0) (drop (at + 1) bytes) (utf8-behind bytes at utf8 first.1 ascii)) where
    by_next : (b : ℕ) (more : List ℕ) → IsUtf8 more → IsUtf8 (behind_break (b ∷ more))
    by_next b [] u = u
    by_next b (c ∷ cs) u = by_test (b == 13) (c == 10) refl where
      by_test : (r f : Bool) → (c == 10) ≡ f → IsUtf8 (cond (r && f) cs (c ∷ cs))
      by_test true true e = let is : c ≡ 10 = eqb-true c 10 e in utf8-behind (c ∷ cs) 0 u (omega arith) (omega (arith, is))
      by_test true false e = u
      by_test false f e = u

pub break-utf8 : (place : Context) → IsUtf8 (break_as place ∷ [])
break-utf8 Content = utf8-one 10 (omega arith)
break-utf8 Value = utf8-one 32 (omega arith)

-- bytes are cut at the first such byte
pub cut-none : (test : ℕ → Bool) (bytes : List ℕ) → position_or_len test bytes ≡ length bytes → cut_at test bytes ≡ None
cut-none test bytes h = ap (λ t. cond t (Some (take (position_or_len test bytes) bytes, drop (position_or_len test bytes + 1) bytes)) None) (not_less (position_or_len test bytes) (length bytes) h) where
  not_less : (n m : ℕ) → n ≡ m → nat_lt n m ≡ false
  not_less n m e = grind (arith, nat_tests)

pub cut-some : (test : ℕ → Bool) (bytes : List ℕ) (at : ℕ) → (position_or_len test bytes ≡ at) × (at < length bytes) → cut_at test bytes ≡ Some (take at bytes, drop (at + 1) bytes)
cut-some test bytes at h =
    ap (λ n. cond (nat_lt n (length bytes)) (Some (take n bytes, drop (n + 1) bytes)) None) h.0 ∙ ap (λ t. cond t (Some (take at bytes, drop (at + 1) bytes)) None) (less at (length bytes) h.1) where
      less : (n m : ℕ) → n < m → nat_lt n m ≡ true
      less n m e = grind (arith, nat_tests)

-- what is cut so
pub cut-is : (test : ℕ → Bool) (bytes : List ℕ) (found : List ℕ × List ℕ) → cut_at test bytes ≡ Some found →
    (at : ℕ) × (position_or_len test bytes ≡ at) × (at < length bytes) × (found.0 ≡ take at bytes) × (found.1 ≡ drop (at + 1) bytes)
cut-is test bytes found h = by_test (nat_lt (position_or_len test bytes) (length bytes)) refl h where
  less : (n m : ℕ) → nat_lt n m ≡ true → n < m
  less n m e = grind (arith, nat_tests)

  by_test : (t : Bool) → nat_lt (position_or_len test bytes) (length bytes) ≡ t → cond t (Some (take (position_or_len test bytes) bytes, drop (position_or_len test bytes + 1) bytes)) None ≡ Some found →
      (at : ℕ) × (position_or_len test bytes ≡ at) × (at < length bytes) × (found.0 ≡ take at bytes) × (found.1 ≡ drop (at + 1) bytes)
  by_test true e k =
      let same : (take (position_or_len test bytes) bytes, drop (position_or_len test bytes + 1) bytes) ≡ found = some_is k in
      (position_or_len test bytes, refl, less (position_or_len test bytes) (length bytes) e, ap (λ (p : List ℕ × List ℕ). p.0) (sym same), ap (λ (p : List ℕ × List ℕ). p.1) (sym same)) where
        some_is : {A : Type 0} {a b : A} → Some a ≡ Some b → a ≡ b
        some_is {A} {a} {b} e = ap (λ o. unwrap_or o a) e
  by_test false e k = absurd cc

-- what is cut so is UTF-8 again, where the byte is ASCII
pub cut-utf8 : (byte : ℕ) (bytes : List ℕ) (found : List ℕ × List ℕ) → cut_at (λ b. b == byte) bytes ≡ Some found → byte < 128 → IsUtf8 bytes → IsUtf8 found.0 × IsUtf8 found.1
cut-utf8 byte bytes found h low utf8 =
    let c = cut-is (λ b. b == byte) bytes found h in
    let inside : position_or_len (λ b. b == byte) bytes < length bytes = subst (λ n. n < length bytes) (sym c.1) c.2 in
    let at_byte : get_or bytes c.0 0 ≡ byte = ap (λ n. get_or bytes n 0) (sym c.1) ∙ eqb-true _ _ (passes_at_first (λ b. b == byte) bytes 0 inside) in
    let ascii : get_or bytes c.0 0 < 128 = omega (arith, at_byte, low) in
    (subst IsUtf8 (sym c.3) (utf8-before bytes c.0 utf8 c.2 ascii), subst IsUtf8 (sym c.4) (utf8-behind bytes c.0 utf8 c.2 ascii))

-- both pieces of what is cut so pass what the whole passes
pub cut-all : (test p : ℕ → Bool) (bytes : List ℕ) (found : List ℕ × List ℕ) → cut_at test bytes ≡ Some found → list_all p bytes ≡ true →
    (list_all p found.0 ≡ true) × (list_all p found.1 ≡ true)
cut-all test p bytes found h all =
    let c = cut-is test bytes found h in
    (ap (list_all p) c.3 ∙ front c.0 bytes all, ap (list_all p) c.4 ∙ back (c.0 + 1) bytes all) where
      front : (n : ℕ) (l : List ℕ) → list_all p l ≡ true → list_all p (take n l) ≡ true
      front zero l k = refl
      front (suc n) [] k = refl
      front (suc n) (b ∷ bs) k =
          let parts = two (p b) (list_all p bs) k in
          ap (λ t. t && list_all p (take n bs)) parts.0 ∙ front n bs parts.1

      back : (n : ℕ) (l : List ℕ) → list_all p l ≡ true → list_all p (drop n l) ≡ true
      back zero l k = k
      back (suc n) [] k = refl
      back (suc n) (b ∷ bs) k = back n bs (two (p b) (list_all p bs) k).1

-- the parts behind ampersands are found one after another
pub parts-pass : (front rest : List ℕ) → list_all (λ b. not (is_ampersand b)) front ≡ true → later_parts is_ampersand (front ++ rest) ≡ later_parts is_ampersand rest
parts-pass [] rest h = refl
parts-pass (b ∷ bs) rest h = by_test (λ k. parts-pass bs rest k) (is_ampersand b) refl h where
  by_test : (list_all (λ b. not (is_ampersand b)) bs ≡ true → later_parts is_ampersand (bs ++ rest) ≡ later_parts is_ampersand rest) → (t : Bool) → is_ampersand b ≡ t → (not t && list_all (λ b. not (is_ampersand b)) bs) ≡ true →
      cond t (first_part is_ampersand (bs ++ rest) ∷ []) [] ++ later_parts is_ampersand (bs ++ rest) ≡ later_parts is_ampersand rest
  by_test again true e k = absurd cc
  by_test again false e k = again k

pub parts-none : (bytes : List ℕ) → cut_at is_ampersand bytes ≡ None → (first_part is_ampersand bytes ≡ bytes) × (later_parts is_ampersand bytes ≡ [])
parts-none bytes h =
    let len = position_or_len is_ampersand bytes in
    let n : len ≡ length bytes = by_test (nat_lt len (length bytes)) refl h in
    let first : first_part is_ampersand bytes ≡ bytes = ap (λ k. take k bytes) n ∙ take_all (length bytes) bytes (omega arith) in
    let calm : list_all (λ b. not (is_ampersand b)) bytes ≡ true = subst (λ (l : List ℕ). list_all (λ b. not (is_ampersand b)) l ≡ true) first (prefix-all (λ b. not (is_ampersand b)) bytes) in
    (first, ap (later_parts is_ampersand) (sym (append-nil bytes)) ∙ parts-pass bytes [] calm) where
      by_test : (t : Bool) → nat_lt (position_or_len is_ampersand bytes) (length bytes) ≡ t →
          cond {A = Option (List ℕ × List ℕ)} t (Some (take (position_or_len is_ampersand bytes) bytes, drop (position_or_len is_ampersand bytes + 1) bytes)) None ≡ None → position_or_len is_ampersand bytes ≡ length bytes
      by_test true e k = absurd cc
      by_test false e k =
          let more : length bytes ≤ position_or_len is_ampersand bytes = ltb-false (position_or_len is_ampersand bytes) (length bytes) e in
          omega (arith, more, prefix_len-le-length (λ b. not (is_ampersand b)) bytes)

pub parts-some : (bytes : List ℕ) (found : List ℕ × List ℕ) → cut_at is_ampersand bytes ≡ Some found →
    (first_part is_ampersand bytes ≡ found.0) × (later_parts is_ampersand bytes ≡ first_part is_ampersand found.1 ∷ later_parts is_ampersand found.1)
parts-some bytes found h =
    let c = cut-is is_ampersand bytes found h in
    let inside : position_or_len is_ampersand bytes < length bytes = subst (λ n. n < length bytes) (sym c.1) c.2 in
    let here : is_ampersand (get_or bytes c.0 0) ≡ true = ap (λ n. is_ampersand (get_or bytes n 0)) (sym c.1) ∙ passes_at_first is_ampersand bytes 0 inside in
    let calm : list_all (λ b. not (is_ampersand b)) (take c.0 bytes) ≡ true = ap (λ n. list_all (λ b. not (is_ampersand b)) (take n bytes)) (sym c.1) ∙ prefix-all (λ b. not (is_ampersand b)) bytes in
    let whole : bytes ≡ take c.0 bytes ++ (get_or bytes c.0 0 ∷ found.1) =
    sym (take-append-drop c.0 bytes) ∙ ap (λ l. take c.0 bytes ++ l) (drop_more bytes c.0 0 c.2 ∙ ap (λ l. get_or bytes c.0 0 ∷ l) (sym c.4)) in (
      ap (λ n. take n bytes) c.1 ∙ sym c.3,
      ap (later_parts is_ampersand) whole ∙ (parts-pass (take c.0 bytes) (get_or bytes c.0 0 ∷ found.1) calm
          ∙ ap (λ t. cond t (first_part is_ampersand found.1 ∷ []) [] ++ later_parts is_ampersand found.1) here),
    )

any-at : (test : ℕ → Bool) (bytes : List ℕ) (at : ℕ) → at < length bytes → test (get_or bytes at 0) ≡ true → list_any test bytes ≡ true
any-at test [] at h t = absurd (omega (arith, h))
any-at test (b ∷ bs) zero h t = ap (λ x. x || list_any test bs) t
any-at test (b ∷ bs) (suc at) h t = or_true (test b) (any-at test bs at (omega (arith, h)) t) where
  or_true : (s : Bool) {x : Bool} → x ≡ true → (s || x) ≡ true
  or_true true e = refl
  or_true false e = e

none-at : (test : ℕ → Bool) (bytes : List ℕ) → ((k : ℕ) → k < length bytes → test (get_or bytes k 0) ≡ true → ⊥) → list_any test bytes ≡ false
none-at test [] h = refl
none-at test (b ∷ bs) h = ap (λ x. x || list_any test bs) (fails (test b) (h 0 (omega arith))) ∙ none-at test bs (λ k l. h (suc k) (omega (arith, l)))

-- there is such a byte where the search finds one
pub first-any : (test : ℕ → Bool) (bytes : List ℕ) (r : Option ℕ) → IsFirstByte test bytes r → is_some r ≡ list_any test bytes
first-any test bytes None h = sym (none-at test bytes (λ k l. h k (omega arith) l))
first-any test bytes (Some at) h = sym (any-at test bytes at h.0.high h.1)

-- the same of a place
pub place-any : (test : ℕ → Bool) (bytes : List ℕ) (r : Option ℕ) → IsFirstOf test bytes r → is_some r ≡ list_any test bytes
place-any test bytes None h =
    let whole : take (position_or_len test bytes) bytes ≡ bytes = ap (λ n. take n bytes) h ∙ take_all (length bytes) bytes (omega arith) in
    let all : list_all (λ b. not (test b)) bytes ≡ true = subst (λ (l : List ℕ). list_all (λ b. not (test b)) l ≡ true) whole (prefix-all (λ b. not (test b)) bytes) in
    sym (all-none test bytes all)
place-any test bytes (Some at) h =
    let inside : position_or_len test bytes < length bytes = subst (λ n. n < length bytes) (sym h.0) h.1 in
    let here : test (get_or bytes at 0) ≡ true = ap (λ n. test (get_or bytes n 0)) (sym h.0) ∙ passes_at_first test bytes 0 inside in
    sym (any-at test bytes at h.1 here)
