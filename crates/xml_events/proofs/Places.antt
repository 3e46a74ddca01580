-- What stands before a lexeme, by the lexemes before it.
use Rattle.std.proofs.Common.{◌≡◌, ◌<◌, ℕ, zero, suc, ◌+◌, ◌-◌, Bool, true, false, List, [], ◌∷◌, ◌++◌, length, drop, reverse, refl, sym, ap, ◌∙◌, subst, append_assoc, append-nil, arith}
use Rattle.std.specs.Prelude.{if◌then◌else◌, nat_lt}
use Rattle.std.proofs.lemmas.Bool.Decides.{nat_tests}
use Rattle.std.proofs.lemmas.List.{reverse-append}
use Rattle.xml_tokens.specs.declared.lexeme.Body.{Body}
use Rattle.xml_tokens.specs.declared.lexeme.Body.TheVariants as body
use Rattle.xml_tokens.specs.declared.lexeme.Lexeme.{Lexeme}
use Rattle.xml_events.specs.Before.{Before, starting, is_inside, outer_names, behind_text, without_text, before_next}
use Rattle.xml_events.specs.Laws.{behind}
use Rattle.xml_events.specs.Places.{have_end, unended, bodies, said_in, IsText, AreTexts, EndsText, OpenAreUnended, TextsAreCounted}

-- how many end tags have their start tags before these lexemes
abbrev surplus : List Body → ℕ
surplus [] = 0
surplus (body.End name ∷ xs) = suc (surplus xs)
surplus (body.Start name attrs false ∷ xs) = surplus xs - 1
surplus (body.Start name attrs true ∷ xs) = surplus xs
surplus (body.Chars text blank ∷ xs) = surplus xs
surplus (body.CData text ∷ xs) = surplus xs
surplus (body.Comment text ∷ xs) = surplus xs
surplus (body.Pi target text ∷ xs) = surplus xs
surplus (body.Doctype ∷ xs) = surplus xs
surplus (body.Declaration ∷ xs) = surplus xs

lt-as : (a b c d : ℕ) → (a < b → c < d) → (c < d → a < b) → nat_lt a b ≡ nat_lt c d
lt-as a b c d f g = by_test (nat_lt a b) (nat_lt c d) refl refl where
  by_test : (s t : Bool) → nat_lt a b ≡ s → nat_lt c d ≡ t → s ≡ t
  by_test true true e h = refl
  by_test false false e h = refl
  by_test true false e h = let less = f (grind (arith, nat_tests, e)) in grind (arith, nat_tests, h, less)
  by_test false true e h = let less = g (grind (arith, nat_tests, h)) in grind (arith, nat_tests, e, less)

have_end-is : (n : ℕ) (xs : List Body) → have_end n xs ≡ nat_lt n (surplus xs)
have_end-is zero [] = refl
have_end-is (suc n) [] = sym (by_test (nat_lt (suc n) 0) refl) where
  by_test : (t : Bool) → nat_lt (suc n) 0 ≡ t → t ≡ false
  by_test false e = refl
  by_test true e = grind (arith, nat_tests, e)
have_end-is zero (body.End name ∷ xs) = sym (by_test (nat_lt 0 (suc (surplus xs))) refl) where
  by_test : (t : Bool) → nat_lt 0 (suc (surplus xs)) ≡ t → t ≡ true
  by_test true e = refl
  by_test false e = grind (arith, nat_tests, e)
have_end-is (suc n) (body.End name ∷ xs) = have_end-is n xs ∙ lt-as n (surplus xs) (suc n) (suc (surplus xs)) (λ h. omega (arith, h)) (λ h. omega (arith, h))
have_end-is zero (body.Start name attrs false ∷ xs) = have_end-is 1 xs ∙ lt-as 1 (surplus xs) 0 (surplus xs - 1) (λ h. omega (arith, h)) (λ h. omega (arith, h))
have_end-is (suc n) (body.Start name attrs false ∷ xs) =
    have_end-is (suc (suc n)) xs ∙ lt-as (suc (suc n)) (surplus xs) (suc n) (surplus xs - 1) (λ h. omega (arith, h)) (λ h. omega (arith, h))
have_end-is zero (body.Start name attrs true ∷ xs) = have_end-is zero xs
have_end-is zero (body.Chars text blank ∷ xs) = have_end-is zero xs
have_end-is zero (body.CData text ∷ xs) = have_end-is zero xs
have_end-is zero (body.Comment text ∷ xs) = have_end-is zero xs
have_end-is zero (body.Pi target text ∷ xs) = have_end-is zero xs
have_end-is zero (body.Doctype ∷ xs) = have_end-is zero xs
have_end-is zero (body.Declaration ∷ xs) = have_end-is zero xs
have_end-is (suc n) (body.Start name attrs true ∷ xs) = have_end-is (suc n) xs
have_end-is (suc n) (body.Chars text blank ∷ xs) = have_end-is (suc n) xs
have_end-is (suc n) (body.CData text ∷ xs) = have_end-is (suc n) xs
have_end-is (suc n) (body.Comment text ∷ xs) = have_end-is (suc n) xs
have_end-is (suc n) (body.Pi target text ∷ xs) = have_end-is (suc n) xs
have_end-is (suc n) (body.Doctype ∷ xs) = have_end-is (suc n) xs
have_end-is (suc n) (body.Declaration ∷ xs) = have_end-is (suc n) xs

-- the names behind lexemes, where these stand before them
abbrev names_over : List (List ℕ) → List Body → List (List ℕ)
names_over names xs = reverse (unended xs) ++ drop (surplus xs) names

drop-none : (n : ℕ) → drop {A = List ℕ} n [] ≡ []
drop-none zero = refl
drop-none (suc n) = refl

outer-drop : (names : List (List ℕ)) (n : ℕ) → drop n (outer_names names) ≡ drop (suc n) names
outer-drop [] n = drop-none n ∙ sym (drop-none (suc n))
outer-drop (name ∷ names) n = refl

module _ (text : List ℕ) where
  text-names : (b : Before) (t : Bool) → (if t then record b { chars = b.chars + length text } else b).names ≡ b.names
  text-names b true = refl
  text-names b false = refl

  cdata-names : (b : Before) (c : Bool) → (if c then without_text b else behind_text b text).names ≡ b.names
  cdata-names b true = refl
  cdata-names b false = text-names b (is_inside b.names)

start-names : (name : List ℕ) (names : List (List ℕ)) (xs : List Body) (t : Bool) → nat_lt 0 (surplus xs) ≡ t →
    names_over (name ∷ names) xs ≡ reverse (if t then unended xs else name ∷ unended xs) ++ drop (surplus xs - 1) names
start-names name names xs t h = by_surplus t (surplus xs) refl h where
  by_surplus : (t : Bool) (n : ℕ) → surplus xs ≡ n → nat_lt 0 (surplus xs) ≡ t →
      reverse (unended xs) ++ drop (surplus xs) (name ∷ names) ≡ reverse (if t then unended xs else name ∷ unended xs) ++ drop (surplus xs - 1) names
  by_surplus false zero e h =
      let one_less : 0 ≡ surplus xs - 1 = omega (arith, e) in
      ap (λ n. reverse (unended xs) ++ drop n (name ∷ names)) e
      ∙ (sym (append_assoc (reverse (unended xs)) (name ∷ []) names)
      ∙ (sym (ap (λ l. l ++ names) (reverse-append (name ∷ []) (unended xs)))
      ∙ ap (λ n. reverse (name ∷ unended xs) ++ drop n names) one_less))
  by_surplus true zero e h = let f : nat_lt 0 0 ≡ true = ap (λ n. nat_lt 0 n) (sym e) ∙ h in absurd cc
  by_surplus true (suc n) e h =
      let one_less : n ≡ surplus xs - 1 = omega (arith, e) in
      ap (λ n. reverse (unended xs) ++ drop n (name ∷ names)) e ∙ ap (λ n. reverse (unended xs) ++ drop n names) one_less
  by_surplus false (suc n) e h = absurd (grind (arith, nat_tests, e, h))

behind-names : (b : Before) (ls : List Lexeme) → (behind b ls).names ≡ names_over b.names (bodies ls)
behind-names b [] = refl
behind-names b (l ∷ ls) = behind-names (before_next b l.body) ls ∙ by_body l.body where
  by_body : (x : Body) → names_over (before_next b x).names (bodies ls) ≡ names_over b.names (x ∷ bodies ls)
  by_body (body.Chars text blank) = ap (λ names. names_over names (bodies ls)) (text-names text b (is_inside b.names))
  by_body (body.CData text) = ap (λ names. names_over names (bodies ls)) (cdata-names text b b.cdata)
  by_body (body.Start name attrs true) = refl
  by_body (body.Start name attrs false) =
      start-names name b.names (bodies ls) (have_end 0 (bodies ls)) (sym (have_end-is 0 (bodies ls)))
  by_body (body.End name) = ap (λ names. reverse (unended (bodies ls)) ++ names) (outer-drop b.names (surplus (bodies ls)))
  by_body (body.Comment text) = refl
  by_body (body.Pi target text) = refl
  by_body body.Doctype = refl
  by_body body.Declaration = refl

pub open-are-unended : OpenAreUnended
open-are-unended cdata ls =
    behind-names (starting cdata) ls
    ∙ ap (λ names. reverse (unended (bodies ls)) ++ names) (drop-none (surplus (bodies ls)))
    ∙ append-nil (reverse (unended (bodies ls)))

-- Texts

behind-append : (b : Before) (xs ys : List Lexeme) → behind b (xs ++ ys) ≡ behind (behind b xs) ys
behind-append b [] ys = refl
behind-append b (l ∷ xs) ys = behind-append (before_next b l.body) xs ys

module _ (text : List ℕ) where
  text-kind : (b : Before) (t : Bool) → (if t then record b { chars = b.chars + length text } else b).cdata ≡ b.cdata
  text-kind b true = refl
  text-kind b false = refl

  cdata-kind : (b : Before) (c : Bool) → (if c then without_text b else behind_text b text).cdata ≡ b.cdata
  cdata-kind b true = refl
  cdata-kind b false = text-kind b (is_inside b.names)

next-kind : (b : Before) (x : Body) → (before_next b x).cdata ≡ b.cdata
next-kind b (body.Chars text blank) = text-kind text b (is_inside b.names)
next-kind b (body.CData text) = cdata-kind text b b.cdata
next-kind b (body.Start name attrs true) = refl
next-kind b (body.Start name attrs false) = refl
next-kind b (body.End name) = refl
next-kind b (body.Comment text) = refl
next-kind b (body.Pi target text) = refl
next-kind b body.Doctype = refl
next-kind b body.Declaration = refl

behind-kind : (b : Before) (ls : List Lexeme) → (behind b ls).cdata ≡ b.cdata
behind-kind b [] = refl
behind-kind b (l ∷ ls) = behind-kind (before_next b l.body) ls ∙ next-kind b l.body

-- nothing is counted behind what ends a text
ended : (b : Before) (x : Body) → EndsText b.cdata x → (before_next b x).chars ≡ 0
ended b (body.Chars text blank) h = absurd h
ended b (body.CData text) h = ap (λ c. (if c then without_text b else behind_text b text).chars) h
ended b (body.Start name attrs true) h = refl
ended b (body.Start name attrs false) h = refl
ended b (body.End name) h = refl
ended b (body.Comment text) h = refl
ended b (body.Pi target text) h = refl
ended b body.Doctype h = absurd h
ended b body.Declaration h = absurd h

-- a text inside the root
text-next : (b : Before) (text : List ℕ) → is_inside b.names ≡ true → behind_text b text ≡ record b { chars = b.chars + length text }
text-next b text inside = ap (λ t. if t then record b { chars = b.chars + length text } else b) inside

one-next : (b : Before) (x : Body) (xs : List Body) → IsText b.cdata x → is_inside b.names ≡ true →
    (text : List ℕ) × (before_next b x ≡ record b { chars = b.chars + length text }) × (said_in (x ∷ xs) ≡ length text + said_in xs)
one-next b (body.Chars text blank) xs h inside = (text, text-next b text inside, refl)
one-next b (body.CData text) xs h inside = (text, ap (λ c. if c then without_text b else behind_text b text) h ∙ text-next b text inside, refl)
one-next b (body.Start name attrs empty) xs h inside = absurd h
one-next b (body.End name) xs h inside = absurd h
one-next b (body.Comment text) xs h inside = absurd h
one-next b (body.Pi target text) xs h inside = absurd h
one-next b body.Doctype xs h inside = absurd h
one-next b body.Declaration xs h inside = absurd h

counted : (b : Before) (ls : List Lexeme) → AreTexts b.cdata ls → is_inside b.names ≡ true → (behind b ls).chars ≡ b.chars + said_in (bodies ls)
counted b [] h inside = omega arith
counted b (l ∷ ls) h inside =
    let one = one-next b l.body (bodies ls) h.0 inside in
    let rest = counted (record b { chars = b.chars + length one.0 }) ls h.1 inside in
    ap (λ x. (behind x ls).chars) one.1 ∙ (rest ∙ omega (arith, one.2))

pub texts-are-counted : TextsAreCounted
texts-are-counted cdata ls texts l h k inside =
    let b = behind (starting cdata) ls in
    let kind : b.cdata ≡ cdata = behind-kind (starting cdata) ls in
    let next = before_next b l.body in
    let next_kind : next.cdata ≡ cdata = next-kind b l.body ∙ kind in
    let at : behind (starting cdata) (ls ++ l ∷ []) ≡ next = behind-append (starting cdata) ls (l ∷ []) in
    let zero_chars : next.chars ≡ 0 = ended b l.body (subst (λ c. EndsText c l.body) (sym kind) h) in
    let counts = counted next texts (subst (λ c. AreTexts c texts) (sym next_kind) k) (sym (ap (λ (x : Before). is_inside x.names) at) ∙ inside) in
    ap (λ (x : Before). x.chars) (behind-append (starting cdata) ls (l ∷ texts)) ∙ (counts ∙ omega (arith, zero_chars))
