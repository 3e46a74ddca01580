-- Names, texts in quotes, numerals and the words of operators, as pieces.
use Rattle.std.proofs.Common.{◌≡◌, ℕ, suc, ◌+◌, ◌-◌, ◌^◌, ◌≤◌, ◌<◌, Bool, true, false, cond, nat_le, nat_lt, nat_eq, ◌&&◌, ◌||◌, ◌==◌, not, pos, List, [], ◌∷◌, ◌++◌, Some, Option, length, take, drop, sym, ◌∙◌, refl, ap, subst, append_assoc, arith, ◌⊎◌, inl, inr, codes}
use Rattle.std.specs.Char.{is_ascii_digit, digit_value}
use Rattle.std.specs.Fmt.{decimal}
use Rattle.std.specs.List.{list_all, list_any, prefix_len, position_or_len}
use Rattle.std.specs.Option.{option_map_or}
use Rattle.std.specs.Prelude.{slice_get}
use Rattle.std.specs.Str.Parse.{AllDigits, IsNumeral, digits_value}
use Rattle.std.proofs.lemmas.Bool.{false≢true}
use Rattle.std.proofs.lemmas.Bool.Decides.{nat_tests}
use Rattle.std.proofs.lemmas.Fmt.{decimal_is_IsNumeral}
use Rattle.std.proofs.lemmas.List.{length-append, take_at, drop_at}
use Rattle.std.proofs.lemmas.Str.Parse.{digit_from_value}
use Rattle.stx_base.specs.Character.{is_among, is_space, is_name_start, is_ncname_char}
use Rattle.stx_base.specs.declared.expression.Cmp.TheVariants as cmp
use Rattle.stx_base.specs.declared.expression.Op.TheVariants as op
use Rattle.stxpath_syntax.specs.declared.expr.Bin.{Bin}
use Rattle.stxpath_syntax.specs.declared.expr.Bin.TheVariants as bin
use Rattle.stxpath_syntax.specs.declared.token.Token.{Token}
use Rattle.stxpath_syntax.specs.declared.token.Token.TheVariants as token
use Rattle.stxpath_syntax.specs.declared.token.Operator.TheVariants as operator
use Rattle.stxpath_syntax.specs.Printing.{sign_of, quote_for, quoted}
use Rattle.stxpath_syntax.specs.Tokens.{has_at, is_quote, begins_name, numeral, literal, goes_on, name, sign, first_token, is_fraction, is_too_large, is_too_deep, before_next, classed, space}
use Rattle.stxpath_syntax.proofs.Pieces.{before_at, Piece, Tok, one_token, Begins, begins, Breaks, Any, no_name, no_colon, no_digit, no_dot}

-- an NCName
abbrev pub IsNc : List ℕ → Type 0
IsNc [] = ⊥
IsNc (c ∷ cs) = (begins_name c ≡ true) × (list_all is_ncname_char cs ≡ true)

-- ---- truth values

pub or_cases : (a b : Bool) → (a || b) ≡ true → (a ≡ true) ⊎ (b ≡ true)
or_cases true b h = inl refl
or_cases false b h = inr h

pub and_first : (a b : Bool) → (a && b) ≡ true → a ≡ true
and_first true b h = refl
and_first false b h = h

pub and_second : (a b : Bool) → (a && b) ≡ true → b ≡ true
and_second true b h = h
and_second false b h = absurd (false≢true h)

le_from : (n k : ℕ) → nat_le n k ≡ true → n ≤ k
le_from n k h = grind (arith, nat_tests)

-- ---- the first character of a name

abbrev from : ℕ → List (ℕ × ℕ) → Bool
from k [] = true
from k (r ∷ rs) = nat_le k r.0 && from k rs

among_from : (k : ℕ) (rs : List (ℕ × ℕ)) (c : ℕ) → from k rs ≡ true → is_among rs c ≡ true → k ≤ c
among_from k [] c a h = absurd (false≢true h)
among_from k (r ∷ rs) c a h =
    by (λ y. among_from k rs c (and_second (nat_le k r.0) (from k rs) a) y) (or_cases (nat_le r.0 c && nat_le c r.1) (is_among rs c) h)
  where
    by : (is_among rs c ≡ true → k ≤ c) → ((nat_le r.0 c && nat_le c r.1) ≡ true) ⊎ (is_among rs c ≡ true) → k ≤ c
    by more (inl x) =
        let low = le_from k r.0 (and_first (nat_le k r.0) (from k rs) a) in
        let high = le_from r.0 c (and_first (nat_le r.0 c) (nat_le c r.1) x) in
        omega (arith, low, high)
    by more (inr y) = more y

-- where names begin
abbrev starts : List (ℕ × ℕ)
starts = (58, 58) ∷ (65, 90) ∷ (95, 95) ∷ (97, 122) ∷ (192, 214) ∷ (216, 246) ∷ (248, 767) ∷ (880, 893) ∷ (895, 8191) ∷ (8204, 8205) ∷ (8304, 8591)
    ∷ (11264, 12271) ∷ (12289, 55295) ∷ (63744, 64975) ∷ (65008, 65533) ∷ (65536, 983039) ∷ []

pub begins_from : (c : ℕ) → begins_name c ≡ true → 58 ≤ c
begins_from c h = among_from 58 starts c refl (and_first (is_name_start c) (not (nat_eq c 58)) h)

not_digit : (c : ℕ) → 58 ≤ c → is_ascii_digit c ≡ false
not_digit c h = grind (arith, nat_tests)

not_quote : (c : ℕ) → 58 ≤ c → is_quote c ≡ false
not_quote c h = grind (arith, nat_tests)

not_dot : (c : ℕ) → 58 ≤ c → nat_eq c 46 ≡ false
not_dot c h = grind (arith, nat_tests)

not_space : (c : ℕ) → 58 ≤ c → is_space c ≡ false
not_space c h = grind (arith, nat_tests)

not_fraction : (c : ℕ) (cs : List ℕ) → is_ascii_digit c ≡ false → nat_eq c 46 ≡ false → is_fraction (c ∷ cs) ≡ false
not_fraction c cs e f = rw (e, f) refl

not_large : (c : ℕ) (cs : List ℕ) → is_ascii_digit c ≡ false → is_too_large (c ∷ cs) ≡ false
not_large c cs e = rw e refl

no_space : (c : ℕ) (cs : List ℕ) → is_space c ≡ false → space (c ∷ cs) ≡ 0
no_space c cs e = rw e refl

-- ---- names

pub all_pass : (p : ℕ → Bool) (cs rest : List ℕ) → list_all p cs ≡ true → prefix_len p rest ≡ 0 → prefix_len p (cs ++ rest) ≡ length cs
all_pass p [] rest a h = h
all_pass p (c ∷ cs) rest a h =
    let e : p c ≡ true = and_first (p c) (list_all p cs) a in
    let ih = all_pass p cs rest (and_second (p c) (list_all p cs) a) h in
    rw e (omega (arith, ih))

get_behind : (w rest : List ℕ) (k n : ℕ) → n ≡ length w + k → slice_get (w ++ rest) n ≡ slice_get rest k
get_behind [] rest k n h = let e : n ≡ k = omega (arith, h) in ap (slice_get rest) e
get_behind (x ∷ w) rest k n h =
    let e : n ≡ suc (length w + k) = omega (arith, h) in
    ap (slice_get (x ∷ (w ++ rest))) e ∙ get_behind w rest k (length w + k) refl

has_behind : (test : ℕ → Bool) (w rest : List ℕ) (k n : ℕ) → n ≡ length w + k → has_at test n (w ++ rest) ≡ has_at test k rest
has_behind test w rest k n h = ap (λ o. option_map_or test o false) (get_behind w rest k n h)

goes_plain : (n : ℕ) (text : List ℕ) → has_at (λ c. c == 58) n text ≡ false → goes_on n text ≡ (token.Name (record { prefix = []; local = take n text }), n)
goes_plain n text h = rw h refl

goes_named : (n m : ℕ) (text : List ℕ) → has_at (λ c. c == 58) n text ≡ true → has_at begins_name (n + 1) text ≡ true
    → prefix_len is_ncname_char (drop (n + 1) text) ≡ m
    → goes_on n text ≡ (token.Name (record { prefix = take n text; local = take m (drop (n + 1) text) }), n + 1 + m)
goes_named n m text h b e = rw (h, b, e) refl

goes_within : (n : ℕ) (text : List ℕ) → has_at (λ c. c == 58) n text ≡ true → has_at begins_name (n + 1) text ≡ false
    → has_at (λ c. c == 42) (n + 1) text ≡ true → goes_on n text ≡ (token.Within (take n text), n + 2)
goes_within n text h b e = rw (h, b, e) refl

-- a text that begins with a name
named : (c : ℕ) (cs rest : List ℕ) → begins_name c ≡ true → list_all is_ncname_char cs ≡ true → prefix_len is_ncname_char rest ≡ 0
    → first_token (c ∷ (cs ++ rest)) ≡ Some (goes_on (length (c ∷ cs)) (c ∷ (cs ++ rest)))
named c cs rest b a h =
    let low = begins_from c b in
    let long : prefix_len is_ncname_char (cs ++ rest) + 1 ≡ length (c ∷ cs) = omega (arith, all_pass is_ncname_char cs rest a h) in
    rw (not_digit c low, not_quote c low, b) (ap (λ n. Some (goes_on n (c ∷ (cs ++ rest)))) long)

name_begins : (c : ℕ) (cs : List ℕ) (raw : Token) (n : ℕ) → begins_name c ≡ true → first_token (c ∷ cs) ≡ Some (raw, n) → Begins (c ∷ cs) raw n
name_begins c cs raw n b e =
    let low = begins_from c b in
    begins (c ∷ cs) raw n (no_space c cs (not_space c low)) (not_fraction c cs (not_digit c low) (not_dot c low)) (not_large c cs (not_digit c low)) e

abbrev pub plain_name : List ℕ → Token
plain_name w = token.Name (record { prefix = []; local = w })

ncname_begins : (w rest : List ℕ) → IsNc w → Breaks rest → Begins (w ++ rest) (plain_name w) (length w)
ncname_begins [] rest nc h = absurd nc
ncname_begins (c ∷ cs) rest (b, a) h =
    let w = c ∷ cs in
    let colon : has_at (λ x. x == 58) (length w) (w ++ rest) ≡ false
    = has_behind (λ x. x == 58) w rest 0 (length w) (omega arith) ∙ no_colon rest h in
    name_begins c (cs ++ rest) (plain_name w) (length w) b
    (named c cs rest b a (no_name rest h) ∙ ap Some (goes_plain (length w) (w ++ rest) colon)
    ∙ ap (λ l. Some (plain_name l, length w)) (take_at w rest (length w) refl))

pub word : {p d : ℕ} {e : Bool} (w : List ℕ) (t : Token) (f : Bool) → IsNc w → classed e (plain_name w) ≡ t
    → before_next (before_at p d e) t (p + length w) ≡ before_at (p + length w) d f
    → Piece (Tok t) Breaks w (before_at p d e) d f
word {p} {d} {e} w t f nc c same = one_token (before_at p d e) w (plain_name w) t d f (λ rest h. ncname_begins w rest nc h) refl c same

-- a name that no operator is
pub ncname : {p d : ℕ} (w : List ℕ) → IsNc w → Piece (Tok (plain_name w)) Breaks w (before_at p d false) d true
ncname {p} {d} w nc = word w (plain_name w) true nc refl refl

abbrev pub full_name : List ℕ → List ℕ → Token
full_name w v = token.Name (record { prefix = w; local = v })

qname_by : (text w v : List ℕ) (n m : ℕ) → first_token text ≡ Some (goes_on n text) → goes_on n text ≡ (full_name (take n text) (take m (drop (n + 1) text)), n + 1 + m)
    → take n text ≡ w → take m (drop (n + 1) text) ≡ v → first_token text ≡ Some (full_name w v, n + 1 + m)
qname_by text w v n m f g e h =
    f ∙ ap Some g ∙ ap (λ l. Some (full_name l (take m (drop (n + 1) text)), n + 1 + m)) e ∙ ap (λ l. Some (full_name w l, n + 1 + m)) h

qname_first : (c : ℕ) (cs v rest : List ℕ) → begins_name c ≡ true → list_all is_ncname_char cs ≡ true → IsNc v → Breaks rest
    → first_token (c ∷ (cs ++ 58 ∷ (v ++ rest))) ≡ Some (full_name (c ∷ cs) v, length (c ∷ cs) + 1 + length v)
qname_first c cs [] rest b a nc h = absurd nc
qname_first c cs (x ∷ xs) rest b a (y, z) h =
    let w = c ∷ cs in
    let v = x ∷ xs in
    let text = w ++ 58 ∷ (v ++ rest) in
    let n = length w in
    let colon : has_at (λ x. x == 58) n text ≡ true = has_behind (λ x. x == 58) w (58 ∷ (v ++ rest)) 0 n (omega arith) in
    let start : has_at begins_name (n + 1) text ≡ true = has_behind begins_name w (58 ∷ (v ++ rest)) 1 (n + 1) refl ∙ y in
    let after : drop (n + 1) text ≡ v ++ rest
    = ap (drop (n + 1)) (sym (append_assoc w (58 ∷ []) (v ++ rest))) ∙ drop_at (w ++ 58 ∷ []) (v ++ rest) (n + 1) (length-append w (58 ∷ [])) in
    let pass : list_all is_ncname_char v ≡ true = rw (starts_within x y) z in
    let long : prefix_len is_ncname_char (drop (n + 1) text) ≡ length v
    = ap (prefix_len is_ncname_char) after ∙ all_pass is_ncname_char v rest pass (no_name rest h) in
    let local : take (length v) (drop (n + 1) text) ≡ v = ap (take (length v)) after ∙ take_at v rest (length v) refl in
    qname_by text w v n (length v) (named c cs (58 ∷ (v ++ rest)) b a refl) (goes_named n (length v) text colon start long) (take_at w (58 ∷ (v ++ rest)) n refl) local
  where
    starts_within : (x : ℕ) → begins_name x ≡ true → is_ncname_char x ≡ true
    starts_within x y =
        let s : is_name_start x ≡ true = and_first (is_name_start x) (not (nat_eq x 58)) y in
        let c : not (nat_eq x 58) ≡ true = and_second (is_name_start x) (not (nat_eq x 58)) y in
        rw (s, c) refl

qname_begins : (w v rest : List ℕ) → IsNc w → IsNc v → Breaks rest → Begins ((w ++ 58 ∷ v) ++ rest) (full_name w v) (length (w ++ 58 ∷ v))
qname_begins [] v rest nc nv h = absurd nc
qname_begins (c ∷ cs) v rest (b, a) nv h =
    let w = c ∷ cs in
    let same : (w ++ 58 ∷ v) ++ rest ≡ w ++ 58 ∷ (v ++ rest) = append_assoc w (58 ∷ v) rest in
    let long : length w + 1 + length v ≡ length (w ++ 58 ∷ v) = omega (arith, length-append w (58 ∷ v)) in
    subst (λ n. Begins ((w ++ 58 ∷ v) ++ rest) (full_name w v) n) long
    (subst (λ text. Begins text (full_name w v) (length w + 1 + length v)) (sym same)
    (name_begins c (cs ++ 58 ∷ (v ++ rest)) (full_name w v) (length w + 1 + length v) b (qname_first c cs v rest b a nv h)))

pub qname : {p d : ℕ} (w v : List ℕ) → IsNc w → IsNc v → Piece (Tok (full_name w v)) Breaks (w ++ 58 ∷ v) (before_at p d false) d true
qname {p} {d} w v nw nv = one_token (before_at p d false) (w ++ 58 ∷ v) (full_name w v) (full_name w v) d true (λ rest h. qname_begins w v rest nw nv h) refl refl refl

within_first : (c : ℕ) (cs rest : List ℕ) → begins_name c ≡ true → list_all is_ncname_char cs ≡ true
    → first_token (c ∷ (cs ++ 58 ∷ 42 ∷ rest)) ≡ Some (token.Within (c ∷ cs), length (c ∷ cs) + 2)
within_first c cs rest b a =
    let w = c ∷ cs in
    let text = w ++ 58 ∷ 42 ∷ rest in
    let n = length w in
    let colon : has_at (λ x. x == 58) n text ≡ true = has_behind (λ x. x == 58) w (58 ∷ 42 ∷ rest) 0 n (omega arith) in
    let start : has_at begins_name (n + 1) text ≡ false = has_behind begins_name w (58 ∷ 42 ∷ rest) 1 (n + 1) refl in
    let star : has_at (λ x. x == 42) (n + 1) text ≡ true = has_behind (λ x. x == 42) w (58 ∷ 42 ∷ rest) 1 (n + 1) refl in
    named c cs (58 ∷ 42 ∷ rest) b a refl ∙ ap Some (goes_within n text colon start star)
    ∙ ap (λ l. Some (token.Within l, n + 2)) (take_at w (58 ∷ 42 ∷ rest) n refl)

within_begins : (w rest : List ℕ) → IsNc w → Begins ((w ++ 58 ∷ 42 ∷ []) ++ rest) (token.Within w) (length (w ++ 58 ∷ 42 ∷ []))
within_begins [] rest nc = absurd nc
within_begins (c ∷ cs) rest (b, a) =
    let w = c ∷ cs in
    let same : (w ++ 58 ∷ 42 ∷ []) ++ rest ≡ w ++ 58 ∷ 42 ∷ rest = append_assoc w (58 ∷ 42 ∷ []) rest in
    let long : length w + 2 ≡ length (w ++ 58 ∷ 42 ∷ []) = omega (arith, length-append w (58 ∷ 42 ∷ [])) in
    subst (λ n. Begins ((w ++ 58 ∷ 42 ∷ []) ++ rest) (token.Within w) n) long
    (subst (λ text. Begins text (token.Within w) (length w + 2)) (sym same)
    (name_begins c (cs ++ 58 ∷ 42 ∷ rest) (token.Within w) (length w + 2) b (within_first c cs rest b a)))

pub within : {p d : ℕ} (w : List ℕ) → IsNc w → Piece (Tok (token.Within w)) Any (w ++ 58 ∷ 42 ∷ []) (before_at p d false) d true
within {p} {d} w nc = one_token (before_at p d false) (w ++ 58 ∷ 42 ∷ []) (token.Within w) (token.Within w) d true (λ rest u. within_begins w rest nc) refl refl refl

-- ---- texts in quotes

-- a text without one of the two quotes
abbrev pub OneQuote : List ℕ → Type 0
OneQuote text = (list_any (λ c. c == 34) text ≡ false) ⊎ (list_any (λ c. c == 39) text ≡ false)

none_pass : (q : ℕ) (cs : List ℕ) → list_any (λ c. c == q) cs ≡ false → list_all (λ c. not (c == q)) cs ≡ true
none_pass q [] h = refl
none_pass q (c ∷ cs) h = by (λ g. none_pass q cs g) (nat_eq c q) h
  where
    by : (list_any (λ c. c == q) cs ≡ false → list_all (λ c. not (c == q)) cs ≡ true)
        → (b : Bool) → (b || list_any (λ c. c == q) cs) ≡ false → (not b && list_all (λ c. not (c == q)) cs) ≡ true
    by more true g = absurd (false≢true (sym g))
    by more false g = more g

literal_at : (q : ℕ) (text rest : List ℕ) → nat_eq q q ≡ true → list_any (λ c. c == q) text ≡ false
    → literal q (text ++ q ∷ rest) ≡ Some (token.Literal text, length text + 2)
literal_at q text rest s h =
    let stop : prefix_len (λ c. not (c == q)) (q ∷ rest) ≡ 0 = rw s refl in
    let long : position_or_len (λ c. c == q) (text ++ q ∷ rest) ≡ length text = all_pass (λ c. not (c == q)) text (q ∷ rest) (none_pass q text h) stop in
    let inside : nat_lt (length text) (length (text ++ q ∷ rest)) ≡ true = less (length text) (length (text ++ q ∷ rest)) (omega (arith, length-append text (q ∷ rest))) in
    rw (long, inside) (ap (λ l. Some (token.Literal l, length text + 2)) (take_at text (q ∷ rest) (length text) refl))
  where
    less : (n k : ℕ) → n < k → nat_lt n k ≡ true
    less n k h = grind (arith, nat_tests)

quote_begins : (q : ℕ) (text rest : List ℕ) → first_token (q ∷ (text ++ q ∷ rest)) ≡ literal q (text ++ q ∷ rest) → nat_eq q q ≡ true
    → ((cs : List ℕ) → (space (q ∷ cs) ≡ 0) × (is_fraction (q ∷ cs) ≡ false) × (is_too_large (q ∷ cs) ≡ false))
    → list_any (λ c. c == q) text ≡ false
    → Begins ((q ∷ (text ++ q ∷ [])) ++ rest) (token.Literal text) (length (q ∷ (text ++ q ∷ [])))
quote_begins q text rest f s calm h =
    let same : (text ++ q ∷ []) ++ rest ≡ text ++ q ∷ rest = append_assoc text (q ∷ []) rest in
    let long : length text + 2 ≡ length (q ∷ (text ++ q ∷ [])) = omega (arith, length-append text (q ∷ [])) in
    let c = calm (text ++ q ∷ rest) in
    subst (λ n. Begins ((q ∷ (text ++ q ∷ [])) ++ rest) (token.Literal text) n) long
    (subst (λ t. Begins (q ∷ t) (token.Literal text) (length text + 2)) (sym same)
    (begins (q ∷ (text ++ q ∷ rest)) (token.Literal text) (length text + 2) c.0 c.1 c.2 (f ∙ literal_at q text rest s h)))

abbrev Quoted : List ℕ → List ℕ → ℕ → Type 0
Quoted text rest q = Begins ((q ∷ (text ++ q ∷ [])) ++ rest) (token.Literal text) (length (q ∷ (text ++ q ∷ [])))

quoted_begins : (text rest : List ℕ) → OneQuote text → Begins (quoted text ++ rest) (token.Literal text) (length (quoted text))
quoted_begins text rest one = by (list_any (λ c. c == 34) text) refl one
  where
    by : (b : Bool) → list_any (λ c. c == 34) text ≡ b → OneQuote text → Quoted text rest (quote_for text)
    by false e o = subst (Quoted text rest) (sym (ap (λ b. cond b 39 34) e)) (quote_begins 34 text rest refl refl (λ cs. (refl, refl, refl)) e)
    by true e (inl h) = absurd (false≢true (sym h ∙ e))
    by true e (inr h) = subst (Quoted text rest) (sym (ap (λ b. cond b 39 34) e)) (quote_begins 39 text rest refl refl (λ cs. (refl, refl, refl)) h)

pub quotes : {p d : ℕ} {e : Bool} (text : List ℕ) → OneQuote text → Piece (Tok (token.Literal text)) Any (quoted text) (before_at p d e) d true
quotes {p} {d} {e} text one =
    one_token (before_at p d e) (quoted text) (token.Literal text) (token.Literal text) d true (λ rest u. quoted_begins text rest one) refl (kept e) refl
  where
    kept : (e : Bool) → classed e (token.Literal text) ≡ token.Literal text
    kept true = refl
    kept false = refl

-- ---- numerals

is_digit : (c : ℕ) → digit_value c < 10 → is_ascii_digit c ≡ true
is_digit c h = let r = digit_from_value c h in grind (arith, nat_tests)

digit_no_space : (c : ℕ) → digit_value c < 10 → is_space c ≡ false
digit_no_space c h = let r = digit_from_value c h in grind (arith, nat_tests)

all_digits : (ds : List ℕ) → AllDigits 10 ds → list_all is_ascii_digit ds ≡ true
all_digits [] a = refl
all_digits (d ∷ ds) a = let e = is_digit d a.0 in let f = all_digits ds a.1 in rw (e, f) refl

abbrev others : ℕ → List ℕ → Option (Token × ℕ)
others c text = cond (is_quote c) (literal c text) (cond (begins_name c) (Some (name (c ∷ text))) (sign (c ∷ text)))

numeral_begins : (w rest : List ℕ) (n : ℕ) → IsNumeral 10 w → digits_value 10 w ≡ n → n < 2 ^ 63 → Breaks rest → Begins (w ++ rest) (token.Whole (pos n)) (length w)
numeral_begins [] rest n h v small b = absurd (omega (arith, h.0))
numeral_begins (c ∷ cs) rest n h v small b =
    let w = c ∷ cs in
    let digit : is_ascii_digit c ≡ true = is_digit c h.1.0 in
    let long : prefix_len is_ascii_digit (w ++ rest) ≡ length w = all_pass is_ascii_digit w rest (all_digits w h.1) (no_digit rest b) in
    let front : take (length w) (w ++ rest) ≡ w = take_at w rest (length w) refl in
    let some : nat_eq (length w) 0 ≡ false = more_than (length w) h.0 in
    let dot : has_at (λ x. x == 46) (length w) (w ++ rest) ≡ false = has_behind (λ x. x == 46) w rest 0 (length w) (omega arith) ∙ no_dot rest b in
    let value : digits_value 10 (take (length w) (w ++ rest)) ≡ n = ap (digits_value 10) front ∙ v in
    let large : is_too_large (w ++ rest) ≡ false = ap (λ k. nat_lt (2 ^ 63 - 1) (digits_value 10 (take k (w ++ rest)))) long ∙ ap (nat_lt (2 ^ 63 - 1)) value ∙ not_over n small in
    let fraction : is_fraction (w ++ rest) ≡ false
    = ap (λ k. cond (nat_eq k 0) (has_at (λ c. c == 46) 0 (w ++ rest) && has_at is_ascii_digit 1 (w ++ rest)) (has_at (λ c. c == 46) k (w ++ rest))) long
    ∙ rw some dot in
    let first : first_token (w ++ rest) ≡ Some (token.Whole (pos n), length w)
    = ap (λ b. cond b (Some (numeral (w ++ rest))) (others c (cs ++ rest))) digit
    ∙ ap (λ k. Some (token.Whole (pos (digits_value 10 (take k (w ++ rest)))), k)) long ∙ ap (λ k. Some (token.Whole (pos k), length w)) value in
    begins (w ++ rest) (token.Whole (pos n)) (length w) (no_space c (cs ++ rest) (digit_no_space c h.1.0)) fraction large first
  where
    more_than : (k : ℕ) → 0 < k → nat_eq k 0 ≡ false
    more_than k l = grind (arith, nat_tests)

    not_over : (k : ℕ) → k < 2 ^ 63 → nat_lt (2 ^ 63 - 1) k ≡ false
    not_over k l = grind (arith, nat_tests)

pub whole : {p d : ℕ} {e : Bool} (n : ℕ) → n < 2 ^ 63 → Piece (Tok (token.Whole (pos n))) Breaks (decimal n) (before_at p d e) d true
whole {p} {d} {e} n small =
    let r = decimal_is_IsNumeral n (omega arith) in
    one_token (before_at p d e) (decimal n) (token.Whole (pos n)) (token.Whole (pos n)) d true (λ rest b. numeral_begins (decimal n) rest n r.0 r.1 small b) refl (kept e) refl
  where
    kept : (e : Bool) → classed e (token.Whole (pos n)) ≡ token.Whole (pos n)
    kept true = refl
    kept false = refl

-- ---- operators

-- a text that begins with a space
pub data Spaced : List ℕ → Type 0 where
  at_space : (cs : List ℕ) → Spaced (32 ∷ cs)

abbrev pub bin_token : Bin → Token
bin_token b = token.Operator (operator.Binary b)

spaced_breaks : (rest : List ℕ) → Spaced rest → Breaks rest
spaced_breaks rest (Spaced.at_space cs) = Breaks.at_space cs

signed_begins : (w rest : List ℕ) (raw : Token) → ((cs : List ℕ) → Begins (w ++ 32 ∷ cs) raw (length w)) → Spaced rest → Begins (w ++ rest) raw (length w)
signed_begins w rest raw f (Spaced.at_space cs) = f cs

operator_word : {p d : ℕ} (w : List ℕ) (b : Bin) → IsNc w → classed true (plain_name w) ≡ bin_token b → Piece (Tok (bin_token b)) Spaced w (before_at p d true) d false
operator_word {p} {d} w b nc c =
    one_token (before_at p d true) w (plain_name w) (bin_token b) d false (λ rest s. ncname_begins w rest nc (spaced_breaks rest s)) refl c refl

operator_by : {p d : ℕ} (w : List ℕ) (raw : Token) (b : Bin) → ((cs : List ℕ) → Begins (w ++ 32 ∷ cs) raw (length w)) → is_too_deep d raw ≡ false
    → classed true raw ≡ bin_token b → Piece (Tok (bin_token b)) Spaced w (before_at p d true) d false
operator_by {p} {d} w raw b f deep c = one_token (before_at p d true) w raw (bin_token b) d false (λ rest s. signed_begins w rest raw f s) deep c refl

-- an operator between spaces, behind an operand
pub operator_sign : {p d : ℕ} (b : Bin) → Piece (Tok (bin_token b)) Spaced (sign_of b) (before_at p d true) d false
unfolding lib.Utf8.encode
operator_sign bin.Or = operator_word (codes "or") bin.Or (refl, refl) refl
operator_sign bin.And = operator_word (codes "and") bin.And (refl, refl) refl
operator_sign (bin.Arith op.Idiv) = operator_word (codes "idiv") (bin.Arith op.Idiv) (refl, refl) refl
operator_sign (bin.Arith op.Mod) = operator_word (codes "mod") (bin.Arith op.Mod) (refl, refl) refl
operator_sign (bin.Compare cmp.Eq) = operator_by (codes "=") (bin_token (bin.Compare cmp.Eq)) (bin.Compare cmp.Eq) (λ cs. begins _ _ _ refl refl refl refl) refl refl
operator_sign (bin.Compare cmp.Ne) = operator_by (codes "!=") (bin_token (bin.Compare cmp.Ne)) (bin.Compare cmp.Ne) (λ cs. begins _ _ _ refl refl refl refl) refl refl
operator_sign (bin.Compare cmp.Lt) = operator_by (codes "<") (bin_token (bin.Compare cmp.Lt)) (bin.Compare cmp.Lt) (λ cs. begins _ _ _ refl refl refl refl) refl refl
operator_sign (bin.Compare cmp.Le) = operator_by (codes "<=") (bin_token (bin.Compare cmp.Le)) (bin.Compare cmp.Le) (λ cs. begins _ _ _ refl refl refl refl) refl refl
operator_sign (bin.Compare cmp.Gt) = operator_by (codes ">") (bin_token (bin.Compare cmp.Gt)) (bin.Compare cmp.Gt) (λ cs. begins _ _ _ refl refl refl refl) refl refl
operator_sign (bin.Compare cmp.Ge) = operator_by (codes ">=") (bin_token (bin.Compare cmp.Ge)) (bin.Compare cmp.Ge) (λ cs. begins _ _ _ refl refl refl refl) refl refl
operator_sign (bin.Arith op.Add) = operator_by (codes "+") (bin_token (bin.Arith op.Add)) (bin.Arith op.Add) (λ cs. begins _ _ _ refl refl refl refl) refl refl
operator_sign (bin.Arith op.Sub) = operator_by (codes "-") (bin_token (bin.Arith op.Sub)) (bin.Arith op.Sub) (λ cs. begins _ _ _ refl refl refl refl) refl refl
operator_sign (bin.Arith op.Mul) = operator_by (codes "*") token.Star (bin.Arith op.Mul) (λ cs. begins _ _ _ refl refl refl refl) refl refl
