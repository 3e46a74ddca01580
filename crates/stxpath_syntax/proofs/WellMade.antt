-- What the text of a token shows: names are NCNames, a text in quotes lacks one of the two, numbers are within 64 bits.
use Rattle.std.proofs.Common.{◌≡◌, ℕ, zero, suc, ◌+◌, ◌-◌, ◌^◌, ◌<◌, Bool, true, false, cond, nat_lt, nat_eq, ◌&&◌, ◌||◌, ◌==◌, not, List, [], ◌∷◌, Some, None, Option, length, take, drop, sym, ◌∙◌, refl, ap, subst, arith, ◌⊎◌, inl, inr}
use Rattle.std.specs.Char.{is_ascii_digit}
use Rattle.std.specs.List.{list_all, list_any, prefix_len, position_or_len}
use Rattle.std.specs.Option.{option_map, option_map_or, option_or}
use Rattle.std.specs.Prelude.{slice_get, encode_utf8_all, is_some}
use Rattle.std.specs.Str.Parse.{digits_value}
use Rattle.std.proofs.lemmas.Bool.{false≢true}
use Rattle.std.proofs.lemmas.Bool.Decides.{nat_tests}
use Rattle.stx_base.specs.Character.{is_name_start, is_ncname_char}
use Rattle.stx_base.specs.declared.expression.Cmp.TheVariants as cmp
use Rattle.stx_base.specs.declared.expression.Op.TheVariants as op
use Rattle.stxpath_syntax.specs.declared.expr.Bin.TheVariants as bin
use Rattle.stxpath_syntax.specs.declared.fault.PathFault.{PathFault}
use Rattle.stxpath_syntax.specs.declared.fault.PathKind.TheVariants as kind
use Rattle.stxpath_syntax.specs.declared.token.Before.{Before}
use Rattle.stxpath_syntax.specs.declared.token.Operator.{Operator}
use Rattle.stxpath_syntax.specs.declared.token.Operator.TheVariants as operator
use Rattle.stxpath_syntax.specs.declared.token.Placed.{Placed}
use Rattle.stxpath_syntax.specs.declared.token.Token.{Token}
use Rattle.stxpath_syntax.specs.declared.token.Token.TheVariants as token
use Rattle.stxpath_syntax.specs.Tokens.{has_at, is_quote, begins_name, numeral, literal, goes_on, name, double_sign, operator_sign, plain_sign, single_sign, with_length, sign, first_token, is_fraction, is_too_large, unreadable, classed, space, before_next, Stands, Lexed}
use Rattle.stxpath_syntax.specs.Words.{operator_named}
use Rattle.stxpath_syntax.proofs.Readable.{Made, AllMade}
use Rattle.stxpath_syntax.proofs.Wording.{IsNc, OneQuote, or_cases, and_first, and_second}

-- ---- signs

abbrev MadeIf : Option Token → Type 0
MadeIf None = Unit {0}
MadeIf (Some t) = Made t

abbrev MadeAt : Option (Token × ℕ) → Type 0
MadeAt None = Unit {0}
MadeAt (Some found) = Made found.0

-- one sign after another is asked for
record Signs (o : Option Token) : Type 0 where
  are_made : MadeIf o

no_sign : Signs None
no_sign = record { are_made = tt }

or_sign : (b : Bool) (t : Token) {o : Option Token} → Made t → Signs o → Signs (cond b (Some t) o)
or_sign true t {o} m s = record { are_made = m }
or_sign false t {o} m s = s

double_signs : (c d : ℕ) → Signs (double_sign c d)
double_signs c d =
    or_sign (c == 47 && d == 47) token.SlashSlash tt (or_sign (c == 46 && d == 46) token.DotDot tt (or_sign (c == 33 && d == 61) (token.Operator (operator.Binary (bin.Compare cmp.Ne))) tt (or_sign (c == 60 && d == 61) (token.Operator (operator.Binary (bin.Compare cmp.Le))) tt (or_sign (c == 62 && d == 61) (token.Operator (operator.Binary (bin.Compare cmp.Ge))) tt no_sign))))

operator_signs : (c : ℕ) → Signs (operator_sign c)
operator_signs c =
    or_sign (c == 60) (token.Operator (operator.Binary (bin.Compare cmp.Lt))) tt (or_sign (c == 62) (token.Operator (operator.Binary (bin.Compare cmp.Gt))) tt (or_sign (c == 61) (token.Operator (operator.Binary (bin.Compare cmp.Eq))) tt (or_sign (c == 43) (token.Operator (operator.Binary (bin.Arith op.Add))) tt (or_sign (c == 45) (token.Operator (operator.Binary (bin.Arith op.Sub))) tt no_sign))))

plain_signs : (c : ℕ) → Signs (plain_sign c)
plain_signs c =
    or_sign (c == 40) token.Open tt (or_sign (c == 41) token.Close tt (or_sign (c == 91) token.OpenPredicate tt (or_sign (c == 93) token.ClosePredicate tt (or_sign (c == 47) token.Slash tt (or_sign (c == 46) token.Dot tt (or_sign (c == 42) token.Star tt (or_sign (c == 44) token.Comma tt (or_sign (c == 64) token.At tt (or_sign (c == 124) token.Bar tt (or_sign (c == 36) token.Dollar tt no_sign))))))))))

double_made : (c d : ℕ) → MadeIf (double_sign c d)
double_made c d = (double_signs c d).are_made

operator_made : (c : ℕ) → MadeIf (operator_sign c)
operator_made c = (operator_signs c).are_made

plain_made : (c : ℕ) → MadeIf (plain_sign c)
plain_made c = (plain_signs c).are_made

either_made : (o q : Option Token) → MadeIf o → MadeIf q → MadeIf (option_or o q)
either_made None q m k = k
either_made (Some t) q m k = m

long_made : (n : ℕ) (o : Option Token) → MadeIf o → MadeAt (option_map (with_length n) o)
long_made n None m = tt
long_made n (Some t) m = m

either_at : (o q : Option (Token × ℕ)) → MadeAt o → MadeAt q → MadeAt (option_or o q)
either_at None q m k = k
either_at (Some t) q m k = m

single_made : (c : ℕ) → MadeIf (single_sign c)
single_made c = either_made (operator_sign c) (plain_sign c) (operator_made c) (plain_made c)

sign_made : (text : List ℕ) → MadeAt (sign text)
sign_made [] = tt
sign_made (c ∷ []) = long_made 1 (single_sign c) (single_made c)
sign_made (c ∷ d ∷ text) =
    either_at (option_map (with_length 2) (double_sign c d)) (option_map (with_length 1) (single_sign c))
    (long_made 2 (double_sign c d) (double_made c d)) (long_made 1 (single_sign c) (single_made c))

-- ---- texts in quotes

front_passes : (p : ℕ → Bool) (cs : List ℕ) → list_all p (take (prefix_len p cs) cs) ≡ true
front_passes p [] = refl
front_passes p (c ∷ cs) = by (front_passes p cs) (p c) refl
  where
    more : 1 + prefix_len p cs ≡ suc (prefix_len p cs)
    more = omega arith

    by : list_all p (take (prefix_len p cs) cs) ≡ true → (b : Bool) → p c ≡ b → list_all p (take (prefix_len p (c ∷ cs)) (c ∷ cs)) ≡ true
    by ih true e = ap (λ b. list_all p (take (cond b (1 + prefix_len p cs) 0) (c ∷ cs))) e ∙ ap (λ n. list_all p (take n (c ∷ cs))) more ∙ rw e ih
    by ih false e = ap (λ b. list_all p (take (cond b (1 + prefix_len p cs) 0) (c ∷ cs))) e

pass_none : (q : ℕ) (cs : List ℕ) → list_all (λ c. not (c == q)) cs ≡ true → list_any (λ c. c == q) cs ≡ false
pass_none q [] h = refl
pass_none q (c ∷ cs) h = by (λ g. pass_none q cs g) (nat_eq c q) h
  where
    by : (list_all (λ c. not (c == q)) cs ≡ true → list_any (λ c. c == q) cs ≡ false)
        → (b : Bool) → (not b && list_all (λ c. not (c == q)) cs) ≡ true → (b || list_any (λ c. c == q) cs) ≡ false
    by more true g = absurd (false≢true g)
    by more false g = more g

one_quote : (q : ℕ) (cs : List ℕ) → is_quote q ≡ true → list_any (λ c. c == q) cs ≡ false → OneQuote cs
one_quote q cs h none = by (or_cases (nat_eq q 34) (nat_eq q 39) h)
  where
    is : (n k : ℕ) → nat_eq n k ≡ true → n ≡ k
    is n k e = grind (arith, nat_tests)

    by : (nat_eq q 34 ≡ true) ⊎ (nat_eq q 39 ≡ true) → OneQuote cs
    by (inl e) = inl (subst (λ n. list_any (λ c. c == n) cs ≡ false) (is q 34 e) none)
    by (inr e) = inr (subst (λ n. list_any (λ c. c == n) cs ≡ false) (is q 39 e) none)

literal_made : (q : ℕ) (cs : List ℕ) → is_quote q ≡ true → MadeAt (literal q cs)
literal_made q cs h = by (nat_lt (position_or_len (λ c. c == q) cs) (length cs))
  where
    by : (b : Bool) → MadeAt (cond b (Some (token.Literal (take (position_or_len (λ c. c == q) cs) cs), position_or_len (λ c. c == q) cs + 2)) None)
    by true = one_quote q (take (position_or_len (λ c. c == q) cs) cs) h (pass_none q (take (position_or_len (λ c. c == q) cs) cs) (front_passes (λ c. not (c == q)) cs))
    by false = tt

-- ---- names

starts_within : (x : ℕ) → begins_name x ≡ true → is_ncname_char x ≡ true
starts_within x y =
    let s : is_name_start x ≡ true = and_first (is_name_start x) (not (nat_eq x 58)) y in
    let c : not (nat_eq x 58) ≡ true = and_second (is_name_start x) (not (nat_eq x 58)) y in
    rw (s, c) refl

-- a name as long as possible
front_is : (c : ℕ) (cs : List ℕ) → begins_name c ≡ true → IsNc (take (prefix_len is_ncname_char cs + 1) (c ∷ cs))
front_is c cs b =
    let e : suc (prefix_len is_ncname_char cs) ≡ prefix_len is_ncname_char cs + 1 = omega arith in
    let w : IsNc (take (suc (prefix_len is_ncname_char cs)) (c ∷ cs)) = (b, front_passes is_ncname_char cs) in
    subst (λ n. IsNc (take n (c ∷ cs))) e w

-- a name that begins a text
name_at_front : (text : List ℕ) → has_at begins_name 0 text ≡ true → IsNc (take (prefix_len is_ncname_char text) text)
name_at_front [] h = absurd (false≢true h)
name_at_front (c ∷ cs) h =
    let e : prefix_len is_ncname_char cs + 1 ≡ prefix_len is_ncname_char (c ∷ cs)
    = (let s : prefix_len is_ncname_char cs + 1 ≡ 1 + prefix_len is_ncname_char cs = omega arith in s)
    ∙ ap (λ b. cond b (1 + prefix_len is_ncname_char cs) 0) (sym (starts_within c h)) in
    subst (λ n. IsNc (take n (c ∷ cs))) e (front_is c cs h)

get_drop : (n : ℕ) (cs : List ℕ) → slice_get (drop n cs) 0 ≡ slice_get cs n
get_drop zero [] = refl
get_drop (suc n) [] = refl
get_drop zero (c ∷ cs) = refl
get_drop (suc n) (c ∷ cs) = get_drop n cs

has_drop : (test : ℕ → Bool) (n : ℕ) (cs : List ℕ) → has_at test n cs ≡ true → has_at test 0 (drop n cs) ≡ true
has_drop test n cs h = ap (λ o. option_map_or test o false) (get_drop n cs) ∙ h

abbrev short_name : ℕ → List ℕ → Token × ℕ
short_name n text =
    cond (has_at (λ c. c == 58) n text && has_at (λ c. c == 42) (n + 1) text) (token.Within (take n text), n + 2)
    (token.Name (record { prefix = []; local = take n text }), n)

goes_made : (n : ℕ) (text : List ℕ) → IsNc (take n text) → Made (goes_on n text).0
goes_made n text nc = by (has_at (λ c. c == 58) n text && has_at begins_name (n + 1) text) refl
  where
    within_or : (b : Bool) → Made (cond {A = Token × ℕ} b (token.Within (take n text), n + 2) (token.Name (record { prefix = []; local = take n text }), n)).0
    within_or true = nc
    within_or false = (nc, inl refl)

    by : (b : Bool) → (has_at (λ c. c == 58) n text && has_at begins_name (n + 1) text) ≡ b
        → Made (cond {A = Token × ℕ} b (token.Name (record { prefix = take n text; local = take (prefix_len is_ncname_char (drop (n + 1) text)) (drop (n + 1) text) }), n + 1 + prefix_len is_ncname_char (drop (n + 1) text)) (short_name n text)).0
    by true e = (name_at_front (drop (n + 1) text) (has_drop begins_name (n + 1) text (and_second (has_at (λ c. c == 58) n text) (has_at begins_name (n + 1) text) e)), inr nc)
    by false e = within_or (has_at (λ c. c == 58) n text && has_at (λ c. c == 42) (n + 1) text)

name_made : (c : ℕ) (cs : List ℕ) → begins_name c ≡ true → Made (name (c ∷ cs)).0
name_made c cs b = goes_made (prefix_len is_ncname_char cs + 1) (c ∷ cs) (front_is c cs b)

-- ---- numerals

not_large : (text : List ℕ) → unreadable text ≡ None → is_too_large text ≡ false
not_large text h = by (is_fraction text) (is_too_large text) h
  where
    by : (f l : Bool) → cond f (Some kind.Fraction) (cond l (Some kind.Range) (cond (is_some (first_token text)) None (Some kind.Syntax))) ≡ None → l ≡ false
    by true l h = cc
    by false true h = cc
    by false false h = refl

numeral_made : (text : List ℕ) → unreadable text ≡ None → Made (numeral text).0
numeral_made text h = (digits_value 10 (take (prefix_len is_ascii_digit text) text), refl, small (digits_value 10 (take (prefix_len is_ascii_digit text) text)) (not_large text h))
  where
    small : (k : ℕ) → nat_lt (2 ^ 63 - 1) k ≡ false → k < 2 ^ 63
    small k l = grind (arith, nat_tests)

-- ---- tokens

first_made : (text : List ℕ) → unreadable text ≡ None → MadeAt (first_token text)
first_made [] h = tt
first_made (c ∷ cs) h = by_digit (is_ascii_digit c)
  where
    by_name : (b : Bool) → begins_name c ≡ b → MadeAt (cond b (Some (name (c ∷ cs))) (sign (c ∷ cs)))
    by_name true e = name_made c cs e
    by_name false e = sign_made (c ∷ cs)

    by_quote : (b : Bool) → is_quote c ≡ b → MadeAt (cond b (literal c cs) (cond (begins_name c) (Some (name (c ∷ cs))) (sign (c ∷ cs))))
    by_quote true e = literal_made c cs e
    by_quote false e = by_name (begins_name c) refl

    by_digit : (b : Bool) → MadeAt (cond b (Some (numeral (c ∷ cs))) (cond (is_quote c) (literal c cs) (cond (begins_name c) (Some (name (c ∷ cs))) (sign (c ∷ cs)))))
    by_digit true = numeral_made (c ∷ cs) h
    by_digit false = by_quote (is_quote c) refl

classed_made : (e : Bool) (t : Token) → Made t → Made (classed e t)
classed_made false t m = m
classed_made true (token.Whole i) m = m
classed_made true (token.Literal text) m = m
classed_made true (token.Name name) m = by (nat_eq (length name.prefix) 0)
  where
    word : (o : Option Operator) → Made (option_map_or token.Operator o (token.Name name))
    word None = m
    word (Some o) = tt

    by : (b : Bool) → Made (cond b (option_map_or token.Operator (operator_named (encode_utf8_all name.local)) (token.Name name)) (token.Name name))
    by true = word (operator_named (encode_utf8_all name.local))
    by false = m
classed_made true (token.Within prefix) m = m
classed_made true token.Star m = tt
classed_made true (token.Operator o) m = tt
classed_made true token.Dollar m = tt
classed_made true token.Open m = tt
classed_made true token.Close m = tt
classed_made true token.OpenPredicate m = tt
classed_made true token.ClosePredicate m = tt
classed_made true token.Comma m = tt
classed_made true token.At m = tt
classed_made true token.Dot m = tt
classed_made true token.DotDot m = tt
classed_made true token.Slash m = tt
classed_made true token.SlashSlash m = tt
classed_made true token.Bar m = tt

stands_made : (b : Before) (text : List ℕ) (t : Placed) (len : ℕ) → Stands b text t len → Made t.token
stands_made b text t len s =
    let raw : Made s.found.0 = subst MadeAt s.is_first (first_made (drop (space text) text) s.is_readable) in
    let same : t.token ≡ classed b.is_operand s.found.0 = ap (λ (p : Placed). p.token) s.is_it in
    subst Made (sym same) (classed_made b.is_operand s.found.0 raw)

pub well_made : (b : Before) (text : List ℕ) (ts : List Placed) (over : Option PathFault) → Lexed b text ts over → AllMade ts
well_made b text [] over l = tt
well_made b text (t ∷ ts) over (len, s, l) = (stands_made b text t len s, well_made (before_next b t.token (b.at + len)) (drop len text) ts over l)
