-- Values that only texts of ASCII have: they are read by bytes as they are by characters.
use Rattle.std.proofs.Common.{◌≡◌, ◌⊎◌, inl, inr, ℕ, ◌+◌, ◌*◌, ◌<◌, ℤ, pos, neg_ℤ, Bool, true, false, not, cond, ◌&&◌, ◌||◌, ◌==◌, List, [], ◌∷◌, ◌++◌, length, get_or, Option, Some, None, refl, sym, ap, ◌∙◌, arith, encode_utf8_all}
use Rattle.std.specs.Prelude.{bytes_eq, codes, nat_le, nat_lt, if◌then◌else◌}
use Rattle.std.specs.List.{list_all, list_any, position_or_len, before_first, after_first}
use Rattle.std.specs.Option.{option_map}
use Rattle.std.proofs.lemmas.Bool.{and_parts, or_cases, eqb-true, leb-true, ltb-true, lt-ltb}
use Rattle.std.proofs.lemmas.List.Folds.{list_all-append}
use Rattle.std.proofs.lemmas.List.Sums.{split_at_first, passes_at_first}
use Rattle.std.proofs.lemmas.Str.{encodes_same, encodes-IsAscii}
use Rattle.stx_base.specs.Character.{is_space, is_among}
use Rattle.stxpath_syntax.specs.declared.dialect.Dialect.{Dialect}
use Rattle.stxpath_syntax.specs.declared.dialect.Dialect.TheVariants.{One, OneOne}
use Rattle.sheet_model.specs.Passing.{no_kind}
use Rattle.sheet_model.specs.declared.pass.Kinds.{Kinds}
use Rattle.sheet_model.specs.declared.pass.Pass.{Pass}
use Rattle.sheet_model.specs.declared.pass.Pass.TheVariants as pass
use Rattle.xml_names.proofs.Texts.{ascii, same-true}
use Rattle.sheet_loader.specs.Values.{is_digit, is_dot, are_digits, number, hundredths, unsigned_priority, priority_of, with_kind, kinds_named, words_of, single_spaced, plain_pass, pass_by, pass_in}

abbrev all_ascii : List ℕ → Bool
all_ascii = list_all (λ b. nat_lt b 128)

-- what only texts of ASCII have
module _ {A : Type 0} (f : List ℕ → Option A) (law : (bs : List ℕ) (a : A) → f bs ≡ Some a → all_ascii bs ≡ true) where
  by_both : (t : List ℕ) (o p : Option A) → f (encode_utf8_all t) ≡ o → f t ≡ p → f (encode_utf8_all t) ≡ f t
  by_both t (Some a) p e q =
      let small = ascii (encode_utf8_all t) (law (encode_utf8_all t) a e) in
      ap f (encodes_same (encode_utf8_all t) t (encodes-IsAscii (encode_utf8_all t) small))
  by_both t None (Some b) e q = ap f (encodes-IsAscii t (ascii t (law t b q)))
  by_both t None None e q = e ∙ sym q

  alike : (t : List ℕ) → f (encode_utf8_all t) ≡ f t
  alike t = by_both t (f (encode_utf8_all t)) (f t) refl refl

-- Priorities.

digit-ascii : (d : ℕ) → is_digit d ≡ true → nat_lt d 128 ≡ true
digit-ascii d h = let below = leb-true d 57 (and_parts (nat_le 48 d) (nat_le d 57) h).1 in lt-ltb d 128 (omega arith)

digits-ascii : (ds : List ℕ) → list_all is_digit ds ≡ true → all_ascii ds ≡ true
digits-ascii [] h = refl
digits-ascii (d ∷ ds) h =
    let parts = and_parts (is_digit d) (list_all is_digit ds) h in
    ap (λ t. t && all_ascii ds) (digit-ascii d parts.0) ∙ digits-ascii ds parts.1

counted-ascii : (least most : ℕ) (ds : List ℕ) → are_digits least most ds ≡ true → all_ascii ds ≡ true
counted-ascii least most ds h = digits-ascii ds (and_parts (nat_le least (length ds) && nat_le (length ds) most) (list_all is_digit ds) h).1

first-place : (p : ℕ → Bool) (x : ℕ) (xs : List ℕ) (t : Bool) → p x ≡ t → (p x || list_any p xs) ≡ true
    → (list_any p xs ≡ true → position_or_len p xs < length xs) → position_or_len p (x ∷ xs) < length (x ∷ xs)
first-place p x xs true e h again =
    let n : position_or_len p (x ∷ xs) ≡ 0 = ap (λ t. cond (not t) (1 + position_or_len p xs) 0) e in omega arith
first-place p x xs false e h again =
    let n : position_or_len p (x ∷ xs) ≡ 1 + position_or_len p xs = ap (λ t. cond (not t) (1 + position_or_len p xs) 0) e in
    let less = again (ap (λ t. t || list_any p xs) (sym e) ∙ h) in omega arith

any-place : (p : ℕ → Bool) (xs : List ℕ) → list_any p xs ≡ true → position_or_len p xs < length xs
any-place p [] h = absurd (cc)
any-place p (x ∷ xs) h = first-place p x xs (p x) refl h (any-place p xs)

joined-ascii : (xs ys : List ℕ) (c : ℕ) → all_ascii xs ≡ true → nat_lt c 128 ≡ true → all_ascii ys ≡ true → all_ascii (xs ++ c ∷ ys) ≡ true
joined-ascii xs ys c x one y =
    list_all-append (λ b. nat_lt b 128) xs (c ∷ ys) ∙ ap (λ t. t && (nat_lt c 128 && all_ascii ys)) x ∙ ap (λ t. t && all_ascii ys) one ∙ y

some-then : {A : Type 0} (b : Bool) (x a : A) → (if b then Some x else None) ≡ Some a → b ≡ true
some-then true x a e = refl
some-then false x a e = absurd (cc)

unsigned-by-case : (bs : List ℕ) (n : ℕ) (t : Bool) → list_any is_dot bs ≡ t → unsigned_priority bs ≡ Some n → all_ascii bs ≡ true
unsigned-by-case bs n true e h =
    let there = ap (λ t. if t
    then (if are_digits 1 6 (before_first is_dot bs) && are_digits 1 2 (after_first is_dot bs)
    then Some (number 0 (before_first is_dot bs) * 100 + hundredths (after_first is_dot bs)) else None)
    else (if are_digits 1 6 bs then Some (number 0 bs * 100) else None)) (sym e) ∙ h in
    let both = some-then (are_digits 1 6 (before_first is_dot bs) && are_digits 1 2 (after_first is_dot bs))
    (number 0 (before_first is_dot bs) * 100 + hundredths (after_first is_dot bs)) n there in
    let parts = and_parts (are_digits 1 6 (before_first is_dot bs)) (are_digits 1 2 (after_first is_dot bs)) both in
    let place = any-place is_dot bs e in
    let dot : get_or bs (position_or_len is_dot bs) 0 ≡ 46 = eqb-true (get_or bs (position_or_len is_dot bs) 0) 46 (passes_at_first is_dot bs 0 place) in
    ap all_ascii (split_at_first is_dot bs 0 place ∙ ap (λ c. before_first is_dot bs ++ c ∷ after_first is_dot bs) dot)
    ∙ joined-ascii (before_first is_dot bs) (after_first is_dot bs) 46 (counted-ascii 1 6 (before_first is_dot bs) parts.0) refl
    (counted-ascii 1 2 (after_first is_dot bs) parts.1)
unsigned-by-case bs n false e h =
    let there = ap (λ t. if t
    then (if are_digits 1 6 (before_first is_dot bs) && are_digits 1 2 (after_first is_dot bs)
    then Some (number 0 (before_first is_dot bs) * 100 + hundredths (after_first is_dot bs)) else None)
    else (if are_digits 1 6 bs then Some (number 0 bs * 100) else None)) (sym e) ∙ h in
    counted-ascii 1 6 bs (some-then (are_digits 1 6 bs) (number 0 bs * 100) n there)

unsigned-ascii : (bs : List ℕ) (n : ℕ) → unsigned_priority bs ≡ Some n → all_ascii bs ≡ true
unsigned-ascii bs n h = unsigned-by-case bs n (list_any is_dot bs) refl h

mapped : {A B : Type 0} (f : A → B) (o : Option A) (b : B) → option_map f o ≡ Some b → (a : A) × (o ≡ Some a)
mapped f None b e = absurd (cc)
mapped f (Some a) b e = (a, refl)

priority-by-case : (c : ℕ) (cs : List ℕ) (z : ℤ) (t : Bool) → (c == 45) ≡ t → priority_of (c ∷ cs) ≡ Some z → all_ascii (c ∷ cs) ≡ true
priority-by-case c cs z true e h =
    let there = ap (λ t. if t then option_map (λ n. neg_ℤ (pos n)) (unsigned_priority cs) else option_map pos (unsigned_priority (c ∷ cs))) (sym e) ∙ h in
    let n = mapped (λ n. neg_ℤ (pos n)) (unsigned_priority cs) z there in
    let minus : c ≡ 45 = eqb-true c 45 e in
    ap (λ d. nat_lt d 128 && all_ascii cs) minus ∙ unsigned-ascii cs n.0 n.1
priority-by-case c cs z false e h =
    let there = ap (λ t. if t then option_map (λ n. neg_ℤ (pos n)) (unsigned_priority cs) else option_map pos (unsigned_priority (c ∷ cs))) (sym e) ∙ h in
    let n = mapped pos (unsigned_priority (c ∷ cs)) z there in
    unsigned-ascii (c ∷ cs) n.0 n.1

priority-ascii : (bs : List ℕ) (z : ℤ) → priority_of bs ≡ Some z → all_ascii bs ≡ true
priority-ascii [] z h = refl
priority-ascii (c ∷ cs) z h = priority-by-case c cs z (c == 45) refl h

pub priority-alike : (t : List ℕ) → priority_of (encode_utf8_all t) ≡ priority_of t
priority-alike = alike priority_of priority-ascii

-- What is passed through.

picked : {A : Type 0} (word w : List ℕ) (n : Bool) (x : A) (o : Option A) (r : A) (t : Bool) → (bytes_eq word w && n) ≡ t → all_ascii w ≡ true
    → (o ≡ Some r → all_ascii word ≡ true) → (if bytes_eq word w && n then Some x else o) ≡ Some r → all_ascii word ≡ true
picked word w n x o r true e small others h = ap all_ascii (same-true word w (and_parts (bytes_eq word w) n e).0) ∙ small
picked word w n x o r false e small others h = others (ap (λ t. if t then Some x else o) (sym e) ∙ h)

with-kind-ascii : (word : List ℕ) (kinds r : Kinds) → with_kind word kinds ≡ Some r → all_ascii word ≡ true
with-kind-ascii word kinds r =
    pick (codes "elements") (not kinds.elements) (record kinds { elements = true }) refl
    (pick (codes "text") (not kinds.text) (record kinds { text = true }) refl
    (pick (codes "cdata") (not kinds.cdata) (record kinds { cdata = true }) refl
    (pick (codes "comments") (not kinds.comments) (record kinds { comments = true }) refl
    (pick (codes "processing-instructions") (not kinds.instructions) (record kinds { instructions = true }) refl
    (pick (codes "attributes") (not kinds.attributes) (record kinds { attributes = true }) refl
    (λ h. absurd (none h))))))) where
      none : None ≡ Some r → ⊥
      none h = cc

      pick : (w : List ℕ) (n : Bool) (x : Kinds) {o : Option Kinds} → all_ascii w ≡ true → (o ≡ Some r → all_ascii word ≡ true)
          → (if bytes_eq word w && n then Some x else o) ≡ Some r → all_ascii word ≡ true
      pick w n x {o} small others h = picked word w n x o r (bytes_eq word w && n) refl small others h

word-ascii : (w : List ℕ) (k : Kinds) (o : Option Kinds) (ws : List (List ℕ)) (p : Pass) → with_kind w k ≡ o → kinds_named o ws ≡ Some p → all_ascii w ≡ true
word-ascii w k None ws p e h = absurd (cc)
word-ascii w k (Some r) ws p e h = with-kind-ascii w k r e

named-ascii : (kinds : Option Kinds) (ws : List (List ℕ)) (p : Pass) → kinds_named kinds ws ≡ Some p → list_all all_ascii ws ≡ true
named-ascii None ws p h = absurd (cc)
named-ascii (Some k) [] p h = refl
named-ascii (Some k) (w ∷ ws) p h =
    ap (λ t. t && list_all all_ascii ws) (word-ascii w k (with_kind w k) ws p refl h) ∙ named-ascii (with_kind w k) ws p h

range-below : (c : ℕ) (r : ℕ × ℕ) → nat_lt r.1 128 ≡ true → (nat_le r.0 c && nat_le c r.1) ≡ true → c < 128
range-below c r h e =
    let top = ltb-true r.1 128 h in
    let low = leb-true c r.1 (and_parts (nat_le r.0 c) (nat_le c r.1) e).1 in
    omega arith

by_range : (c : ℕ) (r : ℕ × ℕ) (ranges : List (ℕ × ℕ)) → nat_lt r.1 128 ≡ true → (is_among ranges c ≡ true → c < 128)
    → ((nat_le r.0 c && nat_le c r.1) ≡ true) ⊎ (is_among ranges c ≡ true) → c < 128
by_range c r ranges h others (inl here) = range-below c r h here
by_range c r ranges h others (inr there) = others there

among-below : (c : ℕ) (ranges : List (ℕ × ℕ)) → list_all (λ r. nat_lt r.1 128) ranges ≡ true → is_among ranges c ≡ true → c < 128
among-below c [] h e = absurd (cc)
among-below c (r ∷ ranges) h e =
    let parts = and_parts (nat_lt r.1 128) (list_all (λ r. nat_lt r.1 128) ranges) h in
    by_range c r ranges parts.0 (λ there. among-below c ranges parts.1 there) (or_cases (nat_le r.0 c && nat_le c r.1) (is_among ranges c) e)

space-ascii : (c : ℕ) → is_space c ≡ true → nat_lt c 128 ≡ true
space-ascii c h = lt-ltb c 128 (among-below c ((0x20, 0x20) ∷ (0x9, 0x9) ∷ (0xD, 0xD) ∷ (0xA, 0xA) ∷ []) refl h)

ended-ascii : (acc : List ℕ) (c : ℕ) → all_ascii (acc ++ c ∷ []) ≡ true → (all_ascii acc ≡ true) × (nat_lt c 128 ≡ true)
ended-ascii acc c h =
    let parts = and_parts (all_ascii acc) (nat_lt c 128 && true) (sym (list_all-append (λ b. nat_lt b 128) acc (c ∷ [])) ∙ h) in
    (parts.0, (and_parts (nat_lt c 128) true parts.1).0)

words-by-case : (acc : List ℕ) (c : ℕ) (cs : List ℕ) (t : Bool) → is_space c ≡ t
    → ((acc : List ℕ) → list_all all_ascii (words_of acc cs) ≡ true → (all_ascii acc ≡ true) × (all_ascii cs ≡ true))
    → list_all all_ascii (words_of acc (c ∷ cs)) ≡ true → (all_ascii acc ≡ true) × (all_ascii (c ∷ cs) ≡ true)
words-by-case acc c cs true e again h =
    let there = ap (λ t. list_all all_ascii (if t then acc ∷ words_of [] cs else words_of (acc ++ c ∷ []) cs)) (sym e) ∙ h in
    let parts = and_parts (all_ascii acc) (list_all all_ascii (words_of [] cs)) there in
    (parts.0, ap (λ t. t && all_ascii cs) (space-ascii c e) ∙ (again [] parts.1).1)
words-by-case acc c cs false e again h =
    let there = ap (λ t. list_all all_ascii (if t then acc ∷ words_of [] cs else words_of (acc ++ c ∷ []) cs)) (sym e) ∙ h in
    let parts = again (acc ++ c ∷ []) there in
    let ends = ended-ascii acc c parts.0 in
    (ends.0, ap (λ t. t && all_ascii cs) ends.1 ∙ parts.1)

words-ascii : (cs acc : List ℕ) → list_all all_ascii (words_of acc cs) ≡ true → (all_ascii acc ≡ true) × (all_ascii cs ≡ true)
words-ascii [] acc h = ((and_parts (all_ascii acc) true h).0, refl)
words-ascii (c ∷ cs) acc h = words-by-case acc c cs (is_space c) refl (words-ascii cs) h

spaced-by-case : (b : Bool) (c : ℕ) (cs : List ℕ) (t : Bool) → (b && is_space c) ≡ t
    → ((b : Bool) → all_ascii (single_spaced b cs) ≡ true → all_ascii cs ≡ true)
    → all_ascii (single_spaced b (c ∷ cs)) ≡ true → all_ascii (c ∷ cs) ≡ true
spaced-by-case b c cs true e again h =
    let there = ap (λ t. all_ascii (if t then single_spaced true cs else c ∷ single_spaced (is_space c) cs)) (sym e) ∙ h in
    ap (λ t. t && all_ascii cs) (space-ascii c (and_parts b (is_space c) e).1) ∙ again true there
spaced-by-case b c cs false e again h =
    let there = ap (λ t. all_ascii (if t then single_spaced true cs else c ∷ single_spaced (is_space c) cs)) (sym e) ∙ h in
    let parts = and_parts (nat_lt c 128) (all_ascii (single_spaced (is_space c) cs)) there in
    ap (λ t. t && all_ascii cs) parts.0 ∙ again (is_space c) parts.1

spaced-ascii : (cs : List ℕ) (b : Bool) → all_ascii (single_spaced b cs) ≡ true → all_ascii cs ≡ true
spaced-ascii [] b h = refl
spaced-ascii (c ∷ cs) b h = spaced-by-case b c cs (b && is_space c) refl (spaced-ascii cs) h

plain-ascii : (bs : List ℕ) (p : Pass) → plain_pass bs ≡ Some p → all_ascii bs ≡ true
plain-ascii bs p =
    word (codes "none") pass.None refl (word (codes "text") pass.Chars refl (word (codes "all") pass.All refl (λ h. absurd (none h)))) where
      none : None ≡ Some p → ⊥
      none h = cc

      by_word : (w : List ℕ) (x : Pass) (o : Option Pass) (t : Bool) → bytes_eq bs w ≡ t → all_ascii w ≡ true → (o ≡ Some p → all_ascii bs ≡ true)
          → (if bytes_eq bs w then Some x else o) ≡ Some p → all_ascii bs ≡ true
      by_word w x o true e small others h = ap all_ascii (same-true bs w e) ∙ small
      by_word w x o false e small others h = others (ap (λ t. if t then Some x else o) (sym e) ∙ h)

      word : (w : List ℕ) (x : Pass) {o : Option Pass} → all_ascii w ≡ true → (o ≡ Some p → all_ascii bs ≡ true)
          → (if bytes_eq bs w then Some x else o) ≡ Some p → all_ascii bs ≡ true
      word w x {o} small others h = by_word w x o (bytes_eq bs w) refl small others h

pass-by-ascii : (d : Dialect) (bs : List ℕ) (o : Option Pass) (p : Pass) → plain_pass bs ≡ o → pass_by d o bs ≡ Some p → all_ascii bs ≡ true
pass-by-ascii d bs (Some q) p e h = plain-ascii bs q e
pass-by-ascii One bs None p e h = absurd (cc)
pass-by-ascii OneOne bs None p e h =
    spaced-ascii bs false (words-ascii (single_spaced false bs) [] (named-ascii (Some no_kind) (words_of [] (single_spaced false bs)) p h)).1

pub pass-alike : (d : Dialect) (t : List ℕ) → pass_in d (encode_utf8_all t) ≡ pass_in d t
pass-alike d = alike (pass_in d) (λ bs p h. pass-by-ascii d bs (plain_pass bs) p refl h)
