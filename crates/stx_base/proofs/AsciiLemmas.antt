-- Bytes that are ASCII and pass a test are characters that pass it.
use Rattle.std.proofs.Common.{◌≡◌, ℕ, zero, suc, ◌+◌, ◌<◌, Bool, true, false, ◌&&◌, List, [], ◌∷◌, ◌++◌, take, drop, refl, sym, ap, ◌∙◌, append_assoc, arith, cond, IsAscii, chars, Some, None}
use Rattle.std.specs.Prelude.{nat_lt, slice_get}
use Rattle.std.specs.List.{list_all, prefix_len}
use Rattle.std.specs.Option.{option_map_or}
use Rattle.std.proofs.lemmas.Bool.Decides.{nat_tests}
use Rattle.std.proofs.lemmas.List.{append-nil, take-append-drop}
use Rattle.std.proofs.lemmas.List.Folds.{list_all-append}
use Rattle.std.proofs.lemmas.Str.{chars-append, chars-IsAscii, IsAscii-append, IsUtf8-from_ascii}
use Rattle.stx_base.specs.Character.{is_name_start, is_ncname, is_ncname_char}

module _ (p : ℕ → Bool) where
  abbrev passes : ℕ → Bool
  passes b = nat_lt b 128 && p b

  both : (s t more : Bool) → ((s && t) && more) ≡ true → (s ≡ true) × (t ≡ true) × (more ≡ true)
  both true true more h = (refl, refl, h)
  both true false more h = absurd cc
  both false t more h = absurd cc

  less : {n m : ℕ} → nat_lt n m ≡ true → n < m
  less {n} {m} h = grind (arith, nat_tests)

  are_ascii : (bytes : List ℕ) → list_all passes bytes ≡ true → IsAscii bytes
  are_ascii [] h i = omega arith
  are_ascii (b ∷ bs) h zero = less (both (nat_lt b 128) (p b) (list_all passes bs) h).0
  are_ascii (b ∷ bs) h (suc i) = are_ascii bs (both (nat_lt b 128) (p b) (list_all passes bs) h).2 i

  bytes_pass : (bytes : List ℕ) → list_all passes bytes ≡ true → list_all p bytes ≡ true
  bytes_pass [] h = refl
  bytes_pass (b ∷ bs) h =
      let parts = both (nat_lt b 128) (p b) (list_all passes bs) h in
      ap (λ t. t && list_all p bs) parts.1 ∙ bytes_pass bs parts.2

  pub chars_pass : (bytes : List ℕ) → list_all passes bytes ≡ true → list_all p (chars bytes) ≡ true
  chars_pass bytes h = ap (list_all p) (chars-IsAscii bytes (are_ascii bytes h)) ∙ bytes_pass bytes h

-- where the longest front that passes ends

module _ (p : ℕ → Bool) where
  front_passes : (bytes : List ℕ) → list_all p (take (prefix_len p bytes) bytes) ≡ true
  front_passes [] = refl
  front_passes (b ∷ bs) = by_test (front_passes bs) (p b) refl where
    by_test : list_all p (take (prefix_len p bs) bs) ≡ true → (t : Bool) → p b ≡ t → list_all p (take (cond t (1 + prefix_len p bs) 0) (b ∷ bs)) ≡ true
    by_test more true e =
        let n : 1 + prefix_len p bs ≡ suc (prefix_len p bs) = omega arith in
        ap (λ k. list_all p (take k (b ∷ bs))) n ∙ (ap (λ t. t && list_all p (take (prefix_len p bs) bs)) e ∙ more)
    by_test more false e = refl

  next_fails : (bytes : List ℕ) (c : ℕ) (rest : List ℕ) → drop (prefix_len p bytes) bytes ≡ c ∷ rest → p c ≡ false
  next_fails [] c rest h = absurd cc
  next_fails (b ∷ bs) c rest h = by_test (λ k. next_fails bs c rest k) (p b) refl h where
    by_test : (drop (prefix_len p bs) bs ≡ c ∷ rest → p c ≡ false) → (t : Bool) → p b ≡ t → drop (cond t (1 + prefix_len p bs) 0) (b ∷ bs) ≡ c ∷ rest → p c ≡ false
    by_test more true e k =
        let n : 1 + prefix_len p bs ≡ suc (prefix_len p bs) = omega arith in
        more (ap (λ m. drop m (b ∷ bs)) (sym n) ∙ k)
    by_test more false e k = ap p (sym (ap (λ l. head_or l) k)) ∙ e where
      head_or : List ℕ → ℕ
      head_or [] = c
      head_or (x ∷ xs) = x

abbrev ncname_byte : ℕ → Bool
ncname_byte b = nat_lt b 128 && is_ncname_char b

-- bytes that all pass
pub all_pass : (bytes : List ℕ) → drop (prefix_len ncname_byte bytes) bytes ≡ [] → list_all ncname_byte bytes ≡ true
all_pass bytes h =
    let n = prefix_len ncname_byte bytes in
    ap (list_all ncname_byte) (sym (take-append-drop n bytes) ∙ (ap (λ l. take n bytes ++ l) h ∙ append-nil (take n bytes))) ∙ front_passes ncname_byte bytes

pub ascii_ncname_by_first : (bytes : List ℕ) → list_all ncname_byte bytes ≡ true → is_ncname (chars bytes) ≡ option_map_or is_name_start (slice_get bytes 0) false
ascii_ncname_by_first bytes all =
    ap (λ t. option_map_or is_name_start (slice_get (chars bytes) 0) false && t) (chars_pass is_ncname_char bytes all)
    ∙ (with_true (option_map_or is_name_start (slice_get (chars bytes) 0) false)
    ∙ ap (λ cs. option_map_or is_name_start (slice_get cs 0) false) (chars-IsAscii bytes (are_ascii is_ncname_char bytes all))) where
      with_true : (t : Bool) → (t && true) ≡ t
      with_true true = refl
      with_true false = refl

false_behind : (s : Bool) {t : Bool} → t ≡ false → (s && t) ≡ false
false_behind true e = e
false_behind false e = refl

pub empty_of : (bytes : List ℕ) → None ≡ slice_get bytes 0 → bytes ≡ []
empty_of [] h = refl
empty_of (b ∷ bs) h = absurd cc

pub cons_of : (bytes : List ℕ) (b : ℕ) → Some b ≡ slice_get bytes 0 → (rest : List ℕ) × (bytes ≡ b ∷ rest)
cons_of [] b h = absurd cc
cons_of (c ∷ cs) b h = (cs, ap (λ x. x ∷ cs) (sym (same_some h))) where
  same_some : Some b ≡ Some c → b ≡ c
  same_some e = cc

-- a byte of ASCII that doesn't pass
pub ascii_stop : (bytes : List ℕ) (b : ℕ) (rest : List ℕ) → drop (prefix_len ncname_byte bytes) bytes ≡ b ∷ rest → b < 128 → is_ncname (chars bytes) ≡ false
ascii_stop bytes b rest h low =
    ap is_ncname whole ∙ false_behind (option_map_or is_name_start (slice_get ((front ++ b ∷ []) ++ chars rest) 0) false)
    (list_all-append is_ncname_char (front ++ b ∷ []) (chars rest) ∙ ap (λ t. t && list_all is_ncname_char (chars rest)) (list_all-append is_ncname_char front (b ∷ []) ∙ last)) where
      front : List ℕ
      front = take (prefix_len ncname_byte bytes) bytes

      fails : is_ncname_char b ≡ false
      fails = other (nat_lt b 128) (is_ncname_char b) (is_low low) (next_fails ncname_byte bytes b rest h) where
        is_low : b < 128 → nat_lt b 128 ≡ true
        is_low k = grind (arith, nat_tests)

        other : (s t : Bool) → s ≡ true → (s && t) ≡ false → t ≡ false
        other true t e k = k
        other false t e k = absurd cc

      last : (list_all is_ncname_char front && (is_ncname_char b && true)) ≡ false
      last = false_behind (list_all is_ncname_char front) (ap (λ t. t && true) fails)

      ascii : IsAscii (front ++ b ∷ [])
      ascii = IsAscii-append front (b ∷ []) (are_ascii is_ncname_char front (front_passes ncname_byte bytes)) one where
        one : IsAscii (b ∷ [])
        one zero = low
        one (suc i) = omega arith

      whole : chars bytes ≡ (front ++ b ∷ []) ++ chars rest
      whole =
          ap chars (sym (take-append-drop (prefix_len ncname_byte bytes) bytes) ∙ (ap (λ l. front ++ l) h ∙ sym (append_assoc front (b ∷ []) rest)))
          ∙ (chars-append (front ++ b ∷ []) rest (IsUtf8-from_ascii (front ++ b ∷ []) ascii) ∙ ap (λ l. l ++ chars rest) (chars-IsAscii (front ++ b ∷ []) ascii))
