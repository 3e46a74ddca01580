-- How attributes are written: what is taken apart was spelled so, as bytes.
use Rattle.std.proofs.Common.{◌≡◌, ◌≢◌, ◌⊎◌, inl, inr, ℕ, zero, suc, ◌+◌, ◌<◌, Bool, true, false, not, ◌==◌, nat_lt, List, [], ◌∷◌, ◌++◌, Option, Some, None, length, take, drop, get_or, refl, sym, ap, ◌∙◌, arith, subst, cond, ⊎_elim, length-append}
use Rattle.std.specs.List.{list_all, list_any, prefix_len, position_or_len}
use Rattle.std.specs.Option.{option_map, option_and_then}
use Rattle.std.specs.Str.{chars}
use Rattle.std.proofs.lemmas.Str.{chars-nil}
use Rattle.std.proofs.lemmas.Bool.{cases_Bool, cases_eq, eqb-true, eq-eqb, ne_eqb}
use Rattle.std.proofs.lemmas.Bool.Decides.{nat_tests}
use Rattle.std.proofs.lemmas.List.{take-append-drop}
use Rattle.std.proofs.lemmas.List.Sums.{split_at_first, passes_at_first}
use Rattle.std.proofs.Math.Seq.{take-append_seam, drop-append_seam, drop-append-add}
use Rattle.stx_base.specs.Character.{is_space, is_name}
use Rattle.xml_tokens.specs.Places.{is_quote}
use Rattle.xml_tokens.specs.Spelling.{IsSpace, slash}
use Rattle.xml_tokens.specs.Tags.{is_name_byte, named, quoted, until_quote, equated, without_less, after_byte, after_space, attribute, attributes, tag_end, with_first}
use Rattle.xml_tokens.proofs.ListLemmas.{prefix-all, stops, prefix-append, all-none, none-all, two}
use Rattle.xml_tokens.proofs.AttributeLemmas.{some_if, bind_some, map_some, attributes-end, attributes-joined, attributes-other, attribute-shorter, after_byte-same, equated-is, attribute-is, no_attributes}

-- a name's bytes
pub record IsNameBytes (name : List ℕ) : Type 0 where
  pub bytes : list_all is_name_byte name ≡ true
  pub named : is_name (chars name) ≡ true

-- an attribute as it is written
pub record Written : Type 0 where
  pub first : ℕ
  pub space : List ℕ
  pub name : List ℕ
  pub before : List ℕ
  pub behind : List ℕ
  pub quote : ℕ
  pub value : List ℕ

abbrev pub spelled : Written → List ℕ → List ℕ
spelled a more = (a.first ∷ a.space) ++ (a.name ++ (a.before ++ 61 ∷ (a.behind ++ a.quote ∷ (a.value ++ a.quote ∷ more))))

pub record IsWritten (a : Written) : Type 0 where
  pub space : IsSpace (a.first ∷ a.space)
  pub name : IsNameBytes a.name
  pub before : IsSpace a.before
  pub behind : IsSpace a.behind
  pub quote : is_quote a.quote ≡ true
  pub unquoted : list_any (λ b. b == a.quote) a.value ≡ false
  pub markless : list_any (λ b. b == 60) a.value ≡ false

-- its name and its value
abbrev pub written_pair : Written → List ℕ × List ℕ
written_pair a = (a.name, a.value)

abbrev pair_of : List ℕ × List ℕ × List ℕ → List ℕ × List ℕ
pair_of found = (found.0, found.1)

-- attributes as they are written, and the end of the tag
abbrev pub AreWritten : List (List ℕ × List ℕ) → Bool → List ℕ → Type 0
AreWritten [] empty bytes = (space : List ℕ) × IsSpace space × (bytes ≡ space ++ slash empty)
AreWritten (pair ∷ pairs) empty bytes =
    (a : Written) × (more : List ℕ) × IsWritten a × (pair ≡ written_pair a) × (bytes ≡ spelled a more) × AreWritten pairs empty more

-- from what is read to how it is spelled

pub named-is : (bytes : List ℕ) (found : List ℕ × List ℕ) → named bytes ≡ Some found → IsNameBytes found.0 × (bytes ≡ found.0 ++ found.1)
unfolding named
named-is bytes found h =
    let len = prefix_len is_name_byte bytes in
    by_test (is_name (chars (take len bytes))) refl h where
      by_test : (t : Bool) → is_name (chars (take (prefix_len is_name_byte bytes) bytes)) ≡ t → cond t (Some (take (prefix_len is_name_byte bytes) bytes, drop (prefix_len is_name_byte bytes) bytes)) None ≡ Some found → IsNameBytes found.0 × (bytes ≡ found.0 ++ found.1)
      by_test true e k =
          let len = prefix_len is_name_byte bytes in
          let same = some_if true (take len bytes, drop len bytes) found k in
          let name : IsNameBytes (take len bytes) = record { bytes = prefix-all is_name_byte bytes; named = e } in
          subst (λ (p : List ℕ × List ℕ). IsNameBytes p.0 × (bytes ≡ p.0 ++ p.1)) same (name, sym (take-append-drop len bytes))
      by_test false e k = absurd cc

pub space-is : (bytes : List ℕ) → IsSpace (take (prefix_len is_space bytes) bytes) × (bytes ≡ take (prefix_len is_space bytes) bytes ++ after_space bytes)
space-is bytes = (prefix-all is_space bytes, sym (take-append-drop (prefix_len is_space bytes) bytes))

until_quote-spelled : (quote : ℕ) (bytes : List ℕ) (found : List ℕ × List ℕ) → until_quote quote bytes ≡ Some found → (bytes ≡ found.0 ++ quote ∷ found.1) × (list_any (λ b. b == quote) found.0 ≡ false)
until_quote-spelled quote bytes found h = by_test _ refl h where
  shorter : {n m : ℕ} → nat_lt n m ≡ true → n < m
  shorter {n} {m} h = grind (arith, nat_tests)

  by_test : (t : Bool) → nat_lt (position_or_len (λ b. b == quote) bytes) (length bytes) ≡ t →
      cond t (Some (take (position_or_len (λ b. b == quote) bytes) bytes, drop (position_or_len (λ b. b == quote) bytes + 1) bytes)) None ≡ Some found →
      (bytes ≡ found.0 ++ quote ∷ found.1) × (list_any (λ b. b == quote) found.0 ≡ false)
  by_test true e k =
      let p = λ (b : ℕ). b == quote in
      let len = position_or_len p bytes in
      let inside : len < length bytes = shorter e in
      let at : get_or bytes len 0 ≡ quote = eqb-true _ _ (passes_at_first p bytes 0 inside) in
      let whole : bytes ≡ take len bytes ++ quote ∷ drop (len + 1) bytes = split_at_first p bytes 0 inside ∙ ap (λ c. take len bytes ++ c ∷ drop (len + 1) bytes) at in
      subst (λ (f : List ℕ × List ℕ). (bytes ≡ f.0 ++ quote ∷ f.1) × (list_any p f.0 ≡ false)) (some_if true (take len bytes, drop (len + 1) bytes) found k)
      (whole, all-none p (take len bytes) (prefix-all (λ b. not (p b)) bytes))
  by_test false e k = absurd cc

pub quoted-spelled : (bytes : List ℕ) (found : List ℕ × List ℕ) → quoted bytes ≡ Some found →
    (quote : ℕ) × (is_quote quote ≡ true) × (bytes ≡ quote ∷ (found.0 ++ quote ∷ found.1)) × (list_any (λ b. b == quote) found.0 ≡ false)
unfolding quoted
quoted-spelled [] found h = absurd cc
quoted-spelled (quote ∷ bytes) found h = by_test (is_quote quote) refl h where
  by_test : (t : Bool) → is_quote quote ≡ t → cond t (until_quote quote bytes) None ≡ Some found →
      (q : ℕ) × (is_quote q ≡ true) × (quote ∷ bytes ≡ q ∷ (found.0 ++ q ∷ found.1)) × (list_any (λ b. b == q) found.0 ≡ false)
  by_test true e k = let u = until_quote-spelled quote bytes found k in (quote, e, ap (λ l. quote ∷ l) u.0, u.1)
  by_test false e k = absurd cc

-- an attribute behind its white space
abbrev behind_space : Written → List ℕ → List ℕ
behind_space a more = a.name ++ (a.before ++ 61 ∷ (a.behind ++ a.quote ∷ (a.value ++ a.quote ∷ more)))

attribute-spelled : (bytes : List ℕ) (first : ℕ) (space : List ℕ) (found : List ℕ × List ℕ × List ℕ) → IsSpace (first ∷ space) → attribute bytes ≡ Some found →
    (a : Written) × IsWritten a × (pair_of found ≡ written_pair a) × ((first ∷ space) ++ bytes ≡ spelled a found.2)
attribute-spelled bytes first space found s h =
    let parts = attribute-is bytes found h in
    let name = parts.0 in
    let value = parts.1 in
    let eqs = equated-is name.1 value parts.3 in
    let rest = eqs.0 in
    let n = named-is bytes name parts.2 in
    let before = space-is name.1 in
    let eq = after_byte-same 61 (after_space name.1) rest eqs.1 in
    let behind = space-is rest in
    let q = quoted-spelled (after_space rest) value eqs.2 in
    let a : Written = record { first = first; space = space; name = name.0; before = take (prefix_len is_space name.1) name.1; behind = take (prefix_len is_space rest) rest; quote = q.0; value = value.0 } in
    let is : IsWritten a = record { space = s; name = n.0; before = before.0; behind = behind.0; quote = q.1; unquoted = q.3; markless = parts.4 } in
    let tail : name.1 ≡ a.before ++ 61 ∷ (a.behind ++ a.quote ∷ (a.value ++ a.quote ∷ value.1)) =
    before.1 ∙ ap (λ l. a.before ++ l) (eq ∙ ap (λ l. 61 ∷ l) (behind.1 ∙ ap (λ l. a.behind ++ l) q.2)) in
    let whole : (first ∷ space) ++ bytes ≡ spelled a value.1 = ap (λ l. (first ∷ space) ++ l) (n.1 ∙ ap (λ l. name.0 ++ l) tail) in
    (a, is, ap pair_of (sym parts.5), whole ∙ ap (λ (f : List ℕ × List ℕ × List ℕ). spelled a f.2) parts.5)

tag_end-is : (bytes : List ℕ) (empty : Bool) → tag_end bytes ≡ Some empty → bytes ≡ slash empty
tag_end-is [] true h = absurd cc
tag_end-is [] false h = refl
tag_end-is (b ∷ []) empty h = by_test (b == 47) refl h where
  by_test : (t : Bool) → (b == 47) ≡ t → cond t (Some true) None ≡ Some empty → b ∷ [] ≡ slash empty
  by_test true e k = ap (λ c. c ∷ []) (eqb-true b 47 e) ∙ ap slash (some_if true true empty k)
  by_test false e k = absurd cc
tag_end-is (b ∷ c ∷ bs) empty h = absurd cc

-- white space that is there has a first byte
pub nonempty : (bytes : List ℕ) → length (after_space bytes) ≢ length bytes → (first : ℕ) × (space : List ℕ) × (take (prefix_len is_space bytes) bytes ≡ first ∷ space)
nonempty bytes ne = by_list (take (prefix_len is_space bytes) bytes) refl where
  by_list : (l : List ℕ) → take (prefix_len is_space bytes) bytes ≡ l → (first : ℕ) × (space : List ℕ) × (take (prefix_len is_space bytes) bytes ≡ first ∷ space)
  by_list [] e = absurd (ne (ap length (sym ((space-is bytes).1 ∙ ap (λ l. l ++ after_space bytes) e))))
  by_list (x ∷ xs) e = (x, xs, e)

pub attributes-spelled : (n : ℕ) (bytes : List ℕ) (attrs : List (List ℕ × List ℕ)) (empty : Bool) → attributes n bytes ≡ Some (attrs, empty) → AreWritten attrs empty bytes
attributes-spelled zero bytes attrs empty h = absurd (no_attributes bytes (attrs, empty) h)
attributes-spelled (suc n) bytes attrs empty h = by_end (λ b as_ e k. attributes-spelled n b as_ e k) (tag_end (after_space bytes)) refl where
  by_found : ((b : List ℕ) (as_ : List (List ℕ × List ℕ)) (e : Bool) → attributes n b ≡ Some (as_, e) → AreWritten as_ e b) → length (after_space bytes) ≢ length bytes → (found : List ℕ × List ℕ × List ℕ) → attribute (after_space bytes) ≡ Some found →
      (later : List (List ℕ × List ℕ) × Bool) → attributes n found.2 ≡ Some later → with_first (pair_of found) later ≡ (attrs, empty) → AreWritten attrs empty bytes
  by_found again ne found e later k w =
      let some = nonempty bytes ne in
      let space : IsSpace (some.0 ∷ some.1) = ap (list_all is_space) (sym some.2) ∙ (space-is bytes).0 in
      let a = attribute-spelled (after_space bytes) some.0 some.1 found space e in
      let whole : bytes ≡ spelled a.0 found.2 = (space-is bytes).1 ∙ (ap (λ l. l ++ after_space bytes) some.2 ∙ a.3) in
      let more = again found.2 later.0 later.1 k in
      let all : AreWritten (pair_of found ∷ later.0) later.1 bytes = (a.0, found.2, a.1, a.2, whole, more) in
      subst (λ (p : List (List ℕ × List ℕ) × Bool). AreWritten p.0 p.1 bytes) w all

  by_attribute : ((b : List ℕ) (as_ : List (List ℕ × List ℕ)) (e : Bool) → attributes n b ≡ Some (as_, e) → AreWritten as_ e b) → tag_end (after_space bytes) ≡ None → length (after_space bytes) ≢ length bytes → AreWritten attrs empty bytes
  by_attribute again none ne =
      let b = bind_some (λ found. option_map (with_first (pair_of found)) (attributes n found.2)) (attribute (after_space bytes)) (attrs, empty) (sym (attributes-other n bytes none ne) ∙ h) in
      let m = map_some (with_first (pair_of b.0)) (attributes n b.0.2) (attrs, empty) b.2 in
      by_found again ne b.0 b.1 m.0 m.1 m.2

  by_length : ((b : List ℕ) (as_ : List (List ℕ × List ℕ)) (e : Bool) → attributes n b ≡ Some (as_, e) → AreWritten as_ e b) → tag_end (after_space bytes) ≡ None → (length (after_space bytes) ≡ length bytes) ⊎ (length (after_space bytes) ≢ length bytes) → AreWritten attrs empty bytes
  by_length again none (inl e) = let clash = sym (attributes-joined n bytes none e) ∙ h in absurd cc
  by_length again none (inr ne) = by_attribute again none ne

  by_end : ((b : List ℕ) (as_ : List (List ℕ × List ℕ)) (e : Bool) → attributes n b ≡ Some (as_, e) → AreWritten as_ e b) → (o : Option Bool) → tag_end (after_space bytes) ≡ o → AreWritten attrs empty bytes
  by_end again (Some last) e =
      let same = some_if true ([], last) (attrs, empty) (sym (attributes-end n bytes last e) ∙ h) in
      let all : AreWritten [] last bytes =
      (take (prefix_len is_space bytes) bytes, (space-is bytes).0, (space-is bytes).1 ∙ ap (λ l. take (prefix_len is_space bytes) bytes ++ l) (tag_end-is (after_space bytes) last e)) in
      subst (λ (p : List (List ℕ × List ℕ) × Bool). AreWritten p.0 p.1 bytes) same all
  by_end again None e = by_length again e (cases_eq (length (after_space bytes)) (length bytes))

-- from how it is spelled to what is read

pub space-no-name : (b : ℕ) → is_space b ≡ true → is_name_byte b ≡ false
space-no-name b h =
    ⊎_elim (λ (e : b ≡ 32). subst (λ n. is_name_byte n ≡ false) (sym e) refl) (λ (n32 : b ≢ 32).
    ⊎_elim (λ (e : b ≡ 9). subst (λ n. is_name_byte n ≡ false) (sym e) refl) (λ (n9 : b ≢ 9).
    ⊎_elim (λ (e : b ≡ 13). subst (λ n. is_name_byte n ≡ false) (sym e) refl) (λ (n13 : b ≢ 13).
    ⊎_elim (λ (e : b ≡ 10). subst (λ n. is_name_byte n ≡ false) (sym e) refl) (λ (n10 : b ≢ 10). absurd (no_space b h n32 n9 n13 n10))
    (cases_eq b 10)) (cases_eq b 13)) (cases_eq b 9)) (cases_eq b 32) where
      no_space : (b : ℕ) → is_space b ≡ true → b ≢ 32 → b ≢ 9 → b ≢ 13 → b ≢ 10 → ⊥
      no_space b h a c d e = grind (arith, nat_tests)

pub name-begins : (name : List ℕ) → IsNameBytes name → (c : ℕ) × (cs : List ℕ) × (name ≡ c ∷ cs) × (is_name_byte c ≡ true)
name-begins name is = by_list name is.bytes is.named where
  by_list : (l : List ℕ) → list_all is_name_byte l ≡ true → is_name (chars l) ≡ true → (c : ℕ) × (cs : List ℕ) × (l ≡ c ∷ cs) × (is_name_byte c ≡ true)
  by_list [] all named = let clash : is_name [] ≡ true = ap is_name (sym chars-nil) ∙ named in absurd cc
  by_list (c ∷ cs) all named = (c, cs, refl, (two (is_name_byte c) (list_all is_name_byte cs) all).0)

pub stops-space : (p : ℕ → Bool) (space rest : List ℕ) → IsSpace space → ((b : ℕ) → is_space b ≡ true → p b ≡ false) → stops p rest ≡ true → stops p (space ++ rest) ≡ true
stops-space p [] rest s none r = r
stops-space p (x ∷ xs) rest s none r = ap not (none x (two (is_space x) (list_all is_space xs) s).0)

pub stops-name : (name rest : List ℕ) → IsNameBytes name → stops is_space (name ++ rest) ≡ true
stops-name name rest is =
    let n = name-begins name is in
    let c : is_space n.0 ≡ false = ⊎_elim (λ (t : is_space n.0 ≡ true). let clash = sym n.3 ∙ space-no-name n.0 t in absurd cc) (λ (f : is_space n.0 ≡ false). f) (cases_Bool (is_space n.0)) in
    ap (λ l. stops is_space (l ++ rest)) n.2 ∙ ap not c

pub named-of : (name rest : List ℕ) → IsNameBytes name → stops is_name_byte rest ≡ true → named (name ++ rest) ≡ Some (name, rest)
unfolding named
named-of name rest is s =
    let len = prefix-append is_name_byte name rest is.bytes s in
    ap (λ n. cond (is_name (chars (take n (name ++ rest)))) (Some (take n (name ++ rest), drop n (name ++ rest))) None) len
    ∙ (ap (λ l. cond (is_name (chars l)) (Some (l, drop (length name) (name ++ rest))) None) (take-append_seam name rest)
    ∙ (ap (λ l. cond (is_name (chars name)) (Some (name, l)) None) (drop-append_seam name rest) ∙ ap (λ t. cond t (Some (name, rest)) None) is.named))

pub after_space-of : (space rest : List ℕ) → IsSpace space → stops is_space rest ≡ true → after_space (space ++ rest) ≡ rest
after_space-of space rest s r = ap (λ n. drop n (space ++ rest)) (prefix-append is_space space rest s r) ∙ drop-append_seam space rest

until_quote-of : (quote : ℕ) (value more : List ℕ) → list_any (λ b. b == quote) value ≡ false → until_quote quote (value ++ quote ∷ more) ≡ Some (value, more)
until_quote-of quote value more unquoted =
    let p = λ (b : ℕ). b == quote in
    let l = value ++ quote ∷ more in
    let here : (quote == quote) ≡ true = eq-eqb quote quote refl in
    let len = prefix-append (λ b. not (p b)) value (quote ∷ more) (none-all p value unquoted) (ap (λ t. not (not t)) here) in
    let inside : nat_lt (length value) (length l) ≡ true = longer (omega (arith, length-append value (quote ∷ more))) in
    ap (λ n. cond (nat_lt n (length l)) (Some (take n l, drop (n + 1) l)) None) len
    ∙ (ap (λ t. cond t (Some (take (length value) l, drop (length value + 1) l)) None) inside
    ∙ (ap (λ t. Some (t, drop (length value + 1) l)) (take-append_seam value (quote ∷ more)) ∙ ap (λ t. Some (value, t)) (drop-append-add value (quote ∷ more) 1))) where
      longer : {n m : ℕ} → n < m → nat_lt n m ≡ true
      longer {n} {m} h = grind (arith, nat_tests)

pub quoted-of : (quote : ℕ) (value more : List ℕ) → is_quote quote ≡ true → list_any (λ b. b == quote) value ≡ false → quoted (quote ∷ (value ++ quote ∷ more)) ≡ Some (value, more)
unfolding quoted
quoted-of quote value more q unquoted = ap (λ t. cond t (until_quote quote (value ++ quote ∷ more)) None) q ∙ until_quote-of quote value more unquoted

pub quote-no-space : (b : ℕ) → is_quote b ≡ true → not (is_space b) ≡ true
quote-no-space b h =
    ⊎_elim (λ (e : b ≡ 34). subst (λ n. not (is_space n) ≡ true) (sym e) refl) (λ (n34 : b ≢ 34).
    ⊎_elim (λ (e : b ≡ 39). subst (λ n. not (is_space n) ≡ true) (sym e) refl) (λ (n39 : b ≢ 39). absurd (no_quote b h n34 n39))
    (cases_eq b 39)) (cases_eq b 34) where
      no_quote : (b : ℕ) → is_quote b ≡ true → b ≢ 34 → b ≢ 39 → ⊥
      no_quote b h a c = grind (arith, nat_tests)

pub equated-of : (before behind value more : List ℕ) (quote : ℕ) → IsSpace before → IsSpace behind → is_quote quote ≡ true → list_any (λ b. b == quote) value ≡ false →
    equated (before ++ 61 ∷ (behind ++ quote ∷ (value ++ quote ∷ more))) ≡ Some (value, more)
unfolding equated
equated-of before behind value more quote b h q unquoted =
    let inner = quote ∷ (value ++ quote ∷ more) in
    ap (λ l. option_and_then (λ rest. quoted (after_space rest)) (after_byte 61 l)) (after_space-of before (61 ∷ (behind ++ inner)) b refl)
    ∙ (ap quoted (after_space-of behind inner h (quote-no-space quote q)) ∙ quoted-of quote value more q unquoted)

attribute-by : (bytes : List ℕ) (name : List ℕ × List ℕ) (value : List ℕ × List ℕ) → named bytes ≡ Some name → equated name.1 ≡ Some value → list_any (λ b. b == 60) value.0 ≡ false → attribute bytes ≡ Some (name.0, value.0, value.1)
unfolding attribute
attribute-by bytes name value a b c =
    ap (option_and_then (λ n. option_map (λ v. (n.0, v.0, v.1)) (option_and_then without_less (equated n.1)))) a
    ∙ (ap (λ o. option_map (λ v. (name.0, v.0, v.1)) (option_and_then without_less o)) b ∙ ap (λ t. option_map (λ v. (name.0, v.0, v.1)) (cond t None (Some value))) c)

attribute-of : (a : Written) (more : List ℕ) → IsWritten a → attribute (behind_space a more) ≡ Some (a.name, a.value, more)
attribute-of a more is =
    let r2 = a.behind ++ a.quote ∷ (a.value ++ a.quote ∷ more) in
    let r1 = a.before ++ 61 ∷ r2 in
    let n = named-of a.name r1 is.name (stops-space is_name_byte a.before (61 ∷ r2) is.before space-no-name refl) in
    attribute-by (behind_space a more) (a.name, r1) (a.value, more) n (equated-of a.before a.behind a.value more a.quote is.before is.behind is.quote is.unquoted) is.markless

tag_end-long : (c : ℕ) (l : List ℕ) → 0 < length l → tag_end (c ∷ l) ≡ None
tag_end-long c [] h = absurd (omega arith)
tag_end-long c (x ∷ xs) h = refl

tag_end-slash : (empty : Bool) → tag_end (slash empty) ≡ Some empty
tag_end-slash true = refl
tag_end-slash false = refl

stops-slash : (empty : Bool) → stops is_space (slash empty) ≡ true
stops-slash true = refl
stops-slash false = refl

names-slash : (empty : Bool) → stops is_name_byte (slash empty) ≡ true
names-slash true = refl
names-slash false = refl

pub attributes-of : (attrs : List (List ℕ × List ℕ)) (empty : Bool) (bytes : List ℕ) → AreWritten attrs empty bytes → (n : ℕ) → length bytes < n → attributes n bytes ≡ Some (attrs, empty)
attributes-of attrs empty bytes h zero l = absurd (omega arith)
attributes-of [] empty bytes h (suc n) l =
    attributes-end n bytes empty (ap (λ b. tag_end (after_space b)) h.2 ∙ (ap tag_end (after_space-of h.0 (slash empty) h.1 (stops-slash empty)) ∙ tag_end-slash empty))
attributes-of (attr ∷ attrs) empty bytes h (suc n) l =
    let a = h.0 in
    let more = h.1 in
    let is = h.2 in
    let inner = behind_space a more in
    let comes : after_space bytes ≡ inner = ap after_space h.4 ∙ after_space-of (a.first ∷ a.space) inner is.space (stops-name a.name (a.before ++ 61 ∷ (a.behind ++ a.quote ∷ (a.value ++ a.quote ∷ more))) is.name) in
    let size : length bytes ≡ suc (length a.space) + length inner = ap length h.4 ∙ length-append (a.first ∷ a.space) inner in
    let ne = λ (e : length (after_space bytes) ≡ length bytes). let c : length inner ≡ length bytes = sym (ap length comes) ∙ e in let bad : ⊥ = omega arith in bad in
    let found = attribute-of a more is in
    let shorter = attribute-shorter inner (a.name, a.value, more) found in
    let later = attributes-of attrs empty more h.5 n (omega arith) in
    attributes-other n bytes (ap tag_end comes ∙ no_end a more is) ne
    ∙ (ap (option_and_then (λ f. option_map (with_first (pair_of f)) (attributes n f.2))) (ap attribute comes ∙ found)
    ∙ (ap (option_map (with_first (written_pair a))) later ∙ ap (λ x. Some (x ∷ attrs, empty)) (sym h.3))) where
      no_end : (a : Written) (more : List ℕ) → IsWritten a → tag_end (behind_space a more) ≡ None
      no_end a more is =
          let n = name-begins a.name is.name in
          let z = a.before ++ 61 ∷ (a.behind ++ a.quote ∷ (a.value ++ a.quote ∷ more)) in
          ap (λ l. tag_end (l ++ z)) n.2
          ∙ tag_end-long n.0 (n.1 ++ z) (omega (arith, length-append n.1 z, length-append a.before (61 ∷ (a.behind ++ a.quote ∷ (a.value ++ a.quote ∷ more)))))

pub names-stop : (attrs : List (List ℕ × List ℕ)) (empty : Bool) (bytes : List ℕ) → AreWritten attrs empty bytes → stops is_name_byte bytes ≡ true
names-stop [] empty bytes h = ap (stops is_name_byte) h.2 ∙ stops-space is_name_byte h.0 (slash empty) h.1 space-no-name (names-slash empty)
names-stop (attr ∷ attrs) empty bytes h =
    let a = h.0 in
    ap (stops is_name_byte) h.4 ∙ ap not (space-no-name a.first (two (is_space a.first) (list_all is_space a.space) h.2.space).0)

pub no_slash : (name rest : List ℕ) → IsNameBytes name → after_byte 47 (name ++ rest) ≡ None
no_slash name rest is =
    let n = name-begins name is in
    let other : n.0 ≢ 47 = λ e. let clash = sym n.3 ∙ ap is_name_byte e in absurd cc in
    ap (λ l. after_byte 47 (l ++ rest)) n.2 ∙ ap (λ t. cond t (Some (n.1 ++ rest)) None) (ne_eqb n.0 47 other)
